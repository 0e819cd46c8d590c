-- The list that two instructions come to has the transfers that surely stay and those that surely come.
use Rattle.std.proofs.Common.{◌≡◌, ℕ, suc, ◌+◌, ◌<◌, ◌≤◌, Bool, true, false, List, [], ◌∷◌, ◌++◌, length}
use Rattle.std.proofs.Common.{length-append, refl, sym, ◌∙◌, ap, subst, arith}
use Rattle.std.specs.Prelude.{not, ◌||◌, ◌&&◌, nat_lt, is_some, if◌then◌else◌, Option, Some, None, filter, ⊤}
use Rattle.std.specs.List.{list_any}
use Rattle.std.proofs.lemmas.Bool.{false≢true, true≢false}
use Rattle.std.proofs.lemmas.Bool.Decides.{nat_tests}
use Rattle.std.proofs.lemmas.List.Elements.{filter-append}
use Rattle.po_term.specs.declared.term.Reg.{Reg as Register}
use Rattle.po_term.specs.declared.term.Sym.{Sym}
use Rattle.po_term.specs.declared.transfer.Transfer.{Transfer}
use Rattle.po_term.specs.Tree.{Const, Leaf, Read, Unary, Binary, EachLeaf}
use Rattle.po_term.specs.Terms.{Place, InReg, AtSym, PlainTerm}
use Rattle.po_term.specs.Moves.{GoTo, IfCc, IfTwo, CallOf, Return, SetTo, CcTo, StoreTo, Ends, PlainMove, move_of}
use Rattle.po_term.specs.Moves.{moves_of}
use Rattle.po_term.specs.Kinds.{words, Met, give}
use Rattle.po_term.specs.Simplified.{same_register, simple, simple_move, simple_moves}
use Rattle.po_simplify.proofs.Leaves.{simple_leaves}
use Rattle.po_model.specs.declared.var.Var.TheVariants.{Reg}
use Rattle.po_model.specs.LiveAfter.{term_reads}
use Rattle.po_model.specs.Parts.{code_leaves, cc_of}
use Rattle.po_model.specs.Forward.{and_some, forward}
use Rattle.po_model.specs.Joined.{Joint, NotJoined, NothingLeft, AsOne, is_set, is_cc, is_store, is_control, is_wanted}
use Rattle.po_model.specs.Joined.{is_kept, in_order, assembled, forward_move, forward_moves, joined}
use Rattle.po_subst.specs.JoinedMoves.{at_most}
use Rattle.po_subst.specs.KeepsEffect.{OfList}
use Rattle.po_subst.specs.Least.{may_read, stays, comes}
use Rattle.po_subst.specs.Order.{is_moving}
use Rattle.po_subst.proofs.Alike.{Where, some_where, or_false}
use Rattle.po_subst.proofs.Carried.{EachCarries, simplified_carries, forward_leaves}
use Rattle.po_subst.proofs.InOrder.{listing_moving}
use Rattle.po_subst.proofs.Joint.{simplified, wanted, Joining, joined_where}

-- How many pass a test

count_append : (p : PlainMove → Bool) (xs ys : List PlainMove)
    → length (filter p (xs ++ ys)) ≡ length (filter p xs) + length (filter p ys)
count_append p xs ys = ap length (filter-append p xs ys) ∙ length-append (filter p xs) (filter p ys)

each_kind : (ms : List PlainMove)
    → ((length (filter is_set ms) + length (filter is_cc ms)) + length (filter is_store ms))
    + length (filter is_control ms) ≡ length ms
each_kind [] = refl
each_kind (SetTo r t ∷ ms) = omega (arith, each_kind ms)
each_kind (CcTo t u ∷ ms) = omega (arith, each_kind ms)
each_kind (StoreTo t u ∷ ms) = omega (arith, each_kind ms)
each_kind (Ends e ∷ ms) = omega (arith, each_kind ms)

length_order : (ms : List PlainMove) → length (in_order ms) ≡ length ms
length_order ms =
    let s = filter is_set ms in
    let c = filter is_cc ms in
    let t = filter is_store ms in
    let e = filter is_control ms in
    length-append ((s ++ c) ++ t) e
    ∙ ap (λ n. n + length e) (length-append (s ++ c) t)
    ∙ ap (λ n. (n + length t) + length e) (length-append s c)
    ∙ each_kind ms

length_moving : (ms : List PlainMove) → length (filter is_moving (in_order ms)) ≡ length (filter is_moving ms)
length_moving ms = ap length (sym (listing_moving ms)) ∙ length_order (filter is_moving ms)

-- A register that doesn't stand in a term

abbrev Other : Register → Place → Type 0
Other r p = same_register p (InReg r) ≡ false

abbrev Free : {A : Type 0} → A → Type 0
Free x = ⊤

other_leaves : (r : Register) (t : PlainTerm) → term_reads t (Reg r) ≡ false → EachLeaf (Other r) t
other_leaves r (Const c) e = tt
other_leaves r (Leaf (InReg q)) e = e
other_leaves r (Leaf (AtSym s)) e = refl
other_leaves r (Read x) e = other_leaves r x e
other_leaves r (Unary o x) e = other_leaves r x e
other_leaves r (Binary o x y) e =
    let k = or_false (term_reads x (Reg r)) (term_reads y (Reg r)) e in (other_leaves r x k.0, other_leaves r y k.1)

-- a set to such a term isn't one of a register to itself
moves_on : (r : Register) (t : PlainTerm) → EachLeaf (Other r) t → is_moving (SetTo r t) ≡ true
moves_on r (Const c) h = refl
moves_on r (Leaf p) h = rw h refl
moves_on r (Read x) h = refl
moves_on r (Unary o x) h = refl
moves_on r (Binary o x y) h = refl

other_carries : (r : Register) (ms : List PlainMove) → list_any (may_read r) ms ≡ false
    → EachCarries (Other r) ⊤ Free Free ms
other_carries r [] e = tt
other_carries r (SetTo q t ∷ ms) e =
    let k = or_false (term_reads t (Reg r)) (list_any (may_read r) ms) e in
    ((tt, other_leaves r t k.0), other_carries r ms k.1)
other_carries r (CcTo t u ∷ ms) e =
    let k = or_false (term_reads t (Reg r) || term_reads u (Reg r)) (list_any (may_read r) ms) e in
    let l = or_false (term_reads t (Reg r)) (term_reads u (Reg r)) k.0 in
    ((other_leaves r t l.0, other_leaves r u l.1), other_carries r ms k.1)
other_carries r (StoreTo t u ∷ ms) e =
    let k = or_false (term_reads t (Reg r) || term_reads u (Reg r)) (list_any (may_read r) ms) e in
    let l = or_false (term_reads t (Reg r)) (term_reads u (Reg r)) k.0 in
    ((other_leaves r t l.0, other_leaves r u l.1), other_carries r ms k.1)
other_carries r (Ends x ∷ ms) e = absurd (true≢false e)

-- What stays of A

module _ (live : Register → Bool) (cc_live : Bool) (b : List PlainMove) where
  abbrev kept : PlainMove → Bool
  kept m = is_kept code_leaves live cc_live (filter (is_wanted live cc_live) b) m

  -- the transfer, or none
  abbrev one_if : Bool → PlainMove → List PlainMove
  one_if c m = if c then m ∷ [] else []

  stays_one : (m : PlainMove) → length (filter (stays live cc_live b) (m ∷ []))
      ≤ length (filter is_moving (filter kept (simple_move words same_register m).got))
  stays_one (SetTo r t) = go (kept (SetTo r t)) (term_reads t (Reg r)) refl
    where
      go : (k f : Bool) → term_reads t (Reg r) ≡ f
          → length (one_if (k && not f) (SetTo r t))
          ≤ length (filter is_moving (one_if k (SetTo r (simple words same_register t).got)))
      go true false e =
          rw (moves_on r (simple words same_register t).got
          (simple_leaves words same_register (Other r) t (other_leaves r t e)))
          (omega arith)
      go true true e = omega arith
      go false f e = omega arith
  stays_one (CcTo t u) = go (kept (CcTo t u))
    where
      go : (k : Bool) → length (one_if (k && true) (CcTo t u))
          ≤ length (filter is_moving
          (one_if k (CcTo (simple words same_register t).got (simple words same_register u).got)))
      go true = omega arith
      go false = omega arith
  stays_one (StoreTo t u) = go (kept (StoreTo t u))
    where
      go : (k : Bool) → length (one_if (k && true) (StoreTo t u))
          ≤ length (filter is_moving
          (one_if k (StoreTo (simple words same_register t).got (simple words same_register u).got)))
      go true = omega arith
      go false = omega arith
  stays_one (Ends x) = omega arith

  pub staying_least : (a : List PlainMove) → length (filter (stays live cc_live b) a)
      ≤ length (filter is_moving (filter kept (simple_moves words same_register a).got))
  staying_least [] = omega arith
  staying_least (m ∷ ms) =
      let xs = (simple_move words same_register m).got in
      let ys = (simple_moves words same_register ms).got in
      let left = count_append (stays live cc_live b) (m ∷ []) ms in
      let right : length (filter is_moving (filter kept (xs ++ ys)))
      ≡ length (filter is_moving (filter kept xs)) + length (filter is_moving (filter kept ys))
      = ap (λ zs. length (filter is_moving zs)) (filter-append kept xs ys)
      ∙ count_append is_moving (filter kept xs) (filter kept ys) in
      omega (arith, left, right, stays_one m, staying_least ms)

-- What comes of B

any_where : {A : Type 0} (o : Option A) → Where o Free
any_where None = tt
any_where (Some x) = tt

unset_simple : (ms : List PlainMove) → list_any is_control ms ≡ false → cc_of ms ≡ None
    → cc_of (simple_moves words same_register ms).got ≡ None
unset_simple [] n e = refl
unset_simple (SetTo r t ∷ ms) n e = unset_simple ms n e
unset_simple (CcTo t u ∷ ms) n e = absurd (cc)
unset_simple (StoreTo t u ∷ ms) n e = unset_simple ms n e
unset_simple (Ends x ∷ ms) n e = absurd (true≢false n)

none_there : {X : Type 0} (o : Option X) → not (is_some o) ≡ true → o ≡ None
none_there None e = refl
none_there (Some x) e = absurd (false≢true e)

module _ (live : Register → Bool) (cc_live : Bool) (a : List PlainMove)
    (no_control : list_any is_control a ≡ false) where
  abbrev simple_a : List PlainMove
  simple_a = (simple_moves words same_register a).got

  abbrev Some_move : List PlainMove → Type 0
  Some_move xs = 1 ≤ length (filter is_moving xs)

  set_comes : (r : Register) (t : PlainTerm)
      → (not (term_reads t (Reg r)) && not (list_any (may_read r) a)) ≡ true
      → Where (forward_move words code_leaves simple_a (SetTo r t)).got Some_move
  set_comes r t e = go (term_reads t (Reg r)) (list_any (may_read r) a) refl refl e
    where
      go : (x y : Bool) → term_reads t (Reg r) ≡ x → list_any (may_read r) a ≡ y → (not x && not y) ≡ true
          → Where (forward_move words code_leaves simple_a (SetTo r t)).got Some_move
      go false false i j k =
          let has = simplified_carries (Other r) ⊤ Free Free a no_control (other_carries r a j) in
          some_where (EachLeaf (Other r)) Some_move (forward words code_leaves simple_a t)
          (λ x. give (Some (SetTo r x ∷ [])))
          (forward_leaves (Other r) ⊤ Free Free (Other r) ⊤ simple_a has (λ p h o. h) (λ c o. tt) t
          (other_leaves r t i))
          (λ x h. rw (moves_on r x h) (omega arith))
      go false true i j k = absurd (false≢true k)
      go true y i j k = absurd (false≢true k)

  two_come : (t u : PlainTerm) (make : PlainTerm → PlainTerm → PlainMove)
      → ((x y : PlainTerm) → Some_move (make x y ∷ []))
      → Where
      (and_some (forward words code_leaves simple_a t)
      (λ x. and_some (forward words code_leaves simple_a u) (λ y. give (Some (make x y ∷ []))))).got Some_move
  two_come t u make h =
      some_where Free Some_move (forward words code_leaves simple_a t)
      (λ x. and_some (forward words code_leaves simple_a u) (λ y. give (Some (make x y ∷ []))))
      (any_where (forward words code_leaves simple_a t).got)
      (λ x i. some_where Free Some_move (forward words code_leaves simple_a u) (λ y. give (Some (make x y ∷ [])))
      (any_where (forward words code_leaves simple_a u).got) (λ y j. h x y))

  comes_where : (m : PlainMove) → comes live cc_live a m ≡ true
      → Where (forward_move words code_leaves simple_a m).got Some_move
  comes_where (SetTo r t) e = go (live r) e
    where
      go : (l : Bool) → (l && (not (term_reads t (Reg r)) && not (list_any (may_read r) a))) ≡ true
          → Where (forward_move words code_leaves simple_a (SetTo r t)).got Some_move
      go true i = set_comes r t i
      go false i = absurd (false≢true i)
  comes_where (CcTo t u) e = two_come t u CcTo (λ x y. omega arith)
  comes_where (StoreTo t u) e = two_come t u StoreTo (λ x y. omega arith)
  comes_where (Ends (GoTo l)) e = omega arith
  comes_where (Ends (IfCc r l)) e = rw (unset_simple a no_control (none_there (cc_of a) e)) (omega arith)
  comes_where (Ends (IfTwo t u r l)) e = absurd (false≢true e)
  comes_where (Ends (CallOf s n)) e = omega arith
  comes_where (Ends Return) e = omega arith

  -- as many as are counted, of one transfer
  abbrev Least : PlainMove → List PlainMove → Type 0
  Least m xs = length (filter (comes live cc_live a) (m ∷ [])) ≤ length (filter is_moving xs)

  one_where : (m : PlainMove) → Where (forward_move words code_leaves simple_a m).got (Least m)
  one_where m = go (comes live cc_live a m) (forward_move words code_leaves simple_a m).got (comes_where m)
    where
      go : (c : Bool) (o : Option (List PlainMove)) → (c ≡ true → Where o Some_move)
          → Where o (λ xs. length (if c then m ∷ [] else []) ≤ length (filter is_moving xs))
      go true o h = h refl
      go false None h = tt
      go false (Some xs) h = omega arith

  unwanted : (m : PlainMove) → is_wanted live cc_live m ≡ false → comes live cc_live a m ≡ false
  unwanted (SetTo r t) e = rw e refl
  unwanted (CcTo t u) e = e
  unwanted (StoreTo t u) e = absurd (true≢false e)
  unwanted (Ends x) e = absurd (true≢false e)

  abbrev LeastOf : List PlainMove → List PlainMove → Type 0
  LeastOf ms xs = length (filter (comes live cc_live a) ms) ≤ length (filter is_moving xs)

  pub coming_least : (ms : List PlainMove)
      → Where (forward_moves words code_leaves simple_a (filter (is_wanted live cc_live) ms)).got (LeastOf ms)
  coming_least [] = omega arith
  coming_least (m ∷ ms) = go (is_wanted live cc_live m) refl (coming_least ms)
    where
      rest : List PlainMove
      rest = filter (is_wanted live cc_live) ms

      both : (xs ys : List PlainMove) → Least m xs → LeastOf ms ys → LeastOf (m ∷ ms) (xs ++ ys)
      both xs ys h i =
          let left = count_append (comes live cc_live a) (m ∷ []) ms in
          let right = count_append is_moving xs ys in
          omega (arith, left, right, h, i)

      skip : comes live cc_live a m ≡ false → (o : Option (List PlainMove)) → Where o (LeastOf ms)
          → Where o (LeastOf (m ∷ ms))
      skip e None h = tt
      skip e (Some xs) h = rw e h

      go : (w : Bool) → is_wanted live cc_live m ≡ w
          → Where (forward_moves words code_leaves simple_a (filter (is_wanted live cc_live) ms)).got (LeastOf ms)
          → Where
          (forward_moves words code_leaves simple_a
          (if w then m ∷ filter (is_wanted live cc_live) ms else filter (is_wanted live cc_live) ms)).got
          (LeastOf (m ∷ ms))
      go true e ih =
          some_where (Least m) (LeastOf (m ∷ ms)) (forward_move words code_leaves simple_a m)
          (λ xs. and_some (forward_moves words code_leaves simple_a (filter (is_wanted live cc_live) ms))
          (λ ys. give (Some (xs ++ ys)))) (one_where m)
          (
          λ xs h. some_where (LeastOf ms) (LeastOf (m ∷ ms))
          (forward_moves words code_leaves simple_a (filter (is_wanted live cc_live) ms))
          (λ ys. give (Some (xs ++ ys))) ih (λ ys i. both xs ys h i))
      go false e ih =
          skip (unwanted m e) (forward_moves words code_leaves simple_a (filter (is_wanted live cc_live) ms)).got ih

-- The list

cut_longer : (most : ℕ) (j : Joint ℕ Place Register Sym) → OfList j (λ ms. most < length ms)
    → at_most most j ≡ NotJoined
cut_longer most NotJoined h = refl
cut_longer most NothingLeft h = absurd (omega arith)
cut_longer most (AsOne ms) h = let e : nat_lt most (length ms) ≡ true = grind (arith, nat_tests) in rw e refl

found_where : {X : Type 0} (P : X → Type 0) (o : Option X) (x : X) → o ≡ Some x → Where o P → P x
found_where {X = X} P o x e h = let h' : Where (Some x) P = subst (λ (p : Option X). Where p P) e h in h'

-- where more surely are there, the list is too long
pub too_long : (most : ℕ) (live : Register → Bool) (cc_live : Bool) (a b : List PlainMove)
    → most < length (filter (stays live cc_live b) a) + length (filter (comes live cc_live a) b)
    → at_most most (joined words code_leaves live cc_live a b).got ≡ NotJoined
too_long most live cc_live a b more =
    cut_longer most (joined words code_leaves live cc_live a b).got
    (joined_where live cc_live a b (λ ms. most < length ms) long)
  where
    long : (f : List PlainMove) → Joining live cc_live a b f
        → most < length (assembled code_leaves live cc_live (simplified live cc_live a b) (wanted live cc_live a b) f)
    long f j =
        let s = filter (kept live cc_live b) (simplified live cc_live a b) in
        let come = found_where (LeastOf live cc_live a j.no_control b)
        (forward_moves words code_leaves (simplified live cc_live a b) (wanted live cc_live a b)).got f j.made
        (coming_least live cc_live a j.no_control b) in
        omega (arith, more, length_moving (s ++ f), count_append is_moving s f, staying_least live cc_live b a, come)

-- as many transfers pass a test as moves of them
pub passing : (p : PlainMove → Bool) (ts : List Transfer)
    → length (filter p (moves_of ts)) ≡ length (filter (λ t. p (move_of t)) ts)
passing p [] = refl
passing p (t ∷ ts) = go (p (move_of t)) (passing p ts)
  where
    go : (c : Bool) → length (filter p (moves_of ts)) ≡ length (filter (λ t. p (move_of t)) ts)
        → length (if c then move_of t ∷ filter p (moves_of ts) else filter p (moves_of ts))
        ≡ length (if c then t ∷ filter (λ t. p (move_of t)) ts else filter (λ t. p (move_of t)) ts)
    go true e = ap suc e
    go false e = e

pub below : (m n : ℕ) → nat_lt m n ≡ true → m < n
below m n e = grind (arith, nat_tests)
