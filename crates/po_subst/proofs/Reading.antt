-- The list that two instructions come to makes nothing live.
use Rattle.std.proofs.Common.{◌≡◌, ℕ, Bool, true, false, List, [], ◌∷◌, ◌++◌, refl, sym, ◌∙◌, ap, subst, arith}
use Rattle.std.specs.Prelude.{not, ◌||◌, ◌&&◌, is_some, if◌then◌else◌, Option, Some, None, filter, ⊤}
use Rattle.std.specs.List.{list_any}
use Rattle.std.specs.Option.{option_or}
use Rattle.std.proofs.lemmas.Bool.{false≢true, true≢false}
use Rattle.std.proofs.lemmas.List.Folds.{list_any-append}
use Rattle.po_term.specs.declared.term.Reg.{Reg as Register}
use Rattle.po_term.specs.declared.term.Reg.TheVariants.{Virt, Fp, Rv, Arg}
use Rattle.po_term.specs.declared.term.Sym.{Sym}
use Rattle.po_term.specs.Tree.{Const, Leaf, Read, Unary, Binary, EachLeaf}
use Rattle.po_term.specs.Terms.{Place, InReg, AtSym, PlainTerm}
use Rattle.po_term.specs.Moves.{GoTo, IfCc, IfTwo, CallOf, Return, SetTo, CcTo, StoreTo, Ends, PlainMove}
use Rattle.po_term.specs.Kinds.{words}
use Rattle.po_term.specs.Simplified.{reg_eq}
use Rattle.po_term.specs.Form.{WellFormed}
use Rattle.po_model.specs.declared.var.Var.{Var}
use Rattle.po_model.specs.declared.var.Var.TheVariants.{Reg, Cc}
use Rattle.po_model.specs.Parts.{code_leaves, right_at, cc_of}
use Rattle.po_model.specs.Effect.{after}
use Rattle.po_model.specs.LiveAfter.{is_reg, is_cc as is_cc_var, term_reads, move_reads, move_sets, reads, sets}
use Rattle.po_model.specs.Joined.{is_set, is_cc, is_store, is_control, is_away, is_idle, is_wanted, is_kept, in_order}
use Rattle.po_model.specs.Joined.{assembled, forward_moves, joined}
use Rattle.po_subst.specs.Order.{is_moving}
use Rattle.po_subst.specs.KeepsEffect.{OfList, lives, live_before}
use Rattle.po_subst.proofs.Agreeing.{one_register}
use Rattle.po_subst.proofs.InOrder.{listing_moving}
use Rattle.po_subst.proofs.Lookups.{right_append, cc_append}
use Rattle.po_subst.proofs.Alike.{where_at, or_false, Alike, like_some, two_some, none_of}
use Rattle.po_subst.proofs.Joint.{simplified, wanted, Joining, joined_where, right_wanted_at, cc_wanted_of}
use Rattle.po_subst.proofs.Joint.{right_kept_at, cc_kept_of, idle_right}
use Rattle.po_subst.proofs.Keeping.{zeros, zeros_fit, like_first, like_second}
use Rattle.po_subst.proofs.Carried.{Carries, EachCarries, simplified_carries, forwarded_carries, carries_filter}

-- one or the other is true
pub by_either : {G : Type 0} (x y : Bool) → (x || y) ≡ true → (x ≡ true → G) → (y ≡ true → G) → G
by_either true y e f g = f refl
by_either false y e f g = g e

pub left_true : (x y : Bool) → x ≡ true → (x || y) ≡ true
left_true x y e = rw e refl

pub right_true : (x y : Bool) → y ≡ true → (x || y) ≡ true
right_true true y e = refl
right_true false y e = e

pub reg_swap : (q r : Register) → reg_eq q r ≡ reg_eq r q
reg_swap (Virt m) (Virt n) = grind arith
reg_swap Fp Fp = refl
reg_swap Rv Rv = refl
reg_swap (Arg m) (Arg n) = grind arith
reg_swap q r = refl

-- a test of the moves of a list in order
second_moved : (x s c t e : Bool) → (((s || (x || c)) || t) || e) ≡ (x || (((s || c) || t) || e))
second_moved true true c t e = refl
second_moved true false c t e = refl
second_moved false s c t e = refl

third_moved : (x s c t e : Bool) → (((s || c) || (x || t)) || e) ≡ (x || (((s || c) || t) || e))
third_moved true true c t e = refl
third_moved true false true t e = refl
third_moved true false false t e = refl
third_moved false s c t e = refl

fourth_moved : (x s c t e : Bool) → (((s || c) || t) || (x || e)) ≡ (x || (((s || c) || t) || e))
fourth_moved true true c t e = refl
fourth_moved true false true t e = refl
fourth_moved true false false true e = refl
fourth_moved true false false false e = refl
fourth_moved false s c t e = refl

first_moved : (x s c t e : Bool) → ((((x || s) || c) || t) || e) ≡ (x || (((s || c) || t) || e))
first_moved true s c t e = refl
first_moved false s c t e = refl

module _ (p : PlainMove → Bool) where
  abbrev by_kind : List PlainMove → Bool
  by_kind ms =
      ((list_any p (filter is_set ms) || list_any p (filter is_cc ms)) || list_any p (filter is_store ms))
      || list_any p (filter is_control ms)

  by_kind_all : (ms : List PlainMove) → by_kind ms ≡ list_any p ms
  by_kind_all [] = refl
  by_kind_all (SetTo r t ∷ ms) =
      first_moved (p (SetTo r t)) (list_any p (filter is_set ms)) (list_any p (filter is_cc ms))
      (list_any p (filter is_store ms)) (list_any p (filter is_control ms))
      ∙ ap (λ x. p (SetTo r t) || x) (by_kind_all ms)
  by_kind_all (CcTo t u ∷ ms) =
      second_moved (p (CcTo t u)) (list_any p (filter is_set ms)) (list_any p (filter is_cc ms))
      (list_any p (filter is_store ms)) (list_any p (filter is_control ms))
      ∙ ap (λ x. p (CcTo t u) || x) (by_kind_all ms)
  by_kind_all (StoreTo t u ∷ ms) =
      third_moved (p (StoreTo t u)) (list_any p (filter is_set ms)) (list_any p (filter is_cc ms))
      (list_any p (filter is_store ms)) (list_any p (filter is_control ms))
      ∙ ap (λ x. p (StoreTo t u) || x) (by_kind_all ms)
  by_kind_all (Ends e ∷ ms) =
      fourth_moved (p (Ends e)) (list_any p (filter is_set ms)) (list_any p (filter is_cc ms))
      (list_any p (filter is_store ms)) (list_any p (filter is_control ms))
      ∙ ap (λ x. p (Ends e) || x) (by_kind_all ms)

  pub any_order : (ms : List PlainMove) → list_any p (in_order ms) ≡ list_any p ms
  any_order ms =
      list_any-append p (filter is_set ms ++ filter is_cc ms ++ filter is_store ms) (filter is_control ms)
      ∙ ap (λ x. x || list_any p (filter is_control ms))
      (list_any-append p (filter is_set ms ++ filter is_cc ms) (filter is_store ms))
      ∙ ap (λ x. (x || list_any p (filter is_store ms)) || list_any p (filter is_control ms))
      (list_any-append p (filter is_set ms) (filter is_cc ms))
      ∙ by_kind_all ms

  -- what a part passes, the whole passes
  pub any_filter : (q : PlainMove → Bool) (ms : List PlainMove) → list_any p (filter q ms) ≡ true
      → list_any p ms ≡ true
  any_filter q [] e = e
  any_filter q (m ∷ ms) e = go (q m) e (any_filter q ms)
    where
      go : (c : Bool) → list_any p (if c then m ∷ filter q ms else filter q ms) ≡ true
          → (list_any p (filter q ms) ≡ true → list_any p ms ≡ true) → (p m || list_any p ms) ≡ true
      go true i ih =
          by_either (p m) (list_any p (filter q ms)) i (left_true (p m) (list_any p ms))
          (λ k. right_true (p m) (list_any p ms) (ih k))
      go false i ih = right_true (p m) (list_any p ms) (ih i)

-- what a list doesn't set, none of its moves sets
pub unset_right : (r : Register) (ms : List PlainMove) → sets ms (Reg r) ≡ false
    → right_at code_leaves (InReg r) ms ≡ None
unset_right r [] e = refl
unset_right r (SetTo q t ∷ ms) e = go (reg_eq r q) (reg_swap q r) (unset_right r ms)
  where
    go : (c : Bool) → reg_eq q r ≡ c → (sets ms (Reg r) ≡ false → right_at code_leaves (InReg r) ms ≡ None)
        → (if c then Some t else right_at code_leaves (InReg r) ms) ≡ None
    go true i ih = absurd (true≢false (sym i ∙ (or_false (reg_eq q r) (sets ms (Reg r)) e).0))
    go false i ih = ih (or_false (reg_eq q r) (sets ms (Reg r)) e).1
unset_right r (CcTo t u ∷ ms) e = unset_right r ms e
unset_right r (StoreTo t u ∷ ms) e = unset_right r ms e
unset_right r (Ends x ∷ ms) e = unset_right r ms (or_false (move_sets (Ends x) (Reg r)) (sets ms (Reg r)) e).1

pub unset_cc : (ms : List PlainMove) → sets ms Cc ≡ false → cc_of ms ≡ None
unset_cc [] e = refl
unset_cc (SetTo q t ∷ ms) e = unset_cc ms e
unset_cc (CcTo t u ∷ ms) e = absurd (true≢false e)
unset_cc (StoreTo t u ∷ ms) e = unset_cc ms e
unset_cc (Ends x ∷ ms) e = unset_cc ms (or_false (move_sets (Ends x) Cc) (sets ms Cc) e).1

-- and what no move of it sets, it doesn't set, where it neither calls nor returns
ending_unset : (x : _) (v : Var) → is_away {K = ℕ} {L = Place} {R = Register} {S = Sym} (Ends x) ≡ false
    → move_sets (Ends x) v ≡ false
ending_unset (GoTo l) v n = refl
ending_unset (IfCc r l) v n = refl
ending_unset (IfTwo t u r l) v n = refl
ending_unset (CallOf f k) v n = absurd (true≢false n)
ending_unset Return v n = refl

neither : (x y : Bool) → x ≡ false → y ≡ false → (x || y) ≡ false
neither x y e i = rw (e, i) refl

pub right_unset : (r : Register) (ms : List PlainMove) → list_any is_away ms ≡ false
    → right_at code_leaves (InReg r) ms ≡ None → sets ms (Reg r) ≡ false
right_unset r [] n e = refl
right_unset r (SetTo q t ∷ ms) n e = go (reg_eq r q) (reg_swap q r) e (right_unset r ms n)
  where
    go : (c : Bool) → reg_eq q r ≡ c → (if c then Some t else right_at code_leaves (InReg r) ms) ≡ None
        → (right_at code_leaves (InReg r) ms ≡ None → sets ms (Reg r) ≡ false)
        → (reg_eq q r || sets ms (Reg r)) ≡ false
    go true i k ih = absurd (cc)
    go false i k ih = neither (reg_eq q r) (sets ms (Reg r)) i (ih k)
right_unset r (CcTo t u ∷ ms) n e = right_unset r ms n e
right_unset r (StoreTo t u ∷ ms) n e = right_unset r ms n e
right_unset r (Ends x ∷ ms) n e =
    let k = or_false (is_away {K = ℕ} {L = Place} {R = Register} {S = Sym} (Ends x)) (list_any is_away ms) n in
    neither (move_sets (Ends x) (Reg r)) (sets ms (Reg r)) (ending_unset x (Reg r) k.0) (right_unset r ms k.1 e)

pub cc_unset : (ms : List PlainMove) → list_any is_away ms ≡ false → cc_of ms ≡ None → sets ms Cc ≡ false
cc_unset [] n e = refl
cc_unset (SetTo q t ∷ ms) n e = cc_unset ms n e
cc_unset (CcTo t u ∷ ms) n e = absurd (cc)
cc_unset (StoreTo t u ∷ ms) n e = cc_unset ms n e
cc_unset (Ends x ∷ ms) n e =
    let k = or_false (is_away {K = ℕ} {L = Place} {R = Register} {S = Sym} (Ends x)) (list_any is_away ms) n in
    neither (move_sets (Ends x) Cc) (sets ms Cc) (ending_unset x Cc k.0) (cc_unset ms k.1 e)

-- an instruction without a transfer of control neither calls nor returns
pub stays_here : (ms : List PlainMove) → list_any is_control ms ≡ false → list_any is_away ms ≡ false
stays_here [] n = refl
stays_here (SetTo q t ∷ ms) n = stays_here ms n
stays_here (CcTo t u ∷ ms) n = stays_here ms n
stays_here (StoreTo t u ∷ ms) n = stays_here ms n
stays_here (Ends x ∷ ms) n = absurd (true≢false n)

-- one more move that isn't left out
moving_reads : (x s f y r : Bool) → (x || s) ≡ true → (x || f) ≡ false → (s ≡ true → f ≡ false → r ≡ true)
    → (y || r) ≡ true
moving_reads x s f y r e n ih =
    let k = or_false x f n in
    by_either x s e (λ i. absurd (true≢false (sym i ∙ k.0))) (λ i. right_true y r (ih i k.1))

-- what is set by a list, and not by it without the sets of a register to itself, is read by it
idle_reads : (v : Var) (ms : List PlainMove) → sets ms v ≡ true → sets (filter is_moving ms) v ≡ false
    → reads ms v ≡ true
idle_reads v [] e n = e
idle_reads v (SetTo r t ∷ ms) e n = go (is_idle {S = Sym} code_leaves (SetTo r t)) refl n (λ i k. idle_reads v ms i k)
  where
    go : (idle : Bool) → is_idle {S = Sym} code_leaves (SetTo r t) ≡ idle
        → sets (if not idle then SetTo r t ∷ filter is_moving ms else filter is_moving ms) v ≡ false
        → (sets ms v ≡ true → sets (filter is_moving ms) v ≡ false → reads ms v ≡ true)
        → (term_reads t v || reads ms v) ≡ true
    go true i k ih =
        rw (idle_right r t i) (by_either (is_reg r v) (sets ms v) e (left_true (is_reg r v) (reads ms v))
        (λ d. right_true (is_reg r v) (reads ms v) (ih d k)))
    go false i k ih =
        moving_reads (is_reg r v) (sets ms v) (sets (filter is_moving ms) v) (term_reads t v) (reads ms v) e k ih
idle_reads v (CcTo t u ∷ ms) e n =
    moving_reads (move_sets (CcTo t u) v) (sets ms v) (sets (filter is_moving ms) v) (move_reads (CcTo t u) v)
    (reads ms v) e n (λ i k. idle_reads v ms i k)
idle_reads v (StoreTo t u ∷ ms) e n =
    moving_reads (move_sets (StoreTo t u) v) (sets ms v) (sets (filter is_moving ms) v) (move_reads (StoreTo t u) v)
    (reads ms v) e n (λ i k. idle_reads v ms i k)
idle_reads v (Ends x ∷ ms) e n =
    moving_reads (move_sets (Ends x) v) (sets ms v) (sets (filter is_moving ms) v) (move_reads (Ends x) v) (reads ms v)
    e n (λ i k. idle_reads v ms i k)

abbrev place_reads : Place → Var → Bool
place_reads (InReg r) v = is_reg r v
place_reads (AtSym s) v = false

-- where v is read, G
abbrev Reader : Var → Type 0 → Place → Type 0
Reader v G p = place_reads p v ≡ true → G

abbrev Free : {A : Type 0} → A → Type 0
Free x = ⊤

abbrev Readers : Var → Type 0 → List PlainMove → Type 0
Readers v G ms = EachCarries (Reader v G) (is_cc_var v ≡ true → G) Free Free ms

module _ (v : Var) (G : Type 0) where
  leaves_of : (t : PlainTerm) → (term_reads t v ≡ true → G) → EachLeaf (Reader v G) t
  leaves_of (Const c) h = tt
  leaves_of (Leaf (InReg r)) h = h
  leaves_of (Leaf (AtSym s)) h = λ e. absurd (false≢true e)
  leaves_of (Read x) h = leaves_of x h
  leaves_of (Unary o x) h = leaves_of x h
  leaves_of (Binary o x y) h = (
    leaves_of x (λ e. h (left_true (term_reads x v) (term_reads y v) e)),
    leaves_of y (λ e. h (right_true (term_reads x v) (term_reads y v) e)),
  )

  read_leaf : (t : PlainTerm) → EachLeaf (Reader v G) t → term_reads t v ≡ true → G
  read_leaf (Const c) h e = absurd (false≢true e)
  read_leaf (Leaf (InReg r)) h e = h e
  read_leaf (Leaf (AtSym s)) h e = absurd (false≢true e)
  read_leaf (Read x) h e = read_leaf x h e
  read_leaf (Unary o x) h e = read_leaf x h e
  read_leaf (Binary o x y) h e = by_either (term_reads x v) (term_reads y v) e (read_leaf x h.0) (read_leaf y h.1)

  pair_of : (t u : PlainTerm) → ((term_reads t v || term_reads u v) ≡ true → G)
      → EachLeaf (Reader v G) t × EachLeaf (Reader v G) u
  pair_of t u h = (
    leaves_of t (λ e. h (left_true (term_reads t v) (term_reads u v) e)),
    leaves_of u (λ e. h (right_true (term_reads t v) (term_reads u v) e)),
  )

  move_readers : (m : PlainMove) → is_away m ≡ false → (move_reads m v ≡ true → G)
      → Carries (Reader v G) (is_cc_var v ≡ true → G) Free Free m
  move_readers (SetTo r t) n h = (tt, leaves_of t h)
  move_readers (CcTo t u) n h = pair_of t u h
  move_readers (StoreTo t u) n h = pair_of t u h
  move_readers (Ends (GoTo l)) n h = tt
  move_readers (Ends (IfCc r l)) n h = (h, tt)
  move_readers (Ends (IfTwo t u r l)) n h = ((pair_of t u h).0, (pair_of t u h).1, tt)
  move_readers (Ends (CallOf f k)) n h = absurd (true≢false n)
  move_readers (Ends Return) n h = absurd (true≢false n)

  readers_of : (ms : List PlainMove) → list_any is_away ms ≡ false → (reads ms v ≡ true → G) → Readers v G ms
  readers_of [] n h = tt
  readers_of (m ∷ ms) n h =
      let k = or_false (is_away m) (list_any is_away ms) n in (
        move_readers m k.0 (λ e. h (left_true (move_reads m v) (reads ms v) e)),
        readers_of ms k.1 (λ e. h (right_true (move_reads m v) (reads ms v) e)),
      )

  move_read : (m : PlainMove) → Carries (Reader v G) (is_cc_var v ≡ true → G) Free Free m → move_reads m v ≡ true → G
  move_read (SetTo r t) h e = read_leaf t h.1 e
  move_read (CcTo t u) h e = by_either (term_reads t v) (term_reads u v) e (read_leaf t h.0) (read_leaf u h.1)
  move_read (StoreTo t u) h e = by_either (term_reads t v) (term_reads u v) e (read_leaf t h.0) (read_leaf u h.1)
  move_read (Ends (GoTo l)) h e = absurd (false≢true e)
  move_read (Ends (IfCc r l)) h e = h.0 e
  move_read (Ends (IfTwo t u r l)) h e =
      by_either (term_reads t v) (term_reads u v) e (read_leaf t h.0) (read_leaf u h.1)
  move_read (Ends (CallOf f k)) h e = absurd h
  move_read (Ends Return) h e = absurd h

  all_read : (ms : List PlainMove) → Readers v G ms → reads ms v ≡ true → G
  all_read [] h e = absurd (false≢true e)
  all_read (m ∷ ms) h e = by_either (move_reads m v) (reads ms v) e (move_read m h.0) (all_read ms h.1)

both_none : {X : Type 0} (o p : Option X) → option_or o p ≡ None → (o ≡ None) × (p ≡ None)
both_none None p e = (refl, e)
both_none (Some x) p e = absurd (cc)

pub none_alike : {X Y : Type 0} (o : Option X) (p : Option Y) → is_some p ≡ is_some o → p ≡ None → o ≡ None
none_alike {X = X} {Y = Y} o p e f = none_of o (sym e ∙ ap (λ (x : Option Y). is_some x) f)

-- neither A nor B sets what is live and the two together don't set
unset_both : {X : Type 0} (l : Bool) (oa ow ob : Option X) → l ≡ true
    → (if l && not (is_some ow) then oa else None) ≡ None → ow ≡ (if l then ob else None) → ow ≡ None
    → (oa ≡ None) × (ob ≡ None)
unset_both true oa None ob e i k n = (i, sym k)
unset_both true oa (Some x) ob e i k n = absurd (cc)
unset_both false oa ow ob e i k n = absurd (false≢true e)

module _ (live : Register → Bool) (cc_live : Bool) (a b f : List PlainMove) (j : Joining live cc_live a b f)
    (form_a : WellFormed a) (form_b : WellFormed b) where
  abbrev simple_a : List PlainMove
  simple_a = simplified live cc_live a b

  abbrev wanted_b : List PlainMove
  wanted_b = wanted live cc_live a b

  abbrev kept : List PlainMove
  kept = filter (is_kept code_leaves live cc_live wanted_b) simple_a

  abbrev after_both : Var → Bool
  after_both v = lives live cc_live v

  like_a : Alike zeros zeros a simple_a
  like_a = like_first zeros zeros_fit live cc_live a b f j form_a

  like_b : Alike zeros (after zeros simple_a) wanted_b f
  like_b = like_second zeros zeros_fit live cc_live a b f j like_a form_b

  a_unset : (r : Register) → right_at code_leaves (InReg r) simple_a ≡ None → sets a (Reg r) ≡ false
  a_unset r e =
      right_unset r a (stays_here a j.no_control)
      (none_alike (right_at code_leaves (InReg r) a) (right_at code_leaves (InReg r) simple_a)
      (like_some zeros zeros (right_at code_leaves (InReg r) a) (right_at code_leaves (InReg r) simple_a)
      (like_a.rights (InReg r))) e)

  a_unset_cc : cc_of simple_a ≡ None → sets a Cc ≡ false
  a_unset_cc e =
      cc_unset a (stays_here a j.no_control)
      (none_alike (cc_of a) (cc_of simple_a) (two_some zeros zeros (cc_of a) (cc_of simple_a) like_a.compared) e)

  -- what the two together don't set, and is live, neither of them sets
  neither_sets : (v : Var) → after_both v ≡ true → sets (kept ++ f) v ≡ false → (sets a v ≡ false) × (sets b v ≡ false)
  neither_sets (Reg r) l e =
      let both = both_none (right_at code_leaves (InReg r) kept) (right_at code_leaves (InReg r) f)
      (sym (right_append (InReg r) kept f) ∙ unset_right r (kept ++ f) e) in
      let none_wanted = none_alike (right_at code_leaves (InReg r) wanted_b) (right_at code_leaves (InReg r) f)
      (like_some zeros (after zeros simple_a) (right_at code_leaves (InReg r) wanted_b)
      (right_at code_leaves (InReg r) f) (like_b.rights (InReg r))) both.1 in
      let unset =
      unset_both (live r) (right_at code_leaves (InReg r) simple_a) (right_at code_leaves (InReg r) wanted_b)
      (right_at code_leaves (InReg r) b) l
      (sym (right_kept_at live cc_live wanted_b (InReg r) simple_a) ∙ both.0)
      (right_wanted_at live cc_live (InReg r) b) none_wanted in
      (a_unset r unset.0, right_unset r b j.no_away unset.1)
  neither_sets Cc l e =
      let both = both_none (cc_of kept) (cc_of f) (sym (cc_append kept f) ∙ unset_cc (kept ++ f) e) in
      let none_wanted = none_alike (cc_of wanted_b) (cc_of f)
      (two_some zeros (after zeros simple_a) (cc_of wanted_b) (cc_of f) like_b.compared) both.1 in
      let unset = unset_both cc_live (cc_of simple_a) (cc_of wanted_b) (cc_of b) l
      (sym (cc_kept_of live cc_live wanted_b simple_a) ∙ both.0) (cc_wanted_of live cc_live b) none_wanted in
      (a_unset_cc unset.0, cc_unset b j.no_away unset.1)

  module _ (v : Var) where
    abbrev Goal : Type 0
    Goal = live_before a (live_before b (lives live cc_live)) v ≡ true

    from_a : reads a v ≡ true → Goal
    from_a e = left_true (reads a v) (not (sets a v) && live_before b (lives live cc_live) v) e

    past_a : sets a v ≡ false → live_before b (lives live cc_live) v ≡ true → Goal
    past_a n e = right_true (reads a v) (not (sets a v) && live_before b (lives live cc_live) v) (rw (n) e)

    from_b : reads b v ≡ true → sets a v ≡ false → Goal
    from_b e n = past_a n (left_true (reads b v) (not (sets b v) && after_both v) e)

    from_after : sets a v ≡ false → sets b v ≡ false → after_both v ≡ true → Goal
    from_after n m l = past_a n (right_true (reads b v) (not (sets b v) && after_both v) (rw (m) l))

    simple_readers : Readers v Goal simple_a
    simple_readers =
        simplified_carries (Reader v Goal) (is_cc_var v ≡ true → Goal) Free Free a j.no_control
        (readers_of v Goal a (stays_here a j.no_control) from_a)

    wanted_readers : Readers v (sets a v ≡ false → Goal) wanted_b
    wanted_readers =
        carries_filter (Reader v (sets a v ≡ false → Goal)) (is_cc_var v ≡ true → sets a v ≡ false → Goal) Free Free
        (is_wanted live cc_live) b (readers_of v (sets a v ≡ false → Goal) b j.no_away from_b)

    at_register : (r : Register) → is_reg r v ≡ true → right_at code_leaves (InReg r) simple_a ≡ None
        → sets a v ≡ false
    at_register r k e = go v k
      where
        go : (w : Var) → is_reg r w ≡ true → sets a w ≡ false
        go (Reg q) i = subst (λ (x : Register). sets a (Reg x) ≡ false) (one_register r q i) (a_unset r e)
        go Cc i = absurd (false≢true i)

    at_cc : is_cc_var v ≡ true → cc_of simple_a ≡ None → sets a v ≡ false
    at_cc k e = go v k
      where
        go : (w : Var) → is_cc_var w ≡ true → sets a w ≡ false
        go (Reg q) i = absurd (false≢true i)
        go Cc i = a_unset_cc e

    unset_leaf : (p : Place) → Reader v (sets a v ≡ false → Goal) p → right_at code_leaves p simple_a ≡ None
        → Reader v Goal p
    unset_leaf (InReg r) h e k = h k (at_register r k e)
    unset_leaf (AtSym s) h e k = absurd (false≢true k)

    forwarded_readers : Readers v Goal f
    forwarded_readers =
        where_at (Readers v Goal) (forward_moves words code_leaves simple_a wanted_b).got f j.made
        (forwarded_carries (Reader v Goal) (is_cc_var v ≡ true → Goal) Free Free (Reader v (sets a v ≡ false → Goal))
        (is_cc_var v ≡ true → sets a v ≡ false → Goal) simple_a simple_readers unset_leaf
        (λ h e k. h k (at_cc k e)) wanted_b wanted_readers)

    from_both : reads (kept ++ f) v ≡ true → Goal
    from_both e =
        by_either (reads kept v) (reads f v) (sym (list_any-append (λ m. move_reads m v) kept f) ∙ e)
        (λ i. all_read v Goal simple_a simple_readers
        (any_filter (λ m. move_reads m v) (is_kept code_leaves live cc_live wanted_b) simple_a i))
        (all_read v Goal f forwarded_readers)

    from_list : reads (filter is_moving (in_order (kept ++ f))) v ≡ true → Goal
    from_list e =
        from_both (sym (any_order (λ m. move_reads m v) (kept ++ f))
        ∙ any_filter (λ m. move_reads m v) is_moving (in_order (kept ++ f)) e)

    from_unset : sets (filter is_moving (in_order (kept ++ f))) v ≡ false → after_both v ≡ true → Goal
    from_unset n l = go (sets (kept ++ f) v) refl
      where
        moved : sets (filter is_moving (kept ++ f)) v ≡ false
        moved =
            sym (any_order (λ m. move_sets m v) (filter is_moving (kept ++ f)))
            ∙ ap (λ ms. sets ms v) (listing_moving (kept ++ f)) ∙ n

        go : (c : Bool) → sets (kept ++ f) v ≡ c → Goal
        go true e = from_both (idle_reads v (kept ++ f) e moved)
        go false e = let u = neither_sets v l e in from_after u.0 u.1 l

    unset_and_live : (x l : Bool) → (not x && l) ≡ true → (x ≡ false) × (l ≡ true)
    unset_and_live true l e = absurd (false≢true e)
    unset_and_live false l e = (refl, e)

    pub list_makes_nothing : live_before (assembled code_leaves live cc_live simple_a wanted_b f) (lives live cc_live)
        v ≡ true → Goal
    list_makes_nothing e =
        let list = filter is_moving (in_order (kept ++ f)) in
        by_either (reads list v) (not (sets list v) && after_both v) e from_list
        (λ i. let u = unset_and_live (sets list v) (after_both v) i in from_unset u.0 u.1)

pub joined_makes_nothing : (live : Register → Bool) (cc_live : Bool) (a b : List PlainMove) → WellFormed a
    → WellFormed b → (v : Var)
    → OfList (joined words code_leaves live cc_live a b).got
    (λ j. live_before j (lives live cc_live) v ≡ true → live_before a (live_before b (lives live cc_live)) v ≡ true)
joined_makes_nothing live cc_live a b h i v =
    joined_where live cc_live a b (λ j.
    live_before j (lives live cc_live) v ≡ true → live_before a (live_before b (lives live cc_live)) v ≡ true)
    (λ f j. list_makes_nothing live cc_live a b f j h i v)
