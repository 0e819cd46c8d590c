-- The list that two well-formed instructions come to has the form of an instruction.
use Rattle.std.proofs.Common.{◌≡◌, ◌≢◌, ℕ, ◌<◌, ◌≤◌, Bool, true, false, List, [], ◌∷◌, ◌++◌, All, AllPairs, refl, sym}
use Rattle.std.proofs.Common.{◌∙◌, ap, subst, arith}
use Rattle.std.specs.Prelude.{◌||◌, if◌then◌else◌, Some, None, is_some, filter, Contains, ⊤}
use Rattle.std.specs.List.{list_any}
use Rattle.std.proofs.lemmas.Bool.{false≢true, true≢false}
use Rattle.std.proofs.lemmas.List.Elements.{All-nil, All-cons, All-head, All-tail, All-append, All-weaker, All-filter}
use Rattle.std.proofs.lemmas.List.Elements.{filter_passes, Contains-append_left, Contains-append_right}
use Rattle.std.proofs.lemmas.List.Kept.{AllPairs-cons, AllPairs-filter}
use Rattle.std.proofs.lemmas.List.Folds.{list_any-append}
use Rattle.po_term.specs.declared.term.Reg.{Reg as Register}
use Rattle.po_term.specs.declared.term.Reg.TheVariants.{Fp}
use Rattle.po_term.specs.declared.term.Sym.{Sym}
use Rattle.po_term.specs.declared.term.Label.{Label}
use Rattle.po_term.specs.Tree.{Const, Leaf, Read, Unary, Binary, EachLeaf}
use Rattle.po_term.specs.Terms.{Place, InReg, AtSym, PlainTerm}
use Rattle.po_term.specs.Moves.{GoTo, IfCc, IfTwo, CallOf, Return, SetTo, CcTo, StoreTo, Ends, PlainMove}
use Rattle.po_term.specs.Kinds.{words}
use Rattle.po_term.specs.Simplified.{reg_eq}
use Rattle.po_term.specs.Actions.{MoveHasWords, MovesHaveWords}
use Rattle.po_term.specs.Form.{IsRegister, IsPlace, IsLabel, kind_of, GoesBefore, WellFormedMove, WellFormed}
use Rattle.po_term.proofs.FormLemmas.{pairs_more}
use Rattle.po_model.specs.declared.var.Var.{Var}
use Rattle.po_model.specs.declared.var.Var.TheVariants.{Reg, Cc}
use Rattle.po_model.specs.Parts.{code_leaves, right_at, cc_of, store_of, ending_of}
use Rattle.po_model.specs.Effect.{after}
use Rattle.po_model.specs.LiveAfter.{sets, move_sets}
use Rattle.po_model.specs.Joined.{is_set, is_cc, is_store, is_control, is_away, is_wanted, is_kept, in_order}
use Rattle.po_model.specs.Joined.{assembled, forward_moves, joined}
use Rattle.po_subst.specs.Order.{is_moving}
use Rattle.po_subst.specs.KeepsEffect.{OfList, labels_in, term_syms, ending_labels, ending_syms, syms_in, MoveInRange}
use Rattle.po_subst.specs.KeepsEffect.{HasForm}
use Rattle.po_subst.proofs.Agreeing.{reg_self}
use Rattle.po_subst.proofs.Alike.{IsSingle, Alike, where_at, or_false, like_some, two_some}
use Rattle.po_subst.proofs.Joint.{simplified, wanted, Joining, joined_where}
use Rattle.po_subst.proofs.Keeping.{zeros, zeros_fit, like_first, like_second, single_both, list_keeps}
use Rattle.po_subst.proofs.Carried.{Carries, EachCarries, simplified_carries, forwarded_carries, carries_append}
use Rattle.po_subst.proofs.Carried.{carries_filter, carries_order}
use Rattle.po_subst.proofs.Reading.{stays_here, left_true, right_true, by_either, any_order, any_filter, unset_right}
use Rattle.po_subst.proofs.Reading.{unset_cc, right_unset, cc_unset, none_alike}

-- of two kinds, the lesser goes before
before_kind : (m n : PlainMove) → kind_of m < kind_of n → GoesBefore m n
before_kind m (SetTo q u) lt = absurd (omega arith)
before_kind m (CcTo t u) lt = record { in_order = omega arith; once = λ e. absurd (omega arith); apart = λ r e s. s }
before_kind m (StoreTo t u) lt =
    record { in_order = omega arith; once = λ e. absurd (omega arith); apart = λ r e s. s }
before_kind m (Ends x) lt = record { in_order = omega arith; once = λ e. absurd (omega arith); apart = λ r e s. s }

-- lists of kinds below k, and from k on
joined_pairs : (k : ℕ) (xs ys : List PlainMove) → AllPairs GoesBefore xs → AllPairs GoesBefore ys
    → All (λ m. kind_of m < k) xs → All (λ m. k ≤ kind_of m) ys → AllPairs GoesBefore (xs ++ ys)
joined_pairs k [] ys h i low high = i
joined_pairs k (x ∷ xs) ys h i low high =
    let p = (pairs_more GoesBefore x xs).0 h in
    let first : kind_of x < k = All-head (λ m. kind_of m < k) x xs low in
    AllPairs-cons GoesBefore x (xs ++ ys)
    (All-append (GoesBefore x) xs ys p.0
    (All-weaker (λ m. k ≤ kind_of m) (GoesBefore x) (λ m from. before_kind x m (omega arith)) ys high))
    (joined_pairs k xs ys p.1 i (All-tail (λ m. kind_of m < k) x xs low) high)

set_kind : (m : PlainMove) → is_set m ≡ true → kind_of m ≡ 0
set_kind (SetTo r t) e = refl
set_kind (CcTo t u) e = absurd (false≢true e)
set_kind (StoreTo t u) e = absurd (false≢true e)
set_kind (Ends x) e = absurd (false≢true e)

cc_kind : (m : PlainMove) → is_cc m ≡ true → kind_of m ≡ 1
cc_kind (SetTo r t) e = absurd (false≢true e)
cc_kind (CcTo t u) e = refl
cc_kind (StoreTo t u) e = absurd (false≢true e)
cc_kind (Ends x) e = absurd (false≢true e)

store_kind : (m : PlainMove) → is_store m ≡ true → kind_of m ≡ 2
store_kind (SetTo r t) e = absurd (false≢true e)
store_kind (CcTo t u) e = absurd (false≢true e)
store_kind (StoreTo t u) e = refl
store_kind (Ends x) e = absurd (false≢true e)

control_kind : (m : PlainMove) → is_control m ≡ true → kind_of m ≡ 3
control_kind (SetTo r t) e = absurd (false≢true e)
control_kind (CcTo t u) e = absurd (false≢true e)
control_kind (StoreTo t u) e = absurd (false≢true e)
control_kind (Ends x) e = refl

-- the kind of each move that a filter takes
all_kind : (q : PlainMove → Bool) (k : ℕ) → ((m : PlainMove) → q m ≡ true → kind_of m ≡ k) → (ms : List PlainMove)
    → All (λ m. kind_of m ≡ k) (filter q ms)
all_kind q k h ms = All-weaker (λ m. q m ≡ true) (λ m. kind_of m ≡ k) h (filter q ms) (filter_passes q ms)

-- a set goes before what doesn't set its register
sets_first : (r : Register) (t : PlainTerm) (ms : List PlainMove) → right_at code_leaves (InReg r) ms ≡ None
    → All (GoesBefore (SetTo r t)) ms
sets_first r t [] e = All-nil (GoesBefore (SetTo r t))
sets_first r t (SetTo q u ∷ ms) e = go (reg_eq r q) refl e (sets_first r t ms)
  where
    go : (c : Bool) → reg_eq r q ≡ c → (if c then Some u else right_at code_leaves (InReg r) ms) ≡ None
        → (right_at code_leaves (InReg r) ms ≡ None → All (GoesBefore (SetTo r t)) ms)
        → All (GoesBefore (SetTo r t)) (SetTo q u ∷ ms)
    go true i k ih = absurd (cc)
    go false i k ih =
        All-cons (GoesBefore (SetTo r t)) (SetTo q u) ms
        (record {
          in_order = omega arith;
          once = λ x. refl;
          apart = λ p x y. false≢true (sym i ∙ ap (λ z. reg_eq z q) (x ∙ sym y) ∙ reg_self q);
        })
        (ih k)
sets_first r t (CcTo u v ∷ ms) e =
    All-cons (GoesBefore (SetTo r t)) (CcTo u v) ms (before_kind (SetTo r t) (CcTo u v) (omega arith))
    (sets_first r t ms e)
sets_first r t (StoreTo u v ∷ ms) e =
    All-cons (GoesBefore (SetTo r t)) (StoreTo u v) ms (before_kind (SetTo r t) (StoreTo u v) (omega arith))
    (sets_first r t ms e)
sets_first r t (Ends x ∷ ms) e =
    All-cons (GoesBefore (SetTo r t)) (Ends x) ms (before_kind (SetTo r t) (Ends x) (omega arith))
    (sets_first r t ms e)

-- where there is none, a filter finds none
no_cc_left : (ms : List PlainMove) → cc_of ms ≡ None → filter is_cc ms ≡ []
no_cc_left [] e = refl
no_cc_left (SetTo q u ∷ ms) e = no_cc_left ms e
no_cc_left (CcTo t u ∷ ms) e = absurd (cc)
no_cc_left (StoreTo t u ∷ ms) e = no_cc_left ms e
no_cc_left (Ends x ∷ ms) e = no_cc_left ms e

no_store_left : (ms : List PlainMove) → store_of ms ≡ None → filter is_store ms ≡ []
no_store_left [] e = refl
no_store_left (SetTo q u ∷ ms) e = no_store_left ms e
no_store_left (CcTo t u ∷ ms) e = no_store_left ms e
no_store_left (StoreTo t u ∷ ms) e = absurd (cc)
no_store_left (Ends x ∷ ms) e = no_store_left ms e

no_ending_left : (ms : List PlainMove) → ending_of ms ≡ None → filter is_control ms ≡ []
no_ending_left [] e = refl
no_ending_left (SetTo q u ∷ ms) e = no_ending_left ms e
no_ending_left (CcTo t u ∷ ms) e = no_ending_left ms e
no_ending_left (StoreTo t u ∷ ms) e = no_ending_left ms e
no_ending_left (Ends x ∷ ms) e = absurd (cc)

one_pair : (m : PlainMove) (ms : List PlainMove) → ms ≡ [] → AllPairs GoesBefore ms → AllPairs GoesBefore (m ∷ ms)
one_pair m ms e h =
    AllPairs-cons GoesBefore m ms
    (subst (λ (ns : List PlainMove). All (GoesBefore m) ns) (sym e) (All-nil (GoesBefore m))) h

no_pairs : AllPairs GoesBefore []
no_pairs = λ i j d lt within. absurd (omega arith)

set_pairs : (ms : List PlainMove) → IsSingle ms → AllPairs GoesBefore (filter is_set ms)
set_pairs [] h = no_pairs
set_pairs (SetTo r t ∷ ms) h =
    AllPairs-cons GoesBefore (SetTo r t) (filter is_set ms)
    (All-filter is_set (GoesBefore (SetTo r t)) ms (sets_first r t ms h.0)) (set_pairs ms h.1)
set_pairs (CcTo t u ∷ ms) h = set_pairs ms h.1
set_pairs (StoreTo t u ∷ ms) h = set_pairs ms h.1
set_pairs (Ends x ∷ ms) h = set_pairs ms h.1

cc_pairs : (ms : List PlainMove) → IsSingle ms → AllPairs GoesBefore (filter is_cc ms)
cc_pairs [] h = no_pairs
cc_pairs (SetTo r t ∷ ms) h = cc_pairs ms h.1
cc_pairs (CcTo t u ∷ ms) h = one_pair (CcTo t u) (filter is_cc ms) (no_cc_left ms h.0) (cc_pairs ms h.1)
cc_pairs (StoreTo t u ∷ ms) h = cc_pairs ms h.1
cc_pairs (Ends x ∷ ms) h = cc_pairs ms h.1

store_pairs : (ms : List PlainMove) → IsSingle ms → AllPairs GoesBefore (filter is_store ms)
store_pairs [] h = no_pairs
store_pairs (SetTo r t ∷ ms) h = store_pairs ms h.1
store_pairs (CcTo t u ∷ ms) h = store_pairs ms h.1
store_pairs (StoreTo t u ∷ ms) h =
    one_pair (StoreTo t u) (filter is_store ms) (no_store_left ms h.0) (store_pairs ms h.1)
store_pairs (Ends x ∷ ms) h = store_pairs ms h.1

control_pairs : (ms : List PlainMove) → IsSingle ms → AllPairs GoesBefore (filter is_control ms)
control_pairs [] h = no_pairs
control_pairs (SetTo r t ∷ ms) h = control_pairs ms h.1
control_pairs (CcTo t u ∷ ms) h = control_pairs ms h.1
control_pairs (StoreTo t u ∷ ms) h = control_pairs ms h.1
control_pairs (Ends x ∷ ms) h = one_pair (Ends x) (filter is_control ms) (no_ending_left ms h.0) (control_pairs ms h.1)

pub order_pairs : (ms : List PlainMove) → IsSingle ms → AllPairs GoesBefore (in_order ms)
order_pairs ms h =
    let s = filter is_set ms in
    let c = filter is_cc ms in
    let t = filter is_store ms in
    let e = filter is_control ms in
    let below : (j k : ℕ) → j < k → (xs : List PlainMove) → All (λ m. kind_of m ≡ j) xs → All (λ m. kind_of m < k) xs =
    λ j k lt xs. All-weaker (λ m. kind_of m ≡ j) (λ m. kind_of m < k) (λ m i. omega arith) xs in
    let from : (k : ℕ) (xs : List PlainMove) → All (λ m. kind_of m ≡ k) xs → All (λ m. k ≤ kind_of m) xs =
    λ k xs. All-weaker (λ m. kind_of m ≡ k) (λ m. k ≤ kind_of m) (λ m i. omega arith) xs in
    let low : (k : ℕ) → 0 < k → All (λ m. kind_of m < k) s = λ k lt. below 0 k lt s (all_kind is_set 0 set_kind ms) in
    let mid : (k : ℕ) → 1 < k → All (λ m. kind_of m < k) c = λ k lt. below 1 k lt c (all_kind is_cc 1 cc_kind ms) in
    joined_pairs 3 (s ++ c ++ t) e
    (joined_pairs 2 (s ++ c) t
    (joined_pairs 1 s c (set_pairs ms h) (cc_pairs ms h) (low 1 (omega arith))
    (from 1 c (all_kind is_cc 1 cc_kind ms)))
    (store_pairs ms h) (All-append (λ m. kind_of m < 2) s c (low 2 (omega arith)) (mid 2 (omega arith)))
    (from 2 t (all_kind is_store 2 store_kind ms)))
    (control_pairs ms h)
    (All-append (λ m. kind_of m < 3) (s ++ c) t
    (All-append (λ m. kind_of m < 3) s c (low 3 (omega arith)) (mid 3 (omega arith)))
    (below 2 3 (omega arith) t (all_kind is_store 2 store_kind ms)))
    (from 3 e (all_kind is_control 3 control_kind ms))

-- a symbol is one of these
abbrev SymAmong : List Sym → Place → Type 0
SymAmong S (InReg r) = ⊤
SymAmong S (AtSym s) = Contains S s

abbrev InPlace : List Sym → Place → Type 0
InPlace S p = IsPlace p × SymAmong S p

abbrev AtLabel : List Label → Label → Type 0
AtLabel L l = IsLabel l × Contains L l

abbrev Target : Register → Type 0
Target r = IsRegister r × (r ≢ Fp)

-- the instruction is in range, and names these labels and symbols
abbrev Names : List Label → List Sym → List PlainMove → Type 0
Names L S ms = EachCarries (InPlace S) ⊤ (AtLabel L) Target ms

first_one : {X : Type 0} (x : X) → Contains (x ∷ []) x
first_one x = (0, omega arith, refl)

module _ (L : List Label) (S : List Sym) where
  term_names : (t : PlainTerm) → EachLeaf IsPlace t → ((s : Sym) → Contains (term_syms t) s → Contains S s)
      → EachLeaf (InPlace S) t
  term_names (Const c) h k = tt
  term_names (Leaf (InReg r)) h k = (h, tt)
  term_names (Leaf (AtSym s)) h k = (h, k s (first_one s))
  term_names (Read x) h k = term_names x h k
  term_names (Unary o x) h k = term_names x h k
  term_names (Binary o x y) h k = (
    term_names x h.0 (λ s i. k s (Contains-append_left (term_syms x) (term_syms y) s i)),
    term_names y h.1 (λ s i. k s (Contains-append_right (term_syms x) (term_syms y) s i)),
  )

  two_names : (t u : PlainTerm) → EachLeaf IsPlace t → EachLeaf IsPlace u
      → ((s : Sym) → Contains (term_syms t ++ term_syms u) s → Contains S s)
      → EachLeaf (InPlace S) t × EachLeaf (InPlace S) u
  two_names t u h i k = (
    term_names t h (λ s d. k s (Contains-append_left (term_syms t) (term_syms u) s d)),
    term_names u i (λ s d. k s (Contains-append_right (term_syms t) (term_syms u) s d)),
  )

  ending_names : (x : _) → WellFormedMove (Ends x)
      → is_away {K = ℕ} {L = Place} {R = Register} {S = Sym} (Ends x) ≡ false
      → ((l : Label) → Contains (ending_labels x) l → Contains L l)
      → ((s : Sym) → Contains (ending_syms x) s → Contains S s) → Carries (InPlace S) ⊤ (AtLabel L) Target (Ends x)
  ending_names (GoTo l) w n kl ks = (w, kl l (first_one l))
  ending_names (IfCc r l) w n kl ks = (tt, (w, kl l (first_one l)))
  ending_names (IfTwo t u r l) w n kl ks =
      let two = two_names t u w.0.places w.1.places ks in (two.0, two.1, (w.2, kl l (first_one l)))
  ending_names (CallOf s k) w n kl ks = absurd (true≢false n)
  ending_names Return w n kl ks = absurd (true≢false n)

  moves_names : (ms : List PlainMove) → All WellFormedMove ms → list_any is_away ms ≡ false
      → ((l : Label) → Contains (labels_in ms) l → Contains L l) → ((s : Sym) → Contains (syms_in ms) s → Contains S s)
      → Names L S ms
  moves_names [] h n kl ks = tt
  moves_names (SetTo r t ∷ ms) h n kl ks =
      let w = All-head WellFormedMove (SetTo r t) ms h in (
        ((w.0, w.1), term_names t w.2.places (λ s i. ks s (Contains-append_left (term_syms t) (syms_in ms) s i))),
        moves_names ms (All-tail WellFormedMove (SetTo r t) ms h) n kl
            (λ s i. ks s (Contains-append_right (term_syms t) (syms_in ms) s i)),
      )
  moves_names (CcTo t u ∷ ms) h n kl ks =
      let w = All-head WellFormedMove (CcTo t u) ms h in (
        two_names t u w.0.places w.1.places
            (λ s i. ks s (Contains-append_left (term_syms t ++ term_syms u) (syms_in ms) s i)),
        moves_names ms (All-tail WellFormedMove (CcTo t u) ms h) n kl
            (λ s i. ks s (Contains-append_right (term_syms t ++ term_syms u) (syms_in ms) s i)),
      )
  moves_names (StoreTo t u ∷ ms) h n kl ks =
      let w = All-head WellFormedMove (StoreTo t u) ms h in (
        two_names t u w.0.places w.1.places
            (λ s i. ks s (Contains-append_left (term_syms t ++ term_syms u) (syms_in ms) s i)),
        moves_names ms (All-tail WellFormedMove (StoreTo t u) ms h) n kl
            (λ s i. ks s (Contains-append_right (term_syms t ++ term_syms u) (syms_in ms) s i)),
      )
  moves_names (Ends x ∷ ms) h n kl ks =
      let k = or_false (is_away {K = ℕ} {L = Place} {R = Register} {S = Sym} (Ends x)) (list_any is_away ms) n in (
        ending_names x (All-head WellFormedMove (Ends x) ms h) k.0
            (λ l i. kl l (Contains-append_left (ending_labels x) (labels_in ms) l i))
            (λ s i. ks s (Contains-append_left (ending_syms x) (syms_in ms) s i)),
        moves_names ms (All-tail WellFormedMove (Ends x) ms h) k.1
            (λ l i. kl l (Contains-append_right (ending_labels x) (labels_in ms) l i))
            (λ s i. ks s (Contains-append_right (ending_syms x) (syms_in ms) s i)),
      )

  -- and what has this is in range, and has its labels and symbols among these
  places_of : (t : PlainTerm) → EachLeaf (InPlace S) t → EachLeaf IsPlace t
  places_of (Const c) h = tt
  places_of (Leaf p) h = h.0
  places_of (Read x) h = places_of x h
  places_of (Unary o x) h = places_of x h
  places_of (Binary o x y) h = (places_of x h.0, places_of y h.1)

  syms_of : (t : PlainTerm) → EachLeaf (InPlace S) t → All (Contains S) (term_syms t)
  syms_of (Const c) h = All-nil (Contains S)
  syms_of (Leaf (InReg r)) h = All-nil (Contains S)
  syms_of (Leaf (AtSym s)) h = All-cons (Contains S) s [] h.1 (All-nil (Contains S))
  syms_of (Read x) h = syms_of x h
  syms_of (Unary o x) h = syms_of x h
  syms_of (Binary o x y) h = All-append (Contains S) (term_syms x) (term_syms y) (syms_of x h.0) (syms_of y h.1)

  move_ranges : (m : PlainMove) → MoveHasWords m → Carries (InPlace S) ⊤ (AtLabel L) Target m → MoveInRange m
  move_ranges (SetTo r t) w h = (h.0.0, h.0.1, record { words = w; places = places_of t h.1 })
  move_ranges (CcTo t u) w h =
      (record { words = w.0; places = places_of t h.0 }, record { words = w.1; places = places_of u h.1 })
  move_ranges (StoreTo t u) w h =
      (record { words = w.0; places = places_of t h.0 }, record { words = w.1; places = places_of u h.1 })
  move_ranges (Ends (GoTo l)) w h = h.0
  move_ranges (Ends (IfCc r l)) w h = h.1.0
  move_ranges (Ends (IfTwo t u r l)) w h =
      (record { words = w.0; places = places_of t h.0 }, record { words = w.1; places = places_of u h.1 }, h.2.0)
  move_ranges (Ends (CallOf s k)) w h = absurd h
  move_ranges (Ends Return) w h = absurd h

  ranges_of : (ms : List PlainMove) → MovesHaveWords ms → Names L S ms → All MoveInRange ms
  ranges_of [] w h = All-nil MoveInRange
  ranges_of (m ∷ ms) w h = All-cons MoveInRange m ms (move_ranges m w.0 h.0) (ranges_of ms w.1 h.1)

  ending_labels_of : (x : _) → Carries (InPlace S) ⊤ (AtLabel L) Target (Ends x) → All (Contains L) (ending_labels x)
  ending_labels_of (GoTo l) h = All-cons (Contains L) l [] h.1 (All-nil (Contains L))
  ending_labels_of (IfCc r l) h = All-cons (Contains L) l [] h.1.1 (All-nil (Contains L))
  ending_labels_of (IfTwo t u r l) h = All-cons (Contains L) l [] h.2.1 (All-nil (Contains L))
  ending_labels_of (CallOf s k) h = absurd h
  ending_labels_of Return h = absurd h

  labels_of : (ms : List PlainMove) → Names L S ms → All (Contains L) (labels_in ms)
  labels_of [] h = All-nil (Contains L)
  labels_of (SetTo r t ∷ ms) h = labels_of ms h.1
  labels_of (CcTo t u ∷ ms) h = labels_of ms h.1
  labels_of (StoreTo t u ∷ ms) h = labels_of ms h.1
  labels_of (Ends x ∷ ms) h =
      All-append (Contains L) (ending_labels x) (labels_in ms) (ending_labels_of x h.0) (labels_of ms h.1)

  ending_syms_of : (x : _) → Carries (InPlace S) ⊤ (AtLabel L) Target (Ends x) → All (Contains S) (ending_syms x)
  ending_syms_of (GoTo l) h = All-nil (Contains S)
  ending_syms_of (IfCc r l) h = All-nil (Contains S)
  ending_syms_of (IfTwo t u r l) h =
      All-append (Contains S) (term_syms t) (term_syms u) (syms_of t h.0) (syms_of u h.1)
  ending_syms_of (CallOf s k) h = absurd h
  ending_syms_of Return h = absurd h

  all_syms_of : (ms : List PlainMove) → Names L S ms → All (Contains S) (syms_in ms)
  all_syms_of [] h = All-nil (Contains S)
  all_syms_of (SetTo r t ∷ ms) h =
      All-append (Contains S) (term_syms t) (syms_in ms) (syms_of t h.0.1) (all_syms_of ms h.1)
  all_syms_of (CcTo t u ∷ ms) h =
      All-append (Contains S) (term_syms t ++ term_syms u) (syms_in ms)
      (All-append (Contains S) (term_syms t) (term_syms u) (syms_of t h.0.0) (syms_of u h.0.1))
      (all_syms_of ms h.1)
  all_syms_of (StoreTo t u ∷ ms) h =
      All-append (Contains S) (term_syms t ++ term_syms u) (syms_in ms)
      (All-append (Contains S) (term_syms t) (term_syms u) (syms_of t h.0.0) (syms_of u h.0.1))
      (all_syms_of ms h.1)
  all_syms_of (Ends x ∷ ms) h =
      All-append (Contains S) (ending_syms x) (syms_in ms) (ending_syms_of x h.0) (all_syms_of ms h.1)

  -- it neither calls nor returns
  names_here : (ms : List PlainMove) → Names L S ms → list_any is_away ms ≡ false
  names_here [] h = refl
  names_here (SetTo r t ∷ ms) h = names_here ms h.1
  names_here (CcTo t u ∷ ms) h = names_here ms h.1
  names_here (StoreTo t u ∷ ms) h = names_here ms h.1
  names_here (Ends (GoTo l) ∷ ms) h = names_here ms h.1
  names_here (Ends (IfCc r l) ∷ ms) h = names_here ms h.1
  names_here (Ends (IfTwo t u r l) ∷ ms) h = names_here ms h.1
  names_here (Ends (CallOf s k) ∷ ms) h = absurd h.0
  names_here (Ends Return ∷ ms) h = absurd h.0

-- what a list sets, a list sets whose parts are there alike
sets_like : (v : Var) (ms ns : List PlainMove) → list_any is_away ns ≡ false
    → ((p : Place) → is_some (right_at code_leaves p ns) ≡ is_some (right_at code_leaves p ms))
    → is_some (cc_of ns) ≡ is_some (cc_of ms) → sets ns v ≡ true → sets ms v ≡ true
sets_like v ms ns n rights compared e = go v (sets ms v) refl e
  where
    go : (w : Var) (c : Bool) → sets ms w ≡ c → sets ns w ≡ true → c ≡ true
    go w true i k = refl
    go (Reg r) false i k =
        absurd (true≢false (sym k
        ∙ right_unset r ns n (none_alike (right_at code_leaves (InReg r) ns) (right_at code_leaves (InReg r) ms)
        (sym (rights (InReg r))) (unset_right r ms i))))
    go Cc false i k =
        absurd (true≢false (sym k ∙ cc_unset ns n (none_alike (cc_of ns) (cc_of ms) (sym compared) (unset_cc ms i))))

module _ (live : Register → Bool) (cc_live : Bool) (a b f : List PlainMove) (j : Joining live cc_live a b f)
    (form_a : WellFormed a) (form_b : WellFormed b) where
  abbrev simple_a : List PlainMove
  simple_a = simplified live cc_live a b

  abbrev wanted_b : List PlainMove
  wanted_b = wanted live cc_live a b

  abbrev kept : List PlainMove
  kept = filter (is_kept code_leaves live cc_live wanted_b) simple_a

  abbrev L : List Label
  L = labels_in a ++ labels_in b

  abbrev S : List Sym
  S = syms_in a ++ syms_in b

  like_a : Alike zeros zeros a simple_a
  like_a = like_first zeros zeros_fit live cc_live a b f j form_a

  like_b : Alike zeros (after zeros simple_a) wanted_b f
  like_b = like_second zeros zeros_fit live cc_live a b f j like_a form_b

  simple_names : Names L S simple_a
  simple_names =
      simplified_carries (InPlace S) ⊤ (AtLabel L) Target a j.no_control
      (moves_names L S a form_a.each (stays_here a j.no_control)
      (λ l i. Contains-append_left (labels_in a) (labels_in b) l i)
      (λ s i. Contains-append_left (syms_in a) (syms_in b) s i))

  wanted_names : Names L S wanted_b
  wanted_names =
      carries_filter (InPlace S) ⊤ (AtLabel L) Target (is_wanted live cc_live) b
      (moves_names L S b form_b.each j.no_away (λ l i. Contains-append_right (labels_in a) (labels_in b) l i)
      (λ s i. Contains-append_right (syms_in a) (syms_in b) s i))

  forwarded_names : Names L S f
  forwarded_names =
      where_at (Names L S) (forward_moves words code_leaves simple_a wanted_b).got f j.made
      (forwarded_carries (InPlace S) ⊤ (AtLabel L) Target (InPlace S) ⊤ simple_a simple_names (λ p h e. h) (λ h e. h)
      wanted_b wanted_names)

  list_names : Names L S (assembled code_leaves live cc_live simple_a wanted_b f)
  list_names =
      carries_filter (InPlace S) ⊤ (AtLabel L) Target is_moving (in_order (kept ++ f))
      (carries_order (InPlace S) ⊤ (AtLabel L) Target (kept ++ f)
      (carries_append (InPlace S) ⊤ (AtLabel L) Target kept f
      (carries_filter (InPlace S) ⊤ (AtLabel L) Target (is_kept code_leaves live cc_live wanted_b) simple_a
      simple_names) forwarded_names))

  list_sets : (v : Var) → sets (assembled code_leaves live cc_live simple_a wanted_b f) v ≡ true
      → (sets a v || sets b v) ≡ true
  list_sets v e =
      let p : PlainMove → Bool = λ m. move_sets m v in
      by_either (sets kept v) (sets f v)
      (sym (list_any-append p kept f)
      ∙ (sym (any_order p (kept ++ f)) ∙ any_filter p is_moving (in_order (kept ++ f)) e))
      (λ i. left_true (sets a v) (sets b v)
      (sets_like v a simple_a (names_here L S simple_a simple_names)
      (λ q. like_some zeros zeros (right_at code_leaves q a) (right_at code_leaves q simple_a) (like_a.rights q))
      (two_some zeros zeros (cc_of a) (cc_of simple_a) like_a.compared)
      (any_filter p (is_kept code_leaves live cc_live wanted_b) simple_a i)))
      (λ i. right_true (sets a v) (sets b v)
      (any_filter p (is_wanted live cc_live) b
      (sets_like v wanted_b f (names_here L S f forwarded_names)
      (λ q. like_some zeros (after zeros simple_a) (right_at code_leaves q wanted_b) (right_at code_leaves q f)
      (like_b.rights q)) (two_some zeros (after zeros simple_a) (cc_of wanted_b) (cc_of f) like_b.compared) i)))

  pub list_form : HasForm a b (assembled code_leaves live cc_live simple_a wanted_b f)
  list_form = record {
    pairs =
        AllPairs-filter GoesBefore is_moving (in_order (kept ++ f))
        (order_pairs (kept ++ f) (single_both zeros zeros_fit live cc_live a b f like_a like_b j));
    each =
        ranges_of L S (assembled code_leaves live cc_live simple_a wanted_b f)
        (list_keeps zeros zeros_fit live cc_live a b f like_a like_b j).words list_names;
    labels = labels_of L S (assembled code_leaves live cc_live simple_a wanted_b f) list_names;
    symbols = all_syms_of L S (assembled code_leaves live cc_live simple_a wanted_b f) list_names;
    control = (list_keeps zeros zeros_fit live cc_live a b f like_a like_b j).stays;
    targets = list_sets;
  }

pub joined_form : (live : Register → Bool) (cc_live : Bool) (a b : List PlainMove) → WellFormed a → WellFormed b
    → OfList (joined words code_leaves live cc_live a b).got (λ j. HasForm a b j)
joined_form live cc_live a b h i =
    joined_where live cc_live a b (λ j. HasForm a b j) (λ f j. list_form live cc_live a b f j h i)
