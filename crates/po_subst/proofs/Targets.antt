-- What two instructions come to asks of a register whether it is live only where one of them sets it.
use Rattle.std.proofs.Common.{◌≡◌, Bool, true, false, List, [], ◌∷◌, ◌++◌, refl, sym, ◌∙◌, ap}
use Rattle.std.specs.Prelude.{not, ◌||◌, ◌&&◌, if◌then◌else◌, is_some, Option, Some, None, filter, ⊤}
use Rattle.std.specs.List.{list_any}
use Rattle.std.proofs.lemmas.Bool.{true≢false}
use Rattle.po_term.specs.declared.term.Reg.{Reg as Register}
use Rattle.po_term.specs.Terms.{InReg}
use Rattle.po_term.specs.Moves.{SetTo, CcTo, StoreTo, Ends, PlainMove, PlainInstr}
use Rattle.po_term.specs.Kinds.{words, give, and_then}
use Rattle.po_term.specs.Simplified.{reg_eq, same_register, simple_moves}
use Rattle.po_model.specs.Parts.{code_leaves, right_at, cc_of, store_of}
use Rattle.po_model.specs.Pairs.{is_set_in}
use Rattle.po_model.specs.Joined.{NotJoined, is_control, is_away, is_wanted, is_kept, in_order, covers, listed}
use Rattle.po_model.specs.Joined.{forward_moves, with_forwarded, join_simple, joined}
use Rattle.po_subst.specs.Order.{is_moving}
use Rattle.po_subst.proofs.Agreeing.{reg_self}
use Rattle.po_subst.proofs.Alike.{or_false}
use Rattle.po_subst.proofs.Reading.{left_true, right_true}

module _ (f g : Register → Bool) (cc_live : Bool) where
  -- both say the same of what a list sets
  abbrev SameOf : List PlainMove → Type 0
  SameOf [] = ⊤
  SameOf (SetTo r t ∷ ms) = (f r ≡ g r) × SameOf ms
  SameOf (CcTo t u ∷ ms) = SameOf ms
  SameOf (StoreTo t u ∷ ms) = SameOf ms
  SameOf (Ends e ∷ ms) = SameOf ms

  set_more : (r q : Register) (t : _) (ms : PlainInstr) → is_set_in ms r ≡ true → is_set_in (SetTo q t ∷ ms) r ≡ true
  set_more r q t ms e = go (reg_eq r q)
    where
      go : (c : Bool) → is_some (if c then Some t else right_at code_leaves (InReg r) ms) ≡ true
      go true = refl
      go false = e

  set_here : (q : Register) (t : _) (ms : PlainInstr) → is_set_in (SetTo q t ∷ ms) q ≡ true
  set_here q t ms = rw (reg_self q) refl

  same_of : (ms : List PlainMove) → ((r : Register) → is_set_in ms r ≡ true → f r ≡ g r) → SameOf ms
  same_of [] h = tt
  same_of (SetTo q t ∷ ms) h = (h q (set_here q t ms), same_of ms (λ r e. h r (set_more r q t ms e)))
  same_of (CcTo t u ∷ ms) h = same_of ms h
  same_of (StoreTo t u ∷ ms) h = same_of ms h
  same_of (Ends x ∷ ms) h = same_of ms h

  same_simple : (ms : List PlainMove) → list_any is_control ms ≡ false → SameOf ms
      → SameOf (simple_moves words same_register ms).got
  same_simple [] n h = tt
  same_simple (SetTo q t ∷ ms) n h = (h.0, same_simple ms n h.1)
  same_simple (CcTo t u ∷ ms) n h = same_simple ms n h
  same_simple (StoreTo t u ∷ ms) n h = same_simple ms n h
  same_simple (Ends x ∷ ms) n h = absurd (true≢false n)

  wanted_same : (ms : List PlainMove) → SameOf ms → filter (is_wanted f cc_live) ms ≡ filter (is_wanted g cc_live) ms
  wanted_same [] h = refl
  wanted_same (SetTo q t ∷ ms) h = rw (h.0, wanted_same ms h.1) refl
  wanted_same (CcTo t u ∷ ms) h = rw (wanted_same ms h) refl
  wanted_same (StoreTo t u ∷ ms) h = rw (wanted_same ms h) refl
  wanted_same (Ends x ∷ ms) h = rw (wanted_same ms h) refl

  kept_same : (w ms : List PlainMove) → SameOf ms
      → filter (is_kept code_leaves f cc_live w) ms ≡ filter (is_kept code_leaves g cc_live w) ms
  kept_same w [] h = refl
  kept_same w (SetTo q t ∷ ms) h = rw (h.0, kept_same w ms h.1) refl
  kept_same w (CcTo t u ∷ ms) h = rw (kept_same w ms h) refl
  kept_same w (StoreTo t u ∷ ms) h = rw (kept_same w ms h) refl
  kept_same w (Ends x ∷ ms) h = kept_same w ms h

  -- so what says the same of the registers that the two set tells the same of what they come to
  pub joined_same : (a b : PlainInstr) → ((r : Register) → (is_set_in a r || is_set_in b r) ≡ true → f r ≡ g r)
      → (joined words code_leaves f cc_live a b).got ≡ (joined words code_leaves g cc_live a b).got
  joined_same a b h = go (list_any is_control a || list_any is_away b) refl
    where
      simple_a : List PlainMove
      simple_a = (simple_moves words same_register a).got

      listed_same : (w x y : List PlainMove) → x ≡ y
          → (c : Bool) → (if c then listed (filter is_moving (in_order (x ++ w))) else NotJoined)
          ≡ (if c then listed (filter is_moving (in_order (y ++ w))) else NotJoined)
      listed_same w x y e c = ap (λ zs. if c then listed (filter is_moving (in_order (zs ++ w))) else NotJoined) e

      by_forwarded : (w : List PlainMove) → SameOf simple_a → (o : Option (List PlainMove))
          → (with_forwarded words code_leaves f cc_live simple_a w o).got
          ≡ (with_forwarded words code_leaves g cc_live simple_a w o).got
      by_forwarded w h None = refl
      by_forwarded w h (Some x) =
          listed_same x (filter (is_kept code_leaves f cc_live w) simple_a)
          (filter (is_kept code_leaves g cc_live w) simple_a) (kept_same w simple_a h)
          (covers words code_leaves (store_of simple_a) (store_of x)).got

      simple_same : list_any is_control a ≡ false
          → (join_simple words code_leaves f cc_live simple_a (filter (is_wanted f cc_live) b)).got
          ≡ (join_simple words code_leaves g cc_live simple_a (filter (is_wanted g cc_live) b)).got
      simple_same n =
          let first = same_simple a n (same_of a (λ r e. h r (left_true (is_set_in a r) (is_set_in b r) e))) in
          let second = wanted_same b (same_of b (λ r e. h r (right_true (is_set_in a r) (is_set_in b r) e))) in
          ap (λ w. (join_simple words code_leaves f cc_live simple_a w).got) second
          ∙ by_forwarded (filter (is_wanted g cc_live) b) first
          (forward_moves words code_leaves simple_a (filter (is_wanted g cc_live) b)).got

      go : (c : Bool) → (list_any is_control a || list_any is_away b) ≡ c
          → (if c then give NotJoined
          else and_then (simple_moves words same_register a)
          (λ s. join_simple words code_leaves f cc_live s (filter (is_wanted f cc_live) b))).got
          ≡ (if c then give NotJoined
          else and_then (simple_moves words same_register a)
          (λ s. join_simple words code_leaves g cc_live s (filter (is_wanted g cc_live) b))).got
      go true e = refl
      go false e = simple_same (or_false (list_any is_control a) (list_any is_away b) e).0
