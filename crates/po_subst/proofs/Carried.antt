-- What holds of the leaves, labels and registers of two instructions holds of those of the list that they come to.
use Rattle.std.proofs.Common.{◌≡◌, ℕ, Bool, true, false, List, [], ◌∷◌, ◌++◌, refl}
use Rattle.std.specs.Prelude.{if◌then◌else◌, Option, Some, None, filter, ⊤}
use Rattle.std.specs.List.{list_any}
use Rattle.std.proofs.lemmas.Bool.{true≢false}
use Rattle.po_word.specs.declared.operator.Rel.{Rel}
use Rattle.po_word.specs.Words.{rel_value}
use Rattle.po_term.specs.declared.term.Reg.{Reg as Register}
use Rattle.po_term.specs.declared.term.Alias.{Alias}
use Rattle.po_term.specs.declared.term.Alias.TheVariants.{Same, Apart, Maybe}
use Rattle.po_term.specs.declared.term.Label.{Label}
use Rattle.po_term.specs.Tree.{Const, Leaf, Read, Unary, Binary, EachLeaf}
use Rattle.po_term.specs.Terms.{Place, InReg, PlainTerm}
use Rattle.po_term.specs.Moves.{GoTo, IfCc, IfTwo, CallOf, Return, SetTo, CcTo, StoreTo, Ends, PlainMove}
use Rattle.po_term.specs.Kinds.{words, Met, give}
use Rattle.po_term.specs.Simplified.{same_register, unary_of, binary_of, decided, simple_move, simple_moves}
use Rattle.po_simplify.proofs.Leaves.{unary_leaves, binary_leaves, simple_leaves}
use Rattle.po_model.specs.Parts.{code_leaves, right_at, cc_of, store_of}
use Rattle.po_model.specs.Forward.{and_some, some_of, alias_of, by_alias, read_after, right_or, forward}
use Rattle.po_model.specs.Joined.{is_set, is_cc, is_store, is_control, in_order, forward_branch, forward_move}
use Rattle.po_model.specs.Joined.{forward_moves}
use Rattle.po_subst.proofs.Alike.{Where, some_where, or_false, Two}

-- P of each leaf, C where it branches on cc, D of a label that it names, R of a register that it sets; it neither
-- calls nor returns
abbrev pub Carries : (Place → Type 0) → Type 0 → (Label → Type 0) → (Register → Type 0) → PlainMove → Type 0
Carries P C D R (SetTo r t) = R r × EachLeaf P t
Carries P C D R (CcTo t u) = EachLeaf P t × EachLeaf P u
Carries P C D R (StoreTo t u) = EachLeaf P t × EachLeaf P u
Carries P C D R (Ends (GoTo l)) = D l
Carries P C D R (Ends (IfCc r l)) = C × D l
Carries P C D R (Ends (IfTwo t u r l)) = EachLeaf P t × EachLeaf P u × D l
Carries P C D R (Ends (CallOf f n)) = ⊥
Carries P C D R (Ends Return) = ⊥

abbrev pub EachCarries : (Place → Type 0) → Type 0 → (Label → Type 0) → (Register → Type 0) → List PlainMove → Type 0
EachCarries P C D R [] = ⊤
EachCarries P C D R (m ∷ ms) = Carries P C D R m × EachCarries P C D R ms

module _ (P : Place → Type 0) (C : Type 0) (D : Label → Type 0) (R : Register → Type 0) where
  pub carries_append : (xs ys : List PlainMove) → EachCarries P C D R xs → EachCarries P C D R ys
      → EachCarries P C D R (xs ++ ys)
  carries_append [] ys h i = i
  carries_append (x ∷ xs) ys h i = (h.0, carries_append xs ys h.1 i)

  pub carries_filter : (q : PlainMove → Bool) (ms : List PlainMove) → EachCarries P C D R ms
      → EachCarries P C D R (filter q ms)
  carries_filter q [] h = tt
  carries_filter q (m ∷ ms) h = go (q m) (carries_filter q ms h.1)
    where
      go : (c : Bool) → EachCarries P C D R (filter q ms)
          → EachCarries P C D R (if c then m ∷ filter q ms else filter q ms)
      go true i = (h.0, i)
      go false i = i

  pub carries_order : (ms : List PlainMove) → EachCarries P C D R ms → EachCarries P C D R (in_order ms)
  carries_order ms h =
      carries_append (filter is_set ms ++ filter is_cc ms ++ filter is_store ms) (filter is_control ms)
      (carries_append (filter is_set ms ++ filter is_cc ms) (filter is_store ms)
      (carries_append (filter is_set ms) (filter is_cc ms) (carries_filter is_set ms h) (carries_filter is_cc ms h))
      (carries_filter is_store ms h)) (carries_filter is_control ms h)

  -- simplifying
  simple_carries : (m : PlainMove) → is_control m ≡ false → Carries P C D R m
      → EachCarries P C D R (simple_move words same_register m).got
  simple_carries (SetTo r t) n h = ((h.0, simple_leaves words same_register P t h.1), tt)
  simple_carries (CcTo t u) n h =
      ((simple_leaves words same_register P t h.0, simple_leaves words same_register P u h.1), tt)
  simple_carries (StoreTo t u) n h =
      ((simple_leaves words same_register P t h.0, simple_leaves words same_register P u h.1), tt)
  simple_carries (Ends e) n h = absurd (true≢false n)

  pub simplified_carries : (ms : List PlainMove) → list_any is_control ms ≡ false → EachCarries P C D R ms
      → EachCarries P C D R (simple_moves words same_register ms).got
  simplified_carries [] n h = tt
  simplified_carries (m ∷ ms) n h =
      let k = or_false (is_control m) (list_any is_control ms) n in
      carries_append (simple_move words same_register m).got (simple_moves words same_register ms).got
      (simple_carries m k.0 h.0) (simplified_carries ms k.1 h.1)

  decided_carries : (x y : PlainTerm) (rel : Rel) (l : Label) → EachLeaf P x → EachLeaf P y → D l
      → EachCarries P C D R (decided words same_register x y rel l).got
  decided_carries (Const c) (Const d) rel l h i k = go (rel_value rel c d)
    where
      go : (b : Bool) → EachCarries P C D R (if b then give {K = ℕ} (Ends (GoTo l) ∷ []) else give {K = ℕ} []).got
      go true = (k, tt)
      go false = tt
  decided_carries x y rel l h i k = ((h, i, k), tt)

  -- B has this of its leaves, and A none of what B reads
  module _ (P' : Place → Type 0) (C' : Type 0) (a : List PlainMove) (has : EachCarries P C D R a)
      (leaf : (p : Place) → P' p → right_at code_leaves p a ≡ None → P p) (on_cc : C' → cc_of a ≡ None → C) where
    right_leaves : (p : Place) (ms : List PlainMove) → EachCarries P C D R ms
        → Where (right_at code_leaves p ms) (EachLeaf P)
    right_leaves p [] h = tt
    right_leaves p (SetTo r t ∷ ms) h = go (same_register p (InReg r)) (right_leaves p ms h.1)
      where
        go : (b : Bool) → Where (right_at code_leaves p ms) (EachLeaf P)
            → Where (if b then Some t else right_at code_leaves p ms) (EachLeaf P)
        go true i = h.0.1
        go false i = i
    right_leaves p (CcTo t u ∷ ms) h = right_leaves p ms h.1
    right_leaves p (StoreTo t u ∷ ms) h = right_leaves p ms h.1
    right_leaves p (Ends e ∷ ms) h = right_leaves p ms h.1

    cc_leaves : (ms : List PlainMove) → EachCarries P C D R ms
        → Where (cc_of ms) (λ two. EachLeaf P two.0 × EachLeaf P two.1)
    cc_leaves [] h = tt
    cc_leaves (SetTo r t ∷ ms) h = cc_leaves ms h.1
    cc_leaves (CcTo t u ∷ ms) h = h.0
    cc_leaves (StoreTo t u ∷ ms) h = cc_leaves ms h.1
    cc_leaves (Ends e ∷ ms) h = cc_leaves ms h.1

    store_leaves : (ms : List PlainMove) → EachCarries P C D R ms
        → Where (store_of ms) (λ two. EachLeaf P two.0 × EachLeaf P two.1)
    store_leaves [] h = tt
    store_leaves (SetTo r t ∷ ms) h = store_leaves ms h.1
    store_leaves (CcTo t u ∷ ms) h = store_leaves ms h.1
    store_leaves (StoreTo t u ∷ ms) h = h.0
    store_leaves (Ends e ∷ ms) h = store_leaves ms h.1

    leaf_carries : (o : Option PlainTerm) (p : Place) → Where o (EachLeaf P) → P' p → right_at code_leaves p a ≡ o
        → EachLeaf P (right_or o p)
    leaf_carries None p h i e = leaf p i e
    leaf_carries (Some t) p h i e = h

    alias_carries : (e : Alias) (w q : PlainTerm) → EachLeaf P w → EachLeaf P q → Where (by_alias e w q) (EachLeaf P)
    alias_carries Same w q h i = h
    alias_carries Apart w q h i = i
    alias_carries Maybe w q h i = tt

    read_carries : (o : Option Two) (q : PlainTerm) → Where o (λ two. EachLeaf P two.0 × EachLeaf P two.1)
        → EachLeaf P q → Where (read_after words code_leaves o q).got (EachLeaf P)
    read_carries None q h i = i
    read_carries (Some two) q h i = alias_carries (alias_of words code_leaves two.0 q).got two.1 q h.1 i

    pub forward_leaves : (t : PlainTerm) → EachLeaf P' t → Where (forward words code_leaves a t).got (EachLeaf P)
    forward_leaves (Const c) h = tt
    forward_leaves (Leaf p) h = leaf_carries (right_at code_leaves p a) p (right_leaves p a has) h refl
    forward_leaves (Read x) h =
        some_where (EachLeaf P) (EachLeaf P) (forward words code_leaves a x)
        (λ q. read_after words code_leaves (store_of a) q) (forward_leaves x h)
        (λ q i. read_carries (store_of a) q (store_leaves a has) i)
    forward_leaves (Unary o x) h =
        some_where (EachLeaf P) (EachLeaf P) (forward words code_leaves a x)
        (λ t. some_of (unary_of words same_register o t)) (forward_leaves x h)
        (λ t i. unary_leaves words same_register P o t i)
    forward_leaves (Binary o x y) h =
        some_where (EachLeaf P) (EachLeaf P) (forward words code_leaves a x)
        (λ t. and_some (forward words code_leaves a y) (λ u. some_of (binary_of words same_register o t u)))
        (forward_leaves x h.0)
        (
        λ t i. some_where (EachLeaf P) (EachLeaf P) (forward words code_leaves a y)
        (λ u. some_of (binary_of words same_register o t u)) (forward_leaves y h.1)
        (λ u k. binary_leaves words same_register P o t u i k))

    two_carries : (t u : PlainTerm) (f : PlainTerm → PlainTerm → Met ℕ (Option (List PlainMove))) → EachLeaf P' t
        → EachLeaf P' u → ((x y : PlainTerm) → EachLeaf P x → EachLeaf P y → Where (f x y).got (EachCarries P C D R))
        → Where
        (and_some (forward words code_leaves a t) (λ x. and_some (forward words code_leaves a u) (λ y. f x y))).got
        (EachCarries P C D R)
    two_carries t u f h i k =
        some_where (EachLeaf P) (EachCarries P C D R) (forward words code_leaves a t)
        (λ x. and_some (forward words code_leaves a u) (λ y. f x y)) (forward_leaves t h)
        (λ x v. some_where (EachLeaf P) (EachCarries P C D R) (forward words code_leaves a u) (λ y. f x y)
        (forward_leaves u i) (λ y w. k x y v w))

    branch_carries : (o : Option Two) (rel : Rel) (l : Label) → Where o (λ two. EachLeaf P two.0 × EachLeaf P two.1)
        → cc_of a ≡ o → C' → D l → EachCarries P C D R (forward_branch words code_leaves o rel l).got
    branch_carries None rel l h e c d = ((on_cc c e, d), tt)
    branch_carries (Some two) rel l h e c d = decided_carries two.0 two.1 rel l h.0 h.1 d

    forward_carries : (m : PlainMove) → Carries P' C' D R m
        → Where (forward_move words code_leaves a m).got (EachCarries P C D R)
    forward_carries (SetTo q t) h =
        some_where (EachLeaf P) (EachCarries P C D R) (forward words code_leaves a t)
        (λ x. give (Some (SetTo q x ∷ []))) (forward_leaves t h.1) (λ x i. ((h.0, i), tt))
    forward_carries (CcTo t u) h =
        two_carries t u (λ x y. give (Some (CcTo x y ∷ []))) h.0 h.1 (λ x y i k. ((i, k), tt))
    forward_carries (StoreTo t u) h =
        two_carries t u (λ x y. give (Some (StoreTo x y ∷ []))) h.0 h.1 (λ x y i k. ((i, k), tt))
    forward_carries (Ends (IfTwo t u rel l)) h =
        two_carries t u (λ x y. some_of (decided words same_register x y rel l)) h.0 h.1
        (λ x y i k. decided_carries x y rel l i k h.2)
    forward_carries (Ends (IfCc rel l)) h = branch_carries (cc_of a) rel l (cc_leaves a has) refl h.0 h.1
    forward_carries (Ends (GoTo l)) h = (h, tt)
    forward_carries (Ends (CallOf f k)) h = absurd h
    forward_carries (Ends Return) h = absurd h

    pub forwarded_carries : (ms : List PlainMove) → EachCarries P' C' D R ms
        → Where (forward_moves words code_leaves a ms).got (EachCarries P C D R)
    forwarded_carries [] h = tt
    forwarded_carries (m ∷ ms) h =
        some_where (EachCarries P C D R) (EachCarries P C D R) (forward_move words code_leaves a m)
        (λ xs. and_some (forward_moves words code_leaves a ms) (λ ys. give (Some (xs ++ ys))))
        (forward_carries m h.0)
        (
        λ xs i. some_where (EachCarries P C D R) (EachCarries P C D R) (forward_moves words code_leaves a ms)
        (λ ys. give (Some (xs ++ ys))) (forwarded_carries ms h.1)
        (λ ys l. carries_append xs ys i l))
