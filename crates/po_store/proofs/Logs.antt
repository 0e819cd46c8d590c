-- A log that gets one entry more.
use Rattle.std.proofs.Common.{◌≡◌, ℕ, zero, suc, ◌+◌, ◌<◌, ◌⊎◌, inl, inr, ⊎_elim, List, [], ◌∷◌, ◌++◌, length, Some}
use Rattle.std.proofs.Common.{slice_get, refl, ap, sym, ◌∙◌, subst, arith, length-append}
use Rattle.po_model.specs.declared.pair.Pair.{Pair}
use Rattle.po_model.specs.Pairs.{pair_of, WellFormedPair}
use Rattle.po_model.specs.Holed.{PlainRule}
use Rattle.po_model.specs.Agrees.{Instance}
use Rattle.po_store.specs.declared.publisher.Entry.{Entry}
use Rattle.po_store.specs.Published.{StandsAt}
use Rattle.po_store.specs.Logged.{IsEntry, Logged, entry}

get_more : {A : Type 0} (xs ys : List A) (i : ℕ) (a : A) → slice_get xs i ≡ Some a → slice_get (xs ++ ys) i ≡ Some a
get_more [] ys i a e = absurd (cc e)
get_more (x ∷ xs) ys zero a e = e
get_more (x ∷ xs) ys (suc i) a e = get_more xs ys i a e

get_last : {A : Type 0} (xs : List A) (y : A) → slice_get (xs ++ y ∷ []) (length xs) ≡ Some y
get_last [] y = refl
get_last (x ∷ xs) y = get_last xs y

get_split : {A : Type 0} (xs : List A) (y : A) (i : ℕ) (a : A) → slice_get (xs ++ y ∷ []) i ≡ Some a
    → (slice_get xs i ≡ Some a) ⊎ ((i ≡ length xs) × (y ≡ a))
get_split [] y zero a e = inr (refl, cc e)
get_split [] y (suc i) a e = absurd (cc e)
get_split (x ∷ xs) y zero a e = inl e
get_split (x ∷ xs) y (suc i) a e =
    ⊎_elim inl (λ (t : (i ≡ length xs) × (y ≡ a)). inr (ap suc t.0, t.1)) (get_split xs y i a e)

below_next : (k n : ℕ) → k < n + 1 → (k < n) ⊎ (k ≡ n)
below_next k zero lt = inr (omega arith)
below_next zero (suc n) lt = inl (omega arith)
below_next (suc k) (suc n) lt =
    ⊎_elim (λ (a : k < n). inl (omega arith)) (λ (b : k ≡ n). inr (ap suc b)) (below_next k n (omega arith))

-- an entry stays one when the list grows
entry_more : (rules more : List PlainRule) (e : Entry) → IsEntry rules e → IsEntry (rules ++ more) e
entry_more rules more e is = record {
  rule = is.rule;
  stands = get_more rules more e.place is.rule is.stands;
  formed = is.formed;
  instance = is.instance;
}

module _ (log : List Entry) (pair : Pair) (r : PlainRule)
    (formed : WellFormedPair (pair_of pair)) (is : Instance r (pair_of pair)) where
  known : (rules : List PlainRule) (place : ℕ) → Logged rules log → slice_get rules place ≡ Some r
      → Logged rules (log ++ entry pair place ∷ [])
  known rules place l at = record {
    entries = λ i e g. ⊎_elim (λ was. l.entries i e was)
        (λ (t : (i ≡ length log) × (entry pair place ≡ e)).
        subst (λ (f : Entry). IsEntry rules f) t.1
        (record { rule = r; stands = at; formed = formed; instance = is }))
        (get_split log (entry pair place) i e g);
    places = λ k lt. let o = l.places k lt in
        (o.0, o.1, get_more log (entry pair place ∷ []) o.0 o.1 o.2, o.3);
  }

  fresh : (rules : List PlainRule) → Logged rules log
      → Logged (rules ++ r ∷ []) (log ++ entry pair (length rules) ∷ [])
  fresh rules l = record {
    entries = λ i e g. ⊎_elim (λ was. entry_more rules (r ∷ []) e (l.entries i e was))
        (λ (t : (i ≡ length log) × (entry pair (length rules) ≡ e)).
        subst (λ (f : Entry). IsEntry (rules ++ r ∷ []) f) t.1
        (record { rule = r; stands = get_last rules r; formed = formed; instance = is }))
        (get_split log (entry pair (length rules)) i e g);
    places = λ k lt. last_or k (below_next k (length rules) (omega (arith, length-append rules (r ∷ []))));
  }
    where
      last_or : (k : ℕ) → (k < length rules) ⊎ (k ≡ length rules)
          → (i : ℕ) × (e : Entry) × (slice_get (log ++ entry pair (length rules) ∷ []) i ≡ Some e) × (e.place ≡ k)
      last_or k (inl lt) = let o = l.places k lt in
          (o.0, o.1, get_more log (entry pair (length rules) ∷ []) o.0 o.1 o.2, o.3)
      last_or k (inr e) = (length log, entry pair (length rules), get_last log (entry pair (length rules)), sym e)

  pub logged_next : (old new : List PlainRule) (place : ℕ) → Logged old log → StandsAt old r place new
      → Logged new (log ++ entry pair place ∷ [])
  logged_next old new place l (inl s) =
      subst (λ (rules : List PlainRule). Logged rules (log ++ entry pair place ∷ [])) (sym s.0) (known old place l s.1)
  logged_next old new place l (inr s) =
      subst (λ (rules : List PlainRule). Logged rules (log ++ entry pair place ∷ [])) (sym s.0)
      (subst (λ (k : ℕ). Logged (old ++ r ∷ []) (log ++ entry pair k ∷ [])) (sym s.1) (fresh old l))
