-- The published list, when a rule joins it.
use Rattle.std.proofs.Common.{◌≡◌, ◌≢◌, ℕ, zero, suc, ◌<◌, ◌⊎◌, inl, inr, List, [], ◌∷◌, ◌++◌, length, Some, slice_get}
use Rattle.std.proofs.Common.{refl, ap, sym, ◌∙◌, subst, arith, slice_index_or, All}
use Rattle.std.proofs.lemmas.List.{append-nil, map_push}
use Rattle.std.proofs.lemmas.List.Elements.{All-push}
use Rattle.std.proofs.lemmas.List.Quantifiers.{all_pairs_push}
use Rattle.po_model.specs.declared.machine.Machine.{Machine}
use Rattle.po_model.specs.declared.rule.Rule.{Rule}
use Rattle.po_model.specs.Holed.{PlainRule, rule_of}
use Rattle.po_model.specs.Canonical.{Canonical}
use Rattle.po_rule.specs.Adding.{Added}
use Rattle.po_store.specs.Published.{plain, AreGood, StandsAt, Publishes}

pub good_next : (m : Machine) (rules : List PlainRule) (r : PlainRule) → AreGood m rules → Canonical m r
    → All (λ s. s ≢ r) rules → AreGood m (rules ++ r ∷ [])
good_next m rules r good canonical new = record {
  canonical = All-push (Canonical m) rules r good.canonical canonical;
  distinct = all_pairs_push (λ s t. s ≢ t) rules r good.distinct new;
}

at_place : {A : Type 0} (xs : List A) (k : ℕ) (x d : A) → slice_get xs k ≡ Some x
    → (k < length xs) × (slice_index_or xs k d ≡ x)
at_place [] k x d e = absurd (cc e)
at_place (y ∷ xs) zero x d e = (omega arith, cc e)
at_place (y ∷ xs) (suc k) x d e = let r = at_place xs k x d e in (omega arith, r.1)

pub publishes : (old : List PlainRule) (r : PlainRule) (place : ℕ) (new : List PlainRule) → StandsAt old r place new
    → Publishes old r new
publishes old r place new (inl s) = record {
  pending = [];
  learned = record {
    known = λ has. refl;
    fresh = λ none.
        let at = at_place old place r r s.1 in
        absurd (subst (λ (xs : List PlainRule). All (λ s. s ≢ r) xs) (append-nil old) none place r at.0 at.1);
  };
  published = s.0 ∙ sym (append-nil old);
}
publishes old r place new (inr s) = record {
  pending = r ∷ [];
  learned = record {
    known = λ has.
        let here : (k : ℕ) × (k < length old) × (slice_index_or old k r ≡ r)
        = subst (λ (xs : List PlainRule). (k : ℕ) × (k < length xs) × (slice_index_or xs k r ≡ r))
        (append-nil old) has in
        absurd (s.2 here.0 r here.1 here.2);
    fresh = λ none. refl;
  };
  published = s.0;
}

-- a version's rules and those of its front, when a rule is put behind both
pub version_next : (m : Machine) (old : List Rule) (r : Rule) (rules : List PlainRule) → AreGood m (plain old)
    → Canonical m (rule_of r) → Added m (plain old) m (rule_of r) rules
    → (rules ≡ plain (old ++ r ∷ [])) × AreGood m (plain (old ++ r ∷ []))
version_next m old r rules good canonical added =
    let e : plain (old ++ r ∷ []) ≡ plain old ++ rule_of r ∷ [] = map_push rule_of old r in (
      added.behind ∙ sym e,
      subst (AreGood m) (sym e) (good_next m (plain old) (rule_of r) good canonical added.fresh),
    )
