use Rattle.std.proofs.Common.{◌≡◌, ◌≢◌, ◌++◌, ◌∷◌, [], ◌∙◌, ap, subst, All, slice_get, Some}
use mathlib.Core.Logic.{inl, inr}
use Rattle.po_model.specs.Holed.{rule_of}
use Rattle.po_rule.specs.Adding.{Refused}
use Rattle.po_rule.specs.declared.refusal.AddRefusal.TheVariants as refusal
use Rattle.po_table.specs.Tables.{shared}
use Rattle.po_core.proofs.Stating.{contains_at, learns_known, learns_fresh}
use Rattle.po_core.proofs.rules.add_rule.Goals as goal

pub returns-in_ok-push_rule-in-Ok-clause-went : goal.returns-in_ok-push_rule-in-Ok-clause-went
returns-in_ok-push_rule-in-Ok-clause-went c =
    let rs = shared c.args.rules.now.items in
    let r = rule_of c.args.l.now.1 in
    let none : All (λ s. s ≢ r) rs = subst (λ xs. All (λ s. s ≢ r) (shared xs)) c.deref.ensures.value
    c.in-Ok.ensures.fresh in
    let pushed : shared c.push_rule.new.rules.items ≡ rs ++ r ∷ []
    = c.in_ok-push_rule-in-Ok.ensures.pushed ∙ ap (λ q. rs ++ rule_of q ∷ []) c.rule.ensures.is_it in
    (c.in-Ok.ensures.same, (inr none, learns_fresh rs (shared c.push_rule.new.rules.items) r none pushed))

pub returns-in-Err-Known-clause-went : goal.returns-in-Err-Known-clause-went
returns-in-Err-Known-clause-went c =
    let rs = shared c.args.rules.now.items in
    let r = rule_of c.args.l.now.1 in
    let place = c.in-Err-Known.field-0-0 in
    let k : Refused c.args.machine.now (shared c.deref.result.now) c.args.l.now.0 r (refusal.Known place)
    = rw c.in-Err-Known.field-0-is at c.in-Err-Known.ensures.refused in
    let one = contains_at rs place r (subst (λ xs. slice_get (shared xs) place ≡ Some r) c.deref.ensures.value k.1) in
    (k.0, (inl one, learns_known rs r one))
