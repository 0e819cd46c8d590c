use Rattle.std.proofs.Common.{subst, List}
use Rattle.po_model.specs.declared.code.Block.{Block}
use Rattle.po_model.specs.Blocks.{code_of}
use Rattle.po_model.specs.Placement.{intervals, IsUncrowded}
use Rattle.po_assign.specs.declared.place.Placing.{Placing}
use Rattle.po_assign.specs.Places.{Places}
use Rattle.po_model.specs.UnitCodes.{flat}
use Rattle.po_assign.proofs.Lists.{all_of}
use Rattle.po_assign.proofs.Formed.{formed_few}
use Rattle.po_assign.proofs.unit.assign.Goals as goal

pub place_code-requires-clause-each : goal.place_code-requires-clause-each
place_code-requires-clause-each c = rw c.deref.ensures.value
    (formed_few (code_of c.args.u.code) c.requires.code.form.formed)

pub returns-in-Ok-Given-clause-uncrowded : goal.returns-in-Ok-Given-clause-uncrowded
returns-in-Ok-Given-clause-uncrowded c =
    let told = subst (λ (p : Placing). Places c.len.result (intervals (all_of c.deref.result.now)) p)
    c.in-Ok-Given.field-0-is c.in-Ok-Given.ensures in
    let at : IsUncrowded c.len.result (intervals (flat (code_of c.args.u.code))) =
    subst (λ (bs : List Block). IsUncrowded c.len.result (intervals (all_of bs))) c.deref.ensures.value told.0 in
    subst (λ k. IsUncrowded k (intervals (flat (code_of c.args.u.code)))) c.len.ensures at
