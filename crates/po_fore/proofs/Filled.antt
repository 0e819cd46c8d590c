-- Each hole of a canonical rule's result has a value in each instance of the rule.
use Rattle.std.proofs.Common.{subst}
use Rattle.po_model.specs.declared.machine.Machine.{Machine}
use Rattle.po_model.specs.Agrees.{Instance}
use Rattle.po_model.specs.Canonical.{Canonical}
use Rattle.po_model.specs.Holed.{PlainRule}
use Rattle.po_model.specs.Machines.{IsMachine}
use Rattle.po_model.specs.Pairs.{PlainPair, WellFormedPair}
use Rattle.po_model.specs.Put.{HasValues}
use Rattle.po_model.specs.Shape.{pair_values}
use Rattle.po_general.proofs.Filled.{result_has_values}

pub instance_filled : (m : Machine) (r : PlainRule) (p : PlainPair) → IsMachine m → Canonical m r → WellFormedPair p
    → Instance r p → HasValues (pair_values p) r.result
instance_filled m r p is canonical formed instance =
    subst (λ q. HasValues (pair_values p) q.result) (canonical.rule p formed instance)
    (result_has_values m is p formed)
