-- What an instance of a canonical rule has.
use Rattle.std.proofs.Common.{subst}
use Rattle.po_model.specs.declared.machine.Machine.{Machine}
use Rattle.po_model.specs.Machines.{IsMachine}
use Rattle.po_model.specs.Pairs.{PlainPair, WellFormedPair}
use Rattle.po_model.specs.Holed.{PlainRule}
use Rattle.po_model.specs.Shape.{pair_values}
use Rattle.po_model.specs.Put.{HasValues}
use Rattle.po_model.specs.Agrees.{Instance}
use Rattle.po_model.specs.Canonical.{Canonical}
use Rattle.po_general.proofs.Filled.{result_has_values}

-- each hole of a canonical rule's result has its value in an instance
pub has_values : (m : Machine) (r : PlainRule) (p : PlainPair) → IsMachine m → Canonical m r → WellFormedPair p
    → Instance r p
    → HasValues (pair_values p) r.result
has_values m r p machine c formed i =
    subst (λ s. HasValues (pair_values p) s.result) (c.rule p formed i) (result_has_values m machine p formed)
