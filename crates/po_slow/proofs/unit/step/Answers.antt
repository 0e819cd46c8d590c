use Rattle.po_slow.proofs.Steps.{one_tried}
use Rattle.po_slow.proofs.unit.step.Goals as goal

pub returns-in_ok-try_pair-in-Ready-clause-steps : goal.returns-in_ok-try_pair-in-Ready-clause-steps
returns-in_ok-try_pair-in-Ready-clause-steps g c =
    one_tried _ _ _ _ _ c.in_ok-try_pair-in-Ready.ensures.tried c.in_ok-try_pair-in-Ready.ensures.counted
