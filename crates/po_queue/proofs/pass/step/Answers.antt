use Rattle.std.proofs.Common.{rules}
use Rattle.po_queue.proofs.Tallies.{tells}
use Rattle.po_queue.proofs.pass.step.Goals as goal

pub compare_exchange_as-requires : goal.compare_exchange_as-requires
compare_exchange_as-requires g c
    = (search rules, (search rules, (search rules, tells _ _ c.args.seen c.requires.some)))
