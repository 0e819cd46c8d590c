use Rattle.po_slow.specs.States.{scan_of}
use Rattle.po_core.proofs.Lists.{get_at}
use Rattle.po_core.proofs.Lifting.{ended_at, unchanged_at}
use Rattle.po_core.proofs.scans.end_scan.Goals as goal

pub next_block-requires-clause-at_end : goal.next_block-requires-clause-at_end
next_block-requires-clause-at_end c =
    c.requires.at_end _ (get_at scan_of c.args.scans.now c.args.at c.index-scans-at.result c.requires.inside)

pub returns-clause-ended : goal.returns-clause-ended
returns-clause-ended c = ended_at c.next_block.result c.args.scans.now c.args.at c.index-scans-at.result
    c.next_block.new.self c.requires.inside c.next_block.ensures.goes_on

pub returns-clause-unchanged : goal.returns-clause-unchanged
returns-clause-unchanged c = unchanged_at c.next_block.result c.args.scans.now c.args.at c.index-scans-at.result
    c.next_block.new.self c.next_block.ensures.unchanged
