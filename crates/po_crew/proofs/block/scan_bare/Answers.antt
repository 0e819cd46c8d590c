use Rattle.po_crew.proofs.Working.{none_canonical}
use Rattle.po_crew.proofs.block.scan_bare.Goals as goal

pub compile_block-requires-clause-canonical : goal.compile_block-requires-clause-canonical
compile_block-requires-clause-canonical g c =
    none_canonical c.args.m.now (g.E.Lookup.rules c.args.empty.now) c.requires.empty
