use Rattle.std.proofs.Common.{refl}
use Rattle.po_slow.proofs.Written.{cut_set}
use Rattle.po_slow.proofs.within.cut_within.Goals as goal

pub returns : goal.returns
returns c =
    cut_set c.args.blocks.now c.args.b c.args.done c.index-blocks-b.result _ c.requires refl c.truncate.ensures.items
