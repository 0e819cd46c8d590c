use Rattle.std.proofs.Common.{refl, arith}
use Rattle.po_tally.proofs.Joining.{counted_at}
use Rattle.po_tally.proofs.tally.count_at.Goals as goal

pub returns : goal.returns
returns c =
    counted_at c.args.tallies.now.items c.args.tally c.index.result.now c.index_mut.result.now c.args.place (_)
    c.requires c.index.ensures c.index_mut.ensures.value refl
    (omega (arith, c.in_ok-tallies.ensures, c.in_ok-others.ensures))
