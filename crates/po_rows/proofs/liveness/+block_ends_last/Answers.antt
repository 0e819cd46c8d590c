use Rattle.std.proofs.Common.{refl, arith}
use Rattle.po_rows.proofs.Ends.{one_ends}
use Rattle.po_rows.proofs.liveness.+block_ends_last.Goals as goal

pub returns-in-len1 : goal.returns-in-len1
returns-in-len1 c = λ d.
    (λ t. one_ends d.args.xs.now (omega (arith, d.in-len1.len_at_least, d.in-len1.len_below)), λ e. refl)
