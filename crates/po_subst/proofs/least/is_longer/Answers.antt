use Rattle.std.proofs.Common.{arith}
use Rattle.po_term.specs.Moves.{instr_of}
use Rattle.po_subst.specs.Seen.{is_among}
use Rattle.po_subst.proofs.Counted.{below, too_long}
use Rattle.po_subst.proofs.least.is_longer.Goals as goal

pub returns-then-kept-most : goal.returns-then-kept-most
returns-then-kept-most c =
    λ e. let more = below _ _ e in
    too_long c.args.most (is_among c.args.live.now) c.args.cc_live (instr_of c.args.a.now) (instr_of c.args.b.now)
    (omega (arith, more, c.staying-kept.ensures))

pub returns-else-kept-most : goal.returns-else-kept-most
returns-else-kept-most c =
    λ e. let more = below _ _ e in
    too_long c.args.most (is_among c.args.live.now) c.args.cc_live (instr_of c.args.a.now) (instr_of c.args.b.now)
    (omega (arith, more, c.staying-kept.ensures, c.coming.ensures))
