use Rattle.std.proofs.Common.{◌++◌, ◌∙◌, ap, ℕ, List}
use Rattle.po_term.specs.Moves.{moves_of}
use Rattle.po_model.specs.Fit.{fit}
use Rattle.po_recog.specs.Operands.{fit_from}
use Rattle.po_model.specs.UnitCodes.{unit_of}
use Rattle.po_emit.specs.Regs.{machine_at}
use Rattle.po_emit.proofs.Operands.{line_seen}
use Rattle.po_emit.proofs.Fitting.{seen, unseen}
use Rattle.po_emit.proofs.lines.push_line.Goals as goal

pub returns-in_ok-push_entry-in-Some-clause-ok : goal.returns-in_ok-push_entry-in-Some-clause-ok
returns-in_ok-push_entry-in-Some-clause-ok c =
    let fits = c.in-Some.ensures in
    let line =
    line_seen c.args.m.now (machine_at c.args.regs.now) (unit_of c.args.u.now)
    (c.in-Some.entry, c.recognise_in.new.slots)
    (fit c.args.m.now c.args.cc_live (moves_of c.args.xs.now)) fits in
    c.in_ok-push_entry-in-Some.ensures.ok ∙ ap (λ (t : List ℕ). c.args.out.now.items ++ t) line

pub returns-in_ok-push_entry-in-Some-clause-fits : goal.returns-in_ok-push_entry-in-Some-clause-fits
returns-in_ok-push_entry-in-Some-clause-fits c = seen fit_from
    (fit c.args.m.now c.args.cc_live (moves_of c.args.xs.now)) (c.in-Some.entry, c.recognise_in.new.slots)
    c.in-Some.ensures

pub returns-in-None-clause-fits : goal.returns-in-None-clause-fits
returns-in-None-clause-fits c = unseen fit_from (fit c.args.m.now c.args.cc_live (moves_of c.args.xs.now))
    c.in-None.ensures
