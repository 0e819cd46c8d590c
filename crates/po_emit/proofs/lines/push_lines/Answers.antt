use Rattle.std.proofs.Common.{◌∙◌, sym, arith}
use Rattle.po_model.specs.UnitCodes.{unit_of}
use Rattle.po_emit.specs.Regs.{machine_at}
use Rattle.po_emit.proofs.Turns.{lines_turn}
use Rattle.po_emit.proofs.Starts.{starts_more}
use Rattle.po_emit.proofs.Fitting.{fit_turn, fit_end}
use Rattle.po_emit.proofs.lines.push_lines.Goals as goal

pub loop-i-preserved : goal.loop-i-preserved
loop-i-preserved c = record {
  text = λ live b same.
      lines_turn c.args.m.now (machine_at c.args.regs.now) (unit_of c.args.u.now) live b c.args.xs.now c.loop-i.i
      c.index-xs-i.result c.deref.result.now
      c.cc_live_at.result c.loop-i.out.items c.push_line.new.out.items _ c.loop-i-test.true c.index-xs-i.is
      c.deref.ensures.value
      (c.cc_live_at.ensures ∙ sym (same c.loop-i.i)) c.in_ok-fits.ensures.ok
      (c.loop-i.invariant.text live b same);
  fits = λ all behind.
      let ands = c.both-all.ensures all in
      fit_turn c.args.m.now c.args.lives.now c.args.xs.now c.loop-i.i c.index-xs-i.result c.deref.result.now
      c.cc_live_at.result c.in_ok-fits.fits c.loop-i-test.true c.index-xs-i.is c.deref.ensures.value
      c.cc_live_at.ensures c.in_ok-fits.ensures.fits ands.1 (c.loop-i.invariant.fits ands.0) behind;
  kept = starts_more _ _ _ _ c.loop-i.invariant.kept c.in_ok-fits.ensures.ok;
}

pub returns-clause-fits : goal.returns-clause-fits
returns-clause-fits c = λ all. fit_end c.args.m.now c.args.lives.now c.args.xs.now c.loop-i.i
    (omega (arith, c.loop-i-test.false)) (c.loop-i.invariant.fits all)
