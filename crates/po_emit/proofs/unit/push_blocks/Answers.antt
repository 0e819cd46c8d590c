use Rattle.std.proofs.Common.{◌≡◌, ℕ, ◌<◌, Bool, List, length, get_or, sym, ap, refl, ◌++◌, arith}
use Rattle.po_live.specs.Flags.{flag_at, flags_at}
use Rattle.po_model.specs.UnitCodes.{unit_of}
use Rattle.po_term.specs.Moves.{instrs_of}
use Rattle.po_model.specs.Assembly.{label_line, lines_from}
use Rattle.po_emit.specs.Regs.{machine_at}
use Rattle.po_emit.proofs.Turns.{blocks_turn}
use Rattle.po_emit.proofs.Starts.{starts_more}
use Rattle.po_emit.proofs.Fitting.{blocks_fit_turn, blocks_fit_end}
use Rattle.po_emit.proofs.unit.push_blocks.Goals as goal

pub loop-b-preserved : goal.loop-b-preserved
loop-b-preserved c =
    let bs = c.args.u.now.code.blocks.items in
    let j = c.loop-b.b in
    let block = c.block-item.result in
    let live : ℕ → ℕ → Bool = λ b i. flag_at (flags_at c.args.lives.now b) i in
    let h : j < length bs = rw (← c.deref-block-items.ensures.value) c.loop-b-test.true in
    let e : block ≡ get_or bs j block = rw (← c.deref-block-items.ensures.value) c.block-item.is in
    let there = λ (i : ℕ). ap (λ (fs : List Bool). flag_at fs i) (sym c.flags_at.ensures) in
    let out = c.loop-b.out.items in
    let label = label_line (unit_of c.args.u.now) block.label in
    let lines =
    lines_from c.args.m.now (machine_at c.args.regs.now) (unit_of c.args.u.now) live j 0
    (instrs_of block.instrs.items) in
    let added : c.push_block.new.out.items ≡ out ++ label ++ lines = c.in_ok-fits.ensures.ok live j there in
    record {
      text =
          blocks_turn c.args.m.now (machine_at c.args.regs.now) (unit_of c.args.u.now) live bs j block out
          c.push_block.new.out.items _ h e added c.loop-b.invariant.text;
      fits = λ all behind.
          let ands = c.both-all.ensures all in
          blocks_fit_turn c.args.m.now c.args.lives.now bs j block c.flags_at.result.now h e c.flags_at.ensures
          (c.in_ok-fits.ensures.fits ands.1) (c.loop-b.invariant.fits ands.0) behind;
      kept = starts_more _ lines (out ++ label) _ (starts_more _ label out _ c.loop-b.invariant.kept refl) added;
    }

pub returns-clause-fits : goal.returns-clause-fits
returns-clause-fits c = λ all. blocks_fit_end c.args.m.now c.args.lives.now c.args.u.now.code.blocks.items c.loop-b.b
    (omega (arith, c.loop-b-test.false)) (c.loop-b.invariant.fits all)
