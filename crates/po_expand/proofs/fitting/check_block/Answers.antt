use Rattle.std.proofs.Common.{refl, below_more, ◌∙◌, ◌≡◌, true, false}
use Rattle.po_term.specs.Moves.{instrs_of}
use Rattle.po_expand.specs.Checks.{fits_in}
use Rattle.po_expand.proofs.Recognised.{fits_there, is_there}
use Rattle.po_expand.proofs.fitting.check_block.Goals as goal

pub returns-then-not-fits : goal.returns-then-not-fits
returns-then-not-fits c = (
  refl,
  record {
    there = is_there c.args.instrs.now c.loop-i.i c.loop-i-test.true;
    unfit =
        fits_there c.args.m.now c.args.lives.now c.args.instrs.now c.loop-i.i c.index-instrs-i.result false
        c.fits.result
        c.loop-i-test.true c.requires.lengths c.index-instrs-i.is c.fits.ensures ∙ c.if-not-fits.true;
    before = c.loop-i.invariant;
  },
)

pub loop-i-preserved : goal.loop-i-preserved
loop-i-preserved c =
    below_more (λ j. fits_in c.args.m.now c.args.lives.now (instrs_of c.args.instrs.now) j ≡ true) c.loop-i.i
    c.loop-i.invariant
    (fits_there c.args.m.now c.args.lives.now c.args.instrs.now c.loop-i.i c.index-instrs-i.result false c.fits.result
    c.loop-i-test.true c.requires.lengths c.index-instrs-i.is c.fits.ensures ∙ c.if-not-fits.false)
