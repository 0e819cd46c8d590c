use Rattle.po_compile.proofs.Assembled.{begun_so}
use Rattle.po_compile.proofs.begun.begin.Goals as goal

pub returns-in-Ok-clause-begun : goal.returns-in-Ok-clause-begun
returns-in-Ok-clause-begun c = begun_so c.args.text.now c.in-Ok.program c.prepare.result c.in-Ok.ensures.gives
    c.prepare.ensures.machine c.prepare.ensures.naive c.prepare.ensures.fits c.prepare.ensures.formed
