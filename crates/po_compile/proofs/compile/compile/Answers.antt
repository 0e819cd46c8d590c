use Rattle.po_compile.proofs.compile.compile.Goals as goal

pub returns-in-Ok : goal.returns-in-Ok
returns-in-Ok c = c.assembled.ensures c.args.text.now c.in-Ok.ensures.gives
