use Rattle.po_compile.proofs.target.Target.new.Goals as goal

pub returns-clause-target : goal.returns-clause-target
returns-clause-target c = record { index = c.in_ok-index.ensures; templates = c.in_ok-templates.ensures }
