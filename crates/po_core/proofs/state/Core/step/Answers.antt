use Rattle.po_core.specs.Views.{core_of, event_of}
use Rattle.po_core.proofs.Kept.{kept_went}
use Rattle.po_core.proofs.state.Core.step.Goals as goal

pub returns-in-Ok-true-clause-kept : goal.returns-in-Ok-true-clause-kept
returns-in-Ok-true-clause-kept c = kept_went c.make.result (core_of c.args.self.now) (core_of c.make.new.self)
    (event_of c.args.e) c.make.ensures.canonical c.make.ensures.went c.requires.parts
