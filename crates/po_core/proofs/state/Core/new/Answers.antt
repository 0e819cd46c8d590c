use Rattle.std.proofs.Common.{map}
use Rattle.std.specs.Arc.{arc_value}
use Rattle.po_core.specs.Views.{core_of, codes_of}
use Rattle.po_core.proofs.Starting.{new_kept}
use Rattle.po_core.proofs.state.Core.new.Goals as goal

pub returns-clause-parts : goal.returns-clause-parts
returns-clause-parts c = new_kept (arc_value c.args.machine) (map codes_of c.args.units.items) c.args.learners
    c.args.room
    (core_of c.in_ok-core.core) c.requires.machine c.requires.codes c.in_ok-core.ensures.is_new
