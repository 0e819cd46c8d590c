use Rattle.std.proofs.Common.{◌<◌, length, map, Some, sym, ap, arith}
use Rattle.std.proofs.lemmas.List.{map-set}
use Rattle.po_model.specs.Pairs.{pair_of}
use Rattle.po_model.specs.Learning.{take_from}
use Rattle.po_core.specs.Views.{core_of, held_of}
use Rattle.po_core.proofs.Stating.{first_of, held_none, not_empty, with_held}
use Rattle.po_core.proofs.state.Core.take.Goals as goal

pub returns-clause-went : goal.returns-clause-went
returns-clause-went c =
    let s = c.args.self.now in
    let after = c.pop_front.new.self.items in
    let e = first_of s.queue.items after c.pop_front.result c.in-Some.p c.pop_front.ensures.items c.in-Some.is in
    let h : c.args.learner < length s.held.items = omega arith in (
      (
        held_none s.held.items c.args.learner c.index.result.now h c.index.ensures (sym c.if-is_some.ensures),
        not_empty (map pair_of s.queue.items) (map pair_of after) (pair_of c.in-Some.p) e,
      ),
      (
        pair_of c.in-Some.p,
        ap take_from e,
        with_held (record (core_of s) { queue = map pair_of after }) _ _
            (map-set held_of s.held.items c.args.learner (Some c.in-Some.p)),
      ),
    )
