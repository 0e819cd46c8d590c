use Rattle.std.proofs.Common.{ℕ, sym, subst}
use Rattle.po_model.specs.declared.pair.Pair.{Pair}
use Rattle.po_queue.specs.Passes.{PassView}
use Rattle.po_crew.specs.Units.{misses_in}
use Rattle.po_team.specs.Works.{Puts}
use Rattle.po_team.proofs.Posting.{post_puts}
use Rattle.po_team.proofs.workers.counted.Goals as goal

pub returns-clause-puts : goal.returns-clause-puts
returns-clause-puts g c =
    let work = c.in-Ok.done.0 in
    let old = c.args.post in
    let new = c.work_unit.new.post in
    subst (λ (p : PassView Pair). Puts old.pass old.fulls p c.into_parts-pass.result.1 work.taken work.dropped)
    (sym c.into_parts-pass.ensures.is_it.0)
    (subst (λ (n : ℕ). Puts old.pass old.fulls new.pass n work.taken work.dropped)
    (sym c.into_parts-pass.ensures.is_it.1)
    (post_puts (misses_in work.reports.items) old new work.taken work.dropped c.in-Ok.ensures.posted
    c.in-Ok.ensures.post_home c.into_parts-pass.ensures.full))
