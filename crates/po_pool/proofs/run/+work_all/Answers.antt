use Rattle.std.proofs.Common.{rules, ◌≡◌, ◌+◌, ◌∷◌, [], length, ap, arith}
use Rattle.std.proofs.lemmas.List.{length-append}
use Rattle.po_pool.specs.Worked.{IsThrough}
use Rattle.po_pool.proofs.Throughs.{next_through, next_count}
use Rattle.po_pool.proofs.run.+work_all.Goals as goal

pub returns-in_ok-mine-in-Ok-clause-worked : goal.returns-in_ok-mine-in-Ok-clause-worked
returns-in_ok-mine-in-Ok-clause-worked g t c =
    let first = c.in_ok-others-in-Ok.field-0 in
    let mine = c.in_ok-mine-in-Ok.field-0 in
    let place : length first.seats.items ≡ c.len-place.result = search rules in
    let through : IsThrough (g.J.Job.good c.args.job.now) (g.J.Job.gives c.args.job.now) c.len-place.result
    c.range_of-from.result.0 c.range_of-from.result.1 mine.seat mine.outs.items = search rules in
    next_through (g.J.Job.good c.args.job.now) (g.J.Job.gives c.args.job.now) c.args.units c.args.workers
    c.len-place.result c.range_of-from.result.0 c.range_of-from.result.1 first mine.outs.items mine.seat
    c.joined.result c.requires.workers.2 place c.range_of-from.ensures.value.0 c.range_of-from.ensures.value.1
    c.in_ok-others-in-Ok.ensures.worked through c.joined.ensures.seats c.joined.ensures.outs

pub returns-in_ok-mine-in-Err-clause-seats : goal.returns-in_ok-mine-in-Err-clause-seats
returns-in_ok-mine-in-Err-clause-seats g t c =
    let first = c.in_ok-others-in-Err.field-0 in
    let count : length first.seats.items + 1 ≡ length c.args.seats.items = omega (
      arith,
      c.in_ok-others-in-Err.ensures.seats,
      ap length c.in-Some.ensures.items,
      length-append c.pop.new.self.items (c.in-Some.seat ∷ []),
    ) in
    next_count (length c.args.seats.items) first.seats.items c.in_ok-mine-in-Err.field-0.seat c.joined-in-Err.result
    count c.joined-in-Err.ensures.seats

pub returns-in_ok-mine-in-Err-clause-worked : goal.returns-in_ok-mine-in-Err-clause-worked
returns-in_ok-mine-in-Err-clause-worked g t c =
    let first = c.in_ok-others-in-Err.field-0 in
    let mine = c.in_ok-mine-in-Err.field-0 in
    let place : length first.seats.items ≡ c.len-place.result = search rules in
    let through : IsThrough (g.J.Job.good c.args.job.now) (g.J.Job.gives c.args.job.now) c.len-place.result
    c.range_of-from.result.0 c.range_of-from.result.1 mine.seat mine.outs.items = search rules in
    next_through (g.J.Job.good c.args.job.now) (g.J.Job.gives c.args.job.now) c.args.units c.args.workers
    c.len-place.result c.range_of-from.result.0 c.range_of-from.result.1 first mine.outs.items mine.seat
    c.joined-in-Err.result c.requires.workers.2 place c.range_of-from.ensures.value.0 c.range_of-from.ensures.value.1
    c.in_ok-others-in-Err.ensures.worked through c.joined-in-Err.ensures.seats c.joined-in-Err.ensures.outs
