use Rattle.std.proofs.Common.{rules, ◌≡◌, ◌∙◌, ◌+◌, [], ◌∷◌, ◌++◌, length, IsSome, subst, All, ap, arith, refl}
use Rattle.po_queue.specs.Passes.{PassView, new_pass}
use Rattle.po_rule.specs.declared.miss.Miss.{Miss}
use Rattle.po_team.specs.declared.workers.WorkerSeat.{WorkerSeat}
use Rattle.po_team.specs.Works.{HasPosted}
use Rattle.po_team.proofs.Seating.{all_left, all_last, all_push, fresh_posted, push_length}
use Rattle.po_team.proofs.seats.worker_seats.Goals as goal

pub loop-reader-preserved : goal.loop-reader-preserved
loop-reader-preserved g c =
    let queue = c.args.posts.now.queue in
    let Fresh : PassView Miss → Type 0 = λ p. p ≡ new_pass queue in
    let Ready : WorkerSeat g.row.T.Denot g.row.L.Denot → Type 0 = λ s. IsSome s.way
    × (g.T.Lookup.machine s.empty ≡ g.L.StoreName.machine) × (g.T.Lookup.rules s.empty ≡ [])
    × HasPosted queue s.pass s.fulls 0 0 in
    let all : All Fresh (c.pop.new.self.items ++ c.in-Some-pop.pass ∷ []) =
    subst (All Fresh) c.in-Some-pop.ensures.items c.loop-reader.invariant.2 in
    let seats = c.loop-reader.seats.items in
    let rest = c.next.new.self.rest.items in
    let next : c.loop-reader.reader-iterator.rest.items ≡ c.in-Some.reader ∷ rest = search rules in
    let pushed : length c.push_worker.new.seats.items ≡ length seats + 1 =
    push_length Ready seats c.push_worker.new.seats.items _ c.in_ok-push_worker.ensures in
    let popped : length c.loop-reader.passes.items ≡ length c.pop.new.self.items + 1 =
    push_length Fresh c.pop.new.self.items c.loop-reader.passes.items c.in-Some-pop.pass c.in-Some-pop.ensures.items in
    let before : length seats + length c.loop-reader.reader-iterator.rest.items ≡ length c.args.readers.items =
    c.loop-reader.invariant.3 in
    let held : length c.loop-reader.passes.items + length seats ≡ length c.args.passes.now.items =
    c.loop-reader.invariant.4 in
    let count : length c.push_worker.new.seats.items + length rest ≡ length c.args.readers.items =
    omega (arith, pushed, ap length next, before) in
    let left : length c.pop.new.self.items + length c.push_worker.new.seats.items ≡ length c.args.passes.now.items =
    omega (arith, pushed, popped, held) in (
      tt,
      tt,
      all_left Fresh c.pop.new.self.items (c.in-Some-pop.pass ∷ []) all,
      count,
      left,
      all_push Ready c.loop-reader.seats.items c.push_worker.new.seats.items _ c.in_ok-push_worker.ensures
          c.loop-reader.invariant.5 (
            refl,
            c.in_ok-empty.ensures.machine ∙ c.in_ok-share.ensures ∙ c.requires.named,
            c.in_ok-empty.ensures.rules,
            fresh_posted queue c.in-Some-pop.pass (all_last Fresh c.pop.new.self.items c.in-Some-pop.pass all),
          ),
    )
