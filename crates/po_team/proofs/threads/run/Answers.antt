use Rattle.std.proofs.Common.{rules, ◌≡◌, ◌∙◌, ℕ, All, IsSome, List, [], Option, length, map, subst, sym}
use denote.Param.Send.{sendable}
use Rattle.std.specs.Arc.{arc_value}
use Rattle.std.proofs.Crossing.{crosses}
use Rattle.po_model.specs.declared.code.UnitCode.{UnitCode}
use Rattle.po_model.specs.declared.machine.Machine.{Machine}
use Rattle.po_model.specs.Blocks.{code_of}
use Rattle.po_model.specs.Machines.{IsMachine}
use Rattle.po_model.specs.UnitCodes.{IsFormedCode}
use Rattle.po_queue.specs.Passes.{PassView, PostsView}
use Rattle.po_rule.specs.declared.miss.Miss.{Miss}
use Rattle.po_team.specs.declared.learners.LearnerSeat.{LearnerSeat}
use Rattle.po_team.specs.declared.workers.WorkerSeat.{WorkerSeat}
use Rattle.po_team.specs.Ends.{AreBack, passes_in}
use Rattle.po_team.specs.Seats.{HasLearned}
use Rattle.po_team.specs.Works.{GivesAt, HasPosted, taken_in, dropped_in}
use Rattle.po_team.proofs.Backs.{workers_back}
use Rattle.po_team.proofs.Seating.{all_of_each, each_of_all}
use Rattle.po_team.proofs.Crossing.{brief_send, learner_seat_send, learners_sync, worker_seat_send, workers_sync}
use Rattle.po_team.proofs.threads.run.Goals as goal

pub run_all-requires-send-J-Seat : goal.run_all-requires-send-J-Seat
run_all-requires-send-J-Seat g c κs within = search (worker_seat_send, crosses, sendable) depth 60 fits 20000

pub run_all-requires-send-J-Out : goal.run_all-requires-send-J-Out
run_all-requires-send-J-Out g c κs within = search (brief_send, crosses, sendable) depth 60 fits 20000

pub run_all-requires-send-S-Seat : goal.run_all-requires-send-S-Seat
run_all-requires-send-S-Seat g c κs within = search (learner_seat_send, crosses, sendable) depth 60 fits 20000

pub run_all-requires-sync-J : goal.run_all-requires-sync-J
run_all-requires-sync-J g c κs within = search (workers_sync, sendable) depth 60 fits 20000

pub run_all-requires-sync-S : goal.run_all-requires-sync-S
run_all-requires-sync-S g c κs within = search (learners_sync, sendable) depth 60 fits 20000

pub run_all-requires-clause-ready : goal.run_all-requires-clause-ready
run_all-requires-clause-ready g c κs within place s at =
    let queue = c.args.posts.now.queue in
    let Ready : WorkerSeat g.row.T.Denot g.row.L.Denot → Type 0 = λ s. IsSome s.way
    × (g.T.Lookup.machine s.empty ≡ g.L.StoreName.machine) × (g.T.Lookup.rules s.empty ≡ [])
    × HasPosted queue s.pass s.fulls 0 0 in
    let machine : c.new-job.result.machine.now ≡ arc_value c.args.machine.now = search rules in
    let ready : Ready s = each_of_all Ready c.args.workers.items c.requires.ready place s at in (
      subst IsMachine (sym machine) c.requires.described,
      subst (All (λ (u : UnitCode). IsFormedCode (code_of u.code))) (sym c.new-job.ensures.codes) c.requires.formed,
      ready.0,
      ready.1,
      ready.2,
      subst (λ (p : PostsView). HasPosted p.queue s.pass s.fulls 0 0) (sym c.new-job.ensures.posts) ready.3,
    )

pub run_all-requires-clause-seated : goal.run_all-requires-clause-seated
run_all-requires-clause-seated g c κs within place s at =
    let Learned : LearnerSeat g.row.L.Denot → Type 0 = λ s. HasLearned c.args.posts.now.queue s.pass s.share.parts
    s.share.amount s.refused in (
      search rules,
      subst (λ (p : PostsView). HasLearned p.queue s.pass s.share.parts s.share.amount s.refused)
          (sym c.new-study.ensures.posts) (each_of_all Learned c.args.learners.items c.requires.seated place s at),
    )

pub returns-clause-works : goal.returns-clause-works
returns-clause-works g c =
    let machine : c.new-job.result.machine.now ≡ arc_value c.args.machine.now = search rules in
    record {
      count = c.in_ok-ran.ensures.outs ∙ c.count-units.ensures;
      each = λ i w at. subst (λ (m : Machine). GivesAt m c.args.codes.now i w) machine
          (subst (λ (us : List UnitCode). GivesAt c.new-job.result.machine.now us i w) c.new-job.ensures.codes
          (c.in_ok-ran.ensures.gives i w at));
    }

pub returns-clause-back : goal.returns-clause-back
returns-clause-back g c =
    let pass : WorkerSeat g.row.T.Denot g.row.L.Denot → Option (PassView Miss) = λ s. s.pass in
    let fulls : WorkerSeat g.row.T.Denot g.row.L.Denot → ℕ = λ s. s.fulls in
    let ran = c.in_ok-ran.ran in
    let through = c.in_ok-ran.ensures.worked in
    let posts = c.new-job.ensures.posts in
    let queue = c.new-job.result.posts.now.queue in
    let back = workers_back queue pass fulls c.count-units.result (length c.args.workers.items)
    c.requires.workers.0 ran.outs.items ran.workers.items through.all
    (λ place s at. (through.good_seats place s at).5) in
    subst (λ (p : PostsView). AreBack p.queue (length c.args.workers.items) (taken_in ran.outs.items)
    (dropped_in ran.outs.items) (passes_in (map pass ran.workers.items))) posts
    (subst (λ (n : ℕ). AreBack queue n (taken_in ran.outs.items) (dropped_in ran.outs.items)
    (passes_in (map pass ran.workers.items))) c.in_ok-ran.ensures.workers back.0)

pub returns-clause-took : goal.returns-clause-took
returns-clause-took g c =
    let pass : WorkerSeat g.row.T.Denot g.row.L.Denot → Option (PassView Miss) = λ s. s.pass in
    let fulls : WorkerSeat g.row.T.Denot g.row.L.Denot → ℕ = λ s. s.fulls in
    let ran = c.in_ok-ran.ran in
    let through = c.in_ok-ran.ensures.worked in
    (workers_back c.new-job.result.posts.now.queue pass fulls c.count-units.result (length c.args.workers.items)
    c.requires.workers.0 ran.outs.items ran.workers.items through.all
    (λ place s at. (through.good_seats place s at).5)).1

pub returns-clause-learned : goal.returns-clause-learned
returns-clause-learned g c =
    let Learned : LearnerSeat g.row.L.Denot → Type 0 = λ s. HasLearned c.args.posts.now.queue s.pass s.share.parts
    s.share.amount s.refused in
    all_of_each Learned c.in_ok-ran.ran.learners.items
    (λ k s at. subst (λ (p : PostsView). HasLearned p.queue s.pass s.share.parts s.share.amount s.refused)
    c.new-study.ensures.posts (c.in_ok-ran.ensures.seated k s at).1)
