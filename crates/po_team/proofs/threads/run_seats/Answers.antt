use Rattle.std.proofs.Common.{◌≡◌, ◌∙◌, ℕ, ◌+◌, ◌≤◌, ◌++◌, All, List, length, map, subst, sym, ap, arith}
use Rattle.std.specs.List.{sum_by}
use Rattle.std.proofs.lemmas.List.{length-map}
use Rattle.std.proofs.lemmas.List.Elements.{All-map}
use Rattle.std.proofs.lemmas.List.Sums.{sum_by-append}
use Rattle.std.specs.declared.sync.ledger.Share.{Share}
use Rattle.po_queue.specs.Passes.{PassView}
use Rattle.po_rule.specs.declared.miss.Miss.{Miss}
use Rattle.po_team.specs.declared.learners.LearnerSeat.{LearnerSeat}
use Rattle.po_team.specs.Ends.{AreBack, passes_in}
use Rattle.po_team.specs.Works.{taken_in, dropped_in}
use Rattle.po_team.proofs.Backs.{back_append, each_part, learners_back, learners_counted, learners_lost, sum_map}
use Rattle.po_team.proofs.threads.run_seats.Goals as goal

pub returns-clause-passes : goal.returns-clause-passes
returns-clause-passes g c =
    let ran = c.in_ok-ran.ran in
    let queue = c.args.posts.now.queue in
    let Seat = LearnerSeat g.row.L.Denot in
    let pass : Seat → PassView Miss = λ s. s.pass in
    let learners = ran.learners.items in
    let workers = length c.args.workers.items in
    let taken = taken_in ran.outs.items in
    let dropped = dropped_in ran.outs.items in
    let ps = passes_in (map (λ s. s.pass) ran.workers.items) in
    let all : c.take_shares.new.passes.items ≡ ps ++ map pass learners =
    c.in_ok-shares.ensures.passes ∙ ap (λ (xs : List (PassView Miss)). xs ++ map pass learners)
    (c.in_ok-take_passes.ensures ∙ ap (λ (xs : List (PassView Miss)). xs ++ ps) c.new-passes.ensures.items) in
    let back = learners_back queue pass (λ s. s.share.parts) (λ s. s.share.amount) (λ s. s.refused) learners
    c.in_ok-ran.ensures.learned in
    subst (AreBack queue (workers + length c.args.learners.items) taken dropped) (sym all)
    (back_append queue workers (length c.args.learners.items) taken dropped ps (map pass learners)
    c.in_ok-ran.ensures.back
    (subst (λ (n : ℕ). AreBack queue n 0 0 (map pass learners)) c.in_ok-ran.ensures.learners back))

pub returns-clause-shares : goal.returns-clause-shares
returns-clause-shares g c =
    let Seat = LearnerSeat g.row.L.Denot in
    let share : Seat → Share g.row.L.Denot = λ s. s.share in
    let pass : Seat → PassView Miss = λ s. s.pass in
    let learners = c.in_ok-ran.ran.learners.items in
    let One : Share g.row.L.Denot → Type 0 = λ s. s.parts ≡ 1 in (
      ap length c.in_ok-shares.ensures.shares ∙ length-map learners share ∙ c.in_ok-ran.ensures.learners,
      subst (All One) (sym c.in_ok-shares.ensures.shares) (All-map One share learners
          (each_part c.args.posts.now.queue pass (λ s. s.share.parts) (λ s. s.share.amount) (λ s. s.refused) learners
          c.in_ok-ran.ensures.learned)),
    )

pub returns-clause-counted : goal.returns-clause-counted
returns-clause-counted g c =
    let Seat = LearnerSeat g.row.L.Denot in
    let share : Seat → Share g.row.L.Denot = λ s. s.share in
    let pass : Seat → PassView Miss = λ s. s.pass in
    let count : Share g.row.L.Denot → ℕ = λ s. s.amount in
    let takes : PassView Miss → ℕ = λ p. length p.takes in
    let learners = c.in_ok-ran.ran.learners.items in
    let ps = passes_in (map (λ s. s.pass) c.in_ok-ran.ran.workers.items) in
    let all : c.take_shares.new.passes.items ≡ ps ++ map pass learners =
    c.in_ok-shares.ensures.passes ∙ ap (λ (xs : List (PassView Miss)). xs ++ map pass learners)
    (c.in_ok-take_passes.ensures ∙ ap (λ (xs : List (PassView Miss)). xs ++ ps) c.new-passes.ensures.items) in
    let amount : sum_by count c.in_ok-shares.shares.items ≡ sum_by (λ s. count (share s)) learners =
    ap (sum_by count) c.in_ok-shares.ensures.shares ∙ sum_map count share learners in
    let some : sum_by (λ s. count (share s)) learners ≤ sum_by takes (map pass learners) =
    learners_counted c.args.posts.now.queue pass (λ s. s.share.parts) (λ s. s.share.amount) (λ s. s.refused)
    learners c.in_ok-ran.ensures.learned in
    let none : sum_by takes ps ≡ 0 = c.in_ok-ran.ensures.took in
    let sum : sum_by takes c.take_shares.new.passes.items ≡ sum_by takes ps + sum_by takes (map pass learners) =
    ap (sum_by takes) all ∙ sum_by-append takes ps (map pass learners) in
    let done : sum_by count c.in_ok-shares.shares.items ≤ sum_by takes c.take_shares.new.passes.items =
    omega (arith, amount, some, none, sum) in
    done

pub returns-clause-lost : goal.returns-clause-lost
returns-clause-lost g c =
    let Seat = LearnerSeat g.row.L.Denot in
    let share : Seat → Share g.row.L.Denot = λ s. s.share in
    let pass : Seat → PassView Miss = λ s. s.pass in
    let count : Share g.row.L.Denot → ℕ = λ s. s.amount in
    let takes : PassView Miss → ℕ = λ p. length p.takes in
    let learners = c.in_ok-ran.ran.learners.items in
    let ps = passes_in (map (λ s. s.pass) c.in_ok-ran.ran.workers.items) in
    let all : c.take_shares.new.passes.items ≡ ps ++ map pass learners =
    c.in_ok-shares.ensures.passes ∙ ap (λ (xs : List (PassView Miss)). xs ++ map pass learners)
    (c.in_ok-take_passes.ensures ∙ ap (λ (xs : List (PassView Miss)). xs ++ ps) c.new-passes.ensures.items) in
    let amount : sum_by count c.in_ok-shares.shares.items ≡ sum_by (λ s. count (share s)) learners =
    ap (sum_by count) c.in_ok-shares.ensures.shares ∙ sum_map count share learners in
    let some : sum_by takes (map pass learners) ≤ sum_by (λ s. count (share s)) learners + length learners =
    learners_lost c.args.posts.now.queue pass (λ s. s.share.parts) (λ s. s.share.amount) (λ s. s.refused)
    learners c.in_ok-ran.ensures.learned in
    let none : sum_by takes ps ≡ 0 = c.in_ok-ran.ensures.took in
    let sum : sum_by takes c.take_shares.new.passes.items ≡ sum_by takes ps + sum_by takes (map pass learners) =
    ap (sum_by takes) all ∙ sum_by-append takes ps (map pass learners) in
    let many : length learners ≡ length c.args.learners.items = c.in_ok-ran.ensures.learners in
    let done : sum_by takes c.take_shares.new.passes.items
    ≤ sum_by count c.in_ok-shares.shares.items + length c.args.learners.items =
    omega (arith, amount, some, none, sum, many) in
    done
