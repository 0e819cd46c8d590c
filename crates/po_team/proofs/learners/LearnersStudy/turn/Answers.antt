use Rattle.std.proofs.Common.{◌≡◌, sym, subst, ap, arith}
use Rattle.po_queue.specs.Passes.{PassView}
use Rattle.po_rule.specs.declared.miss.Miss.{Miss}
use Rattle.po_team.specs.Seats.{HasLearned}
use Rattle.po_team.proofs.Turns.{one_learned, one_lost}
use Rattle.po_team.proofs.learners.LearnersStudy.turn.Goals as goal

pub returns-then-seat-clause-good : goal.returns-then-seat-clause-good
returns-then-seat-clause-good g c = c.requires

pub take-requires : goal.take-requires
take-requires g c = c.requires.1.queue_is

pub returns-in_default-clause-good : goal.returns-in_default-clause-good
returns-in_default-clause-good g c = (
  c.requires.0,
  subst (λ (p : PassView Miss). HasLearned c.args.self.now.posts.now.queue p c.args.seat.now.share.parts
      c.args.seat.now.share.amount c.args.seat.now.refused) (sym c.in_default.ensures.empty.0) c.requires.1,
)

pub learn-requires-clause-described : goal.learn-requires-clause-described
learn-requires-clause-described g c = c.requires.0

pub learn-requires-clause-part : goal.learn-requires-clause-part
learn-requires-clause-part g c =
    let one : c.args.seat.now.share.parts ≡ 1 = c.requires.1.share in
    omega (arith, one)

pub returns-in_err-learn-clause-good : goal.returns-in_err-learn-clause-good
returns-in_err-learn-clause-good g c =
    let e = c.in_err-learn.ensures.err in (
      c.requires.0,
      one_lost c.args.self.now.posts.now.queue c.args.seat.now.pass c.take.new.pass c.in-Some.miss
          c.in-Some.ensures.taken c.args.seat.now.share.parts c.learn.new.share.parts c.args.seat.now.share.amount
          c.learn.new.share.amount c.args.seat.now.refused c.if-seat.false (ap (λ s. s.parts) e) c.requires.1
          (ap (λ s. s.amount) e),
    )

pub returns-clause-good : goal.returns-clause-good
returns-clause-good g c = (
  c.requires.0,
  one_learned c.args.self.now.posts.now.queue c.args.seat.now.pass c.take.new.pass c.in-Some.miss
      c.in-Some.ensures.taken c.args.seat.now.share.parts c.learn.new.share.parts c.args.seat.now.share.amount
      c.learn.new.share.amount c.args.seat.now.refused c.if-seat.false c.in_ok-learn.ensures.parts c.requires.1
      c.in_ok-learn.ensures.amount,
)
