use Rattle.std.proofs.Common.{rules, ◌≡◌, ◌+◌, ◌∷◌, subst, All, length, ap, arith}
use Rattle.std.proofs.lemmas.List.Elements.{All-head, All-rest}
use Rattle.po_queue.specs.Passes.{PassView, new_pass}
use Rattle.po_rule.specs.declared.miss.Miss.{Miss}
use Rattle.po_team.specs.declared.learners.LearnerSeat.{LearnerSeat}
use Rattle.po_team.specs.Seats.{HasLearned}
use Rattle.po_team.proofs.Seating.{all_push, fresh_learned, push_length}
use Rattle.po_team.proofs.seats.learner_seats.Goals as goal

pub loop-pass-preserved : goal.loop-pass-preserved
loop-pass-preserved g c =
    let queue = c.args.posts.now.queue in
    let Fresh : PassView Miss → Type 0 = λ p. p ≡ new_pass queue in
    let Learned : LearnerSeat g.row.L.Denot → Type 0 = λ s. HasLearned queue s.pass s.share.parts s.share.amount
    s.refused in
    let rest = c.next.new.self.rest.items in
    let next : c.loop-pass.pass-iterator.rest.items ≡ c.in-Some.pass ∷ rest = search rules in
    let all : All Fresh (c.in-Some.pass ∷ rest) = subst (All Fresh) next c.loop-pass.invariant.2 in
    let seats = c.loop-pass.seats.items in
    let pushed : length c.push_seat.new.seats.items ≡ length seats + 1 =
    push_length Learned seats c.push_seat.new.seats.items _ c.in_ok-push_seat.ensures in
    let before : length seats + length c.loop-pass.pass-iterator.rest.items ≡ length c.args.passes.items =
    c.loop-pass.invariant.3 in
    let held : c.loop-pass.publisher.parts + length seats ≡ c.args.publisher.now.parts = c.loop-pass.invariant.4 in
    let count : length c.push_seat.new.seats.items + length rest ≡ length c.args.passes.items =
    omega (arith, pushed, ap length next, before) in
    let parts : c.share-share.new.self.parts + length c.push_seat.new.seats.items ≡ c.args.publisher.now.parts =
    omega (arith, pushed, c.share-share.ensures.own.0, held) in (
      tt,
      tt,
      All-rest Fresh c.in-Some.pass rest c.loop-pass.pass-iterator.rest.items next c.loop-pass.invariant.2,
      count,
      parts,
      search rules,
      search rules,
      search rules,
      all_push Learned c.loop-pass.seats.items c.push_seat.new.seats.items _ c.in_ok-push_seat.ensures
          c.loop-pass.invariant.8
          (fresh_learned queue c.in-Some.pass (All-head Fresh c.in-Some.pass rest all) c.share-share.result.parts
          c.share-share.result.amount c.share-share.ensures.share.0 c.share-share.ensures.share.1),
    )
