use Rattle.std.proofs.Common.{sym, subst}
use Rattle.po_model.specs.Pairs.{pair_of}
use Rattle.po_model.specs.Holed.{values_of, shape_of}
use Rattle.po_skel.specs.Few.{HasFew}
use Rattle.po_skel.proofs.Few.{pair_few}
use Rattle.po_skel.proofs.Numbered.{walked_shape, shape_walked, live_walked}
use Rattle.po_skel.proofs.skeleton.bind.Goals.{else-branch-via-then-branch+else-match_after}
use Rattle.po_skel.proofs.skeleton.bind.Goals.{else-branch-via-else-branch}
use Rattle.po_skel.proofs.skeleton.bind.Goals as goal

pub bind_instructions-requires-clause-few : goal.bind_instructions-requires-clause-few
bind_instructions-requires-clause-few c = pair_few (pair_of c.args.p.now) c.requires.first c.requires.second

pub match_after-requires : goal.match_after-requires
match_after-requires c =
    subst HasFew (sym (c.in_ok-bind_instructions.ensures.values c.if-branch.true))
    (pair_few (pair_of c.args.p.now) c.requires.first c.requires.second)

pub returns-then-match_after : goal.returns-then-match_after
returns-then-match_after c =
    let met = c.in_ok-bind_instructions.ensures.values c.if-branch.true in
    let same = c.in_ok-bind_instructions.ensures.same.0 c.if-branch.true in
    let after = c.match_after.ensures.0 c.if-match_after.true in (
      sym (walked_shape (pair_of c.args.p.now) (shape_of c.args.s.now) (values_of c.bind_instructions.new.v) met same.0
          same.1 after.0 after.1),
      met,
    )

pub returns-else-branch : goal.returns-else-branch
returns-else-branch c = λ same.
    let p = pair_of c.args.p.now in
    let s = shape_of c.args.s.now in
    elim c.else-branch.branch [
      | else-branch-via-then-branch+else-match_after w ↦
          let met = c.in_ok-bind_instructions.ensures.values w.if-branch.true in
          let live = live_walked p s (values_of c.bind_instructions.new.v) met same in
          let after = w.match_after.ensures.1 live in
          let other = w.if-match_after.false in
          absurd (cc)
      | else-branch-via-else-branch w ↦
          let walked = c.in_ok-bind_instructions.ensures.same.1 (shape_walked p s same) in
          let other = w.if-branch.false in
          absurd (cc)
    ]
