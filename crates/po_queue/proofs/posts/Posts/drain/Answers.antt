use Rattle.std.proofs.Common.{rules, ◌≡◌, refl, sym, ◌∙◌, arith, ap, subst, List, length}
use Rattle.std.proofs.lemmas.List.{append-nil}
use Rattle.std.proofs.lemmas.Grind.{common_steps}
use Rattle.po_queue.specs.Balance.{all_parts}
use Rattle.po_queue.specs.Passes.{PassView, PostsView, HeldAt}
use Rattle.po_queue.specs.Gathered.{Gathered}
use Rattle.po_queue.proofs.Drains.{none_left, all_left, fills}
use Rattle.po_queue.proofs.posts.Posts.drain.Goals as goal

pub loop-init : goal.loop-init
loop-init g c = (
  rw (c.reserve.ensures.items, c.new-left.ensures.items, append-nil c.len-held.new.self.takes) refl,
  grind (arith, common_steps),
  grind (arith, common_steps),
)

pub returns-in-None-clause-conserves : goal.returns-in-None-clause-conserves
returns-in-None-clause-conserves g c =
    let same : c.len-held.new.self ≡ c.gather-keeper.result = c.len-held.ensures.same ∙ c.audit.ensures.same in
    let gathered : Gathered c.self.inside.keeper c.len-held.new.self c.args.passes.items
    = rw same c.gather-keeper.ensures in
    let whole : c.gather-keeper.result.parts ≡ all_parts
    = omega (
      arith,
      c.gather-keeper.ensures.parts,
      c.self.invariant.3,
      c.requires.all,
      ap (λ (v : PostsView). v.passes) c.self.view_is,
    ) in
    let parts : c.loop.keeper.parts ≡ all_parts
    = ap (λ (q : PassView g.row.T.Denot). q.parts) c.loop.invariant.0
    ∙ (ap (λ (q : PassView g.row.T.Denot). q.parts) same ∙ whole) in
    none_left c.self.inside.keeper c.len-held.new.self c.loop.keeper c.args.passes.items c.loop.left.items parts
    gathered c.loop.invariant.0 c.in-None.ensures.1

pub returns-clause-conserves : goal.returns-clause-conserves
returns-clause-conserves g c =
    let same : c.len-held.new.self ≡ c.gather-keeper.result = c.len-held.ensures.same ∙ c.audit.ensures.same in
    let gathered : Gathered c.self.inside.keeper c.len-held.new.self c.args.passes.items
    = rw same c.gather-keeper.ensures in
    let whole : c.gather-keeper.result.parts ≡ all_parts
    = omega (
      arith,
      c.gather-keeper.ensures.parts,
      c.self.invariant.3,
      c.requires.all,
      ap (λ (v : PostsView). v.passes) c.self.view_is,
    ) in
    let parts : c.len-held.new.self.parts ≡ all_parts = ap (λ (q : PassView g.row.T.Denot). q.parts) same ∙ whole in
    let n : c.len-held.result ≡ length c.loop.left.items = omega (
      arith,
      c.loop.invariant.1,
      c.loop-test.false,
      c.loop.auto.counter-end,
      c.loop.left.ok,
    ) in
    let start : HeldAt c.len-held.result c.len-held.new.self = rw c.len-held.ensures.same c.len-held.ensures.held in
    all_left c.self.inside.keeper c.len-held.new.self c.loop.keeper c.args.passes.items c.loop.left.items
    c.len-held.result c.len.result parts gathered c.loop.invariant.0 n start c.len.ensures.held
