use Rattle.std.proofs.Common.{rules, ◌∙◌, All, refl, subst}
use Rattle.std.proofs.lemmas.List.Elements.{All-head}
use Rattle.po_opt.specs.Told.{IsTally}
use Rattle.po_opt.proofs.Relooking.{relooking_begin, relooking_next}
use Rattle.po_opt.proofs.relook.look_again.Goals as goal

pub loop-tally-init : goal.loop-tally-init
loop-tally-init g c = (
  relooking_begin (g.T.Lookup.machine c.args.rules.now) (g.T.Lookup.rules c.args.rules.now) c.args.tallies.items
      c.into_iter-tally-iterator.result.rest.items c.new-done.result (g.P.Post.taken c.args.post.now)
      (g.P.Post.fulls c.args.post.now) (search rules) c.new-done.ensures.hits c.new-done.ensures.found
      c.new-done.ensures.lost c.new-done.ensures.taken c.new-done.ensures.dropped c.requires.tallies,
  refl,
)

pub relook_one-requires-clause-tally : goal.relook_one-requires-clause-tally
relook_one-requires-clause-tally g c =
    let m = g.T.Lookup.machine c.args.rules.now in
    All-head (IsTally m) c.in-Some.tally c.next.new.self.rest.items
    (subst (All (IsTally m)) c.in-Some.ensures.steps.0 c.loop-tally.invariant.0.coming)

pub loop-tally-preserved : goal.loop-tally-preserved
loop-tally-preserved g c = (
  relooking_next (g.T.Lookup.machine c.args.rules.now) (g.T.Lookup.rules c.args.rules.now) c.args.tallies.items
      c.loop-tally.tally-iterator.rest.items c.next.new.self.rest.items c.in-Some.tally c.loop-tally.done
      c.relook_one.new.done (g.P.Post.taken c.args.post.now) (g.P.Post.taken c.loop-tally.post)
      (g.P.Post.taken c.relook_one.new.post) (g.P.Post.fulls c.args.post.now) (g.P.Post.fulls c.loop-tally.post)
      (g.P.Post.fulls c.relook_one.new.post) c.loop-tally.invariant.0 c.in-Some.ensures.steps.0
      c.in_ok-relook_one.ensures.added,
  c.in_ok-relook_one.ensures.home ∙ c.loop-tally.invariant.1,
)
