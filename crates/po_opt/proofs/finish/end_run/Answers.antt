use Rattle.std.proofs.Common.{◌≡◌, ◌∙◌, ◌<◌, ◌≤◌, ◌++◌, ◌∷◌, [], true, List, All, length, ap, subst, sym, arith}
use Rattle.std.specs.Arc.{arc_value}
use Rattle.std.proofs.lemmas.List.Elements.{All-nil, All-cons}
use Rattle.po_model.specs.Lookups.{AreCanonical}
use Rattle.po_queue.specs.Passes.{IsOf, PassView, put_count}
use Rattle.po_rule.specs.declared.miss.Miss.{Miss}
use Rattle.po_settle.specs.Reported.{HasFormedMisses}
use Rattle.po_store.specs.Published.{plain}
use Rattle.po_opt.specs.Ended.{AreLearned}
use Rattle.po_opt.specs.Relooked.{AreSeen}
use Rattle.po_opt.specs.Told.{IsTally}
use Rattle.po_opt.proofs.Counting.{counts_are, full_put, puts_with, queue_with, report_formed}
use Rattle.po_opt.proofs.finish.end_run.Goals as goal

pub see_again-requires-clause-canonical : goal.see_again-requires-clause-canonical
see_again-requires-clause-canonical g c =
    subst (λ m. AreCanonical m (g.T.Lookup.rules c.table.result.now)) (sym c.table.ensures.machine)
    (subst (AreCanonical g.L.StoreName.machine) (sym c.table.ensures.rules) c.table.ensures.good.canonical)

pub see_again-requires-clause-tallies : goal.see_again-requires-clause-tallies
see_again-requires-clause-tallies g c =
    subst (λ m. All (IsTally m) c.args.told.tallies.items) (c.requires.named ∙ sym c.table.ensures.machine)
    c.requires.tallies

pub end_learning-requires-clause-queue : goal.end_learning-requires-clause-queue
end_learning-requires-clause-queue g c =
    subst (All (IsOf c.args.posts.queue)) (sym c.in_ok-push_pass.ensures)
    (queue_with c.args.posts.queue c.args.passes.items c.in_ok-again.again.pass c.requires.queue
    c.in_ok-again.ensures.posting.queue_is)

pub count-requires-clause-canonical : goal.count-requires-clause-canonical
count-requires-clause-canonical g c =
    subst (λ m. AreCanonical m (g.T.Lookup.rules c.table-2.result.now)) (sym c.requires.named)
    (subst (AreCanonical g.L.StoreName.machine) (sym c.table-2.ensures.rules) c.table-2.ensures.good.canonical)

pub count-requires-clause-formed : goal.count-requires-clause-formed
count-requires-clause-formed g c =
    let m = g.T.Lookup.machine c.table.result.now in
    let r = c.in_ok-report.report in
    let one = c.in_ok-reports.ensures in
    let used = c.in_ok-report.ensures.used in
    let missed = c.in_ok-report.ensures.misses in
    let formed : HasFormedMisses r = report_formed m (g.T.Lookup.rules c.table.result.now) c.args.told.tallies.items
    c.args.told.misses.items c.in_ok-again.again.relooked c.in_ok-again.ensures.seen r used missed
    c.requires.formed in
    subst (All HasFormedMisses) (sym one) (All-cons HasFormedMisses r [] formed (All-nil HasFormedMisses))

pub returns-clause-counts : goal.returns-clause-counts
returns-clause-counts g c us told =
    let m = arc_value c.args.machine.now in
    let first = plain c.args.publisher.now.rules in
    let again = c.in_ok-again.again in
    let old = c.args.told.tallies.items in
    let misses = c.args.told.misses.items in
    let done = again.relooked in
    let r = c.in_ok-report.report in
    let one = c.in_ok-reports.ensures in
    let used = c.in_ok-report.ensures.used in
    let missed = c.in_ok-report.ensures.misses in
    let capacity = c.args.posts.queue.capacity in
    let passes = c.args.passes.items in
    let pushed : c.push_pass.new.passes.items ≡ passes ++ again.pass ∷ [] = c.in_ok-push_pass.ensures in
    let put : put_count c.push_pass.new.passes.items ≡ c.in_ok-posted.posted = omega (
      arith,
      ap put_count pushed,
      puts_with passes again.pass,
      c.in_ok-again.ensures.posting.put,
      c.requires.put,
      c.in_ok-posted.ensures,
    ) in
    let seen : AreSeen m first old done =
    subst (λ n. AreSeen n first old done) (c.table.ensures.machine ∙ sym c.requires.named)
    (subst (λ rs. AreSeen (g.T.Lookup.machine c.table.result.now) rs old done) c.table.ensures.rules
    c.in_ok-again.ensures.seen) in
    let bounds : AreLearned (length c.args.shares.items) c.in_ok-posted.posted c.in_ok-learned.learned =
    subst (λ n. AreLearned (length c.args.shares.items) n c.in_ok-learned.learned) put
    c.in_ok-learned.ensures.learned in
    let Much : List (PassView Miss) → Type 0 =
    λ ps. All (λ p. p.met_full ≡ true → capacity ≤ put_count ps) ps in
    let full : 0 < c.in_ok-full.full → capacity ≤ c.in_ok-posted.posted = λ some.
    let much : capacity ≤ put_count (passes ++ again.pass ∷ []) =
    full_put passes again.pass capacity c.args.told.dropped again.relooked.dropped c.requires.full
    (λ lost. c.in_ok-again.ensures.posting.full (c.in_ok-again.ensures.posting.rose lost))
    (subst Much pushed c.in_ok-learned.ensures.full) (omega (arith, some, c.in_ok-full.ensures)) in
    omega (arith, much, put, ap put_count pushed) in
    counts_are m us capacity (length c.args.shares.items) old misses done r c.in_ok-reports.reports.items first
    (plain c.end_learning.new.publisher.rules)
    c.end_learning.new.publisher.log c.in_ok-counted.counted.rules.items c.in_ok-counted.counted.counts
    c.args.told.taken c.args.told.dropped c.in_ok-posted.posted
    c.in_ok-full.full c.in_ok-learned.learned told seen one used missed c.requires.posted c.in_ok-posted.ensures
    c.in_ok-full.ensures c.in_ok-learned.ensures.logged c.in_ok-learned.ensures.published
    c.in_ok-learned.ensures.entries c.in_ok-counted.ensures bounds full
