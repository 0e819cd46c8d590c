use Rattle.std.proofs.Common.{◌≡◌, ℕ, ◌<◌, ◌≤◌, ◌+◌, length, subst, arith}
use Rattle.std.specs.Arc.{arc_value}
use Rattle.po_settle.specs.Texts.{texts_of, IsUnruled}
use Rattle.po_settle.specs.Reported.{all_texts, all_misses}
use Rattle.po_settle.proofs.Texts.{wanted_more, rest_more, rest_none, on_ok_any}
use Rattle.po_settle.proofs.reports.settle.Goals as goal

pub loop-r-preserved : goal.loop-r-preserved
loop-r-preserved g c =
    let rs = c.deref-r-items.result.now in
    let i = c.loop-r.r-index in
    let h : i < length rs = omega arith in
    let t = c.in_ok-push_report.ensures.ticks in
    let j = c.loop-r.invariant.ticks in
    record {
      texts =
          wanted_more (arc_value c.args.m.now) rs i c.r-item.result (texts_of c.loop-r.texts.items)
          (texts_of c.push_report.new.texts.items) (all_texts (arc_value c.args.m.now) rs) h c.r-item.is
          c.loop-r.invariant.texts c.in_ok-push_report.ensures.texts;
      ticks = (
        j.0 + t.0,
        rest_more (g.R.Lookup.rules c.args.rules.now) rs i c.r-item.result j.0 t.0 h c.r-item.is j.1 t.1,
        omega (arith, j.2, t.2),
      );
    }

pub returns-clause-ticks : goal.returns-clause-ticks
returns-clause-ticks g c =
    let rs = c.deref-r-items.result.now in
    let h : length rs ≤ c.loop-r.r-index = omega arith in
    let j = c.loop-r.invariant.ticks in
    let u : IsUnruled (g.R.Lookup.rules c.args.rules.now) (all_misses c.args.reports.items) j.0 =
    subst (λ xs. IsUnruled (g.R.Lookup.rules c.args.rules.now) (all_misses xs) j.0) c.deref-r-items.ensures.value
    (rest_none (g.R.Lookup.rules c.args.rules.now) rs c.loop-r.r-index j.0 h j.1) in
    on_ok_any c.sorted_distinct.result (j.0, u, j.2)
