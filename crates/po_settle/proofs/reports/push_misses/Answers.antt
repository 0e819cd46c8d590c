use Rattle.std.proofs.Common.{◌<◌, ◌+◌, ◌∙◌, ap, length, arith, ◌++◌, ◌∷◌, []}
use Rattle.std.specs.Arc.{arc_value}
use Rattle.po_settle.specs.Texts.{texts_of}
use Rattle.po_settle.specs.Reported.{miss_text}
use Rattle.po_settle.proofs.Texts.{texts_more, unruled_more, pair_at}
use Rattle.po_settle.proofs.reports.push_misses.Goals as goal

pub miss_text-requires-clause-pair : goal.miss_text-requires-clause-pair
miss_text-requires-clause-pair g c =
    let h : c.loop-p.p-index < length c.args.misses.now = omega arith in
    pair_at c.args.misses.now c.loop-p.p-index c.p-item.result h c.p-item.is c.requires.pairs

pub loop-p-preserved : goal.loop-p-preserved
loop-p-preserved g c =
    let h : c.loop-p.p-index < length c.args.misses.now = omega arith in
    let t = c.in_ok-miss_text.ensures.ticks in
    let i = c.loop-p.invariant.ticks in
    record {
      texts =
          texts_more (miss_text (arc_value c.args.m.now)) c.args.misses.now c.loop-p.p-index c.p-item.result
          (texts_of c.args.texts.now.items) (texts_of c.loop-p.texts.items) (texts_of c.push_text.new.texts.items)
          h c.p-item.is c.loop-p.invariant.texts
          (c.in_ok-push_text.ensures
          ∙ ap (λ x. texts_of c.loop-p.texts.items ++ x ∷ []) c.in_ok-miss_text.ensures.text);
      ticks = (
        i.0 + t.0,
        unruled_more (g.R.Lookup.rules c.args.rules.now) c.args.misses.now c.loop-p.p-index c.p-item.result i.0 t.0
            h c.p-item.is i.1 t.1,
        omega (arith, i.2, t.2),
      );
    }
