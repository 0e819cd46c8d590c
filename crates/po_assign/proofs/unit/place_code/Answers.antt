use Rattle.std.proofs.Common.{◌≡◌, ℕ, ◌∙◌, ap, map, subst}
use Rattle.std.specs.Prelude.{IfOk, List}
use Rattle.po_assign.specs.declared.spans.Span.{Span}
use Rattle.po_model.specs.Placement.{Interval, intervals}
use Rattle.po_assign.specs.Reads.{read_at}
use Rattle.po_assign.specs.Spans.{interval_from, spans_from}
use Rattle.po_assign.specs.Places.{Places}
use Rattle.po_assign.proofs.Lists.{all_of}
use Rattle.po_assign.proofs.Intervals.{spans_are, spans_rise, spans_few}
use Rattle.po_assign.proofs.unit.place_code.Goals as goal

pub place_spans-requires-clause-short : goal.place_spans-requires-clause-short
place_spans-requires-clause-short c =
    rw (c.deref-2.ensures.value, c.in_ok-spans.ensures, c.deref.ensures.value)
    (spans_few (read_at c.in_ok-last.last.items) (all_of c.args.blocks.now) c.requires.short c.requires.each)

pub place_spans-requires-clause-rising : goal.place_spans-requires-clause-rising
place_spans-requires-clause-rising c = rw (c.deref-2.ensures.value, c.in_ok-spans.ensures, c.deref.ensures.value)
    (spans_rise (read_at c.in_ok-last.last.items) (all_of c.args.blocks.now))

pub returns : goal.returns
returns c =
    let seen : map interval_from c.deref-2.result.now ≡ intervals (all_of c.args.blocks.now) =
    ap (λ (ss : List Span). map interval_from ss) (c.deref-2.ensures.value ∙ c.in_ok-spans.ensures
    ∙ ap (λ (last : List ℕ). spans_from (read_at last) 0 (all_of c.args.blocks.now)) c.deref.ensures.value)
    ∙ spans_are (read_at c.in_ok-last.last.items) (all_of c.args.blocks.now) c.in_ok-last.ensures in
    subst (λ (is : List Interval). IfOk c.place_spans.result (Places c.args.count is)) seen c.place_spans.ensures
