use Rattle.std.proofs.Common.{◌≡◌, ◌≤◌, ◌==◌, ◌+◌, drop, count_by}
use Rattle.po_assign.specs.declared.spans.Span.{Span}
use Rattle.po_assign.proofs.place.starting_at.Given as goal

abbrev pub invariant-loop-span : goal.invariant-loop-span
invariant-loop-span l = record {
  few : l.count ≤ l.span-index;
  counted : l.count + count_by (λ (s : Span). s.start == l.point) (drop l.span-index l.spans) ≡ count_by
      (λ (s : Span). s.start == l.point) l.spans;
}
