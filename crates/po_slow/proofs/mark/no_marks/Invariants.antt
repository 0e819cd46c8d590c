use Rattle.std.proofs.Common.{◌≡◌, ℕ, length, get_or, None}
use Rattle.po_slow.specs.Marks.{marks_at}
use Rattle.po_slow.proofs.mark.no_marks.Given as goal

abbrev pub invariant-loop-b : goal.invariant-loop-b
invariant-loop-b l =
    (length l.marks.items ≡ l.b) × ((c i : ℕ) → get_or (marks_at l.marks.items c) i None ≡ None)
