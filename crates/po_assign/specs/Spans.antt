-- The intervals of a code as the code keeps them.
use Rattle.std.specs.Prelude.{ℕ, suc, ◌+◌, ◌*◌, ◌≤◌, ⊤, max, List, [], ◌∷◌, ◌++◌, map}
use Rattle.po_model.specs.UnitCodes.{written}
use Rattle.po_model.specs.Placement.{Interval}
use Rattle.po_assign.specs.declared.spans.Span.{Span}
use Rattle.po_term.specs.Moves.{PlainInstr}

abbrev pub interval_from : Span → Interval
interval_from s = record { register = s.register; start = s.start; finish = s.finish }

-- the span of a register from a point to its last read, or that point where it isn't read behind it
abbrev pub span_at : (ℕ → ℕ) → ℕ → ℕ → Span
span_at last start v = record { register = v; start = start; finish = max start (last v) }

-- the spans of the registers that these instructions set, numbered from p on
abbrev pub spans_from : (ℕ → ℕ) → ℕ → List PlainInstr → List Span
spans_from last p [] = []
spans_from last p (i ∷ is) = map (span_at last (2 * p + 1)) (written i) ++ spans_from last (suc p) is

-- none of these starts before the one before it, the first one not before `now`, and none ends before it starts
abbrev pub Rising : ℕ → List Interval → Type 0
Rising now [] = ⊤
Rising now (i ∷ is) = (now ≤ i.start) × (i.start ≤ i.finish) × Rising i.start is
