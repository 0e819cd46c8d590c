-- The words of a line lie within it.
use Rattle.std.proofs.Common.{◌≡◌, ℕ, zero, suc, ◌≤◌, ◌<◌, List, [], ◌∷◌, length, get_or, arith}
use Rattle.po_text.specs.Words.{AreWordsFrom}
use Rattle.po_text.specs.declared.fault.Span.{Span}

-- a word has a byte, and ends in the line
pub record IsWithin (span : Span) (line : List ℕ) : Type 0 where
  pub order : span.start < span.end
  pub within : span.end ≤ length line

pub within_line : (line : List ℕ) (at : ℕ) (spans : List Span) (k : ℕ) (d : Span) → AreWordsFrom at line spans
    → k < length spans → IsWithin (get_or spans k d) line
within_line line at [] k d h low = absurd (omega (arith, low))
within_line line at (span ∷ spans) zero d h low = record { order = h.2; within = h.3 }
within_line line at (span ∷ spans) (suc k) d h low = within_line line span.end spans k d h.6 (omega (arith, low))

-- the same of the list's slice
pub within_deref : (line : List ℕ) (spans slice : List Span) (k : ℕ) (d : Span) → slice ≡ spans
    → AreWordsFrom 0 line spans → k < length slice → IsWithin (get_or slice k d) line
within_deref line spans slice k d e h low = rw e (within_line line 0 spans k d h (rw e at low))
