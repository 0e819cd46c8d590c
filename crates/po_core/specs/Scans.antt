-- What a foreground's functions do to its present scan, on the way to an event.
use Rattle.std.specs.Prelude.{ℕ, ◌≡◌, List, slice_get, slice_set, Some, None}
use Rattle.po_model.specs.Pairs.{PlainPair, WellFormedPair}
use Rattle.po_model.specs.Combined.{Answer}
use Rattle.po_model.specs.Scanned.{Scan, pair_ready, after_try, IsAtEnd, AfterEnd}
use Rattle.po_model.specs.Learning.{Try}
use Rattle.po_slow.specs.States.{CanAnswer, IsFinished}
use Rattle.po_core.specs.Fores.{PlainFore, counted, IsOnward}

-- the pair that is ready in the scan of that number, which is well formed
pub record IsReadyAt (scans : List Scan) (at : ℕ) (p : PlainPair) : Type 0 where
  pub scan : Scan
  pub present : slice_get scans at ≡ Some scan
  pub ready : pair_ready scan ≡ Some p
  pub formed : WellFormedPair p

abbrev pub NoneReadyAt : List Scan → ℕ → Type 0
NoneReadyAt scans at = (s : Scan) → slice_get scans at ≡ Some s → pair_ready s ≡ None

-- that pair may be answered so, and was
abbrev pub CanAnswerAt : List Scan → ℕ → Answer → Type 0
CanAnswerAt scans at o = (s : Scan) → slice_get scans at ≡ Some s → CanAnswer (pair_ready s) o

abbrev pub IsSteppedAt : List Scan → ℕ → Answer → List Scan → Type 0
IsSteppedAt scans at o after = (s : Scan) → slice_get scans at ≡ Some s → after ≡ slice_set scans at (after_try o s)

-- the present scan went on so, and the try is counted
abbrev pub GoesOn : Try → Answer → PlainFore → PlainFore → Type 0
GoesOn x o f g = (s : Scan) → slice_get f.scans f.at ≡ Some s
    → g ≡ counted x (record f { scans = slice_set f.scans f.at (after_try o s) })

-- the scan of that number is at the end of its block
abbrev pub IsAtEndAt : List Scan → ℕ → Type 0
IsAtEndAt scans at = (s : Scan) → slice_get scans at ≡ Some s → IsAtEnd s

-- that end was passed
abbrev pub IsEndedAt : List Scan → ℕ → List Scan → Type 0
IsEndedAt scans at after = (s : Scan) → slice_get scans at ≡ Some s
    → (t : Scan) × AfterEnd s t × (after ≡ slice_set scans at t)

-- the scan of that number isn't at its finish
abbrev pub IsGoingAt : List Scan → ℕ → Type 0
IsGoingAt scans at = (s : Scan) → slice_get scans at ≡ Some s → IsFinished s → ⊥

-- on to the next code, where the present one is finished; the snapshot is given back
pub record GoesToNext (f g : PlainFore) : Type 0 where
  pub onward : (t : Scan) → slice_get f.scans f.at ≡ Some t → IsOnward f g t
  pub rest : g ≡ record f { at = g.at; tries = g.tries; ends = g.ends; shown = None }
