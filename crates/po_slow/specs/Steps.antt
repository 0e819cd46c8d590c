-- The steps that the scan of a code has made, and how many pairs it has tried.
use Rattle.std.specs.Prelude.{ℕ, ◌+◌, ◌≡◌, Bool, true, false, List, [], ◌∷◌, length}
use Rattle.po_model.specs.declared.machine.Machine.{Machine}
use Rattle.po_model.specs.Blocks.{PlainBlock}
use Rattle.po_model.specs.Combined.{combination}
use Rattle.po_model.specs.Pairs.{PlainPair}
use Rattle.po_model.specs.Scanned.{Scan, ScanStep, Goes, StandsAfter, IsSlowed, tried}
use Rattle.po_slow.specs.States.{IsFinished}

-- one step, which counts from n on to k
pub record IsOneStep (m : Machine) (s t : Scan) (n k : ℕ) : Type 0 where
  pub step : ScanStep
  pub goes : Goes (combination m) s (step ∷ []) t
  pub counted : k ≡ n + length (tried (step ∷ []))

-- one step, or none at the finish
abbrev pub IsStepOn : Machine → Scan → Scan → ℕ → ℕ → Bool → Type 0
IsStepOn m s t n k true = IsOneStep m s t n k
IsStepOn m s t n k false = IsFinished s × (t ≡ s) × (k ≡ n)

-- the steps from the start of the first pass on
pub record HasGone (m : Machine) (code : List PlainBlock) (s : Scan) (n k : ℕ) : Type 0 where
  pub steps : List ScanStep
  pub stands : StandsAfter (combination m) code steps s
  pub counted : k ≡ n + length (tried steps)

-- what all passes make of a code, with the pairs that were tried
pub record IsSlowedWith (m : Machine) (code slowed : List PlainBlock) (n k : ℕ) : Type 0 where
  pub pairs : List PlainPair
  pub makes : IsSlowed m code pairs slowed
  pub counted : k ≡ n + length pairs
