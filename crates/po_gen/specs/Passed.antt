-- What each step over a code gives: how far the scan went, and that the rules of the pairs that it tried are learned.
use Rattle.std.specs.Prelude.{◌≡◌, ◌+◌, ◌^◌, ◌≤◌, List, [], ◌∷◌, ◌++◌, length}
use Rattle.po_model.specs.declared.machine.Machine.{Machine}
use Rattle.po_model.specs.Blocks.{PlainBlock}
use Rattle.po_model.specs.Combined.{combination}
use Rattle.po_model.specs.Holed.{PlainRule}
use Rattle.po_model.specs.Pairs.{PlainPair}
use Rattle.po_model.specs.Scanned.{Scan, ScanStep, Ended, Goes, IsSlowed, tried}
use Rattle.po_model.specs.UnitCodes.{flat}
use Rattle.po_gen.specs.declared.tally.Tally.{Tally}
use Rattle.po_gen.specs.Learnt.{Learns}

-- a scan went through a block by these tries, and on to the next one
pub record HasPassed (m : Machine) (s t : Scan) (old new : List PlainRule) : Type 0 where
  pub tries : List ScanStep
  pub goes : Goes (combination m) s (tries ++ Ended ∷ []) t
  pub learns : Learns m old new (tried tries)

-- all passes were made over a code
pub record IsPassed (m : Machine) (code slowed : List PlainBlock) (old new : List PlainRule) : Type 0 where
  pub pairs : List PlainPair
  pub makes : IsSlowed m code pairs slowed
  pub learns : Learns m old new pairs

-- they were, and the instructions were counted before and after them
pub record IsCounted (m : Machine) (code : List PlainBlock) (s t : Tally) (old new : List PlainRule) : Type 0 where
  pub slowed : List PlainBlock
  pub passed : IsPassed m code slowed old new
  pub before : t.before ≡ s.before + length (flat code)
  pub after : t.after ≡ s.after + length (flat slowed)
  pub few : length (flat code) ≤ 2 ^ 29
  pub few_slowed : length (flat slowed) ≤ 2 ^ 29
