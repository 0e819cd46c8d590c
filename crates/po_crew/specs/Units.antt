-- What a worker's unit gives: block after block of the scan, over all passes, each with the rules by which it was
-- scanned and with what is reported of it.
use Rattle.std.specs.Prelude.{◌≡◌, ℕ, ◌+◌, Bool, true, false, MatchBool, List, [], ◌∷◌, ◌++◌, map, length, sum_by}
use Rattle.std.specs.List.{flat_map, filter}
use mathlib.Core.List.{IsPrefix}
use Rattle.po_model.specs.declared.machine.Machine.{Machine}
use Rattle.po_model.specs.Blocks.{PlainBlock}
use Rattle.po_model.specs.Combined.{combination}
use Rattle.po_model.specs.Holed.{PlainRule}
use Rattle.po_model.specs.Lookups.{AreCanonical}
use Rattle.po_model.specs.Learning.{Try, GoesBy, steps_of}
use Rattle.po_model.specs.Pairs.{PlainPair, pair_of}
use Rattle.po_model.specs.Scanned.{Scan, Finished, Goes, IsPassStart, AfterEnd}
use Rattle.po_fore.specs.declared.report.BlockReport.{BlockReport}
use Rattle.po_fore.specs.Reports.{TellsOf, IsBlockDone}
use Rattle.po_crew.specs.declared.unit.Course.{Course}
use Rattle.po_crew.specs.Posted.{ArePosted}

-- the rules by which a block is scanned, each that of all its pairs: none where the door refused, else some that begin
-- with what the door was told of
abbrev pub IsShown : Machine → List PlainRule → Bool → List PlainRule → Type 0
IsShown m told bare rules = AreCanonical m rules × MatchBool bare (rules ≡ []) (IsPrefix told rules)

-- a block was scanned by such rules to its end, and a step was counted for each miss
pub record IsScanned (m : Machine) (told : List PlainRule) (bare : Bool) (s t : Scan) (n k : ℕ)
    (r : BlockReport) : Type 0 where
  pub rules : List PlainRule
  pub shown : IsShown m told bare rules
  pub done : IsBlockDone m rules s t n k r

-- how often the door refused for the block
abbrev pub bare_count : Bool → ℕ
bare_count true = 1
bare_count false = 0

-- a block that was scanned: whether the door refused, the rules by which it was scanned, its tries, and its report
pub record Passed : Type 0 where
  pub bare : Bool
  pub rules : List PlainRule
  pub tries : List Try
  pub report : BlockReport

-- so the scan went through a block, as slow combination does, and on to the next one
pub record IsPassed (m : Machine) (told : List PlainRule) (s : Scan) (b : Passed) (t : Scan) : Type 0 where
  pub shown : IsShown m told b.bare b.rules
  pub behind : Scan
  pub goes : GoesBy m b.rules s b.tries behind
  pub slowly : Goes (combination m) s (steps_of b.tries) behind
  pub onward : AfterEnd behind t
  pub reported : TellsOf b.report b.tries

-- block after block
abbrev pub ArePassed : Machine → List PlainRule → Scan → List Passed → Scan → Type 0
ArePassed m told s [] t = t ≡ s
ArePassed m told s (b ∷ bs) t = (u : Scan) × IsPassed m told s b u × ArePassed m told u bs t

-- the pairs that were missed and the number of tries, over all reports
abbrev pub misses_in : List BlockReport → List PlainPair
misses_in reports = flat_map (λ r. map pair_of r.misses.items) reports

abbrev pub tries_in : List BlockReport → ℕ
tries_in reports = sum_by (λ r. r.tried) reports

-- the scan of a code, from the start of the first pass on, stands at s; there is one report for each block, in order,
-- and so many were scanned without rules
pub record HasPassed (m : Machine) (told : List PlainRule) (code : List PlainBlock) (s : Scan)
    (reports : List BlockReport) (bare : ℕ) : Type 0 where
  pub start : Scan
  pub starts : IsPassStart code start
  pub blocks : List Passed
  pub passed : ArePassed m told start blocks s
  pub reported : reports ≡ map (λ b. b.report) blocks
  pub bare_blocks : bare ≡ sum_by (λ b. bare_count b.bare) blocks

-- one block more: it was scanned, its misses were posted, and all is counted
pub record IsWorked (m : Machine) (told : List PlainRule) (s t : Scan) (old new : Course) (n k : ℕ)
    (before after : List PlainPair) (fulls now : ℕ) : Type 0 where
  pub block : Passed
  pub passed : IsPassed m told s block t
  pub reports : new.reports.items ≡ old.reports.items ++ block.report ∷ []
  pub bare_blocks : new.bare ≡ old.bare + bare_count block.bare
  pub ticks : k ≡ n + length (misses_in (block.report ∷ []))
  pub taken : ℕ
  pub dropped : ℕ
  pub posted : ArePosted (misses_in (block.report ∷ [])) before after fulls now taken dropped
  pub more_taken : new.taken ≡ old.taken + taken
  pub more_dropped : new.dropped ≡ old.dropped + dropped
