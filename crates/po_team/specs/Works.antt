-- What a worker's unit gives, and what the worker put into the queue for it.
use Rattle.std.specs.Prelude.{◌≡◌, ℕ, ◌+◌, ◌<◌, true, List, [], length, slice_get, Option, Some, MatchOption}
use Rattle.std.specs.List.{sum_by}
use Rattle.po_model.specs.declared.code.UnitCode.{UnitCode}
use Rattle.po_model.specs.declared.machine.Machine.{Machine}
use Rattle.po_model.specs.Blocks.{code_of}
use Rattle.po_model.specs.Holed.{PlainRule}
use Rattle.po_model.specs.Scanned.{Finished}
use Rattle.po_model.specs.UnitCodes.{PlainUnit, unit_of}
use Rattle.po_queue.specs.Passes.{QueueId, PassView}
use Rattle.po_slow.specs.Passes.{IsSlowedUnit}
use Rattle.po_crew.specs.declared.unit.Work.{Work}
use Rattle.po_crew.specs.Units.{HasPassed, misses_in, tries_in}
use Rattle.po_tally.specs.declared.brief.Brief.{Brief}
use Rattle.po_tally.specs.Briefs.{IsBriefOf}

-- what slow combination makes of a unit, with a report of each block that was scanned, each by rules that begin with
-- what the worker was told of, or by none; each miss was put or dropped
pub record IsWorkBy (m : Machine) (told : List PlainRule) (u : PlainUnit) (w : Work) : Type 0 where
  pub slowed : IsSlowedUnit m u (unit_of w.unit) (tries_in w.reports.items)
  pub passed : HasPassed m told u.code (Finished (code_of w.unit.code)) w.reports.items w.bare
  pub posted : w.taken + w.dropped ≡ length (misses_in w.reports.items)

-- how many misses the queue took, and how many it didn't
abbrev pub taken_in : List Brief → ℕ
taken_in briefs = sum_by (λ b. b.taken) briefs

abbrev pub dropped_in : List Brief → ℕ
dropped_in briefs = sum_by (λ b. b.dropped) briefs

-- the work is that of the unit of this index, by a worker that was told of these rules
abbrev pub GivesBy : Machine → List UnitCode → List PlainRule → ℕ → Work → Type 0
GivesBy m codes told index w = (u : UnitCode) × (slice_get codes index ≡ Some u) × IsWorkBy m told (unit_of u) w

-- the brief is that of such a work
abbrev pub IsBriefBy : Machine → List UnitCode → List PlainRule → ℕ → Brief → Type 0
IsBriefBy m codes told index b = (w : Work) × GivesBy m codes told index w × IsBriefOf w b

-- by a worker that was told of some rules
abbrev pub GivesAt : Machine → List UnitCode → ℕ → Brief → Type 0
GivesAt m codes index b = (told : List PlainRule) × IsBriefBy m codes told index b

-- these are the briefs of these codes, one for each, in their order
pub record AreWorksOf (m : Machine) (codes : List UnitCode) (briefs : List Brief) : Type 0 where
  pub count : length briefs ≡ length codes
  pub each : (i : ℕ) (b : Brief) → slice_get briefs i ≡ Some b → GivesAt m codes i b

module _ {T : Type 0} where
  -- so many items more were put with a pass; where an item was dropped the queue was full, and that was counted
  pub record Puts (old : PassView T) (fulls : ℕ) (new : PassView T) (now taken dropped : ℕ) : Type 0 where
    pub queue : new.queue ≡ old.queue
    pub parts : new.parts ≡ old.parts
    pub takes : new.takes ≡ old.takes
    pub put : length new.puts ≡ length old.puts + taken
    pub rose : 0 < fulls + dropped → 0 < now
    pub full : 0 < now → new.met_full ≡ true

  -- a worker took nothing from the queue. It put so many items; where it dropped one, it has met a full queue
  pub record IsPosting (queue : QueueId) (pass : PassView T) (fulls taken dropped : ℕ) : Type 0 where
    pub queue_is : pass.queue ≡ queue
    pub part : pass.parts ≡ 1
    pub takes : pass.takes ≡ []
    pub put : length pass.puts ≡ taken
    pub rose : 0 < dropped → 0 < fulls
    pub full : 0 < fulls → pass.met_full ≡ true

  -- the pass is there, and has put so much
  abbrev pub HasPosted : QueueId → Option (PassView T) → ℕ → ℕ → ℕ → Type 0
  HasPosted queue pass fulls taken dropped = MatchOption pass ⊥ (λ p. IsPosting queue p fulls taken dropped)
