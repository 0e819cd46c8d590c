-- The counts of a run, and what they are the counts of.
use Rattle.std.specs.Prelude.{ℕ, ◌≡◌, ◌+◌, ◌<◌, ◌≤◌, List, length}
use Rattle.po_model.specs.declared.code.UnitCode.{UnitCode}
use Rattle.po_model.specs.declared.machine.Machine.{Machine}
use Rattle.po_fore.specs.declared.report.BlockReport.{BlockReport}
use Rattle.po_model.specs.Holed.{PlainRule}
use Rattle.po_model.specs.UnitCodes.{PlainUnit}
use Rattle.po_settle.specs.Lines.{AreRulesOf}
use Rattle.po_store.specs.declared.publisher.Entry.{Entry}
use Rattle.po_store.specs.Logged.{Logged}
use Rattle.po_opt.specs.declared.counts.Counts.{Counts}
use Rattle.po_opt.specs.declared.finish.Opted.{Opted}
use Rattle.po_opt.specs.Ended.{AreLearned}
use Rattle.po_opt.specs.Rules.{AreWritten}
use Rattle.po_opt.specs.Told.{AreSlowed, units_of}

-- of reports of all rules, with so many hits
pub record AreCounted (m : Machine) (reports : List BlockReport) (hits posted full learned : ℕ) (lines : List ℕ)
    (c : Counts) : Type 0 where
  pub written : AreWritten m reports lines c.rules
  pub hits_are : c.hits ≡ hits
  pub misses : c.misses ≡ posted + full
  pub pairs : c.pairs ≡ c.hits + c.misses
  pub posted_is : c.posted ≡ posted
  pub full_is : c.full ≡ full
  pub learned_is : c.learned ≡ learned

-- of a run over these units, with so many learners and a queue of this capacity, which wrote these lines of rules
pub record AreCounts (m : Machine) (us : List PlainUnit) (capacity learners : ℕ) (lines : List ℕ)
    (c : Counts) : Type 0 where
  pub written : AreRulesOf m us lines
  -- the pairs that the passes try, and the rules that stand in the lines
  pub pairs : c.pairs ≡ length written.pairs
  pub rules : c.rules ≡ length written.texts
  -- each try is a hit or a miss
  pub tries : c.hits + c.misses ≡ c.pairs
  -- each miss was put into the queue, or the queue was full
  pub posts : c.posted + c.full ≡ c.misses
  pub full : 0 < c.full → capacity ≤ c.posted
  -- what was learned stands in a log, whose entries tell of all published rules
  pub published : List PlainRule
  pub logged : (log : List Entry) × Logged published log × (c.learned ≡ length log)
  pub bounds : AreLearned learners c.posted c.learned
  -- a rule that is written was learned, or is the rule of a miss
  pub few : c.rules ≤ c.learned + c.misses
  -- without a rule that was learned there is no hit
  pub bare : c.learned ≡ 0 → c.hits ≡ 0

-- what a run with so many learners makes of codes: each code is what slow combination makes of it, and the rules and
-- the counts are those of the run
pub record IsMade (m : Machine) (codes : List UnitCode) (learners : ℕ) (made : Opted) : Type 0 where
  pub slowed : AreSlowed m (units_of codes) (units_of made.codes.items)
  pub counts : AreCounts m (units_of codes) 1024 learners made.rules.items made.counts
