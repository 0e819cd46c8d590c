-- The line of numbers that `opt` tells of its run.
use Rattle.std.specs.Prelude.{ℕ, ◌≡◌, List, [], ◌++◌, codes, decimal, true, Option, Some, None}
use Rattle.std.specs.declared.string.String.{String}
use Rattle.std.specs.declared.alloc.Global.{Global}
use Rattle.po_model.specs.declared.machine.Machine.{Machine}
use Rattle.po_ir.specs.declared.unit.Unit.{Unit as StackUnit}
use Rattle.po_opt.specs.declared.counts.Counts.{Counts}
use Rattle.po_opt.specs.Counts.{AreCounts}
use Rattle.po_words.specs.declared.request.Request.{Request}
use Rattle.po_words.specs.declared.request.Request.TheVariants.{Opt}
use Rattle.po_compile.specs.Input.{IsInput}
use Rattle.po_compile.specs.Output.{naive_codes}
use Rattle.po_compile.specs.Statuses.{ReadsWhole}
use Rattle.po_compile.specs.declared.status.Status.{Status}
use Rattle.po_compile.specs.declared.status.Status.TheVariants as status
use Rattle.po_run.specs.Asked.{IsAny, ForAsked, IsUsageOrMemory}

-- a count behind its word
abbrev pub told_count : List ℕ → ℕ → List ℕ
told_count word n = word ++ decimal n

abbrev pub stats_line : Counts → List ℕ
stats_line c = told_count (codes "pairs ") c.pairs ++ told_count (codes " hits ") c.hits
    ++ told_count (codes " misses ") c.misses ++ told_count (codes " posted ") c.posted
    ++ told_count (codes " full ") c.full ++ told_count (codes " learned ") c.learned
    ++ told_count (codes " rules ") c.rules ++ codes "\n"

-- the line of numbers where there are some
abbrev pub stats_text : Option Counts → List ℕ
stats_text (Some c) = stats_line c
stats_text None = []

-- how many misses wait for a learner at most
abbrev pub queue_capacity : ℕ
queue_capacity = 1024

-- the counts are those of a run with so many learners over the units that the text tells of
abbrev pub AreCountsIn : ℕ → List ℕ → Counts → Type 0
AreCountsIn learners text c = (m : Machine) × (us : List StackUnit) × IsInput text m us
    × (lines : List ℕ) × AreCounts m (naive_codes us) queue_capacity learners lines c

-- a run that is done has counts, of the text that it read, and no other run has any
abbrev pub OnCounts : ℕ → Status → Option Counts → Option (List ℕ) → Option (List ℕ) → Type 0
OnCounts learners status.Done (Some c) old new = (text : List ℕ) × ReadsWhole old new text
    × AreCountsIn learners text c
OnCounts learners status.Done None old new = ⊥
OnCounts learners s counts old new = counts ≡ None

-- what stands on the notes behind the line of the status: at the end of `opt` with `--stats` the line of its counts
abbrev pub AreStatsOf : Request → Status → Option (List ℕ) → Option (List ℕ) → List ℕ → Type 0
AreStatsOf (Opt workers learners true) status.Done old new stats = (c : Counts)
    × OnCounts learners status.Done (Some c) old new × (stats ≡ stats_line c)
AreStatsOf r s old new stats = stats ≡ []

-- the same for the words, and nothing where these are a wrong use
pub record AreStats (words : List (String Global)) (s : Status) (old new : Option (List ℕ)) (stats : List ℕ) :
    Type 0 where
  pub asked : ForAsked IsAny words (λ r. AreStatsOf r s old new stats)
  pub wrong : IsUsageOrMemory s → stats ≡ []
