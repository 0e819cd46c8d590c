-- The texts of the rules that reports tell of.
use Rattle.std.specs.Prelude.{ℕ, List, [], ◌∷◌, ◌++◌, map, All}
use Rattle.std.specs.Arc.{arc_value}
use Rattle.po_model.specs.declared.machine.Machine.{Machine}
use Rattle.po_model.specs.declared.pair.Pair.{Pair}
use Rattle.po_model.specs.Generalised.{generalised}
use Rattle.po_model.specs.Holed.{rule_of}
use Rattle.po_model.specs.Pairs.{PlainPair, pair_of, WellFormedPair}
use Rattle.po_model.specs.RuleText.{rule_text}
use Rattle.po_fore.specs.declared.report.Hit.{Hit}
use Rattle.po_fore.specs.declared.report.BlockReport.{BlockReport}

-- the text of the rule that was used
abbrev pub hit_text : Hit → List ℕ
hit_text h = rule_text (rule_of (arc_value h.rule))

-- the text of the rule of a miss
abbrev pub miss_text : Machine → Pair → List ℕ
miss_text m p = rule_text (generalised m (pair_of p))

abbrev pub report_texts : Machine → BlockReport → List (List ℕ)
report_texts m r = map hit_text r.used.items ++ map (miss_text m) r.misses.items

abbrev pub all_texts : Machine → List BlockReport → List (List ℕ)
all_texts m [] = []
all_texts m (r ∷ rs) = report_texts m r ++ all_texts m rs

-- all misses, in order
abbrev pub all_misses : List BlockReport → List PlainPair
all_misses [] = []
all_misses (r ∷ rs) = map pair_of r.misses.items ++ all_misses rs

abbrev pub HasFormedMisses : BlockReport → Type 0
HasFormedMisses r = All WellFormedPair (map pair_of r.misses.items)
