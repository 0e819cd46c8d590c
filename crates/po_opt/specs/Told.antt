-- What the briefs of all units tell of: which pairs were tried, and by which rules.
use Rattle.std.specs.Prelude.{ℕ, ◌≡◌, ◌+◌, ◌++◌, List, All, Contains, length, map}
use Rattle.std.specs.Arc.{arc_value}
use Rattle.std.specs.List.{AllZip, flat_map}
use Rattle.po_model.specs.declared.code.UnitCode.{UnitCode}
use Rattle.po_model.specs.declared.machine.Machine.{Machine}
use Rattle.po_model.specs.declared.pair.Pair.{Pair}
use Rattle.po_model.specs.Generalised.{generalised}
use Rattle.po_model.specs.Holed.{rule_of}
use Rattle.po_model.specs.Pairs.{PlainPair, pair_of, WellFormedPair}
use Rattle.po_model.specs.RuleText.{rule_text}
use Rattle.po_model.specs.UnitCodes.{PlainUnit, unit_of}
use Rattle.po_slow.specs.Passes.{IsSlowedUnit}
use Rattle.po_fore.specs.declared.report.Hit.{Hit}
use Rattle.po_settle.specs.Lines.{AreTried}
use Rattle.po_settle.specs.Reported.{miss_text}
use Rattle.po_settle.specs.Texts.{rule_texts}
use Rattle.po_tally.specs.declared.brief.Brief.{Brief}
use Rattle.po_tally.specs.declared.tally.Tally.{Tally}
use Rattle.po_tally.specs.Tallies.{rule_in, total}

abbrev pub units_of : List UnitCode → List PlainUnit
units_of codes = map unit_of codes

-- each of these is what slow combination makes of a unit
abbrev pub AreSlowed : Machine → List PlainUnit → List PlainUnit → Type 0
AreSlowed m us vs = AllZip (λ u v. (tries : ℕ) × IsSlowedUnit m u v tries) us vs

-- the pair of a hit is well formed, and its rule is the rule of the pair
pub record IsHit (m : Machine) (h : Hit) : Type 0 where
  pub formed : WellFormedPair (pair_of h.pair)
  pub rule : rule_of (arc_value h.rule) ≡ generalised m (pair_of h.pair)

-- the hit of a tally
abbrev pub IsTally : Machine → Tally → Type 0
IsTally m t = IsHit m t.hit

-- the texts of the rules of tallies, and of all tries
abbrev pub tally_text : Tally → List ℕ
tally_text t = rule_text (rule_in t)

abbrev pub texts_told : Machine → List Tally → List Pair → List (List ℕ)
texts_told m tallies misses = map tally_text tallies ++ map (miss_text m) misses

-- tallies and misses tell of the pairs that all passes over these units try: as many, and of the same rules
pub record AreTold (m : Machine) (us : List PlainUnit) (tallies : List Tally) (misses : List Pair) : Type 0 where
  pub pairs : List PlainPair
  pub tried : AreTried m us pairs
  pub count : total tallies + length misses ≡ length pairs
  pub each : All (Contains (rule_texts m pairs)) (texts_told m tallies misses)
  pub all : All (Contains (texts_told m tallies misses)) (rule_texts m pairs)

-- the codes, the tallies and the misses of all briefs
abbrev pub codes_in : List Brief → List UnitCode
codes_in briefs = map (λ b. b.unit) briefs

abbrev pub tallies_in : List Brief → List Tally
tallies_in briefs = flat_map (λ b. b.tallies.items) briefs

abbrev pub misses_in : List Brief → List Pair
misses_in briefs = flat_map (λ b. b.misses.items) briefs
