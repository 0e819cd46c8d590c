-- What stands behind the assembly in the mode `opt`: the rules of all pairs that the passes try, each in a line.
use Rattle.std.specs.Prelude.{ℕ, ◌≡◌, List, [], ◌∷◌, ◌++◌, length, codes, decimal}
use Rattle.std.specs.List.{flat_map}
use Rattle.po_model.specs.declared.machine.Machine.{Machine}
use Rattle.po_model.specs.Blocks.{PlainBlock}
use Rattle.po_model.specs.Pairs.{PlainPair}
use Rattle.po_model.specs.Scanned.{IsSlowed}
use Rattle.po_model.specs.UnitCodes.{PlainUnit}
use Rattle.po_settle.specs.Texts.{AreSorted, rule_texts}

-- the pairs that all passes over these units try, unit by unit
abbrev pub AreTried : Machine → List PlainUnit → List PlainPair → Type 0
AreTried m [] pairs = pairs ≡ []
AreTried m (u ∷ us) pairs = (first : List PlainPair) × (others : List PlainPair) × (slowed : List PlainBlock)
    × IsSlowed m u.code first slowed × AreTried m us others × (pairs ≡ first ++ others)

-- how many rules there are
abbrev pub count_line : ℕ → List ℕ
count_line n = codes "rules " ++ decimal n ++ codes "\n"

abbrev pub line_of : List ℕ → List ℕ
line_of text = text ++ codes "\n"

-- a line that says how many, and a line for each
abbrev pub rules_text : List (List ℕ) → List ℕ
rules_text texts = count_line (length texts) ++ flat_map line_of texts

-- the texts of the rules of all pairs that the passes try, sorted by bytes, each once
pub record AreRulesOf (m : Machine) (us : List PlainUnit) (rules : List ℕ) : Type 0 where
  pub pairs : List PlainPair
  pub tried : AreTried m us pairs
  pub texts : List (List ℕ)
  pub sorted : AreSorted (rule_texts m pairs) texts
  pub text : rules ≡ rules_text texts
