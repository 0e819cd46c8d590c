-- A line that counts sample units.
use Rattle.std.specs.Prelude.{ℕ, zero, suc, ◌≡◌, ◌+◌, List, [], ◌++◌, length, codes}
use Rattle.std.specs.Fmt.{decimal}
use Rattle.po_sample.specs.Sample.{sample}
use Rattle.po_model.specs.declared.machine.Machine.{Machine}
use Rattle.po_model.specs.Blocks.{PlainBlock}
use Rattle.po_model.specs.Holed.{PlainRule}
use Rattle.po_model.specs.Lookups.{AreDistinct}
use Rattle.po_model.specs.Naive.{naive}
use Rattle.po_model.specs.Pairs.{PlainPair}
use Rattle.po_model.specs.Scanned.{IsSlowed}
use Rattle.po_model.specs.UnitCodes.{PlainUnit, flat}
use Rattle.po_gen.specs.Learnt.{HasRules}

-- how many instructions there are before and after all passes, and the pairs that these try
pub record Count : Type 0 where
  pub before : ℕ
  pub after : ℕ
  pub pairs : List PlainPair

-- with those of one more unit
pub record GoesOn (m : Machine) (u : PlainUnit) (s t : Count) : Type 0 where
  pub pairs : List PlainPair
  pub slowed : List PlainBlock
  pub makes : IsSlowed m u.code pairs slowed
  pub before : t.before ≡ s.before + length (flat u.code)
  pub after : t.after ≡ s.after + length (flat slowed)
  pub tried : t.pairs ≡ s.pairs ++ pairs

-- those of the first n sample units of a seed
abbrev pub IsCount : Machine → ℕ → ℕ → Count → Type 0
IsCount m seed zero t = t ≡ record { before = 0; after = 0; pairs = [] }
IsCount m seed (suc n) t = (s : Count) × IsCount m seed n s × GoesOn m (naive (sample seed n)) s t

abbrev pub line : ℕ → ℕ → ℕ → ℕ → List ℕ
line units before after rules = codes "units " ++ decimal units ++ codes " before " ++ decimal before
    ++ codes " after " ++ decimal after ++ codes " rules " ++ decimal rules ++ codes "\n"

-- the counts of so many sample units of a seed: their instructions before and after all passes, and the rules of all
-- pairs that are tried, each once
pub record IsCounts (m : Machine) (seed units before after number : ℕ) : Type 0 where
  pub count : Count
  pub counted : IsCount m seed units count
  pub is_before : before ≡ count.before
  pub is_after : after ≡ count.after
  pub rules : List PlainRule
  pub are_rules : HasRules m count.pairs rules
  pub distinct : AreDistinct rules
  pub is_number : number ≡ length rules

-- the line that tells them
pub record IsSummary (m : Machine) (seed units : ℕ) (text : List ℕ) : Type 0 where
  pub before : ℕ
  pub after : ℕ
  pub rules : ℕ
  pub counts : IsCounts m seed units before after rules
  pub told : text ≡ line units before after rules
