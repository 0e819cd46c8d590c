-- Hits by one rule, counted: a tally has one of them, and how many others there are.
use Rattle.std.specs.Prelude.{ℕ, ◌≡◌, ◌+◌, ◌⊎◌, List, [], ◌∷◌, ◌++◌, map}
use Rattle.std.specs.Arc.{arc_value}
use Rattle.std.specs.List.{All, Contains, sum_by}
use Rattle.po_model.specs.Holed.{PlainRule, rule_of}
use Rattle.po_model.specs.Learning.{PlainHit}
use Rattle.po_fore.specs.declared.report.Hit.{Hit}
use Rattle.po_fore.specs.Reports.{hit_of}
use Rattle.po_tally.specs.declared.tally.Tally.{Tally}

-- the hit that stands for all
abbrev pub hit_in : Tally → PlainHit
hit_in t = hit_of t.hit

abbrev pub rule_in : Tally → PlainRule
rule_in t = rule_of (arc_value t.hit.rule)

-- how many hits a tally counts, and tallies together
abbrev pub count_in : Tally → ℕ
count_in t = 1 + t.more

abbrev pub total : List Tally → ℕ
total ts = sum_by count_in ts

-- a hit alone
abbrev pub tally_of : Hit → Tally
tally_of h = record { hit = h; more = 0 }

-- a tally was put to others: its hits are counted with those of the same rule, or it stands behind the others
pub record IsPut (old : List Tally) (t : Tally) (new : List Tally) : Type 0 where
  pub hits : ((map hit_in new ≡ map hit_in old) × Contains (map rule_in old) (rule_in t))
      ⊎ (new ≡ old ++ t ∷ [])
  pub count : total new ≡ total old + count_in t

-- the parts are counted in the whole: each hit of the whole is one of the parts, each rule of the parts has a tally,
-- and both count as many hits
pub record AreJoined (parts whole : List Tally) : Type 0 where
  pub each : All (Contains (map hit_in parts)) (map hit_in whole)
  pub all : All (Contains (map rule_in whole)) (map rule_in parts)
  pub count : total whole ≡ total parts
