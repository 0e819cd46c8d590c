-- Hits that are looked up once more, each rule once: the hits of a rule that isn't found any more are misses.
use Rattle.std.specs.Prelude.{ℕ, ◌≡◌, ◌+◌, ◌⊎◌, List, [], ◌∷◌, ◌++◌, All, Contains, length, map, sum_by}
use Rattle.std.specs.Arc.{arc_value}
use Rattle.po_model.specs.declared.machine.Machine.{Machine}
use Rattle.po_model.specs.Holed.{PlainRule, rule_of}
use Rattle.po_model.specs.Pairs.{PlainPair}
use Rattle.po_fore.specs.declared.report.Hit.{Hit}
use Rattle.po_rule.specs.Posts.{RoseBy}
use Rattle.po_tally.specs.declared.tally.Tally.{Tally}
use Rattle.po_tally.specs.Tallies.{count_in, total}
use Rattle.po_opt.specs.declared.relook.Relooked.{Relooked}
use Rattle.po_opt.specs.Told.{IsTally}

-- the rule of a hit is one of these
abbrev pub HasRule : List PlainRule → Hit → Type 0
HasRule rules h = Contains rules (rule_of (arc_value h.rule))

-- the hits of a tally are found
pub record IsFound (t : Tally) (old new : Relooked) : Type 0 where
  pub hits : new.hits.items ≡ old.hits.items ++ t.hit ∷ []
  pub found : new.found ≡ old.found + count_in t
  pub lost : new.lost.items ≡ old.lost.items
  pub taken : new.taken ≡ old.taken
  pub dropped : new.dropped ≡ old.dropped

-- they are lost: of so many misses these were taken, and these dropped
pub record IsLost (t : Tally) (taken dropped : ℕ) (old new : Relooked) : Type 0 where
  pub hits : new.hits.items ≡ old.hits.items
  pub found : new.found ≡ old.found
  pub lost : new.lost.items ≡ old.lost.items ++ t.hit.pair ∷ []
  pub taken_is : new.taken ≡ old.taken + taken
  pub dropped_is : new.dropped ≡ old.dropped + dropped

-- what became of misses: so many were taken, behind those before them, and so many dropped
pub record ArePut (before after : List PlainPair) (fulls now taken dropped : ℕ) : Type 0 where
  pub took : length after ≡ length before + taken
  pub full : RoseBy dropped fulls now

-- the hits of one tally more were looked up: its rule is one of these, or each of them is a miss that was posted
abbrev pub IsAdded : List PlainRule → Tally → Relooked → Relooked → List PlainPair → List PlainPair → ℕ → ℕ → Type 0
IsAdded rules t old new before after fulls now =
    (HasRule rules t.hit × IsFound t old new × (after ≡ before) × (now ≡ fulls))
    ⊎ ((taken : ℕ) × (dropped : ℕ) × IsLost t taken dropped old new × (taken + dropped ≡ count_in t)
    × ArePut before after fulls now taken dropped)

-- the tallies were looked up again, but for these: some are found, and others are lost
pub record AreRelooking (m : Machine) (rules : List PlainRule) (old rest : List Tally) (done : Relooked)
    (before after : List PlainPair) (fulls now : ℕ) : Type 0 where
  pub founds : List Tally
  pub losts : List Tally
  pub same : (weight : Tally → ℕ)
      → sum_by weight founds + sum_by weight losts + sum_by weight rest ≡ sum_by weight old
  pub coming : All (IsTally m) rest
  pub are : All (IsTally m) losts
  pub has : All (λ t. HasRule rules t.hit) founds
  pub hits : done.hits.items ≡ map (λ t. t.hit) founds
  pub lost : done.lost.items ≡ map (λ t. t.hit.pair) losts
  pub found : done.found ≡ total founds
  pub misses : done.taken + done.dropped ≡ total losts
  pub put : ArePut before after fulls now done.taken done.dropped

-- all of them
abbrev pub AreRelooked : Machine → List PlainRule → List Tally → Relooked → List PlainPair → List PlainPair → ℕ → ℕ
    → Type 0
AreRelooked m rules old done before after fulls now = AreRelooking m rules old [] done before after fulls now

-- the tallies were looked up again: some are found, by rules of these, and the others are lost
pub record AreSeen (m : Machine) (rules : List PlainRule) (old : List Tally) (done : Relooked) : Type 0 where
  pub founds : List Tally
  pub losts : List Tally
  pub same : (weight : Tally → ℕ) → sum_by weight founds + sum_by weight losts ≡ sum_by weight old
  pub are : All (IsTally m) losts
  pub has : All (λ t. HasRule rules t.hit) founds
  pub hits : done.hits.items ≡ map (λ t. t.hit) founds
  pub lost : done.lost.items ≡ map (λ t. t.hit.pair) losts
  pub found : done.found ≡ total founds
  pub misses : done.taken + done.dropped ≡ total losts
