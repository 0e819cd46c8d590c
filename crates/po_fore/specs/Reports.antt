-- What is told of the tries of a block.
use Rattle.std.specs.Prelude.{ℕ, ◌≡◌, ◌+◌, List, [], ◌∷◌, ◌++◌, map, length, Bool, true, false}
use Rattle.std.specs.Arc.{arc_value}
use Rattle.po_model.specs.declared.machine.Machine.{Machine}
use Rattle.po_model.specs.Combined.{combination}
use Rattle.po_model.specs.Holed.{PlainRule, rule_of}
use Rattle.po_model.specs.Learning.{Try, GoesBy, PlainHit, hits, misses, steps_of}
use Rattle.po_model.specs.Pairs.{pair_of}
use Rattle.po_model.specs.Scanned.{Scan, Goes, IsAtEnd}
use Rattle.po_fore.specs.declared.report.Hit.{Hit}
use Rattle.po_fore.specs.declared.report.BlockReport.{BlockReport}

abbrev pub hit_of : Hit → PlainHit
hit_of h = record { pair = pair_of h.pair; rule = rule_of (arc_value h.rule) }

-- a report tells of these tries
pub record TellsOf (r : BlockReport) (xs : List Try) : Type 0 where
  pub used : map hit_of r.used.items ≡ hits xs
  pub misses : map pair_of r.misses.items ≡ misses xs
  pub tried : r.tried ≡ length xs

-- by these tries, by the rules rs, a scan went to the end of its block, where slow combination goes too; a step was
-- counted for each miss, from n on to k
pub record IsBlockDone (m : Machine) (rs : List PlainRule) (s t : Scan) (n k : ℕ) (r : BlockReport) : Type 0 where
  pub tries : List Try
  pub goes : GoesBy m rs s tries t
  pub slowly : Goes (combination m) s (steps_of tries) t
  pub at_end : IsAtEnd t
  pub told : TellsOf r tries
  pub ticks : k ≡ n + length (misses tries)

-- by some tries, by the rules rs, a scan went to where slow combination goes too
abbrev pub HasGoneBy : Machine → List PlainRule → Scan → Scan → Type 0
HasGoneBy m rs s t = (xs : List Try) × GoesBy m rs s xs t × Goes (combination m) s (steps_of xs) t

-- a scan went on by these tries, which were put behind what a report tells; a step was counted for each miss
pub record Gains (m : Machine) (rs : List PlainRule) (s t : Scan) (r q : BlockReport) (n k : ℕ)
    (xs : List Try) : Type 0 where
  pub goes : GoesBy m rs s xs t
  pub slowly : Goes (combination m) s (steps_of xs) t
  pub used : map hit_of q.used.items ≡ map hit_of r.used.items ++ hits xs
  pub missed : map pair_of q.misses.items ≡ map pair_of r.misses.items ++ misses xs
  pub ticks : k ≡ n + length (misses xs)

-- by one try, or by none at the end of the block
abbrev pub IsTryOn : Machine → List PlainRule → Scan → Scan → BlockReport → BlockReport → ℕ → ℕ → Bool → Type 0
IsTryOn m rs s t r q n k true = (x : Try) × Gains m rs s t r q n k (x ∷ [])
IsTryOn m rs s t r q n k false = IsAtEnd s × Gains m rs s t r q n k []
