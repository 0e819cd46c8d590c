-- A combination keeps the effect: what is promised of the list of transfers that stands in the place of a pair A, B.
use Rattle.std.specs.Prelude.{◌≡◌, Bool, true, false, ◌||◌, [], ◌++◌, All, Contains, is_some, ⊤}
use Rattle.po_term.specs.declared.term.Reg.{Reg as Register}
use Rattle.po_term.specs.Terms.{State, IsState}
use Rattle.po_term.specs.Form.{WellFormed}
use Rattle.po_model.specs.declared.machine.Machine.{Machine}
use Rattle.po_model.specs.declared.var.Var.{Var}
use Rattle.po_model.specs.declared.var.Var.TheVariants.{Reg, Cc}
use Rattle.po_model.specs.Parts.{ending_of}
use Rattle.po_model.specs.Effect.{effect}
use Rattle.po_model.specs.Keeps.{effect_of_both, SameEffect}
use Rattle.po_model.specs.LiveAfter.{sets}
use Rattle.po_model.specs.Machines.{IsMachine}
use Rattle.po_model.specs.Pairs.{PlainPair, is_live_after, is_set_in}
use Rattle.po_model.specs.Combined.{Answer, Kept, Gone, AsOne}
use Rattle.po_subst.specs.KeepsEffect.{live_before, labels_in, syms_in}
use Rattle.po_term.specs.Moves.{PlainInstr}

-- P of the list that stands in the place of the pair: of the empty one where nothing is left of it
abbrev pub InPlace : Answer → (PlainInstr → Type 0) → Type 0
InPlace Kept P = ⊤
InPlace Gone P = P []
InPlace (AsOne j) P = P j

-- what is live after the pair, among all registers: the pair's own live ones among those that it sets
pub record IsLiveAfter (p : PlainPair) (live : Var → Bool) : Type 0 where
  pub regs : (r : Register) → (is_set_in p.a r || is_set_in p.b r) ≡ true → live (Reg r) ≡ is_live_after p r
  pub cc : live Cc ≡ p.cc

-- the one instruction in the place of the pair is well formed
abbrev pub IsFormed : Answer → Type 0
IsFormed Kept = ⊤
IsFormed Gone = ⊤
IsFormed (AsOne j) = WellFormed j

-- what is promised of the answer for a pair on a machine
pub record KeepsEffect (m : Machine) (p : PlainPair) (answer : Answer) : Type 0 where
  -- in every state it does what A and then B do, as far as it is seen
  pub keeps : (s : State) → IsState s
      → InPlace answer (λ j. SameEffect (is_live_after p) p.cc p.a p.b (effect_of_both p.a p.b s) (effect j s))
  -- it is well formed
  pub formed : IsMachine m → IsFormed answer
  -- its labels and its symbols are among those of the pair
  pub labels : InPlace answer (λ j. All (Contains (labels_in p.a ++ labels_in p.b)) (labels_in j))
  pub symbols : InPlace answer (λ j. All (Contains (syms_in p.a ++ syms_in p.b)) (syms_in j))
  -- it has a transfer of control only where B has one
  pub control : InPlace answer (λ j. is_some (ending_of p.b) ≡ false → is_some (ending_of j) ≡ false)
  -- what it sets, A or B sets
  pub targets : InPlace answer (λ j. (v : Var) → sets j v ≡ true → (sets p.a v || sets p.b v) ≡ true)
  -- what is live before it was live before A
  pub nothing_live : (live : Var → Bool) → IsLiveAfter p live → (v : Var)
      → InPlace answer (λ j. live_before j live v ≡ true → live_before p.a (live_before p.b live) v ≡ true)
