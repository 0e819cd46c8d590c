-- What is promised of an instruction that the scan drops.
use Rattle.std.specs.Prelude.{ℕ, ◌≡◌, Bool, true, [], Some}
use Rattle.po_term.specs.Terms.{Place, State}
use Rattle.po_model.specs.declared.var.Var.{Var}
use Rattle.po_model.specs.declared.var.Var.TheVariants.{Reg, Cc}
use Rattle.po_model.specs.Effect.{Effected, Next, effect}
use Rattle.po_model.specs.Keeps.{matters, cc_matters}
use Rattle.po_model.specs.Scanned.{is_dead}
use Rattle.po_term.specs.Moves.{PlainInstr}

-- where the instruction x ends that began in the state s: the code goes on behind it, each word of memory is as it
-- was, and so is each register that is live or that x doesn't set, and cc where it is live or x doesn't set it
pub record LeavesNoTrace (live : Var → Bool) (x : PlainInstr) (s : State) (d : Effected) : Type 0 where
  pub control : d.to ≡ Next
  pub memory : (a : ℕ) → d.state.memory a ≡ s.memory a
  pub places : (q : Place) → matters (λ r. live (Reg r)) x [] q ≡ true → d.state.place q ≡ s.place q
  pub compared : cc_matters (live Cc) x [] ≡ true → d.state.cc ≡ s.cc

-- an instruction that has only sets and cc, and none of whose targets is live after it, has an effect in every state,
-- and leaves no trace there
abbrev pub DeadLeavesNoTrace : Type 0
DeadLeavesNoTrace = (live : Var → Bool) (x : PlainInstr) (s : State) → is_dead live x ≡ true
    → (d : Effected) × (effect x s ≡ Some d) × LeavesNoTrace live x s d
