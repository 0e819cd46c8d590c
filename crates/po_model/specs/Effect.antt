-- What an instruction, a list of transfers done at once, does to a state.
use Rattle.std.specs.Prelude.{ℕ, suc, zero, ◌==◌, Bool, true, false, if◌then◌else◌, List, [], ◌∷◌, Option, Some, None}
use Rattle.std.specs.Option.{option_map}
use Rattle.po_word.specs.declared.operator.Rel.{Rel}
use Rattle.po_word.specs.Words.{rel_value}
use Rattle.po_term.specs.declared.term.Reg.TheVariants.{Rv, Arg}
use Rattle.po_term.specs.declared.term.Sym.{Sym}
use Rattle.po_term.specs.declared.term.Label.{Label}
use Rattle.po_term.specs.Terms.{Place, InReg, PlainTerm, State, value}
use Rattle.po_term.specs.Moves.{Ending, GoTo, IfCc, IfTwo, CallOf, Return, PlainInstr}
use Rattle.po_model.specs.Parts.{code_leaves, cc_of, store_of, ending_of, right_at}

-- the word of the right side in the state, and the old word without one
abbrev pub new_word : State → Option PlainTerm → ℕ → ℕ
new_word s None old = old
new_word s (Some t) old = value s t

abbrev pub new_memory : State → Option (PlainTerm × PlainTerm) → ℕ → ℕ
new_memory s None = s.memory
new_memory s (Some m) = λ b. if b == value s m.0 then value s m.1 else s.memory b

abbrev pub new_cc : State → Option (PlainTerm × PlainTerm) → Option (ℕ × ℕ)
new_cc s None = s.cc
new_cc s (Some m) = Some (value s m.0, value s m.1)

-- everything is read in s, then all is set
abbrev pub after : State → PlainInstr → State
after s ms = record {
  place = λ p. new_word s (right_at code_leaves p ms) (s.place p);
  memory = new_memory s (store_of ms);
  cc = new_cc s (cc_of ms);
}

-- where the code goes on: behind the instruction, at a label, in what is called with these words, or nowhere with a
-- word returned
pub data Control : Type 0 where
  Next : Control
  Jump : Label → Control
  Called : Sym → List ℕ → Control
  Returned : ℕ → Control

abbrev pub branch : Bool → Label → Control
branch true l = Jump l
branch false l = Next

-- none where a branch on cc finds nothing there
abbrev pub by_cc : Option (ℕ × ℕ) → Rel → Label → Option Control
by_cc None r l = None
by_cc (Some c) r l = Some (branch (rel_value r c.0 c.1) l)

-- the words of n argument registers, from the k-th on
abbrev pub arguments : State → ℕ → ℕ → List ℕ
arguments s zero k = []
arguments s (suc n) k = s.place (InReg (Arg k)) ∷ arguments s n (suc k)

abbrev pub goes : State → Option (Ending ℕ Place Sym) → Option Control
goes s None = Some Next
goes s (Some (GoTo l)) = Some (Jump l)
goes s (Some (IfCc r l)) = by_cc s.cc r l
goes s (Some (IfTwo t u r l)) = Some (branch (rel_value r (value s t) (value s u)) l)
goes s (Some (CallOf f n)) = Some (Called f (arguments s n 0))
goes s (Some Return) = Some (Returned (s.place (InReg Rv)))

-- what an instruction comes to: the state after it, and where the code goes on
pub record Effected : Type 0 where
  pub state : State
  pub to : Control

-- what an instruction does in a state: none where it branches on a cc that is empty
abbrev pub effect : PlainInstr → State → Option Effected
effect ms s = option_map (λ c. record { state = after s ms; to = c }) (goes s (ending_of ms))
