-- What the transfers of an instruction do in a state: the transfers with words in place of their terms.
use Rattle.std.specs.Prelude.{ℕ, ◌≡◌, if◌then◌else◌, List, [], ◌∷◌, ◌++◌}
use Rattle.po_word.specs.declared.operator.Rel.{Rel}
use Rattle.po_word.specs.Words.{rel_value}
use Rattle.po_term.specs.declared.term.Reg.{Reg as Register}
use Rattle.po_term.specs.declared.term.Sym.{Sym}
use Rattle.po_term.specs.declared.term.Label.{Label}
use Rattle.po_term.specs.Terms.{State, value}
use Rattle.po_term.specs.Moves.{GoTo, IfCc, IfTwo, CallOf, Return, PlainMove, PlainInstr, SetTo, CcTo, StoreTo, Ends}
use Rattle.po_term.specs.Worth.{HasWords}

pub data Action : Type 0 where
  -- the register gets the word
  Sets : Register → ℕ → Action
  -- cc gets the two words
  Compares : ℕ → ℕ → Action
  -- the address gets the word
  Stores : ℕ → ℕ → Action
  -- the code goes on at the label
  Jumps : Label → Action
  -- it goes on there if the relation holds of cc
  JumpsOnCc : Rel → Label → Action
  -- a call with its number of arguments, and a return
  Calls : Sym → ℕ → Action
  Returns : Action

-- what one transfer does: a branch on two terms jumps where the relation holds of their words, and does nothing
-- elsewhere
abbrev pub action : State → PlainMove → List Action
action s (SetTo r t) = Sets r (value s t) ∷ []
action s (CcTo t u) = Compares (value s t) (value s u) ∷ []
action s (StoreTo t u) = Stores (value s t) (value s u) ∷ []
action s (Ends (GoTo l)) = Jumps l ∷ []
action s (Ends (IfCc r l)) = JumpsOnCc r l ∷ []
action s (Ends (IfTwo t u r l)) = if rel_value r (value s t) (value s u) then Jumps l ∷ [] else []
action s (Ends (CallOf f n)) = Calls f n ∷ []
action s (Ends Return) = Returns ∷ []

abbrev pub actions : State → PlainInstr → List Action
actions s [] = []
actions s (m ∷ ms) = action s m ++ actions s ms

-- the constants of its terms are words
abbrev pub MoveHasWords : PlainMove → Type 0
MoveHasWords (SetTo r t) = HasWords t
MoveHasWords (CcTo t u) = HasWords t × HasWords u
MoveHasWords (StoreTo t u) = HasWords t × HasWords u
MoveHasWords (Ends (IfTwo t u r l)) = HasWords t × HasWords u
MoveHasWords (Ends e) = Unit {0}

abbrev pub MovesHaveWords : PlainInstr → Type 0
MovesHaveWords [] = Unit {0}
MovesHaveWords (m ∷ ms) = MoveHasWords m × MovesHaveWords ms

-- the instruction xs has words, and does in the state what ys does
pub record DoesAs (s : State) (xs ys : PlainInstr) : Type 0 where
  pub words : MovesHaveWords xs
  pub does : actions s xs ≡ actions s ys
