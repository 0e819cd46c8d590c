-- Slow combination: what becomes of a pair of instructions A and B on a machine, with what is live after B.
--
-- The pair is joined, and the joint list has to fit an entry. `combined` is read over any kind of constants; at
-- `words` and `code_leaves` it is slow combination itself.
use Rattle.std.specs.Prelude.{ℕ, Bool, List, Option, Some, None}
use Rattle.po_term.specs.declared.term.Reg.{Reg as Register}
use Rattle.po_term.specs.declared.term.Sym.{Sym}
use Rattle.po_term.specs.Terms.{Place}
use Rattle.po_term.specs.Moves.{Move, instr_of}
use Rattle.po_term.specs.Kinds.{Kind, Met, give, and_then, words}
use Rattle.po_model.specs.declared.machine.Machine.{Machine}
use Rattle.po_model.specs.declared.pair.Outcome.{Outcome}
use Rattle.po_model.specs.declared.pair.Outcome.TheVariants as outcome
use Rattle.po_model.specs.Parts.{Leaves, code_leaves}
use Rattle.po_model.specs.Joined as joint
use Rattle.po_model.specs.Joined.{Joint, joined}
use Rattle.po_model.specs.Fit.{Found, first_fit}
use Rattle.po_model.specs.Pairs.{PlainPair, is_live_after}

-- what becomes of a pair: both stay, nothing is left of them, or one list of transfers stands in their place
pub data Combination (K L R S : Type 0) : Type 0 where
  Kept : Combination K L R S
  Gone : Combination K L R S
  AsOne : List (Move K L R S) → Combination K L R S

module _ {K L R S : Type 0} where
  -- the list where an entry fits it; the pair stays where none does
  abbrev pub if_fit : List (Move K L R S) → Option (ℕ × List (Found K R S)) → Combination K L R S
  if_fit ms None = Kept
  if_fit ms (Some found) = AsOne ms

module _ {K L R S : Type 0} (k : Kind K) (leaves : Leaves L R S) (m : Machine) where
  -- what was joined, once the machine's entries were tried
  abbrev pub recognised : Bool → Joint K L R S → Met K (Combination K L R S)
  recognised cc_live joint.NotJoined = give Kept
  recognised cc_live joint.NothingLeft = give Gone
  recognised cc_live (joint.AsOne ms) = and_then (first_fit leaves k cc_live m.entries 0 ms)
      (λ found. give (if_fit ms found))

  -- what becomes of A and B, where `live` says of each register whether it is live after B
  abbrev pub combined : (R → Bool) → Bool → List (Move K L R S) → List (Move K L R S) → Met K (Combination K L R S)
  combined live cc_live a b = and_then (joined k leaves live cc_live a b) (recognised cc_live)

-- what becomes of a pair of a code
abbrev pub Answer : Type 0
Answer = Combination ℕ Place Register Sym

-- by slow combination
abbrev pub combination : Machine → PlainPair → Answer
combination m p = (combined words code_leaves m (is_live_after p) p.cc p.a p.b).got

-- an answer as plain data
abbrev pub combination_of : Outcome → Answer
combination_of outcome.Keep = Kept
combination_of outcome.Nothing = Gone
combination_of (outcome.One i) = AsOne (instr_of i)
