-- That a pair has one label at most.
use Rattle.std.specs.Prelude.{ℕ, ◌≡◌, List, [], ◌∷◌, Some}
use Rattle.po_term.specs.declared.term.Sym.{Sym}
use Rattle.po_term.specs.Terms.{Place}
use Rattle.po_term.specs.Moves.{Ending, GoTo, IfCc, IfTwo, CallOf, Return, SetTo, CcTo, StoreTo, Ends, PlainMove}
use Rattle.po_model.specs.Pairs.{PlainPair}
use Rattle.po_model.specs.Holed.{PlainValues}
use Rattle.po_model.specs.Shape.{pair_values}

-- the transfer goes to the label of v, if it goes to one
abbrev pub EndsAt : PlainValues → Ending ℕ Place Sym → Type 0
EndsAt v (GoTo l) = v.label ≡ Some l
EndsAt v (IfCc r l) = v.label ≡ Some l
EndsAt v (IfTwo t u r l) = v.label ≡ Some l
EndsAt v (CallOf s n) = Unit {0}
EndsAt v Return = Unit {0}

abbrev pub GoesTo : PlainValues → PlainMove → Type 0
GoesTo v (SetTo r t) = Unit {0}
GoesTo v (CcTo t u) = Unit {0}
GoesTo v (StoreTo t u) = Unit {0}
GoesTo v (Ends e) = EndsAt v e

abbrev pub AllGoTo : PlainValues → List PlainMove → Type 0
AllGoTo v [] = Unit {0}
AllGoTo v (m ∷ ms) = GoesTo v m × AllGoTo v ms

-- both instructions go to one label, if to any
abbrev pub HasOneLabel : PlainPair → Type 0
HasOneLabel p = AllGoTo (pair_values p) p.a × AllGoTo (pair_values p) p.b
