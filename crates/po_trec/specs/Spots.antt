-- What stands at the places of a pattern, as plain data.
use Rattle.std.specs.Prelude.{ℕ, ◌≡◌, Bool, true, false, is_some, List, ◌++◌, map, take, drop, Option, Some, None}
use Rattle.std.specs.Prelude.{Result, IfOk}
use Rattle.std.specs.Option.{option_map}
use Rattle.std.proofs.Common.{Bor}
use Rattle.po_word.specs.declared.memory.OutOfMemory.{OutOfMemory}
use Rattle.po_word.specs.Exprs.{Expr}
use Rattle.po_word.specs.Views.{expr_of}
use Rattle.po_term.specs.Kinds.{Met, exprs}
use Rattle.po_model.specs.declared.hole.PReg.{PReg}
use Rattle.po_model.specs.Fit.{Thing, ARegister, AConstant, ASymbol, ALabel, Found, AtNumber, AtOperand, questions}
use Rattle.po_model.specs.Fit.{all_yes}
use Rattle.po_model.specs.Holed.{label_hole}
use Rattle.po_trec.specs.declared.found.Stands.{Stands}
use Rattle.po_trec.specs.declared.found.Stands.TheVariants as stands
use Rattle.po_trec.specs.declared.found.Spot.{Spot}
use Rattle.po_trec.specs.declared.found.Spot.TheVariants as spot

abbrev pub HoleThing : Type 0
HoleThing = Thing Expr PReg ℕ

abbrev pub HoleFound : Type 0
HoleFound = Found Expr PReg ℕ

abbrev pub thing_of : Stands → HoleThing
thing_of (stands.Register r) = ARegister r
thing_of (stands.Constant c) = AConstant (expr_of c)
thing_of (stands.Symbol k) = ASymbol k
thing_of stands.Label = ALabel label_hole

abbrev pub found_of : Spot → HoleFound
found_of (spot.Number n c) = AtNumber n (expr_of c)
found_of (spot.Operand k range x) = AtOperand k range (thing_of x)

abbrev pub founds_of : List Spot → List HoleFound
founds_of fs = map found_of fs

-- a thing that was found, behind its reference
abbrev pub thing_found : Option (Bor Stands) → Option HoleThing
thing_found found = option_map (λ x. thing_of x.now) found

-- what a walk that answers b leaves
abbrev pub outcome : Bool → List HoleFound → Option (List HoleFound)
outcome true fs = Some fs
outcome false fs = None

-- behind what was found before
abbrev pub behind : List HoleFound → Option (List HoleFound) → Option (List HoleFound)
behind fs None = None
behind fs (Some gs) = Some (fs ++ gs)

-- on Ok: whether there is the structure, and then what is found is behind what was found before
abbrev pub Finds : Result Bool OutOfMemory → List Spot → List Spot → Option (List HoleFound) → Type 0
Finds result old new found = IfOk result (λ b. outcome b (founds_of new) ≡ behind (founds_of old) found)

-- the answers to the questions of what is found from i on
abbrev pub answers_from : List ℕ → List Spot → ℕ → Met Expr Bool
answers_from ws fs i = all_yes (exprs ws) (questions (founds_of (take i fs)) (founds_of (drop i fs)))

-- whether something fits
abbrev pub whether : Met Expr (Option (List HoleFound)) → Met Expr Bool
whether m = record { got = is_some m.got; asked = m.asked }

-- the number of the entry that fits
abbrev pub numbered : Met Expr (Option (ℕ × List HoleFound)) → Met Expr (Option ℕ)
numbered m = record { got = option_map (λ f. f.0) m.got; asked = m.asked }
