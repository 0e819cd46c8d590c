-- No transfer sets a symbol.
use Rattle.std.proofs.Common.{◌≡◌, ℕ, List, [], ◌∷◌, refl}
use Rattle.std.specs.Prelude.{None}
use Rattle.po_term.specs.Moves.{SetTo, CcTo, StoreTo, Ends}
use Rattle.po_model.specs.Parts.{right_at}
use Rattle.po_model.specs.Holed.{HoleMove, AtSymHole}
use Rattle.po_model.specs.Generalised.{hole_leaves}
use Rattle.po_tsimp.proofs.Paths.{extended_append, extended_nothing}

pub symbol_stays : (k : ℕ) (ms : List HoleMove) → right_at hole_leaves (AtSymHole k) ms ≡ None
symbol_stays k [] = refl
symbol_stays k (SetTo r t ∷ ms) = symbol_stays k ms
symbol_stays k (CcTo t u ∷ ms) = symbol_stays k ms
symbol_stays k (StoreTo t u ∷ ms) = symbol_stays k ms
symbol_stays k (Ends e ∷ ms) = symbol_stays k ms

-- what stands before the transfers of what a leaf is after them
pub ruleset leaf_forwarded = (extended_append, extended_nothing, symbol_stays)
