-- No transfer sets a symbol.
use Rattle.std.proofs.Common.{◌≡◌, [], ◌∷◌, refl}
use Rattle.std.specs.Prelude.{None}
use Rattle.po_term.specs.declared.term.Sym.{Sym}
use Rattle.po_term.specs.Terms.{AtSym}
use Rattle.po_term.specs.Moves.{PlainInstr, SetTo, CcTo, StoreTo, Ends}
use Rattle.po_model.specs.Parts.{code_leaves, right_at}

pub symbol_stays : (s : Sym) (ms : PlainInstr) → right_at code_leaves (AtSym s) ms ≡ None
symbol_stays s [] = refl
symbol_stays s (SetTo r t ∷ ms) = symbol_stays s ms
symbol_stays s (CcTo t u ∷ ms) = symbol_stays s ms
symbol_stays s (StoreTo t u ∷ ms) = symbol_stays s ms
symbol_stays s (Ends e ∷ ms) = symbol_stays s ms
