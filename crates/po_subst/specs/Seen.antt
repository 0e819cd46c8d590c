-- What a call takes and gives, seen without references and boxes.
use Rattle.std.specs.Prelude.{ℕ, Bool, List, Option}
use Rattle.std.specs.List.{list_any}
use Rattle.std.specs.Option.{option_map}
use Rattle.std.proofs.Common.{Bor}
use Rattle.po_term.specs.declared.term.Term.{Term}
use Rattle.po_term.specs.declared.term.Reg.{Reg as Register}
use Rattle.po_term.specs.Tree.{Tree}
use Rattle.po_term.specs.Terms.{Place, tree_of}
use Rattle.po_term.specs.Simplified.{reg_eq}

-- a register is one of these
abbrev pub is_among : List Register → Register → Bool
is_among rs r = list_any (reg_eq r) rs

-- a term that was found, behind its reference
abbrev pub tree_found : Option (Bor Term) → Option (Tree ℕ Place)
tree_found found = option_map (λ t. tree_of t.now) found

-- two terms that were found, behind their references
abbrev pub two_found : Option (Bor Term × Bor Term) → Option (Tree ℕ Place × Tree ℕ Place)
two_found found = option_map (λ two. (tree_of two.0.now, tree_of two.1.now)) found

-- a term that was made, where there is one
abbrev pub tree_made : Option Term → Option (Tree ℕ Place)
tree_made made = option_map tree_of made
