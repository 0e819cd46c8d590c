-- How what is live flows from block to block.
use Rattle.std.specs.Prelude.{ℕ, zero, suc, nat_lt, if◌then◌else◌, ◌==◌, Bool, true, false, ◌||◌, List, [], ◌∷◌}
use Rattle.std.specs.Prelude.{Option, Some, None}
use Rattle.std.specs.List.{list_any}
use Rattle.std.specs.Global.{Vec}
use Rattle.std.specs.BTreeMap.{BTreeMap, get}
use Rattle.std.specs.Ordering.{nat_cmp}
use Rattle.po_term.specs.declared.term.Sym.{Sym}
use Rattle.po_term.specs.Terms.{Place}
use Rattle.po_term.specs.Moves.{Ending, GoTo, IfCc, IfTwo, CallOf, Return}
use Rattle.po_live.specs.declared.graph.Exit.{Exit}
use Rattle.po_live.specs.declared.graph.Exit.TheVariants as exit
use Rattle.po_model.specs.Blocks.{is_at}

abbrev pub exit_by : Option (Ending ℕ Place Sym) → Exit
exit_by None = exit.Next
exit_by (Some (GoTo l)) = exit.Goto l
exit_by (Some (IfCc r l)) = exit.Branch l
exit_by (Some (IfTwo t u r l)) = exit.Branch l
exit_by (Some (CallOf s n)) = exit.Next
exit_by (Some Return) = exit.Leave

-- whether p is in the list at q
abbrev pub pred_at : List (Vec ℕ) → ℕ → ℕ → Bool
pred_at [] q p = false
pred_at (v ∷ vs) zero p = list_any (λ x. x == p) v.items
pred_at (v ∷ vs) (suc q) p = pred_at vs q p

-- the block of an exit's label, by a table of labels
abbrev pub exit_target : BTreeMap ℕ ℕ → Exit → Option ℕ
exit_target first exit.Next = None
exit_target first (exit.Goto l) = get nat_cmp first l.0
exit_target first (exit.Branch l) = get nat_cmp first l.0
exit_target first exit.Leave = None

abbrev pub exit_goes_on : Exit → Bool
exit_goes_on exit.Next = true
exit_goes_on (exit.Goto l) = false
exit_goes_on (exit.Branch l) = true
exit_goes_on exit.Leave = false

abbrev pub exit_next : Exit → ℕ → ℕ → Option ℕ
exit_next exit b n = if nat_lt (suc b) n then (if exit_goes_on exit then Some (suc b) else None) else None

-- whether the exit of the block b, of n blocks, leads to the block q
abbrev pub exit_leads : BTreeMap ℕ ℕ → ℕ → Exit → ℕ → ℕ → Bool
exit_leads first n exit b q = is_at q (exit_target first exit) || is_at q (exit_next exit b n)
