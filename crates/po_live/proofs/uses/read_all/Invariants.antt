use Rattle.std.proofs.Common.{◌≡◌, ◌||◌, take}
use Rattle.std.specs.List.{list_any}
use Rattle.po_term.specs.Moves.{move_of}
use Rattle.po_model.specs.declared.var.Var.{Var}
use Rattle.po_live.specs.Sets.{holds}
use Rattle.po_model.specs.LiveAfter.{move_reads}
use Rattle.po_live.proofs.uses.read_all.Given as goal

abbrev pub invariant-loop-t : goal.invariant-loop-t
invariant-loop-t l =
    (q : Var)
    → holds l.live q ≡ (list_any (λ t. move_reads (move_of t) q) (take l.t-index l.xs) || holds l.initial.live q)
