use Rattle.std.proofs.Common.{◌≡◌, ◌&&◌, not, take}
use Rattle.std.specs.List.{list_any}
use Rattle.po_term.specs.Moves.{move_of}
use Rattle.po_model.specs.declared.var.Var.{Var}
use Rattle.po_live.specs.Sets.{holds}
use Rattle.po_model.specs.LiveAfter.{move_sets}
use Rattle.po_live.proofs.uses.unset_all.Given as goal

abbrev pub invariant-loop-t : goal.invariant-loop-t
invariant-loop-t l =
    (q : Var)
    → holds l.live q
    ≡ (not (list_any (λ t. move_sets (move_of t) q) (take l.t-index l.xs)) && holds l.initial.live q)
