use Rattle.std.proofs.Common.{◌≡◌, ◌||◌}
use Rattle.po_model.specs.declared.var.Var.{Var}
use Rattle.po_live.specs.Sets.{holds}
use Rattle.po_model.specs.LiveAfter.{is_arg_of}
use Rattle.po_live.proofs.uses.read_args.Given as goal

abbrev pub invariant-loop-k : goal.invariant-loop-k
invariant-loop-k l = (q : Var) → holds l.live q ≡ (is_arg_of l.k q || holds l.initial.live q)
