-- What naive code keeps of cc from block to block.
use Rattle.std.specs.Prelude.{ℕ}
use Rattle.po_ir.specs.declared.unit.Unit.{Unit as StackUnit}
use Rattle.po_model.specs.declared.var.Var.TheVariants.{Cc}
use Rattle.po_model.specs.Blocks.{instrs_at}
use Rattle.po_model.specs.LiveAfter.{IsLive}
use Rattle.po_model.specs.Naive.{naive}

-- cc is dead at the start of each block of naive code
abbrev pub CcDeadAtStarts : Type 0
CcDeadAtStarts =
    (u : StackUnit) (b : ℕ) → IsLive (naive u).code Cc (record { block = b; rest = instrs_at (naive u).code b }) → ⊥
