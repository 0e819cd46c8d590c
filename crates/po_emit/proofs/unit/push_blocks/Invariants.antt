use Rattle.std.proofs.Common.{◌≡◌, ◌++◌, true, drop, map}
use Rattle.std.specs.Io.{StartsWith}
use Rattle.po_model.specs.Blocks.{block_of}
use Rattle.po_live.specs.Flags.{flag_at, flags_at}
use Rattle.po_model.specs.UnitCodes.{unit_of}
use Rattle.po_model.specs.Assembly.{blocks_from}
use Rattle.po_emit.specs.Fits.{FitBlocksFrom}
use Rattle.po_emit.specs.Regs.{machine_at}
use Rattle.po_emit.proofs.unit.push_blocks.Given as goal

-- the lines so far, and then those of the blocks behind
abbrev pub invariant-loop-b : goal.invariant-loop-b
invariant-loop-b l = record {
  text :
      l.out.items
      ++ blocks_from l.m (machine_at l.regs) (unit_of l.u) (λ b i. flag_at (flags_at l.lives b) i) l.b
      (map block_of (drop l.b l.u.code.blocks.items))
      ≡ l.fn.out.items
      ++ blocks_from l.m (machine_at l.regs) (unit_of l.u) (λ b i. flag_at (flags_at l.lives b) i) 0
      (map block_of l.u.code.blocks.items);
  fits : l.all ≡ true → FitBlocksFrom l.m l.lives l.b (map block_of (drop l.b l.u.code.blocks.items))
      → FitBlocksFrom l.m l.lives 0 (map block_of l.u.code.blocks.items);
  kept : StartsWith l.out.items l.fn.out.items;
}
