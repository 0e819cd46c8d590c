use Rattle.std.proofs.Common.{map}
use Rattle.po_model.specs.Blocks.{block_of, IsCode}
use Rattle.po_code_rows.proofs.emit.code.Given as goal

abbrev pub invariant-loop-label : goal.invariant-loop-label
invariant-loop-label l = IsCode (map block_of l.blocks.items)
