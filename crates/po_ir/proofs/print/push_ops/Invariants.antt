use Rattle.std.proofs.Common.{◌≡◌, ◌++◌, drop}
use Rattle.std.specs.List.{flat_map}
use Rattle.po_ir.specs.Printing.{op_words, line_text}
use Rattle.po_ir.proofs.print.push_ops.Given as goal

-- what is printed so far, with the lines that are still to come, is the whole
abbrev pub invariant-loop-op : goal.invariant-loop-op
invariant-loop-op l =
    l.out.items ++ flat_map (λ o. line_text (op_words o)) (drop l.op-index l.ops)
    ≡ l.fn.out.items ++ flat_map (λ o. line_text (op_words o)) l.ops
