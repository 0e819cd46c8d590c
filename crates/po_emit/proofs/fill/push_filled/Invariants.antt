use Rattle.std.proofs.Common.{◌≡◌, ◌++◌, drop}
use Rattle.std.specs.Io.{StartsWith}
use Rattle.std.specs.List.{flat_map}
use Rattle.po_model.specs.UnitCodes.{unit_of}
use Rattle.po_emit.specs.Regs.{machine_at}
use Rattle.po_emit.specs.Texts.{digit_text}
use Rattle.po_emit.specs.Templates.{part_text, line_text}
use Rattle.po_emit.proofs.fill.push_filled.Given as goal

-- the parts so far, and then the rest
abbrev pub invariant-loop-part : goal.invariant-loop-part
invariant-loop-part l =
    let text = digit_text l.m (machine_at l.regs) (unit_of l.u) l.slots in
    record {
      text : l.out.items ++ flat_map (part_text text) (drop l.part-index l.line.parts.items)
          ≡ l.fn.out.items ++ line_text text l.line;
      kept : StartsWith l.out.items l.fn.out.items;
    }
