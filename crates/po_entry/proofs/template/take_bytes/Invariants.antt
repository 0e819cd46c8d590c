use Rattle.std.proofs.Common.{◌≡◌, ◌+◌, drop}
use Rattle.po_entry.specs.Template.{template_from, nothing_yet}
use Rattle.po_entry.proofs.template.take_bytes.Given as goal

-- the bytes left, taken behind what was read so far
abbrev pub invariant-bytes : goal.invariant-bytes
invariant-bytes l = record {
  column : l.column ≡ l.fn.first + l.byte-index;
  read : template_from l.operands l.column l.begun (drop l.byte-index l.bytes) ≡ template_from l.operands l.fn.first
      nothing_yet l.bytes;
}
