use Rattle.std.proofs.lemmas.List.{drop_all}
use Rattle.std.proofs.Common.{arith}
use Rattle.po_entry.proofs.Bytes.{takes_on, fails_on, all_taken}
use Rattle.po_entry.proofs.template.take_bytes.Goals as goal

-- a byte with a fault
pub returns-in-Err : goal.returns-in-Err
returns-in-Err c = fails_on c.args.operands.now c.bytes.column c.bytes.begun c.args.bytes.now c.bytes.byte-index
    c.in-Err.error _ c.bytes-test.true c.in-Err.ensures c.bytes.invariant.read

-- a byte without one
pub bytes-preserved : goal.bytes-preserved
bytes-preserved c = record {
  column = omega (arith, c.bytes.invariant.column);
  read = takes_on c.args.operands.now c.bytes.column c.bytes.begun c.in-Ok.next c.args.bytes.now c.bytes.byte-index _
      c.bytes-test.true c.in-Ok.ensures c.bytes.invariant.read;
}

-- no byte is left
pub returns : goal.returns
returns c = all_taken c.args.operands.now c.bytes.column c.bytes.begun _ _
    (drop_all c.bytes.byte-index c.args.bytes.now c.bytes-test.false) c.bytes.invariant.read
