use Rattle.std.proofs.Common.{refl}
use Rattle.po_model.specs.UnitCodes.{unit_of}
use Rattle.po_compile.proofs.Refused.{unrecognised}
use Rattle.po_compile.proofs.alone.check_unit.Goals as goal

pub check_by-requires-clause-code : goal.check_by-requires-clause-code
check_by-requires-clause-code c = c.requires.formed.placeable.form.ends_last

pub check_by-requires-clause-few_instrs : goal.check_by-requires-clause-few_instrs
check_by-requires-clause-few_instrs c = c.requires.formed.placeable.few_instrs

pub check_by-requires-clause-few_blocks : goal.check_by-requires-clause-few_blocks
check_by-requires-clause-few_blocks c = c.requires.formed.placeable.few_blocks

pub check_by-requires-clause-index : goal.check_by-requires-clause-index
check_by-requires-clause-index c = c.requires.target.index

pub returns-in-Err-Unrecognised : goal.returns-in-Err-Unrecognised
returns-in-Err-Unrecognised c = rw (c.in-Err-Unrecognised.block-is, c.in-Err-Unrecognised.index-is) (
  refl,
  unrecognised c.args.target.now.machine (unit_of c.args.code.now) _ _ _ c.in-Err-Unrecognised.field-0-is
      c.in-Err-Unrecognised.ensures,
)
