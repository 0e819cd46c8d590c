use Rattle.std.proofs.Common.{◌∙◌, arith}
use Rattle.std.proofs.lemmas.Grind.{common_steps}
use Rattle.po_text.proofs.Digits.{one_digit}
use Rattle.po_text.proofs.number.value_of.Goals as goal

-- one digit more
pub loop-digit-preserved : goal.loop-digit-preserved
loop-digit-preserved c = record {
  same =
      one_digit c.loop-digit.value c.args.digits.now c.loop-digit.digit-index (omega arith)
      ∙ c.loop-digit.invariant.same;
  rest = grind (arith, common_steps);
  small = grind (arith, common_steps);
}
