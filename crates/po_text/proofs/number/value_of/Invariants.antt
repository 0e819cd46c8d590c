use Rattle.std.proofs.Common.{◌≡◌, ◌<◌, ◌^◌, ◌+◌, ◌*◌, length, drop, true}
use Rattle.std.specs.Char.{is_ascii_digit}
use Rattle.std.specs.List.{list_all}
use Rattle.po_text.specs.Number.{digits_value}
use Rattle.po_text.proofs.number.value_of.Given as goal

-- the value so far, with the digits that are left behind it, is the value of all
abbrev pub invariant-loop-digit : goal.invariant-loop-digit
invariant-loop-digit l = record {
  same : l.value * 10 ^ length (drop l.digit-index l.digits) + digits_value (drop l.digit-index l.digits)
      ≡ digits_value l.digits;
  rest : list_all is_ascii_digit (drop l.digit-index l.digits) ≡ true;
  small : l.value < 10 ^ l.digit-index;
}
