use Rattle.std.proofs.Common.{◌≡◌, true}
use Rattle.std.specs.List.{list_all}
use Rattle.po_termtext.specs.Reading.{is_digit, begins_well}
use Rattle.po_termtext.proofs.Numbers.{digits_utf8, unparsed}
use Rattle.po_termtext.proofs.word.number.Goals as goal

pub returns-in_default : goal.returns-in_default
returns-in_default c =
    let digits : list_all is_digit c.args.word.now ≡ true = cc in
    absurd (c.in_default.ensures.cases.0 (digits_utf8 c.args.word.now digits))

pub returns-in-Err : goal.returns-in-Err
returns-in-Err c =
    let digits : list_all is_digit c.args.word.now ≡ true = cc in
    let front : begins_well c.args.word.now ≡ true = cc in
    let told = rw c.in-Ok.ensures.cases.0 at c.parse.ensures.value.0 in
    unparsed c.args.word.now c.parse.result _ c.in-Err.is told digits front
