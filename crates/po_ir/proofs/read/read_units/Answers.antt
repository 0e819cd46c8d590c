use Rattle.po_lines.specs.Lines.{lines_behind, line_behind}
use Rattle.po_ir.proofs.Allowed.{answer_allowed, answer_each, answer_differ, answer_few}
use Rattle.po_ir.proofs.TextLaws.{answer_written}
use Rattle.po_ir.proofs.read.read_units.Goals as goal

pub returns-clause-allowed : goal.returns-clause-allowed
returns-clause-allowed c =
    answer_each _ (answer_allowed (lines_behind c.args.at c.args.text.now) (line_behind c.args.at c.args.text.now) _
    c.units_of.ensures)

pub returns-clause-differ : goal.returns-clause-differ
returns-clause-differ c =
    answer_differ _ (answer_allowed (lines_behind c.args.at c.args.text.now) (line_behind c.args.at c.args.text.now) _
    c.units_of.ensures)

pub returns-clause-few : goal.returns-clause-few
returns-clause-few c =
    answer_few _ (answer_allowed (lines_behind c.args.at c.args.text.now) (line_behind c.args.at c.args.text.now) _
    c.units_of.ensures)

pub returns-clause-written : goal.returns-clause-written
returns-clause-written c =
    answer_written (lines_behind c.args.at c.args.text.now) (line_behind c.args.at c.args.text.now) _
    c.units_of.ensures
