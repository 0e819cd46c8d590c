use Rattle.std.proofs.Common.{ℕ, ◌+◌, ap, arith}
use Rattle.po_model.specs.Blocks.{code_of}
use Rattle.po_model.specs.Naive.{naive}
use Rattle.po_model.specs.UnitCodes.{PlainUnit}
use Rattle.po_table.specs.Tables.{rules_of}
use Rattle.po_gen.proofs.Counting.{no_more, counted_by}
use Rattle.po_gen.proofs.tally.count_unit.Goals as goal

pub instructions-after-requires : goal.instructions-after-requires
instructions-after-requires g c =
    let fewer = no_more c.args.table.now.0 (code_of c.in_ok-naive.naive.code) (code_of c.in_ok-slowed.slowed)
    (rules_of c.args.table.now) (rules_of c.pass_code.new.table) c.requires.machine
    c.in_ok-naive.ensures.formed.placeable.form c.in_ok-slowed.ensures.passed in
    omega (arith, fewer, c.in_ok-naive.ensures.formed.placeable.few_instrs)

pub returns-clause-counted : goal.returns-clause-counted
returns-clause-counted g c = counted_by c.args.table.now.0 (naive c.args.unit.now).code
    (code_of c.in_ok-naive.naive.code) (code_of c.in_ok-slowed.slowed) c.args.tally
    (record {
      before = c.args.tally.before + c.instructions-before.result;
      after = c.args.tally.after + c.instructions-after.result;
    })
    (rules_of c.args.table.now) (rules_of c.pass_code.new.table) c.requires.machine
    c.in_ok-naive.ensures.formed.placeable (ap (λ (u : PlainUnit). u.code) c.in_ok-naive.ensures.naive)
    c.in_ok-slowed.ensures.passed
    (ap (λ (n : ℕ). c.args.tally.before + n) c.instructions-before.ensures)
    (ap (λ (n : ℕ). c.args.tally.after + n) c.instructions-after.ensures)

pub instructions-before-requires : goal.instructions-before-requires
instructions-before-requires g c = c.in_ok-naive.ensures.formed.placeable.few_instrs

pub pass_code-requires-clause-code : goal.pass_code-requires-clause-code
pass_code-requires-clause-code g c = c.in_ok-naive.ensures.formed.placeable.form

pub overflow_add-result-2 : goal.overflow_add-result-2
overflow_add-result-2 g c =
    let fewer = no_more c.args.table.now.0 (code_of c.in_ok-naive.naive.code) (code_of c.in_ok-slowed.slowed)
    (rules_of c.args.table.now) (rules_of c.pass_code.new.table) c.requires.machine
    c.in_ok-naive.ensures.formed.placeable.form c.in_ok-slowed.ensures.passed in
    omega (
      arith,
      fewer,
      c.in_ok-naive.ensures.formed.placeable.few_instrs,
      c.instructions-after.ensures,
      c.requires.after,
    )
