use Rattle.std.proofs.Common.{◌≡◌, ◌∙◌, refl, subst}
use Rattle.po_model.specs.Blocks.{code_of}
use Rattle.po_slow.specs.States.{scan_of}
use Rattle.po_table.specs.Tables.{rules_of}
use Rattle.po_gen.specs.Passed.{HasPassed}
use Rattle.po_gen.proofs.Passing.{passing_begin, passing_next, passing_end, passed_less}
use Rattle.po_gen.proofs.passes.pass_code.Goals as goal

pub scan-init : goal.scan-init
scan-init g c = record {
  machine = refl;
  formed = c.in_ok-s.ensures.formed;
  passing = passing_begin c.args.table.now.0 (code_of c.args.code) (scan_of c.in_ok-s.s) (rules_of c.args.table.now)
      c.in_ok-s.ensures.starts;
}

pub scan-preserved : goal.scan-preserved
scan-preserved g c =
    let e : c.scan.table.0 ≡ c.args.table.now.0 = c.scan.invariant.machine in
    let passed : HasPassed c.args.table.now.0 (scan_of c.scan.s) (scan_of c.pass_block.new.s) (rules_of c.scan.table)
    (rules_of c.pass_block.new.table) =
    subst (λ m. HasPassed m (scan_of c.scan.s) (scan_of c.pass_block.new.s) (rules_of c.scan.table)
    (rules_of c.pass_block.new.table)) e c.in_ok-pass_block.ensures.passed in
    record {
      machine = c.in_ok-pass_block.ensures.machine ∙ e;
      formed = c.in_ok-pass_block.ensures.formed;
      passing = passing_next c.args.table.now.0 (code_of c.args.code) (scan_of c.scan.s) (scan_of c.pass_block.new.s)
          (rules_of c.args.table.now) (rules_of c.scan.table) (rules_of c.pass_block.new.table)
          c.scan.invariant.passing passed;
    }

pub scan-smaller : goal.scan-smaller
scan-smaller g c = passed_less c.scan.table.0 (scan_of c.scan.s) (scan_of c.pass_block.new.s) (rules_of c.scan.table)
    (rules_of c.pass_block.new.table) c.in_ok-pass_block.ensures.passed

pub pass_block-requires-clause-going : goal.pass_block-requires-clause-going
pass_block-requires-clause-going g c = λ f.
    let yes = c.is_finished.ensures.1 f in
    let no = c.scan-test.true in
    absurd (cc)

pub returns-clause-passed : goal.returns-clause-passed
returns-clause-passed g c = passing_end c.args.table.now.0 (code_of c.args.code) (code_of c.code.result)
    (scan_of c.scan.s) (rules_of c.args.table.now) (rules_of c.scan.table) c.scan.invariant.passing c.code.ensures
