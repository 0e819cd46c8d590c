use Rattle.std.proofs.Common.{◌≡◌, ◌∙◌, All, map, refl, sym, subst}
use Rattle.po_model.specs.Lookups.{AreCanonical}
use Rattle.po_model.specs.Pairs.{pair_of, WellFormedPair}
use Rattle.po_slow.specs.States.{scan_of}
use Rattle.po_table.specs.Tables.{rules_of}
use Rattle.po_gen.specs.Learnt.{Learns}
use Rattle.po_gen.proofs.Passing.{formed_misses, block_passed_when}
use Rattle.po_gen.proofs.passes.pass_block.Goals as goal

pub compile_block-requires-clause-canonical : goal.compile_block-requires-clause-canonical
compile_block-requires-clause-canonical g c =
    let e : c.deref.result.now ≡ c.args.table.now.0 = c.deref.ensures ∙ c.machine.ensures.is_it in
    subst (λ m. AreCanonical m (rules_of c.args.table.now)) (sym e) c.machine.ensures.canonical

pub learn_all-requires-clause-pairs : goal.learn_all-requires-clause-pairs
learn_all-requires-clause-pairs g c =
    subst (λ ps. All WellFormedPair (map pair_of ps)) (sym c.deref-2.ensures.value)
    (formed_misses c.deref.result.now (rules_of c.args.table.now) (scan_of c.args.s.now)
    (scan_of c.compile_block.new.s) c.args.steps.now c.compile_block.new.steps c.in_ok-report.report
    c.in_ok-report.ensures.done)

pub returns-clause-passed : goal.returns-clause-passed
returns-clause-passed g c =
    let m = c.args.table.now.0 in
    let e : c.deref.result.now ≡ m = c.deref.ensures ∙ c.machine.ensures.is_it in
    block_passed_when c.next_block.result m c.deref.result.now m (rules_of c.args.table.now)
    (rules_of c.learn_all.new.table) (scan_of c.args.s.now) (scan_of c.compile_block.new.s)
    (scan_of c.next_block.new.self) c.args.steps.now c.compile_block.new.steps c.in_ok-report.report e refl
    (subst (λ m. AreCanonical m (rules_of c.args.table.now)) (sym e) c.machine.ensures.canonical)
    c.in_ok-report.ensures.done
    (subst (λ ps. Learns m (rules_of c.args.table.now) (rules_of c.learn_all.new.table) (map pair_of ps))
    c.deref-2.ensures.value c.in_ok-learn_all.ensures.learnt) c.next_block.ensures.goes_on
