use Rattle.std.proofs.Common.{arith}
use Rattle.std.proofs.lemmas.List.{with_items_is}
use Rattle.std.proofs.lemmas.List.Elements.{All-same}
use Rattle.po_model.specs.Pairs.{pair_of}
use Rattle.po_model.specs.Combined.{combination_of}
use Rattle.po_slow.specs.States.{IsFormedState}
use Rattle.po_core.proofs.Trying.{can_answer_at}
use Rattle.po_core.proofs.tried.try_miss.Goals as goal

pub step_at-requires-clause-answer : goal.step_at-requires-clause-answer
step_at-requires-clause-answer c =
    can_answer_at c.args.m.now c.args.f.now.scans.items c.deref_mut.result.now c.args.f.now.at (pair_of c.args.p)
    (combination_of c.in_ok-o.o) c.deref_mut.ensures.value c.requires.machine c.requires.formed c.requires.ready
    c.in_ok-o.ensures.combines

pub returns-in_err-step_at-clause-formed : goal.returns-in_err-step_at-clause-formed
returns-in_err-step_at-clause-formed c = All-same IsFormedState _ c.step_at.new.scans
    (with_items_is c.args.f.now.scans c.step_at.new.scans
    (omega (arith, c.step_at.auto.scans, c.deref_mut.ensures.len)))
    c.step_at.ensures.formed

pub returns-clause-formed : goal.returns-clause-formed
returns-clause-formed c = All-same IsFormedState _ c.step_at.new.scans
    (with_items_is c.args.f.now.scans c.step_at.new.scans
    (omega (arith, c.step_at.auto.scans, c.deref_mut.ensures.len)))
    c.step_at.ensures.formed
