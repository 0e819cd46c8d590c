use Rattle.std.proofs.Common.{length, map, sym, ◌∙◌, ap, arith}
use Rattle.std.proofs.lemmas.List.{length-map}
use Rattle.std.proofs.lemmas.Option.{slice_get_within}
use Rattle.po_model.specs.Pairs.{pair_of}
use Rattle.po_model.specs.Combined.{combination_of}
use Rattle.po_model.specs.Holed.{rule_of}
use Rattle.po_slow.specs.States.{scan_of}
use Rattle.po_core.proofs.Trying.{can_answer_at}
use Rattle.po_core.proofs.Values.{has_values}
use Rattle.po_core.proofs.tried.try_hit.Goals as goal

pub outcome-requires : goal.outcome-requires
outcome-requires c = has_values c.args.m.now (rule_of c.args.rule.now) (pair_of c.args.p.now) c.requires.machine
    c.requires.canonical c.requires.ready.formed c.requires.instance

pub step_at-requires-clause-answer : goal.step_at-requires-clause-answer
step_at-requires-clause-answer c =
    can_answer_at c.args.m.now c.args.f.now.scans.items c.deref_mut.result.now c.args.f.now.at (pair_of c.args.p.now)
    (combination_of c.in_ok-o.o) c.deref_mut.ensures.value c.requires.machine c.requires.formed c.requires.ready
    (c.in_ok-o.ensures
    ∙ sym (c.requires.canonical.agrees (pair_of c.args.p.now) c.requires.ready.formed c.requires.instance))

pub step_at-requires-clause-inside : goal.step_at-requires-clause-inside
step_at-requires-clause-inside c =
    let xs = c.args.f.now.scans.items in
    let r = c.requires.ready in
    omega (
      arith,
      slice_get_within (map scan_of xs) c.args.f.now.at r.scan r.present,
      length-map xs scan_of,
      ap length c.deref_mut.ensures.value,
    )
