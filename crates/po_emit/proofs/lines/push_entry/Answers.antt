use Rattle.std.proofs.Common.{◌≡◌, ◌++◌, ◌∙◌, ℕ, List, map, ap, subst}
use Rattle.std.specs.Prelude.{OnOk}
use Rattle.po_model.specs.UnitCodes.{unit_of}
use Rattle.po_emit.specs.Regs.{machine_at}
use Rattle.po_emit.specs.Templates.{line_text}
use Rattle.po_emit.proofs.EntryLines.{line_there, line_past}
use Rattle.po_emit.proofs.lines.push_entry.Goals as goal

pub returns-in-Some-clause-ok : goal.returns-in-Some-clause-ok
returns-in-Some-clause-ok c =
    let are = λ (text : ℕ → List ℕ). ap (map (line_text text)) c.as_slice.ensures.value ∙ c.requires text in
    let line = line_there c.args.m.now c.as_slice.result.now (machine_at c.args.regs.now) (unit_of c.args.u.now)
    c.args.slots.now are c.args.entry c.in-Some.line.now c.in-Some.ensures.lookup.0
    c.in-Some.ensures.lookup.1 in
    subst (λ (t : List ℕ). OnOk c.push_filled.result (c.push_filled.new.out.items ≡ c.args.out.now.items ++ t)) line
    c.push_filled.ensures.ok

pub returns-in-None-clause-ok : goal.returns-in-None-clause-ok
returns-in-None-clause-ok c =
    let are = λ (text : ℕ → List ℕ). ap (map (line_text text)) c.as_slice.ensures.value ∙ c.requires text in
    let line = line_past c.args.m.now c.as_slice.result.now (machine_at c.args.regs.now) (unit_of c.args.u.now)
    c.args.slots.now are c.args.entry c.in-None.ensures.lookup.0 in
    subst
    (λ (t : List ℕ). OnOk c.push_empty_line.result (c.push_empty_line.new.out.items ≡ c.args.out.now.items ++ t))
    line c.push_empty_line.ensures.ok
