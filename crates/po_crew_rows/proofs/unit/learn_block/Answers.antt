use Rattle.std.proofs.Common.{◌≡◌, ◌∙◌, sym, subst}
use Rattle.po_model.specs.Lookups.{AreCanonical}
use Rattle.po_table.specs.Tables.{rules_of}
use Rattle.po_crew_rows.proofs.unit.learn_block.Goals as goal

pub compile_block-requires-clause-canonical : goal.compile_block-requires-clause-canonical
compile_block-requires-clause-canonical g c =
    let e : c.deref.result.now ≡ c.args.table.now.0 = c.deref.ensures ∙ c.machine.ensures.is_it in
    subst (λ m. AreCanonical m (rules_of c.args.table.now)) (sym e) c.machine.ensures.canonical
