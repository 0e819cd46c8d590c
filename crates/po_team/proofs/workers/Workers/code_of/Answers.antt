use Rattle.std.proofs.Common.{◌∙◌, length, refl, sym, subst, ap}
use Rattle.std.proofs.lemmas.List.Elements.{All-get_or}
use Rattle.std.proofs.lemmas.Option.{slice_get_read}
use Rattle.po_model.specs.declared.code.UnitCode.{UnitCode}
use Rattle.po_model.specs.Blocks.{code_of}
use Rattle.po_model.specs.UnitCodes.{PlainUnit, unit_of, IsFormedCode}
use Rattle.po_team.proofs.workers.Workers.code_of.Goals as goal

pub returns-clause-copy : goal.returns-clause-copy
returns-clause-copy g c =
    let codes = c.args.self.now.codes.now in
    let u = c.index-self-index.result in (
      u,
      slice_get_read codes (length codes) c.args.index u refl c.requires.index c.index-self-index.is,
      c.in_ok-copy.ensures ∙ ap unit_of (sym c.index-self-index.is),
    )

pub returns-clause-formed : goal.returns-clause-formed
returns-clause-formed g c =
    let codes = c.args.self.now.codes.now in
    let u = c.index-self-index.result in
    let formed = All-get_or (λ (x : UnitCode). IsFormedCode (code_of x.code)) codes c.args.index u c.requires.index
    c.requires.formed in
    subst IsFormedCode (sym (ap (λ (x : PlainUnit). x.code) c.in_ok-copy.ensures)) formed
