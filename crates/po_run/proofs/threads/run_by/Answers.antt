use Rattle.std.proofs.Common.{ℕ, Vec, Global, ◌∙◌, refl, sym, subst, inr}
use Rattle.po_compile.specs.declared.status.Status.{Status}
use Rattle.po_compile.specs.Statuses.{OnBadText}
use Rattle.po_compile.specs.declared.mode.Mode.TheVariants.{Opt}
use Rattle.po_compile.proofs.Complete.{bad_text_complete, refused_complete}
use Rattle.po_compile.proofs.Refused.{too_long}
use Rattle.po_run.proofs.threads.run_by.Goals as goal

-- more bytes came than an input may have
pub returns-in-Err-TooLong-clause-bad_text : goal.returns-in-Err-TooLong-clause-bad_text
returns-in-Err-TooLong-clause-bad_text g c =
    let old = g.S.Source.left c.args.source.now in
    let new = g.S.Source.left c.read_all.new.source in
    let long = too_long (Vec ℕ Global) c.in-Err-TooLong.field-0 4194304 c.in-Err-TooLong.line c.in-Err-TooLong.col old
    new c.in-Err-TooLong.field-0-is c.in-Err-TooLong.ensures.too_long in
    subst (λ (s : Status). OnBadText s old new) (sym c.ended-in-Err-TooLong.ensures.status)
    (rw (c.in-Err-TooLong.line-is, c.in-Err-TooLong.col-is) (inr (long.0, refl, long.1, long.2, long.3)))

pub returns-in-Err-TooLong-clause-complete : goal.returns-in-Err-TooLong-clause-complete
returns-in-Err-TooLong-clause-complete g c = bad_text_complete Opt
    c.ended-in-Err-TooLong.result.status _ _ _ (g.S.Source.left c.args.source.now)
    (g.S.Source.left c.read_all.new.source) _ _ _ _ c.ended-in-Err-TooLong.ensures.status
    (returns-in-Err-TooLong-clause-bad_text g c)

pub returns-in-Err-clause-complete : goal.returns-in-Err-clause-complete
returns-in-Err-clause-complete g c =
    let all = c.in-Ok.ensures.all in
    refused_complete Opt c.in-Ok.text.items c.in-Err.refusal
    c.ended-in-Err.result.status (g.S.Source.left c.args.source.now) (g.S.Source.left c.read_all.new.source) _ _ _ _
    (c.ended-in-Err.ensures.status ∙ c.status_of.ensures) (record { given = all.0; ended = all.1; fits = all.2 })
    (rw c.deref.ensures.value at c.in-Err.ensures.compiles)
