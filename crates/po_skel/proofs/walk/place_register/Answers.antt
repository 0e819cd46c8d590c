use Rattle.std.proofs.Common.{sym, ◌∙◌, ap}
use Rattle.po_model.specs.Holed.{PlainValues, values_of}
use Rattle.po_skel.proofs.Places.{register_found, register_added}
use Rattle.po_skel.proofs.walk.place_register.Goals as goal

pub returns-in-Some-clause-values : goal.returns-in-Some-clause-values
returns-in-Some-clause-values c =
    let at = rw c.deref.ensures.value at c.find.ensures in
    (register_found (values_of c.args.v.now) c.args.n c.in-Some.k (sym at ∙ c.in-Some.is)).0

pub returns-in-Some-clause-place : goal.returns-in-Some-clause-place
returns-in-Some-clause-place c =
    let at = rw c.deref.ensures.value at c.find.ensures in
    (register_found (values_of c.args.v.now) c.args.n c.in-Some.k (sym at ∙ c.in-Some.is)).1

pub returns-in_ok-push-in-None-clause-values : goal.returns-in_ok-push-in-None-clause-values
returns-in_ok-push-in-None-clause-values c =
    let at = rw c.deref.ensures.value at c.find.ensures in
    let added = (register_added (values_of c.args.v.now) c.args.n (sym at ∙ c.in-None.is)).0 in
    ap (λ rs. let v : PlainValues = record (values_of c.args.v.now) { regs = rs } in v)
    c.in_ok-push-in-None.ensures.items ∙ added

pub returns-in_ok-push-in-None-clause-place : goal.returns-in_ok-push-in-None-clause-place
returns-in_ok-push-in-None-clause-place c =
    let at = rw c.deref.ensures.value at c.find.ensures in
    c.len-k.ensures ∙ c.args.v.now.regs.ok.0
    ∙ (register_added (values_of c.args.v.now) c.args.n (sym at ∙ c.in-None.is)).1
