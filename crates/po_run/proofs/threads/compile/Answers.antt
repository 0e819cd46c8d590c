use Rattle.std.proofs.Common.{◌≡◌, ◌<◌, ◌≤◌, ◌∙◌, All, length, ap, sym, subst, arith}
use Rattle.std.specs.Arc.{arc_value}
use Rattle.std.specs.List.{AllZip}
use Rattle.po_model.specs.UnitCodes.{IsUnitCode}
use Rattle.po_compile.specs.declared.mode.Mode.TheVariants.{Opt}
use Rattle.po_compile.specs.Modes.{IsCodeIn}
use Rattle.po_compile.specs.Rules.{AreRulesIn}
use Rattle.po_compile.specs.Steps.{units_of}
use Rattle.po_compile.proofs.Slowed.{made_formed}
use Rattle.po_run.proofs.Making.{IsFormedUnit, formed_codes, made_count}
use Rattle.po_run.proofs.threads.compile.Goals as goal

pub opt_all-requires-clause-formed : goal.opt_all-requires-clause-formed
opt_all-requires-clause-formed g c κs within = subst (All IsFormedUnit) (sym c.deref.ensures.value)
    (formed_codes c.in-Ok.begun.codes.items c.in-Ok.ensures.begun.formed)

pub finish-requires-clause-formed : goal.finish-requires-clause-formed
finish-requires-clause-formed g c =
    let m = arc_value c.in-Ok.begun.machine in
    let naive = c.in-Ok.begun.codes.items in
    let codes : AllZip (IsCodeIn Opt m) (units_of naive) (units_of c.in_ok-opted.opted.codes.items) =
    subst (λ us. AllZip (IsCodeIn Opt m) (units_of us) (units_of c.in_ok-opted.opted.codes.items))
    c.deref.ensures.value c.in_ok-opted.ensures.codes in
    made_formed Opt m (units_of naive) (units_of c.in_ok-opted.opted.codes.items) c.in-Ok.ensures.machine codes
    c.in-Ok.ensures.begun.formed

pub finish-requires-clause-few : goal.finish-requires-clause-few
finish-requires-clause-few g c =
    let m = arc_value c.in-Ok.begun.machine in
    let many : length c.in_ok-opted.opted.codes.items ≡ length c.deref.result.now =
    made_count m c.deref.result.now c.in_ok-opted.opted.codes.items c.in_ok-opted.ensures.codes in
    let same : length c.deref.result.now ≡ length c.in-Ok.begun.codes.items = ap length c.deref.ensures.value in
    let few : length c.in-Ok.begun.codes.items ≤ 65536 = c.in-Ok.ensures.few in omega arith

pub returns-clause-compiles : goal.returns-clause-compiles
returns-clause-compiles g c =
    let m = arc_value c.in-Ok.begun.machine in
    let naive = c.in-Ok.begun.codes.items in
    let made = units_of c.in_ok-opted.opted.codes.items in
    let e : c.deref-2.result.now ≡ m = c.deref-2.ensures in
    let codes : AllZip (IsCodeIn Opt m) (units_of naive) made =
    subst (λ us. AllZip (IsCodeIn Opt m) (units_of us) made) c.deref.ensures.value c.in_ok-opted.ensures.codes in
    let rules : AreRulesIn Opt m (units_of naive) c.in_ok-opted.opted.rules.items =
    subst (λ us. AreRulesIn Opt m (units_of us) c.in_ok-opted.opted.rules.items) c.deref.ensures.value
    c.in_ok-opted.ensures.rules in
    c.finish.ensures.compiles Opt c.args.text.now (units_of naive) (rw (sym e) at c.in-Ok.ensures.begun)
    (rw (sym e) at codes) (rw (sym e) at rules)
