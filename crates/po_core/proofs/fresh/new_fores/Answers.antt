use Rattle.std.proofs.Common.{All, map, sym, subst}
use Rattle.std.proofs.lemmas.List.Elements.{All-nil, All-same, All-push}
use Rattle.po_model.specs.UnitCodes.{IsFormedCode}
use Rattle.po_core.specs.Views.{codes_of, IsFormedFore}
use Rattle.po_core.proofs.Lists.{none_left}
use Rattle.po_core.proofs.Starting.{fores_none, fores_more, fores_all, first_formed, others_formed}
use Rattle.po_core.proofs.fresh.new_fores.Goals as goal

pub loop-codes-init : goal.loop-codes-init
loop-codes-init c =
    let e = c.into_iter-codes-iterator.ensures.into_iter_gives.0 in
    record {
      rest = subst (λ us. All (All IsFormedCode) (map codes_of us)) (sym e) c.requires;
      new = fores_none c.args.units.items c.into_iter-codes-iterator.result.rest.items c.new-fores.result.items e
          c.new-fores.ensures.items;
      formed = All-same IsFormedFore c.new-fores.result.items _ c.new-fores.ensures.items (All-nil IsFormedFore);
    }

pub new_fore-requires : goal.new_fore-requires
new_fore-requires c = first_formed c.loop-codes.codes-iterator.rest.items c.next.new.self.rest.items c.in-Some.codes
    c.in-Some.ensures.steps.0 c.loop-codes.invariant.rest

pub loop-codes-preserved : goal.loop-codes-preserved
loop-codes-preserved c = record {
  rest = others_formed c.loop-codes.codes-iterator.rest.items c.next.new.self.rest.items c.in-Some.codes
      c.in-Some.ensures.steps.0 c.loop-codes.invariant.rest;
  new = fores_more c.args.units.items c.loop-codes.codes-iterator.rest.items c.next.new.self.rest.items c.in-Some.codes
      c.loop-codes.fores.items c.push.new.xs.items c.in_ok-new_fore.field-0 c.in-Some.ensures.steps.0
      c.in_ok-push.ensures
      c.in_ok-new_fore.ensures.is_new c.loop-codes.invariant.new;
  formed = All-same IsFormedFore c.push.new.xs.items _ c.in_ok-push.ensures
      (All-push IsFormedFore c.loop-codes.fores.items
      c.in_ok-new_fore.field-0 c.loop-codes.invariant.formed c.in_ok-new_fore.ensures.formed);
}

pub returns-clause-are_new : goal.returns-clause-are_new
returns-clause-are_new c = fores_all c.args.units.items c.loop-codes.codes-iterator.rest.items c.loop-codes.fores.items
    (none_left c.loop-codes.codes-iterator.rest.len c.loop-codes.codes-iterator.rest.items
    c.loop-codes.codes-iterator.rest.ok.0 c.in-None.ensures.steps.0) c.loop-codes.invariant.new
