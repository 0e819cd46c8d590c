use Rattle.std.specs.Prelude.{IfSome}
use Rattle.std.proofs.Common.{length, map, subst}
use Rattle.po_model.specs.Blocks.{block_of, code_of}
use Rattle.po_live.specs.Sets.{nothing}
use Rattle.po_live.specs.Parts.{IsListTo, NoneCross}
use Rattle.po_live.proofs.Preds.{if_ok}
use Rattle.po_live.proofs.Listed.{lent_list, lent_none, list_lengths, list_lives, none_at_ends, solved_lives}
use Rattle.po_live.proofs.live_list.Goals as goal

pub returns-in-Some-clause-lengths : goal.returns-in-Some-clause-lengths
returns-in-Some-clause-lengths c =
    let blocks = c.deref.result.now in
    let list : IsListTo (map block_of blocks) (λ _. nothing) c.in-Some.list (length blocks) =
    subst (λ o. IfSome o (λ l. IsListTo (map block_of blocks) (λ _. nothing) l (length blocks))) c.in-Some.is
    c.in_ok-list.ensures.list in
    list_lengths (code_of c.args.c.now) (λ _. nothing) c.in-Some.list
    (lent_list c.args.c.now.blocks.items blocks (λ _. nothing) c.in-Some.list c.deref.ensures.value list)

pub returns-in-Some-clause-live : goal.returns-in-Some-clause-live
returns-in-Some-clause-live c =
    let blocks = c.deref.result.now in
    let list : IsListTo (map block_of blocks) (λ _. nothing) c.in-Some.list (length blocks) =
    subst (λ o. IfSome o (λ l. IsListTo (map block_of blocks) (λ _. nothing) l (length blocks))) c.in-Some.is
    c.in_ok-list.ensures.list in
    let none : NoneCross (map block_of blocks) (length blocks) =
    subst (λ o. IfSome o (λ l. NoneCross (map block_of blocks) (length blocks))) c.in-Some.is
    c.in_ok-list.ensures.none_cross in
    list_lives (code_of c.args.c.now) (λ _. nothing) c.in-Some.list
    (lent_list c.args.c.now.blocks.items blocks (λ _. nothing) c.in-Some.list c.deref.ensures.value list)
    (none_at_ends (code_of c.args.c.now) (lent_none c.args.c.now.blocks.items blocks c.deref.ensures.value none))

pub returns-clause-lengths : goal.returns-clause-lengths
returns-clause-lengths c = if_ok c.from_ends.result
    (λ l t. list_lengths (code_of c.args.c.now) _ l
    (lent_list c.args.c.now.blocks.items c.deref-3.result.now _ l c.deref-3.ensures.value t)) c.from_ends.ensures

pub returns-clause-live : goal.returns-clause-live
returns-clause-live c = if_ok c.from_ends.result
    (λ l t. solved_lives c.args.c.now.blocks.items c.deref-2.result.now c.deref-3.result.now c.in_ok-out.out.items
    c.deref-4.result.now l c.deref-2.ensures.value c.deref-3.ensures.value c.deref-4.ensures.value
    c.in_ok-out.ensures.live t)
    c.from_ends.ensures
