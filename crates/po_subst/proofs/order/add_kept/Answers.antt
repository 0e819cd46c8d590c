use Rattle.std.proofs.Common.{◌≡◌, ◌<◌, ◌≤◌, ◌+◌, ◌++◌, ◌∙◌, List, length, drop, get_or, ap, subst, arith}
use Rattle.std.proofs.lemmas.List.{length-drop}
use Rattle.po_term.specs.declared.transfer.Transfer.{Transfer}
use Rattle.po_term.specs.Moves.{move_of, moves_of, instr_of, PlainMove}
use Rattle.po_subst.specs.Order.{Kinds, with_rest, kept_beside}
use Rattle.po_subst.specs.Seen.{is_among}
use Rattle.po_subst.proofs.Kept.{kept_step, kept_end, next_of}
use Rattle.po_subst.proofs.order.add_kept.Goals as goal

pub loop-t-preserved : goal.loop-t-preserved
loop-t-preserved c =
    let live = is_among c.args.live.now in
    let xs = c.args.a.now.xs.items in
    let i = c.loop-t.t-index in
    let after : List PlainMove → Kinds = with_rest c.add_where_kept.new.by_kind in
    let before : List PlainMove → Kinds = with_rest c.loop-t.by_kind in
    let start : List PlainMove → Kinds = λ ms. with_rest c.args.by_kind.now
    (kept_beside live c.args.cc_live (instr_of c.args.b.now) (instr_of c.args.a.now) ++ ms) in
    kept_step live c.args.cc_live (instr_of c.args.b.now) after before start (move_of c.t-item.result)
    (moves_of (drop i xs)) (moves_of (drop (i + 1) xs))
    (ap moves_of (next_of xs i c.t-item.result
    (subst (λ (ys : List Transfer). i < length ys) c.deref-t-items.ensures.value c.loop-t-test.true)
    (c.t-item.is ∙ ap (λ (ys : List Transfer). get_or ys i c.t-item.result) c.deref-t-items.ensures.value)))
    c.in_ok-add_where_kept.ensures c.loop-t.invariant

pub returns : goal.returns
returns c =
    let live = is_among c.args.live.now in
    let xs = c.args.a.now.xs.items in
    let i = c.loop-t.t-index in
    let now : List PlainMove → Kinds = with_rest c.loop-t.by_kind in
    let start : List PlainMove → Kinds = λ ms. with_rest c.args.by_kind.now
    (kept_beside live c.args.cc_live (instr_of c.args.b.now) (instr_of c.args.a.now) ++ ms) in
    kept_end live c.args.cc_live (instr_of c.args.b.now) now start (drop i xs)
    (omega (
      arith,
      length-drop i xs,
      subst (λ (ys : List Transfer). length ys ≤ i) c.deref-t-items.ensures.value c.loop-t-test.false,
    )) c.loop-t.invariant
