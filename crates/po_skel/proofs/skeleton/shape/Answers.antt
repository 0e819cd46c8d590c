use Rattle.std.proofs.Common.{◌≡◌, List, sym, ◌∙◌, ap₂, subst, refl}
use Rattle.po_term.specs.declared.transfer.Transfer.{Transfer}
use Rattle.po_term.specs.Moves.{moves_of}
use Rattle.po_model.specs.declared.pair.Pair.{Pair}
use Rattle.po_model.specs.Pairs.{pair_of}
use Rattle.po_model.specs.Holed.{PlainValues, PlainShape, values_of, shape_of}
use Rattle.po_model.specs.Shape.{nothing_met, meet_moves, pair_values}
use Rattle.po_skel.specs.Few.{HasFew}
use Rattle.po_skel.specs.Numbered.{numbered_moves}
use Rattle.po_skel.proofs.Few.{pair_few}
use Rattle.po_skel.proofs.Numbered.{walked_shape, few_instruction}
use Rattle.po_skel.proofs.skeleton.shape.Goals as goal

first_met : (p : Pair) (u : PlainValues) (ts : List Transfer) → u ≡ nothing_met → ts ≡ p.a.xs.items
    → meet_moves u (moves_of ts) ≡ meet_moves nothing_met (moves_of p.a.xs.items)
first_met p u ts d e = ap₂ (λ x ys. meet_moves x (moves_of ys)) d e

all_met : (p : Pair) (u v : PlainValues) (ts us : List Transfer) → u ≡ nothing_met → ts ≡ p.a.xs.items
    → us ≡ p.b.xs.items → v ≡ meet_moves u (moves_of ts) → meet_moves v (moves_of us) ≡ pair_values (pair_of p)
all_met p u v ts us d e f g = ap₂ (λ x ys. meet_moves x (moves_of ys)) (g ∙ first_met p u ts d e) f

pub number_transfers-requires : goal.number_transfers-requires
number_transfers-requires c =
    subst HasFew (sym (first_met c.args.p.now (values_of c.nothing_met-v.result) c.deref.result.now
    c.nothing_met-v.ensures c.deref.ensures.value))
    (few_instruction (pair_of c.args.p.now) (pair_few (pair_of c.args.p.now) c.requires.first c.requires.second))

pub number_transfers-requires-2 : goal.number_transfers-requires-2
number_transfers-requires-2 c =
    subst HasFew (sym (all_met c.args.p.now (values_of c.nothing_met-v.result) (values_of c.number_transfers.new.v)
    c.deref.result.now c.deref-2.result.now c.nothing_met-v.ensures c.deref.ensures.value c.deref-2.ensures.value
    c.in_ok-a.ensures.values)) (pair_few (pair_of c.args.p.now) c.requires.first c.requires.second)

pub all_live-requires : goal.all_live-requires
all_live-requires c =
    let met = all_met c.args.p.now (values_of c.nothing_met-v.result) (values_of c.number_transfers.new.v)
    c.deref.result.now c.deref-2.result.now c.nothing_met-v.ensures c.deref.ensures.value c.deref-2.ensures.value
    c.in_ok-a.ensures.values in
    subst HasFew (sym (c.in_ok-b.ensures.values ∙ met))
    (pair_few (pair_of c.args.p.now) c.requires.first c.requires.second)

pub returns : goal.returns
returns c =
    let p = c.args.p.now in
    let start = values_of c.nothing_met-v.result in
    let between = values_of c.number_transfers.new.v in
    let first = first_met p start c.deref.result.now c.nothing_met-v.ensures c.deref.ensures.value in
    let met = c.in_ok-b.ensures.values
    ∙ all_met p start between c.deref.result.now c.deref-2.result.now c.nothing_met-v.ensures c.deref.ensures.value
    c.deref-2.ensures.value c.in_ok-a.ensures.values in
    let shape : PlainShape = shape_of (record {
      a = c.in_ok-a.a;
      b = c.in_ok-b.b;
      live = c.in_ok-live.live;
      cc = c.args.p.now.live.cc;
    }) in (
      walked_shape (pair_of p) shape (values_of c.number_transfers-2.new.v) met
          (c.in_ok-a.ensures.transfers
          ∙ ap₂ (λ x ys. numbered_moves x (moves_of ys)) c.nothing_met-v.ensures c.deref.ensures.value)
          (c.in_ok-b.ensures.transfers
          ∙ ap₂ (λ x ys. numbered_moves x (moves_of ys)) (c.in_ok-a.ensures.values ∙ first) c.deref-2.ensures.value)
          c.in_ok-live.ensures refl,
      met,
    )
