-- Tests of transfers are tests of their moves, and what is put by kind is in order.
use Rattle.std.proofs.Common.{◌≡◌, Bool, true, false, List, [], ◌∷◌, ◌++◌, refl, ap, ◌∙◌, append-nil}
use Rattle.std.specs.Prelude.{◌||◌, if◌then◌else◌, filter}
use Rattle.std.specs.List.{list_any}
use Rattle.po_model.specs.declared.hole.PTransfer.{PTransfer}
use Rattle.po_model.specs.Joined.{in_order}
use Rattle.po_model.specs.Holed.{HoleMove, hole_move_of, hole_moves_of}
use Rattle.po_trec.specs.declared.order.ByKind.{ByKind}
use Rattle.po_trec.specs.Order.{kinds_of, with_rest, listing}

pub any_move : (p : HoleMove → Bool) (ts : List PTransfer) → list_any p (hole_moves_of ts)
    ≡ list_any (λ t. p (hole_move_of t)) ts
any_move p [] = refl
any_move p (t ∷ ts) = ap (λ b. p (hole_move_of t) || b) (any_move p ts)

pub filter_moves : (p : HoleMove → Bool) (ts : List PTransfer) → hole_moves_of (filter (λ t. p (hole_move_of t)) ts)
    ≡ filter p (hole_moves_of ts)
filter_moves p [] = refl
filter_moves p (t ∷ ts) = go (p (hole_move_of t)) (filter_moves p ts)
  where
    go : (b : Bool) → hole_moves_of (filter (λ u. p (hole_move_of u)) ts) ≡ filter p (hole_moves_of ts)
        → hole_moves_of (if b then t ∷ filter (λ u. p (hole_move_of u)) ts else filter (λ u. p (hole_move_of u)) ts)
        ≡ (if b then hole_move_of t ∷ filter p (hole_moves_of ts) else filter p (hole_moves_of ts))
    go true h = ap (λ ms. hole_move_of t ∷ ms) h
    go false h = h

pub in_order_of : (none all : ByKind) (ms i : List HoleMove)
    → ((ns : List HoleMove) → with_rest none ns ≡ kinds_of ns)
    → ((ns : List HoleMove) → with_rest all ns ≡ with_rest none (ms ++ ns))
    → i ≡ listing (with_rest all []) → i ≡ in_order ms
in_order_of none all ms i e f h = h ∙ ap listing (f [] ∙ ap (with_rest none) (append-nil ms) ∙ e ms)
