-- One transfer more is put.
use Rattle.std.proofs.Common.{◌≡◌, ℕ, ◌+◌, ◌<◌, List, [], ◌∷◌, ◌++◌, map, length, drop, get_or, sym, ◌∙◌, ap}
use Rattle.std.proofs.Common.{subst}
use Rattle.std.proofs.lemmas.List.{drop_more, append_assoc}
use Rattle.po_term.specs.declared.transfer.Transfer.{Transfer}
use Rattle.po_term.specs.Moves.{moves_of}
use Rattle.po_model.specs.declared.hole.PTransfer.{PTransfer}
use Rattle.po_model.specs.Holed.{PlainValues, hole_move_of, hole_moves_of}
use Rattle.po_model.specs.Put.{put_move, HasMove, HasMoves}

next_drop : (xs : List PTransfer) (i : ℕ) (x : PTransfer) → i < length xs → x ≡ get_or xs i x
    → drop i xs ≡ x ∷ drop (i + 1) xs
next_drop xs i x h e = drop_more xs i x h ∙ ap (λ y. y ∷ drop (i + 1) xs) (sym e)

pub next_has : (v : PlainValues) (xs : List PTransfer) (i : ℕ) (x : PTransfer) → i < length xs → x ≡ get_or xs i x
    → HasMoves v (hole_moves_of (drop i xs))
    → HasMove v (hole_move_of x) × HasMoves v (hole_moves_of (drop (i + 1) xs))
next_has v xs i x h e has = subst (λ ys. HasMoves v (hole_moves_of ys)) (next_drop xs i x h e) has

pub next_put : (v : PlainValues) (xs : List PTransfer) (i : ℕ) (x : PTransfer) (out new : List Transfer)
    → i < length xs → x ≡ get_or xs i x → moves_of new ≡ moves_of out ++ put_move v (hole_move_of x) ∷ []
    → moves_of out ++ map (put_move v) (hole_moves_of (drop i xs)) ≡ map (put_move v) (hole_moves_of xs)
    → moves_of new ++ map (put_move v) (hole_moves_of (drop (i + 1) xs)) ≡ map (put_move v) (hole_moves_of xs)
next_put v xs i x out new h e made so_far =
    ap (λ ms. ms ++ map (put_move v) (hole_moves_of (drop (i + 1) xs))) made
    ∙ append_assoc (moves_of out) (put_move v (hole_move_of x) ∷ [])
    (map (put_move v) (hole_moves_of (drop (i + 1) xs)))
    ∙ ap (λ ys. moves_of out ++ map (put_move v) (hole_moves_of ys)) (sym (next_drop xs i x h e))
    ∙ so_far
