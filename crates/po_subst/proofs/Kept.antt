-- What stays of A, transfer by transfer.
use Rattle.std.proofs.Common.{◌≡◌, ℕ, suc, ◌+◌, ◌<◌, Bool, true, false, List, [], ◌∷◌, ◌++◌, refl, sym, ◌∙◌, ap}
use Rattle.std.proofs.Common.{length, drop, get_or, add-one, drop-cons}
use Rattle.std.specs.Prelude.{if◌then◌else◌, filter}
use Rattle.po_term.specs.declared.term.Reg.{Reg as Register}
use Rattle.po_term.specs.declared.transfer.Transfer.{Transfer}
use Rattle.po_term.specs.Moves.{moves_of, PlainMove}
use Rattle.po_model.specs.Parts.{code_leaves}
use Rattle.po_model.specs.Joined.{is_wanted, is_kept}
use Rattle.po_subst.specs.Order.{Kinds, kept_beside}

filter_first : (p : PlainMove → Bool) (m : PlainMove) (xs ms : List PlainMove)
    → filter p (m ∷ xs) ++ ms ≡ filter p (m ∷ []) ++ (filter p xs ++ ms)
filter_first p m xs ms = go (p m)
  where
    go : (b : Bool)
        → (if b then m ∷ filter p xs else filter p xs) ++ ms ≡ (if b then m ∷ [] else []) ++ (filter p xs ++ ms)
    go true = refl
    go false = refl

pub kept_first : (live : Register → Bool) (cc_live : Bool) (b : List PlainMove) (m : PlainMove)
    (xs ms : List PlainMove)
    → kept_beside live cc_live b (m ∷ xs) ++ ms
    ≡ kept_beside live cc_live b (m ∷ []) ++ (kept_beside live cc_live b xs ++ ms)
kept_first live cc_live b m xs ms =
    filter_first (is_kept code_leaves live cc_live (filter (is_wanted live cc_live) b)) m xs ms

-- what is there with the rest behind m, where m has been put where it belongs
pub kept_step : (live : Register → Bool) (cc_live : Bool) (b : List PlainMove) (new old start : List PlainMove → Kinds)
    (m : PlainMove) (all xs : List PlainMove) → all ≡ m ∷ xs
    → ((ms : List PlainMove) → new ms ≡ old (kept_beside live cc_live b (m ∷ []) ++ ms))
    → ((ms : List PlainMove) → old (kept_beside live cc_live b all ++ ms) ≡ start ms) → (ms : List PlainMove)
    → new (kept_beside live cc_live b xs ++ ms) ≡ start ms
kept_step live cc_live b new old start m all xs e step before ms =
    step (kept_beside live cc_live b xs ++ ms) ∙ ap old (sym (kept_first live cc_live b m xs ms))
    ∙ ap (λ ys. old (kept_beside live cc_live b ys ++ ms)) (sym e) ∙ before ms

-- the next one, with those behind it
pub next_of : (xs : List Transfer) (i : ℕ) (x : Transfer) → i < length xs → x ≡ get_or xs i x
    → drop i xs ≡ x ∷ drop (i + 1) xs
next_of xs i x h e = rw (add-one, drop-cons xs i x h) (ap (λ y. y ∷ drop (suc i) xs) (sym e))

-- what is there, where nothing is left to come
pub kept_end : (live : Register → Bool) (cc_live : Bool) (b : List PlainMove) (now start : List PlainMove → Kinds)
    (rest : List Transfer) → length rest ≡ 0
    → ((ms : List PlainMove) → now (kept_beside live cc_live b (moves_of rest) ++ ms) ≡ start ms)
    → (ms : List PlainMove) → now ms ≡ start ms
kept_end live cc_live b now start [] e h ms = h ms
kept_end live cc_live b now start (t ∷ rest) e h ms = cc
