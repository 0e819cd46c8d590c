-- The transfers by kind, one kind after the other, are those of the list in order.
use Rattle.std.proofs.Common.{◌≡◌, Bool, true, false, List, [], ◌∷◌, ◌++◌, refl, sym, ◌∙◌, ap, append-nil}
use Rattle.std.specs.Prelude.{not, ◌||◌, if◌then◌else◌, filter}
use Rattle.std.specs.List.{list_any}
use Rattle.std.proofs.lemmas.List.Elements.{filter-append}
use Rattle.po_term.specs.declared.term.Reg.{Reg as Register}
use Rattle.po_model.specs.Parts.{code_leaves}
use Rattle.po_model.specs.Joined.{is_set, is_cc, is_store, is_control, is_idle, is_wanted, is_kept, in_order}
use Rattle.po_model.specs.Joined.{assembled}
use Rattle.po_subst.specs.declared.order.ByKind.{ByKind}
use Rattle.po_subst.specs.Order.{kinds_of, with_rest, listing, kept_beside, is_moving}
use Rattle.po_subst.proofs.Alike.{or_false}
use Rattle.po_term.specs.Moves.{SetTo, CcTo, StoreTo, Ends, PlainMove}

filter_swap : (p q : PlainMove → Bool) (ms : List PlainMove) → filter p (filter q ms) ≡ filter q (filter p ms)
filter_swap p q [] = refl
filter_swap p q (m ∷ ms) = go (p m) refl (q m) refl (filter_swap p q ms)
  where
    go : (b : Bool) → p m ≡ b → (c : Bool) → q m ≡ c → filter p (filter q ms) ≡ filter q (filter p ms)
        → filter p (if c then m ∷ filter q ms else filter q ms) ≡ filter q (if b then m ∷ filter p ms else filter p ms)
    go true d true e ih = rw (d, e) (ap (λ ns. m ∷ ns) ih)
    go true d false e ih = rw (e) ih
    go false d true e ih = rw (d) ih
    go false d false e ih = ih

pub listing_moving : (ms : List PlainMove) → listing (kinds_of ms) ≡ filter is_moving (in_order ms)
listing_moving ms =
    rw (
      filter_swap is_set is_moving ms,
      filter_swap is_cc is_moving ms,
      filter_swap is_store is_moving ms,
      filter_swap is_control is_moving ms,
    )
    (sym (filter-append is_moving (filter is_set ms ++ filter is_cc ms ++ filter is_store ms) (filter is_control ms)
    ∙ ap (λ xs. xs ++ filter is_moving (filter is_control ms)) (filter-append is_moving
    (filter is_set ms ++ filter is_cc ms) (filter is_store ms)
    ∙ ap (λ xs. xs ++ filter is_moving (filter is_store ms))
    (filter-append is_moving (filter is_set ms) (filter is_cc ms)))))

pub assembled_of : (live : Register → Bool) (cc_live : Bool) (none kept all : ByKind)
    (a b forwarded i : List PlainMove) → ((ms : List PlainMove) → with_rest none ms ≡ kinds_of ms)
    → ((ms : List PlainMove) → with_rest kept ms ≡ with_rest none (kept_beside live cc_live b a ++ ms))
    → ((ms : List PlainMove) → with_rest all ms ≡ with_rest kept (forwarded ++ ms)) → i ≡ listing (with_rest all [])
    → i ≡ assembled code_leaves live cc_live a (filter (is_wanted live cc_live) b) forwarded
assembled_of live cc_live none kept all a b forwarded i e f g h =
    h
    ∙ ap listing (g [] ∙ ap (with_rest kept) (append-nil forwarded) ∙ f forwarded
    ∙ e (kept_beside live cc_live b a ++ forwarded)) ∙ listing_moving (kept_beside live cc_live b a ++ forwarded)

-- one transfer, which isn't a set of a register to itself, is in order
pub one_moving : (m : PlainMove) → is_idle code_leaves m ≡ false → filter is_moving (in_order (m ∷ [])) ≡ m ∷ []
one_moving (SetTo r t) e = rw e refl
one_moving (CcTo t u) e = refl
one_moving (StoreTo t u) e = refl
one_moving (Ends x) e = refl

-- where none passes, none is left
none_passes : (p : PlainMove → Bool) (ms : List PlainMove) → list_any p ms ≡ false → filter p ms ≡ []
none_passes p [] e = refl
none_passes p (m ∷ ms) e = let k = or_false (p m) (list_any p ms) e in rw k.0 (none_passes p ms k.1)

-- where nothing of A stays, and B is in order, B is the list
pub alone : (live : Register → Bool) (cc_live : Bool) (a w b : List PlainMove)
    → list_any (is_kept code_leaves live cc_live w) a ≡ false
    → filter is_moving (in_order b) ≡ b → b ≡ assembled code_leaves live cc_live a w b
alone live cc_live a w b none e =
    sym e
    ∙ ap (λ ms. filter is_moving (in_order (ms ++ b)))
    (sym (none_passes (is_kept code_leaves live cc_live w) a none))
