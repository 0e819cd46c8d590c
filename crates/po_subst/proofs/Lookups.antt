-- What the parts of a list of transfers are where the list is put together, filtered and put in order.
use Rattle.std.proofs.Common.{◌≡◌, ℕ, Bool, true, false, List, [], ◌∷◌, ◌++◌, refl, sym, ◌∙◌, ap}
use Rattle.std.specs.Prelude.{if◌then◌else◌, Option, Some, None, is_some, filter}
use Rattle.std.specs.Option.{option_or}
use Rattle.std.proofs.lemmas.Bool.{false≢true, true≢false}
use Rattle.po_term.specs.declared.term.Sym.{Sym}
use Rattle.po_term.specs.Tree.{Tree}
use Rattle.po_term.specs.Terms.{Place, InReg}
use Rattle.po_term.specs.Moves.{Ending, SetTo, CcTo, StoreTo, Ends, PlainMove}
use Rattle.po_term.specs.Simplified.{same_register}
use Rattle.po_model.specs.Parts.{code_leaves, right_at, cc_of, store_of, ending_of}
use Rattle.po_model.specs.Joined.{is_set, is_cc, is_store, is_control, in_order}

-- the first that f finds
abbrev pub seek : {X : Type 0} → (PlainMove → Option X) → List PlainMove → Option X
seek f [] = None
seek f (m ∷ ms) = option_or (f m) (seek f ms)

or_assoc : {X : Type 0} (x y z : Option X) → option_or x (option_or y z) ≡ option_or (option_or x y) z
or_assoc None y z = refl
or_assoc (Some x) y z = refl

pub seek_append : {X : Type 0} (f : PlainMove → Option X) (xs ys : List PlainMove)
    → seek f (xs ++ ys) ≡ option_or (seek f xs) (seek f ys)
seek_append f [] ys = refl
seek_append f (m ∷ ms) ys = ap (λ o. option_or (f m) o) (seek_append f ms ys) ∙ or_assoc (f m) (seek f ms) (seek f ys)

-- a filter that takes all that f finds something in, or none of it
pub seek_filter : {X : Type 0} (f : PlainMove → Option X) (q : PlainMove → Bool) (c : Bool)
    → ((m : PlainMove) → is_some (f m) ≡ true → q m ≡ c) → (ms : List PlainMove)
    → seek f (filter q ms) ≡ (if c then seek f ms else None)
seek_filter {X = X} f q c h [] = none_both c
  where
    none_both : (b : Bool) → None ≡ (if b then seek f [] else None)
    none_both true = refl
    none_both false = refl
seek_filter {X = X} f q c h (m ∷ ms) = go (q m) (f m) c refl refl (h m) (seek_filter f q c h ms)
  where
    go : (b : Bool) (o : Option X) (d : Bool) → q m ≡ b → f m ≡ o → (is_some o ≡ true → b ≡ d)
        → seek f (filter q ms) ≡ (if d then seek f ms else None)
        → seek f (if b then m ∷ filter q ms else filter q ms) ≡ (if d then option_or o (seek f ms) else None)
    go true None d e i k ih = rw i ih
    go false None d e i k ih = ih
    go true (Some x) true e i k ih = rw i refl
    go true (Some x) false e i k ih = absurd (true≢false (k refl))
    go false (Some x) true e i k ih = absurd (false≢true (k refl))
    go false (Some x) false e i k ih = ih

-- what isn't found isn't found in a part either
pub seek_none : {X : Type 0} (f : PlainMove → Option X) (q : PlainMove → Bool) (ms : List PlainMove) → seek f ms ≡ None
    → seek f (filter q ms) ≡ None
seek_none f q [] e = refl
seek_none {X = X} f q (m ∷ ms) e = go (q m) (f m) refl e (λ k. seek_none f q ms k)
  where
    go : (b : Bool) (o : Option X) → f m ≡ o → option_or o (seek f ms) ≡ None
        → (seek f ms ≡ None → seek f (filter q ms) ≡ None) → seek f (if b then m ∷ filter q ms else filter q ms) ≡ None
    go true None i k ih = rw i (ih k)
    go false None i k ih = ih k
    go b (Some x) i k ih = absurd (cc)

-- of which kind the transfers are that f finds something in
abbrev pub FindsOnly : {X : Type 0} → (PlainMove → Option X) → Bool → Bool → Bool → Bool → Type 0
FindsOnly f s c t e =
    (m : PlainMove) → is_some (f m) ≡ true → (is_set m ≡ s) × (is_cc m ≡ c) × (is_store m ≡ t) × (is_control m ≡ e)

pub seek_order : {X : Type 0} (f : PlainMove → Option X) (s c t e : Bool) → FindsOnly f s c t e → (ms : List PlainMove)
    → seek f (in_order ms)
    ≡ option_or
    (option_or (option_or (if s then seek f ms else None) (if c then seek f ms else None))
    (if t then seek f ms else None)) (if e then seek f ms else None)
seek_order f s c t e h ms =
    seek_append f (filter is_set ms ++ filter is_cc ms ++ filter is_store ms) (filter is_control ms)
    ∙ ap (λ o. option_or o (seek f (filter is_control ms)))
    (seek_append f (filter is_set ms ++ filter is_cc ms) (filter is_store ms))
    ∙ ap (λ o. option_or (option_or o (seek f (filter is_store ms))) (seek f (filter is_control ms)))
    (seek_append f (filter is_set ms) (filter is_cc ms))
    ∙ rw (
      seek_filter f is_set s (λ m i. (h m i).0) ms,
      seek_filter f is_cc c (λ m i. (h m i).1) ms,
      seek_filter f is_store t (λ m i. (h m i).2) ms,
      seek_filter f is_control e (λ m i. (h m i).3) ms,
    ) refl

or_none : {X : Type 0} (o : Option X) → option_or o None ≡ o
or_none None = refl
or_none (Some x) = refl

-- the parts of one transfer
abbrev pub right_in : Place → PlainMove → Option (Tree ℕ Place)
right_in p m = right_at code_leaves p (m ∷ [])

abbrev pub cc_in : PlainMove → Option (Tree ℕ Place × Tree ℕ Place)
cc_in m = cc_of (m ∷ [])

abbrev pub store_in : PlainMove → Option (Tree ℕ Place × Tree ℕ Place)
store_in m = store_of (m ∷ [])

abbrev pub ending_in : PlainMove → Option (Ending ℕ Place Sym)
ending_in m = ending_of (m ∷ [])

pub right_seek : (p : Place) (ms : List PlainMove) → right_at code_leaves p ms ≡ seek (right_in p) ms
right_seek p [] = refl
right_seek p (SetTo r t ∷ ms) = go (same_register p (InReg r)) (right_seek p ms)
  where
    go : (b : Bool) → right_at code_leaves p ms ≡ seek (right_in p) ms
        → (if b then Some t else right_at code_leaves p ms)
        ≡ option_or (if b then Some t else None) (seek (right_in p) ms)
    go true e = refl
    go false e = e
right_seek p (CcTo t u ∷ ms) = right_seek p ms
right_seek p (StoreTo t u ∷ ms) = right_seek p ms
right_seek p (Ends e ∷ ms) = right_seek p ms

pub cc_seek : (ms : List PlainMove) → cc_of ms ≡ seek cc_in ms
cc_seek [] = refl
cc_seek (SetTo r t ∷ ms) = cc_seek ms
cc_seek (CcTo t u ∷ ms) = refl
cc_seek (StoreTo t u ∷ ms) = cc_seek ms
cc_seek (Ends e ∷ ms) = cc_seek ms

pub store_seek : (ms : List PlainMove) → store_of ms ≡ seek store_in ms
store_seek [] = refl
store_seek (SetTo r t ∷ ms) = store_seek ms
store_seek (CcTo t u ∷ ms) = store_seek ms
store_seek (StoreTo t u ∷ ms) = refl
store_seek (Ends e ∷ ms) = store_seek ms

pub ending_seek : (ms : List PlainMove) → ending_of ms ≡ seek ending_in ms
ending_seek [] = refl
ending_seek (SetTo r t ∷ ms) = ending_seek ms
ending_seek (CcTo t u ∷ ms) = ending_seek ms
ending_seek (StoreTo t u ∷ ms) = ending_seek ms
ending_seek (Ends e ∷ ms) = refl

right_only : (p : Place) → FindsOnly (right_in p) true false false false
right_only p (SetTo r t) e = (refl, refl, refl, refl)
right_only p (CcTo t u) e = absurd (false≢true e)
right_only p (StoreTo t u) e = absurd (false≢true e)
right_only p (Ends x) e = absurd (false≢true e)

cc_only : FindsOnly cc_in false true false false
cc_only (SetTo r t) e = absurd (false≢true e)
cc_only (CcTo t u) e = (refl, refl, refl, refl)
cc_only (StoreTo t u) e = absurd (false≢true e)
cc_only (Ends x) e = absurd (false≢true e)

store_only : FindsOnly store_in false false true false
store_only (SetTo r t) e = absurd (false≢true e)
store_only (CcTo t u) e = absurd (false≢true e)
store_only (StoreTo t u) e = (refl, refl, refl, refl)
store_only (Ends x) e = absurd (false≢true e)

ending_only : FindsOnly ending_in false false false true
ending_only (SetTo r t) e = absurd (false≢true e)
ending_only (CcTo t u) e = absurd (false≢true e)
ending_only (StoreTo t u) e = absurd (false≢true e)
ending_only (Ends x) e = (refl, refl, refl, refl)

pub right_order : (p : Place) (ms : List PlainMove) → right_at code_leaves p (in_order ms) ≡ right_at code_leaves p ms
right_order p ms =
    right_seek p (in_order ms) ∙ seek_order (right_in p) true false false false (right_only p) ms
    ∙ or_none (option_or (option_or (seek (right_in p) ms) None) None)
    ∙ or_none (option_or (seek (right_in p) ms) None) ∙ or_none (seek (right_in p) ms) ∙ sym (right_seek p ms)

pub cc_order : (ms : List PlainMove) → cc_of (in_order ms) ≡ cc_of ms
cc_order ms =
    cc_seek (in_order ms) ∙ seek_order cc_in false true false false cc_only ms
    ∙ or_none (option_or (seek cc_in ms) None) ∙ or_none (seek cc_in ms) ∙ sym (cc_seek ms)

pub store_order : (ms : List PlainMove) → store_of (in_order ms) ≡ store_of ms
store_order ms =
    store_seek (in_order ms) ∙ seek_order store_in false false true false store_only ms ∙ or_none (seek store_in ms)
    ∙ sym (store_seek ms)

pub ending_order : (ms : List PlainMove) → ending_of (in_order ms) ≡ ending_of ms
ending_order ms =
    ending_seek (in_order ms) ∙ seek_order ending_in false false false true ending_only ms ∙ sym (ending_seek ms)

pub right_append : (p : Place) (xs ys : List PlainMove)
    → right_at code_leaves p (xs ++ ys) ≡ option_or (right_at code_leaves p xs) (right_at code_leaves p ys)
right_append p xs ys = rw (right_seek p (xs ++ ys), right_seek p xs, right_seek p ys) (seek_append (right_in p) xs ys)

pub cc_append : (xs ys : List PlainMove) → cc_of (xs ++ ys) ≡ option_or (cc_of xs) (cc_of ys)
cc_append xs ys = rw (cc_seek (xs ++ ys), cc_seek xs, cc_seek ys) (seek_append cc_in xs ys)

pub store_append : (xs ys : List PlainMove) → store_of (xs ++ ys) ≡ option_or (store_of xs) (store_of ys)
store_append xs ys = rw (store_seek (xs ++ ys), store_seek xs, store_seek ys) (seek_append store_in xs ys)

pub ending_append : (xs ys : List PlainMove) → ending_of (xs ++ ys) ≡ option_or (ending_of xs) (ending_of ys)
ending_append xs ys = rw (ending_seek (xs ++ ys), ending_seek xs, ending_seek ys) (seek_append ending_in xs ys)

module _ (q : PlainMove → Bool) (c : Bool) where
  pub right_filter : (p : Place) → ((m : PlainMove) → is_some (right_in p m) ≡ true → q m ≡ c) → (ms : List PlainMove)
      → right_at code_leaves p (filter q ms) ≡ (if c then right_at code_leaves p ms else None)
  right_filter p h ms = rw (right_seek p (filter q ms), right_seek p ms) (seek_filter (right_in p) q c h ms)

  pub cc_filter : ((m : PlainMove) → is_some (cc_in m) ≡ true → q m ≡ c) → (ms : List PlainMove)
      → cc_of (filter q ms) ≡ (if c then cc_of ms else None)
  cc_filter h ms = rw (cc_seek (filter q ms), cc_seek ms) (seek_filter cc_in q c h ms)

  pub store_filter : ((m : PlainMove) → is_some (store_in m) ≡ true → q m ≡ c) → (ms : List PlainMove)
      → store_of (filter q ms) ≡ (if c then store_of ms else None)
  store_filter h ms = rw (store_seek (filter q ms), store_seek ms) (seek_filter store_in q c h ms)

  pub ending_filter : ((m : PlainMove) → is_some (ending_in m) ≡ true → q m ≡ c) → (ms : List PlainMove)
      → ending_of (filter q ms) ≡ (if c then ending_of ms else None)
  ending_filter h ms = rw (ending_seek (filter q ms), ending_seek ms) (seek_filter ending_in q c h ms)

pub right_none : (q : PlainMove → Bool) (p : Place) (ms : List PlainMove) → right_at code_leaves p ms ≡ None
    → right_at code_leaves p (filter q ms) ≡ None
right_none q p ms e = right_seek p (filter q ms) ∙ seek_none (right_in p) q ms (sym (right_seek p ms) ∙ e)

pub cc_none : (q : PlainMove → Bool) (ms : List PlainMove) → cc_of ms ≡ None → cc_of (filter q ms) ≡ None
cc_none q ms e = cc_seek (filter q ms) ∙ seek_none cc_in q ms (sym (cc_seek ms) ∙ e)

pub store_none : (q : PlainMove → Bool) (ms : List PlainMove) → store_of ms ≡ None → store_of (filter q ms) ≡ None
store_none q ms e = store_seek (filter q ms) ∙ seek_none store_in q ms (sym (store_seek ms) ∙ e)

pub ending_none : (q : PlainMove → Bool) (ms : List PlainMove) → ending_of ms ≡ None → ending_of (filter q ms) ≡ None
ending_none q ms e = ending_seek (filter q ms) ∙ seek_none ending_in q ms (sym (ending_seek ms) ∙ e)
