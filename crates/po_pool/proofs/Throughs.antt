-- What a worker has done, and what the first workers have.
use Rattle.std.proofs.Common.{◌≡◌, ℕ, ◌+◌, ◌-◌, ◌*◌, ◌/◌, ◌<◌, ◌≤◌, List, [], ◌∷◌, ◌++◌, length, take, drop, Some}
use Rattle.std.proofs.Common.{slice_get, slice_range, ap, sym, ◌∙◌, subst, arith}
use Rattle.std.proofs.lemmas.List.{length-append, length-drop, take-append-le, drop-append-le}
use Rattle.std.proofs.Math.Nat.{div-mul-le_self, mul-div_cancel_left, mul-le-mul_right, le_trans}
use Rattle.std.proofs.Math.Seq.{drop-append_seam, take-length}
use Rattle.std.proofs.lemmas.Nat.{le-div}
use Rattle.std.proofs.lemmas.Option.{slice_get_within}
use Rattle.std.specs.Prelude.{Result, Ok, Err, IfOk}
use Rattle.po_pool.specs.declared.run.Shift.{Shift}
use Rattle.po_pool.specs.Worked.{first_unit, IsThrough, AreThrough}
use Rattle.po_pool.proofs.Places.{each_append, each_push}

-- Units of a worker

first_grows : (units workers p q : ℕ) → 0 < workers → p ≤ q → first_unit units workers p ≤ first_unit units workers q
first_grows units workers p q some le =
    le-div (p * units / workers) (q * units) workers some
    (le_trans (div-mul-le_self (p * units) workers) (mul-le-mul_right units le))

pub all_units : (units workers : ℕ) → 0 < workers → first_unit units workers workers ≡ units
all_units units workers some = mul-div_cancel_left units some

-- Parts of a list

range_left : {A : Type 0} (xs ys : List A) (i j : ℕ) → i ≤ j → j ≤ length xs
    → slice_range (xs ++ ys) i j ≡ slice_range xs i j
range_left xs ys i j le within =
    let at : i ≤ length xs = omega arith in
    let room : j - i ≤ length (drop i xs) = omega (arith, length-drop i xs) in
    ap (take (j - i)) (drop-append-le i xs ys at) ∙ take-append-le (j - i) (drop i xs) ys room

range_right : {A : Type 0} (xs ys : List A) (i j : ℕ) → i ≡ length xs → j ≡ i + length ys
    → slice_range (xs ++ ys) i j ≡ ys
range_right xs ys i j e f =
    let n : j - i ≡ length ys = omega arith in
    ap (λ k. take (j - i) (drop k (xs ++ ys))) e ∙ ap (take (j - i)) (drop-append_seam xs ys)
    ∙ ap (λ k. take k ys) n ∙ take-length ys

module _ {S O : Type 0} (good : ℕ → S → List O → Type 0) (gives : ℕ → O → Type 0) where
  -- the next worker
  all_more : (units workers place from to : ℕ) (seats : List S) (outs more : List O) (s : S) → 0 < workers
      → length seats ≡ place → from ≡ first_unit units workers place → to ≡ first_unit units workers (place + 1)
      → AreThrough good gives units workers seats outs → IsThrough good gives place from to s more
      → AreThrough good gives units workers (seats ++ s ∷ []) (outs ++ more)
  all_more units workers place from to seats outs more s some n first last h w =
      let f = first_unit units workers in
      let count : length (seats ++ s ∷ []) ≡ place + 1 = omega (arith, length-append seats (s ∷ []), n) in
      let here : length outs ≡ f place = h.all ∙ ap f n in
      let start : from ≡ length outs = first ∙ sym here in
      let end : f (place + 1) ≡ f place + length more = sym last ∙ sym w.all ∙ ap (λ k. k + length more) first in
      let good_for : List O → ℕ → S → Type 0 = λ os p seat. good p seat (slice_range os (f p) (f (p + 1))) in
      let old : (p : ℕ) (seat : S) → slice_get seats p ≡ Some seat → good_for (outs ++ more) p seat = (λ p seat at.
      let in_seats : p < length seats = slice_get_within seats p seat at in
      let within : f (p + 1) ≤ length outs = subst (λ m. f (p + 1) ≤ m) (sym here)
      (first_grows units workers (p + 1) place some (omega (arith, in_seats, n))) in
      let order : f p ≤ f (p + 1) = first_grows units workers p (p + 1) some (omega arith) in
      subst (good p seat) (sym (range_left outs more (f p) (f (p + 1)) order within)) (h.good_seats p seat at)) in
      let new : good_for (outs ++ more) (length seats) s =
      subst (λ p. good_for (outs ++ more) p s) (sym n)
      (subst (good place s) (sym (range_right outs more (f place) (f (place + 1)) (sym here) end)) w.good_seat) in
      record {
        all = length-append outs more ∙ ap (λ k. k + length more) here ∙ sym end ∙ ap f (sym count);
        given = each_append gives outs more h.given
            (λ k o at. subst (λ m. gives (m + k) o) start (w.given k o at));
        good_seats = each_push (good_for (outs ++ more)) seats s old new;
      }

  -- what has the next worker too
  pub next_through : {E : Type 0} (units workers place from to : ℕ) (first : Shift S O) (more : List O) (s : S)
      (r : Result (Shift S O) E) → 0 < workers → length first.seats.items ≡ place
      → from ≡ first_unit units workers place → to ≡ first_unit units workers (place + 1)
      → AreThrough good gives units workers first.seats.items first.outs.items
      → IsThrough good gives place from to s more
      → IfOk r (λ (x : Shift S O). x.seats.items ≡ first.seats.items ++ s ∷ [])
      → IfOk r (λ (x : Shift S O). x.outs.items ≡ first.outs.items ++ more)
      → IfOk r (λ (x : Shift S O). AreThrough good gives units workers x.seats.items x.outs.items)
  next_through units workers place from to first more s (Ok x) some n a b h w seats outs =
      subst (λ xs. AreThrough good gives units workers xs x.outs.items) (sym seats)
      (subst (AreThrough good gives units workers (first.seats.items ++ s ∷ [])) (sym outs)
      (all_more units workers place from to first.seats.items first.outs.items more s some n a b h w))
  next_through units workers place from to first more s (Err e) some n a b h w seats outs = tt

-- two facts of a value that came back
pub ok_both : {A E : Type 0} {P Q R : A → Type 0} (r : Result A E) → ((x : A) → P x → Q x → R x) → IfOk r P
    → IfOk r Q → IfOk r R
ok_both (Ok x) f p q = f x p q
ok_both (Err e) f p q = tt

-- one seat more
pub next_count : {S O E : Type 0} (n : ℕ) (xs : List S) (s : S) (r : Result (Shift S O) E) → length xs + 1 ≡ n
    → IfOk r (λ (x : Shift S O). x.seats.items ≡ xs ++ s ∷ [])
    → IfOk r (λ (x : Shift S O). length x.seats.items ≡ n)
next_count n xs s (Ok x) e h = omega (arith, ap length h, length-append xs (s ∷ []), e)
next_count n xs s (Err x) e h = tt
