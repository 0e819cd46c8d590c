-- Seats as they are at the start.
use Rattle.std.proofs.Common.{◌≡◌, ℕ, ◌+◌, false, List, [], ◌∷◌, ◌++◌, length, All, Some}
use Rattle.std.proofs.Common.{subst, sym, ap, ◌∙◌, arith}
use Rattle.std.proofs.lemmas.List.{length-append}
use Rattle.std.proofs.lemmas.List.Elements.{All-nil, All-cons, All-head, All-tail, All-append, All-get_or}
use Rattle.std.proofs.lemmas.Option.{slice_get_within, slice_get-get_or, get_or_from_slice_get}
use Rattle.po_pool.specs.Worked.{EachAt}
use Rattle.po_queue.specs.Passes.{QueueId, PassView, new_pass}
use Rattle.po_team.specs.Seats.{HasLearned}
use Rattle.po_team.specs.Works.{HasPosted}

module _ {X : Type 0} (P : X → Type 0) where
  pub all_left : (xs ys : List X) → All P (xs ++ ys) → All P xs
  all_left [] ys h = All-nil P
  all_left (x ∷ xs) ys h =
      All-cons P x xs (All-head P x (xs ++ ys) h) (all_left xs ys (All-tail P x (xs ++ ys) h))

  pub all_last : (xs : List X) (x : X) → All P (xs ++ x ∷ []) → P x
  all_last [] x h = All-head P x [] h
  all_last (y ∷ xs) x h = all_last xs x (All-tail P y (xs ++ x ∷ []) h)

  pub all_push : (xs ys : List X) (x : X) → ys ≡ xs ++ x ∷ [] → All P xs → P x → All P ys
  all_push xs ys x e h p =
      subst (All P) (sym e) (All-append P xs (x ∷ []) h (All-cons P x [] p (All-nil P)))

  -- one element more
  pub push_length : (xs ys : List X) (x : X) → ys ≡ xs ++ x ∷ [] → length ys ≡ length xs + 1
  push_length xs ys x e = ap length e ∙ length-append xs (x ∷ [])

  -- the same of each element and of what stands at each place
  pub each_of_all : (xs : List X) → All P xs → EachAt (λ k x. P x) xs
  each_of_all xs h k x e =
      subst P (get_or_from_slice_get xs k x x e) (All-get_or P xs k x (slice_get_within xs k x e) h)

  pub all_of_each : (xs : List X) → EachAt (λ k x. P x) xs → All P xs
  all_of_each xs h k d lt = h k (_) (slice_get-get_or xs k d lt)

module _ {T : Type 0} (queue : QueueId) (p : PassView T) (e : p ≡ new_pass queue) where
  pub fresh_learned : (parts amount : ℕ) → parts ≡ 1 → amount ≡ 0 → HasLearned queue p parts amount false
  fresh_learned parts amount one none = record {
    queue_is = ap (λ (q : PassView T). q.queue) e;
    part = ap (λ (q : PassView T). q.parts) e;
    puts = ap (λ (q : PassView T). q.puts) e;
    room = ap (λ (q : PassView T). q.met_full) e;
    share = one;
    taken = omega (arith, none);
    learned = omega (arith, none, ap (λ (q : PassView T). length q.takes) e);
  }

  pub fresh_posted : HasPosted queue (Some p) 0 0 0
  fresh_posted = record {
    queue_is = ap (λ (q : PassView T). q.queue) e;
    part = ap (λ (q : PassView T). q.parts) e;
    takes = ap (λ (q : PassView T). q.takes) e;
    put = ap (λ (q : PassView T). length q.puts) e;
    rose = λ some. absurd (omega (arith, some));
    full = λ some. absurd (omega (arith, some));
  }
