-- What is left when one pass has taken in all others.
use Rattle.std.proofs.Common.{◌≡◌, ℕ, zero, suc, ◌+◌, ◌≤◌, Bool, true, false, ◌||◌, List, [], ◌∷◌, ◌++◌, length, sym}
use Rattle.std.proofs.Common.{refl, ap, ◌∙◌, subst, arith, length-append}
use Rattle.std.specs.List.{sum_by, All}
use Rattle.std.proofs.lemmas.List.Sums.{sum_by-append, sum_by_push, sum_by-cons}
use Rattle.std.proofs.lemmas.List.Elements.{All-push}
use Rattle.po_queue.specs.Balance.{account, all_parts}
use Rattle.po_queue.specs.Passes.{PassView, HeldAt, put_count, Conserves}
use Rattle.po_queue.proofs.Accounts.{settles}
use Rattle.po_queue.specs.Gathered.{merged, Gathered, Took, Settles}

or_left : (a b : Bool) → a ≡ true → (a || b) ≡ true
or_left true b e = refl
or_left false b e = absurd (cc e)

or_right : (a b : Bool) → b ≡ true → (a || b) ≡ true
or_right true b e = refl
or_right false b e = e

module _ {T : Type 0} where
  ones : (xs : List T) → sum_by (λ x. 1) xs ≡ length xs
  ones [] = refl
  ones (x ∷ xs) = omega (arith, sum_by-cons (λ y. 1) x xs, ones xs)

  no_items : (xs : List T) → length xs ≡ 0 → xs ≡ []
  no_items [] e = refl
  no_items (x ∷ xs) e = absurd (omega arith)

  pub gathers : (first k p : PassView T) (passes : List (PassView T)) → Gathered first k passes
      → Gathered first (merged k p) (passes ++ p ∷ [])
  gathers first k p passes r = record {
    queue = r.queue;
    parts = omega (arith, r.parts, sum_by_push (λ (q : PassView T). q.parts) passes p);
    puts = λ h. omega (
      arith,
      r.puts h,
      sum_by-append h k.puts p.puts,
      sum_by_push (λ (q : PassView T). sum_by h q.puts) passes p,
    );
    takes = λ h. omega (
      arith,
      r.takes h,
      sum_by-append h k.takes p.takes,
      sum_by_push (λ (q : PassView T). sum_by h q.takes) passes p,
    );
    count = omega (
      arith,
      r.count,
      length-append k.puts p.puts,
      sum_by_push (λ (q : PassView T). length q.puts) passes p,
    );
    full = All-push (λ (q : PassView T). q.met_full ≡ true → (merged k p).met_full ≡ true) passes p
        (λ i d lt met. or_left k.met_full p.met_full (r.full i d lt met))
        (λ met. or_right k.met_full p.met_full met);
  }

  pub starts : (first : PassView T) → first.puts ≡ [] → first.takes ≡ [] → Gathered first first []
  starts first a b = record {
    queue = refl;
    parts = omega arith;
    puts = λ h. ap (sum_by h) a;
    takes = λ h. ap (sum_by h) b;
    count = ap length a;
    full = λ i d lt. absurd (omega arith);
  }

  -- with every part, a pass knows what the queue held
  pub settled : (n : ℕ) (p : PassView T) → p.parts ≡ all_parts → HeldAt n p
      → (items : List T) × (length items ≡ n) × Settles p items
  settled n p whole h = (h.0, h.1, settles (account p.parts p.puts p.takes) h.0 whole h.2)

  pub none_left : (first k k' : PassView T) (passes : List (PassView T)) (left : List T)
      → k'.parts ≡ all_parts → Gathered first k passes → Took k k' left → HeldAt 0 k' → Conserves passes left
  none_left first k k' passes left whole r t held h =
      let s = settled 0 k' whole held in
      let empty : sum_by h s.0 ≡ 0 = ap (sum_by h) (no_items s.0 s.1) in
      let puts : sum_by h k'.puts ≡ sum_by h k.puts = ap (λ (q : PassView T). sum_by h q.puts) t in
      let takes : sum_by h k'.takes ≡ sum_by h (k.takes ++ left) = ap (λ (q : PassView T). sum_by h q.takes) t in
      omega (arith, s.2 h, r.puts h, r.takes h, sum_by-append h k.takes left)

  pub all_left : (first k k' : PassView T) (passes : List (PassView T)) (left : List T) (n m : ℕ)
      → k.parts ≡ all_parts → Gathered first k passes → Took k k' left → n ≡ length left
      → HeldAt n k → HeldAt m k' → Conserves passes left
  all_left first k k' passes left n m whole r t len before after =
      let one : T → ℕ = λ x. 1 in
      let whole' : k'.parts ≡ all_parts = ap (λ (q : PassView T). q.parts) t ∙ whole in
      let b = settled n k whole before in
      let a = settled m k' whole' after in
      let puts : sum_by one k'.puts ≡ sum_by one k.puts = ap (λ (q : PassView T). sum_by one q.puts) t in
      let takes : sum_by one k'.takes ≡ sum_by one (k.takes ++ left) = ap (λ (q : PassView T). sum_by one q.takes) t in
      let empty : length after.0 ≡ 0
      = omega (arith, b.1, b.2 one, a.2 one, sum_by-append one k.takes left, ones b.0, ones a.0, ones left) in
      none_left first k k' passes left whole' r t (after.0, empty, after.2)

  pub fills : (first k : PassView T) (passes : List (PassView T)) (capacity : ℕ) → Gathered first k passes
      → (k.met_full ≡ true → capacity ≤ length k.puts)
      → All (λ (p : PassView T). p.met_full ≡ true → capacity ≤ put_count passes) passes
  fills first k passes capacity r f i d lt met = let m = f (r.full i d lt met) in omega (arith, r.count)
