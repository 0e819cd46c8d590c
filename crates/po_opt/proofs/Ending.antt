-- How much was learned, once all threads have ended.
use Rattle.std.proofs.Common.{◌≡◌, ℕ, zero, suc, ◌+◌, ◌≤◌, List, [], ◌∷◌, ◌++◌, length, refl, sym, ◌∙◌, ap}
use Rattle.std.proofs.Common.{arith, append_assoc, append-nil, get_or}
use mathlib.Core.List.{IsPrefix}
use Rattle.std.specs.List.{All, sum_by}
use Rattle.po_queue.specs.Passes.{PassView, Conserves, put_count}
use Rattle.po_team.specs.Ends.{take_count}
use Rattle.po_opt.specs.Ended.{AreLearned, learned_of}
use Rattle.po_opt.proofs.Sums.{sum_one, sum_ones, sum_same}

pub prefix_same : {A : Type 0} (xs : List A) → IsPrefix xs xs
prefix_same xs = ([], append-nil xs)

pub prefix_on : {A : Type 0} (xs ys zs : List A) → IsPrefix xs ys → IsPrefix ys zs → IsPrefix xs zs
prefix_on xs ys zs p q = (p.0 ++ q.0, sym (append_assoc xs p.0 q.0) ∙ (ap (λ w. w ++ q.0) p.1 ∙ q.1))

module _ {T : Type 0} where
  -- what was put was taken or is left
  conserved : (passes : List (PassView T)) (left : List T) → Conserves passes left
      → put_count passes ≡ take_count passes + length left
  conserved passes left c =
      let one : T → ℕ = λ x. 1 in
      let puts : sum_by (λ (p : PassView T). sum_by one p.puts) passes ≡ put_count passes =
      sum_same (λ (p : PassView T). sum_by one p.puts) (λ (p : PassView T). length p.puts) passes
      (λ k d h. sum_one (get_or passes k d).puts) in
      let takes : sum_by (λ (p : PassView T). sum_by one p.takes) passes ≡ take_count passes =
      sum_same (λ (p : PassView T). sum_by one p.takes) (λ (p : PassView T). length p.takes) passes
      (λ k d h. sum_one (get_or passes k d).takes) in
      omega (arith, puts, takes, c one, sum_one left)

bounds : (learners amounts took left put n : ℕ) → put ≡ took + left → amounts ≤ took → took ≤ amounts + learners
    → (learners ≡ 0 → amounts ≡ 0) → n ≡ amounts + learned_of learners left → AreLearned learners put n
bounds zero amounts took left put n all low high nothing e = record {
  none = λ z. omega (arith, nothing refl);
  least = λ p. absurd (omega arith);
  most = λ p. absurd (omega arith);
}
bounds (suc learners) amounts took left put n all low high nothing e = record {
  none = λ z. absurd (omega arith);
  least = λ p. omega arith;
  most = λ p. omega arith;
}

empty_sum : {A : Type 0} (f : A → ℕ) (xs : List A) → length xs ≡ 0 → sum_by f xs ≡ 0
empty_sum f [] e = refl
empty_sum f (x ∷ xs) e = absurd (omega arith)

-- how much was learned, of what was put
pub are_learned : {T S : Type 0} (amount : S → ℕ) (passes : List (PassView T)) (left : List T) (shares : List S)
    (n : ℕ)
    → Conserves passes left → sum_by amount shares ≤ take_count passes
    → take_count passes ≤ sum_by amount shares + length shares
    → n ≡ sum_by amount shares + learned_of (length shares) (length left)
    → AreLearned (length shares) (put_count passes) n
are_learned amount passes left shares n c low high e =
    bounds (length shares) (sum_by amount shares) (take_count passes) (length left) (put_count passes) n
    (conserved passes left c) low high (λ z. empty_sum amount shares z) e

-- as many parts as there are shares, each of which has one
pub all_parts : {S : Type 0} (parts : S → ℕ) (shares : List S) → All (λ s. parts s ≡ 1) shares
    → sum_by parts shares ≡ length shares
all_parts parts shares each = sum_ones parts shares each
