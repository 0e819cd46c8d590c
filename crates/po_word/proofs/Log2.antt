-- The place of the highest one bit, by the powers of two beside the word.
use Rattle.std.proofs.Common.{◌≡◌, ℕ, zero, suc, ◌+◌, ◌-◌, ◌^◌, ◌<◌, ◌≤◌, sym, ap, subst, arith}
use Rattle.std.specs.Int.Count.{leading_of_zero}
use Rattle.std.proofs.lemmas.Nat.{leading_top}
use Rattle.po_word.specs.Exprs.{log2}

pub log2-bounds : (c : ℕ) → 0 < c → c < 2 ^ 32 → (2 ^ log2 c ≤ c) × (c < 2 ^ (log2 c + 1))
log2-bounds c pos below =
    let found = leading_top 32 c pos below in
    let place : found.0 ≡ log2 c = omega (arith, found.1) in
    let next : suc found.0 ≡ log2 c + 1 = omega (arith, found.1) in
    (subst (λ j. 2 ^ j ≤ c) place found.2, subst (λ j. c < 2 ^ j) next found.3)

pub log2-none : log2 0 ≡ 0
log2-none = ap (λ n. 31 - n) (leading_of_zero 32)

pub log2-above : (c : ℕ) → c < 2 ^ 32 → c < 2 ^ (log2 c + 1)
log2-above zero below = subst (λ j. 0 < 2 ^ (j + 1)) (sym log2-none) (omega arith)
log2-above (suc c) below = (log2-bounds (suc c) (omega arith) below).1
