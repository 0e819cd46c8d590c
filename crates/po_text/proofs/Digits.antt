-- The value of digits, one digit later.
use Rattle.std.proofs.Common.{◌≡◌, ℕ, ◌+◌, ◌-◌, ◌*◌, ◌^◌, ◌<◌, List, ◌∷◌, ap, sym, ◌∙◌, drop, length, get_or, arith}
use Rattle.std.proofs.Common.{add-one}
use Rattle.std.proofs.lemmas.List.{at_drop_more}
use Rattle.std.proofs.lemmas.Grind.{pow_more}
use Rattle.po_text.specs.Number.{digits_value}

moved : (value digit power rest : ℕ)
    → (value * 10 + digit) * power + rest ≡ value * (power * 10) + (digit * power + rest)
moved value digit power rest = omega arith

pub one_digit : (value : ℕ) (digits : List ℕ) (i : ℕ) → i < length digits
    → (value * 10 + (get_or digits i 0 - 48)) * 10 ^ length (drop (i + 1) digits) + digits_value (drop (i + 1) digits)
    ≡ value * 10 ^ length (drop i digits) + digits_value (drop i digits)
one_digit value digits i h =
    let later : List ℕ = drop (i + 1) digits in
    let first : ℕ = get_or digits i 0 in
    let power : 10 ^ length (first ∷ later) ≡ 10 ^ length later * 10 =
    ap (λ (n : ℕ). 10 ^ n) (sym (add-one (length later))) ∙ pow_more 10 (length later) in
    sym (at_drop_more (λ (rest : List ℕ). value * 10 ^ length rest + digits_value rest) digits i 0 h
    ∙ ap (λ (n : ℕ). value * n + ((first - 48) * 10 ^ length later + digits_value later)) power
    ∙ sym (moved value (first - 48) (10 ^ length later) (digits_value later)))
