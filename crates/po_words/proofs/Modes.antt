-- The mode that the first word names.
use Rattle.std.proofs.Common.{◌≡◌, ℕ, List, [], Option, refl, sym, ◌∙◌, ap, arith, get_or}
use Rattle.std.specs.Prelude.{unwrap_or}
use Rattle.po_words.specs.declared.mode.Mode.{Mode}
use Rattle.po_words.specs.declared.mode.Mode.TheVariants.{Naive, Slow, Opt, Gen}
use Rattle.po_words.specs.Modes.{word_of, IsFirst}

-- the first byte of the word of a mode
abbrev pub first_byte : List ℕ → ℕ
first_byte word = get_or word 0 0

-- a word names one mode
pub one_mode : (a b : Mode) → word_of a ≡ word_of b → a ≡ b
one_mode Naive Naive e = refl
one_mode Naive Slow e = let bad : ◌≡◌ {A = ℕ} 110 115 = ap first_byte e in absurd (omega (arith, bad))
one_mode Naive Opt e = let bad : ◌≡◌ {A = ℕ} 110 111 = ap first_byte e in absurd (omega (arith, bad))
one_mode Naive Gen e = let bad : ◌≡◌ {A = ℕ} 110 103 = ap first_byte e in absurd (omega (arith, bad))
one_mode Slow Naive e = let bad : ◌≡◌ {A = ℕ} 115 110 = ap first_byte e in absurd (omega (arith, bad))
one_mode Slow Slow e = refl
one_mode Slow Opt e = let bad : ◌≡◌ {A = ℕ} 115 111 = ap first_byte e in absurd (omega (arith, bad))
one_mode Slow Gen e = let bad : ◌≡◌ {A = ℕ} 115 103 = ap first_byte e in absurd (omega (arith, bad))
one_mode Opt Naive e = let bad : ◌≡◌ {A = ℕ} 111 110 = ap first_byte e in absurd (omega (arith, bad))
one_mode Opt Slow e = let bad : ◌≡◌ {A = ℕ} 111 115 = ap first_byte e in absurd (omega (arith, bad))
one_mode Opt Opt e = refl
one_mode Opt Gen e = let bad : ◌≡◌ {A = ℕ} 111 103 = ap first_byte e in absurd (omega (arith, bad))
one_mode Gen Naive e = let bad : ◌≡◌ {A = ℕ} 103 110 = ap first_byte e in absurd (omega (arith, bad))
one_mode Gen Slow e = let bad : ◌≡◌ {A = ℕ} 103 115 = ap first_byte e in absurd (omega (arith, bad))
one_mode Gen Opt e = let bad : ◌≡◌ {A = ℕ} 103 111 = ap first_byte e in absurd (omega (arith, bad))
one_mode Gen Gen e = refl

-- the same words name one mode
pub one_first : (words : List (List ℕ)) (a b : Mode) → IsFirst words a → IsFirst words b → a ≡ b
one_first words a b e f = one_mode a b (ap (λ (o : Option (List ℕ)). unwrap_or o []) (sym e ∙ f))
