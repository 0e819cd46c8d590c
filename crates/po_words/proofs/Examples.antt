-- What some words ask for, computed.
use Rattle.std.proofs.Common.{◌≡◌, ℕ, true, false, List, [], ◌∷◌, Option, Some, None, refl, ap, arith, codes}
use Rattle.std.specs.Prelude.{unwrap_or}
use Rattle.clap.specs.Words.{Text, first_of, matches_of}
use Rattle.clap.proofs.OnLiterals.{clap_on_literals}
use Rattle.po_words.specs.declared.mode.Mode.{Mode}
use Rattle.po_words.specs.declared.mode.Mode.TheVariants as mode
use Rattle.po_words.specs.declared.request.Request.TheVariants.{Naive, Slow, Opt, Gen}
use Rattle.po_words.specs.Modes.{IsFirst, word_of}
use Rattle.po_words.specs.Commands.{command_for}
use Rattle.po_words.specs.Values.{HasNumberOr}
use Rattle.po_words.specs.Requests.{AsksFor, mode_of}
use Rattle.po_words.specs.Laws.{AsksNothing, WordsAsk, WordsAskNothing}
use Rattle.po_words.proofs.Requests.{nothing_taken}
use Rattle.po_words.proofs.Modes.{first_byte, one_first}

-- ---- words that ask for something

abbrev bare_opt : List Text
bare_opt = codes "opt" ∷ []

abbrev all_options : List Text
all_options = codes "opt" ∷ codes "--learners" ∷ codes "0" ∷ codes "--stats" ∷ codes "--workers=016" ∷ []

abbrev made : List Text
made = codes "gen" ∷ codes "--seed" ∷ codes "7" ∷ codes "--units=3" ∷ []

ask_naive : AsksFor (codes "naive" ∷ []) Naive
unfolding clap_on_literals
ask_naive = (refl, refl, tt)

ask_slow : AsksFor (codes "slow" ∷ []) Slow
unfolding clap_on_literals
ask_slow = (refl, refl, tt)

ask_opt : AsksFor bare_opt (Opt 4 2 false)
unfolding clap_on_literals
ask_opt = (refl, refl, (refl, refl, refl))

ask_all : AsksFor all_options (Opt 16 0 true)
unfolding clap_on_literals
ask_all = (refl, refl, ((refl, omega arith, omega arith), (refl, omega arith, omega arith), refl))

ask_gen : AsksFor made (Gen 7 3)
unfolding clap_on_literals
ask_gen = (refl, refl, ((refl, omega arith, omega arith), (refl, omega arith, omega arith)))

pub words_ask : WordsAsk
words_ask = (ask_naive, ask_slow, ask_opt, ask_all, ask_gen)

-- ---- words that ask for nothing

no_words : AsksNothing []
no_words r asks = (cc)

-- the first word is that of no mode
not_fast : (m : Mode) → codes "fast" ≡ word_of m → ⊥
not_fast mode.Naive e = let bad : ◌≡◌ {A = ℕ} 102 110 = ap first_byte e in absurd (omega (arith, bad))
not_fast mode.Slow e = let bad : ◌≡◌ {A = ℕ} 102 115 = ap first_byte e in absurd (omega (arith, bad))
not_fast mode.Opt e = let bad : ◌≡◌ {A = ℕ} 102 111 = ap first_byte e in absurd (omega (arith, bad))
not_fast mode.Gen e = let bad : ◌≡◌ {A = ℕ} 102 103 = ap first_byte e in absurd (omega (arith, bad))

other_word : AsksNothing (codes "fast" ∷ [])
other_word r asks = not_fast (mode_of r) (ap (λ (o : Option Text). unwrap_or o []) asks.0)

abbrev two_modes : List Text
two_modes = codes "naive" ∷ codes "slow" ∷ []

further_word : AsksNothing two_modes
unfolding clap_on_literals
further_word = nothing_taken two_modes mode.Naive refl (λ taken. (cc))

abbrev flag_twice : List Text
flag_twice = codes "opt" ∷ codes "--stats" ∷ codes "--stats" ∷ []

repeated : AsksNothing flag_twice
unfolding clap_on_literals
repeated = nothing_taken flag_twice mode.Opt refl (λ taken. (cc))

abbrev units_alone : List Text
units_alone = codes "gen" ∷ codes "--units" ∷ codes "3" ∷ []

missing : AsksNothing units_alone
unfolding clap_on_literals
missing = nothing_taken units_alone mode.Gen refl (λ taken. (cc))

-- the command takes the words, and no number of workers is that of the value
no_workers : (words : List Text) → IsFirst words mode.Opt
    → ((n : ℕ) → HasNumberOr 4 1 16 (first_of (codes "workers") (matches_of (command_for mode.Opt) words)) n → ⊥)
    → AsksNothing words
no_workers words first none Naive asks =
    let bad : mode.Naive ≡ mode.Opt = one_first words mode.Naive mode.Opt asks.0 first in (cc)
no_workers words first none Slow asks =
    let bad : mode.Slow ≡ mode.Opt = one_first words mode.Slow mode.Opt asks.0 first in (cc)
no_workers words first none (Opt workers learners stats) asks = none workers asks.2.0
no_workers words first none (Gen seed units) asks =
    let bad : mode.Gen ≡ mode.Opt = one_first words mode.Gen mode.Opt asks.0 first in (cc)

abbrev workers_0 : List Text
workers_0 = codes "opt" ∷ codes "--workers" ∷ codes "0" ∷ []

below : AsksNothing workers_0
unfolding clap_on_literals
below = no_workers workers_0 refl (λ n h.
    let zero : 0 ≡ n = ap (λ (o : Option ℕ). unwrap_or o 0) h.0 in absurd (omega (arith, h.1)))

abbrev workers_plus : List Text
workers_plus = codes "opt" ∷ codes "--workers=+1" ∷ []

signed : AsksNothing workers_plus
unfolding clap_on_literals
signed = no_workers workers_plus refl (λ n h. let bad : None ≡ Some n = h.0 in (cc))

pub words_ask_nothing : WordsAskNothing
words_ask_nothing = (no_words, other_word, further_word, below, signed, repeated, missing)
