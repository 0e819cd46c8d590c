-- The words that name the modes.
use Rattle.std.specs.Prelude.{ℕ, ◌≡◌, List, codes, Some, slice_get}
use Rattle.po_words.specs.declared.mode.Mode.{Mode}
use Rattle.po_words.specs.declared.mode.Mode.TheVariants.{Naive, Slow, Opt, Gen}

-- the word that names a mode
-- ORDER: modes
abbrev pub word_of : Mode → List ℕ
word_of Naive = codes "naive"
word_of Slow = codes "slow"
word_of Opt = codes "opt"
word_of Gen = codes "gen"

-- the word names this mode
abbrev pub IsNamed : List ℕ → Mode → Type 0
IsNamed word mode = word ≡ word_of mode

-- the first of the words names this mode
abbrev pub IsFirst : List (List ℕ) → Mode → Type 0
IsFirst words mode = slice_get words 0 ≡ Some (word_of mode)
