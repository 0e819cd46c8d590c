-- What the definition of what words ask for comes to.
use Rattle.std.specs.Prelude.{◌≡◌, true, false, List, [], ◌∷◌, codes}
use Rattle.clap.specs.Words.{Text}
use Rattle.po_words.specs.declared.request.Request.{Request}
use Rattle.po_words.specs.declared.request.Request.TheVariants.{Naive, Slow, Opt, Gen}
use Rattle.po_words.specs.Requests.{AsksFor}

-- words ask for at most one request
abbrev pub OneRequest : Type 0
OneRequest = (words : List Text) (r s : Request) → AsksFor words r → AsksFor words s → r ≡ s

-- what some words ask for
abbrev pub WordsAsk : Type 0
WordsAsk = AsksFor (codes "naive" ∷ []) Naive
    × AsksFor (codes "slow" ∷ []) Slow
    × AsksFor (codes "opt" ∷ []) (Opt 4 2 false)
    × AsksFor (codes "opt" ∷ codes "--learners" ∷ codes "0" ∷ codes "--stats" ∷ codes "--workers=016" ∷ [])
    (Opt 16 0 true)
    × AsksFor (codes "gen" ∷ codes "--seed" ∷ codes "7" ∷ codes "--units=3" ∷ []) (Gen 7 3)

abbrev pub AsksNothing : List Text → Type 0
AsksNothing words = (r : Request) → AsksFor words r → ⊥

-- some words that ask for nothing
abbrev pub WordsAskNothing : Type 0
WordsAskNothing = AsksNothing []
    × AsksNothing (codes "fast" ∷ [])
    × AsksNothing (codes "naive" ∷ codes "slow" ∷ [])
    × AsksNothing (codes "opt" ∷ codes "--workers" ∷ codes "0" ∷ [])
    × AsksNothing (codes "opt" ∷ codes "--workers=+1" ∷ [])
    × AsksNothing (codes "opt" ∷ codes "--stats" ∷ codes "--stats" ∷ [])
    × AsksNothing (codes "gen" ∷ codes "--units" ∷ codes "3" ∷ [])
