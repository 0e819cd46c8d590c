-- What words ask for.
use Rattle.std.specs.Prelude.{◌≡◌, ◌≤◌, List, codes, ⊤}
use Rattle.clap.specs.Words.{Row, Text, first_of, matches_of}
use Rattle.po_words.specs.declared.mode.Mode.{Mode}
use Rattle.po_words.specs.declared.mode.Mode.TheVariants as mode
use Rattle.po_words.specs.declared.request.Request.{Request}
use Rattle.po_words.specs.declared.request.Request.TheVariants.{Naive, Slow, Opt, Gen}
use Rattle.po_words.specs.Modes.{IsFirst}
use Rattle.po_words.specs.Commands.{Takes, command_for}
use Rattle.po_words.specs.Values.{HasNumber, HasNumberOr, is_given}

-- the mode of a request
-- ORDER: modes
abbrev pub mode_of : Request → Mode
mode_of Naive = mode.Naive
mode_of Slow = mode.Slow
mode_of (Opt workers learners stats) = mode.Opt
mode_of (Gen seed units) = mode.Gen

-- the values of a request are those that clap's matches give, each within its bounds
-- ORDER: modes
abbrev pub Gives : List Row → Request → Type 0
Gives rows Naive = ⊤
Gives rows Slow = ⊤
Gives rows (Opt workers learners stats) = HasNumberOr 4 1 16 (first_of (codes "workers") rows) workers
    × HasNumberOr 2 0 8 (first_of (codes "learners") rows) learners
    × (stats ≡ is_given (codes "stats") rows)
Gives rows (Gen seed units) = HasNumber 0 4294967295 (first_of (codes "seed") rows) seed
    × HasNumber 0 10000 (first_of (codes "units") rows) units

-- the request is one of the mode, with the values that the matches give
abbrev pub GivesIn : Mode → List Row → Request → Type 0
GivesIn mode rows r = (mode_of r ≡ mode) × Gives rows r

-- the words ask for r: the first one names its mode, the command of that mode takes them all, and the values that it
-- finds are those of r
abbrev pub AsksFor : List Text → Request → Type 0
AsksFor words r = IsFirst words (mode_of r) × Takes (command_for (mode_of r)) words
    × Gives (matches_of (command_for (mode_of r)) words) r

-- the numbers of a request are in their bounds
abbrev pub IsInBounds : Request → Type 0
IsInBounds Naive = ⊤
IsInBounds Slow = ⊤
IsInBounds (Opt workers learners stats) = (1 ≤ workers) × (workers ≤ 16) × (learners ≤ 8)
IsInBounds (Gen seed units) = units ≤ 10000
