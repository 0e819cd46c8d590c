-- The commands that clap reads the words by, and when they take them.
use Rattle.std.specs.Prelude.{◌≡◌, true, List, [], codes, Option, Some, None}
use Rattle.clap.specs.Words.{App, Rule, Text, fault_of, found_of, matches_of, new_app}
use Rattle.clap.specs.Words.{new_rule, rows_of, with_rule}
use Rattle.clap.specs.declared.builder.action.ArgAction.TheVariants.{SetTrue}
use Rattle.clap.specs.declared.parser.matches.ArgMatches.{ArgMatches}
use Rattle.po_words.specs.declared.mode.Mode.{Mode}
use Rattle.po_words.specs.declared.mode.Mode.TheVariants.{Naive, Slow, Opt, Gen}

-- `--name VALUE`
abbrev pub option : Text → Rule
option name = record (new_rule name) { long = Some name }

-- `--name VALUE`, which has to be given
abbrev pub required : Text → Rule
required name = record (option name) { required = true }

-- `--name`
abbrev pub flag : Text → Rule
flag name = record (option name) { action = Some SetTrue }

abbrev pub opt_command : App
opt_command = with_rule (with_rule (with_rule (new_app (codes "opt"))
    (option (codes "workers"))) (option (codes "learners"))) (flag (codes "stats"))

abbrev pub gen_command : App
gen_command = with_rule (with_rule (new_app (codes "gen")) (required (codes "seed"))) (required (codes "units"))

-- the command that reads the words of a mode, of which the first is the command's name
-- ORDER: modes
abbrev pub command_for : Mode → App
command_for Naive = new_app (codes "naive")
command_for Slow = new_app (codes "slow")
command_for Opt = opt_command
command_for Gen = gen_command

-- the command takes the words: clap finds no fault in them
abbrev pub Takes : App → List Text → Type 0
Takes command words = fault_of command words ≡ []

-- the command takes the words and these are its matches, or it doesn't take them
abbrev pub Matches : App → List Text → Option ArgMatches → Type 0
Matches command words (Some m) = Takes command words × (rows_of (found_of m) ≡ matches_of command words)
Matches command words None = Takes command words → ⊥
