-- What clap's contract says of the commands of the modes: each is simple, and no argument has a rule on another.
use Rattle.std.proofs.Common.{◌≡◌, ◌≢◌, true, List, [], refl, subst, inl, inr}
use Rattle.std.specs.Prelude.{◌⊎◌}
use Rattle.clap.specs.Words.{App, IsAmong, Row, Text, fault_of, is_simple, is_simple_and_free, matches_of}
use Rattle.clap.specs.declared.error.kind.ErrorKind.{ErrorKind}
use Rattle.clap.specs.declared.error.kind.ErrorKind.TheVariants.{OutOfMemory}
use Rattle.po_words.specs.declared.mode.Mode.{Mode}
use Rattle.po_words.specs.declared.mode.Mode.TheVariants.{Naive, Slow, Opt, Gen}
use Rattle.po_words.specs.Commands.{Takes, command_for}

simple : (mode : Mode) → is_simple (command_for mode) ≡ true
simple Naive = refl
simple Slow = refl
simple Opt = refl
simple Gen = refl

simple_and_free : (mode : Mode) → is_simple_and_free (command_for mode) ≡ true
simple_and_free Naive = refl
simple_and_free Slow = refl
simple_and_free Opt = refl
simple_and_free Gen = refl

-- where clap takes the words, it finds no fault
pub takes_all : (mode : Mode) (app : App) (words : List Text) → app ≡ command_for mode
    → (is_simple_and_free app ≡ true → fault_of app words ≡ []) → Takes (command_for mode) words
takes_all mode app words same none =
    subst (λ (a : App). is_simple_and_free a ≡ true → fault_of a words ≡ []) same none (simple_and_free mode)

-- and its matches are those of its written function
pub has_matches : {R : Type 0} (mode : Mode) (app : App) (words : List Text) (rows : List Row) (rest : App → R)
    (more : R) → app ≡ command_for mode
    → (is_simple app ≡ true → (rows ≡ matches_of app words) × (more ≡ rest app))
    → rows ≡ matches_of (command_for mode) words
has_matches mode app words rows rest more same holds =
    (subst (λ (a : App). is_simple a ≡ true → (rows ≡ matches_of a words) × (more ≡ rest a)) same
    holds (simple mode)).0

-- where it refuses them, and had memory, it finds one
pub refused : (mode : Mode) (app : App) (words : List Text) (kind : ErrorKind) → app ≡ command_for mode
    → (is_simple_and_free app ≡ true → (kind ≡ OutOfMemory) ⊎ IsAmong kind (fault_of app words))
    → kind ≢ OutOfMemory → Takes (command_for mode) words → ⊥
refused mode app words kind same fails other taken =
    elim found [
      | inl wanted ↦ other wanted
      | inr among ↦ subst (IsAmong kind) taken among
    ]
  where
    found : (kind ≡ OutOfMemory) ⊎ IsAmong kind (fault_of (command_for mode) words)
    found = subst
        (λ (a : App). is_simple_and_free a ≡ true → (kind ≡ OutOfMemory) ⊎ IsAmong kind (fault_of a words))
        same fails (simple_and_free mode)
