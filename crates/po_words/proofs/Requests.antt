-- What words ask for.
use Rattle.std.proofs.Common.{◌≡◌, List, Option, Some, None, refl, sym, ◌∙◌, subst, arith, codes}
use Rattle.clap.specs.Words.{Row, Text, first_of, matches_of}
use Rattle.po_words.specs.declared.mode.Mode.{Mode}
use Rattle.po_words.specs.declared.request.Request.{Request}
use Rattle.po_words.specs.declared.request.Request.TheVariants.{Naive, Slow, Opt, Gen}
use Rattle.po_words.specs.Finds.{Finds}
use Rattle.po_words.specs.Modes.{IsFirst}
use Rattle.po_words.specs.Commands.{Takes, command_for}
use Rattle.po_words.specs.Requests.{AsksFor, Gives, GivesIn, IsInBounds, mode_of}
use Rattle.po_words.specs.Laws.{AsksNothing, OneRequest}
use Rattle.po_words.proofs.Modes.{one_first}
use Rattle.po_words.proofs.Numbers.{number-below, number_or-within, one_number, one_number-or}

-- where the first word names no mode, the words ask for nothing
pub nothing_named : (words : List Text) → Finds (IsFirst words) None → AsksNothing words
nothing_named words none r asks = none (mode_of r) asks.0

-- nor where the command of its mode doesn't take them
pub nothing_taken : (words : List Text) (m : Mode) → IsFirst words m
    → (Takes (command_for m) words → ⊥) → AsksNothing words
nothing_taken words m first refused r asks =
    let same : mode_of r ≡ m = one_first words (mode_of r) m asks.0 first in
    refused (subst (λ (n : Mode). Takes (command_for n) words) same asks.1)

-- where it does, they ask for what its values give
pub asks_as_given : (words : List Text) (m : Mode) (rows : List Row) (found : Option Request) → IsFirst words m
    → Takes (command_for m) words → rows ≡ matches_of (command_for m) words → Finds (GivesIn m rows) found
    → Finds (AsksFor words) found
asks_as_given words m rows (Some r) first taken same gives =
    subst (λ (n : Mode). IsFirst words n × Takes (command_for n) words × Gives (matches_of (command_for n) words) r)
    (sym gives.0) (first, taken, subst (λ (rs : List Row). Gives rs r) same gives.1)
asks_as_given words m rows None first taken same none = λ r asks.
    let one : mode_of r ≡ m = one_first words (mode_of r) m asks.0 first in
    let given : Gives (matches_of (command_for m) words) r =
    subst (λ (n : Mode). Gives (matches_of (command_for n) words) r) one asks.2 in
    none r (one, subst (λ (rs : List Row). Gives rs r) (sym same) given)

-- what values give is in its bounds
pub in_bounds : (rows : List Row) (r : Request) → Gives rows r → IsInBounds r
in_bounds rows Naive h = tt
in_bounds rows Slow h = tt
in_bounds rows (Opt workers learners stats) h =
    let w = number_or-within 4 1 16 (first_of (codes "workers") rows) workers (omega arith) (omega arith) h.0 in
    let l = number_or-within 2 0 8 (first_of (codes "learners") rows) learners (omega arith) (omega arith) h.1 in
    (w.0, w.1, l.1)
in_bounds rows (Gen seed units) h = number-below 0 10000 (first_of (codes "units") rows) units h.1

-- the values give one request of a mode
one_given : (rows : List Row) (r s : Request) → mode_of r ≡ mode_of s → Gives rows r → Gives rows s → r ≡ s
one_given rows Naive Naive e g h = refl
one_given rows Naive Slow e g h = (cc)
one_given rows Naive (Opt w l t) e g h = (cc)
one_given rows Naive (Gen n u) e g h = (cc)
one_given rows Slow Naive e g h = (cc)
one_given rows Slow Slow e g h = refl
one_given rows Slow (Opt w l t) e g h = (cc)
one_given rows Slow (Gen n u) e g h = (cc)
one_given rows (Opt w l t) Naive e g h = (cc)
one_given rows (Opt w l t) Slow e g h = (cc)
one_given rows (Opt w l t) (Opt x m u) e g h =
    let workers : w ≡ x = one_number-or 4 1 16 (first_of (codes "workers") rows) w x g.0 h.0 in
    let learners : l ≡ m = one_number-or 2 0 8 (first_of (codes "learners") rows) l m g.1 h.1 in
    let stats : t ≡ u = g.2 ∙ sym h.2 in
    λ i. Opt (workers i) (learners i) (stats i)
one_given rows (Opt w l t) (Gen n u) e g h = (cc)
one_given rows (Gen n u) Naive e g h = (cc)
one_given rows (Gen n u) Slow e g h = (cc)
one_given rows (Gen n u) (Opt w l t) e g h = (cc)
one_given rows (Gen n u) (Gen k v) e g h =
    let seed : n ≡ k = one_number 0 4294967295 (first_of (codes "seed") rows) n k g.0 h.0 in
    let units : u ≡ v = one_number 0 10000 (first_of (codes "units") rows) u v g.1 h.1 in
    λ i. Gen (seed i) (units i)

pub one_request : OneRequest
one_request words r s f g =
    let same : mode_of r ≡ mode_of s = one_first words (mode_of r) (mode_of s) f.0 g.0 in
    one_given (matches_of (command_for (mode_of s)) words) r s same
    (subst (λ (m : Mode). Gives (matches_of (command_for m) words) r) same f.2) g.2
