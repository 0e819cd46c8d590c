-- The line of an entry is written as that entry, begins with its word, and is plain.
use Rattle.std.proofs.Common.{◌≡◌, ℕ, ◌+◌, ◌≤◌, ◌==◌, List, [], ◌∷◌, ◌++◌, Bool, true, false, refl, sym, ap}
use Rattle.std.proofs.Common.{subst, map, All, codes, arith}
use Rattle.std.specs.Prelude.{⊤, cond}
use Rattle.std.specs.List.{AllByRecursion}
use Rattle.std.proofs.lemmas.Bool.Decides.{nat_tests}
use Rattle.std.proofs.lemmas.List.Elements.{All-head, All-tail}
use Rattle.po_text.specs.Words.{is_blank, with_byte, words_from}
use Rattle.po_text.specs.declared.fault.Span.{Span}
use Rattle.po_lines.specs.Words.{words_in}
use Rattle.po_model.specs.declared.machine.Entry.{Entry}
use Rattle.po_model.specs.Entries.{IsEntry}
use Rattle.po_entry.specs.EntryText.{entry_text}
use Rattle.po_entry.specs.Writing.{IsWritten}
use Rattle.po_entry.proofs.Printed.{entry_printed, entry_plain, entry_begins}
use Rattle.po_mdread.specs.Description.{BeginsWith}

-- an entry whose printed line is written as it
pub record IsReadAgain (e : Entry) : Type 0 where
  pub written : IsWritten e (entry_text e)
  pub first : BeginsWith (codes "insn") (map (λ w. w.bytes) (words_in (entry_text e)))
  -- its bytes are blanks and what is no control character
  pub plain : AllByRecursion (λ b. 32 ≤ b) (entry_text e)

-- the first word begins here or later
abbrev StartsFrom : ℕ → List Span → Type 0
StartsFrom at [] = ⊤
StartsFrom at (word ∷ words) = at ≤ word.start

joined_by : (b : Bool) (at : ℕ) (word : Span) (words : List Span)
    → StartsFrom at (cond b (record { start = at; end = word.end } ∷ words) (record { start = at; end = at + 1 }
    ∷ (word ∷ words)))
joined_by true at word words = omega arith
joined_by false at word words = omega arith

with_starts : (at : ℕ) (words : List Span) → StartsFrom at (with_byte at words)
with_starts at [] = omega arith
with_starts at (word ∷ words) = joined_by (word.start == at + 1) at word words

later : (at : ℕ) (words : List Span) → StartsFrom (at + 1) words → StartsFrom at words
later at [] h = tt
later at (word ∷ words) h = omega (arith, h)

starts_by : (b : Bool) (at : ℕ) (words : List Span) → StartsFrom (at + 1) words
    → StartsFrom at (cond b words (with_byte at words))
starts_by true at words h = later at words h
starts_by false at words h = with_starts at words

starts : (bytes : List ℕ) (at : ℕ) → StartsFrom at (words_from at bytes)
starts [] at = tt
starts (byte ∷ bytes) at = starts_by (is_blank byte) at (words_from (at + 1) bytes) (starts bytes (at + 1))

last_byte : (words : List Span) → StartsFrom 5 words → with_byte 3 words ≡ record { start = 3; end = 4 } ∷ words
last_byte [] h = refl
last_byte (word ∷ words) h = let no : (word.start == 4) ≡ false = grind (arith, nat_tests) in rw no refl

first_word : (others : List ℕ) → words_from 0 (codes "insn" ++ (32 ∷ others)) ≡ record { start = 0; end = 4 }
    ∷ words_from 5 others
first_word others = ap (λ (ws : List Span). with_byte 0 (with_byte 1 (with_byte 2 ws)))
    (last_byte (words_from 5 others) (starts others 5))

begins : (others : List ℕ) → BeginsWith (codes "insn") (map (λ w. w.bytes) (words_in (codes "insn" ++ (32 ∷ others))))
unfolding words_in
begins others = let words = first_word others in rw words refl

pub read_again : (e : Entry) → IsEntry e → IsReadAgain e
read_again e h =
    let b = entry_begins e in
    record {
      written = entry_printed e h;
      first = subst (λ (text : List ℕ). BeginsWith (codes "insn") (map (λ w. w.bytes) (words_in text))) (sym b.is)
          (begins b.others);
      plain = entry_plain e h;
    }

pub all_again : (es : List Entry) → All IsEntry es → AllByRecursion IsReadAgain es
all_again [] h = tt
all_again (e ∷ es) h = (read_again e (All-head IsEntry e es h), all_again es (All-tail IsEntry e es h))
