-- The lines that describe a machine, by their forms. Lines that say nothing may stand between them.
use Rattle.std.specs.Prelude.{◌≡◌, ◌≤◌, ℕ, List, [], ◌∷◌, ◌++◌, length, map, filter, not, codes, ⊤}
use Rattle.std.specs.List.{AllByRecursion}
use Rattle.po_text.specs.declared.fault.Spot.{Spot}
use Rattle.po_lines.specs.Forms.{says_nothing}
use Rattle.po_lines.specs.Lines.{Numbered}
use Rattle.po_lines.specs.Words.{words_in}
use Rattle.po_model.specs.declared.machine.Entry.{Entry}
use Rattle.po_model.specs.declared.machine.Machine.{Machine}
use Rattle.po_model.specs.Machines.{IsMachine}
use Rattle.po_entry.specs.Writing.{IsWritten}
use Rattle.po_mdread.specs.Reading.{behind}

-- the lines that say something
abbrev pub said_lines : List Numbered → List Numbered
said_lines lines = filter (λ l. not (says_nothing (words_in l.bytes))) lines

-- the words of a line
abbrev pub line_texts : Numbered → List (List ℕ)
line_texts l = map (λ w. w.bytes) (words_in l.bytes)

abbrev pub BeginsWith : List ℕ → List (List ℕ) → Type 0
BeginsWith text [] = ⊥
BeginsWith text (first ∷ others) = first ≡ text

-- an `insn` line that is written as this entry may be
pub record IsInsnLine (l : Numbered) (e : Entry) : Type 0 where
  pub first : BeginsWith (codes "insn") (line_texts l)
  pub written : IsWritten e l.bytes

-- such a line for each of these entries, in order
abbrev pub AreInsnLines : List Numbered → List Entry → Type 0
AreInsnLines [] [] = ⊤
AreInsnLines [] (e ∷ es) = ⊥
AreInsnLines (l ∷ ls) [] = ⊥
AreInsnLines (l ∷ ls) (e ∷ es) = IsInsnLine l e × AreInsnLines ls es

-- the words of the head lines
abbrev pub head_texts : Machine → List (List (List ℕ))
head_texts m = (codes "machine" ∷ m.name ∷ [])
    ∷ (codes "frame" ∷ m.frame ∷ [])
    ∷ (codes "result" ∷ m.result ∷ [])
    ∷ (codes "args" ∷ m.args)
    ∷ (codes "regs" ∷ m.regs)
    ∷ []

-- these lines describe the machine, and `last`, the last of them, is the line `end`
pub record IsDescription (lines : List Numbered) (m : Machine) (last : Numbered) : Type 0 where
  pub front : List Numbered
  pub cut : lines ≡ front ++ last ∷ []
  pub short : AllByRecursion (λ l. length l.bytes ≤ 4096) lines
  pub heads : List Numbered
  pub insns : List Numbered
  pub said : said_lines lines ≡ heads ++ (insns ++ last ∷ [])
  pub head_lines : map line_texts heads ≡ head_texts m
  pub insn_lines : AreInsnLines insns m.entries
  pub end_line : line_texts last ≡ codes "end" ∷ []
  pub allowed : IsMachine m

-- these lines begin with a description of the machine, and `at` is the place behind it
pub record BeginWith (lines : List Numbered) (m : Machine) (at : Spot) : Type 0 where
  pub front : List Numbered
  pub back : List Numbered
  pub last : Numbered
  pub cut : lines ≡ front ++ back
  pub describe : IsDescription front m last
  pub place : at ≡ behind last
