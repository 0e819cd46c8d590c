-- The printed text of a machine.
use Rattle.std.specs.Prelude.{◌≤◌, ◌+◌, ℕ, List, [], ◌∷◌, ◌++◌, length, map, codes}
use Rattle.std.specs.List.{AllByRecursion, flat_map, join_with_byte}
use Rattle.po_text.specs.declared.fault.Spot.{Spot}
use Rattle.po_model.specs.declared.machine.Machine.{Machine}
use Rattle.po_model.specs.Machines.{IsMachine}
use Rattle.po_entry.specs.EntryText.{entry_text}

-- a head line: its word and its names, one space between two
abbrev pub head_text : List ℕ → List (List ℕ) → List ℕ
head_text word names = join_with_byte 32 (word ∷ names)

-- the lines of a machine's description
unfoldable pub machine_lines : Machine → List (List ℕ)
machine_lines m = head_text (codes "machine") (m.name ∷ [])
    ∷ head_text (codes "frame") (m.frame ∷ [])
    ∷ head_text (codes "result") (m.result ∷ [])
    ∷ head_text (codes "args") m.args
    ∷ head_text (codes "regs") m.regs
    ∷ (map entry_text m.entries ++ codes "end" ∷ [])

-- each of these lines with its line feed
abbrev pub lines_text : List (List ℕ) → List ℕ
lines_text lines = flat_map (λ line. line ++ 10 ∷ []) lines

-- the description of a machine
unfoldable pub machine_text : Machine → List ℕ
machine_text m = lines_text (machine_lines m)

-- what a machine has whose printed description is read again: no line is too long
pub record IsPrintable (m : Machine) : Type 0 where
  pub allowed : IsMachine m
  pub short : AllByRecursion (λ line. length line ≤ 4096) (machine_lines m)

-- the place behind it
abbrev pub end_of_text : Machine → Spot
end_of_text m = record { offset = length (machine_text m); line = length (machine_lines m) + 1 }
