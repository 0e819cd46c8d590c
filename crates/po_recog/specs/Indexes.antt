-- The index of a machine's entries, and what is found by it.
use Rattle.std.specs.Prelude.{◌≡◌, ◌<◌, ◌==◌, ℕ, suc, max, if◌then◌else◌, List, [], ◌∷◌, length, Option, Some, None}
use Rattle.std.specs.Prelude.{slice_get, unwrap_or}
use Rattle.po_model.specs.declared.machine.Entry.{Entry}
use Rattle.po_model.specs.declared.machine.Machine.{Machine}
use Rattle.po_recog.specs.declared.answer.Operand.{Operand}
use Rattle.po_recog.specs.declared.index.Index.{Index}
use Rattle.po_recog.specs.Heads.{entry_number}

-- how many transfers the longest of these entries has
abbrev pub most_transfers : List Entry → ℕ
most_transfers [] = 0
most_transfers (e ∷ es) = max (length e.pattern) (most_transfers es)

-- the number of the first of these entries, counted from n on, whose head has the number g; the number behind the last
-- entry where none has
abbrev pub first_with : ℕ → List Entry → ℕ → ℕ
first_with g [] n = n
first_with g (e ∷ es) n = if entry_number e == g then n else first_with g es (suc n)

-- of each of these entries, the number of the first one behind it that has its head
abbrev pub links : List Entry → ℕ → List ℕ
links [] n = []
links (e ∷ es) n = first_with (entry_number e) es (suc n) ∷ links es (suc n)

-- the number at a place of a list, and 0 behind its end
abbrev pub number_at : List ℕ → ℕ → ℕ
number_at ns k = unwrap_or (slice_get ns k) 0

-- one more than the greatest number of a head
abbrev pub heads : ℕ
heads = 1280

-- it has the first entry of each head, from each entry the next one of its head, and how many transfers the longest
-- has
pub record IsIndexOf (m : Machine) (index : Index) : Type 0 where
  pub firsts : (g : ℕ) → g < heads → number_at index.firsts.items g ≡ first_with g m.entries 0
  pub nexts : index.nexts.items ≡ links m.entries 0
  pub most : index.most ≡ most_transfers m.entries

-- an entry's number, where there is one, with the ten operands
abbrev pub found_with : Option ℕ → List (Option Operand) → Option (ℕ × List (Option Operand))
found_with None slots = None
found_with (Some n) slots = Some (n, slots)
