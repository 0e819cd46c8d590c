-- The first wrong word of a line: what stands behind it doesn't change its fault, and what stands before it has no
-- wrong word and is no whole line.
use Rattle.std.specs.Prelude.{◌≡◌, ℕ, ◌<◌, ◌≤◌, ◌&&◌, Bool, true, nat_le, List, ◌++◌, length, Ok, Err}
use Rattle.std.specs.List.{list_all}
use Rattle.po_text.specs.declared.fault.Kind.TheVariants as kind
use Rattle.po_lines.specs.Faults.{fault}
use Rattle.po_model.specs.declared.machine.Entry.{Entry}
use Rattle.po_entry.specs.Writing.{ends_here}
use Rattle.po_entry.specs.Reading.{entry_in}

-- two lines that are the same up to a blank or the line's end behind the wrong word
abbrev pub IsKept : Type 0
IsKept = (front s t : List ℕ) (column : ℕ) → column ≤ length front → ends_here s ≡ true → ends_here t ≡ true
    → entry_in (front ++ s) ≡ Err (fault column kind.Word) → entry_in (front ++ t) ≡ Err (fault column kind.Word)

-- words with a wrong one behind them: whatever else stands there, none of them is wrong
abbrev pub IsFirst : Type 0
IsFirst = (front s t : List ℕ) (column other : ℕ) → length front < column → ends_here s ≡ true → ends_here t ≡ true
    → entry_in (front ++ s) ≡ Err (fault column kind.Word) → entry_in (front ++ t) ≡ Err (fault other kind.Word)
    → length front < other

-- a byte that a template may have
abbrev pub may_stand_in_template : ℕ → Bool
may_stand_in_template b = nat_le 32 b && nat_le b 126

-- no word becomes wrong by such bytes behind a whole line
abbrev pub IsNoWholeLine : Type 0
IsNoWholeLine = (front s : List ℕ) (column : ℕ) (e : Entry) → list_all may_stand_in_template s ≡ true
    → entry_in front ≡ Ok e → entry_in (front ++ s) ≡ Err (fault column kind.Word) → ⊥
