-- Why a code has no placement.
use Rattle.std.specs.Prelude.{ℕ, List, ⊤}
use Rattle.po_model.specs.Placement.{Interval, IsCrowded}
use Rattle.po_assign.specs.declared.answer.AssignRefusal.{AssignRefusal}
use Rattle.po_assign.specs.declared.answer.AssignRefusal.TheVariants.{TooFew, OutOfMemory}

-- what a refusal says of these intervals on n machine registers; want of memory has no cause
abbrev pub Refuses : ℕ → List Interval → AssignRefusal → Type 0
Refuses n is (TooFew point needed) = IsCrowded n is point needed
Refuses n is OutOfMemory = ⊤
