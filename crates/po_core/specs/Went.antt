-- How a part of an event went.
use Rattle.std.specs.Prelude.{Bool, true, false, Result, Ok, Err}
use Rattle.po_word.specs.declared.memory.OutOfMemory.{OutOfMemory}

-- it was allowed and has its effect; or it wasn't allowed, and nothing changed
abbrev pub Did : Bool → Type 0 → Type 0 → Type 0 → Type 0
Did true allowed effect same = allowed × effect
Did false allowed effect same = (allowed → ⊥) × same

-- likewise; or memory was wanting, and nothing changed
abbrev pub Went : Result Bool OutOfMemory → Type 0 → Type 0 → Type 0 → Type 0
Went (Ok b) allowed effect same = Did b allowed effect same
Went (Err e) allowed effect same = same
