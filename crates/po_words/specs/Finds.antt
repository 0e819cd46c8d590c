-- What a search for a value of a kind says.
use Rattle.std.specs.Prelude.{Option, Some, None}

-- what was found has P, and where nothing was found nothing has it
abbrev pub Finds : {X : Type 0} → (X → Type 0) → Option X → Type 0
Finds P (Some x) = P x
Finds {X} P None = (x : X) → P x → ⊥
