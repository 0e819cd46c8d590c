-- What it means of two addresses that they are the same, or apart.
use Rattle.std.specs.Prelude.{ℕ, ◌≡◌, ◌≢◌, ⊤}
use Rattle.po_term.specs.declared.term.Alias.{Alias}
use Rattle.po_term.specs.declared.term.Alias.TheVariants.{Same, Apart, Maybe}
use Rattle.po_term.specs.Tree.{Tree}
use Rattle.po_term.specs.Terms.{Place, State, value}

-- in this state: one address, two addresses, or either
abbrev pub Meets : Alias → State → Tree ℕ Place → Tree ℕ Place → Type 0
Meets Same s p q = value s p ≡ value s q
Meets Apart s p q = value s p ≢ value s q
Meets Maybe s p q = ⊤
