-- What a term is worth in a state.
use Rattle.std.specs.Prelude.{ℕ, ◌<◌, ◌^◌, ◌≡◌}
use Rattle.po_term.specs.Tree.{Tree, EachConst}
use Rattle.po_term.specs.Terms.{Place, State, value}

-- its constants are words
abbrev pub HasWords : Tree ℕ Place → Type 0
HasWords t = EachConst (λ c. c < 2 ^ 32) t

-- the tree has words, and its word in the state is v
pub record IsWorth (s : State) (t : Tree ℕ Place) (v : ℕ) : Type 0 where
  pub words : HasWords t
  pub worth : value s t ≡ v
