-- The numbers of a term that has a text of its own.
use Rattle.std.specs.Prelude.{ℕ, ◌<◌, ◌^◌}
use Rattle.po_term.specs.Tree.{Tree, EachConst, EachLeaf}
use Rattle.po_term.specs.Terms.{Place}
use Rattle.po_term.specs.Form.{IsPlace}

-- constants are words, and registers and symbols have their numbers
pub record HasNumbers (t : Tree ℕ Place) : Type 0 where
  pub words : EachConst (λ c. c < 2 ^ 32) t
  pub places : EachLeaf IsPlace t
