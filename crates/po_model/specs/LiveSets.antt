-- What a set of live registers, and whether cc is live, says of each.
use Rattle.std.specs.Prelude.{ℕ, zero, suc, Bool, false, List, [], ◌∷◌}
use Rattle.std.specs.Global.{Vec}
use Rattle.po_model.specs.declared.pair.Live.{Live}
use Rattle.po_model.specs.LiveSet.{is_live}
use Rattle.po_model.specs.declared.var.Var.{Var}
use Rattle.po_model.specs.declared.var.Var.TheVariants.{Reg, Cc}

-- whether v is live
abbrev pub holds : Live → Var → Bool
holds l (Reg r) = is_live l r
holds l Cc = l.cc

-- whether v is in the set at a place of a list
abbrev pub holds_at : List Live → ℕ → Var → Bool
holds_at [] n v = false
holds_at (l ∷ ls) zero v = holds l v
holds_at (l ∷ ls) (suc n) v = holds_at ls n v

-- the sets of the block b
abbrev pub lives_at : List (Vec Live) → ℕ → List Live
lives_at [] b = []
lives_at (v ∷ vs) zero = v.items
lives_at (v ∷ vs) (suc b) = lives_at vs b
