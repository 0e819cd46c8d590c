-- What a placement says: the machine register of each virtual register, or the first crowded point.
use Rattle.std.specs.Prelude.{ℕ, ◌<◌, ◌≡◌, List, map, reverse, All, []}
use Rattle.po_model.specs.Placement.{Interval, IsUncrowded, IsCrowded, place_from, assigned}
use Rattle.po_assign.specs.declared.place.Placing.{Placing}
use Rattle.po_assign.specs.declared.place.Placing.TheVariants.{Given, Crowded}

-- a result for these intervals, in order, on n registers
abbrev pub Places : ℕ → List Interval → Placing → Type 0
Places n is (Given regs) = IsUncrowded n is × (regs.items ≡ reverse (map assigned (place_from n [] is)))
    × All (λ x. x.1 < n) regs.items
Places n is (Crowded point needed) = IsCrowded n is point needed
