use Rattle.std.proofs.Common.{◌≡◌, ◌+◌, All, length, map}
use Rattle.po_model.specs.Pairs.{pair_of, WellFormedPair}
use Rattle.po_opt.proofs.copies.copies_of.Given as goal

-- what is there, with what is still to come, is the whole
abbrev pub invariant-copies : goal.invariant-copies
invariant-copies l =
    (length l.copies.items + l.left ≡ 1 + l.fn.more) × All WellFormedPair (map pair_of l.copies.items)

abbrev pub decreases-copies : goal.decreases-copies
decreases-copies l = l.left
