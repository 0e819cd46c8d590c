-- A pair beside its rule.
use Rattle.std.specs.Prelude.{◌≡◌}
use Rattle.po_model.specs.declared.machine.Machine.{Machine}
use Rattle.po_model.specs.declared.pair.Pair.{Pair}
use Rattle.po_model.specs.declared.rule.Rule.{Rule}
use Rattle.po_model.specs.Agrees.{Instance}
use Rattle.po_model.specs.Holed.{rule_of}
use Rattle.po_model.specs.Pairs.{pair_of, WellFormedPair}

-- the rule is one of the machine's, and the pair is well formed and an instance of it
abbrev pub IsLesson : Machine → Pair → Machine × Rule → Type 0
IsLesson m p l = (l.0 ≡ m) × WellFormedPair (pair_of p) × Instance (rule_of l.1) (pair_of p)
