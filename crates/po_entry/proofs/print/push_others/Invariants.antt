use Rattle.std.proofs.Common.{◌≡◌, ◌++◌, drop, map}
use Rattle.std.specs.Prelude.{codes}
use Rattle.std.specs.List.{flat_map}
use Rattle.po_model.specs.Patterns.{pat_moves_of}
use Rattle.po_entry.specs.EntryText.{pat_move_text}
use Rattle.po_entry.proofs.print.push_others.Given as goal

-- what is printed so far, with what is still to come, is the whole
abbrev pub invariant-loop-transfer : goal.invariant-loop-transfer
invariant-loop-transfer l =
    l.out.items ++ flat_map (λ text. codes " ; " ++ text)
    (map pat_move_text (pat_moves_of (drop l.transfer-index l.others)))
    ≡ l.fn.out.items ++ flat_map (λ text. codes " ; " ++ text) (map pat_move_text (pat_moves_of l.others))
