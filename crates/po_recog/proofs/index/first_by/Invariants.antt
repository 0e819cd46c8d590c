use Rattle.std.proofs.Common.{◌≡◌, ◌<◌, ◌-◌, drop, length, get_or}
use Rattle.po_term.specs.Moves.{moves_of}
use Rattle.po_term.specs.Kinds.{words}
use Rattle.po_model.specs.declared.machine.Entry.{Entry}
use Rattle.po_model.specs.Fit.{first_fit}
use Rattle.po_model.specs.Parts.{code_leaves}
use Rattle.po_recog.specs.Heads.{entry_number, list_number}
use Rattle.po_recog.proofs.index.first_by.Given as goal

-- no entry before the next one fits, and that one has the list's head
abbrev pub invariant-loop-next : goal.invariant-loop-next
invariant-loop-next l = record {
  head : (e : Entry) → l.next < length l.entries → e ≡ get_or l.entries l.next e
      → entry_number e ≡ list_number (moves_of l.xs);
  rest : (first_fit code_leaves words l.cc_live (drop l.next l.entries) l.next (moves_of l.xs)).got
      ≡ (first_fit code_leaves words l.cc_live l.entries 0 (moves_of l.xs)).got;
}

abbrev pub decreases-loop-next : goal.decreases-loop-next
decreases-loop-next l = length l.entries - l.next
