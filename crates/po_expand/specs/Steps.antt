-- What stands between two operations as plain data, and what an operation does to it.
use Rattle.std.specs.Prelude.{◌≡◌, ℕ, ◌+◌, ◌≤◌, List, [], ◌∷◌, ◌++◌, length, map, reverse, Option, None, Some}
use Rattle.po_term.specs.declared.term.Label.{Label}
use Rattle.po_term.specs.declared.term.Reg.TheVariants.{Virt}
use Rattle.po_term.specs.Tree.{Tree}
use Rattle.po_term.specs.Terms.{Place}
use Rattle.po_term.specs.Moves.{SetTo, instrs_of, PlainMove, PlainInstr}
use Rattle.po_ir.specs.declared.unit.Op.{Op}
use Rattle.po_ir.specs.Ops.{depth_by}
use Rattle.po_model.specs.Blocks.{PlainBlock, block_of}
use Rattle.po_model.specs.Naive.{Text, pieces, cut, unless_blank}
use Rattle.po_expand.specs.declared.state.Expansion.{Expansion}

-- the stack has its top first
pub record Between : Type 0 where
  pub ended : List PlainBlock
  pub label : Option Label
  pub instrs : List PlainInstr
  pub stack : List ℕ
  pub next : ℕ

abbrev pub nothing_yet : Between
nothing_yet = record { ended = []; label = None; instrs = []; stack = []; next = 0 }

abbrev pub between : Expansion → Between
between e =
    record {
      ended = map block_of e.ended.items;
      label = e.label;
      instrs = instrs_of e.instrs.items;
      stack = reverse e.stack.items;
      next = e.next;
    }

-- one instruction more, of one move
abbrev pub added : PlainMove → Between → Between
added m b =
    record { ended = b.ended; label = b.label; instrs = b.instrs ++ (m ∷ []) ∷ []; stack = b.stack; next = b.next }

-- the next register is set, and lies on the stack
abbrev pub defined : Tree ℕ Place → Between → Between
defined t b =
    record {
      ended = b.ended;
      label = b.label;
      instrs = b.instrs ++ (SetTo (Virt b.next) t ∷ []) ∷ [];
      stack = b.next ∷ b.stack;
      next = b.next + 1;
    }

abbrev pub pushed : ℕ → Between → Between
pushed a b = record { ended = b.ended; label = b.label; instrs = b.instrs; stack = a ∷ b.stack; next = b.next }

-- the block that has begun ends, and another begins
abbrev pub closed : Between → Between
closed b =
    record {
      ended = b.ended ++ record { label = b.label; instrs = b.instrs } ∷ [];
      label = None;
      instrs = [];
      stack = b.stack;
      next = b.next;
    }

-- the block that has begun ends, unless it is blank
abbrev pub finished : Between → Between
finished b =
    record {
      ended = b.ended ++ unless_blank b.label b.instrs;
      label = None;
      instrs = [];
      stack = b.stack;
      next = b.next;
    }

-- and another begins with this label
abbrev pub marked : Label → Between → Between
marked l b =
    record {
      ended = b.ended ++ unless_blank b.label b.instrs;
      label = Some l;
      instrs = [];
      stack = b.stack;
      next = b.next;
    }

-- the blocks of what was expanded and of these operations
abbrev pub code_with : List Text → List Text → Between → List Op → List PlainBlock
code_with labels syms b os = b.ended ++ cut b.label b.instrs (pieces labels syms b.next b.stack os)

-- an operation was expanded
pub record Expands (labels syms : List Text) (o : Op) (b c : Between) : Type 0 where
  pub code : (os : List Op) → code_with labels syms b (o ∷ os) ≡ code_with labels syms c os
  pub depth : length c.stack ≡ depth_by (length b.stack) o
  pub next : c.next ≤ b.next + 1
