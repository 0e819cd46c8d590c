-- The marks of the pairs that stayed.
--
-- Beside each instruction of a block stands a mark or none. A mark says that the instruction and the one before it are
-- a pair that stays, as long as of their targets is live what the mark says. The mark of the next instruction is of
-- the pair that is ready.
use Rattle.std.specs.Prelude.{ℕ, zero, suc, ◌≡◌, ◌≢◌, ◌≤◌, ◌<◌, ◌+◌, ◌-◌, Bool, true, if◌then◌else◌}
use Rattle.std.specs.Prelude.{List, [], ◌∷◌, length, get_or, Option, Some, None, ⊤, not}
use Rattle.std.specs.Global.{Vec}
use Rattle.std.specs.List.{list_all}
use Rattle.po_term.specs.Moves.{SetTo, CcTo, StoreTo, Ends, PlainMove, PlainInstr}
use Rattle.po_model.specs.declared.machine.Machine.{Machine}
use Rattle.po_model.specs.declared.var.Var.{Var}
use Rattle.po_model.specs.declared.var.Var.TheVariants.{Reg, Cc}
use Rattle.po_model.specs.Blocks.{PlainBlock, code_of, instrs_at}
use Rattle.po_model.specs.Combined.{Kept, combination}
use Rattle.po_model.specs.Scanned.{pair_with}
use Rattle.po_slow.specs.declared.block.Standing.{Standing}
use Rattle.po_slow.specs.declared.mark.Mark.{Mark}
use Rattle.po_slow.specs.declared.state.ScanState.{ScanState}

-- the register that a transfer sets is live or not, as b says; any other transfer is as b says
abbrev pub is_target : (Var → Bool) → Bool → PlainMove → Bool
is_target live b (SetTo r t) = if b then live (Reg r) else not (live (Reg r))
is_target live b (CcTo t u) = true
is_target live b (StoreTo t u) = true
is_target live b (Ends e) = true

-- all registers that an instruction sets are live, or none is
abbrev pub are_targets : (Var → Bool) → Bool → PlainInstr → Bool
are_targets live b x = list_all (is_target live b) x

-- of the targets of the instructions d and x is live what the mark says
pub record Fits (k : Mark) (live : Var → Bool) (d x : PlainInstr) : Type 0 where
  pub first : are_targets live k.first d ≡ true
  pub second : are_targets live k.second x ≡ true
  pub cc : live Cc ≡ k.cc

-- the two stay wherever the mark fits
abbrev pub Says : Machine → PlainInstr → PlainInstr → Option Mark → Type 0
Says m d x None = ⊤
Says m d x (Some k) = (live : Var → Bool) → Fits k live d x
    → combination m (pair_with d (record { instr = x; live = live })) ≡ Kept

-- what stands beside the instructions of a block is true, whose first ones are done and whose scan goes on at the place
-- `next`: beside those that are done, beside the next one, and beside those behind it
pub record AreTrue (m : Machine) (xs : List PlainInstr) (ks : List (Option Mark)) (done next : ℕ) : Type 0 where
  pub behind : (i : ℕ) → i + 1 < done → Says m (get_or xs i []) (get_or xs (i + 1) []) (get_or ks (i + 1) None)
  pub here : 0 < done → next < length xs → Says m (get_or xs (done - 1) []) (get_or xs next []) (get_or ks next None)
  pub ahead : (i : ℕ) → next ≤ i → i + 1 < length xs
      → Says m (get_or xs i []) (get_or xs (i + 1) []) (get_or ks (i + 1) None)

-- the marks of the b-th block
abbrev pub marks_at : List (Vec (Option Mark)) → ℕ → List (Option Mark)
marks_at [] b = []
marks_at (k ∷ ks) zero = k.items
marks_at (k ∷ ks) (suc b) = marks_at ks b

-- all marks of a code are true, whose scan stands in the b-th block
pub record AllTrue (m : Machine) (code : List PlainBlock) (marks : List (Vec (Option Mark))) (b : ℕ) (at : Standing)
    : Type 0 where
  pub here : AreTrue m (instrs_at code b) (marks_at marks b) at.done at.next
  pub others : (c : ℕ) → c ≢ b → AreTrue m (instrs_at code c) (marks_at marks c) 0 0

-- all marks of a scan are true
abbrev pub AreMarked : Machine → ScanState → Type 0
AreMarked m s = AllTrue m (code_of s.code) s.marks.items s.block s.at
