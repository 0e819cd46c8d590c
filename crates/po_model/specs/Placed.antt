-- Placed code: the transfers of a code with each virtual register replaced by its machine register, and what they do
-- on the machine.
use Rattle.std.specs.Prelude.{ℕ, suc, Bool, false, if◌then◌else◌, List, [], ◌∷◌, map, length, slice_get, Option, Some}
use Rattle.std.specs.Prelude.{None}
use Rattle.std.specs.Option.{option_map}
use Rattle.po_term.specs.declared.term.Reg.{Reg as Register}
use Rattle.po_term.specs.declared.term.Reg.TheVariants.{Virt, Fp, Rv, Arg}
use Rattle.po_term.specs.declared.term.Sym.{Sym}
use Rattle.po_term.specs.Terms.{Place, InReg, AtSym, State}
use Rattle.po_term.specs.MoveMap.{move_map}
use Rattle.po_model.specs.declared.machine.Machine.{Machine}
use Rattle.po_model.specs.declared.machine.Entry.{Entry}
use Rattle.po_model.specs.Blocks.{PlainBlock, instrs_at}
use Rattle.po_model.specs.Effect.{Effected, effect}
use Rattle.po_model.specs.Fit.{Found, fit}
use Rattle.po_model.specs.Placement.{machine_of, registers}
use Rattle.po_model.specs.UnitCodes.{flat}
use Rattle.po_model.specs.Run.{Doing, Run, run_blocks}
use Rattle.po_term.specs.Moves.{PlainInstr}

-- the place of a register: a virtual register stands in a machine register, a fixed one is its own place
abbrev pub place_of : (ℕ → ℕ) → Register → Register
place_of at (Virt v) = Virt (at v)
place_of at Fp = Fp
place_of at Rv = Rv
place_of at (Arg k) = Arg k

abbrev pub placed_leaf : (ℕ → ℕ) → Place → Place
placed_leaf at (InReg r) = InReg (place_of at r)
placed_leaf at (AtSym s) = AtSym s

-- the placed transfers of an instruction
abbrev pub placed_instr : (ℕ → ℕ) → PlainInstr → PlainInstr
placed_instr at x = map (move_map (λ c. c) (placed_leaf at) (place_of at) (λ s. s) (λ l. l)) x

-- whether an entry leaves nothing in cc
abbrev pub entry_clobbers : Option Entry → Bool
entry_clobbers None = false
entry_clobbers (Some e) = e.clobbers

abbrev pub found_clobbers : Machine → Option (ℕ × List (Found ℕ Register Sym)) → Bool
found_clobbers m None = false
found_clobbers m (Some found) = entry_clobbers (slice_get m.entries found.0)

-- the state with nothing in cc, where the entry leaves nothing there
abbrev pub unless_clobbered : Bool → State → State
unless_clobbered clobbers s = record { place = s.place; memory = s.memory; cc = if clobbers then None else s.cc }

-- the effect of an instruction whose entry leaves nothing in cc, or keeps it
abbrev pub effect_on : Bool → PlainInstr → State → Option Effected
effect_on clobbers x s = option_map (λ d. record { state = unless_clobbered clobbers d.state; to = d.to }) (effect x s)

-- a machine, and the machine register of each virtual register
module _ (m : Machine) (at : ℕ → ℕ) where
  -- what the placed instructions from the i-th of a block on do, where cc is live after those that live tells: the
  -- entry of each is that of the instruction before placement
  abbrev pub placed_from : (ℕ → Bool) → ℕ → List PlainInstr → List Doing
  placed_from live i [] = []
  placed_from live i (x ∷ xs) = effect_on (found_clobbers m (fit m (live i) x)) (placed_instr at x) ∷ placed_from live
      (suc i) xs

  -- what the placed instructions of each block of a code do
  abbrev pub placed_doings : List PlainBlock → (ℕ → ℕ → Bool) → ℕ → List Doing
  placed_doings code live b = placed_from (live b) 0 (instrs_at code b)

-- the machine register that each virtual register of a code gets
abbrev pub placed_at : Machine → List PlainBlock → ℕ → ℕ
placed_at m code v = machine_of (registers (length m.regs) (flat code)) v

-- n blocks of the placed code of a code, where `at` says which machine register each virtual register has, and live
-- tells after which instructions cc is live
abbrev pub run_placed : Machine → (ℕ → ℕ) → List PlainBlock → (ℕ → ℕ → Bool) → ℕ → Run → Option Run
run_placed m at code live n r = run_blocks code (placed_doings m at code live) n r
