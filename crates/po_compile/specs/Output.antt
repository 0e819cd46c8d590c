-- What a text compiles to, and why it doesn't compile.
use Rattle.std.specs.Prelude.{ℕ, zero, suc, ◌≡◌, List, [], ◌∷◌, ◌++◌, length, map, All}
use Rattle.std.specs.List.{AllZip}
use Rattle.po_ir.specs.declared.unit.Unit.{Unit as StackUnit}
use Rattle.po_model.specs.declared.machine.Machine.{Machine}
use Rattle.po_model.specs.UnitCodes.{PlainUnit, flat}
use Rattle.po_model.specs.Naive.{naive}
use Rattle.po_model.specs.Fitted.{IsRecognised, IsUnrecognised}
use Rattle.po_model.specs.Placement.{intervals, registers, IsUncrowded, IsCrowded}
use Rattle.po_model.specs.Assembly.{IsAssembly}
use Rattle.po_compile.specs.declared.mode.Mode.{Mode}
use Rattle.po_compile.specs.Input.{IsInput}
use Rattle.po_compile.specs.Modes.{IsCodeIn}
use Rattle.po_compile.specs.Rules.{AreRulesIn}
use Rattle.po_compile.specs.Runs.{RunsAsNaive}

-- the first bad one of these has the number n; those before it are good
abbrev pub FirstBad : {X : Type 0} → (X → Type 0) → (X → Type 0) → List X → ℕ → Type 0
FirstBad good bad [] n = ⊥
FirstBad good bad (x ∷ xs) zero = bad x
FirstBad good bad (x ∷ xs) (suc n) = good x × FirstBad good bad xs n

-- each instruction of the unit fits an entry
abbrev pub AllFit : Machine → PlainUnit → Type 0
AllFit m u = IsRecognised u.code m

-- the machine has a register for each value at each point
abbrev pub HasRoom : Machine → PlainUnit → Type 0
HasRoom m u = IsUncrowded (length m.regs) (intervals (flat u.code))

-- the first point of the unit that is crowded, and how many registers it needs
abbrev pub IsShort : Machine → ℕ → ℕ → PlainUnit → Type 0
IsShort m point needed u = IsCrowded (length m.regs) (intervals (flat u.code)) point needed

-- the assembly of each of these units, one behind the other
abbrev pub AreAssembled : Machine → List PlainUnit → List ℕ → Type 0
AreAssembled m [] out = out ≡ []
AreAssembled m (u ∷ us) out = (text : List ℕ) × (rest : List ℕ)
    × IsAssembly m (registers (length m.regs) (flat u.code)) u text × AreAssembled m us rest × (out ≡ text ++ rest)

-- the naive code of each unit
abbrev pub naive_codes : List StackUnit → List PlainUnit
naive_codes us = map naive us

-- these are the codes that the mode makes of the units' naive codes, one for each
abbrev pub AreCodesIn : Mode → Machine → List StackUnit → List PlainUnit → Type 0
AreCodesIn mode m us vs = AllZip (IsCodeIn mode m) (naive_codes us) vs

-- the output for a machine and units
pub record IsOutputOf (mode : Mode) (m : Machine) (us : List StackUnit) (out : List ℕ) : Type 0 where
  -- each instruction of the naive codes fits an entry
  pub fits : All (AllFit m) (naive_codes us)
  -- the codes that the mode makes are assembled: each instruction fits, and the machine has a register for each value
  pub made : List PlainUnit
  pub codes : AreCodesIn mode m us made
  pub fit : All (AllFit m) made
  pub room : All (HasRoom m) made
  pub assembly : List ℕ
  pub assembled : AreAssembled m made assembly
  -- behind the assembly there is nothing in `naive` and `slow`, and in `opt` the rules of all pairs that the passes
  -- try
  pub rules : List ℕ
  pub are_rules : AreRulesIn mode m (naive_codes us) rules
  pub text : out ≡ assembly ++ rules
  -- the placed code of each unit runs as its naive code
  pub runs : AllZip (RunsAsNaive m) (naive_codes us) made

-- the output for a text
abbrev pub IsOutput : Mode → List ℕ → List ℕ → Type 0
IsOutput mode text out = (m : Machine) × (us : List StackUnit) × IsInput text m us × IsOutputOf mode m us out

-- any two outputs of a text in a mode are the same
abbrev pub TextsHaveOneOutput : Type 0
TextsHaveOneOutput = (mode : Mode) (text out other : List ℕ) → IsOutput mode text out → IsOutput mode text other
    → out ≡ other

-- in every mode: the instruction `index` of the block `block` of the naive code of the unit n is the first that no
-- entry fits
abbrev pub HasUnfit : List ℕ → ℕ → ℕ → ℕ → Type 0
HasUnfit text n block index = (m : Machine) × (us : List StackUnit) × IsInput text m us
    × FirstBad (AllFit m) (λ u. IsUnrecognised u.code m block index) (naive_codes us) n

-- each instruction of the naive codes fits; of the codes that the mode makes the unit n is the first with a crowded
-- point, and this is its first one
pub record IsCrowdOf (mode : Mode) (m : Machine) (us : List StackUnit) (n point needed : ℕ) : Type 0 where
  pub fits : All (AllFit m) (naive_codes us)
  pub made : List PlainUnit
  pub codes : AreCodesIn mode m us made
  pub crowded : FirstBad (HasRoom m) (IsShort m point needed) made n

abbrev pub HasCrowd : Mode → List ℕ → ℕ → ℕ → ℕ → Type 0
HasCrowd mode text n point needed = (m : Machine) × (us : List StackUnit) × IsInput text m us
    × IsCrowdOf mode m us n point needed

-- no point is crowded of the codes that the mode makes of the units; by `ModesMakeOneCode` it makes no others
abbrev pub HaveRoom : Mode → Machine → List StackUnit → Type 0
HaveRoom mode m us = (made : List PlainUnit) × AreCodesIn mode m us made × All (HasRoom m) made
