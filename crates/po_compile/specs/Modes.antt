-- What a mode makes of naive code.
use Rattle.std.specs.Prelude.{ℕ, ◌≡◌}
use Rattle.po_model.specs.declared.machine.Machine.{Machine}
use Rattle.po_model.specs.UnitCodes.{PlainUnit}
use Rattle.po_slow.specs.Passes.{IsSlowedUnit}
use Rattle.po_compile.specs.declared.mode.Mode.{Mode}
use Rattle.po_compile.specs.declared.mode.Mode.TheVariants.{Naive, Slow, Opt}
use Rattle.po_compile.specs.declared.mode.Alone.{Alone}
use Rattle.po_compile.specs.declared.mode.Alone.TheVariants as alone

-- the mode of what learns no rule
abbrev pub mode_alone : Alone → Mode
mode_alone alone.Naive = Naive
mode_alone alone.Slow = Slow

-- v is the code that the mode makes of the naive code u: in `naive` it stays, in `slow` and
-- `opt` all passes go over it
abbrev pub IsCodeIn : Mode → Machine → PlainUnit → PlainUnit → Type 0
IsCodeIn Naive m u v = v ≡ u
IsCodeIn Slow m u v = (tries : ℕ) × IsSlowedUnit m u v tries
IsCodeIn Opt m u v = (tries : ℕ) × IsSlowedUnit m u v tries

-- any two codes that a mode makes of a unit are the same
abbrev pub ModesMakeOneCode : Type 0
ModesMakeOneCode = (mode : Mode) (m : Machine) (u v w : PlainUnit) → IsCodeIn mode m u v → IsCodeIn mode m u w → v ≡ w
