-- What the refusals of a unit say.
use Rattle.std.proofs.Common.{◌≡◌, ◌<◌, ℕ, List, length, take, Option, Err, subst}
use Rattle.po_text.specs.Causes.{before_known}
use Rattle.po_text.specs.Place.{place_behind}
use Rattle.po_text.specs.Source.{OnTooLong}
use Rattle.po_text.specs.declared.fault.ReadRefusal.{ReadRefusal}
use Rattle.po_text.specs.declared.fault.ReadRefusal.TheVariants as read
use Rattle.po_expand.specs.declared.refusal.CheckRefusal.{CheckRefusal}
use Rattle.po_expand.specs.declared.refusal.CheckRefusal.TheVariants as check
use Rattle.po_expand.specs.Checks.{Checks}
use Rattle.po_assign.specs.declared.answer.AssignRefusal.{AssignRefusal}
use Rattle.po_assign.specs.declared.answer.AssignRefusal.TheVariants as assign
use Rattle.po_assign.specs.Refusals.{Refuses}
use Rattle.po_model.specs.declared.machine.Machine.{Machine}
use Rattle.po_model.specs.UnitCodes.{PlainUnit, flat}
use Rattle.po_model.specs.Placement.{intervals}
use Rattle.po_model.specs.Fitted.{IsUnrecognised}
use Rattle.po_compile.specs.Output.{IsShort}

pub unrecognised : (m : Machine) (u : PlainUnit) (r : CheckRefusal) (b i : ℕ) → r ≡ check.Unrecognised b i
    → Checks m u.code (Err r) → IsUnrecognised u.code m b i
unrecognised m u r b i e h = subst (λ (r : CheckRefusal). Checks m u.code (Err r)) e h

pub crowded : (m : Machine) (u : PlainUnit) (r : AssignRefusal) (point needed : ℕ) → r ≡ assign.TooFew point needed
    → Refuses (length m.regs) (intervals (flat u.code)) r → IsShort m point needed u
crowded m u r point needed e h = subst (λ (r : AssignRefusal). Refuses (length m.regs) (intervals (flat u.code)) r) e h

pub too_long : (T : Type 0) (r : ReadRefusal) (limit line col : ℕ) (old new : Option (List ℕ))
    → r ≡ read.TooLong line col → OnTooLong {T = T} (Err r) limit old new
    → (bytes : List ℕ) × (limit < length bytes) × (old ≡ before_known bytes new)
    × ((line, col) ≡ place_behind (take limit bytes))
too_long T r limit line col old new e h = subst (λ (r : ReadRefusal). OnTooLong {T = T} (Err r) limit old new) e h
