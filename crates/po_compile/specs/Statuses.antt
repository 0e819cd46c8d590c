-- What each status of the top call says of the source, the sink and the text.
use Rattle.std.specs.Prelude.{ℕ, ◌-◌, ◌^◌, ◌≤◌, ◌<◌, ◌≡◌, List, [], length, take, All, Option, Some, Result, Ok, Err}
use Rattle.std.specs.Prelude.{IfSome, ⊤}
use mathlib.Core.Logic.{◌⊎◌}
use Rattle.po_text.specs.Causes.{Rose, before_known, after_known}
use Rattle.po_text.specs.Place.{place_behind}
use Rattle.po_text.specs.declared.fault.Kind.TheVariants.{TooMany}
use Rattle.po_lines.specs.Faults.{text_fault}
use Rattle.po_ir.specs.declared.unit.Unit.{Unit as StackUnit}
use Rattle.po_model.specs.declared.machine.Machine.{Machine}
use Rattle.po_compile.specs.declared.compiled.Compiled.{Compiled}
use Rattle.po_compile.specs.declared.status.Status.{Status}
use Rattle.po_compile.specs.declared.status.Status.TheVariants as status
use Rattle.po_compile.specs.declared.refusal.Refusal.{Refusal}
use Rattle.po_compile.specs.declared.refusal.Refusal.TheVariants as refusal
use Rattle.po_compile.specs.Input.{input_in, IsInput}
use Rattle.po_compile.specs.declared.mode.Mode.{Mode}
use Rattle.po_compile.specs.Output.{IsOutput, HasUnfit, HasCrowd, HaveRoom, AllFit, naive_codes}

-- why a text has no output in a mode
abbrev pub HasCause : Mode → List ℕ → Refusal → Type 0
HasCause mode text (refusal.BadText line col kind) = input_in text ≡ Err (text_fault line col kind)
HasCause mode text (refusal.Unrecognised unit block index) = HasUnfit text unit block index
HasCause mode text (refusal.TooFew unit point needed) = HasCrowd mode text unit point needed
HasCause mode text refusal.OutOfMemory = ⊤

-- what compiling a text in a mode gives
abbrev pub Compiles : {T : Type 0} → Mode → List ℕ → Result (Compiled T) Refusal → Type 0
Compiles mode text (Ok c) = IsOutput mode text c.out.items
Compiles mode text (Err r) = HasCause mode text r

-- the status of a refusal
abbrev pub status_for : Refusal → Status
status_for (refusal.BadText line col kind) = status.BadText line col kind
status_for (refusal.Unrecognised unit block index) = status.Unrecognised unit block index
status_for (refusal.TooFew unit point needed) = status.TooFew unit point needed
status_for refusal.OutOfMemory = status.OutOfMemory

-- the source gave this text and has no more, and the text isn't longer than an input may be
pub record ReadsWhole (old new : Option (List ℕ)) (text : List ℕ) : Type 0 where
  pub given : old ≡ before_known text new
  pub ended : IfSome new (λ rest. rest ≡ [])
  pub fits : length text ≤ 4194304

-- the text was read to its end, and the sink took exactly its output
abbrev pub OnDone : Mode → Status → Option (List ℕ) → Option (List ℕ) → Option (List ℕ) → Option (List ℕ) → Type 0
OnDone mode status.Done old new kept_old kept_new = (text : List ℕ) × (out : List ℕ)
    × ReadsWhole old new text × IsOutput mode text out × (kept_new ≡ after_known kept_old out)
OnDone mode s old new kept_old kept_new = ⊤

-- the first fault of the text, or the first byte past the limit of an input
abbrev pub OnBadText : Status → Option (List ℕ) → Option (List ℕ) → Type 0
OnBadText (status.BadText line col kind) old new =
    ((text : List ℕ) × ReadsWhole old new text × (input_in text ≡ Err (text_fault line col kind)))
    ⊎ ((text : List ℕ) × (kind ≡ TooMany) × (4194304 < length text) × (old ≡ before_known text new)
    × ((line, col) ≡ place_behind (take 4194304 text)))
OnBadText s old new = ⊤

-- the first naive instruction that no entry fits
abbrev pub OnUnrecognised : Status → Option (List ℕ) → Option (List ℕ) → Type 0
OnUnrecognised (status.Unrecognised unit block index) old new = (text : List ℕ) × ReadsWhole old new text
    × HasUnfit text unit block index
OnUnrecognised s old new = ⊤

-- every naive instruction is recognised, and this is the first crowded point of the first unit that has one
abbrev pub OnTooFew : Mode → Status → Option (List ℕ) → Option (List ℕ) → Type 0
OnTooFew mode (status.TooFew unit point needed) old new = (text : List ℕ) × ReadsWhole old new text
    × HasCrowd mode text unit point needed
OnTooFew mode s old new = ⊤

-- the sink failed, and took so many bytes of the output
abbrev pub OnWriteFault : Mode → Status
    → Option (List ℕ) → Option (List ℕ) → ℕ → ℕ → Option (List ℕ) → Option (List ℕ) → Type 0
OnWriteFault mode (status.WriteFault written) old new before now kept_old kept_new =
    ((text : List ℕ) × (out : List ℕ) × ReadsWhole old new text × IsOutput mode text out
    × (written ≤ length out) × (kept_new ≡ after_known kept_old (take written out)))
    × (before ≤ now) × Rose before now
OnWriteFault mode s old new before now kept_old kept_new = ⊤

-- the source failed
abbrev pub OnReadFault : Status → ℕ → ℕ → Type 0
OnReadFault status.ReadFault before now = (before ≤ now) × Rose before now
OnReadFault s before now = now ≡ before

-- after every answer but these two the sink has what it had, and hasn't failed
abbrev pub WritesNothing : Status → ℕ → ℕ → Option (List ℕ) → Option (List ℕ) → Type 0
WritesNothing status.Done before now kept_old kept_new = now ≡ before
WritesNothing (status.WriteFault written) before now kept_old kept_new = ⊤
WritesNothing s before now kept_old kept_new = (now ≡ before) × (kept_new ≡ kept_old)

abbrev pub IsDoneOrMemory : Status → Type 0
IsDoneOrMemory status.Done = ⊤
IsDoneOrMemory status.OutOfMemory = ⊤
IsDoneOrMemory s = ⊥

-- a text that has an output in the mode compiles, unless memory is wanted, where neither source nor sink failed
abbrev pub IsComplete : Mode → Status → Option (List ℕ) → ℕ → ℕ → ℕ → ℕ → Type 0
IsComplete mode s left before now before_written now_written =
    (text : List ℕ) (m : Machine) (us : List StackUnit)
    → left ≡ Some text → length text ≤ 4194304 → IsInput text m us
    → All (AllFit m) (naive_codes us) → HaveRoom mode m us
    → now ≡ before → before < 2 ^ 64 - 1 → now_written ≡ before_written → before_written < 2 ^ 64 - 1
    → IsDoneOrMemory s
