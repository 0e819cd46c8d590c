-- What the mode `gen` writes: a line on made units.
use Rattle.std.specs.Prelude.{ℕ, ◌≡◌, ◌≤◌, ◌<◌, ◌-◌, ◌^◌, List, length, take, Option, Ok, ⊤}
use Rattle.po_text.specs.declared.fault.Spot.{Spot}
use Rattle.po_text.specs.Causes.{Rose, after_known}
use Rattle.po_model.specs.declared.machine.Machine.{Machine}
use Rattle.po_mdread.specs.Reading.{machine_in}
use Rattle.po_mdread.specs.declared.tiny.TheConstants.{TINY}
use Rattle.po_gen.specs.Summary.{IsSummary}
use Rattle.po_words.specs.declared.request.Request.{Request}
use Rattle.po_words.specs.declared.request.Request.TheVariants.{Naive, Slow, Opt, Gen}
use Rattle.po_compile.specs.Statuses.{IsDoneOrMemory}
use Rattle.po_compile.specs.declared.status.Status.{Status}
use Rattle.po_compile.specs.declared.status.Status.TheVariants as status

-- the line on so many sample units of a seed, on the machine that a text begins with
abbrev pub IsLineOn : List ℕ → ℕ → ℕ → List ℕ → Type 0
IsLineOn text seed units line = (m : Machine) × (behind : Spot) × (machine_in text ≡ Ok (m, behind))
    × IsSummary m seed units line

-- the line on so many sample units of a seed, on the machine `tiny`
abbrev pub IsLineOf : ℕ → ℕ → List ℕ → Type 0
IsLineOf = IsLineOn TINY.now

-- the sink took the line, or failed when it had taken so many bytes of it, or memory was refused
abbrev pub Ends : ℕ → ℕ → Status → ℕ → ℕ → Option (List ℕ) → Option (List ℕ) → Type 0
Ends seed units status.Done before now kept_old kept_new = (line : List ℕ) × IsLineOf seed units line
    × (kept_new ≡ after_known kept_old line)
Ends seed units (status.WriteFault written) before now kept_old kept_new =
    ((line : List ℕ) × IsLineOf seed units line × (written ≤ length line)
    × (kept_new ≡ after_known kept_old (take written line)))
    × (before ≤ now) × Rose before now
Ends seed units status.OutOfMemory before now kept_old kept_new = ⊤
Ends seed units s before now kept_old kept_new = ⊥

-- for made units nothing is read, and a line on them is written
abbrev pub OnSampled : Request → Status → Option (List ℕ) → Option (List ℕ) → ℕ → ℕ → Option (List ℕ) → Option (List ℕ)
    → Type 0
OnSampled (Gen seed units) s left_old left_new before now kept_old kept_new = (left_new ≡ left_old)
    × Ends seed units s before now kept_old kept_new
OnSampled r s left_old left_new before now kept_old kept_new = ⊤

-- the line is written, unless memory is wanted, where the sink didn't fail
abbrev pub IsSampledWhole : Request → Status → ℕ → ℕ → Type 0
IsSampledWhole (Gen seed units) s before now = now ≡ before → before < 2 ^ 64 - 1 → IsDoneOrMemory s
IsSampledWhole r s before now = ⊤
