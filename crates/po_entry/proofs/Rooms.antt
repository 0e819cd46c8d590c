-- How many transfers more may be read.
use Rattle.std.proofs.Common.{◌≡◌, ℕ, ◌-◌, ◌<◌, List, refl, suc, zero, arith, if◌then◌else◌, Result, Ok, codes}
use Rattle.po_lines.specs.declared.fault.LineFault.{LineFault}
use Rattle.po_lines.specs.Faults.{◌>>=◌}
use Rattle.po_model.specs.declared.machine.PatTransfer.{PatTransfer}
use Rattle.po_pattern.specs.declared.operands.Operands.{Operands}
use Rattle.po_pattern.specs.Rests.{Rest, Read}
use Rattle.po_entry.specs.Words.{says, behind_word}
use Rattle.po_entry.specs.ListRules.{transfers, with_next}

-- what is read behind these
abbrev pub going_on : ℕ → Read (List PatTransfer) → Result (Read (List PatTransfer)) LineFault
going_on more ms = if says (codes ";") ms.rest then transfers more ms.value (behind_word ms.rest) ms.seen else Ok ms

pub last_one : (more : ℕ) (before : List PatTransfer) (r : Rest) (seen : Operands) → more ≡ 0 → transfers more before
    r seen ≡ with_next before r seen
unfolding transfers
last_one zero before r seen e = refl
last_one (suc more) before r seen e = absurd (omega (arith, e))

pub one_more : (more : ℕ) (before : List PatTransfer) (r : Rest) (seen : Operands) → 0 < more → transfers more before
    r seen ≡ (with_next before r seen >>= going_on (more - 1))
unfolding transfers
one_more zero before r seen h = absurd (omega arith)
one_more (suc more) before r seen h = let e : suc more - 1 ≡ more = omega arith in rw e refl
