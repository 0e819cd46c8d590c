-- The list of an entry's transfers, and what each decides behind those before it.
use Rattle.std.specs.Prelude.{ℕ, ◌==◌, ◌&&◌, Bool, true, false, not, nat_lt, List, [], ◌∷◌, ◌++◌, length, codes, zero}
use Rattle.std.specs.Prelude.{suc, if◌then◌else◌, Result, Ok, Err, Option, Some, None, ⊤}
use Rattle.std.specs.List.{list_all, list_any}
use Rattle.po_text.specs.declared.fault.Kind.TheVariants as kind
use Rattle.po_term.specs.declared.term.Reg.TheVariants.{Fp}
use Rattle.po_term.specs.Simplified.{reg_eq}
use Rattle.po_lines.specs.declared.fault.LineFault.{LineFault}
use Rattle.po_lines.specs.Faults.{◌>>=◌, fault}
use Rattle.po_model.specs.declared.machine.PatReg.{PatReg}
use Rattle.po_model.specs.declared.machine.PatReg.TheVariants.{Any, Fixed}
use Rattle.po_model.specs.declared.machine.PatTransfer.{PatTransfer}
use Rattle.po_model.specs.declared.machine.PatTransfer.TheVariants as transfer
use Rattle.po_pattern.specs.declared.operands.Operands.{Operands}
use Rattle.po_pattern.specs.Rests.{Rest, Read}
use Rattle.po_entry.specs.Words.{says, behind_word, keyword}
use Rattle.po_entry.specs.Transfers.{transfer_in}

-- the kinds in their order: sets, cc, store, control
abbrev pub order_of : PatTransfer → ℕ
order_of (transfer.Set r t) = 0
order_of (transfer.Cc t u) = 1
order_of (transfer.Store t u) = 2
order_of (transfer.Goto k) = 3
order_of (transfer.If c r k) = 3
order_of (transfer.Call k) = 3
order_of transfer.Ret = 3

abbrev pub same_register : PatReg → PatReg → Bool
same_register (Any k) (Any l) = k == l
same_register (Fixed r) (Fixed s) = reg_eq r s
same_register _ _ = false

-- the transfer sets this register
abbrev pub sets : PatReg → PatTransfer → Bool
sets r (transfer.Set q t) = same_register q r
sets r _ = false

-- the transfer m may stand before n, somewhere in the list
abbrev pub goes_before : PatTransfer → PatTransfer → Bool
goes_before (transfer.Set r t) n = not (sets r n)
goes_before m n = nat_lt (order_of m) (order_of n)

-- the transfer may stand behind these: it isn't the fifth, it doesn't set `fp`, and each of them may stand before it
unfoldable pub may_follow : List PatTransfer → PatTransfer → Bool
may_follow before m = nat_lt (length before) 4 && not (sets (Fixed Fp) m) && list_all (λ n. goes_before n m) before

-- these transfers and one more, which was read at this column: first its terms are looked at, then the list
abbrev pub decided : ℕ → List PatTransfer → Option PatTransfer → Result (List PatTransfer) LineFault
decided column before None = Err (fault column kind.TooMany)
decided column before (Some m) = if may_follow before m then Ok (before ++ m ∷ [])
    else Err (fault column kind.ListForm)

-- these transfers, and the one that stands here
unfoldable pub with_next : List PatTransfer → Rest → Operands → Result (Read (List PatTransfer)) LineFault
with_next before r seen = do
  m ← transfer_in r seen
  ms ← decided r.column before m.value
  Ok (record { value = ms; rest = m.rest; seen = m.seen })

-- these transfers, the one that stands here, and at most so many more, each behind a `;`
unfoldable pub transfers : ℕ → List PatTransfer → Rest → Operands → Result (Read (List PatTransfer)) LineFault
transfers zero before r seen = with_next before r seen
transfers (suc more) before r seen = do
  ms ← with_next before r seen
  if says (codes ";") ms.rest then transfers more ms.value (behind_word ms.rest) ms.seen else Ok ms

-- the transfer sets cc
abbrev pub sets_cc : PatTransfer → Bool
sets_cc (transfer.Cc t u) = true
sets_cc _ = false

-- `clobber cc` behind these transfers, at this column
abbrev pub clobber_may_stand : ℕ → List PatTransfer → Result ⊤ LineFault
clobber_may_stand column pattern = if list_any sets_cc pattern then Err (fault column kind.NeverMatches) else Ok tt

-- whether `clobber cc` stands here, behind these transfers
unfoldable pub clobber_in : List PatTransfer → Rest → Operands → Result (Read Bool) LineFault
clobber_in pattern r seen = if says (codes "clobber") r then (do
  allowed ← clobber_may_stand r.column pattern
  cc ← keyword (codes "cc") (behind_word r)
  Ok (record { value = true; rest = cc; seen = seen }))
    else Ok (record { value = false; rest = r; seen = seen })
