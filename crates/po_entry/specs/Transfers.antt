-- The transfers of an entry. Where a term is beyond the limits, its transfer is none, though its form was read.
use Rattle.std.specs.Prelude.{ℕ, Bool, List, codes, if◌then◌else◌, Result, Ok, Option, Some, None}
use Rattle.std.specs.Option.{option_map}
use Rattle.po_word.specs.declared.operator.Rel.{Rel}
use Rattle.po_word.specs.declared.operator.Rel.TheVariants.{Eq, Ne, Lt, Le, Gt, Ge, Ltu, Geu}
use Rattle.po_lines.specs.declared.fault.LineFault.{LineFault}
use Rattle.po_lines.specs.Leaves.{same}
use Rattle.po_lines.specs.Faults.{◌>>=◌}
use Rattle.po_model.specs.declared.machine.PatReg.{PatReg}
use Rattle.po_model.specs.declared.machine.PatTerm.{PatTerm}
use Rattle.po_model.specs.declared.machine.PatCond.{PatCond}
use Rattle.po_model.specs.declared.machine.PatCond.TheVariants as cond
use Rattle.po_model.specs.declared.machine.PatTransfer.{PatTransfer}
use Rattle.po_model.specs.declared.machine.PatTransfer.TheVariants as transfer
use Rattle.po_pattern.specs.declared.operands.Operands.{Operands}
use Rattle.po_pattern.specs.Rests.{Rest, Read, wrong}
use Rattle.po_pattern.specs.Parts as parts
use Rattle.po_pattern.specs.Parts.{name_here}
use Rattle.po_pattern.specs.Terms as terms
use Rattle.po_entry.specs.declared.pair.Pair.{Pair}
use Rattle.po_entry.specs.Words.{word_here, says, behind_word, keyword, ended}

-- a whole register, term, address `M[t]`, label and symbol, each a word of its own

unfoldable pub register : Rest → Operands → Result (Read PatReg) LineFault
register r seen = do
  x ← parts.register r seen
  ended x

unfoldable pub term : Rest → Operands → Result (Read (Option PatTerm)) LineFault
term r seen = do
  x ← terms.term r seen
  ended x

unfoldable pub address : Rest → Operands → Result (Read (Option PatTerm)) LineFault
address r seen = do
  x ← terms.address r seen
  ended x

unfoldable pub label : Rest → Operands → Result (Read ℕ) LineFault
label r seen = do
  x ← parts.label r seen
  ended x

unfoldable pub symbol : Rest → Operands → Result (Read ℕ) LineFault
symbol r seen = do
  x ← parts.symbol r seen
  ended x

-- what was read, as something else
abbrev pub as_read : {S T : Type 0} → T → Read S → Read T
as_read value x = record { value = value; rest = x.rest; seen = x.seen }

-- two terms, where both are within the limits
abbrev pub pair_of : Option PatTerm → Option PatTerm → Option Pair
pair_of None right = None
pair_of (Some t) None = None
pair_of (Some t) (Some u) = Some (record { left = t; right = u })

-- `t ? u`
unfoldable pub compared : Rest → Operands → Result (Read (Option Pair)) LineFault
compared r seen = do
  t ← term r seen
  sign ← keyword (codes "?") t.rest
  u ← term sign t.seen
  Ok (as_read (pair_of t.value u.value) u)

-- `r := t`
unfoldable pub set_in : Rest → Operands → Result (Read (Option PatTransfer)) LineFault
set_in r seen = do
  to ← register r seen
  sign ← keyword (codes ":=") to.rest
  t ← term sign to.seen
  Ok (as_read (option_map (transfer.Set to.value) t.value) t)

-- `cc := t ? u`
unfoldable pub cc_in : Rest → Operands → Result (Read (Option PatTransfer)) LineFault
cc_in r seen = do
  cc ← keyword (codes "cc") r
  sign ← keyword (codes ":=") cc
  two ← compared sign seen
  Ok (as_read (option_map (λ p. transfer.Cc p.left p.right) two.value) two)

-- `M[t] := u`
unfoldable pub store_in : Rest → Operands → Result (Read (Option PatTransfer)) LineFault
store_in r seen = do
  t ← address r seen
  sign ← keyword (codes ":=") t.rest
  u ← term sign t.seen
  Ok (as_read (option_map (λ p. transfer.Store p.left p.right) (pair_of t.value u.value)) u)

-- `goto @k`
unfoldable pub goto_in : Rest → Operands → Result (Read ℕ) LineFault
goto_in r seen = do
  goto ← keyword (codes "goto") r
  label goto seen

-- the relation of this name
abbrev pub relation_of : List ℕ → Option Rel
relation_of name = if same name (codes "eq") then Some Eq
    else (if same name (codes "ne") then Some Ne
    else (if same name (codes "lt") then Some Lt
    else (if same name (codes "le") then Some Le
    else (if same name (codes "gt") then Some Gt
    else (if same name (codes "ge") then Some Ge
    else (if same name (codes "ltu") then Some Ltu
    else (if same name (codes "geu") then Some Geu
    else None)))))))

abbrev pub relation_with : Rest → Operands → Option Rel → Result (Read Rel) LineFault
relation_with r seen None = wrong r
relation_with r seen (Some rel) = Ok (record { value = rel; rest = behind_word r; seen = seen })

-- a relation
unfoldable pub relation : Rest → Operands → Result (Read Rel) LineFault
relation r seen = relation_with r seen (relation_of (word_here r))

-- `REL goto @k`, behind what is compared
unfoldable pub branch_in : Option PatCond → Rest → Operands → Result (Read (Option PatTransfer)) LineFault
branch_in compares r seen = do
  rel ← relation r seen
  k ← goto_in rel.rest rel.seen
  Ok (as_read (option_map (λ c. transfer.If c rel.value k.value) compares) k)

-- `if cc REL goto @k`, `if t ? u REL goto @k`
unfoldable pub if_in : Rest → Operands → Result (Read (Option PatTransfer)) LineFault
if_in r seen = do
  what ← keyword (codes "if") r
  if says (codes "cc") what
      then branch_in (Some cond.Cc) (behind_word what) seen
      else (do
        two ← compared what seen
        branch_in (option_map (λ p. cond.Two p.left p.right) two.value) two.rest two.seen)

-- `call &k`
unfoldable pub call_in : Rest → Operands → Result (Read ℕ) LineFault
call_in r seen = do
  call ← keyword (codes "call") r
  symbol call seen

-- an address `M[t]` begins here
abbrev pub begins_memory : Rest → Bool
begins_memory r = same (name_here r) (codes "M")

-- a transfer that sets something: cc, a word of memory, or a register
unfoldable pub setting_in : Rest → Operands → Result (Read (Option PatTransfer)) LineFault
setting_in r seen = if says (codes "cc") r then cc_in r seen
    else (if begins_memory r then store_in r seen
    else set_in r seen)

-- a transfer, by its first word
unfoldable pub transfer_in : Rest → Operands → Result (Read (Option PatTransfer)) LineFault
transfer_in r seen = if says (codes "goto") r then (do
  k ← goto_in r seen
  Ok (as_read (Some (transfer.Goto k.value)) k))
    else (if says (codes "call") r then (do
      k ← call_in r seen
      Ok (as_read (Some (transfer.Call k.value)) k))
    else (if says (codes "ret") r then Ok (record { value = Some transfer.Ret; rest = behind_word r; seen = seen })
    else (if says (codes "if") r then if_in r seen
    else setting_in r seen)))
