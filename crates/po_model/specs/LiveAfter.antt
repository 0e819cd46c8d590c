-- What is live after an instruction: a register or cc that some path from there reads before it sets it. fp is live
-- everywhere.
use Rattle.std.specs.Prelude.{ℕ, suc, ◌≡◌, nat_lt, Bool, true, false, ◌||◌, List, [], ◌∷◌, drop}
use Rattle.std.specs.List.{list_any}
use mathlib.Core.Logic.{◌⊎◌}
use Rattle.po_term.specs.declared.term.Reg.{Reg as Register}
use Rattle.po_term.specs.declared.term.Reg.TheVariants.{Virt, Fp, Rv, Arg}
use Rattle.po_term.specs.Tree.{Tree, Const, Leaf, Read, Unary, Binary}
use Rattle.po_term.specs.Terms.{Place, InReg, AtSym}
use Rattle.po_term.specs.Moves.{GoTo, IfCc, IfTwo, CallOf, Return, SetTo, CcTo, StoreTo, Ends, PlainMove, PlainInstr}
use Rattle.po_term.specs.Simplified.{reg_eq}
use Rattle.po_model.specs.declared.var.Var.{Var}
use Rattle.po_model.specs.declared.var.Var.TheVariants.{Reg, Cc}
use Rattle.po_model.specs.Blocks.{PlainBlock, instrs_at, leads}

abbrev pub is_reg : Register → Var → Bool
is_reg r (Reg q) = reg_eq r q
is_reg r Cc = false

abbrev pub is_cc : Var → Bool
is_cc (Reg q) = false
is_cc Cc = true

-- one of arg0 to arg(n-1)
abbrev pub is_arg_of : ℕ → Var → Bool
is_arg_of n (Reg (Virt k)) = false
is_arg_of n (Reg Fp) = false
is_arg_of n (Reg Rv) = false
is_arg_of n (Reg (Arg k)) = nat_lt k n
is_arg_of n Cc = false

-- the registers of a term
abbrev pub term_reads : Tree ℕ Place → Var → Bool
term_reads (Const c) v = false
term_reads (Leaf (InReg r)) v = is_reg r v
term_reads (Leaf (AtSym s)) v = false
term_reads (Read t) v = term_reads t v
term_reads (Unary o t) v = term_reads t v
term_reads (Binary o t u) v = term_reads t v || term_reads u v

-- a call reads its arguments and fp, and a return rv and fp
abbrev pub move_reads : PlainMove → Var → Bool
move_reads (SetTo r t) v = term_reads t v
move_reads (CcTo t u) v = term_reads t v || term_reads u v
move_reads (StoreTo t u) v = term_reads t v || term_reads u v
move_reads (Ends (GoTo l)) v = false
move_reads (Ends (IfCc r l)) v = is_cc v
move_reads (Ends (IfTwo t u r l)) v = term_reads t v || term_reads u v
move_reads (Ends (CallOf s n)) v = is_arg_of n v || is_reg Fp v
move_reads (Ends Return) v = is_reg Rv v || is_reg Fp v

-- a call sets rv and empties cc
abbrev pub move_sets : PlainMove → Var → Bool
move_sets (SetTo r t) v = is_reg r v
move_sets (CcTo t u) v = is_cc v
move_sets (StoreTo t u) v = false
move_sets (Ends (GoTo l)) v = false
move_sets (Ends (IfCc r l)) v = false
move_sets (Ends (IfTwo t u r l)) v = false
move_sets (Ends (CallOf s n)) v = is_reg Rv v || is_cc v
move_sets (Ends Return) v = false

abbrev pub reads : PlainInstr → Var → Bool
reads x v = list_any (λ m. move_reads m v) x

abbrev pub sets : PlainInstr → Var → Bool
sets x v = list_any (λ m. move_sets m v) x

-- a place: a block, and what of it is still to come
pub record Point : Type 0 where
  pub block : ℕ
  pub rest : List PlainInstr

-- the instruction at a place reads v, sets v; at the end of a block there is none
abbrev pub reads_at : List PlainInstr → Var → Bool
reads_at [] v = false
reads_at (x ∷ xs) v = reads x v

abbrev pub sets_at : List PlainInstr → Var → Bool
sets_at [] v = false
sets_at (x ∷ xs) v = sets x v

module _ (code : List PlainBlock) where
  -- from the block b with xs still to come, the place q may be next
  abbrev pub Follows : ℕ → List PlainInstr → Point → Type 0
  Follows b [] q = (leads code b q.block ≡ true) × (q.rest ≡ instrs_at code q.block)
  Follows b (x ∷ xs) q = (q.block ≡ b) × (q.rest ≡ xs)

  -- the path from p through the places qs ends at one that reads v, with none before that sets it
  abbrev pub ReadOn : Var → Point → List Point → Type 0
  ReadOn v p [] = reads_at p.rest v ≡ true
  ReadOn v p (q ∷ qs) = (sets_at p.rest v ≡ false) × Follows p.block p.rest q × ReadOn v q qs

  abbrev pub IsRead : Var → Point → Type 0
  IsRead v p = (path : List Point) × ReadOn v p path

  abbrev pub IsLive : Var → Point → Type 0
  IsLive v p = (v ≡ Reg Fp) ⊎ IsRead v p

  -- v is live after the instruction i of the block b
  abbrev pub LiveAfter : ℕ → ℕ → Var → Type 0
  LiveAfter b i v = IsLive v (record { block = b; rest = drop (suc i) (instrs_at code b) })

  -- v is live at the start of the block b
  abbrev pub IsLiveAt : ℕ → Var → Type 0
  IsLiveAt b v = IsLive v (record { block = b; rest = instrs_at code b })
