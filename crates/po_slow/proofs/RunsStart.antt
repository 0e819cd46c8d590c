-- What is live at the start of a block of a straight code: fixed registers alone. Runs that begin together.
use Rattle.std.proofs.Common.{◌≡◌, ℕ, zero, suc, ◌≤◌, true, List, [], ◌∷◌, ◌++◌, refl, sym, ◌∙◌, subst, arith}
use Rattle.std.specs.Prelude.{◌||◌, nat_lt, All, Contains}
use Rattle.std.proofs.lemmas.Bool.{false≢true, true≢false, ltb-true}
use Rattle.std.proofs.lemmas.List.Elements.{All-nil, All-head, All-tail, Contains-append_cases}
use mathlib.Core.Logic.{◌⊎◌, inl, inr}
use Rattle.po_term.specs.declared.term.Reg.{Reg as Register}
use Rattle.po_term.specs.declared.term.Reg.TheVariants.{Virt, Fp, Rv, Arg}
use Rattle.po_term.specs.Tree.{Tree, Const, Leaf, Read, Unary, Binary, EachLeaf}
use Rattle.po_term.specs.Terms.{Place, InReg, AtSym, State, IsState}
use Rattle.po_term.specs.Moves.{GoTo, IfCc, IfTwo, CallOf, Return, SetTo, CcTo, StoreTo, Ends, PlainMove, PlainInstr}
use Rattle.po_term.specs.Simplified.{reg_eq}
use Rattle.po_model.specs.declared.var.Var.TheVariants.{Reg}
use Rattle.po_model.specs.Blocks.{PlainBlock, instrs_at}
use Rattle.po_model.specs.LiveAfter.{is_reg, term_reads, move_reads, reads, move_sets, sets, Point, ReadOn}
use Rattle.po_model.specs.Run.{Reply, IsReply, Before, starts, LiveWhere, AlikeAtStart}
use Rattle.po_model.specs.UnitCodes.{written, ReadsBehind, IsStraight, IsFormedCode}
use Rattle.po_subst.proofs.Agreeing.{one_register, reg_self}
use Rattle.po_subst.proofs.Reading.{by_either, left_true, right_true}
use Rattle.po_slow.proofs.RunsRead.{agree_self}
use Rattle.po_slow.proofs.RunsLeave.{Together}
use Rattle.po_slow.proofs.Blockwise.{each_block}
use Rattle.po_term.specs.Form.{IsRegister, IsFixed, IsPlace, WellFormedTerm, WellFormedMove, WellFormed}

-- a list with one more in front
contains_split : (v : ℕ) (ws : List ℕ) (k : ℕ) → Contains (v ∷ ws) k → (v ≡ k) ⊎ Contains ws k
contains_split v ws k (zero, l, e) = inl e
contains_split v ws k (suc i, l, e) = inr (i, omega (arith, l), e)

contains_none : (k : ℕ) → Contains [] k → ⊥
contains_none k (i, l, e) = absurd (omega (arith, l))

-- a virtual register that an instruction writes, it sets
written_sets : (ms : PlainInstr) (k : ℕ) → Contains (written ms) k → sets ms (Reg (Virt k)) ≡ true
written_sets [] k c = absurd (contains_none k c)
written_sets (SetTo (Virt v) t ∷ ms) k c = go (contains_split v (written ms) k c) (written_sets ms k)
  where
    go : (v ≡ k) ⊎ Contains (written ms) k → (Contains (written ms) k → sets ms (Reg (Virt k)) ≡ true)
        → (reg_eq (Virt v) (Virt k) || sets ms (Reg (Virt k))) ≡ true
    go (inl e) ih = left_true (reg_eq (Virt v) (Virt k)) (sets ms (Reg (Virt k))) (rw e (reg_self (Virt k)))
    go (inr d) ih = right_true (reg_eq (Virt v) (Virt k)) (sets ms (Reg (Virt k))) (ih d)
written_sets (SetTo Fp t ∷ ms) k c = written_sets ms k c
written_sets (SetTo Rv t ∷ ms) k c = written_sets ms k c
written_sets (SetTo (Arg n) t ∷ ms) k c = written_sets ms k c
written_sets (CcTo t u ∷ ms) k c = written_sets ms k c
written_sets (StoreTo t u ∷ ms) k c = written_sets ms k c
written_sets (Ends e ∷ ms) k c =
    right_true (move_sets (Ends e) (Reg (Virt k))) (sets ms (Reg (Virt k))) (written_sets ms k c)

module _ (code : List PlainBlock) (straight : IsStraight code) (k : ℕ) where
  behind_at : (b : ℕ) → ReadsBehind [] (instrs_at code b)
  behind_at b = each_block (ReadsBehind []) tt code b straight.behind

  -- on a path from a place where k isn't set yet, a setter of k stands before each reader
  never_read : (path : List Point) (b : ℕ) (xs : List PlainInstr) (set : List ℕ) → ReadsBehind set xs
      → (Contains set k → ⊥) → ReadOn code (Reg (Virt k)) (record { block = b; rest = xs }) path → ⊥
  never_read [] b [] set r n h = false≢true h
  never_read [] b (x ∷ xs) set r n h = n (r.0 k h)
  never_read (q ∷ qs) b [] set r n h =
      never_read qs q.block q.rest []
      (subst (λ (ys : List PlainInstr). ReadsBehind [] ys) (sym h.1.1) (behind_at q.block)) (contains_none k) h.2
  never_read (q ∷ qs) b (x ∷ xs) set r n h =
      never_read qs q.block q.rest (set ++ written x)
      (subst (λ (ys : List PlainInstr). ReadsBehind (set ++ written x) ys) (sym h.1.1) r.1)
      (λ c. go (Contains-append_cases set (written x) k c)) h.2
    where
      go : Contains set k ⊎ Contains (written x) k → ⊥
      go (inl c) = n c
      go (inr c) = true≢false (sym (written_sets x k c) ∙ h.0)

  virtual_dead : (b : ℕ) → LiveWhere code (Before b) (Reg (Virt k)) → ⊥
  virtual_dead b (inl e) = (cc)
  virtual_dead b (inr r) = never_read r.0 b (instrs_at code b) [] (behind_at b) (contains_none k) r.1

-- What well-formed instructions read of the arguments is among the four

module _ (k : ℕ) where
  term_arg : (t : Tree ℕ Place) → EachLeaf IsPlace t → term_reads t (Reg (Arg k)) ≡ true → k ≤ 3
  term_arg (Const c) h e = absurd (false≢true e)
  term_arg (Leaf (InReg r)) h e = subst IsRegister (one_register r (Arg k) e) h
  term_arg (Leaf (AtSym s)) h e = absurd (false≢true e)
  term_arg (Read t) h e = term_arg t h e
  term_arg (Unary o t) h e = term_arg t h e
  term_arg (Binary o t u) h e =
      by_either (term_reads t (Reg (Arg k))) (term_reads u (Reg (Arg k))) e (λ i. term_arg t h.0 i)
      (λ i. term_arg u h.1 i)

  two_arg : (t u : Tree ℕ Place) → WellFormedTerm t → WellFormedTerm u
      → (term_reads t (Reg (Arg k)) || term_reads u (Reg (Arg k))) ≡ true → k ≤ 3
  two_arg t u h i e =
      by_either (term_reads t (Reg (Arg k))) (term_reads u (Reg (Arg k))) e (λ j. term_arg t h.places j)
      (λ j. term_arg u i.places j)

  below_four : (n : ℕ) → n ≤ 4 → nat_lt k n ≡ true → k ≤ 3
  below_four n h e = let l = ltb-true k n e in omega arith

  move_arg : (m : PlainMove) → WellFormedMove m → move_reads m (Reg (Arg k)) ≡ true → k ≤ 3
  move_arg (SetTo r t) h e = term_arg t h.2.places e
  move_arg (CcTo t u) h e = two_arg t u h.0 h.1 e
  move_arg (StoreTo t u) h e = two_arg t u h.0 h.1 e
  move_arg (Ends (GoTo l)) h e = absurd (false≢true e)
  move_arg (Ends (IfCc r l)) h e = absurd (false≢true e)
  move_arg (Ends (IfTwo t u r l)) h e = two_arg t u h.0 h.1 e
  move_arg (Ends (CallOf s n)) h e =
      by_either (nat_lt k n) (is_reg Fp (Reg (Arg k))) e (λ i. below_four n h.1 i) (λ i. absurd (false≢true i))
  move_arg (Ends Return) h e = absurd (false≢true e)

  instr_arg : (ms : PlainInstr) → All WellFormedMove ms → reads ms (Reg (Arg k)) ≡ true → k ≤ 3
  instr_arg [] h e = absurd (false≢true e)
  instr_arg (m ∷ ms) h e =
      by_either (move_reads m (Reg (Arg k))) (reads ms (Reg (Arg k))) e
      (λ i. move_arg m (All-head WellFormedMove m ms h) i) (λ i. instr_arg ms (All-tail WellFormedMove m ms h) i)

  module _ (code : List PlainBlock) (formed : IsFormedCode code) where
    formed_at : (b : ℕ) → All WellFormed (instrs_at code b)
    formed_at b = each_block (λ xs. All WellFormed xs) (All-nil WellFormed) code b formed.formed

    read_arg : (path : List Point) (b : ℕ) (xs : List PlainInstr) → All WellFormed xs
        → ReadOn code (Reg (Arg k)) (record { block = b; rest = xs }) path → k ≤ 3
    read_arg [] b [] f h = absurd (false≢true h)
    read_arg [] b (x ∷ xs) f h = instr_arg x (All-head WellFormed x xs f).each h
    read_arg (q ∷ qs) b [] f h =
        read_arg qs q.block q.rest
        (subst (λ (ys : List PlainInstr). All WellFormed ys) (sym h.1.1) (formed_at q.block)) h.2
    read_arg (q ∷ qs) b (x ∷ xs) f h =
        read_arg qs q.block q.rest
        (subst (λ (ys : List PlainInstr). All WellFormed ys) (sym h.1.1) (All-tail WellFormed x xs f)) h.2

    live_arg : (b : ℕ) → LiveWhere code (Before b) (Reg (Arg k)) → k ≤ 3
    live_arg b (inl e) = absurd (cc)
    live_arg b (inr r) = read_arg r.0 b (instrs_at code b) (formed_at b) r.1

-- at the start of a block of a straight code only fixed registers are live
pub live_fixed : (code : List PlainBlock) → IsStraight code → IsFormedCode code → (b : ℕ) (r : Register)
    → LiveWhere code (Before b) (Reg r) → IsFixed r
live_fixed code straight formed b (Virt k) l = virtual_dead code straight k b l
live_fixed code straight formed b Fp l = tt
live_fixed code straight formed b Rv l = tt
live_fixed code straight formed b (Arg k) l = live_arg k code formed b l

-- Runs that begin together

-- from one state
pub start_together : (code : List PlainBlock) (s : State) (replies : List Reply) → IsState s → All IsReply replies
    → Together code (starts s replies) (starts s replies)
start_together code s replies fits h = record {
  stop = refl;
  calls = refl;
  replies = refl;
  words = h;
  agree = agree_self (LiveWhere code (Before 0)) s fits;
}

-- from two that agree on what is live at the start of the code
pub starts_together : (code : List PlainBlock) (s t : State) (replies : List Reply) → AlikeAtStart code (λ r. r) s t
    → All IsReply replies
    → Together code (starts s replies) (starts t replies)
starts_together code s t replies a h = record {
  stop = refl;
  calls = refl;
  replies = refl;
  words = h;
  agree = record {
    first = a.first;
    second = a.second;
    memory = a.same.memory;
    symbols = a.same.symbols;
    registers = a.same.places;
    compared = a.same.compared;
  };
}
