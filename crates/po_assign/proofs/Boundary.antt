-- In straight code a virtual register is live only behind the instruction that sets it, in its own block: none is
-- live at a block's start.
use Rattle.std.proofs.Common.{◌≡◌, ℕ, zero, suc, Bool, true, false, List, [], ◌∷◌, ◌++◌, refl, sym, ◌∙◌, subst, arith}
use Rattle.std.proofs.Common.{eq-eqb, inl, inr}
use Rattle.std.specs.Prelude.{◌==◌, ◌||◌, Contains}
use Rattle.std.specs.List.{list_any}
use Rattle.std.proofs.lemmas.Bool.{false≢true, true≢false}
use Rattle.std.proofs.lemmas.List.Elements.{Contains-append_cases}
use Rattle.po_term.specs.declared.term.Reg.TheVariants.{Virt, Fp, Rv, Arg}
use Rattle.po_term.specs.Moves.{SetTo, CcTo, StoreTo, Ends, PlainInstr}
use Rattle.po_model.specs.declared.var.Var.TheVariants.{Reg}
use Rattle.po_model.specs.Blocks.{PlainBlock, instrs_at}
use Rattle.po_model.specs.LiveAfter.{Point, reads, sets, move_sets, ReadOn, IsLive}
use Rattle.po_model.specs.UnitCodes.{written, ReadsBehind}

-- one of these instructions reads the virtual register v
abbrev pub any_reads : List PlainInstr → ℕ → Bool
any_reads xs v = list_any (λ x. reads x (Reg (Virt v))) xs

pub or_left : (a b : Bool) → a ≡ true → (a || b) ≡ true
or_left a b e = rw e refl

pub or_right : (a b : Bool) → b ≡ true → (a || b) ≡ true
or_right true b e = refl
or_right false b e = e

-- what is written is set
written_sets : (x : PlainInstr) (v : ℕ) → Contains (written x) v → sets x (Reg (Virt v)) ≡ true
written_sets [] v h = absurd (omega (arith, h.1))
written_sets (SetTo (Virt w) t ∷ ms) v (zero, l, e) = or_left (w == v) (sets ms (Reg (Virt v))) (eq-eqb w v e)
written_sets (SetTo (Virt w) t ∷ ms) v (suc k, l, e) = or_right (w == v) (sets ms (Reg (Virt v)))
    (written_sets ms v (k, omega arith, e))
written_sets (SetTo Fp t ∷ ms) v h = written_sets ms v h
written_sets (SetTo Rv t ∷ ms) v h = written_sets ms v h
written_sets (SetTo (Arg k) t ∷ ms) v h = written_sets ms v h
written_sets (CcTo t u ∷ ms) v h = written_sets ms v h
written_sets (StoreTo t u ∷ ms) v h = written_sets ms v h
written_sets (Ends e ∷ ms) v h = or_right (move_sets (Ends e) (Reg (Virt v))) (sets ms (Reg (Virt v)))
    (written_sets ms v h)

module _ (code : List PlainBlock) where
  -- in each block, the instructions behind an instruction read what it and those before it set
  abbrev pub AreBehind : Type 0
  AreBehind = (b : ℕ) → ReadsBehind [] (instrs_at code b)

  -- a virtual register that is live before the rest of a block is set before, and read there
  abbrev pub IsHeld : List ℕ → List PlainInstr → ℕ → Type 0
  IsHeld set xs v = Contains set v × (any_reads xs v ≡ true)

  none_set : (v : ℕ) → Contains [] v → ⊥
  none_set v h = absurd (omega (arith, h.1))

  -- along a path: where a block ends, its successor would read what isn't set in it
  read_on_held : AreBehind → (v : ℕ) (path : List Point) (b : ℕ) (set : List ℕ) (xs : List PlainInstr)
      → ReadsBehind set xs
      → ReadOn code (Reg (Virt v)) (record { block = b; rest = xs }) path → IsHeld set xs v
  read_on_held behind v [] b set [] h r = absurd (false≢true r)
  read_on_held behind v [] b set (x ∷ xs) h r = (h.0 v r, or_left (reads x (Reg (Virt v))) (any_reads xs v) r)
  read_on_held behind v (q ∷ path) b set [] h r =
      absurd (none_set v (read_on_held behind v path q.block [] q.rest (subst (λ ys. ReadsBehind [] ys) (sym r.1.1)
      (behind q.block)) r.2).0)
  read_on_held behind v (q ∷ path) b set (x ∷ xs) h r =
      let later = read_on_held behind v path q.block (set ++ written x) q.rest
      (subst (λ ys. ReadsBehind (set ++ written x) ys) (sym r.1.1) h.1) r.2 in (
        elim (Contains-append_cases set (written x) v later.0) [
          | inl c ↦ c
          | inr c ↦ absurd (true≢false (sym (written_sets x v c) ∙ r.0))
        ],
        or_right (reads x (Reg (Virt v))) (any_reads xs v) (subst (λ ys. any_reads ys v ≡ true) r.1.1 later.1),
      )

  pub live_held : AreBehind → (v b : ℕ) (set : List ℕ) (xs : List PlainInstr) → ReadsBehind set xs
      → IsLive code (Reg (Virt v)) (record { block = b; rest = xs }) → IsHeld set xs v
  live_held behind v b set xs h (inl e) = absurd (cc)
  live_held behind v b set xs h (inr r) = read_on_held behind v r.0 b set xs h r.1

  -- no virtual register is live at a block's start
  pub none_at_start : AreBehind → (v b : ℕ) → IsLive code (Reg (Virt v))
      (record { block = b; rest = instrs_at code b }) → ⊥
  none_at_start behind v b l = none_set v (live_held behind v b [] (instrs_at code b) (behind b) l).0
