-- What each block of a straight code gives to its placed run: what is live behind an instruction has a place that the
-- instruction doesn't write.
use Rattle.std.proofs.Common.{◌≡◌, ℕ, zero, suc, ◌+◌, ◌*◌, true, List, [], ◌∷◌, ◌++◌, length, refl, sym, ◌∙◌, ap}
use Rattle.std.proofs.Common.{subst, arith, ◌⊎◌, inl, inr, append_assoc}
use Rattle.std.specs.Prelude.{◌≢◌, All, AllPairs, Contains}
use Rattle.std.proofs.lemmas.Bool.{cases_eq}
use Rattle.std.proofs.lemmas.List.{length_push}
use Rattle.std.proofs.lemmas.List.Folds.{list_any-append}
use Rattle.std.proofs.lemmas.List.Elements.{Contains-append_left, Contains-append_right, Contains-append_cases}
use Rattle.std.proofs.lemmas.Grind.{flat_map-append}
use Rattle.po_term.specs.declared.term.Reg.TheVariants.{Virt}
use Rattle.po_model.specs.declared.machine.Machine.{Machine}
use Rattle.po_model.specs.declared.var.Var.TheVariants.{Reg}
use Rattle.po_model.specs.Blocks.{PlainBlock, instrs_at}
use Rattle.po_model.specs.LiveAfter.{reads}
use Rattle.po_model.specs.Placed.{placed_at}
use Rattle.po_model.specs.Placement.{intervals, IsUncrowded}
use Rattle.po_model.specs.UnitCodes.{written, all_written, flat}
use Rattle.po_assign.proofs.Boundary.{any_reads, or_left}
use Rattle.po_assign.proofs.MachineRegisters.{HasInterval, held_interval, written_interval, machines_apart}
use Rattle.po_assign.proofs.PlacedSteps.{PlacesApart}
use Rattle.po_term.specs.Moves.{PlainInstr}

-- the instructions of a block stand in the code, with those of the blocks before and behind it around them
flat_around : (code : List PlainBlock) (b : ℕ) → (before : List PlainInstr) × (after : List PlainInstr)
    × (flat code ≡ before ++ (instrs_at code b ++ after))
flat_around [] b = ([], [], refl)
flat_around (x ∷ xs) zero = ([], flat xs, refl)
flat_around (x ∷ xs) (suc b) =
    let rest = flat_around xs b in (
      x.instrs ++ rest.0,
      rest.1,
      ap (λ (is : List PlainInstr). x.instrs ++ is) rest.2
          ∙ sym (append_assoc x.instrs rest.0 (instrs_at xs b ++ rest.1)),
    )

-- a fact of each block's instructions
pub each_block : (P : List PlainInstr → Type 0) → P [] → (code : List PlainBlock)
    → All (λ (x : PlainBlock). P x.instrs) code → (b : ℕ) → P (instrs_at code b)
each_block P none [] h b = none
each_block P none (x ∷ xs) h zero = h 0 x (omega arith)
each_block P none (x ∷ xs) h (suc b) = each_block P none xs (λ k d l. h (suc k) d (omega arith)) b

-- what is written before an instruction, or by it
written_push : (before : List PlainInstr) (x : PlainInstr) (v : ℕ) → Contains (all_written before) v
    ⊎ Contains (written x) v → Contains (all_written (before ++ x ∷ [])) v
written_push before x v h =
    subst (λ (vs : List ℕ). Contains vs v) (sym (flat_map-append written before (x ∷ [])))
    (elim h [
      | inl c ↦ Contains-append_left (all_written before) (written x ++ []) v c
      | inr c ↦ Contains-append_right (all_written before) (written x ++ []) v
          (Contains-append_left (written x) [] v c)
    ])

module _ (m : Machine) (code : List PlainBlock) (un : IsUncrowded (length m.regs) (intervals (flat code)))
    (once : AllPairs (λ v w. v ≢ w) (all_written (flat code))) where
  -- an instruction of the code, with those before and behind it
  here_apart : (before : List PlainInstr) (x : PlainInstr) (behind : List PlainInstr) → flat code ≡ before
      ++ x ∷ behind → (v w : ℕ)
      → Contains (all_written (before ++ x ∷ [])) v → any_reads behind v ≡ true → Contains (written x) w
      → placed_at m code v ≡ placed_at m code w → v ≡ w
  here_apart before x behind e v w c r d same =
      let point = 2 * (0 + length before) + 1 in
      let whole : flat code ≡ (before ++ x ∷ []) ++ behind = e ∙ sym (append_assoc before (x ∷ []) behind) in
      let number : point + 1 ≡ 2 * (0 + length (before ++ x ∷ [])) = omega (arith, length_push before x) in
      let of_v : HasInterval (intervals (flat code)) v point = subst (λ is. HasInterval (intervals is) v point)
      (sym whole) (held_interval 0 (before ++ x ∷ []) behind v point c r number) in
      let of_w : HasInterval (intervals (flat code)) w point = subst (λ is. HasInterval (intervals is) w point)
      (sym e) (written_interval 0 before x behind w point d refl) in
      elim (cases_eq v w) [
        | inl f ↦ f
        | inr n ↦ absurd (machines_apart (length m.regs) (flat code) un once v w point of_v of_w n same)
      ]

  -- the rest of a block, with the instructions of the code before and behind it
  apart_from : (before : List PlainInstr) (set : List ℕ) (xs after : List PlainInstr) → flat code ≡ before
      ++ (xs ++ after) → ((v : ℕ) → Contains set v → Contains (all_written before) v)
      → PlacesApart m (placed_at m code) code set xs
  apart_from before set [] after e h = tt
  apart_from before set (x ∷ xs) after e h =
      let push : (v : ℕ) → Contains (set ++ written x) v → Contains (all_written (before ++ x ∷ [])) v = λ v c.
      written_push before x v (elim (Contains-append_cases set (written x) v c) [
        | inl s ↦ inl (h v s)
        | inr s ↦ inr s
      ]) in (
        λ v c r w d same. here_apart before x (xs ++ after) e v w (push v c)
            (list_any-append (λ y. reads y (Reg (Virt v))) xs after ∙ or_left (any_reads xs v) (any_reads after v) r)
            d same,
        apart_from (before ++ x ∷ []) (set ++ written x) xs after
            (e ∙ sym (append_assoc before (x ∷ []) (xs ++ after))) push,
      )

  pub places_apart : (b : ℕ) → PlacesApart m (placed_at m code) code [] (instrs_at code b)
  places_apart b = let around = flat_around code b in apart_from around.0 [] (instrs_at code b) around.1 around.2
      (λ v c. absurd (omega (arith, c.1)))
