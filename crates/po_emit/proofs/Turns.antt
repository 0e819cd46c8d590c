-- A turn of the loops that write lines.
use Rattle.std.proofs.Common.{◌≡◌, ℕ, ◌+◌, ◌<◌, Bool, List, ◌++◌, length, drop, get_or, map, suc, ap, sym, ◌∙◌}
use Rattle.std.proofs.Common.{append_assoc, add-one}
use Rattle.po_term.specs.declared.transfer.Transfer.{Transfer}
use Rattle.po_term.specs.declared.transfer.Instr.{Instr}
use Rattle.po_term.specs.Moves.{moves_of, instr_of, instrs_of}
use Rattle.po_model.specs.declared.machine.Machine.{Machine}
use Rattle.po_model.specs.declared.code.Block.{Block}
use Rattle.po_model.specs.Blocks.{block_of}
use Rattle.po_model.specs.Fit.{fit}
use Rattle.po_model.specs.UnitCodes.{PlainUnit}
use Rattle.po_model.specs.Assembly.{label_line, line_of, lines_from, blocks_from}
use Rattle.po_emit.proofs.Lists.{next_of}

module _ (m : Machine) (at : ℕ → ℕ) (u : PlainUnit) (live : ℕ → ℕ → Bool) where
  pub lines_turn : (b : ℕ) (xs : List Instr) (i : ℕ) (x : Instr) (ts : List Transfer) (cc_live : Bool)
      (out after whole : List ℕ) → i < length xs → x ≡ get_or xs i x → ts ≡ x.xs.items → cc_live ≡ live b i →
      after ≡ out ++ line_of m at u (fit m cc_live (moves_of ts))
      → out ++ lines_from m at u live b i (instrs_of (drop i xs)) ≡ whole →
      after ++ lines_from m at u live b (i + 1) (instrs_of (drop (i + 1) xs)) ≡ whole
  lines_turn b xs i x ts cc_live out after whole h e same alive pushed before =
      let line = line_of m at u (fit m (live b i) (instr_of x)) in
      let rest = lines_from m at u live b (i + 1) (instrs_of (drop (i + 1) xs)) in
      let parts : lines_from m at u live b i (instrs_of (drop i xs))
      ≡ line ++ lines_from m at u live b (suc i) (instrs_of (drop (i + 1) xs)) =
      ap (λ (ys : List Instr). lines_from m at u live b i (instrs_of ys)) (next_of xs i x h e) in
      let number : lines_from m at u live b (suc i) (instrs_of (drop (i + 1) xs)) ≡ rest =
      ap (λ k. lines_from m at u live b k (instrs_of (drop (i + 1) xs))) (sym (add-one i)) in
      let here : after ≡ out ++ line = rw (← same, ← alive) pushed in
      rw here (append_assoc out line rest
      ∙ ap (λ (t : List ℕ). out ++ t) (sym (parts ∙ ap (λ (t : List ℕ). line ++ t) number)) ∙ before)

  pub blocks_turn : (bs : List Block) (j : ℕ) (b : Block) (out after whole : List ℕ) → j < length bs
      → b ≡ get_or bs j b →
      after ≡ out ++ label_line u b.label ++ lines_from m at u live j 0 (instrs_of b.instrs.items)
      → out ++ blocks_from m at u live j (map block_of (drop j bs)) ≡ whole →
      after ++ blocks_from m at u live (j + 1) (map block_of (drop (j + 1) bs)) ≡ whole
  blocks_turn bs j b out after whole h e pushed before =
      let label = label_line u b.label in
      let lines = lines_from m at u live j 0 (instrs_of b.instrs.items) in
      let rest = blocks_from m at u live (j + 1) (map block_of (drop (j + 1) bs)) in
      let parts : blocks_from m at u live j (map block_of (drop j bs))
      ≡ label ++ lines ++ blocks_from m at u live (suc j) (map block_of (drop (j + 1) bs)) =
      ap (λ (ys : List Block). blocks_from m at u live j (map block_of ys)) (next_of bs j b h e) in
      let number : blocks_from m at u live (suc j) (map block_of (drop (j + 1) bs)) ≡ rest =
      ap (λ k. blocks_from m at u live k (map block_of (drop (j + 1) bs))) (sym (add-one j)) in
      let all : out ++ label ++ lines ++ rest ≡ out ++ (label ++ lines ++ rest) =
      append_assoc (out ++ label) lines rest ∙ append_assoc out label (lines ++ rest)
      ∙ ap (λ (t : List ℕ). out ++ t) (sym (append_assoc label lines rest)) in
      rw pushed (all ∙ ap (λ (t : List ℕ). out ++ t) (sym (parts ∙ ap (λ (t : List ℕ). label ++ lines ++ t) number))
      ∙ before)
