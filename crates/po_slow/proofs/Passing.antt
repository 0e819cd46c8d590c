-- From the end of a block to the next one, to the next pass, or to the finish.
use Rattle.std.proofs.Common.{◌≡◌, ℕ, suc, ◌+◌, ◌<◌, Bool, true, false, List, [], ◌∷◌, ◌++◌, length, map, reverse}
use Rattle.std.proofs.Common.{take, drop, All, refl, sym, ◌∙◌, ap, subst, arith, add-one}
use Rattle.std.proofs.lemmas.List.{append-nil, reverse-reverse, reverse-append, take-append-drop, take_all, drop_all}
use Rattle.std.proofs.lemmas.List.{length-drop}
use Rattle.std.proofs.lemmas.List.Elements.{All-nil, All-cons, All-head, All-tail, All-append, All-take, All-drop}
use Rattle.std.proofs.lemmas.List.Elements.{All-same}
use Rattle.po_live.specs.declared.parts.LiveList.{LiveList}
use Rattle.po_model.specs.Blocks.{PlainBlock}
use Rattle.po_model.specs.Scanned.{InBlock, Scan, Within, Finished, instrs_ahead, blocks_ahead, enter, IsPassStart}
use Rattle.po_model.specs.Scanned.{AfterPass, AfterBlock, IsAtEnd, AfterEnd, passed_with}
use Rattle.po_slow.specs.declared.block.Standing.{Standing}
use Rattle.po_live.specs.Parts.{tells}
use Rattle.po_slow.specs.States.{stand_at, place_in, scan_by, enter_at, IsFormedList, IsFormedScan, IsCut}
use Rattle.po_slow.proofs.Keeping.{all_reverse, ahead_instrs, formed_code, formed_blocks, formed_enter, formed_ahead}
use Rattle.po_slow.proofs.Places.{BlockAt, block_at, at_end_next}
use Rattle.po_model.specs.UnitCodes.{IsFormedCode}

abbrev IsFormedOne : PlainBlock → Type 0
IsFormedOne x = IsFormedList x.instrs

module _ (code : List PlainBlock) (lives : LiveList) (b : ℕ) (at : Standing) (c : IsCut code b at) where
  at_block : BlockAt code b
  at_block = block_at code b c.block

  -- where the scan stands in the block that is cut
  abbrev here : InBlock
  here =
      record {
        label = at_block.block.label;
        stand = stand_at at_block.block.instrs (tells lives b) at.done at.next at.changed;
        passed = reverse (take b code);
        coming = blocks_ahead (tells lives) (suc b) (drop (suc b) code);
      }

  is_here : scan_by code lives b at ≡ Within here
  is_here = ap (place_in (tells lives) b at.done at.next at.changed (reverse (take b code))) at_block.dropped

  -- all of the block is done
  all_done : take at.done at_block.block.instrs ≡ at_block.block.instrs
  all_done = take_all at.done at_block.block.instrs (omega (arith, c.done, ap length at_block.instrs))

  at_end : IsAtEnd (Within here)
  at_end = subst IsAtEnd is_here (at_end_next code lives b at c.block (omega (arith, c.done, c.next)))

  passed_are : passed_with here ≡ reverse (take (suc b) code)
  passed_are =
      let instrs : reverse (reverse (take at.done at_block.block.instrs)) ≡ at_block.block.instrs =
      reverse-reverse (take at.done at_block.block.instrs) ∙ all_done in
      ap (λ is. record { label = at_block.block.label; instrs = is } ∷ reverse (take b code)) instrs
      ∙ sym (ap reverse at_block.taken ∙ reverse-append (take b code) (at_block.block ∷ []))

  passed_in_order : reverse (passed_with here) ≡ take (suc b) code
  passed_in_order = ap reverse passed_are ∙ reverse-reverse (take (suc b) code)

  -- into the next block, or to the finish after a pass that changed nothing
  pub after_next : (t : Scan) → (at.changed ≡ true → b + 1 < length code) → t ≡ enter_at code lives (b + 1) at.changed
      → AfterEnd (scan_by code lives b at) t
  after_next t same e = subst (λ s. AfterEnd s t) (sym is_here) (at_end, go (drop (suc b) code) refl at.changed refl)
    where
      entered : t ≡ enter (passed_with here) (blocks_ahead (tells lives) (suc b) (drop (suc b) code)) at.changed
      entered =
          e
          ∙ (ap (λ n. enter_at code lives n at.changed) (add-one b)
          ∙ ap (λ p. enter p (blocks_ahead (tells lives) (suc b) (drop (suc b) code)) at.changed) (sym passed_are))

      go : (l : List PlainBlock) → drop (suc b) code ≡ l → (changed : Bool) → at.changed ≡ changed
          → AfterBlock (blocks_ahead (tells lives) (suc b) (drop (suc b) code)) here t
      go [] d true h = absurd (omega (arith, same h, length-drop (suc b) code, ap length d))
      go [] d false h =
          let finish : t ≡ Finished (reverse (passed_with here)) =
          entered ∙ ap (λ l. enter (passed_with here) (blocks_ahead (tells lives) (suc b) l) at.changed) d in
          subst (λ l. AfterBlock (blocks_ahead (tells lives) (suc b) l) here t) (sym d)
          (subst (λ v. AfterPass v (reverse (passed_with here)) t) (sym h) finish)
      go (x ∷ xs) d changed h =
          subst (λ l. AfterBlock (blocks_ahead (tells lives) (suc b) l) here t) (sym d)
          (entered ∙ ap (λ l. enter (passed_with here) (blocks_ahead (tells lives) (suc b) l) at.changed) d)

  -- into the first block, in one pass more
  pub after_last : (t : Scan) → b + 1 ≡ length code → at.changed ≡ true → IsPassStart code t
      → AfterEnd (scan_by code lives b at) t
  after_last t last changed start =
      let d : drop (suc b) code ≡ [] = drop_all (suc b) code (omega arith) in
      let whole : reverse (passed_with here) ≡ code = passed_in_order ∙ take_all (suc b) code (omega arith) in
      let pass : AfterPass true (reverse (passed_with here)) t = subst (λ l. IsPassStart l t) (sym whole) start in
      subst (λ s. AfterEnd s t) (sym is_here) (
        at_end,
        subst (λ l. AfterBlock (blocks_ahead (tells lives) (suc b) l) here t) (sym d)
            (subst (λ v. AfterPass v (reverse (passed_with here)) t) (sym changed) pass),
      )

  -- the code is well formed
  pub formed_cut : IsFormedScan (scan_by code lives b at) → IsFormedCode code
  formed_cut f =
      formed_code code (All-same IsFormedOne code (take b code ++ drop b code) (sym (take-append-drop b code))
      (All-append IsFormedOne (take b code) (drop b code) before
      (All-same IsFormedOne (drop b code) (at_block.block ∷ drop (suc b) code) at_block.dropped
      (All-cons IsFormedOne at_block.block (drop (suc b) code) one
      (unahead (suc b) (drop (suc b) code) g.coming)))))
    where
      g : IsFormedScan (Within here)
      g = subst IsFormedScan is_here f

      before : All IsFormedOne (take b code)
      before =
          All-same IsFormedOne (take b code) (reverse (reverse (take b code))) (sym (reverse-reverse (take b code)))
          (all_reverse IsFormedOne (reverse (take b code)) [] g.passed (All-nil IsFormedOne))

      one : IsFormedList at_block.block.instrs
      one =
          let d : drop at.next at_block.block.instrs ≡ [] =
          drop_all at.next at_block.block.instrs (omega (arith, c.done, c.next, ap length at_block.instrs)) in
          let rest = ap
          (λ l. reverse (reverse (take at.done at_block.block.instrs))
          ++ map (λ x. x.instr) (instrs_ahead (tells lives b) at.next l)) d in
          subst IsFormedList
          (rest
          ∙ (append-nil (reverse (reverse (take at.done at_block.block.instrs)))
          ∙ (reverse-reverse (take at.done at_block.block.instrs) ∙ all_done))) g.here

      unahead : (n : ℕ) (xs : List PlainBlock)
          → All (λ b. IsFormedList (map (λ x. x.instr) b.instrs)) (blocks_ahead (tells lives) n xs)
          → All IsFormedOne xs
      unahead n [] h = All-nil IsFormedOne
      unahead n (x ∷ xs) h =
          let first = All-head (λ b. IsFormedList (map (λ x. x.instr) b.instrs))
          (record { label = x.label; instrs = instrs_ahead (tells lives n) 0 x.instrs })
          (blocks_ahead (tells lives) (suc n) xs) h in
          All-cons IsFormedOne x xs (subst IsFormedList (ahead_instrs (tells lives n) 0 x.instrs) first)
          (unahead (suc n) xs (All-tail (λ b. IsFormedList (map (λ x. x.instr) b.instrs))
          (record { label = x.label; instrs = instrs_ahead (tells lives n) 0 x.instrs })
          (blocks_ahead (tells lives) (suc n) xs) h))

-- into a block of a code that is well formed
pub formed_enter_at : (code : List PlainBlock) (lives : LiveList) (b : ℕ) (changed : Bool) → IsFormedCode code
    → IsFormedScan (enter_at code lives b changed)
formed_enter_at code lives b changed h =
    let P : PlainBlock → Type 0 = λ x. IsFormedList x.instrs in
    let all = formed_blocks code h in
    formed_enter (reverse (take b code)) (blocks_ahead (tells lives) b (drop b code)) changed
    (all_reverse P (take b code) [] (All-take P b code all) (All-nil P))
    (formed_ahead (tells lives) b (drop b code) (All-drop P b code all))
