-- The last pass changes nothing, so what it was told of its code is told of the code that all passes make.
use Rattle.std.proofs.Common.{◌≡◌, ℕ, suc, Bool, true, false, List, [], ◌∷◌, map, reverse, refl, sym, ◌∙◌, ap, subst}
use Rattle.std.specs.Prelude.{if◌then◌else◌, Some}
use Rattle.std.proofs.lemmas.Bool.{true≢false}
use mathlib.Core.List.{reverse_aux}
use Rattle.po_model.specs.Blocks.{PlainBlock}
use Rattle.po_model.specs.Pairs.{PlainPair}
use Rattle.po_model.specs.Combined.{Kept, Gone, AsOne, Answer}
use Rattle.po_model.specs.Scanned.{Ahead, Stand, BlockAhead, InBlock, Scan, Within, Finished, ScanStep, Tried, Ended}
use Rattle.po_model.specs.Scanned.{is_dead, onward, ready, settled, instrs_ahead, blocks_ahead, enter, Tells}
use Rattle.po_model.specs.Scanned.{IsPassStart, passed_with, AfterPass, AfterBlock, after_try, Answers, Goes}
use Rattle.po_model.specs.Scanned.{IsScanned}
use Rattle.po_slow.proofs.Passes.{Told}
use Rattle.po_slow.proofs.Blockwise.{instrs_in, ahead_instrs}
use Rattle.po_term.specs.Moves.{PlainInstr}

-- Within a block

-- where nothing was changed, nothing had been changed, and the instructions are the same
abbrev Unchanged : List PlainInstr → List Ahead → Bool → Stand → Type 0
Unchanged done rest changed t =
    t.changed ≡ false → (changed ≡ false) × (reverse_aux t.done (instrs_in t.rest) ≡ reverse_aux done (instrs_in rest))

was_changed : (done ds : List PlainInstr) (rest xs : List Ahead) (changed : Bool) (t : Stand) → Unchanged ds xs true t
    → Unchanged done rest changed t
was_changed done ds rest xs changed t h e = absurd (true≢false (h e).0)

onward_unchanged : (done : List PlainInstr) (rest : List Ahead) (changed : Bool)
    → Unchanged done rest changed (onward done rest changed)
onward_unchanged done [] changed = λ e. (e, refl)
onward_unchanged [] (x ∷ xs) changed =
    go (is_dead x.live x.instr) (onward_unchanged [] xs true) (onward_unchanged (x.instr ∷ []) xs changed)
  where
    go : (c : Bool) → Unchanged [] xs true (onward [] xs true)
        → Unchanged (x.instr ∷ []) xs changed (onward (x.instr ∷ []) xs changed)
        → Unchanged [] (x ∷ xs) changed (if c then onward [] xs true else onward (x.instr ∷ []) xs changed)
    go true f g = was_changed [] [] (x ∷ xs) xs changed (onward [] xs true) f
    go false f g = g
onward_unchanged (d ∷ ds) (x ∷ xs) changed = go (is_dead x.live x.instr) (onward_unchanged (d ∷ ds) xs true)
  where
    go : (c : Bool) → Unchanged (d ∷ ds) xs true (onward (d ∷ ds) xs true)
        → Unchanged (d ∷ ds) (x ∷ xs) changed
        (if c then onward (d ∷ ds) xs true else record { done = d ∷ ds; rest = x ∷ xs; changed = changed })
    go true f = was_changed (d ∷ ds) (d ∷ ds) (x ∷ xs) xs changed (onward (d ∷ ds) xs true) f
    go false f = λ e. (e, refl)

settled_unchanged : (o : Answer) (done : List PlainInstr) (rest : List Ahead) (changed : Bool) (p : PlainPair)
    → ready done rest ≡ Some p → Unchanged done rest changed (settled o done rest changed)
settled_unchanged o [] rest changed p e = absurd (cc)
settled_unchanged o (d ∷ ds) [] changed p e = absurd (cc)
settled_unchanged Kept (d ∷ ds) (x ∷ xs) changed p e = onward_unchanged (x.instr ∷ d ∷ ds) xs changed
settled_unchanged Gone (d ∷ ds) (x ∷ xs) changed p e =
    was_changed (d ∷ ds) ds (x ∷ xs) xs changed (onward ds xs true) (onward_unchanged ds xs true)
settled_unchanged (AsOne y) (d ∷ ds) (x ∷ xs) changed p e =
    let next : List Ahead = record { instr = y; live = x.live } ∷ xs in
    was_changed (d ∷ ds) ds (x ∷ xs) next changed (onward ds next true) (onward_unchanged ds next true)

-- From block to block

abbrev plain_ahead : BlockAhead → PlainBlock
plain_ahead b = record { label = b.label; instrs = instrs_in b.instrs }

blocks_are : (live : Told) (n : ℕ) (bs : List PlainBlock) → map plain_ahead (blocks_ahead live n bs) ≡ bs
blocks_are live n [] = refl
blocks_are live n (b ∷ bs) = rw (ahead_instrs (live n) 0 b.instrs, blocks_are live (suc n) bs) refl

-- the block that is scanned, as it stands, and the whole code
abbrev here : InBlock → PlainBlock
here s = record { label = s.label; instrs = reverse_aux s.stand.done (instrs_in s.stand.rest) }

abbrev whole : InBlock → List PlainBlock
whole s = reverse_aux s.passed (here s ∷ map plain_ahead s.coming)

-- the code that the pass began with is told, and it is the whole as long as nothing was changed
record InPass (s : InBlock) : Type 0 where
  code : List PlainBlock
  live : Told
  tells : Tells code live
  same : s.stand.changed ≡ false → whole s ≡ code

abbrev IsTold : Scan → Type 0
IsTold (Within s) = InPass s
IsTold (Finished code) = (live : Told) × Tells code live

-- into a block that comes
entered : (code : List PlainBlock) (live : Told) → Tells code live
    → (passed : List PlainBlock) (b : BlockAhead) (bs : List BlockAhead) (changed : Bool)
    → (changed ≡ false → reverse_aux passed (plain_ahead b ∷ map plain_ahead bs) ≡ code)
    → IsTold (enter passed (b ∷ bs) changed)
entered code live tells passed b bs changed same = record {
  code = code;
  live = live;
  tells = tells;
  same =
      λ e. let u = onward_unchanged [] b.instrs changed e in
      ap (λ is. reverse_aux passed (record { label = b.label; instrs = is } ∷ map plain_ahead bs)) u.1 ∙ same u.0;
}

started : (code : List PlainBlock) (s : Scan) → IsPassStart code s → IsTold s
started [] s (live, tells, e) = subst (λ (s : Scan). IsTold s) (sym e) (live, tells)
started (b ∷ bs) s (live, tells, e) =
    subst (λ (s : Scan). IsTold s) (sym e)
    (entered (b ∷ bs) live tells [] (record { label = b.label; instrs = instrs_ahead (live 0) 0 b.instrs })
    (blocks_ahead live 1 bs) false (λ f. blocks_are live 0 (b ∷ bs)))

-- the whole at the end of a block
at_end : (s : InBlock) (h : InPass s) → s.stand.rest ≡ [] → s.stand.changed ≡ false
    → reverse_aux (passed_with s) (map plain_ahead s.coming) ≡ h.code
at_end s h e f =
    ap (λ (rest : List Ahead). reverse_aux s.passed
    (record { label = s.label; instrs = reverse_aux s.stand.done (instrs_in rest) } ∷ map plain_ahead s.coming))
    (sym e) ∙ h.same f

ended : (s : InBlock) (t : Scan) → InPass s → s.stand.rest ≡ [] → AfterBlock s.coming s t → IsTold t
ended s t h e after = go s.coming refl after
  where
    over : (changed : Bool) → s.stand.changed ≡ changed → s.coming ≡ [] → AfterPass changed (reverse (passed_with s)) t
        → IsTold t
    over true i c a = started (reverse (passed_with s)) t a
    over false i c a =
        let same : reverse (passed_with s) ≡ h.code =
        ap (λ (bs : List BlockAhead). reverse_aux (passed_with s) (map plain_ahead bs)) (sym c) ∙ at_end s h e i in
        subst (λ (s : Scan). IsTold s) (sym a) (h.live, rw same h.tells)

    go : (bs : List BlockAhead) → s.coming ≡ bs → AfterBlock bs s t → IsTold t
    go [] c a = over s.stand.changed refl c a
    go (b ∷ bs) c a =
        subst (λ (s : Scan). IsTold s) (sym a)
        (entered h.code h.live h.tells (passed_with s) b bs s.stand.changed
        (λ f.
        ap (λ (bs : List BlockAhead). reverse_aux (passed_with s) (map plain_ahead bs)) (sym c) ∙ at_end s h e f))

module _ (answer : Answers) where
  tried_on : (s : InBlock) (p : PlainPair) → ready s.stand.done s.stand.rest ≡ Some p → InPass s
      → IsTold (after_try (answer p) (Within s))
  tried_on s p e h = record {
    code = h.code;
    live = h.live;
    tells = h.tells;
    same = λ f.
        let u = settled_unchanged (answer p) s.stand.done s.stand.rest s.stand.changed p e f in
        ap (λ is. reverse_aux s.passed (record { label = s.label; instrs = is } ∷ map plain_ahead s.coming)) u.1
        ∙ h.same u.0;
  }

  stepped : (s : Scan) (steps : List ScanStep) (t : Scan) → IsTold s → Goes answer s steps t → IsTold t
  stepped s [] t h g = subst (λ (s : Scan). IsTold s) (sym g) h
  stepped (Within s) (Tried p ∷ steps) t h g =
      stepped (after_try (answer p) (Within s)) steps t (tried_on s p g.0 h) g.1
  stepped (Finished code) (Tried p ∷ steps) t h g = absurd (cc)
  stepped (Within s) (Ended ∷ steps) t h (u, a, g) = stepped u steps t (ended s u h a.0 a.1) g
  stepped (Finished code) (Ended ∷ steps) t h (u, a, g) = absurd a

  -- of the code that all passes make it is told what is live
  pub told_at_last : (code scanned : List PlainBlock) (pairs : List PlainPair) → IsScanned answer code pairs scanned
      → (live : Told) × Tells scanned live
  told_at_last code scanned pairs (steps, (start, first, goes), e) =
      stepped start steps (Finished scanned) (started code start first) goes
