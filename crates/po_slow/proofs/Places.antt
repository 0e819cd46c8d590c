-- Where a scan stands in a code, by the number of the block.
use Rattle.std.proofs.Common.{◌≡◌, ℕ, zero, suc, ◌-◌, ◌<◌, ◌≤◌, Bool, List, [], ◌∷◌, ◌++◌, length, reverse, take, drop}
use Rattle.std.proofs.Common.{None, refl, sym, ◌∙◌, ap, subst, arith}
use Rattle.std.proofs.lemmas.List.{append-nil, reverse-reverse, take-append-drop, take-take, drop_all, length-take}
use Rattle.std.proofs.lemmas.List.{length-drop}
use Rattle.po_live.specs.declared.parts.LiveList.{LiveList}
use Rattle.po_model.specs.declared.var.Var.{Var}
use Rattle.po_model.specs.Blocks.{PlainBlock, instrs_at}
use Rattle.po_model.specs.Scanned.{InBlock, Scan, Within, Finished, instrs_ahead, blocks_ahead, ready, pair_ready}
use Rattle.po_model.specs.Scanned.{IsAtEnd}
use Rattle.po_slow.specs.declared.block.Standing.{Standing}
use Rattle.po_live.specs.Parts.{tells}
use Rattle.po_slow.specs.States.{stand_at, place_in, place_at, scan_by, cut, IsFinished, IsFormedScan, IsPlaced, IsCut}
use Rattle.po_term.specs.Moves.{PlainInstr}

-- at the finish all blocks are passed
pub finished_at : (code : List PlainBlock) (live : ℕ → ℕ → Var → Bool) (b done next : ℕ) (changed : Bool)
    → IsFinished (place_at code live b done next changed) → place_at code live b done next changed ≡ Finished code
finished_at code live b done next changed h = go (drop b code) (take-append-drop b code) h
  where
    go : (xs : List PlainBlock) → take b code ++ xs ≡ code
        → IsFinished (place_in live b done next changed (reverse (take b code)) xs)
        → place_in live b done next changed (reverse (take b code)) xs ≡ Finished code
    go [] e h = ap Finished (reverse-reverse (take b code) ∙ (sym (append-nil (take b code)) ∙ e))
    go (x ∷ xs) e h = absurd h

-- the b-th block of a code
pub record BlockAt (code : List PlainBlock) (b : ℕ) : Type 0 where
  pub block : PlainBlock
  pub dropped : drop b code ≡ block ∷ drop (suc b) code
  pub taken : take (suc b) code ≡ take b code ++ block ∷ []
  pub instrs : instrs_at code b ≡ block.instrs

pub block_at : (code : List PlainBlock) (b : ℕ) → b < length code → BlockAt code b
block_at [] b h = absurd (omega arith)
block_at (y ∷ ys) zero h = record { block = y; dropped = refl; taken = refl; instrs = refl }
block_at (y ∷ ys) (suc b) h =
    let r = block_at ys b (omega arith) in
    record { block = r.block; dropped = r.dropped; taken = ap (λ zs. y ∷ zs) r.taken; instrs = r.instrs }

pub ready_nil : (ds : List PlainInstr) → ready ds [] ≡ None
ready_nil [] = refl
ready_nil (d ∷ ds) = refl

module _ (code : List PlainBlock) (lives : LiveList) (b : ℕ) (at : Standing) (h : b < length code) where
  -- where it stands, before these blocks
  abbrev before : List PlainBlock → Scan
  before xs = place_in (tells lives) b at.done at.next at.changed (reverse (take b code)) xs

  -- no pair is ready where nothing is done
  pub none_done : at.done ≡ 0 → pair_ready (scan_by code lives b at) ≡ None
  none_done e =
      let r = block_at code b h in
      let xs = r.block.instrs in
      subst (λ l. pair_ready (before l) ≡ None) (sym r.dropped)
      (ap (λ n. ready (reverse (take n xs)) (instrs_ahead (tells lives b) at.next (drop at.next xs))) e)

  -- the block is at its end where nothing is to come, and so it is where nothing is done
  pub at_end_next : length (instrs_at code b) ≤ at.next → IsAtEnd (scan_by code lives b at)
  at_end_next e =
      let r = block_at code b h in
      let all : drop at.next r.block.instrs ≡ [] =
      drop_all at.next r.block.instrs (omega (arith, ap length r.instrs)) in
      subst (λ l. IsAtEnd (before l)) (sym r.dropped) (ap (λ l. instrs_ahead (tells lives b) at.next l) all)

  pub at_end_done : IsFormedScan (scan_by code lives b at) → at.done ≡ 0 → IsAtEnd (scan_by code lives b at)
  at_end_done f e =
      let r = block_at code b h in
      let here : IsFormedScan (before (r.block ∷ drop (suc b) code)) =
      subst (λ l. IsFormedScan (before l)) r.dropped f in
      subst (λ l. IsAtEnd (before l)) (sym r.dropped) (here.onward (ap (λ n. reverse (take n r.block.instrs)) e))

-- a scan at the end of a block

-- it is within a block
pub end_block : (code : List PlainBlock) (lives : LiveList) (b : ℕ) (at : Standing) → IsAtEnd (scan_by code lives b at)
    → b < length code
end_block code lives b at h = go (drop b code) (sym (length-drop b code)) h
  where
    go : (l : List PlainBlock) → length code - b ≡ length l
        → IsAtEnd (place_in (tells lives) b at.done at.next at.changed (reverse (take b code)) l) → b < length code
    go [] e h = absurd h
    go (x ∷ xs) e h = omega arith

-- nothing is to come
pub rest_at_end : (s : Scan) → IsAtEnd s → (t : InBlock) → s ≡ Within t → t.stand.rest ≡ []
rest_at_end (Within s) e t i = subst (λ u. u.stand.rest ≡ []) (within_same i) e
  where
    within_same : {s t : InBlock} → Within s ≡ Within t → s ≡ t
    within_same i = (cc)
rest_at_end (Finished code) e t i = absurd e

-- A block that is cut

pub cut_length : (code : List PlainBlock) (b n : ℕ) → length (cut code b n) ≡ length code
cut_length [] b n = refl
cut_length (x ∷ xs) zero n = refl
cut_length (x ∷ xs) (suc b) n = ap suc (cut_length xs b n)

take_nil : {A : Type 0} (n : ℕ) → take {A = A} n [] ≡ []
take_nil zero = refl
take_nil (suc n) = refl

cut_at : (code : List PlainBlock) (b n : ℕ) → instrs_at (cut code b n) b ≡ take n (instrs_at code b)
cut_at [] b n = sym (take_nil n)
cut_at (x ∷ xs) zero n = refl
cut_at (x ∷ xs) (suc b) n = cut_at xs b n

cut_fewer : (code : List PlainBlock) (b n c : ℕ) → length (instrs_at (cut code b n) c) ≤ length (instrs_at code c)
cut_fewer [] b n c = omega arith
cut_fewer (x ∷ xs) zero n zero = omega (arith, length-take n x.instrs)
cut_fewer (x ∷ xs) zero n (suc c) = omega arith
cut_fewer (x ∷ xs) (suc b) n zero = omega arith
cut_fewer (x ∷ xs) (suc b) n (suc c) = cut_fewer xs b n c

cut_take : (code : List PlainBlock) (b n : ℕ) → take b (cut code b n) ≡ take b code
cut_take [] b n = refl
cut_take (x ∷ xs) zero n = refl
cut_take (x ∷ xs) (suc b) n = ap (λ l. x ∷ l) (cut_take xs b n)

cut_drop : (code : List PlainBlock) (b n : ℕ) (x : PlainBlock) (xs : List PlainBlock) → drop b code ≡ x ∷ xs
    → drop b (cut code b n) ≡ record { label = x.label; instrs = take n x.instrs } ∷ xs
cut_drop [] zero n x xs e = absurd (cc)
cut_drop [] (suc b) n x xs e = absurd (cc)
cut_drop (y ∷ ys) zero n x xs e = ap cut_first e
  where
    cut_first : List PlainBlock → List PlainBlock
    cut_first [] = []
    cut_first (z ∷ zs) = record { label = z.label; instrs = take n z.instrs } ∷ zs
cut_drop (y ∷ ys) (suc b) n x xs e = cut_drop ys b n x xs e

cut_stand : (live : ℕ → Var → Bool) (xs : List PlainInstr) (done next : ℕ) (changed : Bool)
    → instrs_ahead live next (drop next xs) ≡ []
    → stand_at (take done xs) live done done changed ≡ stand_at xs live done next changed
cut_stand live xs done next changed e =
    let d : take done (take done xs) ≡ take done xs = take-take done done xs (omega arith) in
    let r : instrs_ahead live done (drop done (take done xs)) ≡ [] =
    ap (instrs_ahead live done) (drop_all done (take done xs) (omega (arith, length-take done xs))) in
    (λ i. record { done = reverse (d i); rest = (r ∙ sym e) i; changed = changed })

-- a scan at the end of a block stays where it is as the block is cut
pub cut_same : (code : List PlainBlock) (lives : LiveList) (b : ℕ) (at : Standing) → IsAtEnd (scan_by code lives b at)
    → place_at (cut code b at.done) (tells lives) b at.done at.done at.changed ≡ scan_by code lives b at
cut_same code lives b at e =
    let r = block_at code b (end_block code lives b at e) in
    let x = r.block in
    let here : InBlock =
    record {
      label = x.label;
      stand = stand_at x.instrs (tells lives b) at.done at.next at.changed;
      passed = reverse (take b code);
      coming = blocks_ahead (tells lives) (suc b) (drop (suc b) code);
    } in
    let old : scan_by code lives b at ≡ Within here =
    ap (place_in (tells lives) b at.done at.next at.changed (reverse (take b code))) r.dropped in
    let none = rest_at_end (scan_by code lives b at) e here old in
    (λ i. place_in (tells lives) b at.done at.done at.changed (reverse (cut_take code b at.done i))
    (cut_drop code b at.done x (drop (suc b) code) r.dropped i))
    ∙ (ap (λ st. Within (record {
      label = x.label;
      stand = st;
      passed = reverse (take b code);
      coming = blocks_ahead (tells lives) (suc b) (drop (suc b) code);
    })) (cut_stand (tells lives b) x.instrs at.done at.next at.changed none) ∙ sym old)

pub cut_placed : (code : List PlainBlock) (lives : LiveList) (b : ℕ) (at : Standing) → IsPlaced code lives b at
    → IsPlaced (cut code b at.done) lives b (record { done = at.done; next = at.done; changed = at.changed })
cut_placed code lives b at p = record {
  blocks = omega (arith, cut_length code b at.done, p.blocks);
  list = p.list;
  sets = p.sets ∙ sym (cut_length code b at.done);
  lengths = λ c le. omega (arith, cut_fewer code b at.done c, p.lengths c le);
  done = omega arith;
  next = omega (arith, ap length (cut_at code b at.done), length-take at.done (instrs_at code b), p.done, p.next);
}

pub cut_cut : (code : List PlainBlock) (lives : LiveList) (b : ℕ) (at : Standing) → b < length code
    → IsPlaced code lives b at
    → IsCut (cut code b at.done) b (record { done = at.done; next = at.done; changed = at.changed })
cut_cut code lives b at h p = record {
  block = omega (arith, cut_length code b at.done);
  done = omega (arith, ap length (cut_at code b at.done), length-take at.done (instrs_at code b), p.done, p.next);
  next = refl;
}
