-- Within one block of a code, whose instructions are written.
use Rattle.std.proofs.Common.{◌≡◌, ℕ, zero, suc, ◌+◌, ◌<◌, ◌≤◌, Bool, List, [], ◌∷◌, length, map, reverse, take, drop}
use Rattle.std.proofs.Common.{set, get_or, refl, sym, ◌∙◌, ap, subst, arith}
use Rattle.std.specs.Global.{Vec}
use Rattle.std.specs.Vec.{vec_len, with_items}
use Rattle.std.proofs.lemmas.List.{length-set, length-map, map-set, take-set, drop-set, drop_more, with_items_is}
use Rattle.std.proofs.lemmas.List.{get_or-map, take-map}
use Rattle.po_term.specs.declared.transfer.Instr.{Instr}
use Rattle.po_term.specs.Moves.{instr_of, instrs_of, PlainInstr}
use Rattle.po_model.specs.declared.code.Block.{Block}
use Rattle.po_model.specs.declared.machine.Machine.{Machine}
use Rattle.po_live.specs.declared.parts.LiveList.{LiveList}
use Rattle.po_model.specs.declared.var.Var.{Var}
use Rattle.po_model.specs.Blocks.{PlainBlock, block_of, instrs_at}
use Rattle.po_model.specs.Scanned.{Stand, Scan, Within, Finished, settled, after_try, ready, pair_ready, instrs_ahead}
use Rattle.po_model.specs.Scanned.{blocks_ahead}
use Rattle.po_slow.specs.declared.block.Standing.{Standing}
use Rattle.po_live.specs.Parts.{tells, HasParts}
use Rattle.po_slow.specs.States.{stand_at, on, place_in, place_at, scan_by, within, cut, IsAnswer, IsTriedIn, IsTried}
use Rattle.po_slow.specs.States.{IsPlaced}
use Rattle.po_model.specs.Combined.{Answer}

-- the instructions of the b-th block
pub instrs_get : (blocks : List Block) (b : ℕ) (x : Block) → b < length blocks
    → instrs_at (map block_of blocks) b ≡ instrs_of (get_or blocks b x).instrs.items
instrs_get [] b x h = absurd (omega arith)
instrs_get (y ∷ ys) zero x h = refl
instrs_get (y ∷ ys) (suc b) x h = instrs_get ys b x (omega arith)

pub instrs_len : (blocks : List Block) (b : ℕ) (x : Block) → b < length blocks
    → length (instrs_at (map block_of blocks) b) ≡ vec_len (get_or blocks b x).instrs
instrs_len blocks b x h =
    ap length (instrs_get blocks b x h)
    ∙ (length-map (get_or blocks b x).instrs.items instr_of ∙ sym (get_or blocks b x).instrs.ok.0)

-- the blocks that were written are there
pub code_with : (v : Vec Block) (ws : List Block) → length ws ≡ length v.items
    → map block_of (with_items v ws).items ≡ map block_of ws
code_with v ws n = ap (map block_of) (with_items_is v ws (n ∙ sym v.ok.0))

-- where a scan stands in them
module _ (v : Vec Block) (ws xs : List Block) (lives : LiveList) (n : length ws ≡ length xs)
    (xs_are : xs ≡ v.items) where
  blocks_are : map block_of (with_items v ws).items ≡ map block_of ws
  blocks_are = code_with v ws (n ∙ ap length xs_are)

  pub old_place : (b : ℕ) (at : Standing)
      → scan_by (map block_of xs) lives b at ≡ scan_by (map block_of v.items) lives b at
  old_place b at = ap (λ l. scan_by (map block_of l) lives b at) xs_are

  pub new_place : (b : ℕ) (at : Standing)
      → scan_by (map block_of (with_items v ws).items) lives b at ≡ scan_by (map block_of ws) lives b at
  new_place b at = ap (λ code. scan_by code lives b at) blocks_are

  pub new_placed : (b : ℕ) (at : Standing) → IsPlaced (map block_of ws) lives b at
      → IsPlaced (map block_of (with_items v ws).items) lives b at
  new_placed b at p = subst (λ code. IsPlaced code lives b at) (sym blocks_are) p

-- how many instructions each block has stays where it stays in the block that is written
pub lengths_set : (blocks : List Block) (b : ℕ) (x : Block)
    → length (instrs_of x.instrs.items) ≡ length (instrs_at (map block_of blocks) b) → (c : ℕ)
    → length (instrs_at (map block_of (set blocks b x)) c) ≡ length (instrs_at (map block_of blocks) c)
lengths_set [] b x h c = refl
lengths_set (y ∷ ys) zero x h zero = h
lengths_set (y ∷ ys) zero x h (suc c) = refl
lengths_set (y ∷ ys) (suc b) x h zero = refl
lengths_set (y ∷ ys) (suc b) x h (suc c) = lengths_set ys b x h c

-- the block that is cut
pub cut_set : (blocks : List Block) (b n : ℕ) (r x : Block) → b < length blocks → x.label ≡ (get_or blocks b r).label
    → x.instrs.items ≡ take n (get_or blocks b r).instrs.items
    → map block_of (set blocks b x) ≡ cut (map block_of blocks) b n
cut_set [] b n r x h l i = refl
cut_set (y ∷ ys) zero n r x h l i = (λ j. record { label = l j; instrs = cut_items j } ∷ map block_of ys)
  where
    cut_items : instrs_of x.instrs.items ≡ take n (instrs_of y.instrs.items)
    cut_items = ap instrs_of i ∙ sym (take-map instr_of n y.instrs.items)
cut_set (y ∷ ys) (suc b) n r x h l i = ap (λ zs. block_of y ∷ zs) (cut_set ys b n r x (omega arith) l i)

-- the block of a code that is written
place_set : (code : List PlainBlock) (live : ℕ → ℕ → Var → Bool) (b done next done' next' : ℕ)
    (changed changed' : Bool) (x : PlainBlock) (ys : List PlainInstr) (f : Stand → Stand) → b < length code
    → x ≡ get_or code b x
    → stand_at ys (live b) done' next' changed' ≡ f (stand_at x.instrs (live b) done next changed)
    → place_at (set code b (record { label = x.label; instrs = ys })) live b done' next' changed'
    ≡ within f (place_at code live b done next changed)
place_set code live b done next done' next' changed changed' x ys f h e s =
    let z : PlainBlock = record { label = x.label; instrs = ys } in
    let old : drop b code ≡ x ∷ drop (b + 1) code = drop_more code b x h ∙ ap (λ y. y ∷ drop (b + 1) code) (sym e) in
    (λ i. place_in live b done' next' changed' (reverse (take-set code b z i)) (drop-set code b z h i))
    ∙ (ap (λ st. Within (record {
      label = x.label;
      stand = st;
      passed = reverse (take b code);
      coming = blocks_ahead live (suc b) (drop (b + 1) code);
    })) s
    ∙ ap (λ l. within f (place_in live b done next changed (reverse (take b code)) l)) (sym old))

-- on from the pair that is ready
pub settled_within : (o : Answer) (s : Scan) → within (on (settled o)) s ≡ after_try o s
settled_within o (Within s) = refl
settled_within o (Finished code) = refl

module _ (blocks : List Block) (lives : LiveList) (b : ℕ) (r : Block) where
  abbrev here : Block
  here = get_or blocks b r

  abbrev pub written : List Instr → List Block
  written ws = set blocks b (record { label = here.label; instrs = with_items here.instrs ws })

  -- how many instructions there are, and that they have their parts
  pub instrs_here : (xs : List Instr) → b < length blocks → xs ≡ here.instrs.items
      → length (instrs_at (map block_of blocks) b) ≡ length xs
  instrs_here xs h x_is =
      ap length (instrs_get blocks b r h) ∙ (length-map here.instrs.items instr_of ∙ ap length (sym x_is))

  pub parts_here : (xs : List Instr) (at : Standing) → b < length blocks → xs ≡ here.instrs.items
      → IsPlaced (map block_of blocks) lives b at → HasParts lives b (length xs)
  parts_here xs at h x_is p = record {
    list = p.list;
    block = omega (arith, p.sets, length-map blocks block_of);
    parts = omega (arith, p.lengths b (omega arith), instrs_here xs h x_is);
  }

  -- what was written is there
  items_written : (ws xs : List Instr) → length ws ≡ length xs → xs ≡ here.instrs.items
      → (with_items here.instrs ws).items ≡ ws
  items_written ws xs n x_is = with_items_is here.instrs ws (n ∙ (ap length x_is ∙ sym here.instrs.ok.0))

  pub place_written : (ws xs : List Instr) (at at' : Standing) (f : Stand → Stand) → b < length blocks
      → length ws ≡ length xs → xs ≡ here.instrs.items → IsPlaced (map block_of blocks) lives b at
      → stand_at (instrs_of ws) (tells lives b) at'.done at'.next at'.changed
      ≡ f (stand_at (instrs_of xs) (tells lives b) at.done at.next at.changed)
      → scan_by (map block_of (written ws)) lives b at' ≡ within f (scan_by (map block_of blocks) lives b at)
  place_written ws xs at at' f h n x_is p s =
      let stands : stand_at (instrs_of ws) (tells lives b) at'.done at'.next at'.changed
      ≡ f (stand_at (instrs_of here.instrs.items) (tells lives b) at.done at.next at.changed)
      = s ∙ ap (λ l. f (stand_at (instrs_of l) (tells lives b) at.done at.next at.changed)) x_is in
      let new : map block_of (written ws)
      ≡ set (map block_of blocks) b (record { label = here.label; instrs = instrs_of ws })
      = map-set block_of blocks b (record { label = here.label; instrs = with_items here.instrs ws })
      ∙ ap (λ is. set (map block_of blocks) b (record { label = here.label; instrs = instrs_of is }))
      (items_written ws xs n x_is) in
      let old : block_of here ≡ get_or (map block_of blocks) b (block_of here) =
      sym (get_or-map block_of blocks b r (block_of here) h) in
      ap (λ code. scan_by code lives b at') new
      ∙ place_set (map block_of blocks) (tells lives) b at.done at.next at'.done at'.next at.changed at'.changed
      (block_of here) (instrs_of ws) f (omega (arith, length-map blocks block_of)) old stands

  pub placed_written : (ws xs : List Instr) (at at' : Standing) → b < length blocks → length ws ≡ length xs
      → xs ≡ here.instrs.items
      → IsPlaced (map block_of blocks) lives b at → at'.done ≤ at'.next → at'.next ≤ length ws
      → IsPlaced (map block_of (written ws)) lives b at'
  placed_written ws xs at at' h n x_is p d i =
      let x : Block = record { label = here.label; instrs = with_items here.instrs ws } in
      let count : length (map block_of (written ws)) ≡ length (map block_of blocks) =
      length-map (written ws) block_of ∙ (length-set blocks b x ∙ sym (length-map blocks block_of)) in
      let now : length (instrs_of (with_items here.instrs ws).items) ≡ length ws =
      length-map (with_items here.instrs ws).items instr_of ∙ ap length (items_written ws xs n x_is) in
      let before : length (instrs_at (map block_of blocks) b) ≡ length ws = ap length (instrs_get blocks b r h)
      ∙ (length-map here.instrs.items instr_of ∙ (ap length (sym x_is) ∙ sym n)) in
      let same = lengths_set blocks b x (now ∙ sym before) in
      record {
        blocks = omega (arith, p.blocks);
        list = p.list;
        sets = p.sets ∙ sym count;
        lengths = λ c le. omega (arith, p.lengths c le, same c);
        done = d;
        next = omega (arith, same b);
      }

  -- the pair that is ready in the block
  pub ready_here : (xs : List Instr) (at : Standing) → b < length blocks → xs ≡ here.instrs.items
      → IsPlaced (map block_of blocks) lives b at
      → ready (reverse (take at.done (instrs_of xs)))
      (instrs_ahead (tells lives b) at.next (drop at.next (instrs_of xs)))
      ≡ pair_ready (scan_by (map block_of blocks) lives b at)
  ready_here xs at h x_is p =
      let code = map block_of blocks in
      let same : get_or code b (block_of here) ≡ block_of here = get_or-map block_of blocks b r (block_of here) h in
      let old : drop b code ≡ block_of here ∷ drop (b + 1) code =
      drop_more code b (block_of here) (omega (arith, length-map blocks block_of))
      ∙ ap (λ y. y ∷ drop (b + 1) code) same in
      ap (λ l. ready (reverse (take at.done (instrs_of l)))
      (instrs_ahead (tells lives b) at.next (drop at.next (instrs_of l)))) x_is
      ∙ ap (λ l. pair_ready (place_in (tells lives) b at.done at.next at.changed (reverse (take b code)) l)) (sym old)

  -- the pair that is ready in the block was tried
  pub tried_written : (m : Machine) (ws xs : List Instr) (at at' : Standing) → b < length blocks
      → length ws ≡ length xs → xs ≡ here.instrs.items → IsPlaced (map block_of blocks) lives b at
      → IsTriedIn m (stand_at (instrs_of xs) (tells lives b) at.done at.next at.changed)
      (stand_at (instrs_of ws) (tells lives b) at'.done at'.next at'.changed)
      → IsTried m (scan_by (map block_of blocks) lives b at) (scan_by (map block_of (written ws)) lives b at')
  tried_written m ws xs at at' h n x_is p t = record {
    outcome = t.outcome;
    is_answer = subst (λ r. IsAnswer m r t.outcome) (ready_here xs at h x_is p) t.is_answer;
    goes_on =
        place_written ws xs at at' (on (settled t.outcome)) h n x_is p t.goes_on
        ∙ settled_within t.outcome (scan_by (map block_of blocks) lives b at);
  }
