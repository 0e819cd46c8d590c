-- The marks of a code as a block of it is written, cut or left.
use Rattle.std.proofs.Common.{◌≡◌, ◌≢◌, ℕ, zero, suc, ◌<◌, ◌≤◌, List, [], ◌∷◌, length, map, take, set, get_or}
use Rattle.std.proofs.Common.{Option, None, Bool, refl, sym, ◌∙◌, ap, subst, arith, inl, inr, ◌++◌}
use Rattle.std.specs.Global.{Vec}
use Rattle.std.specs.Vec.{with_items}
use Rattle.std.proofs.lemmas.Bool.{cases_eq}
use Rattle.std.proofs.lemmas.List.{length-map, with_items_is}
use Rattle.po_term.specs.declared.transfer.Instr.{Instr}
use Rattle.po_term.specs.Moves.{instrs_of, PlainInstr}
use Rattle.po_model.specs.declared.code.Block.{Block}
use Rattle.po_model.specs.declared.machine.Machine.{Machine}
use Rattle.po_model.specs.Blocks.{PlainBlock, block_of, instrs_at}
use Rattle.po_slow.specs.declared.block.Standing.{Standing}
use Rattle.po_slow.specs.declared.mark.Mark.{Mark}
use Rattle.po_slow.specs.Marks.{AreTrue, AllTrue, marks_at}
use Rattle.po_slow.specs.States.{cut, IsCut}
use Rattle.po_slow.proofs.Marks.{cut_true, whole_true, none_true}
use Rattle.po_slow.proofs.Written.{instrs_get, code_with}

abbrev Marks : Type 0
Marks = List (Vec (Option Mark))

-- Blocks and marks that are written

marks_get : (marks : Marks) (b : ℕ) (r : Vec (Option Mark)) → b < length marks
    → marks_at marks b ≡ (get_or marks b r).items
marks_get [] b r h = absurd (omega arith)
marks_get (k ∷ ks) zero r h = refl
marks_get (k ∷ ks) (suc b) r h = marks_get ks b r (omega arith)

marks_set : (marks : Marks) (b : ℕ) (v : Vec (Option Mark)) → b < length marks
    → marks_at (set marks b v) b ≡ v.items
marks_set [] b v h = absurd (omega arith)
marks_set (k ∷ ks) zero v h = refl
marks_set (k ∷ ks) (suc b) v h = marks_set ks b v (omega arith)

marks_kept : (marks : Marks) (b : ℕ) (v : Vec (Option Mark)) (c : ℕ) → c ≢ b
    → marks_at (set marks b v) c ≡ marks_at marks c
marks_kept [] b v c n = refl
marks_kept (k ∷ ks) zero v zero n = absurd (n refl)
marks_kept (k ∷ ks) zero v (suc c) n = refl
marks_kept (k ∷ ks) (suc b) v zero n = refl
marks_kept (k ∷ ks) (suc b) v (suc c) n = marks_kept ks b v c (λ e. n (ap suc e))

instrs_set : (blocks : List Block) (b : ℕ) (x : Block) → b < length blocks
    → instrs_at (map block_of (set blocks b x)) b ≡ instrs_of x.instrs.items
instrs_set [] b x h = absurd (omega arith)
instrs_set (y ∷ ys) zero x h = refl
instrs_set (y ∷ ys) (suc b) x h = instrs_set ys b x (omega arith)

instrs_kept : (blocks : List Block) (b : ℕ) (x : Block) (c : ℕ) → c ≢ b
    → instrs_at (map block_of (set blocks b x)) c ≡ instrs_at (map block_of blocks) c
instrs_kept [] b x c n = refl
instrs_kept (y ∷ ys) zero x zero n = absurd (n refl)
instrs_kept (y ∷ ys) zero x (suc c) n = refl
instrs_kept (y ∷ ys) (suc b) x zero n = refl
instrs_kept (y ∷ ys) (suc b) x (suc c) n = instrs_kept ys b x c (λ e. n (ap suc e))

true_same : (m : Machine) (xs ys : List PlainInstr) (ks ls : List (Option Mark)) (done next : ℕ) → ys ≡ xs → ls ≡ ks
    → AreTrue m xs ks done next → AreTrue m ys ls done next
true_same m xs ys ks ls done next e f t =
    subst (λ l. AreTrue m l ls done next) (sym e) (subst (λ l. AreTrue m xs l done next) (sym f) t)

module _ (blocks : List Block) (marks : Marks) (b : ℕ) (r : Block) (q : Vec (Option Mark)) (h : b < length blocks)
    (beside : length marks ≡ length blocks) (xs : List Instr) (ks : List (Option Mark))
    (x_is : xs ≡ (get_or blocks b r).instrs.items) (k_is : ks ≡ (get_or marks b q).items) where
  inside : b < length marks
  inside = omega (arith, h, beside)

  -- the marks of the block
  pub true_here : (m : Machine) (at : Standing) → AllTrue m (map block_of blocks) marks b at
      → AreTrue m (instrs_of xs) ks at.done at.next
  true_here m at t =
      true_same m _ _ _ _ at.done at.next (ap instrs_of x_is ∙ sym (instrs_get blocks b r h))
      (k_is ∙ sym (marks_get marks b q inside)) t.here

  -- and those of all blocks, once these are written
  pub true_written : (m : Machine) (ws : List Instr) (ls : List (Option Mark)) (at at' : Standing)
      → length ws ≡ length xs → length ls ≡ length ks → AllTrue m (map block_of blocks) marks b at
      → AreTrue m (instrs_of ws) ls at'.done at'.next
      → AllTrue m (map block_of (set blocks b
      (record { label = (get_or blocks b r).label; instrs = with_items (get_or blocks b r).instrs ws })))
      (set marks b (with_items (get_or marks b q) ls)) b at'
  true_written m ws ls at at' n l t now =
      let block = get_or blocks b r in
      let v = get_or marks b q in
      let x : Block = record { label = block.label; instrs = with_items block.instrs ws } in
      let items = with_items_is block.instrs ws (n ∙ (ap length x_is ∙ sym block.instrs.ok.0)) in
      let put = with_items_is v ls (l ∙ (ap length k_is ∙ sym v.ok.0)) in
      record {
        here = true_same m _ _ _ _ at'.done at'.next (instrs_set blocks b x h ∙ ap instrs_of items)
            (marks_set marks b (with_items v ls) inside ∙ put) now;
        others = λ c e. true_same m _ _ _ _ 0 0 (instrs_kept blocks b x c e)
            (marks_kept marks b (with_items v ls) c e) (t.others c e);
      }

-- what a state holds, and the slices of it that are written
module _ (m : Machine) (v : Vec Block) (u : Vec (Vec (Option Mark))) (xs : List Block) (ks : Marks)
    (x_is : xs ≡ v.items) (k_is : ks ≡ u.items) (b : ℕ) where
  pub true_slices : (at : Standing) → AllTrue m (map block_of v.items) u.items b at
      → AllTrue m (map block_of xs) ks b at
  true_slices at t =
      subst (λ l. AllTrue m (map block_of l) ks b at) (sym x_is)
      (subst (λ l. AllTrue m (map block_of v.items) l b at) (sym k_is) t)

  pub true_state : (ws : List Block) (ls : Marks) (at : Standing) → length ws ≡ length xs → length ls ≡ length ks
      → AllTrue m (map block_of ws) ls b at
      → AllTrue m (map block_of (with_items v ws).items) (with_items u ls).items b at
  true_state ws ls at n l t =
      subst (λ code. AllTrue m code (with_items u ls).items b at) (sym (code_with v ws (n ∙ ap length x_is)))
      (subst (λ k. AllTrue m (map block_of ws) k b at)
      (sym (with_items_is u ls (l ∙ (ap length k_is ∙ sym u.ok.0)))) t)

-- each block still has its marks
pub beside_state : (v : Vec Block) (u : Vec (Vec (Option Mark))) (xs ws : List Block) (ks ls : Marks) → xs ≡ v.items
    → ks ≡ u.items → length ws ≡ length xs → length ls ≡ length ks
    → length u.items ≡ length (map block_of v.items)
    → length (with_items u ls).items ≡ length (map block_of (with_items v ws).items)
beside_state v u xs ws ks ls x_is k_is n l e =
    let left : length (with_items u ls).items ≡ length u.items =
    ap length (with_items_is u ls (l ∙ (ap length k_is ∙ sym u.ok.0))) ∙ (l ∙ ap length k_is) in
    let right : length (map block_of (with_items v ws).items) ≡ length (map block_of v.items) =
    length-map (with_items v ws).items block_of
    ∙ (ap length (with_items_is v ws (n ∙ (ap length x_is ∙ sym v.ok.0)))
    ∙ (n ∙ (ap length x_is ∙ sym (length-map v.items block_of)))) in
    left ∙ (e ∙ sym right)

pub beside_slices : (v : Vec Block) (u : Vec (Vec (Option Mark))) (xs : List Block) (ks : Marks) → xs ≡ v.items
    → ks ≡ u.items → length u.items ≡ length (map block_of v.items) → length ks ≡ length xs
beside_slices v u xs ks x_is k_is e =
    ap length k_is ∙ (e ∙ (length-map v.items block_of ∙ sym (ap length x_is)))

-- A block that is cut, and a block that is left

cut_here : (code : List PlainBlock) (b n : ℕ) → instrs_at (cut code b n) b ≡ take n (instrs_at code b)
cut_here [] b zero = refl
cut_here [] b (suc n) = refl
cut_here (x ∷ xs) zero n = refl
cut_here (x ∷ xs) (suc b) n = cut_here xs b n

cut_other : (code : List PlainBlock) (b n c : ℕ) → c ≢ b → instrs_at (cut code b n) c ≡ instrs_at code c
cut_other [] b n c e = refl
cut_other (x ∷ xs) zero n zero e = absurd (e refl)
cut_other (x ∷ xs) zero n (suc c) e = refl
cut_other (x ∷ xs) (suc b) n zero e = refl
cut_other (x ∷ xs) (suc b) n (suc c) e = cut_other xs b n c (λ i. e (ap suc i))

pub all_cut : (m : Machine) (code : List PlainBlock) (marks : Marks) (b : ℕ) (at : Standing)
    → at.done ≤ at.next → AllTrue m code marks b at
    → AllTrue m (cut code b at.done) marks b (record { done = at.done; next = at.done; changed = at.changed })
all_cut m code marks b at o t = record {
  here = true_same m _ _ _ _ at.done at.done (cut_here code b at.done) refl
      (cut_true m (instrs_at code b) (marks_at marks b) at.done at.next o t.here);
  others = λ c e. true_same m _ _ _ _ 0 0 (cut_other code b at.done c e) refl (t.others c e);
}

-- where a block that is cut is left, each block's marks are true from its start
pub all_left : (m : Machine) (code : List PlainBlock) (marks : Marks) (b : ℕ) (at : Standing) → IsCut code b at
    → AllTrue m code marks b at → (c : ℕ) (changed : Bool)
    → AllTrue m code marks c (record { done = 0; next = 0; changed = changed })
all_left m code marks b at k t c changed = record {
  here = whole c;
  others = λ e n. whole e;
}
  where
    whole : (c : ℕ) → AreTrue m (instrs_at code c) (marks_at marks c) 0 0
    whole c =
        elim (cases_eq c b) [
          | inl e ↦
              subst (λ d. AreTrue m (instrs_at code d) (marks_at marks d) 0 0) (sym e)
              (whole_true m (instrs_at code b) (marks_at marks b) at.done at.next (omega (arith, k.next)) t.here
              (omega (arith, k.next)) k.done)
          | inr n ↦ t.others c n
        ]

-- no mark is there
pub all_none : (m : Machine) (code : List PlainBlock) (marks : Marks) (b : ℕ) (at : Standing)
    → ((c i : ℕ) → get_or (marks_at marks c) i None ≡ None) → AllTrue m code marks b at
all_none m code marks b at e = record {
  here = none_true m (instrs_at code b) (marks_at marks b) at.done at.next (e b);
  others = λ c n. none_true m (instrs_at code c) (marks_at marks c) 0 0 (e c);
}

-- marks of one more block
pub none_more : (marks : Marks) (v : Vec (Option Mark)) → ((i : ℕ) → get_or v.items i None ≡ None)
    → ((c i : ℕ) → get_or (marks_at marks c) i None ≡ None) → (c i : ℕ)
    → get_or (marks_at (marks ++ v ∷ []) c) i None ≡ None
none_more [] v h e zero i = h i
none_more [] v h e (suc c) i = refl
none_more (k ∷ ks) v h e zero i = e 0 i
none_more (k ∷ ks) v h e (suc c) i = none_more ks v h (λ d. e (suc d)) c i
