-- Where the scans of a foreground stand after a try, and after the end of a block.
use Rattle.std.proofs.Common.{◌≡◌, ℕ, zero, suc, ◌+◌, List, [], ◌∷◌, ◌++◌, set, slice_get, Some, refl, sym, subst}
use Rattle.std.proofs.Common.{arith}
use Rattle.po_model.specs.declared.machine.Machine.{Machine}
use Rattle.po_model.specs.Blocks.{PlainBlock}
use Rattle.po_model.specs.Pairs.{PlainPair}
use Rattle.po_model.specs.Combined.{Answer, combination}
use Rattle.po_model.specs.Scanned.{Scan, Within, Finished, Tried, Ended, IsPassStart, AfterEnd, pair_ready, after_try}
use Rattle.po_model.specs.Scanned.{StandsAt}
use Rattle.po_slow.specs.States.{IsFinished}
use Rattle.po_slow.proofs.Steps.{stands_append, tried_append, ends_append}
use Rattle.po_core.specs.Fores.{IsNext}
use Rattle.po_core.specs.Parts.{IsDone, AreFresh, AreScanned}
use Rattle.po_core.proofs.Lists.{some_same}

-- After a try

stands_tried : (m : Machine) (c : List PlainBlock) (s t : Scan) (n k : ℕ) (p : PlainPair)
    → StandsAt (combination m) c n k s
    → pair_ready s ≡ Some p → t ≡ after_try (combination m p) s → StandsAt (combination m) c (n + 1) k t
stands_tried m c s t n k p h r e = record {
  steps = h.steps ++ Tried p ∷ [];
  stands = stands_append (combination m) c s t h.steps (Tried p ∷ []) h.stands (r, e);
  tries = omega (arith, h.tries, tried_append h.steps (Tried p ∷ []));
  block_ends = omega (arith, h.block_ends, ends_append h.steps (Tried p ∷ []));
}

not_finished : (s : Scan) (o : Answer) (p : PlainPair) → pair_ready s ≡ Some p → IsFinished (after_try o s) → ⊥
not_finished (Within s) o p r f = f
not_finished (Finished code) o p r f = absurd (cc)

-- the present code has one try more
pub scanned_tried : (m : Machine) (cs : List (List PlainBlock)) (ss : List Scan) (at n k total more : ℕ) (s t : Scan)
    (p : PlainPair)
    → AreScanned m cs ss at n k total → slice_get ss at ≡ Some s → pair_ready s ≡ Some p
    → t ≡ after_try (combination m p) s
    → more ≡ total + 1 → AreScanned m cs (set ss at t) at (n + 1) k more
scanned_tried m [] [] zero n k total more s t p a g r e l = absurd (cc)
scanned_tried m [] [] (suc at) n k total more s t p a g r e l = absurd a
scanned_tried m [] (x ∷ xs) at n k total more s t p a g r e l = absurd a
scanned_tried m (c ∷ cs) [] at n k total more s t p a g r e l = absurd a
scanned_tried m (c ∷ cs) (x ∷ xs) zero n k total more s t p (going, stands, fresh, i) g r e l = (
  subst (λ u. IsFinished u → ⊥) (sym e) (not_finished s (combination m p) p r),
  stands_tried m c s t n k p (subst (λ u. StandsAt (combination m) c n k u) (some_same g) stands) r e,
  fresh,
  omega arith,
)
scanned_tried m (c ∷ cs) (x ∷ xs) (suc at) n k total more s t p (i, j, d, a, h) g r e l =
    (i, j + 1, d, scanned_tried m cs xs at n k j (j + 1) s t p a g r e refl, omega arith)

-- After the end of a block

stands_ended : (m : Machine) (c : List PlainBlock) (s t : Scan) (n k : ℕ) → StandsAt (combination m) c n k s
    → AfterEnd s t
    → StandsAt (combination m) c n (k + 1) t
stands_ended m c s t n k h a = record {
  steps = h.steps ++ Ended ∷ [];
  stands = stands_append (combination m) c s t h.steps (Ended ∷ []) h.stands (t, a, refl);
  tries = omega (arith, h.tries, tried_append h.steps (Ended ∷ []));
  block_ends = omega (arith, h.block_ends, ends_append h.steps (Ended ∷ []));
}

-- the present code goes on
pub scanned_on : (m : Machine) (cs : List (List PlainBlock)) (ss : List Scan) (at n k total : ℕ) (s t : Scan)
    → AreScanned m cs ss at n k total → slice_get ss at ≡ Some s → AfterEnd s t → (IsFinished t → ⊥)
    → AreScanned m cs (set ss at t) at n (k + 1) total
scanned_on m [] [] zero n k total s t a g e f = absurd (cc)
scanned_on m [] [] (suc at) n k total s t a g e f = absurd a
scanned_on m [] (x ∷ xs) at n k total s t a g e f = absurd a
scanned_on m (c ∷ cs) [] at n k total s t a g e f = absurd a
scanned_on m (c ∷ cs) (x ∷ xs) zero n k total s t (going, stands, fresh, i) g e f =
    (f, stands_ended m c s t n k (subst (λ u. StandsAt (combination m) c n k u) (some_same g) stands) e, fresh, i)
scanned_on m (c ∷ cs) (x ∷ xs) (suc at) n k total s t (i, j, d, a, h) g e f =
    (i, j, d, scanned_on m cs xs at n k j s t a g e f, h)

-- the first codes are finished, and the others aren't begun
abbrev pub AreBegun : Machine → List (List PlainBlock) → List Scan → ℕ → ℕ → Type 0
AreBegun m cs ss zero total = AreFresh cs ss × (total ≡ 0)
AreBegun m [] ss (suc at) total = ⊥
AreBegun m (c ∷ cs) [] (suc at) total = ⊥
AreBegun m (c ∷ cs) (s ∷ ss) (suc at) total = (i : ℕ) × (j : ℕ) × IsDone m c s i × AreBegun m cs ss at j
    × (total ≡ i + j)

done_now : (m : Machine) (c : List PlainBlock) (s : Scan) (code : List PlainBlock) (n k : ℕ)
    → StandsAt (combination m) c n k s
    → AfterEnd s (Finished code) → IsDone m c (Finished code) n
done_now m c s code n k h a =
    let u = stands_ended m c s (Finished code) n k h a in
    record { code = code; scan = refl; pairs = _; slowed = (u.steps, u.stands, refl); count = u.tries }

-- the present code is finished
pub scanned_done : (m : Machine) (cs : List (List PlainBlock)) (ss : List Scan) (at n k total : ℕ) (s : Scan)
    (code : List PlainBlock)
    → AreScanned m cs ss at n k total → slice_get ss at ≡ Some s → AfterEnd s (Finished code)
    → AreBegun m cs (set ss at (Finished code)) (suc at) total
scanned_done m [] [] zero n k total s code a g e = absurd (cc)
scanned_done m [] [] (suc at) n k total s code a g e = absurd a
scanned_done m [] (x ∷ xs) at n k total s code a g e = absurd a
scanned_done m (c ∷ cs) [] at n k total s code a g e = absurd a
scanned_done m (c ∷ cs) (x ∷ xs) zero n k total s code (going, stands, fresh, i) g e =
    let h = subst (λ u. StandsAt (combination m) c n k u) (some_same g) stands in
    (n, 0, done_now m c s code n k h e, (fresh, refl), omega arith)
scanned_done m (c ∷ cs) (x ∷ xs) (suc at) n k total s code (i, j, d, a, h) g e =
    (i, j, d, scanned_done m cs xs at n k j s code a g e, h)

next_less : (s : Scan) (ss : List Scan) (a b : ℕ) → IsNext (s ∷ ss) (suc a) (suc b) → IsNext ss a b
next_less s ss a b h = record {
  order = omega (arith, h.order);
  within = omega (arith, h.within);
  passed = λ i u k l g. h.passed (suc i) u (omega arith) (omega arith) g;
  here = λ u g. h.here u g;
}

next_first : (s : Scan) (ss : List Scan) (b : ℕ) → IsNext (s ∷ ss) zero (suc b) → IsNext ss zero b
next_first s ss b h = record {
  order = omega arith;
  within = omega (arith, h.within);
  passed = λ i u k l g. h.passed (suc i) u (omega arith) (omega arith) g;
  here = λ u g. h.here u g;
}

-- a code that is finished as soon as it begins
done_first : (m : Machine) (c : List PlainBlock) (s : Scan) → IsPassStart c s → IsFinished s → IsDone m c s 0
done_first m c (Within x) p f = absurd f
done_first m c (Finished code) p f =
    record { code = code; scan = refl; pairs = []; slowed = ([], (Finished code, p, refl), refl); count = refl }

-- before the first code that has a block
pub fresh_next : (m : Machine) (cs : List (List PlainBlock)) (ss : List Scan) (b total : ℕ) → AreFresh cs ss
    → total ≡ 0
    → IsNext ss zero b → AreScanned m cs ss b 0 0 total
fresh_next m [] [] zero total f e h = (refl, refl, e)
fresh_next m [] [] (suc b) total f e h = absurd (omega (arith, h.within))
fresh_next m [] (s ∷ ss) b total f e h = absurd f
fresh_next m (c ∷ cs) [] b total f e h = absurd f
fresh_next m (c ∷ cs) (s ∷ ss) zero total (p, f) e h =
    (h.here s refl, record { steps = []; stands = (s, p, refl); tries = refl; block_ends = refl }, f, e)
fresh_next m (c ∷ cs) (s ∷ ss) (suc b) total (p, f) e h =
    let d = done_first m c s p (h.passed 0 s (omega arith) (omega arith) refl) in
    (0, 0, d, fresh_next m cs ss b 0 f refl (next_first s ss b h), omega arith)

-- before the next code that has a block
pub begun_next : (m : Machine) (cs : List (List PlainBlock)) (ss : List Scan) (a b total : ℕ)
    → AreBegun m cs ss a total
    → IsNext ss a b → AreScanned m cs ss b 0 0 total
begun_next m cs ss zero b total (f, e) h = fresh_next m cs ss b total f e h
begun_next m [] ss (suc a) b total g h = absurd g
begun_next m (c ∷ cs) [] (suc a) b total g h = absurd g
begun_next m (c ∷ cs) (s ∷ ss) (suc a) zero total g h = absurd (omega (arith, h.order))
begun_next m (c ∷ cs) (s ∷ ss) (suc a) (suc b) total (i, j, d, g, e) h =
    (i, j, d, begun_next m cs ss a b j g (next_less s ss a b h), e)

-- The present code isn't finished

pub present_going : (m : Machine) (cs : List (List PlainBlock)) (ss : List Scan) (at n k total : ℕ) (s : Scan)
    → AreScanned m cs ss at n k total → slice_get ss at ≡ Some s → IsFinished s → ⊥
present_going m [] [] zero n k total s a g f = absurd (cc)
present_going m [] [] (suc at) n k total s a g f = absurd a
present_going m [] (x ∷ xs) at n k total s a g f = absurd a
present_going m (c ∷ cs) [] at n k total s a g f = absurd a
present_going m (c ∷ cs) (x ∷ xs) zero n k total s (going, stands, fresh, i) g f =
    going (subst IsFinished (sym (some_same g)) f)
present_going m (c ∷ cs) (x ∷ xs) (suc at) n k total s (i, j, d, a, h) g f = present_going m cs xs at n k j s a g f
