-- The block of a label is there, and an exit leads where the control transfer does.
use Rattle.std.proofs.Common.{◌≡◌, ℕ, zero, suc, ◌+◌, ◌<◌, ◌≤◌, Bool, true, false, List, [], ◌∷◌, ◌++◌, length, map}
use Rattle.std.proofs.Common.{take, drop, refl, sym, ap, arith, slice_index_or, ◌∙◌}
use Rattle.std.specs.Prelude.{◌||◌, ◌&&◌, ◌==◌, nat_lt, if◌then◌else◌, Option, Some, None}
use Rattle.std.specs.Global.{Vec}
use Rattle.std.proofs.lemmas.Bool.{true≢false, false≢true, eqb-true}
use Rattle.std.specs.Ordering.{nat_cmp}
use Rattle.std.specs.BTreeMap.{BTreeMap, get}
use Rattle.std.proofs.lemmas.Bool.Decides.{nat_tests}
use Rattle.std.proofs.Math.Seq.{take-length}
use Rattle.std.proofs.lemmas.List.{length-map, take-append-le}
use Rattle.po_term.specs.declared.term.Label.{Label}
use Rattle.po_term.specs.declared.term.Sym.{Sym}
use Rattle.po_term.specs.Terms.{Place}
use Rattle.po_term.specs.Moves.{Ending, GoTo, IfCc, IfTwo, CallOf, Return, instrs_of}
use Rattle.po_model.specs.declared.code.Block.{Block}
use Rattle.po_model.specs.Blocks.{PlainBlock, block_of, block_ending, instrs_at, block_from, block_with, target_by}
use Rattle.po_model.specs.Blocks.{goes_on, has_label, ending_at, leads}
use Rattle.po_live.specs.Flow.{exit_by, exit_target, exit_goes_on, exit_leads, pred_at}

-- a slice of a vector, written back whole
pub written_back : {A : Type 0} (xs ys : List A) (n : ℕ) → n ≡ length xs → length ys ≤ n
    → take n (xs ++ drop (length xs) ys) ≡ xs
written_back xs ys n e h =
    let k : n ≤ length xs = omega arith in
    take-append-le n xs (drop (length xs) ys) k ∙ ap (λ m. take m xs) e ∙ take-length xs

pub block_from_below : (n : ℕ) (xs : List PlainBlock) (l : Label) (q : ℕ) → block_from n xs l ≡ Some q
    → q < n + length xs
block_from_below n [] l q e = (cc)
block_from_below n (x ∷ xs) l q e = go (has_label l x.label) refl (block_from_below (suc n) xs l q) e
  where
    go : (b : Bool) → has_label l x.label ≡ b → (block_from (suc n) xs l ≡ Some q → q < suc n + length xs)
        → (if b then Some n else block_from (suc n) xs l) ≡ Some q → q < n + length (x ∷ xs)
    go true f ih e = let p : n ≡ q = (cc) in omega arith
    go false f ih e = let h = ih e in omega arith

module _ (code : List PlainBlock) (first : BTreeMap ℕ ℕ)
    (table : (l : Label) → get nat_cmp first l.0 ≡ block_with code l) where
  target_same : (e : Option (Ending ℕ Place Sym)) → exit_target first (exit_by e) ≡ target_by code e
  target_same None = refl
  target_same (Some (GoTo l)) = table l
  target_same (Some (IfCc r l)) = table l
  target_same (Some (IfTwo t u r l)) = table l
  target_same (Some (CallOf s n)) = refl
  target_same (Some Return) = refl

  goes_same : (e : Option (Ending ℕ Place Sym)) → exit_goes_on (exit_by e) ≡ goes_on e
  goes_same None = refl
  goes_same (Some (GoTo l)) = refl
  goes_same (Some (IfCc r l)) = refl
  goes_same (Some (IfTwo t u r l)) = refl
  goes_same (Some (CallOf s n)) = refl
  goes_same (Some Return) = refl

  pub leads_same : (b q : ℕ) → exit_leads first (length code) (exit_by (ending_at code b)) b q ≡ leads code b q
  leads_same b q = rw (target_same (ending_at code b), goes_same (ending_at code b)) refl

-- the instructions of the block b, by its place
pub instrs_there : (bs : List Block) (b : ℕ) (d : Block) → b < length bs
    → instrs_at (map block_of bs) b ≡ instrs_of (slice_index_or bs b d).instrs.items
instrs_there [] b d h = absurd (omega arith)
instrs_there (x ∷ xs) zero d h = refl
instrs_there (x ∷ xs) (suc b) d h = instrs_there xs b d (omega arith)

lt_more : (b p : ℕ) → nat_lt p (b + 1) ≡ (b == p || nat_lt p b)
lt_more b p = grind (arith, nat_tests)

one_more_test : (d l x y : Bool) → (d ≡ true → x ≡ y) → ((x && d) || (l && y)) ≡ ((d || l) && y)
one_more_test true l true true h = refl
one_more_test true l true false h = absurd (true≢false (h refl))
one_more_test true l false true h = absurd (false≢true (h refl))
one_more_test true true false false h = refl
one_more_test true false false false h = refl
one_more_test false l true y h = refl
one_more_test false l false y h = refl

pub one_more : (b p : ℕ) (x y : Bool) → ((b == p) ≡ true → x ≡ y)
    → ((x && b == p) || (nat_lt p b && y)) ≡ (nat_lt p (b + 1) && y)
one_more b p x y h = one_more_test (b == p) (nat_lt p b) x y h ∙ ap (λ t. t && y) (sym (lt_more b p))

-- the edges of one more block
module _ (blocks : List Block) (first : BTreeMap ℕ ℕ)
    (table : (l : Label) → get nat_cmp first l.0 ≡ block_with (map block_of blocks) l) (b : ℕ) (d : Block) where
  here_leads : (n q : ℕ) → b < length blocks → d ≡ slice_index_or blocks b d → n ≡ length blocks
      → exit_leads first n (exit_by (block_ending (instrs_of d.instrs.items))) b q ≡ leads (map block_of blocks) b q
  here_leads n q h i e =
      let there : instrs_of d.instrs.items ≡ instrs_at (map block_of blocks) b =
      ap (λ (x : Block). instrs_of x.instrs.items) i ∙ sym (instrs_there blocks b d h) in
      let long : n ≡ length (map block_of blocks) = e ∙ sym (length-map blocks block_of) in
      ap (λ m. exit_leads first m (exit_by (block_ending (instrs_of d.instrs.items))) b q) long
      ∙ ap (λ xs. exit_leads first (length (map block_of blocks)) (exit_by (block_ending xs)) b q) there
      ∙ leads_same (map block_of blocks) first table b q

  pub edges_added : (old now new : List (Vec ℕ)) → b < length blocks → d ≡ slice_index_or blocks b d
      → length now ≡ length blocks → now ≡ old
      → ((q p : ℕ) → pred_at old q p ≡ (nat_lt p b && leads (map block_of blocks) p q))
      → ((q p : ℕ)
      → pred_at new q p
      ≡ ((exit_leads first (length now) (exit_by (block_ending (instrs_of d.instrs.items))) b q && b == p)
      || pred_at now q p)) → (q p : ℕ) → pred_at new q p ≡ (nat_lt p (b + 1) && leads (map block_of blocks) p q)
  edges_added old now new h i n e o a q p =
      a q p
      ∙ ap
      (λ t. (exit_leads first (length now) (exit_by (block_ending (instrs_of d.instrs.items))) b q && b == p) || t)
      (ap (λ (vs : List (Vec ℕ)). pred_at vs q p) e ∙ o q p)
      ∙ one_more b p (exit_leads first (length now) (exit_by (block_ending (instrs_of d.instrs.items))) b q)
      (leads (map block_of blocks) p q)
      (λ z. here_leads (length now) q h i n ∙ ap (λ k. leads (map block_of blocks) k q) (eqb-true b p z))
