-- Statements one behind the other, and a sample unit.
use Rattle.std.proofs.Common.{◌≡◌, ℕ, zero, suc, ◌+◌, ◌-◌, ◌*◌, ◌<◌, ◌≤◌, ◌^◌, List, [], ◌∷◌, ◌++◌, length, All, Bool}
use Rattle.std.proofs.Common.{true, false, refl, ap, sym, ◌∙◌, subst, arith, inl, inr, length-append, append_assoc}
use Rattle.std.proofs.Common.{append-nil}
use Rattle.std.specs.Prelude.{IsTrue, ◌||◌, nat_eq}
use Rattle.std.specs.Cmp.Lexicographic.{pointwise}
use Rattle.std.specs.Fmt.{decimal}
use Rattle.std.specs.List.{flat_map}
use Rattle.std.proofs.lemmas.Grind.{flat_map-append}
use Rattle.std.proofs.lemmas.List.Elements.{All-nil, All-from_recursion, All-append, All-weaker}
use Rattle.std.proofs.lemmas.List.Folds.{list_any-append}
use mathlib.Core.Logic.{◌⊎◌}
use Rattle.po_lines.specs.NameList.{has}
use Rattle.po_ir.specs.declared.unit.Op.{Op}
use Rattle.po_ir.specs.declared.unit.Op.TheVariants.{Adl, Lod, Ret}
use Rattle.po_ir.specs.declared.unit.Unit.{Unit as StackUnit}
use Rattle.po_ir.specs.Ops.{depth_by, depth_from, label_in, labels_of, target_in, args_from, ends_well}
use Rattle.po_ir.specs.Units.{IsOp}
use Rattle.po_ir.proofs.Prefix.{ends_next}
use Rattle.po_sample.specs.Draws.{start}
use Rattle.po_sample.specs.Laws.{SamplesAreUnits}
use Rattle.po_sample.specs.Sample.{label, statement, statements, sample}
use Rattle.po_sample.proofs.Numbered.{numbered_name, numbered_other}
use Rattle.po_sample.proofs.Running.{Run, run_append, follow_run}
use Rattle.po_sample.proofs.Parts.{one_fits, statement_part}

-- the labels of statements from j on are new
abbrev Fresh : ℕ → List (List ℕ) → Type 0
Fresh j ls = (i : ℕ) → j ≤ i → i < 2 ^ 64 → has (label i) ls ≡ false

-- operations of n statements from j on
record AreParts (n j : ℕ) (os : List Op) : Type 0 where
  few : length os ≤ 8 * n
  each : All IsOp os
  run : (ls : List (List ℕ)) (args : List ℕ) → Fresh j ls → Run 0 ls args os
  depth : depth_from 0 os ≡ 0
  targets : All (λ l. IsTrue (has l (labels_of os))) (flat_map target_in os)

has_append : (l : List ℕ) (xs ys : List (List ℕ)) → has l (xs ++ ys) ≡ (has l xs || has l ys)
has_append l xs ys = list_any-append (pointwise nat_eq l) xs ys

neither : (a b : Bool) → a ≡ false → b ≡ false → (a || b) ≡ false
neither a b e f = rw (e, f) refl

left_true : (a b : Bool) → a ≡ true → (a || b) ≡ true
left_true a b e = rw e refl

right_true : (a b : Bool) → b ≡ true → (a || b) ≡ true
right_true true b e = refl
right_true false b e = e

has_left : (l : List ℕ) (xs ys : List (List ℕ)) → IsTrue (has l xs) → IsTrue (has l (xs ++ ys))
has_left l xs ys h = has_append l xs ys ∙ left_true (has l xs) (has l ys) h

has_right : (l : List ℕ) (xs ys : List (List ℕ)) → IsTrue (has l ys) → IsTrue (has l (xs ++ ys))
has_right l xs ys h = has_append l xs ys ∙ right_true (has l xs) (has l ys) h

-- the labels of one statement leave those of the later ones new
fresh_next : (j : ℕ) (ls more : List (List ℕ)) → Fresh j ls → (more ≡ []) ⊎ (more ≡ label j ∷ [])
    → Fresh (j + 1) (ls ++ more)
fresh_next j ls more fresh (inl e) = λ i h small.
    rw (e, append-nil ls) (fresh i (omega arith) small)
fresh_next j ls more fresh (inr e) = λ i h small.
    let other : pointwise nat_eq (label i) (label j) ≡ false =
    numbered_other 76 i j small (omega arith) (λ s. absurd (omega arith)) in
    rw e (has_append (label i) ls (label j ∷ []) ∙ neither (has (label i) ls) (has (label i) (label j ∷ []))
    (fresh i (omega arith) small) (neither (pointwise nat_eq (label i) (label j)) false other refl))

depth_append : (xs ys : List Op) (d : ℕ) → depth_from d (xs ++ ys) ≡ depth_from (depth_from d xs) ys
depth_append [] ys d = refl
depth_append (x ∷ xs) ys d = depth_append xs ys (depth_by d x)

-- each target of both is a label of both
targets_append : (xs ys : List Op) → All (λ l. IsTrue (has l (labels_of xs))) (flat_map target_in xs)
    → All (λ l. IsTrue (has l (labels_of ys))) (flat_map target_in ys)
    → All (λ l. IsTrue (has l (labels_of (xs ++ ys)))) (flat_map target_in (xs ++ ys))
targets_append xs ys a b =
    let P : List ℕ → Type 0 = λ l. IsTrue (has l (labels_of xs ++ labels_of ys)) in
    let both : All P (flat_map target_in xs ++ flat_map target_in ys) =
    All-append P (flat_map target_in xs) (flat_map target_in ys)
    (All-weaker _ P (λ l h. has_left l (labels_of xs) (labels_of ys) h) (flat_map target_in xs) a)
    (All-weaker _ P (λ l h. has_right l (labels_of xs) (labels_of ys) h) (flat_map target_in ys) b) in
    rw (flat_map-append label_in xs ys, flat_map-append target_in xs ys) both

statements_parts : (n j x : ℕ) → j + n < 2 ^ 64 → AreParts n j (statements n j x)
unfolding statements
statements_parts zero j x small = record {
  few = omega arith;
  each = All-nil IsOp;
  run = λ ls args fresh. tt;
  depth = refl;
  targets = All-nil _;
}
statements_parts (suc n) j x small =
    let part = statement_part j x (omega arith) in
    let os = (statement j x).ops in
    let more = statements n (j + 1) (statement j x).last in
    let rest : AreParts n (j + 1) more = statements_parts n (j + 1) (statement j x).last (omega arith) in
    let same : length (os ++ more) ≡ length os + length more = length-append os more in
    let few : length os ≤ 8 = part.few in
    let few_more : length more ≤ 8 * n = rest.few in
    record {
      few = omega arith;
      each = All-append IsOp os more part.each rest.each;
      run = λ ls args fresh. run_append os more 0 ls args (part.run ls args (fresh j (omega arith) (omega arith)))
          (subst (λ d. Run d (ls ++ labels_of os) (args_from args os) more) (sym part.depth)
          (rest.run (ls ++ labels_of os) (args_from args os) (fresh_next j ls (labels_of os) fresh part.labels)));
      depth = depth_append os more 0 ∙ ap (λ d. depth_from d more) part.depth ∙ rest.depth;
      targets = targets_append os more part.targets rest.targets;
    }

-- the operations behind the statements
abbrev tail : List Op
tail = Adl 1 ∷ Lod ∷ Ret ∷ []

ends_tail : (os : List Op) → IsTrue (ends_well (os ++ tail))
ends_tail os = subst (λ (os : List Op). IsTrue (ends_well os)) (append_assoc os (Adl 1 ∷ Lod ∷ []) (Ret ∷ []))
    (ends_next (os ++ Adl 1 ∷ Lod ∷ []) Ret)

pub samples_units : SamplesAreUnits
samples_units seed k small =
    let os = statements 8 0 (start seed k) in
    let parts = statements_parts 8 0 (start seed k) (omega arith) in
    let few : length os ≤ 8 * 8 = parts.few in
    let same : length (os ++ tail) ≡ length os + length tail = length-append os tail in
    record {
      name = numbered_name 117 k (omega arith) refl refl;
      few = omega arith;
      each = All-append IsOp os tail parts.each (All-from_recursion IsOp tail (one_fits, (tt, (tt, tt))));
      follow = follow_run [] (os ++ tail) (run_append os tail 0 [] [] (parts.run [] [] (λ i h s. refl))
          (subst (λ d. Run d (labels_of os) (args_from [] os) tail) (sym parts.depth) (refl, (refl, (refl, tt)))));
      targets = targets_append os tail parts.targets (All-nil _);
      ends = ends_tail os;
    }

-- statement j was put behind the others
pub statements_next : (j x y : ℕ) (ops more all : List Op) → j < 8 → ops ++ statements (8 - j) j x ≡ all
    → more ≡ ops ++ (statement j x).ops → y ≡ (statement j x).last
    → more ++ statements (8 - (j + 1)) (j + 1) y ≡ all
unfolding statements
statements_next j x y ops more all small e f g =
    let n : 8 - j ≡ suc (8 - (j + 1)) = omega arith in
    let here : ops ++ statements (suc (8 - (j + 1))) j x ≡ all =
    subst (λ (n : ℕ). ops ++ statements n j x ≡ all) n e in
    rw (f, g, append_assoc) here

-- all of them were
pub statements_end : (j x : ℕ) (ops all : List Op) → 8 ≤ j → ops ++ statements (8 - j) j x ≡ all → ops ≡ all
unfolding statements
statements_end j x ops all big e =
    let n : 8 - j ≡ 0 = omega arith in
    let here : ops ++ [] ≡ all = subst (λ (n : ℕ). ops ++ statements n j x ≡ all) n e in
    sym (append-nil ops) ∙ here

-- the operations of a sample unit, as they are made
pub sample_made : (seed k x : ℕ) (name : List ℕ) (first ops all : List Op) → x ≡ start seed k → first ≡ []
    → ops ≡ first ++ statements 8 0 x → all ≡ ops ++ Adl 1 ∷ Lod ∷ Ret ∷ [] → name ≡ 117 ∷ decimal k
    → ◌≡◌ {A = StackUnit} (record { name = name; ops = all }) (sample seed k)
sample_made seed k x name first ops all e n f g h = rw (h, g, f, n, e) refl
