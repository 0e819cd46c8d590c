-- What the operands seen so far say of the places that were read.
use Rattle.std.proofs.Common.{◌≡◌, ◌≢◌, ℕ, ◌<◌, ◌==◌, Bool, true, false, List, [], ◌∷◌, ◌++◌, length, All, AllPairs}
use Rattle.std.proofs.Common.{refl, sym, ap, ◌∙◌, subst, arith, Option, Some, None, zero, suc, ◌⊎◌, inl, inr}
use Rattle.std.proofs.Common.{eqb-true, eq-eqb}
use Rattle.std.proofs.lemmas.List.{get_or-set_same, get_or-set_other}
use Rattle.std.proofs.Math.ListN.{length-set}
use Rattle.std.proofs.lemmas.List.Elements.{All-push, All-weaker, All-nil, Contains-append_left, Contains-append_right}
use Rattle.std.proofs.lemmas.List.Quantifiers.{all_pairs_push}
use Rattle.po_pattern.specs.declared.operands.Operands.{Operands}
use Rattle.po_pattern.specs.declared.operands.OperandKind.{OperandKind}
use Rattle.po_pattern.specs.declared.operands.OperandKind.TheVariants.{Register, Constant, Symbol, Label}
use Rattle.po_pattern.specs.Seen.{none_seen, kind_of, with_operand, same_kind, may_be, is_new}
use Rattle.po_model.specs.Entries.{Sort, OfReg, OfNum, OfSym, OfLabel, Place, place, AgreesWith, IsAmong}

abbrev pub sort_of : OperandKind → Sort
sort_of Register = OfReg
sort_of Constant = OfNum
sort_of Symbol = OfSym
sort_of Label = OfLabel

-- the digit of a place has its kind
pub record IsKnown (seen : Operands) (p : Place) : Type 0 where
  pub kind : OperandKind
  pub is : kind_of seen p.digit ≡ Some kind
  pub sort : p.sort ≡ sort_of kind

-- what was seen is what stands at these places
pub record Tells (seen : Operands) (ps : List Place) : Type 0 where
  pub ten : length seen.kinds ≡ 10
  pub known : All (IsKnown seen) ps
  pub told : (k : ℕ) (o : OperandKind) → kind_of seen k ≡ Some o → IsAmong ps k (sort_of o)
  pub agree : AllPairs AgreesWith ps

pub same_is : (o p : OperandKind) → same_kind o p ≡ true → o ≡ p
same_is Register Register e = refl
same_is Register Constant e = cc
same_is Register Symbol e = cc
same_is Register Label e = cc
same_is Constant Register e = cc
same_is Constant Constant e = refl
same_is Constant Symbol e = cc
same_is Constant Label e = cc
same_is Symbol Register e = cc
same_is Symbol Constant e = cc
same_is Symbol Symbol e = refl
same_is Symbol Label e = cc
same_is Label Register e = cc
same_is Label Constant e = cc
same_is Label Symbol e = cc
same_is Label Label e = refl

-- a digit that has a kind has the one that it may have
pub only_kind : (o p : OperandKind) (known : Option OperandKind) → known ≡ Some p → may_be o known ≡ true → p ≡ o
only_kind o p None e h = cc
only_kind o p (Some q) e h = let same : q ≡ p = cc in sym same ∙ same_is q o h

-- a digit that has a kind isn't new
not_new : (p : OperandKind) (known : Option OperandKind) → known ≡ Some p → is_new known ≡ true → ⊥
not_new p None e h = cc
not_new p (Some q) e h = cc

equal_or_not : (m n : ℕ) → (m ≡ n) ⊎ (m ≢ n)
equal_or_not m n = elim (m == n) as (λ b. (m == n) ≡ b → (m ≡ n) ⊎ (m ≢ n)) [
  | true ↦ (λ e. inl (eqb-true m n e))
  | false ↦ (λ e. inr (λ h. let t : (m == n) ≡ true = eq-eqb m n h in cc))
] refl

none_of_ten : (k : ℕ) (o : OperandKind) → kind_of none_seen k ≡ Some o → ⊥
none_of_ten zero o e = cc
none_of_ten (suc zero) o e = cc
none_of_ten (suc (suc zero)) o e = cc
none_of_ten (suc (suc (suc zero))) o e = cc
none_of_ten (suc (suc (suc (suc zero)))) o e = cc
none_of_ten (suc (suc (suc (suc (suc zero))))) o e = cc
none_of_ten (suc (suc (suc (suc (suc (suc zero)))))) o e = cc
none_of_ten (suc (suc (suc (suc (suc (suc (suc zero))))))) o e = cc
none_of_ten (suc (suc (suc (suc (suc (suc (suc (suc zero)))))))) o e = cc
none_of_ten (suc (suc (suc (suc (suc (suc (suc (suc (suc zero))))))))) o e = cc
none_of_ten (suc (suc (suc (suc (suc (suc (suc (suc (suc (suc k)))))))))) o e = cc

pub none_told : Tells none_seen []
none_told = record {
  ten = refl;
  known = All-nil (IsKnown none_seen);
  told = λ k o e. absurd (none_of_ten k o e);
  agree = λ i j d h k. absurd (omega (arith, k));
}

-- the kind of the digit itself, and that of another
kind_here : (seen : Operands) (o : OperandKind) (k : ℕ) → k < length seen.kinds → kind_of (with_operand seen o k) k
    ≡ Some o
kind_here seen o k h = get_or-set_same seen.kinds k (Some o) None h

kind_there : (seen : Operands) (o : OperandKind) (k j : ℕ) → j ≢ k → kind_of (with_operand seen o k) j ≡ kind_of seen j
kind_there seen o k j h = get_or-set_other seen.kinds k j (Some o) None h

-- what was known stays known
still_known : (seen : Operands) (o : OperandKind) (k : ℕ) (p : Place) → k < length seen.kinds
    → may_be o (kind_of seen k) ≡ true
    → IsKnown seen p → (p.digit ≡ k) ⊎ (p.digit ≢ k) → IsKnown (with_operand seen o k) p
still_known seen o k p small may h (inl e) =
    let was : kind_of seen k ≡ Some h.kind = ap (kind_of seen) (sym e) ∙ h.is in
    record {
      kind = o;
      is = ap (kind_of (with_operand seen o k)) e ∙ kind_here seen o k small;
      sort = h.sort
          ∙ ap sort_of (only_kind o h.kind (kind_of seen k) was may);
    }
still_known seen o k p small may h (inr n) = record {
  kind = h.kind;
  is = kind_there seen o k p.digit n ∙ h.is;
  sort = h.sort;
}

-- what holds of a place and the next one
agrees : (seen : Operands) (o : OperandKind) (k : ℕ) (ranged : Bool) (p : Place) → may_be o (kind_of seen k) ≡ true
    → (ranged ≡ true → is_new (kind_of seen k) ≡ true)
    → IsKnown seen p → AgreesWith p (place k (sort_of o) ranged)
agrees seen o k ranged p may new h = record {
  one_sort = λ e. h.sort ∙ ap sort_of (only_kind o h.kind (kind_of seen k) (ap (kind_of seen) (sym e) ∙ h.is) may);
  range_first = λ e. first ranged new (ap (kind_of seen) (sym e) ∙ h.is);
}
  where
    first : (b : Bool) → (b ≡ true → is_new (kind_of seen k) ≡ true) → kind_of seen k ≡ Some h.kind → b ≡ false
    first true new is = absurd (not_new h.kind (kind_of seen k) is (new refl))
    first false new is = refl

pub among_left : (ps qs : List Place) (k : ℕ) (s : Sort) → IsAmong ps k s → IsAmong (ps ++ qs) k s
among_left ps qs k s h = record { ranged = h.ranged; among = Contains-append_left ps qs (place k s h.ranged) h.among }

among_next : (ps : List Place) (k : ℕ) (s : Sort) (ranged : Bool) → IsAmong (ps ++ place k s ranged ∷ []) k s
among_next ps k s ranged = record {
  ranged = ranged;
  among = Contains-append_right ps (place k s ranged ∷ [])
      (place k s ranged) (0, omega arith, refl);
}

some_is : {A : Type 0} {x y : A} → ◌≡◌ {A = Option A} (Some x) (Some y) → x ≡ y
some_is e = cc

-- the digit's own kind, or one that was there
told_on : (seen : Operands) (o : OperandKind) (k : ℕ) (ranged : Bool) (ps : List Place) (j : ℕ) (q : OperandKind)
    → k < length seen.kinds
    → ((j : ℕ) (q : OperandKind) → kind_of seen j ≡ Some q → IsAmong ps j (sort_of q))
    → kind_of (with_operand seen o k) j ≡ Some q
    → (j ≡ k) ⊎ (j ≢ k) → IsAmong (ps ++ place k (sort_of o) ranged ∷ []) j (sort_of q)
told_on seen o k ranged ps j q small told is (inl e) =
    let same : o ≡ q = some_is (sym (kind_here seen o k small) ∙ ap (kind_of (with_operand seen o k)) (sym e) ∙ is) in
    subst (λ (i : ℕ). IsAmong (ps ++ place k (sort_of o) ranged ∷ []) i (sort_of q)) (sym e)
    (subst (λ (p : OperandKind). IsAmong (ps ++ place k (sort_of o) ranged ∷ []) k (sort_of p)) same
    (among_next ps k (sort_of o) ranged))
told_on seen o k ranged ps j q small told is (inr n) =
    among_left ps (place k (sort_of o) ranged ∷ []) j (sort_of q) (told j q (sym (kind_there seen o k j n) ∙ is))

-- one operand more
pub told_more : (seen : Operands) (o : OperandKind) (k : ℕ) (ranged : Bool) (ps : List Place) → k < 10
    → may_be o (kind_of seen k) ≡ true
    → (ranged ≡ true → is_new (kind_of seen k) ≡ true) → Tells seen ps → Tells (with_operand seen o k)
    (ps ++ place k (sort_of o) ranged ∷ [])
told_more seen o k ranged ps small may new h =
    let within : k < length seen.kinds = omega (arith, h.ten) in
    record {
      ten = length-set seen.kinds k (Some o) ∙ h.ten;
      known = All-push (IsKnown (with_operand seen o k)) ps (place k (sort_of o) ranged)
          (All-weaker _ _ (λ p g. still_known seen o k p within may g (equal_or_not p.digit k)) ps h.known)
          (record { kind = o; is = kind_here seen o k within; sort = refl });
      told = λ j q is. told_on seen o k ranged ps j q within h.told is (equal_or_not j k);
      agree = all_pairs_push AgreesWith ps (place k (sort_of o) ranged) h.agree
          (λ i d l. agrees seen o k ranged _ may new (h.known i d l));
    }
