-- One walk says what the definition says in two steps: the operands are filled exactly where what is found agrees and
-- each question has the answer yes, and then they are what the operands stand for.
use Rattle.std.proofs.Common.{◌≡◌, ℕ, zero, ◌<◌, arith, eq-eqb, append-nil, Bool, true, false, List, [], ◌∷◌, ◌++◌}
use Rattle.std.proofs.Common.{Option, Some, None, refl, ap, sym, ◌∙◌, subst, append_assoc, suc, map}
use Rattle.std.specs.Prelude.{◌&&◌, ◌==◌, nat_lt, if◌then◌else◌, is_some, slice_get, slice_set}
use Rattle.std.specs.List.{list_all}
use Rattle.std.specs.Option.{option_map}
use Rattle.std.proofs.lemmas.Bool.{eqb-true, ltb-true, ltb-false}
use Rattle.std.proofs.lemmas.Option.{slice_get-map, slice_get_past}
use Rattle.po_word.specs.Exprs.{Ask, Within, Same, is_so}
use Rattle.po_word.specs.Words.{signed}
use Rattle.po_term.specs.declared.term.Reg.{Reg as Register}
use Rattle.po_term.specs.declared.term.Reg.TheVariants.{Virt, Fp, Rv, Arg}
use Rattle.po_term.specs.declared.term.Sym.{Sym as Symbol}
use Rattle.po_term.specs.Kinds.{Met, words, give, and_then}
use Rattle.po_term.specs.Simplified.{reg_eq}
use Rattle.po_term.specs.Moves.{PlainInstr}
use Rattle.po_model.specs.declared.machine.Bounds.{Bounds}
use Rattle.po_model.specs.declared.machine.Entry.{Entry}
use Rattle.po_model.specs.Patterns.{pat_moves_of}
use Rattle.po_model.specs.Fit.{Found, AtNumber, AtOperand, Thing, ARegister, AConstant, ASymbol, ALabel, operand_of}
use Rattle.po_model.specs.Fit.{same_thing, is_like, agrees, all_agree, question, questions, all_yes, only_if, answered}
use Rattle.po_model.specs.Fit.{moves_found, entry_fit}
use Rattle.po_recog.specs.declared.answer.Operand.{Operand}
use Rattle.po_recog.specs.Operands.{operand_from, digits, operand_at, operands_in}
use Rattle.po_recog.specs.Taken.{Slots, same_operand, lies_in, put_behind, taken_one, and_on, taken, taken_if}
use Rattle.po_model.specs.Parts.{code_leaves}

abbrev One : Type 0
One = Found ℕ Register Symbol

abbrev It : Type 0
It = Thing ℕ Register Symbol

-- Agreement from left to right

abbrev agree_behind : List One → List One → Bool
agree_behind before [] = true
agree_behind before (f ∷ fs) = agrees code_leaves before f && agree_behind (before ++ f ∷ []) fs

same_number : (n : ℕ) → (n == n) ≡ true
same_number n = eq-eqb n n refl

same_as_itself : (x : It) → same_thing code_leaves x x ≡ true
same_as_itself (ARegister (Virt n)) = same_number n
same_as_itself (ARegister Fp) = refl
same_as_itself (ARegister Rv) = refl
same_as_itself (ARegister (Arg n)) = same_number n
same_as_itself (AConstant c) = refl
same_as_itself (ASymbol s) = same_number s.0
same_as_itself (ALabel l) = same_number l.0

-- an operand agrees with itself, and with what stands before it
like_here : (before fs : List One) (k : ℕ) (range : Option Bounds) (x : It)
    → is_like code_leaves (operand_of k (before ++ AtOperand k range x ∷ fs)) x
    ≡ is_like code_leaves (operand_of k before) x
like_here [] fs k range x = rw (same_number k) (same_as_itself x)
like_here (AtNumber n c ∷ before) fs k range x = like_here before fs k range x
like_here (AtOperand j r y ∷ before) fs k range x = go (k == j) (like_here before fs k range x)
  where
    go : (b : Bool)
        → is_like code_leaves (operand_of k (before ++ AtOperand k range x ∷ fs)) x
        ≡ is_like code_leaves (operand_of k before) x
        → is_like code_leaves (if b then Some y else operand_of k (before ++ AtOperand k range x ∷ fs)) x
        ≡ is_like code_leaves (if b then Some y else operand_of k before) x
    go true h = refl
    go false h = h

agrees_here : (before fs : List One) (f : One) → agrees code_leaves (before ++ f ∷ fs) f ≡ agrees code_leaves before f
agrees_here before fs (AtNumber n c) = refl
agrees_here before fs (AtOperand k range x) = ap (λ b. nat_lt k 10 && b) (like_here before fs k range x)

all_behind : (fs before : List One) → list_all (agrees code_leaves (before ++ fs)) fs ≡ agree_behind before fs
all_behind [] before = refl
all_behind (f ∷ fs) before =
    ap (λ b. b && list_all (agrees code_leaves (before ++ f ∷ fs)) fs) (agrees_here before fs f)
    ∙ ap (λ b. agrees code_leaves before f && b)
    (subst (λ (l : List One). list_all (agrees code_leaves l) fs ≡ agree_behind (before ++ f ∷ []) fs)
    (append_assoc before (f ∷ []) fs) (all_behind fs (before ++ f ∷ [])))

-- Answers from left to right

abbrev yes_to : List (Ask ℕ) → Bool
yes_to qs = (all_yes words qs).got

yes_to-append : (qs rs : List (Ask ℕ)) → yes_to (qs ++ rs) ≡ yes_to qs && yes_to rs
yes_to-append [] rs = refl
yes_to-append (q ∷ qs) rs = go (is_so q) (yes_to-append qs rs)
  where
    go : (b : Bool) → yes_to (qs ++ rs) ≡ yes_to qs && yes_to rs
        → (if b then all_yes words (qs ++ rs) else give {K = ℕ} false).got
        ≡ (if b then all_yes words qs else give {K = ℕ} false).got && yes_to rs
    go true h = h
    go false h = refl

yes_to-one : (q : Ask ℕ) → yes_to (q ∷ []) ≡ is_so q
yes_to-one q = go (is_so q)
  where
    go : (b : Bool) → (if b then give {K = ℕ} true else give {K = ℕ} false).got ≡ b
    go true = refl
    go false = refl

-- The ten operands

map-same : (g h : ℕ → Option Operand) → ((k : ℕ) → g k ≡ h k) → (ks : List ℕ) → map g ks ≡ map h ks
map-same g h same [] = refl
map-same g h same (k ∷ ks) = rw (same k, map-same g h same ks) refl

digit_at : (k : ℕ) → nat_lt k 10 ≡ true → slice_get digits k ≡ Some k
digit_at zero h = refl
digit_at (suc zero) h = refl
digit_at (suc (suc zero)) h = refl
digit_at (suc (suc (suc zero))) h = refl
digit_at (suc (suc (suc (suc zero)))) h = refl
digit_at (suc (suc (suc (suc (suc zero))))) h = refl
digit_at (suc (suc (suc (suc (suc (suc zero)))))) h = refl
digit_at (suc (suc (suc (suc (suc (suc (suc zero))))))) h = refl
digit_at (suc (suc (suc (suc (suc (suc (suc (suc zero)))))))) h = refl
digit_at (suc (suc (suc (suc (suc (suc (suc (suc (suc zero))))))))) h = refl
digit_at (suc (suc (suc (suc (suc (suc (suc (suc (suc (suc k)))))))))) h =
    let below : suc (suc (suc (suc (suc (suc (suc (suc (suc (suc k))))))))) < 10 =
    ltb-true (suc (suc (suc (suc (suc (suc (suc (suc (suc (suc k)))))))))) 10 h in
    absurd (omega arith)

abbrev with_one : (ℕ → Option It) → ℕ → It → ℕ → Option Operand
with_one g k x j = option_map operand_from (if j == k then Some x else g j)

set_at : (k : ℕ) → nat_lt k 10 ≡ true → (g : ℕ → Option It) (x : It)
    → slice_set (map (λ j. option_map operand_from (g j)) digits) k (Some (operand_from x))
    ≡ map (with_one g k x) digits
set_at zero h g x = refl
set_at (suc zero) h g x = refl
set_at (suc (suc zero)) h g x = refl
set_at (suc (suc (suc zero))) h g x = refl
set_at (suc (suc (suc (suc zero)))) h g x = refl
set_at (suc (suc (suc (suc (suc zero))))) h g x = refl
set_at (suc (suc (suc (suc (suc (suc zero)))))) h g x = refl
set_at (suc (suc (suc (suc (suc (suc (suc zero))))))) h g x = refl
set_at (suc (suc (suc (suc (suc (suc (suc (suc zero)))))))) h g x = refl
set_at (suc (suc (suc (suc (suc (suc (suc (suc (suc zero))))))))) h g x = refl
set_at (suc (suc (suc (suc (suc (suc (suc (suc (suc (suc k)))))))))) h g x =
    let below : suc (suc (suc (suc (suc (suc (suc (suc (suc (suc k))))))))) < 10 =
    ltb-true (suc (suc (suc (suc (suc (suc (suc (suc (suc (suc k)))))))))) 10 h in
    absurd (omega arith)

get_at : (before : List One) (k : ℕ) → nat_lt k 10 ≡ true
    → slice_get (operands_in before) k ≡ Some (operand_at before k)
get_at before k h = slice_get-map (operand_at before) digits k ∙ ap (option_map (operand_at before)) (digit_at k h)

-- a number changes nothing
number_behind : (before : List One) (n c k : ℕ) → operand_of k (before ++ AtNumber n c ∷ []) ≡ operand_of k before
number_behind [] n c k = refl
number_behind (AtNumber m d ∷ before) n c k = number_behind before n c k
number_behind (AtOperand j r y ∷ before) n c k =
    ap (λ (o : Option It). if k == j then Some y else o) (number_behind before n c k)

-- a repeated operand changes nothing
abbrev or_first : Option It → Option It → Option It
or_first None o = o
or_first (Some y) o = Some y

if_or : (b : Bool) (y : It) (o p : Option It)
    → (if b then Some y else or_first o p) ≡ or_first (if b then Some y else o) p
if_or true y o p = refl
if_or false y o p = refl

operand_behind : (before : List One) (k : ℕ) (range : Option Bounds) (x : It) (j : ℕ)
    → operand_of j (before ++ AtOperand k range x ∷ [])
    ≡ or_first (operand_of j before) (if j == k then Some x else None)
operand_behind [] k range x j = refl
operand_behind (AtNumber m d ∷ before) k range x j = operand_behind before k range x j
operand_behind (AtOperand i r y ∷ before) k range x j =
    ap (λ (o : Option It). if j == i then Some y else o) (operand_behind before k range x j)
    ∙ if_or (j == i) y (operand_of j before) (if j == k then Some x else None)

or_none : (o : Option It) → or_first o None ≡ o
or_none None = refl
or_none (Some y) = refl

repeated : (before : List One) (k : ℕ) (range : Option Bounds) (x y : It) → operand_of k before ≡ Some y → (j : ℕ)
    → operand_of j (before ++ AtOperand k range x ∷ []) ≡ operand_of j before
repeated before k range x y h j = operand_behind before k range x j ∙ go (j == k) refl
  where
    go : (b : Bool) → (j == k) ≡ b → or_first (operand_of j before) (if b then Some x else None) ≡ operand_of j before
    go true e =
        let same : operand_of j before ≡ Some y = ap (λ i. operand_of i before) (eqb-true j k e) ∙ h in rw same refl
    go false e = or_none (operand_of j before)

-- a new one is added at its digit
added : (before : List One) (k : ℕ) (range : Option Bounds) (x : It) → operand_of k before ≡ None → (j : ℕ)
    → operand_at (before ++ AtOperand k range x ∷ []) j ≡ with_one (λ i. operand_of i before) k x j
added before k range x h j = ap (option_map operand_from) (operand_behind before k range x j ∙ go (j == k) refl)
  where
    go : (b : Bool) → (j == k) ≡ b
        → or_first (operand_of j before) (if b then Some x else None) ≡ (if b then Some x else operand_of j before)
    go true e =
        let same : operand_of j before ≡ None = ap (λ i. operand_of i before) (eqb-true j k e) ∙ h in rw same refl
    go false e = or_none (operand_of j before)

-- One thing

abbrev filled : Bool → List One → Option Slots
filled b fs = if b then Some (operands_in fs) else None

abbrev one_fits : List One → One → Bool
one_fits before f = agrees code_leaves before f && yes_to (question before f)

-- whether a first operand lies in its range
first_yes : (before : List One) (k : ℕ) (range : Option Bounds) (x : It) → operand_of k before ≡ None
    → lies_in range (operand_from x) ≡ yes_to (question before (AtOperand k range x))
first_yes before k None (AConstant c) h = rw h refl
first_yes before k (Some range) (AConstant c) h = rw h (sym (yes_to-one (Within c range.lo range.hi)))
first_yes before k None (ARegister r) h = refl
first_yes before k (Some range) (ARegister r) h = refl
first_yes before k None (ASymbol s) h = refl
first_yes before k (Some range) (ASymbol s) h = refl
first_yes before k None (ALabel l) h = refl
first_yes before k (Some range) (ALabel l) h = refl

and_true : (b : Bool) → (b && true) ≡ b
and_true true = refl
and_true false = refl

-- whether a later one is the first
later_same : (before : List One) (k : ℕ) (range : Option Bounds) (y x : It) → operand_of k before ≡ Some y
    → same_operand (operand_from y) (operand_from x)
    ≡ same_thing code_leaves y x && yes_to (question before (AtOperand k range x))
later_same before k range (AConstant d) (AConstant c) h = rw h (sym (yes_to-one (Same d c)))
later_same before k range (ARegister r) (AConstant c) h = refl
later_same before k range (ASymbol s) (AConstant c) h = refl
later_same before k range (ALabel l) (AConstant c) h = refl
later_same before k range (AConstant d) (ARegister q) h = refl
later_same before k range (ARegister r) (ARegister q) h = sym (and_true (reg_eq r q))
later_same before k range (ASymbol s) (ARegister q) h = refl
later_same before k range (ALabel l) (ARegister q) h = refl
later_same before k range (AConstant d) (ASymbol t) h = refl
later_same before k range (ARegister r) (ASymbol t) h = refl
later_same before k range (ASymbol s) (ASymbol t) h = sym (and_true (s.0 == t.0))
later_same before k range (ALabel l) (ASymbol t) h = refl
later_same before k range (AConstant d) (ALabel m) h = refl
later_same before k range (ARegister r) (ALabel m) h = refl
later_same before k range (ASymbol s) (ALabel m) h = refl
later_same before k range (ALabel l) (ALabel m) h = sym (and_true (l.0 == m.0))

first_put : (before : List One) (k : ℕ) (range : Option Bounds) (x : It) → nat_lt k 10 ≡ true
    → operand_of k before ≡ None
    → put_behind (Some None) k range (operand_from x) (operands_in before)
    ≡ filled (yes_to (question before (AtOperand k range x))) (before ++ AtOperand k range x ∷ [])
first_put before k range x digit h =
    ap (λ b. if b then Some (slice_set (operands_in before) k (Some (operand_from x))) else None)
    (first_yes before k range x h)
    ∙ ap (λ (ss : Slots). if yes_to (question before (AtOperand k range x)) then Some ss else None)
    (set_at k digit (λ j. operand_of j before) x
    ∙ sym (map-same (operand_at (before ++ AtOperand k range x ∷ [])) (with_one (λ i. operand_of i before) k x)
    (added before k range x h) digits))

later_put : (before : List One) (k : ℕ) (range : Option Bounds) (y x : It) → operand_of k before ≡ Some y
    → put_behind (Some (Some (operand_from y))) k range (operand_from x) (operands_in before)
    ≡ filled (same_thing code_leaves y x && yes_to (question before (AtOperand k range x)))
    (before ++ AtOperand k range x ∷ [])
later_put before k range y x h =
    ap (λ b. if b then Some (operands_in before) else None) (later_same before k range y x h)
    ∙ ap (λ (ss : Slots).
    if same_thing code_leaves y x && yes_to (question before (AtOperand k range x)) then Some ss else None)
    (sym (map-same (operand_at (before ++ AtOperand k range x ∷ [])) (operand_at before)
    (λ j. ap (option_map operand_from) (repeated before k range x y h j)) digits))

-- at a digit, by what stands there
operand_put : (before : List One) (k : ℕ) (range : Option Bounds) (x : It) → nat_lt k 10 ≡ true → (o : Option It)
    → operand_of k before ≡ o
    → put_behind (Some (option_map operand_from o)) k range (operand_from x) (operands_in before)
    ≡ filled (is_like code_leaves o x && yes_to (question before (AtOperand k range x)))
    (before ++ AtOperand k range x ∷ [])
operand_put before k range x digit None h = first_put before k range x digit h
operand_put before k range x digit (Some y) h = later_put before k range y x h

operand_taken : (before : List One) (k : ℕ) (range : Option Bounds) (x : It) (b : Bool) → nat_lt k 10 ≡ b
    → put_behind (slice_get (operands_in before) k) k range (operand_from x) (operands_in before)
    ≡ filled ((b && is_like code_leaves (operand_of k before) x) && yes_to (question before (AtOperand k range x)))
    (before ++ AtOperand k range x ∷ [])
operand_taken before k range x true h =
    ap (λ (o : Option (Option Operand)). put_behind o k range (operand_from x) (operands_in before))
    (get_at before k h)
    ∙ operand_put before k range x h (operand_of k before) refl
operand_taken before k range x false h =
    ap (λ (o : Option (Option Operand)). put_behind o k range (operand_from x) (operands_in before))
    (slice_get_past (operands_in before) k (ltb-false k 10 h))

one_taken : (before : List One) (f : One)
    → taken_one f (operands_in before) ≡ filled (one_fits before f) (before ++ f ∷ [])
one_taken before (AtNumber n c) =
    ap (λ (ss : Slots). if is_so (Within c (signed n) (signed n)) then Some ss else None)
    (sym (map-same (operand_at (before ++ AtNumber n c ∷ [])) (operand_at before)
    (λ j. ap (option_map operand_from) (number_behind before n c j)) digits))
    ∙ ap (λ b. filled b (before ++ AtNumber n c ∷ [])) (sym (yes_to-one (Within c (signed n) (signed n))))
one_taken before (AtOperand k range x) = operand_taken before k range x (nat_lt k 10) refl

-- All of them

joined : (a q : Bool) (ss us : Slots) (bs qs : Bool) (rest : Slots → Option Slots)
    → rest ss ≡ (if bs && qs then Some us else None)
    → and_on (if a && q then Some ss else None) rest ≡ (if (a && bs) && (q && qs) then Some us else None)
joined true true ss us bs qs rest h = h
joined true false ss us true qs rest h = refl
joined true false ss us false qs rest h = refl
joined false q ss us bs qs rest h = refl

all_taken : (fs before : List One)
    → taken fs (operands_in before) ≡ filled (agree_behind before fs && yes_to (questions before fs)) (before ++ fs)
all_taken [] before = ap (λ (l : List One). Some (operands_in l)) (sym (append-nil before))
all_taken (f ∷ fs) before =
    ap (λ (o : Option Slots). and_on o (taken fs)) (one_taken before f)
    ∙ joined (agrees code_leaves before f) (yes_to (question before f)) (operands_in (before ++ f ∷ []))
    (operands_in (before ++ f ∷ fs)) (agree_behind (before ++ f ∷ []) fs)
    (yes_to (questions (before ++ f ∷ []) fs)) (taken fs)
    (subst (λ (l : List One). taken fs (operands_in (before ++ f ∷ []))
    ≡ filled (agree_behind (before ++ f ∷ []) fs && yes_to (questions (before ++ f ∷ []) fs)) l)
    (append_assoc before (f ∷ []) fs) (all_taken fs (before ++ f ∷ [])))
    ∙ ap (λ b. filled ((agrees code_leaves before f && agree_behind (before ++ f ∷ []) fs) && b) (before ++ f ∷ fs))
    (sym (yes_to-append (question before f) (questions (before ++ f ∷ []) fs)))

answer_of : (a q : Bool) (fs : List One) (m : Met ℕ Bool) → m.got ≡ q
    → filled (a && q) fs
    ≡ option_map operands_in (if a then and_then m (λ yes. give (only_if yes fs)) else give {K = ℕ} None).got
answer_of true q fs m h = go m.got h
  where
    go : (b : Bool) → b ≡ q → filled q fs ≡ option_map operands_in (only_if b fs)
    go true e = ap (λ c. filled c fs) (sym e)
    go false e = ap (λ c. filled c fs) (sym e)
answer_of false q fs m h = refl

-- what a walk over all that is found leaves
pub answered_taken : (found : Option (List One))
    → taken_if found (operands_in []) ≡ option_map operands_in (answered code_leaves words found).got
answered_taken None = refl
answered_taken (Some fs) =
    all_taken fs []
    ∙ ap (λ b. filled (b && yes_to (questions [] fs)) fs) (sym (all_behind fs []))
    ∙ answer_of (all_agree code_leaves fs) (yes_to (questions [] fs)) fs (all_yes words (questions [] fs)) refl

-- what an entry's walk leaves, where its heads are the same
pub entry_filled : (e : Entry) (cc_live : Bool) (ms : PlainInstr) → (e.clobbers && cc_live) ≡ false
    → option_map operands_in (entry_fit code_leaves words cc_live e ms).got
    ≡ taken_if (moves_found code_leaves (pat_moves_of e.pattern) ms) (operands_in [])
entry_filled e cc_live ms h = rw h (sym (answered_taken (moves_found code_leaves (pat_moves_of e.pattern) ms)))

-- two that have one image are both there, or neither is
pub same_some : {A B C : Type 0} (f : A → C) (g : B → C) (x : Option A) (y : Option B)
    → option_map f x ≡ option_map g y → is_some x ≡ is_some y
same_some f g None None e = refl
same_some f g None (Some y) e = (cc)
same_some f g (Some x) None e = (cc)
same_some f g (Some x) (Some y) e = refl
