-- The questions that a rule keeps: those that have a hole, each once. What answers them alike answers all that were
-- met alike.
use Rattle.std.proofs.Common.{◌≡◌, ℕ, zero, suc, Bool, true, false, List, [], ◌∷◌, ◌++◌, refl, sym, ◌∙◌, ap}
use Rattle.std.specs.Prelude.{◌&&◌, ◌||◌, not, if◌then◌else◌, ℤ, All}
use Rattle.std.specs.List.{list_any}
use Rattle.std.specs.Ordering.{int_eq}
use Rattle.std.specs.Cmp.{signed_Decides}
use Rattle.std.proofs.lemmas.Bool.{eqb-true}
use Rattle.std.proofs.lemmas.List.Elements.{All-head, All-tail, All-cons, All-nil, All-append}
use Rattle.po_word.specs.declared.operator.Un.{Un}
use Rattle.po_word.specs.declared.operator.Un.TheVariants.{Neg, Not}
use Rattle.po_word.specs.declared.operator.Bin.{Bin}
use Rattle.po_word.specs.declared.operator.Bin.TheVariants.{Add, Sub, Mul, And, Or, Xor, Shl, Sar, Shr}
use Rattle.po_word.specs.declared.operator.Rel.{Rel}
use Rattle.po_word.specs.declared.operator.Rel.TheVariants.{Eq, Ne, Lt, Le, Gt, Ge, Ltu, Geu}
use Rattle.po_word.specs.Exprs.{Expr, Number, AtHole, UnOf, BinOf, Log2Of, Ask, Zero, One, Ones, Pow2, Within, Same}
use Rattle.po_word.specs.Exprs.{Related, ask_map, is_so, expr_value}
use Rattle.po_model.specs.Operators.{un_eq, bin_eq, rel_eq, un_place, bin_place, rel_place}
use Rattle.po_model.specs.Holed.{Asked}
use Rattle.po_model.specs.Generalised.{expr_eq, ask_eq, has_hole, asks_hole, keep_asked, path}
use Rattle.po_simplify.proofs.Instances.{AnswerAlike}

-- The tests of sameness tell that two are one

abbrev un_at : ℕ → Un
un_at zero = Neg
un_at n = Not

un_is : (o p : Un) → un_eq o p ≡ true → o ≡ p
un_is o p h = back o ∙ ap un_at (eqb-true (un_place o) (un_place p) h) ∙ sym (back p)
  where
    back : (q : Un) → q ≡ un_at (un_place q)
    back Neg = refl
    back Not = refl

abbrev bin_at : ℕ → Bin
bin_at zero = Add
bin_at (suc zero) = Sub
bin_at (suc (suc zero)) = Mul
bin_at (suc (suc (suc zero))) = And
bin_at (suc (suc (suc (suc zero)))) = Or
bin_at (suc (suc (suc (suc (suc zero))))) = Xor
bin_at (suc (suc (suc (suc (suc (suc zero)))))) = Shl
bin_at (suc (suc (suc (suc (suc (suc (suc zero))))))) = Sar
bin_at n = Shr

bin_is : (o p : Bin) → bin_eq o p ≡ true → o ≡ p
bin_is o p h = back o ∙ ap bin_at (eqb-true (bin_place o) (bin_place p) h) ∙ sym (back p)
  where
    back : (q : Bin) → q ≡ bin_at (bin_place q)
    back Add = refl
    back Sub = refl
    back Mul = refl
    back And = refl
    back Or = refl
    back Xor = refl
    back Shl = refl
    back Sar = refl
    back Shr = refl

abbrev rel_at : ℕ → Rel
rel_at zero = Eq
rel_at (suc zero) = Ne
rel_at (suc (suc zero)) = Lt
rel_at (suc (suc (suc zero))) = Le
rel_at (suc (suc (suc (suc zero)))) = Gt
rel_at (suc (suc (suc (suc (suc zero))))) = Ge
rel_at (suc (suc (suc (suc (suc (suc zero)))))) = Ltu
rel_at n = Geu

rel_is : (o p : Rel) → rel_eq o p ≡ true → o ≡ p
rel_is o p h = back o ∙ ap rel_at (eqb-true (rel_place o) (rel_place p) h) ∙ sym (back p)
  where
    back : (q : Rel) → q ≡ rel_at (rel_place q)
    back Eq = refl
    back Ne = refl
    back Lt = refl
    back Le = refl
    back Gt = refl
    back Ge = refl
    back Ltu = refl
    back Geu = refl

both_true : (b c : Bool) → (b && c) ≡ true → (b ≡ true) × (c ≡ true)
both_true true true h = (refl, refl)
both_true true false h = absurd (cc)
both_true false c h = absurd (cc)

neither : (b c : Bool) → (b || c) ≡ false → (b ≡ false) × (c ≡ false)
neither false false h = (refl, refl)
neither false true h = absurd (cc)
neither true c h = absurd (cc)

int_is : (x y : ℤ) → int_eq x y ≡ true → x ≡ y
int_is x y h = (signed_Decides x y).0 h

expr_is : (x y : Expr) → expr_eq x y ≡ true → x ≡ y
expr_is (Number c) (Number d) h = ap Number (eqb-true c d h)
expr_is (AtHole j) (AtHole k) h = ap AtHole (eqb-true j k h)
expr_is (UnOf o x) (UnOf p y) h = let b = both_true (un_eq o p) (expr_eq x y) h in
    rw (un_is o p b.0, expr_is x y b.1) refl
expr_is (BinOf o x u) (BinOf p y w) h =
    let b = both_true (bin_eq o p && expr_eq x y) (expr_eq u w) h in
    let c = both_true (bin_eq o p) (expr_eq x y) b.0 in
    rw (bin_is o p c.0, expr_is x y c.1, expr_is u w b.1) refl
expr_is (Log2Of x) (Log2Of y) h = ap Log2Of (expr_is x y h)
expr_is (Number c) (AtHole k) h = absurd (cc)
expr_is (Number c) (UnOf p y) h = absurd (cc)
expr_is (Number c) (BinOf p y w) h = absurd (cc)
expr_is (Number c) (Log2Of y) h = absurd (cc)
expr_is (AtHole j) (Number d) h = absurd (cc)
expr_is (AtHole j) (UnOf p y) h = absurd (cc)
expr_is (AtHole j) (BinOf p y w) h = absurd (cc)
expr_is (AtHole j) (Log2Of y) h = absurd (cc)
expr_is (UnOf o x) (Number d) h = absurd (cc)
expr_is (UnOf o x) (AtHole k) h = absurd (cc)
expr_is (UnOf o x) (BinOf p y w) h = absurd (cc)
expr_is (UnOf o x) (Log2Of y) h = absurd (cc)
expr_is (BinOf o x u) (Number d) h = absurd (cc)
expr_is (BinOf o x u) (AtHole k) h = absurd (cc)
expr_is (BinOf o x u) (UnOf p y) h = absurd (cc)
expr_is (BinOf o x u) (Log2Of y) h = absurd (cc)
expr_is (Log2Of x) (Number d) h = absurd (cc)
expr_is (Log2Of x) (AtHole k) h = absurd (cc)
expr_is (Log2Of x) (UnOf p y) h = absurd (cc)
expr_is (Log2Of x) (BinOf p y w) h = absurd (cc)

pub ask_is : (q r : Ask Expr) → ask_eq q r ≡ true → q ≡ r
ask_is (Zero x) (Zero y) h = ap Zero (expr_is x y h)
ask_is (One x) (One y) h = ap One (expr_is x y h)
ask_is (Ones x) (Ones y) h = ap Ones (expr_is x y h)
ask_is (Pow2 x) (Pow2 y) h = ap Pow2 (expr_is x y h)
ask_is (Within x lo hi) (Within y low high) h =
    let b = both_true (expr_eq x y && int_eq lo low) (int_eq hi high) h in
    let c = both_true (expr_eq x y) (int_eq lo low) b.0 in
    rw (expr_is x y c.0, int_is lo low c.1, int_is hi high b.1) refl
ask_is (Same x u) (Same y w) h = let b = both_true (expr_eq x y) (expr_eq u w) h in
    rw (expr_is x y b.0, expr_is u w b.1) refl
ask_is (Related r x u) (Related s y w) h =
    let b = both_true (rel_eq r s && expr_eq x y) (expr_eq u w) h in
    let c = both_true (rel_eq r s) (expr_eq x y) b.0 in
    rw (rel_is r s c.0, expr_is x y c.1, expr_is u w b.1) refl
ask_is (Zero x) (One y) h = absurd (cc)
ask_is (Zero x) (Ones y) h = absurd (cc)
ask_is (Zero x) (Pow2 y) h = absurd (cc)
ask_is (Zero x) (Within y lo hi) h = absurd (cc)
ask_is (Zero x) (Same y w) h = absurd (cc)
ask_is (Zero x) (Related r y w) h = absurd (cc)
ask_is (One x) (Zero y) h = absurd (cc)
ask_is (One x) (Ones y) h = absurd (cc)
ask_is (One x) (Pow2 y) h = absurd (cc)
ask_is (One x) (Within y lo hi) h = absurd (cc)
ask_is (One x) (Same y w) h = absurd (cc)
ask_is (One x) (Related r y w) h = absurd (cc)
ask_is (Ones x) (Zero y) h = absurd (cc)
ask_is (Ones x) (One y) h = absurd (cc)
ask_is (Ones x) (Pow2 y) h = absurd (cc)
ask_is (Ones x) (Within y lo hi) h = absurd (cc)
ask_is (Ones x) (Same y w) h = absurd (cc)
ask_is (Ones x) (Related r y w) h = absurd (cc)
ask_is (Pow2 x) (Zero y) h = absurd (cc)
ask_is (Pow2 x) (One y) h = absurd (cc)
ask_is (Pow2 x) (Ones y) h = absurd (cc)
ask_is (Pow2 x) (Within y lo hi) h = absurd (cc)
ask_is (Pow2 x) (Same y w) h = absurd (cc)
ask_is (Pow2 x) (Related r y w) h = absurd (cc)
ask_is (Within x lo hi) (Zero y) h = absurd (cc)
ask_is (Within x lo hi) (One y) h = absurd (cc)
ask_is (Within x lo hi) (Ones y) h = absurd (cc)
ask_is (Within x lo hi) (Pow2 y) h = absurd (cc)
ask_is (Within x lo hi) (Same y w) h = absurd (cc)
ask_is (Within x lo hi) (Related r y w) h = absurd (cc)
ask_is (Same x u) (Zero y) h = absurd (cc)
ask_is (Same x u) (One y) h = absurd (cc)
ask_is (Same x u) (Ones y) h = absurd (cc)
ask_is (Same x u) (Pow2 y) h = absurd (cc)
ask_is (Same x u) (Within y lo hi) h = absurd (cc)
ask_is (Same x u) (Related r y w) h = absurd (cc)
ask_is (Related r x u) (Zero y) h = absurd (cc)
ask_is (Related r x u) (One y) h = absurd (cc)
ask_is (Related r x u) (Ones y) h = absurd (cc)
ask_is (Related r x u) (Pow2 y) h = absurd (cc)
ask_is (Related r x u) (Within y lo hi) h = absurd (cc)
ask_is (Related r x u) (Same y w) h = absurd (cc)

-- What has no hole has one word

closed_value : (ws us : List ℕ) (x : Expr) → has_hole x ≡ false → expr_value us x ≡ expr_value ws x
closed_value ws us (Number c) h = refl
closed_value ws us (AtHole k) h = absurd (cc)
closed_value ws us (UnOf o x) h = rw (closed_value ws us x h) refl
closed_value ws us (BinOf o x y) h = let b = neither (has_hole x) (has_hole y) h in
    rw (closed_value ws us x b.0, closed_value ws us y b.1) refl
closed_value ws us (Log2Of x) h = rw (closed_value ws us x h) refl

abbrev pub says : List ℕ → Ask Expr → Bool
says ws q = is_so (ask_map (expr_value ws) q)

closed_answer : (ws us : List ℕ) (q : Ask Expr) → asks_hole q ≡ false → says us q ≡ says ws q
closed_answer ws us (Zero x) h = rw (closed_value ws us x h) refl
closed_answer ws us (One x) h = rw (closed_value ws us x h) refl
closed_answer ws us (Ones x) h = rw (closed_value ws us x h) refl
closed_answer ws us (Pow2 x) h = rw (closed_value ws us x h) refl
closed_answer ws us (Within x lo hi) h = rw (closed_value ws us x h) refl
closed_answer ws us (Same x y) h = let b = neither (has_hole x) (has_hole y) h in
    rw (closed_value ws us x b.0, closed_value ws us y b.1) refl
closed_answer ws us (Related r x y) h = let b = neither (has_hole x) (has_hole y) h in
    rw (closed_value ws us x b.0, closed_value ws us y b.1) refl

-- The kept questions

-- the words give each question the answer kept beside it
abbrev pub Gives : List ℕ → Ask Expr × Bool → Type 0
Gives ws qa = says ws qa.0 ≡ qa.1

abbrev pub is_kept : Ask Expr → Asked → Bool
is_kept q kept = list_any (λ qa. ask_eq q qa.0) kept

abbrev pub with_one : List ℕ → Ask Expr → Asked → Bool → Asked
with_one ws q kept b = if b then kept ++ (q, says ws q) ∷ [] else kept

append_left : (P : Ask Expr × Bool → Type 0) (xs ys : Asked) → All P (xs ++ ys) → All P xs
append_left P [] ys h = All-nil P
append_left P (x ∷ xs) ys h =
    All-cons P x xs (All-head P x (xs ++ ys) h) (append_left P xs ys (All-tail P x (xs ++ ys) h))

append_right : (P : Ask Expr × Bool → Type 0) (xs ys : Asked) → All P (xs ++ ys) → All P ys
append_right P [] ys h = h
append_right P (x ∷ xs) ys h = append_right P xs ys (All-tail P x (xs ++ ys) h)

-- what holds of the longer list holds of the shorter
kept_before : (P : Ask Expr × Bool → Type 0) (ws : List ℕ) (q : Ask Expr) (kept : Asked) (b : Bool)
    → All P (with_one ws q kept b) → All P kept
kept_before P ws q kept true h = append_left P kept ((q, says ws q) ∷ []) h
kept_before P ws q kept false h = h

path_before : (P : Ask Expr × Bool → Type 0) (ws : List ℕ) (kept : Asked) (qs : List (Ask Expr))
    → All P (path ws kept qs) → All P kept
path_before P ws kept [] h = h
path_before P ws kept (q ∷ qs) h =
    kept_before P ws q kept (asks_hole q && not (is_kept q kept)) (path_before P ws (keep_asked ws kept q) qs h)

-- words that keep the answers of a list answer each question of it alike
found_alike : (ws us : List ℕ) (q : Ask Expr) (kept : Asked) → All (Gives ws) kept → All (Gives us) kept
    → is_kept q kept ≡ true → says us q ≡ says ws q
found_alike ws us q [] h i e = absurd (cc)
found_alike ws us q (x ∷ kept) h i e =
    go (ask_eq q x.0) refl e (found_alike ws us q kept (All-tail (Gives ws) x kept h) (All-tail (Gives us) x kept i))
  where
    go : (b : Bool) → ask_eq q x.0 ≡ b → (b || is_kept q kept) ≡ true
        → (is_kept q kept ≡ true → says us q ≡ says ws q) → says us q ≡ says ws q
    go true t e later = ap (says us) (ask_is q x.0 t) ∙ All-head (Gives us) x kept i
        ∙ sym (All-head (Gives ws) x kept h) ∙ sym (ap (says ws) (ask_is q x.0 t))
    go false t e later = later e

-- a question that isn't kept now has no hole, or is kept already
one_alike : (ws us : List ℕ) (q : Ask Expr) (kept : Asked) → All (Gives ws) kept → (b : Bool)
    → (asks_hole q && not (is_kept q kept)) ≡ b → All (Gives us) (with_one ws q kept b) → says us q ≡ says ws q
one_alike ws us q kept h true e i =
    All-head (Gives us) (q, says ws q) [] (append_right (Gives us) kept ((q, says ws q) ∷ []) i)
one_alike ws us q kept h false e i = go (asks_hole q) (is_kept q kept) refl refl e
  where
    go : (b c : Bool) → asks_hole q ≡ b → is_kept q kept ≡ c → (b && not c) ≡ false → says us q ≡ says ws q
    go false c t u e = closed_answer ws us q t
    go true true t u e = found_alike ws us q kept h i u
    go true false t u e = absurd (cc)

-- the words keep the answers of the longer list
gives_one : (ws : List ℕ) (q : Ask Expr) (kept : Asked) → All (Gives ws) kept → (b : Bool)
    → All (Gives ws) (with_one ws q kept b)
gives_one ws q kept h true =
    All-append (Gives ws) kept ((q, says ws q) ∷ []) h
    (All-cons (Gives ws) (q, says ws q) [] refl (All-nil (Gives ws)))
gives_one ws q kept h false = h

pub path_gives : (ws : List ℕ) (kept : Asked) (qs : List (Ask Expr)) → All (Gives ws) kept
    → All (Gives ws) (path ws kept qs)
path_gives ws kept [] h = h
path_gives ws kept (q ∷ qs) h =
    path_gives ws (keep_asked ws kept q) qs (gives_one ws q kept h (asks_hole q && not (is_kept q kept)))

-- words that keep the answers of the path answer all questions alike
pub path_alike : (ws us : List ℕ) (kept : Asked) (qs : List (Ask Expr)) → All (Gives ws) kept
    → All (Gives us) (path ws kept qs) → AnswerAlike ws us qs
path_alike ws us kept [] h i = tt
path_alike ws us kept (q ∷ qs) h i = (
  one_alike ws us q kept h (asks_hole q && not (is_kept q kept)) refl
      (path_before (Gives us) ws (keep_asked ws kept q) qs i),
  path_alike ws us (keep_asked ws kept q) qs (gives_one ws q kept h (asks_hole q && not (is_kept q kept))) i,
)

-- and they have one path
pub path_same : (ws us : List ℕ) (kept : Asked) (qs : List (Ask Expr)) → AnswerAlike ws us qs
    → path us kept qs ≡ path ws kept qs
path_same ws us kept [] h = refl
path_same ws us kept (q ∷ qs) h =
    ap (λ (b : Bool). path us (if asks_hole q && not (is_kept q kept) then kept ++ (q, b) ∷ [] else kept) qs) h.0
    ∙ path_same ws us (keep_asked ws kept q) qs h.1
