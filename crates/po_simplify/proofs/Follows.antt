-- The tables read over one kind of constants follow those read over another: where f takes the folds of the one to
-- those of the other, and the questions that were met are answered alike, the reading over the other meets the same
-- questions and gives the same. With f = putting words into expressions, it says that this commutes with simplifying;
-- with f = the identity, that words which answer alike have one path and one result.
use Rattle.std.proofs.Common.{◌≡◌, ℕ, Bool, true, false, List, [], ◌∷◌, ◌++◌, map, refl, ap, subst}
use Rattle.std.specs.Prelude.{if◌then◌else◌}
use Rattle.po_word.specs.declared.operator.Un.{Un}
use Rattle.po_word.specs.declared.operator.Un.TheVariants.{Neg, Not}
use Rattle.po_word.specs.declared.operator.Bin.{Bin}
use Rattle.po_word.specs.declared.operator.Bin.TheVariants.{Add, Sub, Mul, And, Or, Xor, Shl, Sar, Shr}
use Rattle.po_term.specs.Tree.{tree_map, Tree, Const, Leaf, Read, Unary, Binary}
use Rattle.po_word.specs.Exprs.{Ask, Zero, One, Ones, Pow2, ask_map}
use Rattle.po_term.specs.Kinds.{Kind, Met, give, and_then, ask}
use Rattle.po_term.specs.Simplified.{make_neg, make_not, plain, plus_const, minus_from, make_minus, make_plus}
use Rattle.po_term.specs.Simplified.{times_const, and_const, or_const, xor_const, make_swapped, make_shift, unary_of}
use Rattle.po_term.specs.Simplified.{binary_of, simple}

-- f takes the folds of the one kind to those of the other
pub record Carries {J K : Type 0} (j : Kind J) (k : Kind K) (f : J → K) : Type 0 where
  pub number : (n : ℕ) → f (j.number n) ≡ k.number n
  pub un : (o : Un) (c : J) → f (j.un o c) ≡ k.un o (f c)
  pub bin : (o : Bin) (c d : J) → f (j.bin o c d) ≡ k.bin o (f c) (f d)
  pub log2 : (c : J) → f (j.log2 c) ≡ k.log2 (f c)

-- both kinds answer these questions alike
abbrev pub Alike : {J K : Type 0} → Kind J → Kind K → (J → K) → List (Ask J) → Type 0
Alike j k f [] = Unit {0}
Alike j k f (q ∷ qs) = (k.says (ask_map f q) ≡ j.says q) × Alike j k f qs

abbrev pub met_map : {J K A B : Type 0} → (J → K) → (A → B) → Met J A → Met K B
met_map f h m = record { got = h m.got; asked = map (ask_map f) m.asked }

-- where the questions that m met are answered alike, m' is what m is carried to
abbrev pub Follows : {J K A B : Type 0} → Kind J → Kind K → (J → K) → (A → B) → Met J A → Met K B → Type 0
Follows j k f h m m' = Alike j k f m.asked → m' ≡ met_map f h m

pub alike-left : {J K : Type 0} (j : Kind J) (k : Kind K) (f : J → K) (xs ys : List (Ask J)) → Alike j k f (xs ++ ys)
    → Alike j k f xs
alike-left j k f [] ys h = tt
alike-left j k f (q ∷ xs) ys h = (h.0, alike-left j k f xs ys h.1)

pub alike-right : {J K : Type 0} (j : Kind J) (k : Kind K) (f : J → K) (xs ys : List (Ask J)) → Alike j k f (xs ++ ys)
    → Alike j k f ys
alike-right j k f [] ys h = h
alike-right j k f (q ∷ xs) ys h = alike-right j k f xs ys h.1

pub map-append : {A B : Type 0} (f : A → B) (xs ys : List A) → map f (xs ++ ys) ≡ map f xs ++ map f ys
map-append f [] ys = refl
map-append f (x ∷ xs) ys = ap (λ zs. f x ∷ zs) (map-append f xs ys)

pick-follows : {J K A B : Type 0} (j : Kind J) (k : Kind K) (f : J → K) (h : A → B) (b : Bool) (m n : Met J A)
    (m' n' : Met K B) → Follows j k f h m m' → Follows j k f h n n' → Follows j k f h (if b then m else n)
    (if b then m' else n')
pick-follows j k f h true m n m' n' u v = u
pick-follows j k f h false m n m' n' u v = v

pub ask-follows : {J K A B : Type 0} (j : Kind J) (k : Kind K) (f : J → K) (h : A → B) (q : Ask J) (m n : Met J A)
    (m' n' : Met K B) → Follows j k f h m m' → Follows j k f h n n' → Follows j k f h (ask j q m n)
    (ask k (ask_map f q) m' n')
ask-follows {K = K} {B = B} j k f h q m n m' n' u v alike =
    rw (alike.0)
    (ap (λ (x : Met K B). let y : Met K B = record { got = x.got; asked = ask_map f q ∷ x.asked } in y)
    (pick-follows j k f h (j.says q) m n m' n' u v alike.1))

pub and_then-follows : {J K A B C D : Type 0} (j : Kind J) (k : Kind K) (f : J → K) (h : A → B) (i : C → D)
    (m : Met J A) (m' : Met K B) (g : A → Met J C) (g' : B → Met K D) → Follows j k f h m m'
    → ((x : A) → Follows j k f i (g x) (g' (h x))) → Follows j k f i (and_then m g) (and_then m' g')
and_then-follows j k f h i m m' g g' u v alike =
    rw (u (alike-left j k f m.asked (g m.got).asked alike))
    (rw (v m.got (alike-right j k f m.asked (g m.got).asked alike))
    (rw (map-append (ask_map f) m.asked (g m.got).asked)))

module _ {J K L M : Type 0} (j : Kind J) (k : Kind K) (f : J → K) (g : L → M) (rj : L → L → Bool) (rk : M → M → Bool)
    (carries : Carries j k f) (same : (a b : L) → rk (g a) (g b) ≡ rj a b) where
  pub make_neg-follows : (a : Tree J L) → Follows j k f (tree_map f g) (make_neg j rj a)
      (make_neg k rk (tree_map f g a))
  make_neg-follows (Const c) _ = simp carries.un
  make_neg-follows (Unary Neg t) _ = refl
  make_neg-follows a _ = refl

  pub make_not-follows : (a : Tree J L) → Follows j k f (tree_map f g) (make_not j rj a)
      (make_not k rk (tree_map f g a))
  make_not-follows (Const c) _ = simp carries.un
  make_not-follows (Unary Not t) _ = refl
  make_not-follows a _ = refl

  pub plain-follows : (o : Bin) (a : Tree J L) (c : J) → Follows j k f (tree_map f g) (plain j rj o a c)
      (plain k rk o (tree_map f g a) (f c))
  plain-follows o a c =
      ask-follows j k f (tree_map f g) (Zero c) (give a) (give (Binary o a (Const c))) (give (tree_map f g a))
      (give (tree_map f g (Binary o a (Const c)))) (λ _. refl) (λ _. refl)

  pub plus_const-follows : (a : Tree J L) (c : J) → Follows j k f (tree_map f g) (plus_const j rj a c)
      (plus_const k rk (tree_map f g a) (f c))
  plus_const-follows (Const d) c = λ _. simp carries.bin
  plus_const-follows (Binary Add t (Const d)) c = rw (← carries.bin Add d c) (plain-follows Add t (j.bin Add d c))
  plus_const-follows a c = plain-follows Add a c

  pub minus_from-follows : (c : J) (b : Tree J L) → Follows j k f (tree_map f g) (minus_from j rj c b)
      (minus_from k rk (f c) (tree_map f g b))
  minus_from-follows c b =
      ask-follows j k f (tree_map f g) (Zero c) (make_neg j rj b) (give (Binary Sub (Const c) b))
      (make_neg k rk (tree_map f g b)) (give (tree_map f g (Binary Sub (Const c) b))) (make_neg-follows b)
      (λ _. refl)

  pub make_minus-follows : (a b : Tree J L) → Follows j k f (tree_map f g) (make_minus j rj a b)
      (make_minus k rk (tree_map f g a) (tree_map f g b))
  make_minus-follows (Const c) (Const d) = λ _. simp carries.bin
  make_minus-follows a (Const c) = rw (← carries.un Neg c) (plus_const-follows a (j.un Neg c))
  make_minus-follows (Const c) b = minus_from-follows c b
  make_minus-follows (Leaf r) (Leaf s) = rw (same r s) (same_leaf (rj r s))
    where
      same_leaf : (e : Bool) → Follows j k f (tree_map f g) (if e then give (Const (j.number 0))
          else give (Binary Sub (Leaf r) (Leaf s))) (if e then give (Const (k.number 0))
          else give (Binary Sub (Leaf (g r)) (Leaf (g s))))
      same_leaf true = λ _. simp carries.number
      same_leaf false = λ _. refl
  make_minus-follows a b = λ _. refl

  pub make_plus-follows : (a b : Tree J L) → Follows j k f (tree_map f g) (make_plus j rj a b)
      (make_plus k rk (tree_map f g a) (tree_map f g b))
  unfolding make_plus
  make_plus-follows (Const c) (Const d) = λ _. simp carries.bin
  make_plus-follows (Const c) b = plus_const-follows b c
  make_plus-follows a (Const c) = plus_const-follows a c
  make_plus-follows (Binary Add t (Const c)) (Binary Add u (Const d)) =
      rw (← carries.bin Add c d)
      (and_then-follows j k f (tree_map f g) (tree_map f g) (make_plus j rj t u)
      (make_plus k rk (tree_map f g t) (tree_map f g u)) (λ s. plus_const j rj s (j.bin Add c d))
      (λ s. plus_const k rk s (f (j.bin Add c d))) (make_plus-follows t u)
      (λ s. plus_const-follows s (j.bin Add c d)))
  make_plus-follows (Binary Add t (Const c)) b =
      and_then-follows j k f (tree_map f g) (tree_map f g) (make_plus j rj t b)
      (make_plus k rk (tree_map f g t) (tree_map f g b)) (λ s. plus_const j rj s c) (λ s. plus_const k rk s (f c))
      (make_plus-follows t b) (λ s. plus_const-follows s c)
  make_plus-follows a (Binary Add u (Const d)) =
      and_then-follows j k f (tree_map f g) (tree_map f g) (make_plus j rj a u)
      (make_plus k rk (tree_map f g a) (tree_map f g u)) (λ s. plus_const j rj s d) (λ s. plus_const k rk s (f d))
      (make_plus-follows a u) (λ s. plus_const-follows s d)
  make_plus-follows a (Unary Neg u) = make_minus-follows a u
  make_plus-follows a b = λ _. refl

  pub times_const-follows : (a : Tree J L) (c : J) → Follows j k f (tree_map f g) (times_const j rj a c)
      (times_const k rk (tree_map f g a) (f c))
  times_const-follows (Const d) c = λ _. simp carries.bin
  times_const-follows (Binary Mul t (Const d)) c =
      subst (λ (e : K). Follows j k f (tree_map f g) (times_const j rj t (j.bin Mul d c))
      (times_const k rk (tree_map f g t) e)) (carries.bin Mul d c) (times_const-follows t (j.bin Mul d c))
  times_const-follows a c =
      ask-follows j k f (tree_map f g) (Zero c) (give (Const (j.number 0)))
      (ask j (One c) (give a) (ask j (Pow2 c) (give (Binary Shl a (Const (j.log2 c))))
      (give (Binary Mul a (Const c))))) (give (Const (k.number 0)))
      (ask k (One (f c)) (give (tree_map f g a)) (ask k (Pow2 (f c))
      (give (Binary Shl (tree_map f g a) (Const (k.log2 (f c)))))
      (give (Binary Mul (tree_map f g a) (Const (f c))))))
      (λ _. simp carries.number)
      (ask-follows j k f (tree_map f g) (One c) (give a) (ask j (Pow2 c) (give (Binary Shl a (Const (j.log2 c))))
      (give (Binary Mul a (Const c)))) (give (tree_map f g a))
      (ask k (Pow2 (f c)) (give (Binary Shl (tree_map f g a) (Const (k.log2 (f c)))))
      (give (Binary Mul (tree_map f g a) (Const (f c)))))
      (λ _. refl)
      (ask-follows j k f (tree_map f g) (Pow2 c) (give (Binary Shl a (Const (j.log2 c))))
      (give (Binary Mul a (Const c))) (give (Binary Shl (tree_map f g a) (Const (k.log2 (f c)))))
      (give (Binary Mul (tree_map f g a) (Const (f c))))
      (λ _. simp carries.log2)
      (λ _. refl)))

  pub and_const-follows : (a : Tree J L) (c : J) → Follows j k f (tree_map f g) (and_const j rj a c)
      (and_const k rk (tree_map f g a) (f c))
  and_const-follows (Const d) c = λ _. simp carries.bin
  and_const-follows (Binary And t (Const d)) c =
      subst (λ (e : K). Follows j k f (tree_map f g) (and_const j rj t (j.bin And d c))
      (and_const k rk (tree_map f g t) e)) (carries.bin And d c) (and_const-follows t (j.bin And d c))
  and_const-follows a c =
      ask-follows j k f (tree_map f g) (Zero c) (give (Const (j.number 0)))
      (ask j (Ones c) (give a) (give (Binary And a (Const c)))) (give (Const (k.number 0)))
      (ask k (Ones (f c)) (give (tree_map f g a)) (give (Binary And (tree_map f g a) (Const (f c)))))
      (λ _. simp carries.number)
      (ask-follows j k f (tree_map f g) (Ones c) (give a) (give (Binary And a (Const c))) (give (tree_map f g a))
      (give (Binary And (tree_map f g a) (Const (f c)))) (λ _. refl) (λ _. refl))

  pub or_const-follows : (a : Tree J L) (c : J) → Follows j k f (tree_map f g) (or_const j rj a c)
      (or_const k rk (tree_map f g a) (f c))
  or_const-follows (Const d) c = λ _. simp carries.bin
  or_const-follows (Binary Or t (Const d)) c =
      subst (λ (e : K). Follows j k f (tree_map f g) (or_const j rj t (j.bin Or d c))
      (or_const k rk (tree_map f g t) e)) (carries.bin Or d c) (or_const-follows t (j.bin Or d c))
  or_const-follows a c = plain-follows Or a c

  pub xor_const-follows : (a : Tree J L) (c : J) → Follows j k f (tree_map f g) (xor_const j rj a c)
      (xor_const k rk (tree_map f g a) (f c))
  xor_const-follows (Const d) c = λ _. simp carries.bin
  xor_const-follows (Binary Xor t (Const d)) c =
      subst (λ (e : K). Follows j k f (tree_map f g) (xor_const j rj t (j.bin Xor d c))
      (xor_const k rk (tree_map f g t) e)) (carries.bin Xor d c) (xor_const-follows t (j.bin Xor d c))
  xor_const-follows a c = plain-follows Xor a c

  swapped-follows : (o : Bin) (m : Tree J L → J → Met J (Tree J L)) (n : Tree K M → K → Met K (Tree K M))
      (onto : (a : Tree J L) (c : J) → Follows j k f (tree_map f g) (m a c) (n (tree_map f g a) (f c)))
      (a b : Tree J L) → Follows j k f (tree_map f g) (make_swapped j rj o m a b)
      (make_swapped k rk o n (tree_map f g a) (tree_map f g b))
  swapped-follows o m n onto (Const c) (Const d) = λ _. simp carries.bin
  swapped-follows o m n onto (Const c) b = onto b c
  swapped-follows o m n onto a (Const c) = onto a c
  swapped-follows o m n onto a b = λ _. refl

  shift-follows : (o : Bin) (a b : Tree J L) → Follows j k f (tree_map f g) (make_shift j rj o a b)
      (make_shift k rk o (tree_map f g a) (tree_map f g b))
  shift-follows o (Const c) (Const d) = λ _. simp carries.bin
  shift-follows o a (Const c) = plain-follows o a c
  shift-follows o a b = λ _. refl

  pub unary_of-follows : (o : Un) (a : Tree J L) → Follows j k f (tree_map f g) (unary_of j rj o a)
      (unary_of k rk o (tree_map f g a))
  unary_of-follows Neg a = make_neg-follows a
  unary_of-follows Not a = make_not-follows a

  pub binary_of-follows : (o : Bin) (a b : Tree J L) → Follows j k f (tree_map f g) (binary_of j rj o a b)
      (binary_of k rk o (tree_map f g a) (tree_map f g b))
  binary_of-follows Add a b = make_plus-follows a b
  binary_of-follows Sub a b = make_minus-follows a b
  binary_of-follows Mul a b = swapped-follows Mul (times_const j rj) (times_const k rk) times_const-follows a b
  binary_of-follows And a b = swapped-follows And (and_const j rj) (and_const k rk) and_const-follows a b
  binary_of-follows Or a b = swapped-follows Or (or_const j rj) (or_const k rk) or_const-follows a b
  binary_of-follows Xor a b = swapped-follows Xor (xor_const j rj) (xor_const k rk) xor_const-follows a b
  binary_of-follows Shl a b = shift-follows Shl a b
  binary_of-follows Sar a b = shift-follows Sar a b
  binary_of-follows Shr a b = shift-follows Shr a b

  pub simple-follows : (t : Tree J L) → Follows j k f (tree_map f g) (simple j rj t) (simple k rk (tree_map f g t))
  simple-follows (Const c) = λ _. refl
  simple-follows (Leaf l) = λ _. refl
  simple-follows (Read x) =
      and_then-follows j k f (tree_map f g) (tree_map f g) (simple j rj x) (simple k rk (tree_map f g x))
      (λ y. give (Read y)) (λ y. give (Read y)) (simple-follows x) (λ y _. refl)
  simple-follows (Unary o x) =
      and_then-follows j k f (tree_map f g) (tree_map f g) (simple j rj x) (simple k rk (tree_map f g x))
      (λ y. unary_of j rj o y) (λ y. unary_of k rk o y) (simple-follows x) (λ y. unary_of-follows o y)
  simple-follows (Binary o x y) =
      and_then-follows j k f (tree_map f g) (tree_map f g) (simple j rj x) (simple k rk (tree_map f g x))
      (λ a. and_then (simple j rj y) (λ b. binary_of j rj o a b)) (λ a. and_then (simple k rk (tree_map f g y))
      (λ b. binary_of k rk o a b)) (simple-follows x)
      (λ a. and_then-follows j k f (tree_map f g) (tree_map f g) (simple j rj y) (simple k rk (tree_map f g y))
      (λ b. binary_of j rj o a b) (λ b. binary_of k rk o (tree_map f g a) b) (simple-follows y)
      (λ b. binary_of-follows o a b))
