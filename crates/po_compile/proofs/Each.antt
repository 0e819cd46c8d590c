-- What holds of each unit of a list, as the list is gone through.
use Rattle.std.proofs.Common.{◌≡◌, ℕ, zero, suc, ◌+◌, ◌<◌, List, [], ◌∷◌, ◌++◌, length, drop, map, get_or, All, refl}
use Rattle.std.proofs.Common.{ap, sym, subst, add-one, drop-cons, arith}
use Rattle.po_compile.specs.Output.{FirstBad}

-- the next element, and those behind it
pub next_of : {X : Type 0} (xs : List X) (i : ℕ) (x : X) → i < length xs → x ≡ get_or xs i x
    → drop i xs ≡ x ∷ drop (i + 1) xs
next_of xs i x h e = rw (add-one, drop-cons xs i x h) (ap (λ y. y ∷ drop (suc i) xs) (sym e))

pub all_cons : {X : Type 0} (P : X → Type 0) (x : X) (xs : List X) → P x → All P xs → All P (x ∷ xs)
all_cons P x xs p ps zero d h = p
all_cons P x xs p ps (suc k) d h = ps k d (omega arith)

pub all_at : {X Y : Type 0} (P : Y → Type 0) (f : X → Y) (xs : List X) (i : ℕ) (x : X) → All P (map f xs)
    → i < length xs → x ≡ get_or xs i x → P (f x)
all_at P f [] i x ps h e = absurd (omega arith)
all_at P f (y ∷ ys) zero x ps h e = subst (λ z. P (f z)) (sym e) (ps zero (f x) (omega arith))
all_at P f (y ∷ ys) (suc i) x ps h e = all_at P f ys i x (λ k d b. ps (suc k) d (omega arith)) (omega arith) e

pub all_here : {X : Type 0} (P : X → Type 0) (xs : List X) (i : ℕ) (x : X) → All P xs → i < length xs
    → x ≡ get_or xs i x → P x
all_here P xs i x ps h e = subst P (sym e) (ps i x h)

-- one more that is good
pub good_next : {X Y : Type 0} (P : Y → Type 0) (f : X → Y) (xs : List X) (i : ℕ) (x : X) (T : Type 0) → i < length xs
    → x ≡ get_or xs i x → P (f x)
    → (All P (map f (drop i xs)) → T) → All P (map f (drop (i + 1) xs)) → T
good_next {X = X} P f xs i x T h e p before rest =
    before (subst (λ (ys : List X). All P (map f ys)) (sym (next_of xs i x h e))
    (all_cons P (f x) (map f (drop (i + 1) xs)) p rest))

pub bad_next : {X Y : Type 0} (P Q : Y → Type 0) (f : X → Y) (xs all : List X) (i k : ℕ) (x : X) → i < length xs
    → x ≡ get_or xs i x → P (f x)
    → (FirstBad P Q (map f (drop i xs)) (suc k) → FirstBad P Q (map f all) (i + suc k))
    → FirstBad P Q (map f (drop (i + 1) xs)) k → FirstBad P Q (map f all) (i + 1 + k)
bad_next {X = X} P Q f xs all i k x h e p before rest =
    let n : i + suc k ≡ i + 1 + k = omega arith in
    subst (λ (n : ℕ). FirstBad P Q (map f all) n) n (before (subst (λ (ys : List X). FirstBad P Q (map f ys) (suc k))
    (sym (next_of xs i x h e)) (p, rest)))

pub bad_here : {X Y : Type 0} (P Q : Y → Type 0) (f : X → Y) (xs all : List X) (i : ℕ) (x : X) → i < length xs
    → x ≡ get_or xs i x → Q (f x)
    → (FirstBad P Q (map f (drop i xs)) zero → FirstBad P Q (map f all) (i + zero)) → FirstBad P Q (map f all) i
bad_here {X = X} P Q f xs all i x h e q before =
    let n : i + zero ≡ i = omega arith in
    subst (λ (n : ℕ). FirstBad P Q (map f all) n) n (before (subst (λ (ys : List X). FirstBad P Q (map f ys) zero)
    (sym (next_of xs i x h e)) q))

pub all_append : {X : Type 0} (P : X → Type 0) (xs : List X) (x : X) → All P xs → P x → All P (xs ++ x ∷ [])
all_append P [] x ps p zero d h = p
all_append P [] x ps p (suc k) d h = absurd (omega arith)
all_append P (y ∷ ys) x ps p zero d h = ps zero d (omega arith)
all_append P (y ∷ ys) x ps p (suc k) d h = all_append P ys x (λ k d b. ps (suc k) d (omega arith)) p k d (omega arith)

pub none_left : {X : Type 0} (n : ℕ) (xs : List X) → n ≡ length xs → n ≡ 0 → xs ≡ []
none_left n [] e z = refl
none_left n (x ∷ xs) e z = absurd (omega arith)
