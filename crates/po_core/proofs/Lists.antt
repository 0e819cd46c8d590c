-- Lists by places.
use Rattle.std.proofs.Common.{◌≡◌, ℕ, zero, suc, ◌<◌, List, [], ◌∷◌, ◌++◌, map, length, set, get_or, slice_get, Some}
use Rattle.std.proofs.Common.{refl, subst, arith, All}
use Rattle.std.proofs.lemmas.Option.{slice_get_within, get_or_from_slice_get}
use Rattle.std.proofs.lemmas.List.Elements.{All-nil, All-cons, All-head, All-tail, All-get_or}

pub some_same : {A : Type 0} {x y : A} → Some x ≡ Some y → x ≡ y
some_same e = cc

pub get_at : {A B : Type 0} (v : A → B) (xs : List A) (i : ℕ) (d : A) → i < length xs
    → slice_get (map v xs) i ≡ Some (v (get_or xs i d))
get_at v [] i d h = absurd (omega arith)
get_at v (y ∷ ys) zero d h = refl
get_at v (y ∷ ys) (suc i) d h = get_at v ys i d (omega arith)

pub get_set : {A : Type 0} (xs : List A) (i : ℕ) (x y : A) → slice_get xs i ≡ Some x
    → slice_get (set xs i y) i ≡ Some y
get_set [] zero x y g = absurd (cc)
get_set [] (suc i) x y g = absurd (cc)
get_set (z ∷ zs) zero x y g = refl
get_set (z ∷ zs) (suc i) x y g = get_set zs i x y g

pub all_at : {A : Type 0} (P : A → Type 0) (xs : List A) (i : ℕ) (x : A) → slice_get xs i ≡ Some x → All P xs → P x
all_at P xs i x e a = subst P (get_or_from_slice_get xs i x x e) (All-get_or P xs i x (slice_get_within xs i x e) a)

pub all_front : {A : Type 0} (P : A → Type 0) (xs ys : List A) → All P (xs ++ ys) → All P xs
all_front P [] ys a = All-nil P
all_front P (x ∷ xs) ys a =
    All-cons P x xs (All-head P x (xs ++ ys) a) (all_front P xs ys (All-tail P x (xs ++ ys) a))

-- of the values of a list, and of their plain ones
pub all_plain : {A B : Type 0} (v : A → B) (P : B → Type 0) (xs : List A) → All P (map v xs) → All (λ x. P (v x)) xs
all_plain v P [] a = All-nil (λ x. P (v x))
all_plain v P (x ∷ xs) a = All-cons (λ y. P (v y)) x xs (All-head P (v x) (map v xs) a)
    (all_plain v P xs (All-tail P (v x) (map v xs) a))

pub none_left : {A : Type 0} (n : ℕ) (xs : List A) → n ≡ length xs → n ≡ 0 → xs ≡ []
none_left n [] e z = refl
none_left n (x ∷ xs) e z = absurd (omega arith)
