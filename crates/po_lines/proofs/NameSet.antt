use Rattle.std.proofs.Common.{◌≡◌, ℕ, ◌+◌, Option, List, [], ◌∷◌, ◌++◌, refl, ap, ◌∙◌, map, suc, length, true, false}
use Rattle.std.proofs.Common.{Bool, Vec, Global}
use Rattle.std.specs.Prelude.{cond, not, ◌||◌, nat_eq}
use Rattle.std.specs.List.{list_any, position, position_or_len}
use Rattle.std.specs.Cmp.Lexicographic.{pointwise}
use Rattle.indexmap.specs.IndexSet.{insert_key}
use Rattle.po_lines.specs.NameList.{has}

pub any_map : {A B : Type 0} (p : B → Bool) (f : A → B) (xs : List A)
    → list_any (λ x. p (f x)) xs ≡ list_any p (map f xs)
any_map p f [] = refl
any_map p f (x ∷ xs) = ap (λ (t : Bool). p (f x) || t) (any_map p f xs)

map_append : {A B : Type 0} (f : A → B) (xs ys : List A) → map f (xs ++ ys) ≡ map f xs ++ map f ys
map_append f [] ys = refl
map_append f (x ∷ xs) ys = ap (λ r. f x ∷ r) (map_append f xs ys)

put : {A B : Type 0} (f : A → B) (t : Bool) (xs : List A) (x : A)
    → map f (cond t xs (xs ++ x ∷ [])) ≡ cond t (map f xs) (map f xs ++ f x ∷ [])
put f true xs x = refl
put f false xs x = map_append f xs (x ∷ [])

-- the names after a key is put in
pub put_map : (keys : List (Vec ℕ Global)) (k : Vec ℕ Global)
    → map (λ v. v.items) (insert_key (λ x y. pointwise nat_eq x.items y.items) keys k)
    ≡ cond (has k.items (map (λ v. v.items) keys)) (map (λ v. v.items) keys) (map (λ v. v.items) keys ++ k.items ∷ [])
put_map keys k = put (λ v. v.items) (list_any (λ v. pointwise nat_eq k.items v.items) keys) keys k
    ∙ ap (λ (t : Bool). cond t (map (λ (v : Vec ℕ Global). v.items) keys) (map (λ v. v.items) keys ++ k.items ∷ []))
    (any_map (pointwise nat_eq k.items) (λ (v : Vec ℕ Global). v.items) keys)

abbrev pub names_of : List (Vec ℕ Global) → List (List ℕ)
names_of keys = map (λ v. v.items) keys

pub added_is : (keys : List (Vec ℕ Global)) (k : Vec ℕ Global) (name : List ℕ) (names : List (List ℕ)) (added : Bool)
    → k.items ≡ name → names_of keys ≡ names
    → added ≡ not (list_any (λ v. pointwise nat_eq k.items v.items) keys) → added ≡ not (has name names)
added_is keys k name names added e f h =
    rw (← e, ← f) (h ∙ ap not (any_map (pointwise nat_eq k.items) (λ (v : Vec ℕ Global). v.items) keys))

pub put_is : (keys new_keys : List (Vec ℕ Global)) (k : Vec ℕ Global) (name : List ℕ) (names : List (List ℕ))
    → k.items ≡ name → names_of keys ≡ names
    → new_keys ≡ insert_key (λ x y. pointwise nat_eq x.items y.items) keys k
    → names_of new_keys ≡ cond (has name names) names (names ++ name ∷ [])
put_is keys new_keys k name names e f h = rw (← e, ← f, h) (put_map keys k)

place_or_len_map : {A B : Type 0} (p : B → Bool) (f : A → B) (xs : List A)
    → position_or_len (λ x. p (f x)) xs ≡ position_or_len p (map f xs)
place_or_len_map p f [] = refl
place_or_len_map p f (x ∷ xs) = ap (λ (n : ℕ). cond (not (p (f x))) (1 + n) 0) (place_or_len_map p f xs)

pub length_map : {A B : Type 0} (f : A → B) (xs : List A) → length (map f xs) ≡ length xs
length_map f [] = refl
length_map f (x ∷ xs) = ap suc (length_map f xs)

-- the place of a name
pub place_map : {A B : Type 0} (p : B → Bool) (f : A → B) (xs : List A)
    → position (λ x. p (f x)) xs ≡ position p (map f xs)
place_map p f xs = rw (length_map f xs, place_or_len_map p f xs) refl

pub place_is : (keys : List (Vec ℕ Global)) (name : List ℕ) (names : List (List ℕ)) (r : Option ℕ)
    → names_of keys ≡ names
    → r ≡ position (λ v. pointwise nat_eq name v.items) keys → r ≡ position (pointwise nat_eq name) names
place_is keys name names r e h = rw (← e) (h ∙ place_map (pointwise nat_eq name) (λ (v : Vec ℕ Global). v.items) keys)
