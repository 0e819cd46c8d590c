-- Lists of which each element stands in another.
use Rattle.std.proofs.Common.{List, [], ◌∷◌, ◌++◌, length, map, ◌∙◌, ap, arith}
use Rattle.std.specs.List.{All, Contains}
use Rattle.std.proofs.lemmas.List.{length-map, get_or-map}
use Rattle.std.proofs.lemmas.List.Elements.{All-nil, All-cons, All-append, All-weaker, All-map}
use Rattle.std.proofs.lemmas.List.Elements.{All-contains, All-contains_itself}
use Rattle.std.proofs.lemmas.List.Elements.{Contains-append_left, Contains-append_right}

module _ {X : Type 0} where
  abbrev pub Covers : List X → List X → Type 0
  Covers xs ys = All (Contains ys) xs

  pub covers_self : (xs : List X) → Covers xs xs
  covers_self xs = All-contains_itself xs

  pub covers_left : (xs ys zs : List X) → Covers xs ys → Covers xs (ys ++ zs)
  covers_left xs ys zs h = All-weaker (Contains ys) (Contains (ys ++ zs)) (λ x c. Contains-append_left ys zs x c) xs h

  pub covers_right : (xs ys zs : List X) → Covers xs zs → Covers xs (ys ++ zs)
  covers_right xs ys zs h =
      All-weaker (Contains zs) (Contains (ys ++ zs)) (λ x c. Contains-append_right ys zs x c) xs h

  pub covers_both : (xs ys zs : List X) → Covers xs zs → Covers ys zs → Covers (xs ++ ys) zs
  covers_both xs ys zs h k = All-append (Contains zs) xs ys h k

  -- two lists, each in its own
  pub covers_beside : (xs ys us vs : List X) → Covers xs us → Covers ys vs → Covers (xs ++ ys) (us ++ vs)
  covers_beside xs ys us vs h k =
      covers_both xs ys (us ++ vs) (covers_left xs us vs h) (covers_right ys us vs k)

  pub covers_through : (xs ys zs : List X) → Covers xs ys → Covers ys zs → Covers xs zs
  covers_through xs ys zs h k =
      All-weaker (Contains ys) (Contains zs) (λ x c. All-contains (Contains zs) ys x k c) xs h

  -- one element
  pub covers_one : (x : X) (ys : List X) → Contains ys x → Covers (x ∷ []) ys
  covers_one x ys c = All-cons (Contains ys) x [] c (All-nil (Contains ys))

module _ {X Y : Type 0} (f : X → Y) where
  pub contains_map : (xs : List X) (x : X) → Contains xs x → Contains (map f xs) (f x)
  contains_map xs x (k, h, e) = (k, omega (arith, length-map xs f), get_or-map f xs k x (f x) h ∙ ap f e)

  pub covers_map : (xs ys : List X) → Covers xs ys → Covers (map f xs) (map f ys)
  covers_map xs ys h = All-map (Contains (map f ys)) f xs
      (All-weaker (Contains ys) (λ x. Contains (map f ys) (f x)) (λ x c. contains_map ys x c) xs h)
