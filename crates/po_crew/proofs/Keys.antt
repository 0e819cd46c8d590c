-- A copy of a set of registers has its registers.
use Rattle.std.proofs.Common.{◌≡◌, List, map, ◌∙◌}
use Rattle.std.proofs.lemmas.List.{map-id}
use Rattle.std.proofs.lemmas.Slice.Zip.{AllZip-map}
use Rattle.std.specs.List.{AllZip}

pub same_all : {X : Type 0} (xs ys : List X) → AllZip (λ x y. y ≡ x) xs ys → ys ≡ xs
same_all xs ys h = AllZip-map (λ x. x) xs ys h ∙ map-id xs
