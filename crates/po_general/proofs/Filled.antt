-- The holes of a rule's result and questions have values in each instance.
use Rattle.std.proofs.Common.{Bool, true, false, List, [], ◌∷◌}
use Rattle.std.specs.Prelude.{All, ◌&&◌, not}
use Rattle.std.proofs.lemmas.List.Elements.{All-nil, All-cons, All-append}
use Rattle.po_word.specs.Exprs.{Expr, HasHoles, Ask, OfEach}
use Rattle.po_model.specs.declared.machine.Machine.{Machine}
use Rattle.po_model.specs.Machines.{IsMachine}
use Rattle.po_model.specs.Pairs.{PlainPair, WellFormedPair}
use Rattle.po_model.specs.Combined.{Kept, Gone, AsOne}
use Rattle.po_model.specs.Holed.{HoleCombination, Asked, PlainValues}
use Rattle.po_model.specs.Shape.{pair_values, pair_shape}
use Rattle.po_model.specs.Put.{HasValues}
use Rattle.po_model.specs.Generalised.{asks_hole, keep_asked, path, reading, generalised}
use Rattle.po_general.specs.Laws.{HasWord}
use Rattle.po_skel.proofs.Stand.{has_moves}
use Rattle.po_skel.proofs.Fills.{fills}
use Rattle.po_general.proofs.Standing.{ResultStands, AskedStand, asked_stand}
use Rattle.po_general.proofs.Fills.{result_filled}
use Rattle.po_general.proofs.Questions.{is_kept, with_one, says}

module _ (v : PlainValues) where
  has_values : (c : HoleCombination) → ResultStands v c → HasValues v c
  has_values Kept h = tt
  has_values Gone h = tt
  has_values (AsOne ms) h = has_moves v ms h

  kept_words : (q : Ask Expr) → OfEach (λ e. HasHoles e v.consts) q → (kept : Asked) → All (HasWord v) kept
      → (b : Bool) → All (HasWord v) (with_one v.consts q kept b)
  kept_words q h kept a true =
      All-append (HasWord v) kept ((q, says v.consts q) ∷ []) a
      (All-cons (HasWord v) (q, says v.consts q) [] h (All-nil (HasWord v)))
  kept_words q h kept a false = a

  path_words : (kept : Asked) (qs : List (Ask Expr)) → All (HasWord v) kept → AskedStand v qs
      → All (HasWord v) (path v.consts kept qs)
  path_words kept [] a h = a
  path_words kept (q ∷ qs) a h =
      path_words (keep_asked v.consts kept q) qs (kept_words q h.0 kept a (asks_hole q && not (is_kept q kept))) h.1

pub result_has_values : (m : Machine) → IsMachine m → (p : PlainPair) → WellFormedPair p
    → HasValues (pair_values p) (generalised m p).result
result_has_values m is p formed = has_values (pair_values p) (reading m (pair_values p).consts (pair_shape p)).got
    (result_filled (pair_shape p) (pair_values p) p (fills p formed) m is)

pub questions_have_words : (m : Machine) → IsMachine m → (p : PlainPair) → WellFormedPair p
    → All (HasWord (pair_values p)) (generalised m p).asked
questions_have_words m is p formed =
    let f = fills p formed in
    path_words (pair_values p) [] (reading m (pair_values p).consts (pair_shape p)).asked
    (All-nil (HasWord (pair_values p)))
    (asked_stand (pair_values p) m is (pair_shape p) f.first_stands f.second_stands f.lives)
