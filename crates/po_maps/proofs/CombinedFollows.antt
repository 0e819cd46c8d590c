-- Slow combination read over one kind of constants follows slow combination read over another, where registers,
-- symbols and labels are replaced too.
use Rattle.std.proofs.Common.{◌≡◌, ℕ, Bool, List, map, refl, ap}
use Rattle.std.specs.Prelude.{Option, Some, None}
use Rattle.std.specs.Option.{option_map}
use Rattle.po_term.specs.declared.term.Label.{Label}
use Rattle.po_term.specs.Moves.{Move}
use Rattle.po_term.specs.MoveMap.{move_map}
use Rattle.po_term.specs.Kinds.{Kind, give}
use Rattle.po_simplify.proofs.Follows.{Carries, Follows, and_then-follows}
use Rattle.po_model.specs.declared.machine.Machine.{Machine}
use Rattle.po_model.specs.Machines.{IsMachine}
use Rattle.po_model.specs.Parts.{Leaves}
use Rattle.po_model.specs.Fit.{Found, first_fit}
use Rattle.po_model.specs.Joined as joint
use Rattle.po_model.specs.Joined.{Joint, joined}
use Rattle.po_model.specs.Combined.{if_fit, recognised, combined}
use Rattle.po_model.specs.Put.{combination_map}
use Rattle.po_subst.proofs.JoinFollows.{joint_map, joined-follows}
use Rattle.po_maps.proofs.Renames.{Renames, matches}
use Rattle.po_maps.proofs.FitFollows.{numbered_map, first_fit-follows}

module _ {J K L M R Q S T : Type 0} (j : Kind J) (k : Kind K) (f : J → K) (g : L → M) (onto_register : R → Q)
    (onto_symbol : S → T) (onto_label : Label → Label) (lj : Leaves L R S) (lk : Leaves M Q T)
    (carries : Carries j k f) (renames : Renames g onto_register onto_symbol onto_label lj lk)
    (m : Machine) (is : IsMachine m) where
  abbrev onto : Move J L R S → Move K M Q T
  onto x = move_map f g onto_register onto_symbol onto_label x

  abbrev joint_onto : Joint J L R S → Joint K M Q T
  joint_onto x = joint_map j k f g onto_register onto_symbol onto_label lj lk carries (matches renames) x

  abbrev numbered_onto : ℕ × List (Found J R S) → ℕ × List (Found K Q T)
  numbered_onto x = numbered_map j k f g onto_register onto_symbol onto_label lj lk renames x

  if_fit-map : (ms : List (Move J L R S)) (o : Option (ℕ × List (Found J R S)))
      → if_fit (map onto ms) (option_map numbered_onto o) ≡ combination_map onto (if_fit ms o)
  if_fit-map ms None = refl
  if_fit-map ms (Some found) = refl

  pub recognised-follows : (cc_live : Bool) (x : Joint J L R S)
      → Follows j k f (combination_map onto) (recognised j lj m cc_live x) (recognised k lk m cc_live (joint_onto x))
  recognised-follows cc_live joint.NotJoined = λ _. refl
  recognised-follows cc_live joint.NothingLeft = λ _. refl
  recognised-follows cc_live (joint.AsOne ms) =
      and_then-follows j k f (option_map numbered_onto) (combination_map onto)
      (first_fit lj j cc_live m.entries 0 ms) (first_fit lk k cc_live m.entries 0 (map onto ms))
      (λ found. give (if_fit ms found)) (λ found. give (if_fit (map onto ms) found))
      (first_fit-follows j k f g onto_register onto_symbol onto_label lj lk renames cc_live m.entries is.each 0 ms)
      (λ found _. ap give (if_fit-map ms found))

  pub combined-follows : (live_j : R → Bool) (live_k : Q → Bool)
      → ((r : R) → live_k (onto_register r) ≡ live_j r) → (cc_live : Bool) (a b : List (Move J L R S))
      → Follows j k f (combination_map onto) (combined j lj m live_j cc_live a b)
      (combined k lk m live_k cc_live (map onto a) (map onto b))
  combined-follows live_j live_k live cc_live a b =
      and_then-follows j k f joint_onto (combination_map onto)
      (joined j lj live_j cc_live a b) (joined k lk live_k cc_live (map onto a) (map onto b))
      (recognised j lj m cc_live) (recognised k lk m cc_live)
      (joined-follows j k f g onto_register onto_symbol onto_label lj lk carries (matches renames) live_j live_k live
      cc_live a b)
      (λ x. recognised-follows cc_live x)
