-- The one list of transfers that two instructions A and B come to, with what is live after B.
use Rattle.std.specs.Prelude.{Bool, true, false, not, ◌&&◌, ◌||◌, if◌then◌else◌, List, [], ◌∷◌, ◌++◌, filter, Option}
use Rattle.std.specs.Prelude.{Some, None, is_some}
use Rattle.std.specs.List.{list_any}
use Rattle.po_word.specs.declared.operator.Rel.{Rel}
use Rattle.po_term.specs.declared.term.Alias.{Alias}
use Rattle.po_term.specs.declared.term.Alias.TheVariants as alias
use Rattle.po_term.specs.declared.term.Label.{Label}
use Rattle.po_term.specs.Tree.{Tree, Leaf}
use Rattle.po_term.specs.Moves.{IfCc, IfTwo, CallOf, Return, Move, SetTo, CcTo, StoreTo, Ends}
use Rattle.po_term.specs.Kinds.{Kind, Met, give, and_then}
use Rattle.po_term.specs.Simplified.{decided, simple_moves}
use Rattle.po_model.specs.Parts.{Leaves, cc_of, store_of, right_at}
use Rattle.po_model.specs.Forward.{and_some, some_of, alias_of, forward}

-- what two instructions come to: they stay two, nothing is left of them, or a list of transfers
pub data Joint (K L R S : Type 0) : Type 0 where
  NotJoined : Joint K L R S
  NothingLeft : Joint K L R S
  AsOne : List (Move K L R S) → Joint K L R S

abbrev pub is_same : Alias → Bool
is_same alias.Same = true
is_same alias.Apart = false
is_same alias.Maybe = false

module _ {K L R S : Type 0} (k : Kind K) (leaves : Leaves L R S) where
  -- whether B's store leaves nothing of A's: of two stores, whether their addresses are the same
  abbrev pub covers : Option (Tree K L × Tree K L) → Option (Tree K L × Tree K L) → Met K Bool
  covers (Some x) (Some y) = and_then (alias_of k leaves x.0 y.0) (λ meets. give (is_same meets))
  covers x y = give true

module _ {K L R S : Type 0} where
  abbrev pub is_set : Move K L R S → Bool
  is_set (SetTo r t) = true
  is_set m = false

  abbrev pub is_cc : Move K L R S → Bool
  is_cc (CcTo t u) = true
  is_cc m = false

  abbrev pub is_store : Move K L R S → Bool
  is_store (StoreTo t u) = true
  is_store m = false

  abbrev pub is_control : Move K L R S → Bool
  is_control (Ends e) = true
  is_control m = false

  -- a call or a return
  abbrev pub is_away : Move K L R S → Bool
  is_away (Ends (CallOf f n)) = true
  is_away (Ends Return) = true
  is_away m = false

  -- the transfers in the order sets, cc, store, control
  abbrev pub in_order : List (Move K L R S) → List (Move K L R S)
  in_order ms = filter is_set ms ++ filter is_cc ms ++ filter is_store ms ++ filter is_control ms

  -- r := r
  abbrev pub is_idle : Leaves L R S → Move K L R S → Bool
  is_idle leaves (SetTo r (Leaf l)) = leaves.same_register l (leaves.in_register r)
  is_idle leaves m = false

  -- a list of transfers, or nothing
  abbrev pub listed : List (Move K L R S) → Joint K L R S
  listed [] = NothingLeft
  listed (m ∷ ms) = AsOne (m ∷ ms)

  -- a transfer of B that sets something live, or does more than set
  abbrev pub is_wanted : (R → Bool) → Bool → Move K L R S → Bool
  is_wanted live cc_live (SetTo r t) = live r
  is_wanted live cc_live (CcTo t u) = cc_live
  is_wanted live cc_live m = true

  -- a transfer of A that stays beside b: a set or cc that is live and that b doesn't set, and a store where b has none
  abbrev pub is_kept : Leaves L R S → (R → Bool) → Bool → List (Move K L R S) → Move K L R S → Bool
  is_kept leaves live cc_live b (SetTo r t) = live r && not (is_some (right_at leaves (leaves.in_register r) b))
  is_kept leaves live cc_live b (CcTo t u) = cc_live && not (is_some (cc_of b))
  is_kept leaves live cc_live b (StoreTo t u) = not (is_some (store_of b))
  is_kept leaves live cc_live b (Ends e) = false

  -- the list of what stays of A and of B: a is A simplified, wanted is B without what isn't live, and b is that with
  -- its terms forwarded through a
  abbrev pub assembled : Leaves L R S → (R → Bool) → Bool → List (Move K L R S) → List (Move K L R S)
      → List (Move K L R S) → List (Move K L R S)
  assembled leaves live cc_live a wanted b = filter (λ m. not (is_idle leaves m))
      (in_order (filter (is_kept leaves live cc_live wanted) a ++ b))

module _ {K L R S : Type 0} (k : Kind K) (leaves : Leaves L R S) where
  -- a branch on cc: it compares what A compares, where A does
  abbrev pub forward_branch : Option (Tree K L × Tree K L) → Rel → Label → Met K (List (Move K L R S))
  forward_branch None r l = give (Ends (IfCc r l) ∷ [])
  forward_branch (Some two) r l = decided k leaves.same_register two.0 two.1 r l

  -- a transfer with its terms forwarded through A, from left to right, and then a branch on two constants decided
  abbrev pub forward_move : List (Move K L R S) → Move K L R S → Met K (Option (List (Move K L R S)))
  forward_move a (SetTo r t) = and_some (forward k leaves a t) (λ x. give (Some (SetTo r x ∷ [])))
  forward_move a (CcTo t u) = and_some (forward k leaves a t)
      (λ x. and_some (forward k leaves a u) (λ y. give (Some (CcTo x y ∷ []))))
  forward_move a (StoreTo t u) = and_some (forward k leaves a t)
      (λ x. and_some (forward k leaves a u) (λ y. give (Some (StoreTo x y ∷ []))))
  forward_move a (Ends (IfTwo t u r l)) = and_some (forward k leaves a t)
      (λ x. and_some (forward k leaves a u) (λ y. some_of (decided k leaves.same_register x y r l)))
  forward_move a (Ends (IfCc r l)) = some_of (forward_branch (cc_of a) r l)
  forward_move a (Ends e) = give (Some (Ends e ∷ []))

  abbrev pub forward_moves : List (Move K L R S) → List (Move K L R S) → Met K (Option (List (Move K L R S)))
  forward_moves a [] = give (Some [])
  forward_moves a (m ∷ ms) = and_some (forward_move a m)
      (λ xs. and_some (forward_moves a ms) (λ ys. give (Some (xs ++ ys))))

module _ {K L R S : Type 0} (k : Kind K) (leaves : Leaves L R S) (live : R → Bool) (cc_live : Bool) where
  abbrev pub with_forwarded : List (Move K L R S) → List (Move K L R S) → Option (List (Move K L R S))
      → Met K (Joint K L R S)
  with_forwarded a wanted None = give NotJoined
  with_forwarded a wanted (Some b) = and_then (covers k leaves (store_of a) (store_of b))
      (λ yes. give (if yes then listed (assembled leaves live cc_live a wanted b) else NotJoined))

  abbrev pub join_simple : List (Move K L R S) → List (Move K L R S) → Met K (Joint K L R S)
  join_simple a wanted = and_then (forward_moves k leaves a wanted) (λ b. with_forwarded a wanted b)

  -- what A and B come to
  abbrev pub joined : List (Move K L R S) → List (Move K L R S) → Met K (Joint K L R S)
  joined a b =
      if list_any is_control a || list_any is_away b then give NotJoined
      else and_then (simple_moves k leaves.same_register a)
      (λ simple_a. join_simple simple_a (filter (is_wanted live cc_live) b))
