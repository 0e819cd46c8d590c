-- Fitting read over one kind of constants follows fitting read over another, where registers, symbols and labels are
-- replaced too.
use Rattle.std.proofs.Common.{◌≡◌, ℕ, suc, Bool, true, false, List, [], ◌∷◌, ◌++◌, map, refl, sym, ap}
use Rattle.std.specs.Prelude.{◌&&◌, ◌==◌, nat_lt, if◌then◌else◌, Option, Some, None, All}
use Rattle.std.specs.List.{list_all}
use Rattle.std.proofs.lemmas.List.Elements.{All-head, All-tail}
use Rattle.std.specs.Option.{option_map}
use Rattle.po_word.specs.Exprs.{Ask, ask_map}
use Rattle.po_term.specs.declared.term.Label.{Label}
use Rattle.po_term.specs.Tree.{Tree, Const, Leaf, Read, Unary, Binary, tree_map, EachLeaf}
use Rattle.po_term.specs.Moves.{Move, SetTo, CcTo, StoreTo, Ends, GoTo, IfCc, IfTwo, CallOf, Return}
use Rattle.po_term.specs.MoveMap.{move_map}
use Rattle.po_term.specs.Kinds.{Kind, Met, give, and_then}
use Rattle.po_simplify.proofs.Follows.{Follows, ask-follows, and_then-follows, map-append}
use Rattle.po_model.specs.declared.machine.PatReg.{PatReg}
use Rattle.po_model.specs.declared.machine.PatReg.TheVariants as pat
use Rattle.po_model.specs.declared.machine.Bounds.{Bounds}
use Rattle.po_model.specs.declared.machine.Entry.{Entry}
use Rattle.po_model.specs.Patterns.{PatConst, Exactly, Operand, PatLeaf, InPatReg, AtSymbol, PatTree, PatMove}
use Rattle.po_model.specs.Patterns.{SetsTo, Compares, Stores, Jumps, Branches, BranchesOn, Calls, Returns}
use Rattle.po_model.specs.Patterns.{pat_moves_of}
use Rattle.po_model.specs.Operators.{un_eq, bin_eq, rel_eq}
use Rattle.po_model.specs.Entries.{IsPatReg, IsPatLeaf, IsPatTree, IsPatMove, IsEntry}
use Rattle.po_model.specs.Fit.{Thing, ARegister, AConstant, ASymbol, ALabel, Found, AtNumber, AtOperand, both}
use Rattle.po_model.specs.Fit.{register_found, symbol_found, leaf_found, constant_found, tree_found, target_found}
use Rattle.po_model.specs.Fit.{move_found, moves_found, operand_of, same_thing, is_like, agrees, all_agree}
use Rattle.po_model.specs.Fit.{range_question, constant_question, question, questions, all_yes, only_if, answered}
use Rattle.po_model.specs.Fit.{entry_fit, or_later, first_fit}
use Rattle.po_subst.proofs.ForwardFollows.{if-follows}
use Rattle.po_model.specs.Parts.{Leaves}
use Rattle.po_maps.proofs.Renames.{Renames}

both-map : {X Y : Type 0} (h : X → Y) (xs ys : Option (List X)) → both (option_map (map h) xs) (option_map (map h) ys)
    ≡ option_map (map h) (both xs ys)
both-map h None ys = refl
both-map h (Some xs) None = refl
both-map h (Some xs) (Some ys) = ap Some (sym (map-append h xs ys))

module _ {J K L M R Q S T : Type 0} (j : Kind J) (k : Kind K) (f : J → K) (g : L → M) (onto_register : R → Q)
    (onto_symbol : S → T) (onto_label : Label → Label) (lj : Leaves L R S) (lk : Leaves M Q T)
    (renames : Renames g onto_register onto_symbol onto_label lj lk) where
  abbrev onto : Move J L R S → Move K M Q T
  onto m = move_map f g onto_register onto_symbol onto_label m

  abbrev pub thing_map : Thing J R S → Thing K Q T
  thing_map (ARegister r) = ARegister (onto_register r)
  thing_map (AConstant c) = AConstant (f c)
  thing_map (ASymbol s) = ASymbol (onto_symbol s)
  thing_map (ALabel l) = ALabel (onto_label l)

  abbrev pub found_map : Found J R S → Found K Q T
  found_map (AtNumber n c) = AtNumber n (f c)
  found_map (AtOperand i range x) = AtOperand i range (thing_map x)

  -- what is found, with its parts replaced
  abbrev pub all_map : Option (List (Found J R S)) → Option (List (Found K Q T))
  all_map o = option_map (map found_map) o

  -- a choice by a test on both sides
  if-map : (b : Bool) (x : Option (List (Found J R S))) (y : Option (List (Found K Q T))) → y ≡ all_map x
      → (if b then y else None) ≡ all_map (if b then x else None)
  if-map true x y e = e
  if-map false x y e = refl

  register_found-map : (p : PatReg) → IsPatReg p → (o : Option R) → register_found lk p (option_map onto_register o)
      ≡ all_map (register_found lj p o)
  register_found-map p h None = refl
  register_found-map (pat.Any i) h (Some r) = refl
  register_found-map (pat.Fixed q) h (Some r) =
      rw (renames.is_fixed q h r) (if-map (lj.is_fixed q r) (Some []) (Some []) refl)

  symbol_found-map : (i : ℕ) (o : Option S) → symbol_found i (option_map onto_symbol o) ≡ all_map (symbol_found i o)
  symbol_found-map i None = refl
  symbol_found-map i (Some s) = refl

  leaf_found-map : (p : PatLeaf) → IsPatLeaf p → (l : L) → leaf_found lk p (g l) ≡ all_map (leaf_found lj p l)
  leaf_found-map (InPatReg p) h l = rw (renames.register l) (register_found-map p h (lj.register l))
  leaf_found-map (AtSymbol i) h l = rw (renames.symbol l) (symbol_found-map i (lj.symbol l))

  constant_found-map : (p : PatConst) (c : J) → constant_found p (f c) ≡ map found_map (constant_found p c)
  constant_found-map (Exactly n) c = refl
  constant_found-map (Operand i range) c = refl

  two-map : (x u : Option (List (Found J R S))) (y v : Option (List (Found K Q T))) → y ≡ all_map x → v ≡ all_map u
      → both y v ≡ all_map (both x u)
  two-map x u y v e h = rw (e, h) (both-map found_map x u)

  tree_found-map : (p : PatTree) → EachLeaf IsPatLeaf p → (t : Tree J L)
      → tree_found lk p (tree_map f g t) ≡ all_map (tree_found lj p t)
  tree_found-map (Const p) h (Const c) = ap Some (constant_found-map p c)
  tree_found-map (Leaf p) h (Leaf l) = leaf_found-map p h l
  tree_found-map (Read p) h (Read t) = tree_found-map p h t
  tree_found-map (Unary o p) h (Unary o' t) =
      if-map (un_eq o o') (tree_found lj p t) (tree_found lk p (tree_map f g t)) (tree_found-map p h t)
  tree_found-map (Binary o p q) h (Binary o' t u) =
      if-map (bin_eq o o') (both (tree_found lj p t) (tree_found lj q u))
      (both (tree_found lk p (tree_map f g t)) (tree_found lk q (tree_map f g u)))
      (two-map (tree_found lj p t) (tree_found lj q u) (tree_found lk p (tree_map f g t))
      (tree_found lk q (tree_map f g u)) (tree_found-map p h.0 t) (tree_found-map q h.1 u))
  tree_found-map p h t = refl

  trees-map : (p q : PatTree) → IsPatTree p → IsPatTree q → (t u : Tree J L)
      → both (tree_found lk p (tree_map f g t)) (tree_found lk q (tree_map f g u))
      ≡ all_map (both (tree_found lj p t) (tree_found lj q u))
  trees-map p q h i t u =
      two-map (tree_found lj p t) (tree_found lj q u) (tree_found lk p (tree_map f g t))
      (tree_found lk q (tree_map f g u)) (tree_found-map p h.numbers.leaves t) (tree_found-map q i.numbers.leaves u)

  move_found-map : (p : PatMove) → IsPatMove p → (m : Move J L R S)
      → move_found lk p (onto m) ≡ all_map (move_found lj p m)
  move_found-map (SetsTo r p) h (SetTo q t) =
      two-map (register_found lj r (Some q)) (tree_found lj p t) (register_found lk r (Some (onto_register q)))
      (tree_found lk p (tree_map f g t)) (register_found-map r h.0 (Some q))
      (tree_found-map p h.2.numbers.leaves t)
  move_found-map (Compares p q) h (CcTo t u) = trees-map p q h.0 h.1 t u
  move_found-map (Stores p q) h (StoreTo t u) = trees-map p q h.0 h.1 t u
  move_found-map (Jumps i) h (Ends (GoTo l)) = refl
  move_found-map (Branches r i) h (Ends (IfCc s l)) =
      if-map (rel_eq r s) (target_found i l) (target_found i (onto_label l)) refl
  move_found-map (BranchesOn p q r i) h (Ends (IfTwo t u s l)) =
      if-map (rel_eq r s) (both (both (tree_found lj p t) (tree_found lj q u)) (target_found i l))
      (both (both (tree_found lk p (tree_map f g t)) (tree_found lk q (tree_map f g u)))
      (target_found i (onto_label l)))
      (two-map (both (tree_found lj p t) (tree_found lj q u)) (target_found i l)
      (both (tree_found lk p (tree_map f g t)) (tree_found lk q (tree_map f g u))) (target_found i (onto_label l))
      (trees-map p q h.0 h.1 t u) refl)
  move_found-map (Calls i) h (Ends (CallOf s n)) = refl
  move_found-map Returns h (Ends Return) = refl
  move_found-map p h m = refl

  moves_found-map : (ps : List PatMove) → All IsPatMove ps → (ms : List (Move J L R S))
      → moves_found lk ps (map onto ms) ≡ all_map (moves_found lj ps ms)
  moves_found-map [] h [] = refl
  moves_found-map (p ∷ ps) h (m ∷ ms) =
      two-map (move_found lj p m) (moves_found lj ps ms) (move_found lk p (onto m)) (moves_found lk ps (map onto ms))
      (move_found-map p (All-head IsPatMove p ps h) m) (moves_found-map ps (All-tail IsPatMove p ps h) ms)
  moves_found-map ps h ms = refl

  operand_of-map : (i : ℕ) (fs : List (Found J R S))
      → operand_of i (map found_map fs) ≡ option_map thing_map (operand_of i fs)
  operand_of-map i [] = refl
  operand_of-map i (AtNumber n c ∷ fs) = operand_of-map i fs
  operand_of-map i (AtOperand n range x ∷ fs) = go (i == n) (operand_of-map i fs)
    where
      go : (b : Bool) → operand_of i (map found_map fs) ≡ option_map thing_map (operand_of i fs)
          → (if b then Some (thing_map x) else operand_of i (map found_map fs))
          ≡ option_map thing_map (if b then Some x else operand_of i fs)
      go true e = refl
      go false e = e

  same_thing-map : (x y : Thing J R S) → same_thing lk (thing_map x) (thing_map y) ≡ same_thing lj x y
  same_thing-map (ARegister r) (ARegister q) = renames.register_eq r q
  same_thing-map (AConstant c) (AConstant d) = refl
  same_thing-map (ASymbol s) (ASymbol t) = renames.symbol_eq s t
  same_thing-map (ALabel l) (ALabel m) = renames.same_label l m
  same_thing-map x y = refl

  is_like-map : (o : Option (Thing J R S)) (x : Thing J R S) → is_like lk (option_map thing_map o) (thing_map x)
      ≡ is_like lj o x
  is_like-map None x = refl
  is_like-map (Some y) x = same_thing-map y x

  agrees-map : (fs : List (Found J R S)) (x : Found J R S)
      → agrees lk (map found_map fs) (found_map x) ≡ agrees lj fs x
  agrees-map fs (AtNumber n c) = refl
  agrees-map fs (AtOperand i range x) =
      rw (operand_of-map i fs) (ap (λ b. nat_lt i 10 && b) (is_like-map (operand_of i fs) x))

  each_agrees-map : (fs xs : List (Found J R S)) → list_all (agrees lk (map found_map fs)) (map found_map xs)
      ≡ list_all (agrees lj fs) xs
  each_agrees-map fs [] = refl
  each_agrees-map fs (x ∷ xs) = rw (agrees-map fs x, each_agrees-map fs xs) refl

  range_question-map : (range : Option Bounds) (c : J)
      → range_question range (f c) ≡ map (ask_map f) (range_question range c)
  range_question-map None c = refl
  range_question-map (Some ends) c = refl

  constant_question-map : (first : Option (Thing J R S)) (range : Option Bounds) (c : J)
      → constant_question (option_map thing_map first) range (f c) ≡ map (ask_map f) (constant_question first range c)
  constant_question-map (Some (AConstant d)) range c = refl
  constant_question-map None range c = range_question-map range c
  constant_question-map (Some (ARegister r)) range c = range_question-map range c
  constant_question-map (Some (ASymbol s)) range c = range_question-map range c
  constant_question-map (Some (ALabel l)) range c = range_question-map range c

  question-map : (before : List (Found J R S)) (x : Found J R S)
      → question (map found_map before) (found_map x) ≡ map (ask_map f) (question before x)
  question-map before (AtNumber n c) = refl
  question-map before (AtOperand i range (AConstant c)) =
      rw (operand_of-map i before) (constant_question-map (operand_of i before) range c)
  question-map before (AtOperand i range (ARegister r)) = refl
  question-map before (AtOperand i range (ASymbol s)) = refl
  question-map before (AtOperand i range (ALabel l)) = refl

  questions-map : (before xs : List (Found J R S)) → questions (map found_map before) (map found_map xs)
      ≡ map (ask_map f) (questions before xs)
  questions-map before [] = refl
  questions-map before (x ∷ xs) =
      rw (question-map before x, ← map-append found_map before (x ∷ []), questions-map (before ++ x ∷ []) xs)
      (sym (map-append (ask_map f) (question before x) (questions (before ++ x ∷ []) xs)))

  all_yes-follows : (qs : List (Ask J))
      → Follows j k f (λ (b : Bool). b) (all_yes j qs) (all_yes k (map (ask_map f) qs))
  all_yes-follows [] = λ _. refl
  all_yes-follows (q ∷ qs) =
      ask-follows j k f (λ b. b) q (all_yes j qs) (give false) (all_yes k (map (ask_map f) qs)) (give false)
      (all_yes-follows qs) (λ _. refl)

  only_if-map : (b : Bool) (fs : List (Found J R S)) → only_if b (map found_map fs) ≡ all_map (only_if b fs)
  only_if-map true fs = refl
  only_if-map false fs = refl

  answered-follows : (o : Option (List (Found J R S)))
      → Follows j k f all_map (answered lj j o) (answered lk k (all_map o))
  answered-follows None = λ _. refl
  answered-follows (Some fs) =
      rw (each_agrees-map fs fs, questions-map [] fs)
      (if-follows j k f all_map (all_agree lj fs) (and_then (all_yes j (questions [] fs)) (λ b. give (only_if b fs)))
      (give None)
      (and_then (all_yes k (map (ask_map f) (questions [] fs))) (λ b. give (only_if b (map found_map fs))))
      (give None)
      (and_then-follows j k f (λ b. b) all_map (all_yes j (questions [] fs))
      (all_yes k (map (ask_map f) (questions [] fs))) (λ b. give (only_if b fs))
      (λ b. give (only_if b (map found_map fs))) (all_yes-follows (questions [] fs))
      (λ b _. ap give (only_if-map b fs)))
      (λ _. refl))

  entry_fit-follows : (cc_live : Bool) (e : Entry) → IsEntry e → (ms : List (Move J L R S))
      → Follows j k f all_map (entry_fit lj j cc_live e ms) (entry_fit lk k cc_live e (map onto ms))
  entry_fit-follows cc_live e h ms =
      rw (moves_found-map (pat_moves_of e.pattern) h.each ms)
      (if-follows j k f all_map (e.clobbers && cc_live) (give None)
      (answered lj j (moves_found lj (pat_moves_of e.pattern) ms)) (give None)
      (answered lk k (all_map (moves_found lj (pat_moves_of e.pattern) ms)))
      (λ _. refl)
      (answered-follows (moves_found lj (pat_moves_of e.pattern) ms)))

  abbrev pub numbered_map : ℕ × List (Found J R S) → ℕ × List (Found K Q T)
  numbered_map x = (x.0, map found_map x.1)

  or_later-follows : (n : ℕ) (o : Option (List (Found J R S))) (m : Met J (Option (ℕ × List (Found J R S))))
      (m' : Met K (Option (ℕ × List (Found K Q T)))) → Follows j k f (option_map numbered_map) m m'
      → Follows j k f (option_map numbered_map) (or_later n o m) (or_later n (all_map o) m')
  or_later-follows n None m m' h = h
  or_later-follows n (Some fs) m m' h = λ _. refl

  pub first_fit-follows : (cc_live : Bool) (es : List Entry) → All IsEntry es → (n : ℕ) (ms : List (Move J L R S))
      → Follows j k f (option_map numbered_map) (first_fit lj j cc_live es n ms)
      (first_fit lk k cc_live es n (map onto ms))
  first_fit-follows cc_live [] h n ms = λ _. refl
  first_fit-follows cc_live (e ∷ es) h n ms =
      and_then-follows j k f all_map (option_map numbered_map) (entry_fit lj j cc_live e ms)
      (entry_fit lk k cc_live e (map onto ms)) (λ o. or_later n o (first_fit lj j cc_live es (suc n) ms))
      (λ o. or_later n o (first_fit lk k cc_live es (suc n) (map onto ms)))
      (entry_fit-follows cc_live e (All-head IsEntry e es h) ms)
      (λ o. or_later-follows n o (first_fit lj j cc_live es (suc n) ms)
      (first_fit lk k cc_live es (suc n) (map onto ms))
      (first_fit-follows cc_live es (All-tail IsEntry e es h) (suc n) ms))
