-- Which entry a list of transfers fits: the first one whose pattern it has and whose questions all have the answer
-- yes.
--
-- The structure is compared first, without a question: the number of transfers, their kinds, relations and operators,
-- fixed registers, and what stands again at a repeated operand. Then the constants are asked from left to right. At
-- `words` and `code_leaves` this is recognition. At another kind of constants it is the same reading over them.
use Rattle.std.specs.Prelude.{ℕ, suc, Bool, true, false, ◌&&◌, ◌==◌, nat_lt, if◌then◌else◌, List, [], ◌∷◌, ◌++◌}
use Rattle.std.specs.Prelude.{Option, Some, None}
use Rattle.std.specs.List.{list_all}
use Rattle.po_word.specs.Words.{signed}
use Rattle.po_word.specs.Exprs.{Ask, Within, Same}
use Rattle.po_term.specs.declared.term.Reg.{Reg}
use Rattle.po_term.specs.declared.term.Sym.{Sym}
use Rattle.po_term.specs.declared.term.Label.{Label}
use Rattle.po_term.specs.Tree.{Tree, Const, Leaf, Read, Unary, Binary}
use Rattle.po_term.specs.Moves.{Move, SetTo, CcTo, StoreTo, Ends, GoTo, IfCc, IfTwo, CallOf, Return, PlainInstr}
use Rattle.po_term.specs.Kinds.{Kind, Met, give, and_then, ask, words}
use Rattle.po_model.specs.declared.machine.PatReg.{PatReg}
use Rattle.po_model.specs.declared.machine.PatReg.TheVariants as pat
use Rattle.po_model.specs.declared.machine.Bounds.{Bounds}
use Rattle.po_model.specs.declared.machine.Entry.{Entry}
use Rattle.po_model.specs.declared.machine.Machine.{Machine}
use Rattle.po_model.specs.Patterns.{PatConst, Exactly, Operand, PatLeaf, InPatReg, AtSymbol, PatTree, PatMove, SetsTo}
use Rattle.po_model.specs.Patterns.{Compares, Stores, Jumps, Branches, BranchesOn, Calls, Returns, pat_moves_of}
use Rattle.po_model.specs.Operators.{un_eq, bin_eq, rel_eq}
use Rattle.po_model.specs.Parts.{Leaves, code_leaves}

-- what an operand stands for
pub data Thing (K R S : Type 0) : Type 0 where
  ARegister : R → Thing K R S
  AConstant : K → Thing K R S
  ASymbol : S → Thing K R S
  ALabel : Label → Thing K R S

-- what stands at a place of a pattern: at its number n a constant, or at the operand k, which may have a range, a
-- thing
pub data Found (K R S : Type 0) : Type 0 where
  AtNumber : ℕ → K → Found K R S
  AtOperand : ℕ → Option Bounds → Thing K R S → Found K R S

-- both lists, where both are there
abbrev pub both : {X : Type 0} → Option (List X) → Option (List X) → Option (List X)
both None ys = None
both (Some xs) None = None
both (Some xs) (Some ys) = Some (xs ++ ys)

-- whether a constant lies in a range, where there is one
abbrev pub range_question : {K : Type 0} → Option Bounds → K → List (Ask K)
range_question None c = []
range_question (Some b) c = Within c b.lo b.hi ∷ []

module _ {K R S : Type 0} where
  abbrev pub constant_found : PatConst → K → List (Found K R S)
  constant_found (Exactly n) c = AtNumber n c ∷ []
  constant_found (Operand k range) c = AtOperand k range (AConstant c) ∷ []

  abbrev pub symbol_found : ℕ → Option S → Option (List (Found K R S))
  symbol_found k None = None
  symbol_found k (Some s) = Some (AtOperand k None (ASymbol s) ∷ [])

  abbrev pub target_found : ℕ → Label → Option (List (Found K R S))
  target_found k l = Some (AtOperand k None (ALabel l) ∷ [])

  -- what the operand k stands for: what is found at it first
  abbrev pub operand_of : ℕ → List (Found K R S) → Option (Thing K R S)
  operand_of k [] = None
  operand_of k (AtNumber n c ∷ fs) = operand_of k fs
  operand_of k (AtOperand j range x ∷ fs) = if k == j then Some x else operand_of k fs

  -- the question at a constant: at its first place whether it lies in the range, at a later one whether it is the
  -- first
  abbrev pub constant_question : Option (Thing K R S) → Option Bounds → K → List (Ask K)
  constant_question (Some (AConstant d)) range c = Same d c ∷ []
  constant_question first range c = range_question range c

  -- behind what was found before
  abbrev pub question : List (Found K R S) → Found K R S → List (Ask K)
  question before (AtNumber n c) = Within c (signed n) (signed n) ∷ []
  question before (AtOperand k range (AConstant c)) = constant_question (operand_of k before) range c
  question before f = []

  abbrev pub questions : List (Found K R S) → List (Found K R S) → List (Ask K)
  questions before [] = []
  questions before (f ∷ fs) = question before f ++ questions (before ++ f ∷ []) fs

  abbrev pub only_if : Bool → List (Found K R S) → Option (List (Found K R S))
  only_if true fs = Some fs
  only_if false fs = None

  abbrev pub or_later : ℕ → Option (List (Found K R S)) → Met K (Option (ℕ × List (Found K R S)))
      → Met K (Option (ℕ × List (Found K R S)))
  or_later n None later = later
  or_later n (Some fs) later = give (Some (n, fs))

-- whether each question has the answer yes; the first no is the last question
abbrev pub all_yes : {K : Type 0} → Kind K → List (Ask K) → Met K Bool
all_yes k [] = give true
all_yes k (q ∷ qs) = ask k q (all_yes k qs) (give false)

module _ {K L R S : Type 0} (leaves : Leaves L R S) where
  abbrev pub register_found : PatReg → Option R → Option (List (Found K R S))
  register_found p None = None
  register_found (pat.Any k) (Some r) = Some (AtOperand k None (ARegister r) ∷ [])
  register_found (pat.Fixed q) (Some r) = if leaves.is_fixed q r then Some [] else None

  abbrev pub leaf_found : PatLeaf → L → Option (List (Found K R S))
  leaf_found (InPatReg p) l = register_found p (leaves.register l)
  leaf_found (AtSymbol k) l = symbol_found k (leaves.symbol l)

  -- what stands at the places of a pattern's term, from left to right, where a term has its structure
  abbrev pub tree_found : PatTree → Tree K L → Option (List (Found K R S))
  tree_found (Const p) (Const c) = Some (constant_found p c)
  tree_found (Leaf p) (Leaf l) = leaf_found p l
  tree_found (Read p) (Read t) = tree_found p t
  tree_found (Unary o p) (Unary o' t) = if un_eq o o' then tree_found p t else None
  tree_found (Binary o p q) (Binary o' t u) = if bin_eq o o' then both (tree_found p t) (tree_found q u) else None
  tree_found p t = None

  abbrev pub move_found : PatMove → Move K L R S → Option (List (Found K R S))
  move_found (SetsTo r p) (SetTo q t) = both (register_found r (Some q)) (tree_found p t)
  move_found (Compares p q) (CcTo t u) = both (tree_found p t) (tree_found q u)
  move_found (Stores p q) (StoreTo t u) = both (tree_found p t) (tree_found q u)
  move_found (Jumps k) (Ends (GoTo l)) = target_found k l
  move_found (Branches r k) (Ends (IfCc s l)) = if rel_eq r s then target_found k l else None
  move_found (BranchesOn p q r k) (Ends (IfTwo t u s l)) = if rel_eq r s
      then both (both (tree_found p t) (tree_found q u)) (target_found k l) else None
  move_found (Calls k) (Ends (CallOf s n)) = symbol_found k (Some s)
  move_found Returns (Ends Return) = Some []
  move_found p m = None

  abbrev pub moves_found : List PatMove → List (Move K L R S) → Option (List (Found K R S))
  moves_found [] [] = Some []
  moves_found (p ∷ ps) (m ∷ ms) = both (move_found p m) (moves_found ps ms)
  moves_found ps ms = None

  -- a repeated operand is the same thing; whether two constants are the same is asked
  abbrev pub same_thing : Thing K R S → Thing K R S → Bool
  same_thing (ARegister r) (ARegister q) = leaves.register_eq r q
  same_thing (AConstant c) (AConstant d) = true
  same_thing (ASymbol s) (ASymbol t) = leaves.symbol_eq s t
  same_thing (ALabel l) (ALabel m) = l.0 == m.0
  same_thing x y = false

  abbrev pub is_like : Option (Thing K R S) → Thing K R S → Bool
  is_like None x = true
  is_like (Some y) x = same_thing y x

  -- an operand is a digit, and the same thing as at its first place
  abbrev pub agrees : List (Found K R S) → Found K R S → Bool
  agrees fs (AtNumber n c) = true
  agrees fs (AtOperand k range x) = nat_lt k 10 && is_like (operand_of k fs) x

  abbrev pub all_agree : List (Found K R S) → Bool
  all_agree fs = list_all (agrees fs) fs

  abbrev pub answered : Kind K → Option (List (Found K R S)) → Met K (Option (List (Found K R S)))
  answered k None = give None
  answered k (Some fs) = if all_agree fs then and_then (all_yes k (questions [] fs)) (λ yes. give (only_if yes fs))
      else give None

  -- what is found at an entry that fits; an entry that clobbers cc fits only where cc is dead
  abbrev pub entry_fit : Kind K → Bool → Entry → List (Move K L R S) → Met K (Option (List (Found K R S)))
  entry_fit k cc_live e ms = if e.clobbers && cc_live then give None
      else answered k (moves_found (pat_moves_of e.pattern) ms)

  -- the first of these entries, numbered from n on, that fits, and what is found at it
  abbrev pub first_fit : Kind K → Bool → List Entry → ℕ → List (Move K L R S) → Met K (Option (ℕ × List (Found K R S)))
  first_fit k cc_live [] n ms = give None
  first_fit k cc_live (e ∷ es) n ms = and_then (entry_fit k cc_live e ms)
      (λ fit. or_later n fit (first_fit k cc_live es (suc n) ms))

-- which entry of a machine a list of transfers fits, with what is found at it
abbrev pub fit : Machine → Bool → PlainInstr → Option (ℕ × List (Found ℕ Reg Sym))
fit m cc_live ms = (first_fit code_leaves words cc_live m.entries 0 ms).got
