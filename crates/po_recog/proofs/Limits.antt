-- What an entry fits is as long, and its terms are as large, as the entry's pattern.
use Rattle.std.proofs.Common.{◌≡◌, ◌+◌, ℕ, zero, suc, Bool, true, false, List, [], ◌∷◌, length, Option, Some, None}
use Rattle.std.proofs.Common.{refl, ap, arith}
use Rattle.std.specs.Prelude.{All, IsSome, if◌then◌else◌, ◌&&◌}
use Rattle.std.proofs.lemmas.Bool.{false≢true}
use Rattle.std.proofs.lemmas.List.Elements.{All-cons, All-nil}
use Rattle.po_term.specs.declared.term.Reg.{Reg as Register}
use Rattle.po_term.specs.declared.term.Sym.{Sym as Symbol}
use Rattle.po_term.specs.Tree.{Tree, Const, Leaf, Read, Unary, Binary, tree_size, tree_depth}
use Rattle.po_term.specs.Terms.{Place}
use Rattle.po_term.specs.Moves.{GoTo, IfCc, IfTwo, CallOf, Return, SetTo, CcTo, StoreTo, Ends, PlainMove, PlainInstr}
use Rattle.po_term.specs.Kinds.{give, words}
use Rattle.po_model.specs.declared.machine.Entry.{Entry}
use Rattle.po_model.specs.declared.machine.Machine.{Machine}
use Rattle.po_model.specs.Patterns.{PatTree, PatMove, SetsTo, Compares, Stores, Jumps, Branches, BranchesOn, Calls}
use Rattle.po_model.specs.Patterns.{Returns, pat_moves_of}
use Rattle.po_model.specs.Operators.{un_eq, bin_eq, rel_eq}
use Rattle.po_model.specs.Entries.{IsPatTree, IsPatMove, IsEntry}
use Rattle.po_model.specs.Machines.{IsMachine}
use Rattle.po_model.specs.Fit.{Found, both, register_found, target_found, tree_found, move_found, moves_found}
use Rattle.po_model.specs.Fit.{answered, entry_fit, or_later, first_fit, fit}
use Rattle.po_recog.specs.Limits.{IsSmall, HasSmallTerms, IsWithinLimits}
use Rattle.po_model.specs.Parts.{code_leaves}

abbrev Finds : Type 0
Finds = List (Found ℕ Register Symbol)

-- two trees of one form
record Alike (p : PatTree) (t : Tree ℕ Place) : Type 0 where
  size : tree_size t ≡ tree_size p
  depth : tree_depth t ≡ tree_depth p

pub both_there : (x y : Option Finds) → IsSome (both x y) → IsSome x × IsSome y
both_there None y h = absurd (false≢true h)
both_there (Some x) None h = absurd (false≢true h)
both_there (Some x) (Some y) h = (refl, refl)

alike : (p : PatTree) (t : Tree ℕ Place) → IsSome (tree_found code_leaves p t) → Alike p t
alike (Const p) (Const c) h = record { size = refl; depth = refl }
alike (Leaf p) (Leaf l) h = record { size = refl; depth = refl }
alike (Read p) (Read x) h =
    let e = alike p x h in record { size = ap (λ n. 1 + n) e.size; depth = ap (λ n. 1 + n) e.depth }
alike (Unary o' p) (Unary o x) h = go (un_eq o' o) (alike p x) h
  where
    go : (b : Bool) → (IsSome (tree_found code_leaves p x) → Alike p x)
        → IsSome (if b then tree_found code_leaves p x else None) → Alike (Unary o' p) (Unary o x)
    go true f h = let e = f h in record { size = ap (λ n. 1 + n) e.size; depth = ap (λ n. 1 + n) e.depth }
    go false f h = absurd (false≢true h)
alike (Binary o' p q) (Binary o x y) h = go (bin_eq o' o) (alike p x) (alike q y) h
  where
    go : (b : Bool) → (IsSome (tree_found code_leaves p x) → Alike p x)
        → (IsSome (tree_found code_leaves q y) → Alike q y)
        → IsSome (if b then both (tree_found code_leaves p x) (tree_found code_leaves q y) else None)
        → Alike (Binary o' p q) (Binary o x y)
    go true f g h =
        let two = both_there (tree_found code_leaves p x) (tree_found code_leaves q y) h in
        let d = f two.0 in
        let e = g two.1 in record { size = omega (arith, d.size, e.size); depth = rw (d.depth, e.depth) refl }
    go false f g h = absurd (false≢true h)
alike (Const p) (Leaf l) h = absurd (false≢true h)
alike (Const p) (Read x) h = absurd (false≢true h)
alike (Const p) (Unary o x) h = absurd (false≢true h)
alike (Const p) (Binary o x y) h = absurd (false≢true h)
alike (Leaf p) (Const c) h = absurd (false≢true h)
alike (Leaf p) (Read x) h = absurd (false≢true h)
alike (Leaf p) (Unary o x) h = absurd (false≢true h)
alike (Leaf p) (Binary o x y) h = absurd (false≢true h)
alike (Read p) (Const c) h = absurd (false≢true h)
alike (Read p) (Leaf l) h = absurd (false≢true h)
alike (Read p) (Unary o x) h = absurd (false≢true h)
alike (Read p) (Binary o x y) h = absurd (false≢true h)
alike (Unary o' p) (Const c) h = absurd (false≢true h)
alike (Unary o' p) (Leaf l) h = absurd (false≢true h)
alike (Unary o' p) (Read x) h = absurd (false≢true h)
alike (Unary o' p) (Binary o x y) h = absurd (false≢true h)
alike (Binary o' p q) (Const c) h = absurd (false≢true h)
alike (Binary o' p q) (Leaf l) h = absurd (false≢true h)
alike (Binary o' p q) (Read x) h = absurd (false≢true h)
alike (Binary o' p q) (Unary o x) h = absurd (false≢true h)

small : (p : PatTree) (t : Tree ℕ Place) → IsPatTree p → IsSome (tree_found code_leaves p t) → IsSmall t
small p t limits h = let e = alike p t h in record { size = rw e.size limits.size; depth = rw e.depth limits.depth }

move_small : (p : PatMove) (m : PlainMove) → IsPatMove p → IsSome (move_found code_leaves p m) → HasSmallTerms m
move_small p (Ends (GoTo l)) ok h = tt
move_small p (Ends (IfCc r l)) ok h = tt
move_small p (Ends (CallOf s n)) ok h = tt
move_small p (Ends Return) ok h = tt
move_small (SetsTo q p) (SetTo r t) ok h =
    let two = both_there (register_found code_leaves q (Some r)) (tree_found code_leaves p t) h in small p t ok.2 two.1
move_small (Compares p q) (SetTo r t) ok h = absurd (false≢true h)
move_small (Stores p q) (SetTo r t) ok h = absurd (false≢true h)
move_small (Jumps k) (SetTo r t) ok h = absurd (false≢true h)
move_small (Branches s k) (SetTo r t) ok h = absurd (false≢true h)
move_small (BranchesOn p q s k) (SetTo r t) ok h = absurd (false≢true h)
move_small (Calls k) (SetTo r t) ok h = absurd (false≢true h)
move_small Returns (SetTo r t) ok h = absurd (false≢true h)
move_small (SetsTo q p) (CcTo t u) ok h = absurd (false≢true h)
move_small (Compares p q) (CcTo t u) ok h =
    let two = both_there (tree_found code_leaves p t) (tree_found code_leaves q u) h in
    (small p t ok.0 two.0, small q u ok.1 two.1)
move_small (Stores p q) (CcTo t u) ok h = absurd (false≢true h)
move_small (Jumps k) (CcTo t u) ok h = absurd (false≢true h)
move_small (Branches s k) (CcTo t u) ok h = absurd (false≢true h)
move_small (BranchesOn p q s k) (CcTo t u) ok h = absurd (false≢true h)
move_small (Calls k) (CcTo t u) ok h = absurd (false≢true h)
move_small Returns (CcTo t u) ok h = absurd (false≢true h)
move_small (SetsTo q p) (StoreTo t u) ok h = absurd (false≢true h)
move_small (Compares p q) (StoreTo t u) ok h = absurd (false≢true h)
move_small (Stores p q) (StoreTo t u) ok h =
    let two = both_there (tree_found code_leaves p t) (tree_found code_leaves q u) h in
    (small p t ok.0 two.0, small q u ok.1 two.1)
move_small (Jumps k) (StoreTo t u) ok h = absurd (false≢true h)
move_small (Branches s k) (StoreTo t u) ok h = absurd (false≢true h)
move_small (BranchesOn p q s k) (StoreTo t u) ok h = absurd (false≢true h)
move_small (Calls k) (StoreTo t u) ok h = absurd (false≢true h)
move_small Returns (StoreTo t u) ok h = absurd (false≢true h)
move_small (SetsTo q p) (Ends (IfTwo t u r l)) ok h = absurd (false≢true h)
move_small (Compares p q) (Ends (IfTwo t u r l)) ok h = absurd (false≢true h)
move_small (Stores p q) (Ends (IfTwo t u r l)) ok h = absurd (false≢true h)
move_small (Jumps k) (Ends (IfTwo t u r l)) ok h = absurd (false≢true h)
move_small (Branches s k) (Ends (IfTwo t u r l)) ok h = absurd (false≢true h)
move_small (BranchesOn p q s k) (Ends (IfTwo t u r l)) ok h = go (rel_eq s r) h
  where
    go : (b : Bool)
        → IsSome
        (if b then both (both (tree_found code_leaves p t) (tree_found code_leaves q u)) (target_found k l) else None)
        → IsSmall t × IsSmall u
    go true h =
        let all = both_there (both (tree_found code_leaves p t) (tree_found code_leaves q u)) (target_found k l) h in
        let two = both_there (tree_found code_leaves p t) (tree_found code_leaves q u) all.0 in
        (small p t ok.0 two.0, small q u ok.1 two.1)
    go false h = absurd (false≢true h)
move_small (Calls k) (Ends (IfTwo t u r l)) ok h = absurd (false≢true h)
move_small Returns (Ends (IfTwo t u r l)) ok h = absurd (false≢true h)

-- as many transfers as the pattern has, with small terms
moves_small : (ps : List PatMove) (ms : PlainInstr) → All IsPatMove ps → IsSome (moves_found code_leaves ps ms)
    → (length ms ≡ length ps) × All HasSmallTerms ms
moves_small [] [] each h = (refl, All-nil HasSmallTerms)
moves_small [] (m ∷ ms) each h = absurd (false≢true h)
moves_small (p ∷ ps) [] each h = absurd (false≢true h)
moves_small (p ∷ ps) (m ∷ ms) each h =
    let two = both_there (move_found code_leaves p m) (moves_found code_leaves ps ms) h in
    let rest = moves_small ps ms (λ k d l. each (suc k) d (omega (arith, l))) two.1 in
    (ap (λ n. suc n) rest.0, All-cons HasSmallTerms m ms (move_small p m (each zero p (omega arith)) two.0) rest.1)

found_there : (o : Option Finds) → IsSome (answered code_leaves words o).got → IsSome o
found_there None h = absurd (false≢true h)
found_there (Some fs) h = refl

entry_small : (cc_live : Bool) (e : Entry) (ms : PlainInstr) → IsEntry e
    → IsSome (entry_fit code_leaves words cc_live e ms).got → IsWithinLimits ms
entry_small cc_live e ms allowed h = go (e.clobbers && cc_live) h
  where
    from : IsSome (moves_found code_leaves (pat_moves_of e.pattern) ms) → IsWithinLimits ms
    from h =
        let found = moves_small (pat_moves_of e.pattern) ms allowed.each h in
        record { some = rw found.0 allowed.some; few = rw found.0 allowed.few; terms = found.1 }

    go : (b : Bool)
        → IsSome (if b then give {K = ℕ} None
        else answered code_leaves words (moves_found code_leaves (pat_moves_of e.pattern) ms)).got → IsWithinLimits ms
    go true h = absurd (false≢true h)
    go false h = from (found_there (moves_found code_leaves (pat_moves_of e.pattern) ms) h)

first_small : (cc_live : Bool) (es : List Entry) (n : ℕ) (ms : PlainInstr) → All IsEntry es
    → IsSome (first_fit code_leaves words cc_live es n ms).got → IsWithinLimits ms
first_small cc_live [] n ms each h = absurd (false≢true h)
first_small cc_live (e ∷ es) n ms each h =
    go (entry_fit code_leaves words cc_live e ms).got (entry_small cc_live e ms (each zero e (omega arith)))
    (first_small cc_live es (suc n) ms (λ k d l. each (suc k) d (omega (arith, l)))) h
  where
    go : (o : Option Finds) → (IsSome o → IsWithinLimits ms)
        → (IsSome (first_fit code_leaves words cc_live es (suc n) ms).got → IsWithinLimits ms)
        → IsSome (or_later n o (first_fit code_leaves words cc_live es (suc n) ms)).got → IsWithinLimits ms
    go None here later h = later h
    go (Some fs) here later h = here refl

pub within_limits : (m : Machine) (cc_live : Bool) (ms : PlainInstr) → IsMachine m → IsSome (fit m cc_live ms)
    → IsWithinLimits ms
within_limits m cc_live ms allowed h = first_small cc_live m.entries 0 ms allowed.each h
