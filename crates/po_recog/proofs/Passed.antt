-- Where something is found, the list has the pattern's head; so an entry with another head is passed over.
use Rattle.std.proofs.Common.{◌≡◌, ℕ, Bool, true, false, List, [], ◌∷◌, Option, Some, None, refl, ap, sym, ◌∙◌}
use Rattle.std.specs.Prelude.{IsSome, if◌then◌else◌, ◌&&◌, ◌==◌}
use Rattle.std.specs.Option.{option_map}
use Rattle.std.proofs.lemmas.Bool.{false≢true, eqb-true}
use Rattle.po_word.specs.declared.operator.Un.{Un}
use Rattle.po_word.specs.declared.operator.Un.TheVariants.{Neg, Not}
use Rattle.po_word.specs.declared.operator.Bin.{Bin}
use Rattle.po_word.specs.declared.operator.Bin.TheVariants.{Add, Sub, Mul, And, Or, Xor, Shl, Sar, Shr}
use Rattle.po_word.specs.declared.operator.Rel.{Rel}
use Rattle.po_word.specs.declared.operator.Rel.TheVariants.{Eq, Ne, Lt, Le, Gt, Ge, Ltu, Geu}
use Rattle.po_term.specs.declared.term.Reg.{Reg as Register}
use Rattle.po_term.specs.declared.term.Sym.{Sym as Symbol}
use Rattle.po_term.specs.Tree.{Const, Leaf, Read, Unary, Binary}
use Rattle.po_term.specs.Terms.{PlainTerm, InReg, AtSym}
use Rattle.po_term.specs.Moves.{GoTo, IfCc, IfTwo, CallOf, Return, SetTo, CcTo, StoreTo, Ends, PlainMove, PlainInstr}
use Rattle.po_term.specs.Kinds.{give, words}
use Rattle.po_model.specs.declared.machine.Entry.{Entry}
use Rattle.po_model.specs.declared.machine.PatReg.{PatReg}
use Rattle.po_model.specs.Patterns.{InPatReg, AtSymbol, PatTree, PatMove, pat_moves_of}
use Rattle.po_model.specs.Patterns.{SetsTo, Compares, Stores, Jumps, Branches, BranchesOn, Calls, Returns}
use Rattle.po_model.specs.Operators.{un_place, bin_place, rel_place, un_eq, bin_eq, rel_eq}
use Rattle.po_model.specs.Fit.{Found, both, register_found, target_found, tree_found, move_found, moves_found}
use Rattle.po_model.specs.Fit.{answered, entry_fit}
use Rattle.po_model.specs.Parts.{code_leaves}
use Rattle.po_recog.specs.declared.head.Form.{Form}
use Rattle.po_recog.specs.declared.head.Form.TheVariants as form
use Rattle.po_recog.specs.declared.head.Head.{Head}
use Rattle.po_recog.specs.declared.head.Head.TheVariants as head
use Rattle.po_recog.specs.Heads.{pattern_outer, pattern_inner, term_outer, term_inner}
use Rattle.po_recog.specs.Heads.{pat_move_head, move_head, pat_moves_head, moves_head}
use Rattle.po_recog.specs.Heads.{head_number, list_number, entry_number}
use Rattle.po_recog.specs.Operands.{operands_in}
use Rattle.po_recog.proofs.Limits.{both_there}

abbrev Finds : Type 0
Finds = List (Found ℕ Register Symbol)

-- Operators with one place are one

abbrev un_at : ℕ → Un
un_at n = if n == 0 then Neg else Not

un_back : (o : Un) → un_at (un_place o) ≡ o
un_back Neg = refl
un_back Not = refl

un_same : (o q : Un) → un_eq o q ≡ true → o ≡ q
un_same o q h = sym (un_back o) ∙ (ap un_at (eqb-true (un_place o) (un_place q) h) ∙ un_back q)

abbrev bin_at : ℕ → Bin
bin_at n =
    if n == 0 then Add else (
    if n == 1 then Sub else (
    if n == 2 then Mul else (
    if n == 3 then And else (
    if n == 4 then Or else (
    if n == 5 then Xor else (
    if n == 6 then Shl else (
    if n == 7 then Sar else Shr)))))))

bin_back : (o : Bin) → bin_at (bin_place o) ≡ o
bin_back Add = refl
bin_back Sub = refl
bin_back Mul = refl
bin_back And = refl
bin_back Or = refl
bin_back Xor = refl
bin_back Shl = refl
bin_back Sar = refl
bin_back Shr = refl

bin_same : (o q : Bin) → bin_eq o q ≡ true → o ≡ q
bin_same o q h = sym (bin_back o) ∙ (ap bin_at (eqb-true (bin_place o) (bin_place q) h) ∙ bin_back q)

abbrev rel_at : ℕ → Rel
rel_at n =
    if n == 0 then Eq else (
    if n == 1 then Ne else (
    if n == 2 then Lt else (
    if n == 3 then Le else (
    if n == 4 then Gt else (
    if n == 5 then Ge else (
    if n == 6 then Ltu else Geu))))))

rel_back : (o : Rel) → rel_at (rel_place o) ≡ o
rel_back Eq = refl
rel_back Ne = refl
rel_back Lt = refl
rel_back Le = refl
rel_back Gt = refl
rel_back Ge = refl
rel_back Ltu = refl
rel_back Geu = refl

rel_same : (o q : Rel) → rel_eq o q ≡ true → o ≡ q
rel_same o q h = sym (rel_back o) ∙ (ap rel_at (eqb-true (rel_place o) (rel_place q) h) ∙ rel_back q)

-- what is found behind a test has passed it
passed : (b : Bool) (o : Option Finds) → IsSome (if b then o else None) → b ≡ true
passed true o h = refl
passed false o h = absurd (false≢true h)

-- Terms

outer_same : (p : PatTree) (t : PlainTerm) → IsSome (tree_found code_leaves p t) → pattern_outer p ≡ term_outer t
outer_same (Const p) (Const c) h = refl
outer_same (Const p) (Leaf (InReg r)) h = absurd (false≢true h)
outer_same (Const p) (Leaf (AtSym s)) h = absurd (false≢true h)
outer_same (Const p) (Read x) h = absurd (false≢true h)
outer_same (Const p) (Unary q x) h = absurd (false≢true h)
outer_same (Const p) (Binary q x y) h = absurd (false≢true h)
outer_same (Leaf (InPatReg p)) (Const c) h = absurd (false≢true h)
outer_same (Leaf (AtSymbol k)) (Const c) h = absurd (false≢true h)
outer_same (Leaf (InPatReg p)) (Leaf (InReg r)) h = refl
outer_same (Leaf (InPatReg p)) (Leaf (AtSym s)) h = absurd (false≢true h)
outer_same (Leaf (AtSymbol k)) (Leaf (InReg r)) h = absurd (false≢true h)
outer_same (Leaf (AtSymbol k)) (Leaf (AtSym s)) h = refl
outer_same (Leaf (InPatReg p)) (Read x) h = absurd (false≢true h)
outer_same (Leaf (AtSymbol k)) (Read x) h = absurd (false≢true h)
outer_same (Leaf (InPatReg p)) (Unary q x) h = absurd (false≢true h)
outer_same (Leaf (AtSymbol k)) (Unary q x) h = absurd (false≢true h)
outer_same (Leaf (InPatReg p)) (Binary q x y) h = absurd (false≢true h)
outer_same (Leaf (AtSymbol k)) (Binary q x y) h = absurd (false≢true h)
outer_same (Read p) (Const c) h = absurd (false≢true h)
outer_same (Read p) (Leaf (InReg r)) h = absurd (false≢true h)
outer_same (Read p) (Leaf (AtSym s)) h = absurd (false≢true h)
outer_same (Read p) (Read x) h = refl
outer_same (Read p) (Unary q x) h = absurd (false≢true h)
outer_same (Read p) (Binary q x y) h = absurd (false≢true h)
outer_same (Unary o p) (Const c) h = absurd (false≢true h)
outer_same (Unary o p) (Leaf (InReg r)) h = absurd (false≢true h)
outer_same (Unary o p) (Leaf (AtSym s)) h = absurd (false≢true h)
outer_same (Unary o p) (Read x) h = absurd (false≢true h)
outer_same (Unary o p) (Unary q x) h = ap form.Un (un_same o q (passed (un_eq o q) (tree_found code_leaves p x) h))
outer_same (Unary o p) (Binary q x y) h = absurd (false≢true h)
outer_same (Binary o p v) (Const c) h = absurd (false≢true h)
outer_same (Binary o p v) (Leaf (InReg r)) h = absurd (false≢true h)
outer_same (Binary o p v) (Leaf (AtSym s)) h = absurd (false≢true h)
outer_same (Binary o p v) (Read x) h = absurd (false≢true h)
outer_same (Binary o p v) (Unary q x) h = absurd (false≢true h)
outer_same (Binary o p v) (Binary q x y) h =
    ap form.Bin (bin_same o q (passed (bin_eq o q) (both (tree_found code_leaves p x) (tree_found code_leaves v y)) h))

-- both terms behind an operator are found
second_there : (b : Bool) (x y : Option Finds) → IsSome (if b then both x y else None) → IsSome y
second_there true x y h = (both_there x y h).1
second_there false x y h = absurd (false≢true h)

inner_same : (p : PatTree) (t : PlainTerm) → IsSome (tree_found code_leaves p t) → pattern_inner p ≡ term_inner t
inner_same (Const p) (Const c) h = refl
inner_same (Const p) (Leaf (InReg r)) h = absurd (false≢true h)
inner_same (Const p) (Leaf (AtSym s)) h = absurd (false≢true h)
inner_same (Const p) (Read x) h = absurd (false≢true h)
inner_same (Const p) (Unary q x) h = absurd (false≢true h)
inner_same (Const p) (Binary q x y) h = absurd (false≢true h)
inner_same (Leaf (InPatReg p)) (Const c) h = absurd (false≢true h)
inner_same (Leaf (AtSymbol k)) (Const c) h = absurd (false≢true h)
inner_same (Leaf (InPatReg p)) (Leaf (InReg r)) h = refl
inner_same (Leaf (InPatReg p)) (Leaf (AtSym s)) h = absurd (false≢true h)
inner_same (Leaf (AtSymbol k)) (Leaf (InReg r)) h = absurd (false≢true h)
inner_same (Leaf (AtSymbol k)) (Leaf (AtSym s)) h = refl
inner_same (Leaf (InPatReg p)) (Read x) h = absurd (false≢true h)
inner_same (Leaf (AtSymbol k)) (Read x) h = absurd (false≢true h)
inner_same (Leaf (InPatReg p)) (Unary q x) h = absurd (false≢true h)
inner_same (Leaf (AtSymbol k)) (Unary q x) h = absurd (false≢true h)
inner_same (Leaf (InPatReg p)) (Binary q x y) h = absurd (false≢true h)
inner_same (Leaf (AtSymbol k)) (Binary q x y) h = absurd (false≢true h)
inner_same (Read p) (Const c) h = absurd (false≢true h)
inner_same (Read p) (Leaf (InReg r)) h = absurd (false≢true h)
inner_same (Read p) (Leaf (AtSym s)) h = absurd (false≢true h)
inner_same (Read p) (Read x) h = outer_same p x h
inner_same (Read p) (Unary q x) h = absurd (false≢true h)
inner_same (Read p) (Binary q x y) h = absurd (false≢true h)
inner_same (Unary o p) (Const c) h = absurd (false≢true h)
inner_same (Unary o p) (Leaf (InReg r)) h = absurd (false≢true h)
inner_same (Unary o p) (Leaf (AtSym s)) h = absurd (false≢true h)
inner_same (Unary o p) (Read x) h = absurd (false≢true h)
inner_same (Unary o p) (Unary q x) h = ap form.Un (un_same o q (passed (un_eq o q) (tree_found code_leaves p x) h))
inner_same (Unary o p) (Binary q x y) h = absurd (false≢true h)
inner_same (Binary o p v) (Const c) h = absurd (false≢true h)
inner_same (Binary o p v) (Leaf (InReg r)) h = absurd (false≢true h)
inner_same (Binary o p v) (Leaf (AtSym s)) h = absurd (false≢true h)
inner_same (Binary o p v) (Read x) h = absurd (false≢true h)
inner_same (Binary o p v) (Unary q x) h = absurd (false≢true h)
inner_same (Binary o p v) (Binary q x y) h =
    outer_same v y (second_there (bin_eq o q) (tree_found code_leaves p x) (tree_found code_leaves v y) h)

-- Transfers

-- what is made of the forms of two terms that are found
two_same : (make : Form → Form → Head) (p v : PatTree) (t u : PlainTerm)
    → IsSome (both (tree_found code_leaves p t) (tree_found code_leaves v u))
    → make (pattern_outer p) (pattern_outer v) ≡ make (term_outer t) (term_outer u)
two_same make p v t u h =
    let two = both_there (tree_found code_leaves p t) (tree_found code_leaves v u) h in
    ap (λ f. make f (pattern_outer v)) (outer_same p t two.0) ∙ ap (λ f. make (term_outer t) f) (outer_same v u two.1)

set_same : (w : PatReg) (r : Register) (p : PatTree) (t : PlainTerm)
    → IsSome (both (register_found code_leaves w (Some r)) (tree_found code_leaves p t))
    → head.Set (pattern_outer p) (pattern_inner p) ≡ head.Set (term_outer t) (term_inner t)
set_same w r p t h =
    let two = both_there (register_found code_leaves w (Some r)) (tree_found code_leaves p t) h in
    ap (λ f. head.Set f (pattern_inner p)) (outer_same p t two.1)
    ∙ ap (λ f. head.Set (term_outer t) f) (inner_same p t two.1)

branch_same : (b : Bool) (x y : Option Finds) → IsSome (if b then both x y else None) → IsSome x
branch_same true x y h = (both_there x y h).0
branch_same false x y h = absurd (false≢true h)

move_same : (p : PatMove) (m : PlainMove) → IsSome (move_found code_leaves p m) → pat_move_head p ≡ move_head m
move_same (SetsTo w p) (SetTo r t) h = set_same w r p t h
move_same (SetsTo w p) (CcTo t u) h = absurd (false≢true h)
move_same (SetsTo w p) (StoreTo t u) h = absurd (false≢true h)
move_same (SetsTo w p) (Ends (GoTo l)) h = absurd (false≢true h)
move_same (SetsTo w p) (Ends (IfCc r l)) h = absurd (false≢true h)
move_same (SetsTo w p) (Ends (IfTwo t u r l)) h = absurd (false≢true h)
move_same (SetsTo w p) (Ends (CallOf c n)) h = absurd (false≢true h)
move_same (SetsTo w p) (Ends Return) h = absurd (false≢true h)
move_same (Compares p v) (SetTo r t) h = absurd (false≢true h)
move_same (Compares p v) (CcTo t u) h = two_same head.Cc p v t u h
move_same (Compares p v) (StoreTo t u) h = absurd (false≢true h)
move_same (Compares p v) (Ends (GoTo l)) h = absurd (false≢true h)
move_same (Compares p v) (Ends (IfCc r l)) h = absurd (false≢true h)
move_same (Compares p v) (Ends (IfTwo t u r l)) h = absurd (false≢true h)
move_same (Compares p v) (Ends (CallOf c n)) h = absurd (false≢true h)
move_same (Compares p v) (Ends Return) h = absurd (false≢true h)
move_same (Stores p v) (SetTo r t) h = absurd (false≢true h)
move_same (Stores p v) (CcTo t u) h = absurd (false≢true h)
move_same (Stores p v) (StoreTo t u) h = two_same head.Store p v t u h
move_same (Stores p v) (Ends (GoTo l)) h = absurd (false≢true h)
move_same (Stores p v) (Ends (IfCc r l)) h = absurd (false≢true h)
move_same (Stores p v) (Ends (IfTwo t u r l)) h = absurd (false≢true h)
move_same (Stores p v) (Ends (CallOf c n)) h = absurd (false≢true h)
move_same (Stores p v) (Ends Return) h = absurd (false≢true h)
move_same (Jumps k) (SetTo r t) h = absurd (false≢true h)
move_same (Jumps k) (CcTo t u) h = absurd (false≢true h)
move_same (Jumps k) (StoreTo t u) h = absurd (false≢true h)
move_same (Jumps k) (Ends (GoTo l)) h = refl
move_same (Jumps k) (Ends (IfCc r l)) h = absurd (false≢true h)
move_same (Jumps k) (Ends (IfTwo t u r l)) h = absurd (false≢true h)
move_same (Jumps k) (Ends (CallOf c n)) h = absurd (false≢true h)
move_same (Jumps k) (Ends Return) h = absurd (false≢true h)
move_same (Branches s k) (SetTo r t) h = absurd (false≢true h)
move_same (Branches s k) (CcTo t u) h = absurd (false≢true h)
move_same (Branches s k) (StoreTo t u) h = absurd (false≢true h)
move_same (Branches s k) (Ends (GoTo l)) h = absurd (false≢true h)
move_same (Branches s k) (Ends (IfCc r l)) h = ap head.IfCc (rel_same s r (passed (rel_eq s r) (target_found k l) h))
move_same (Branches s k) (Ends (IfTwo t u r l)) h = absurd (false≢true h)
move_same (Branches s k) (Ends (CallOf c n)) h = absurd (false≢true h)
move_same (Branches s k) (Ends Return) h = absurd (false≢true h)
move_same (BranchesOn p v s k) (SetTo r t) h = absurd (false≢true h)
move_same (BranchesOn p v s k) (CcTo t u) h = absurd (false≢true h)
move_same (BranchesOn p v s k) (StoreTo t u) h = absurd (false≢true h)
move_same (BranchesOn p v s k) (Ends (GoTo l)) h = absurd (false≢true h)
move_same (BranchesOn p v s k) (Ends (IfCc r l)) h = absurd (false≢true h)
move_same (BranchesOn p v s k) (Ends (IfTwo t u r l)) h =
    let found = both (tree_found code_leaves p t) (tree_found code_leaves v u) in
    two_same head.IfTwo p v t u (branch_same (rel_eq s r) found (target_found k l) h)
move_same (BranchesOn p v s k) (Ends (CallOf c n)) h = absurd (false≢true h)
move_same (BranchesOn p v s k) (Ends Return) h = absurd (false≢true h)
move_same (Calls k) (SetTo r t) h = absurd (false≢true h)
move_same (Calls k) (CcTo t u) h = absurd (false≢true h)
move_same (Calls k) (StoreTo t u) h = absurd (false≢true h)
move_same (Calls k) (Ends (GoTo l)) h = absurd (false≢true h)
move_same (Calls k) (Ends (IfCc r l)) h = absurd (false≢true h)
move_same (Calls k) (Ends (IfTwo t u r l)) h = absurd (false≢true h)
move_same (Calls k) (Ends (CallOf c n)) h = refl
move_same (Calls k) (Ends Return) h = absurd (false≢true h)
move_same Returns (SetTo r t) h = absurd (false≢true h)
move_same Returns (CcTo t u) h = absurd (false≢true h)
move_same Returns (StoreTo t u) h = absurd (false≢true h)
move_same Returns (Ends (GoTo l)) h = absurd (false≢true h)
move_same Returns (Ends (IfCc r l)) h = absurd (false≢true h)
move_same Returns (Ends (IfTwo t u r l)) h = absurd (false≢true h)
move_same Returns (Ends (CallOf c n)) h = absurd (false≢true h)
move_same Returns (Ends Return) h = refl

moves_same : (ps : List PatMove) (ms : PlainInstr) → IsSome (moves_found code_leaves ps ms)
    → pat_moves_head ps ≡ moves_head ms
moves_same [] [] h = refl
moves_same [] (m ∷ ms) h = absurd (false≢true h)
moves_same (p ∷ ps) [] h = absurd (false≢true h)
moves_same (p ∷ []) (m ∷ []) h =
    move_same p m (both_there (move_found code_leaves p m) (moves_found code_leaves [] []) h).0
moves_same (p ∷ []) (m ∷ n ∷ ms) h =
    absurd (false≢true (both_there (move_found code_leaves p m) (moves_found code_leaves [] (n ∷ ms)) h).1)
moves_same (p ∷ v ∷ ps) (m ∷ []) h =
    absurd (false≢true (both_there (move_found code_leaves p m) (moves_found code_leaves (v ∷ ps) []) h).1)
moves_same (p ∷ v ∷ ps) (m ∷ n ∷ ms) h = refl

none_there : (o : Option Finds) → (IsSome o → ⊥) → o ≡ None
none_there None f = refl
none_there (Some fs) f = absurd (f refl)

-- nothing is found where the heads differ
pub nothing_found : (ps : List PatMove) (ms : PlainInstr)
    → (pat_moves_head ps ≡ moves_head ms → ⊥) → moves_found code_leaves ps ms ≡ None
nothing_found ps ms other = none_there (moves_found code_leaves ps ms) (λ h. other (moves_same ps ms h))

-- an entry whose head has another number doesn't fit
pub passed_over : (e : Entry) (cc_live : Bool) (ms : PlainInstr) (h g : ℕ)
    → h ≡ entry_number e → g ≡ list_number ms → (h ≡ g → ⊥)
    → None ≡ option_map operands_in (entry_fit code_leaves words cc_live e ms).got
passed_over e cc_live ms h g of_entry of_list other =
    go (e.clobbers && cc_live) (moves_found code_leaves (pat_moves_of e.pattern) ms)
    (nothing_found (pat_moves_of e.pattern) ms (λ same. other (of_entry ∙ (ap head_number same ∙ sym of_list))))
  where
    go : (b : Bool) (found : Option Finds) → found ≡ None
        → None ≡ option_map operands_in (if b then give {K = ℕ} None else answered code_leaves words found).got
    go true found none = refl
    go false found none = rw none refl
