-- Two bases agree exactly where they are one term.
use Rattle.std.proofs.Common.{◌≡◌, ℕ, Bool, true, false, refl, sym, ◌∙◌, ap, arith}
use Rattle.std.specs.Prelude.{◌==◌, if◌then◌else◌, ◌↔◌, IsTrue}
use Rattle.std.proofs.lemmas.Bool.{eqb-true, false≢true}
use Rattle.po_word.specs.declared.operator.Un.{Un}
use Rattle.po_word.specs.declared.operator.Un.TheVariants.{Neg, Not}
use Rattle.po_word.specs.declared.operator.Bin.{Bin}
use Rattle.po_word.specs.declared.operator.Bin.TheVariants.{Add, Sub, Mul, And, Or, Xor, Shl, Sar, Shr}
use Rattle.po_term.specs.declared.term.Reg.{Reg as Register}
use Rattle.po_term.specs.declared.term.Reg.TheVariants.{Virt, Fp, Rv, Arg}
use Rattle.po_term.specs.Tree.{Tree, Const, Leaf, Read, Unary, Binary}
use Rattle.po_term.specs.Terms.{Place, InReg, AtSym}
use Rattle.po_term.specs.Kinds.{words, Met, give, and_then}
use Rattle.po_term.specs.Simplified.{reg_eq, same_register}
use Rattle.po_model.specs.Operators.{un_eq, bin_eq, bin_place}
use Rattle.po_model.specs.Parts.{same_place, code_leaves}
use Rattle.po_model.specs.Forward.{agree}

pub one_register : (r q : Register) → reg_eq r q ≡ true → r ≡ q
one_register (Virt m) (Virt n) e = ap Virt (eqb-true m n e)
one_register Fp Fp e = refl
one_register Rv Rv e = refl
one_register (Arg m) (Arg n) e = ap Arg (eqb-true m n e)
one_register r q e = cc

pub one_place : (p q : Place) → same_register p q ≡ true → p ≡ q
one_place (InReg r) (InReg q) e = ap InReg (one_register r q e)
one_place p q e = cc

one_leaf : (p q : Place) → same_place p q ≡ true → p ≡ q
one_leaf (InReg r) (InReg q) e = ap InReg (one_register r q e)
one_leaf (AtSym s) (AtSym t) e = let f : s.0 ≡ t.0 = eqb-true s.0 t.0 e in ap (λ n. AtSym (record { 0 = n })) f
one_leaf p q e = cc

one_un : (o p : Un) → un_eq o p ≡ true → o ≡ p
one_un Neg Neg e = refl
one_un Not Not e = refl
one_un o p e = cc

bin_at : ℕ → Bin
bin_at n =
    if n == 0 then Add else if n == 1 then Sub else if n == 2 then Mul else if n == 3 then And else if n == 4 then Or
    else if n == 5 then Xor else if n == 6 then Shl else if n == 7 then Sar else Shr

bin_at_place : (o : Bin) → bin_at (bin_place o) ≡ o
unfolding bin_at
bin_at_place Add = refl
bin_at_place Sub = refl
bin_at_place Mul = refl
bin_at_place And = refl
bin_at_place Or = refl
bin_at_place Xor = refl
bin_at_place Shl = refl
bin_at_place Sar = refl
bin_at_place Shr = refl

one_bin : (o p : Bin) → bin_eq o p ≡ true → o ≡ p
one_bin o p e = sym (bin_at_place o) ∙ ap bin_at (eqb-true (bin_place o) (bin_place p) e) ∙ bin_at_place p

-- both tests are passed
both_passed : (b c : Bool) → (if b then c else false) ≡ true → (b ≡ true) × (c ≡ true)
both_passed true c e = (refl, e)
both_passed false c e = absurd (false≢true e)

abbrev if_met : Bool → Met ℕ Bool → Met ℕ Bool
if_met b m = if b then m else give false

if_got : (b : Bool) (m : Met ℕ Bool) → (if_met b m).got ≡ (if b then m.got else false)
if_got true m = refl
if_got false m = refl

pub agree_one : (a b : Tree ℕ Place) → (agree words code_leaves a b).got ≡ true → a ≡ b
agree_one (Const c) (Const d) e = ap Const (go (c == d) refl e)
  where
    go : (b : Bool) → (c == d) ≡ b → (if b then give {K = ℕ} true else give {K = ℕ} false).got ≡ true → c ≡ d
    go true f e = eqb-true c d f
    go false f e = absurd (false≢true e)
agree_one (Leaf p) (Leaf q) e = ap Leaf (one_leaf p q e)
agree_one (Read x) (Read y) e = ap Read (agree_one x y e)
agree_one (Unary o x) (Unary p y) e =
    let f : (if un_eq o p then (agree words code_leaves x y).got else false) ≡ true =
    sym (if_got (un_eq o p) (agree words code_leaves x y)) ∙ e in
    let g = both_passed (un_eq o p) (agree words code_leaves x y).got f in
    ap (λ q. Unary q x) (one_un o p g.0) ∙ ap (λ z. Unary p z) (agree_one x y g.1)
agree_one (Binary o x y) (Binary p u v) e =
    let f :
    (if bin_eq o p then (if_met (agree words code_leaves x u).got (agree words code_leaves y v)).got else false)
    ≡ true =
    sym (if_got (bin_eq o p)
    (and_then (agree words code_leaves x u) (λ yes. if_met yes (agree words code_leaves y v)))) ∙ e in
    let g = both_passed (bin_eq o p) (if_met (agree words code_leaves x u).got (agree words code_leaves y v)).got f in
    let h : (if (agree words code_leaves x u).got then (agree words code_leaves y v).got else false) ≡ true =
    sym (if_got (agree words code_leaves x u).got (agree words code_leaves y v)) ∙ g.1 in
    let i = both_passed (agree words code_leaves x u).got (agree words code_leaves y v).got h in
    ap (λ q. Binary q x y) (one_bin o p g.0) ∙ ap (λ z. Binary p z y) (agree_one x u i.0)
    ∙ ap (λ z. Binary p u z) (agree_one y v i.1)
agree_one a b e = cc

pub reg_self : (r : Register) → reg_eq r r ≡ true
reg_self (Virt m) = grind arith
reg_self Fp = refl
reg_self Rv = refl
reg_self (Arg m) = grind arith

leaf_self : (p : Place) → same_place p p ≡ true
leaf_self (InReg r) = reg_self r
leaf_self (AtSym s) = grind arith

un_self : (o : Un) → un_eq o o ≡ true
un_self o = grind arith

bin_self : (o : Bin) → bin_eq o o ≡ true
bin_self o = grind arith

pub agree_self : (a : Tree ℕ Place) → (agree words code_leaves a a).got ≡ true
agree_self (Const c) = grind arith
agree_self (Leaf p) = leaf_self p
agree_self (Read x) = agree_self x
agree_self (Unary o x) = rw (un_self o) (agree_self x)
agree_self (Binary o x y) = rw (bin_self o, agree_self x) (agree_self y)

-- a test of sameness has the answer of the table
pub agrees : (b : Bool) (u v : Tree ℕ Place) → (IsTrue b ↔ (u ≡ v)) → b ≡ (agree words code_leaves u v).got
agrees true u v h = let e : u ≡ v = h.0 refl in rw (← e) (sym (agree_self u))
agrees false u v h = go (agree words code_leaves u v).got refl
  where
    go : (c : Bool) → (agree words code_leaves u v).got ≡ c → false ≡ c
    go true e = h.1 (agree_one u v e)
    go false e = refl
