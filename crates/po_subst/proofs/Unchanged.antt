-- Terms that simplifying leaves as they are.
use Rattle.std.proofs.Common.{◌≡◌, ℕ, Bool, true, false, List, [], ◌∷◌, refl, sym, ◌∙◌, ap}
use Rattle.std.specs.Prelude.{not, ◌==◌, if◌then◌else◌}
use Rattle.std.proofs.lemmas.Bool.{false≢true}
use Rattle.po_word.specs.declared.operator.Un.{Un}
use Rattle.po_word.specs.declared.operator.Un.TheVariants.{Neg, Not}
use Rattle.po_word.specs.declared.operator.Bin.{Bin}
use Rattle.po_word.specs.declared.operator.Bin.TheVariants.{Add, Sub, Mul, And, Or, Xor, Shl, Sar, Shr}
use Rattle.po_term.specs.declared.term.Reg.{Reg as Register}
use Rattle.po_term.specs.Tree.{Const, Leaf, Unary, Binary}
use Rattle.po_term.specs.Terms.{InReg, PlainTerm}
use Rattle.po_term.specs.Kinds.{words}
use Rattle.po_term.specs.Simplified.{reg_eq, same_register, make_plus, binary_of, unary_of}

-- two registers that aren't one
pub registers_stay : (o : Bin) (r q : Register) → reg_eq r q ≡ false
    → (binary_of words same_register o (Leaf (InReg r)) (Leaf (InReg q))).got
    ≡ Binary o (Leaf (InReg r)) (Leaf (InReg q))
unfolding make_plus
registers_stay Add r q e = refl
registers_stay Sub r q e = rw e refl
registers_stay Mul r q e = refl
registers_stay And r q e = refl
registers_stay Or r q e = refl
registers_stay Xor r q e = refl
registers_stay Shl r q e = refl
registers_stay Sar r q e = refl
registers_stay Shr r q e = refl

-- a register and a constant that isn't 0, added
pub sum_stays : (r : Register) (c : ℕ) → (c == 0) ≡ false
    → (make_plus words same_register (Leaf (InReg r)) (Const c)).got ≡ Binary Add (Leaf (InReg r)) (Const c)
unfolding make_plus
sum_stays r c e = rw e refl

-- a register under an operator
pub register_stays : (o : Un) (r : Register)
    → (unary_of words same_register o (Leaf (InReg r))).got ≡ Unary o (Leaf (InReg r))
register_stays Neg r = refl
register_stays Not r = refl

pub not_true : (b : Bool) → not b ≡ true → b ≡ false
not_true true e = absurd (false≢true e)
not_true false e = refl
