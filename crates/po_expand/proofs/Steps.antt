-- What an operation does to what stands before it.
use Rattle.std.proofs.Common.{◌≡◌, ℕ, List, refl, sym, append_assoc, arith}
use Rattle.po_word.specs.declared.operator.Bin.{Bin}
use Rattle.po_word.specs.declared.operator.Bin.TheVariants.{Add}
use Rattle.po_word.specs.declared.operator.Un.{Un}
use Rattle.po_word.specs.declared.operator.Rel.{Rel}
use Rattle.po_term.specs.declared.term.Reg.TheVariants.{Fp, Rv, Arg}
use Rattle.po_term.specs.declared.term.Label.{Label}
use Rattle.po_term.specs.declared.term.Sym.{Sym}
use Rattle.po_term.specs.Tree.{Tree, Const, Read, Unary, Binary}
use Rattle.po_term.specs.Terms.{Place}
use Rattle.po_term.specs.Moves.{GoTo, IfCc, CallOf, Return, SetTo, CcTo, StoreTo, Ends, PlainMove}
use Rattle.po_ir.specs.declared.unit.Op.TheVariants as op
use Rattle.po_model.specs.Naive.{Text, label, symbol, number_in, register, virt}
use Rattle.po_expand.specs.Steps.{Between, added, defined, pushed, closed, marked, Expands}

pub adl_is : (labels syms : List Text) (b c : Between) (n : ℕ) (t : Tree ℕ Place)
    → t ≡ Binary Add (register Fp) (Const n) → c ≡ defined t b → Expands labels syms (op.Adl n) b c
adl_is labels syms b c n t f g = rw (g, f) (record { code = λ os. refl; depth = omega arith; next = omega arith })

pub lod_is : (labels syms : List Text) (b m c : Between) (a : ℕ) (t : Tree ℕ Place) → b ≡ pushed a m
    → t ≡ Read (virt a) → c ≡ defined t m → Expands labels syms op.Lod b c
lod_is labels syms b m c a t e f g =
    rw (e, g, f) (record { code = λ os. refl; depth = omega arith; next = omega arith })

pub un_is : (labels syms : List Text) (b m c : Between) (a : ℕ) (o : Un) (t : Tree ℕ Place) → b ≡ pushed a m
    → t ≡ Unary o (virt a) → c ≡ defined t m → Expands labels syms (op.Un o) b c
un_is labels syms b m c a o t e f g =
    rw (e, g, f) (record { code = λ os. refl; depth = omega arith; next = omega arith })

pub bin_is : (labels syms : List Text) (b m n c : Between) (right left : ℕ) (o : Bin) (t : Tree ℕ Place)
    → b ≡ pushed right m → m ≡ pushed left n → t ≡ Binary o (virt left) (virt right) → c ≡ defined t n
    → Expands labels syms (op.Bin o) b c
bin_is labels syms b m n c right left o t d e f g =
    rw (d, e, g, f) (record { code = λ os. refl; depth = omega arith; next = omega arith })

pub sto_is : (labels syms : List Text) (b m n c : Between) (right left : ℕ) (move : PlainMove) → b ≡ pushed right m
    → m ≡ pushed left n → move ≡ StoreTo (virt left) (virt right) → c ≡ added move n → Expands labels syms op.Sto b c
sto_is labels syms b m n c right left move d e f g =
    rw (d, e, g, f) (record { code = λ os. refl; depth = omega arith; next = omega arith })

pub dup_is : (labels syms : List Text) (b m n c : Between) (a : ℕ) → b ≡ pushed a m → n ≡ pushed a m → c ≡ pushed a n
    → Expands labels syms op.Dup b c
dup_is labels syms b m n c a e f g =
    rw (e, g, f) (record { code = λ os. refl; depth = omega arith; next = omega arith })

pub pop_is : (labels syms : List Text) (b c : Between) (a : ℕ) → b ≡ pushed a c → Expands labels syms op.Pop b c
pop_is labels syms b c a e = rw e (record { code = λ os. refl; depth = omega arith; next = omega arith })

pub lab_is : (labels syms : List Text) (b c : Between) (l : Text) (target : Label) → label labels syms l ≡ target
    → c ≡ marked target b → Expands labels syms (op.Lab l) b c
lab_is labels syms b c l target e f =
    rw (f, ← e) (record { code = λ os. sym (append_assoc b.ended _ _); depth = omega arith; next = omega arith })

pub jmp_is : (labels syms : List Text) (b m c : Between) (l : Text) (target : Label) → label labels syms l ≡ target
    → m ≡ added (Ends (GoTo target)) b → c ≡ closed m → Expands labels syms (op.Jmp l) b c
jmp_is labels syms b m c l target e f g =
    rw (g, f, ← e) (record { code = λ os. sym (append_assoc b.ended _ _); depth = omega arith; next = omega arith })

pub br_is : (labels syms : List Text) (b m n p q c : Between) (r : Rel) (l : Text) (target : Label) (right left : ℕ)
    (compare : PlainMove) → label labels syms l ≡ target
    → b ≡ pushed right m → m ≡ pushed left n → compare ≡ CcTo (virt left) (virt right) → p ≡ added compare n
    → q ≡ added (Ends (IfCc r target)) p → c ≡ closed q
    → Expands labels syms (op.Br r l) b c
br_is labels syms b m n p q c r l target right left compare e f g h i j k =
    rw (f, g, k, j, i, h, ← e)
    (record { code = λ os. sym (append_assoc n.ended _ _); depth = omega arith; next = omega arith })

pub arg_is : (labels syms : List Text) (b m c : Between) (k a : ℕ) (move : PlainMove) → b ≡ pushed a m
    → move ≡ SetTo (Arg k) (virt a) → c ≡ added move m → Expands labels syms (op.Arg k) b c
arg_is labels syms b m c k a move e f g =
    rw (e, g, f) (record { code = λ os. refl; depth = omega arith; next = omega arith })

pub call_is : (labels syms : List Text) (b m n c : Between) (f : Text) (n' : ℕ) (function : Sym)
    → symbol labels syms f ≡ function
    → m ≡ added (Ends (CallOf function n')) b → n ≡ closed m → c ≡ defined (register Rv) n
    → Expands labels syms (op.Call f n') b c
call_is labels syms b m n c f n' function e g h i =
    rw (i, h, g, ← e) (record { code = λ os. sym (append_assoc b.ended _ _); depth = omega arith; next = omega arith })

pub ret_is : (labels syms : List Text) (b m n p c : Between) (a : ℕ) (move : PlainMove) → b ≡ pushed a m
    → move ≡ SetTo Rv (virt a) → n ≡ added move m → p ≡ added (Ends Return) n → c ≡ closed p
    → Expands labels syms op.Ret b c
ret_is labels syms b m n p c a move e f g h i =
    rw (e, i, h, g, f)
    (record { code = λ os. sym (append_assoc m.ended _ _); depth = omega arith; next = omega arith })

pub label_at : (labels syms : List Text) (l : Text) (n : ℕ) → n ≡ number_in labels l
    → label labels syms l ≡ record { 0 = n }
label_at labels syms l n e = rw e refl

pub symbol_at : (labels syms : List Text) (s : Text) (n : ℕ) → n ≡ number_in syms s
    → symbol labels syms s ≡ record { 0 = n }
symbol_at labels syms s n e = rw e refl
