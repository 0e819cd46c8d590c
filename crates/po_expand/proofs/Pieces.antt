-- Each piece of a unit's naive code is sound.
use Rattle.std.proofs.Common.{◌≡◌, ℕ, suc, ◌+◌, ◌*◌, ◌<◌, ◌≤◌, Bool, true, false, List, [], ◌∷◌, ◌++◌, length, refl}
use Rattle.std.proofs.Common.{sym, ◌∙◌, ap, subst, arith}
use Rattle.std.specs.Prelude.{AllPairs, Contains, ⊤, ◌^◌, ◌≢◌, ◌||◌, ◌==◌}
use Rattle.std.specs.List.{AllByRecursion}
use Rattle.std.proofs.lemmas.Bool.{or_cases, false≢true, eqb-true}
use Rattle.std.proofs.lemmas.List.Elements.{All-nil, All-cons, Contains-push, Contains-append_left}
use mathlib.Core.Logic.{◌⊎◌, inl, inr}
use Rattle.po_word.specs.declared.operator.Bin.{Bin}
use Rattle.po_word.specs.declared.operator.Bin.TheVariants.{Add}
use Rattle.po_word.specs.declared.operator.Un.{Un}
use Rattle.po_term.specs.declared.term.Reg.{Reg as Register}
use Rattle.po_term.specs.declared.term.Reg.TheVariants.{Virt, Fp, Rv, Arg}
use Rattle.po_term.specs.declared.term.Sym.{Sym}
use Rattle.po_term.specs.Tree.{Tree, Const, Leaf, Read, Unary, Binary, EachLeaf}
use Rattle.po_term.specs.Terms.{Place, AtSym}
use Rattle.po_term.specs.Moves.{GoTo, IfCc, CallOf, Return, SetTo, CcTo, StoreTo, Ends, PlainMove}
use Rattle.po_term.specs.Form.{WellFormedTerm, WellFormedMove, WellFormed, GoesBefore}
use Rattle.po_lines.specs.NameList.{has}
use Rattle.po_ir.specs.declared.unit.Op.{Op}
use Rattle.po_ir.specs.declared.unit.Op.TheVariants as op
use Rattle.po_ir.specs.Ops.{label_in, target_in}
use Rattle.po_ir.specs.Units.{IsOp}
use Rattle.po_model.specs.declared.var.Var.TheVariants.{Reg}
use Rattle.po_model.specs.LiveAfter.{term_reads}
use Rattle.po_model.specs.Naive.{Text, Piece, Does, sym_in, pieces, label, symbol, register, virt}
use Rattle.po_model.specs.UnitCodes.{HasSym}
use Rattle.po_expand.specs.Fits.{Fits}
use Rattle.po_expand.proofs.Places.{number_below}
use Rattle.po_expand.proofs.Sound.{Sound}

single_pairs : (m : PlainMove) → AllPairs GoesBefore (m ∷ [])
single_pairs m = λ i j d h k. absurd (omega (arith, h, k))

single_formed : (m : PlainMove) → WellFormedMove m → WellFormed (m ∷ [])
single_formed m h =
    record {
      some = omega arith;
      few = omega arith;
      pairs = single_pairs m;
      each = All-cons WellFormedMove m [] h (All-nil WellFormedMove);
    }

is_fp : Register → Bool
is_fp Fp = true
is_fp (Virt n) = false
is_fp Rv = false
is_fp (Arg n) = false

not_fp : (r : Register) → is_fp r ≡ false → r ≢ Fp
unfolding is_fp
not_fp r e f = false≢true (sym e ∙ ap is_fp f)

virt_not_fp : (k : ℕ) → Virt k ≢ Fp
unfolding is_fp
virt_not_fp k = not_fp (Virt k) refl

arg_not_fp : (k : ℕ) → Arg k ≢ Fp
unfolding is_fp
arg_not_fp k = not_fp (Arg k) refl

rv_not_fp : Rv ≢ Fp
unfolding is_fp
rv_not_fp = not_fp Rv refl

const_formed : (n : ℕ) → n < 2 ^ 32 → WellFormedTerm (Const n)
const_formed n h = record { size = omega arith; depth = omega arith; words = h; places = tt }

frame_formed : (n : ℕ) → n < 2 ^ 32 → WellFormedTerm (Binary Add (register Fp) (Const n))
frame_formed n h = record { size = omega arith; depth = omega arith; words = (tt, h); places = (tt, tt) }

sym_formed : (s : Sym) → s.0 < 2 ^ 32 → WellFormedTerm (Leaf (AtSym s))
sym_formed s h = record { size = omega arith; depth = omega arith; words = tt; places = h }

virt_formed : (a : ℕ) → a < 2 ^ 32 → WellFormedTerm (virt a)
virt_formed a h = record { size = omega arith; depth = omega arith; words = tt; places = h }

rv_formed : WellFormedTerm (register Rv)
rv_formed = record { size = omega arith; depth = omega arith; words = tt; places = tt }

read_formed : (a : ℕ) → a < 2 ^ 32 → WellFormedTerm (Read (virt a))
read_formed a h = record { size = omega arith; depth = omega arith; words = tt; places = h }

unary_formed : (o : Un) (a : ℕ) → a < 2 ^ 32 → WellFormedTerm (Unary o (virt a))
unary_formed o a h = record { size = omega arith; depth = omega arith; words = tt; places = h }

binary_formed : (o : Bin) (a b : ℕ) → a < 2 ^ 32 → b < 2 ^ 32 → WellFormedTerm (Binary o (virt a) (virt b))
binary_formed o a b h k = record { size = omega arith; depth = omega arith; words = (tt, tt); places = (h, k) }

same_in : (set : List ℕ) (a v : ℕ) → Contains set a → a == v ≡ true → Contains set v
same_in set a v h e = subst (λ (n : ℕ). Contains set n) (eqb-true a v e) h

reads_one : (set : List ℕ) (a v : ℕ) → Contains set a → ((a == v) || false) ≡ true → Contains set v
reads_one set a v h e = go (or_cases (a == v) false e)
  where
    go : (a == v ≡ true) ⊎ (false ≡ true) → Contains set v
    go (inl f) = same_in set a v h f
    go (inr f) = absurd (false≢true f)

reads_two : (set : List ℕ) (a b v : ℕ) → Contains set a → Contains set b → (((a == v) || (b == v)) || false) ≡ true
    → Contains set v
reads_two set a b v h k e = outer (or_cases ((a == v) || (b == v)) false e)
  where
    inner : (a == v ≡ true) ⊎ (b == v ≡ true) → Contains set v
    inner (inl f) = same_in set a v h f
    inner (inr f) = same_in set b v k f

    outer : ((a == v) || (b == v) ≡ true) ⊎ (false ≡ true) → Contains set v
    outer (inl f) = inner (or_cases (a == v) (b == v) f)
    outer (inr f) = absurd (false≢true f)

-- the registers on the stack have numbers, and were set in the block that has begun
abbrev OnStack : List ℕ → List ℕ → Type 0
OnStack set [] = ⊤
OnStack set (a ∷ stack) = (a < 2 ^ 32) × Contains set a × OnStack set stack

grow : (set more stack : List ℕ) → OnStack set stack → OnStack (set ++ more) stack
grow set more [] h = tt
grow set more (a ∷ stack) h = (h.0, Contains-append_left set more a h.1, grow set more stack h.2)

put : (set stack : List ℕ) (k : ℕ) → k < 2 ^ 32 → OnStack set stack → OnStack (set ++ k ∷ []) (k ∷ stack)
put set stack k h s = (h, Contains-push set k, grow set (k ∷ []) stack s)

refit : (os : List Op) (n m : ℕ) → n ≡ m → Fits n os → Fits m os
refit os n m e f = subst (λ (d : ℕ). Fits d os) e f

left_over : {A : Type 0} (n : ℕ) → suc n ≡ 0 → A
left_over n e = absurd (omega (arith, e))

left_over_two : {A : Type 0} (n : ℕ) → suc (suc n) ≡ 1 → A
left_over_two n e = absurd (omega (arith, e))

left_over_three : {A : Type 0} (n : ℕ) → suc (suc (suc n)) ≡ 2 → A
left_over_three n e = absurd (omega (arith, e))

module _ (labels syms : List Text) where
  -- the numbers of these operations are in range, and their names are known
  abbrev pub Knows : List Op → Type 0
  Knows [] = ⊤
  Knows (o ∷ os) =
      IsOp o × AllByRecursion (λ l. has l labels ≡ true) (label_in o)
      × AllByRecursion (λ l. has l labels ≡ true) (target_in o)
      × AllByRecursion (λ s. has s syms ≡ true) (sym_in o) × Knows os

  defines : (k : ℕ) (set : List ℕ) (t : Tree ℕ Place) (ps : List Piece) → k < 2 ^ 32 → WellFormedTerm t
      → EachLeaf (HasSym (length syms)) t
      → ((v : ℕ) → (term_reads t (Reg (Virt v)) || false) ≡ true → Contains set v)
      → Sound (length labels) (length syms) (k + 1) (set ++ k ∷ []) ps
      → Sound (length labels) (length syms) k set (Does (SetTo (Virt k) t) ∷ ps)
  defines k set t ps b wf names reads rest =
      (single_formed (SetTo (Virt k) t) (b, virt_not_fp k, wf), names, reads, refl, rest)

  module _ (few_labels : length labels ≤ 2 ^ 32) (few_syms : length syms ≤ 2 ^ 32) where
    label_fits : (l : Text) → has l labels ≡ true → (label labels syms l).0 < 2 ^ 32
    label_fits l h = let b = number_below labels l h in omega (arith, b, few_labels)

    symbol_fits : (s : Text) → has s syms ≡ true → (symbol labels syms s).0 < 2 ^ 32
    symbol_fits s h = let b = number_below syms s h in omega (arith, b, few_syms)

    pub pieces_sound : (k : ℕ) (set stack : List ℕ) (os : List Op) → k + length os ≤ 2 ^ 32 → OnStack set stack
        → Fits (length stack) os → Knows os
        → Sound (length labels) (length syms) k set (pieces labels syms k stack os)
    pieces_sound k set stack [] b s f n = tt
    pieces_sound k set stack (op.Con c ∷ os) b s f n =
        defines k set (Const c) _ (omega (arith, b)) (const_formed c n.0) tt (λ v e. absurd (false≢true e))
        (pieces_sound (k + 1) (set ++ k ∷ []) (k ∷ stack) os (omega (arith, b)) (put set stack k (omega (arith, b)) s)
        (refit os _ _ (omega arith) f.2) n.4)
    pieces_sound k set stack (op.Adl c ∷ os) b s f n =
        defines k set (Binary Add (register Fp) (Const c)) _ (omega (arith, b)) (frame_formed c n.0) (tt, tt)
        (λ v e. absurd (false≢true e))
        (pieces_sound (k + 1) (set ++ k ∷ []) (k ∷ stack) os (omega (arith, b)) (put set stack k (omega (arith, b)) s)
        (refit os _ _ (omega arith) f.2) n.4)
    pieces_sound k set stack (op.Adg g ∷ os) b s f n =
        defines k set (Leaf (AtSym (symbol labels syms g))) _ (omega (arith, b))
        (sym_formed (symbol labels syms g) (symbol_fits g n.3.0)) (number_below syms g n.3.0)
        (λ v e. absurd (false≢true e))
        (pieces_sound (k + 1) (set ++ k ∷ []) (k ∷ stack) os (omega (arith, b)) (put set stack k (omega (arith, b)) s)
        (refit os _ _ (omega arith) f.2) n.4)
    pieces_sound k set [] (op.Lod ∷ os) b s f n = tt
    pieces_sound k set (a ∷ stack) (op.Lod ∷ os) b s f n =
        defines k set (Read (virt a)) _ (omega (arith, b)) (read_formed a s.0) tt (λ v e. reads_one set a v s.1 e)
        (pieces_sound (k + 1) (set ++ k ∷ []) (k ∷ stack) os (omega (arith, b))
        (put set stack k (omega (arith, b)) s.2) (refit os _ _ (omega arith) f.2) n.4)
    pieces_sound k set [] (op.Sto ∷ os) b s f n = tt
    pieces_sound k set (x ∷ []) (op.Sto ∷ os) b s f n = tt
    pieces_sound k set (x ∷ a ∷ stack) (op.Sto ∷ os) b s f n = (
      single_formed (StoreTo (virt a) (virt x)) (virt_formed a s.2.0, virt_formed x s.0),
      (tt, tt),
      λ v e. reads_two set a x v s.2.1 s.1 e,
      tt,
      pieces_sound k (set ++ []) stack os (omega (arith, b)) (grow set [] stack s.2.2) (refit os _ _ (omega arith) f.2)
          n.4,
    )
    pieces_sound k set [] (op.Bin o ∷ os) b s f n = tt
    pieces_sound k set (x ∷ []) (op.Bin o ∷ os) b s f n = tt
    pieces_sound k set (x ∷ a ∷ stack) (op.Bin o ∷ os) b s f n =
        defines k set (Binary o (virt a) (virt x)) _ (omega (arith, b)) (binary_formed o a x s.2.0 s.0) (tt, tt)
        (λ v e. reads_two set a x v s.2.1 s.1 e)
        (pieces_sound (k + 1) (set ++ k ∷ []) (k ∷ stack) os (omega (arith, b))
        (put set stack k (omega (arith, b)) s.2.2) (refit os _ _ (omega arith) f.2) n.4)
    pieces_sound k set [] (op.Un o ∷ os) b s f n = tt
    pieces_sound k set (a ∷ stack) (op.Un o ∷ os) b s f n =
        defines k set (Unary o (virt a)) _ (omega (arith, b)) (unary_formed o a s.0) tt
        (λ v e. reads_one set a v s.1 e)
        (pieces_sound (k + 1) (set ++ k ∷ []) (k ∷ stack) os (omega (arith, b))
        (put set stack k (omega (arith, b)) s.2) (refit os _ _ (omega arith) f.2) n.4)
    pieces_sound k set [] (op.Dup ∷ os) b s f n = tt
    pieces_sound k set (a ∷ stack) (op.Dup ∷ os) b s f n =
        pieces_sound k set (a ∷ a ∷ stack) os (omega (arith, b)) (s.0, s.1, s) (refit os _ _ (omega arith) f.2) n.4
    pieces_sound k set [] (op.Pop ∷ os) b s f n = tt
    pieces_sound k set (a ∷ stack) (op.Pop ∷ os) b s f n =
        pieces_sound k set stack os (omega (arith, b)) s.2 (refit os _ _ (omega arith) f.2) n.4
    pieces_sound k set [] (op.Lab l ∷ os) b s f n =
        (number_below labels l n.1.0, pieces_sound k [] [] os (omega (arith, b)) tt f.2 n.4)
    pieces_sound k set (a ∷ stack) (op.Lab l ∷ os) b s f n = left_over (length stack) (f.1 refl)
    pieces_sound k set [] (op.Jmp l ∷ os) b s f n = (
      single_formed (Ends (GoTo (label labels syms l))) (label_fits l n.2.0),
      number_below labels l n.2.0,
      λ v e. absurd (false≢true e),
      tt,
      pieces_sound k [] [] os (omega (arith, b)) tt f.2 n.4,
    )
    pieces_sound k set (a ∷ stack) (op.Jmp l ∷ os) b s f n = left_over (length stack) (f.1 refl)
    pieces_sound k set [] (op.Br r l ∷ os) b s f n = tt
    pieces_sound k set (x ∷ []) (op.Br r l ∷ os) b s f n = tt
    pieces_sound k set (x ∷ a ∷ []) (op.Br r l ∷ os) b s f n = (
      single_formed (CcTo (virt a) (virt x)) (virt_formed a s.2.0, virt_formed x s.0),
      (tt, tt),
      λ v e. reads_two set a x v s.2.1 s.1 e,
      tt,
      (
        single_formed (Ends (IfCc r (label labels syms l))) (label_fits l n.2.0),
        number_below labels l n.2.0,
        λ v e. absurd (false≢true e),
        tt,
        pieces_sound k [] [] os (omega (arith, b)) tt (refit os _ _ (omega arith) f.2) n.4,
      ),
    )
    pieces_sound k set (x ∷ a ∷ y ∷ stack) (op.Br r l ∷ os) b s f n = left_over_three (length stack) (f.1 refl)
    pieces_sound k set [] (op.Arg i ∷ os) b s f n = tt
    pieces_sound k set (a ∷ stack) (op.Arg i ∷ os) b s f n = (
      single_formed (SetTo (Arg i) (virt a)) (n.0, arg_not_fp i, virt_formed a s.0),
      tt,
      λ v e. reads_one set a v s.1 e,
      tt,
      pieces_sound k (set ++ []) stack os (omega (arith, b)) (grow set [] stack s.2) (refit os _ _ (omega arith) f.2)
          n.4,
    )
    pieces_sound k set [] (op.Call g c ∷ os) b s f n = (
      single_formed (Ends (CallOf (symbol labels syms g) c)) (symbol_fits g n.3.0, n.0.1),
      number_below syms g n.3.0,
      λ v e. absurd (false≢true e),
      tt,
      defines k [] (register Rv) _ (omega (arith, b)) rv_formed tt (λ v e. absurd (false≢true e))
          (pieces_sound (k + 1) (k ∷ []) (k ∷ []) os (omega (arith, b)) (put [] [] k (omega (arith, b)) tt) f.2 n.4),
    )
    pieces_sound k set (a ∷ stack) (op.Call g c ∷ os) b s f n = left_over (length stack) (f.1 refl)
    pieces_sound k set [] (op.Ret ∷ os) b s f n = tt
    pieces_sound k set (a ∷ []) (op.Ret ∷ os) b s f n = (
      single_formed (SetTo Rv (virt a)) (tt, rv_not_fp, virt_formed a s.0),
      tt,
      λ v e. reads_one set a v s.1 e,
      tt,
      (
        single_formed (Ends Return) tt,
        tt,
        λ v e. absurd (false≢true e),
        tt,
        pieces_sound k [] [] os (omega (arith, b)) tt (refit os _ _ (omega arith) f.2) n.4,
      ),
    )
    pieces_sound k set (a ∷ y ∷ stack) (op.Ret ∷ os) b s f n = left_over_two (length stack) (f.1 refl)

  -- at most two pieces for each operation
  pub pieces_few : (k : ℕ) (stack : List ℕ) (os : List Op) → length (pieces labels syms k stack os) ≤ 2 * length os
  pieces_few k stack [] = omega arith
  pieces_few k stack (op.Con c ∷ os) = omega (arith, pieces_few (k + 1) (k ∷ stack) os)
  pieces_few k stack (op.Adl c ∷ os) = omega (arith, pieces_few (k + 1) (k ∷ stack) os)
  pieces_few k stack (op.Adg g ∷ os) = omega (arith, pieces_few (k + 1) (k ∷ stack) os)
  pieces_few k [] (op.Lod ∷ os) = omega arith
  pieces_few k (a ∷ stack) (op.Lod ∷ os) = omega (arith, pieces_few (k + 1) (k ∷ stack) os)
  pieces_few k [] (op.Sto ∷ os) = omega arith
  pieces_few k (x ∷ []) (op.Sto ∷ os) = omega arith
  pieces_few k (x ∷ a ∷ stack) (op.Sto ∷ os) = omega (arith, pieces_few k stack os)
  pieces_few k [] (op.Bin o ∷ os) = omega arith
  pieces_few k (x ∷ []) (op.Bin o ∷ os) = omega arith
  pieces_few k (x ∷ a ∷ stack) (op.Bin o ∷ os) = omega (arith, pieces_few (k + 1) (k ∷ stack) os)
  pieces_few k [] (op.Un o ∷ os) = omega arith
  pieces_few k (a ∷ stack) (op.Un o ∷ os) = omega (arith, pieces_few (k + 1) (k ∷ stack) os)
  pieces_few k [] (op.Dup ∷ os) = omega arith
  pieces_few k (a ∷ stack) (op.Dup ∷ os) = omega (arith, pieces_few k (a ∷ a ∷ stack) os)
  pieces_few k [] (op.Pop ∷ os) = omega arith
  pieces_few k (a ∷ stack) (op.Pop ∷ os) = omega (arith, pieces_few k stack os)
  pieces_few k stack (op.Lab l ∷ os) = omega (arith, pieces_few k stack os)
  pieces_few k stack (op.Jmp l ∷ os) = omega (arith, pieces_few k stack os)
  pieces_few k [] (op.Br r l ∷ os) = omega arith
  pieces_few k (x ∷ []) (op.Br r l ∷ os) = omega arith
  pieces_few k (x ∷ a ∷ stack) (op.Br r l ∷ os) = omega (arith, pieces_few k stack os)
  pieces_few k [] (op.Arg i ∷ os) = omega arith
  pieces_few k (a ∷ stack) (op.Arg i ∷ os) = omega (arith, pieces_few k stack os)
  pieces_few k stack (op.Call g c ∷ os) = omega (arith, pieces_few (k + 1) (k ∷ stack) os)
  pieces_few k [] (op.Ret ∷ os) = omega arith
  pieces_few k (a ∷ stack) (op.Ret ∷ os) = omega (arith, pieces_few k stack os)
