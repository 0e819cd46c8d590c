-- A placed instruction reads and sets in its state what the instruction reads and sets in the other, where they agree
-- on what it reads.
use Rattle.std.proofs.Common.{◌≡◌, ℕ, zero, suc, ◌+◌, ◌<◌, Bool, true, false, List, [], ◌∷◌, refl, ◌∙◌, ap, arith}
use Rattle.std.proofs.Common.{eq-eqb, inl, inr}
use Rattle.std.specs.Prelude.{◌==◌, ◌||◌, if◌then◌else◌, Contains, Some, None, ⊤}
use Rattle.std.proofs.lemmas.Bool.{le-leb, ne_eqb, cases_eq}
use Rattle.po_word.specs.Words.{un_value, bin_value}
use Rattle.po_term.specs.declared.term.Reg.{Reg as Register}
use Rattle.po_term.specs.declared.term.Reg.TheVariants.{Virt, Fp, Rv, Arg}
use Rattle.po_term.specs.declared.term.Sym.{Sym}
use Rattle.po_term.specs.Tree.{Const, Leaf, Read, Unary, Binary, tree_map}
use Rattle.po_term.specs.Terms.{Place, InReg, AtSym, State, value, PlainTerm}
use Rattle.po_term.specs.Moves.{Ending, GoTo, IfCc, IfTwo, CallOf, Return, SetTo, CcTo, StoreTo, Ends, PlainInstr}
use Rattle.po_term.specs.Simplified.{reg_eq}
use Rattle.po_model.specs.declared.var.Var.{Var}
use Rattle.po_model.specs.declared.var.Var.TheVariants.{Reg, Cc}
use Rattle.po_model.specs.Parts.{code_leaves, right_at, cc_of, store_of, ending_of}
use Rattle.po_model.specs.Effect.{by_cc, new_word, new_memory, new_cc, goes, arguments, Called, Returned}
use Rattle.po_model.specs.LiveAfter.{term_reads, move_reads, reads, is_reg, is_arg_of}
use Rattle.po_model.specs.Placed.{place_of, placed_leaf, placed_instr}
use Rattle.po_model.specs.UnitCodes.{written}
use Rattle.po_assign.proofs.Boundary.{or_left, or_right}

pub reg_same : (r : Register) → reg_eq r r ≡ true
reg_same (Virt n) = eq-eqb n n refl
reg_same Fp = refl
reg_same Rv = refl
reg_same (Arg n) = eq-eqb n n refl

-- a term with each register replaced by its place
abbrev pub placed_word : (ℕ → ℕ) → PlainTerm → PlainTerm
placed_word at t = tree_map (λ c. c) (placed_leaf at) t

-- no other one of these virtual registers has the place of r
abbrev pub ApartFrom : (ℕ → ℕ) → Register → List ℕ → Type 0
ApartFrom at (Virt v) ws = (w : ℕ) → Contains ws w → at v ≡ at w → v ≡ w
ApartFrom at Fp ws = ⊤
ApartFrom at Rv ws = ⊤
ApartFrom at (Arg k) ws = ⊤

-- two registers have one place only where they are one
abbrev Separate : (ℕ → ℕ) → Register → Register → Type 0
Separate at (Virt v) (Virt w) = at v ≡ at w → v ≡ w
Separate at r q = ⊤

-- of the first set of an instruction, and of those behind it
apart_first : (at : ℕ → ℕ) (r q : Register) (u : PlainTerm) (ms : PlainInstr)
    → ApartFrom at r (written (SetTo q u ∷ ms)) → Separate at r q
apart_first at (Virt v) (Virt w) u ms h = h w (0, omega arith, refl)
apart_first at (Virt v) Fp u ms h = tt
apart_first at (Virt v) Rv u ms h = tt
apart_first at (Virt v) (Arg k) u ms h = tt
apart_first at Fp q u ms h = tt
apart_first at Rv q u ms h = tt
apart_first at (Arg k) q u ms h = tt

apart_later : (at : ℕ → ℕ) (r q : Register) (u : PlainTerm) (ms : PlainInstr)
    → ApartFrom at r (written (SetTo q u ∷ ms)) → ApartFrom at r (written ms)
apart_later at (Virt v) (Virt w) u ms h = λ z c. h z (suc c.0, omega (arith, c.1), c.2)
apart_later at (Virt v) Fp u ms h = h
apart_later at (Virt v) Rv u ms h = h
apart_later at (Virt v) (Arg k) u ms h = h
apart_later at Fp q u ms h = tt
apart_later at Rv q u ms h = tt
apart_later at (Arg k) q u ms h = tt

-- where only one register has a place, tests of places answer as tests of registers
number_alike : (at : ℕ → ℕ) (v w : ℕ) → (at v ≡ at w → v ≡ w) → (at v == at w) ≡ (v == w)
number_alike at v w h =
    elim (cases_eq v w) [
      | inl e ↦ rw (eq-eqb v w e) (eq-eqb (at v) (at w) (ap at e))
      | inr n ↦ rw (ne_eqb v w n) (ne_eqb (at v) (at w) (λ e. n (h e)))
    ]

place_alike : (at : ℕ → ℕ) (r q : Register) → Separate at r q → reg_eq (place_of at r) (place_of at q) ≡ reg_eq r q
place_alike at (Virt v) (Virt w) h = number_alike at v w h
place_alike at (Virt v) Fp h = refl
place_alike at (Virt v) Rv h = refl
place_alike at (Virt v) (Arg k) h = refl
place_alike at Fp (Virt w) h = refl
place_alike at Fp Fp h = refl
place_alike at Fp Rv h = refl
place_alike at Fp (Arg k) h = refl
place_alike at Rv (Virt w) h = refl
place_alike at Rv Fp h = refl
place_alike at Rv Rv h = refl
place_alike at Rv (Arg k) h = refl
place_alike at (Arg j) (Virt w) h = refl
place_alike at (Arg j) Fp h = refl
place_alike at (Arg j) Rv h = refl
place_alike at (Arg j) (Arg k) h = refl

-- no instruction sets a symbol's address
pub symbol_stays : (y : Sym) (x : PlainInstr) → right_at code_leaves (AtSym y) x ≡ None
symbol_stays y [] = refl
symbol_stays y (SetTo r u ∷ ms) = symbol_stays y ms
symbol_stays y (CcTo u w ∷ ms) = symbol_stays y ms
symbol_stays y (StoreTo u w ∷ ms) = symbol_stays y ms
symbol_stays y (Ends e ∷ ms) = symbol_stays y ms

-- a state of the code, and one of the placed code
module _ (at : ℕ → ℕ) (s t : State) where
  -- v holds in the first what its place holds in the second
  abbrev pub Holds : Var → Type 0
  Holds (Reg r) = s.place (InReg r) ≡ t.place (InReg (place_of at r))
  Holds Cc = s.cc ≡ t.cc

  abbrev pub HoldsWhere : (Var → Bool) → Type 0
  HoldsWhere f = (v : Var) → f v ≡ true → Holds v

  holds_left : (f g : Var → Bool) → HoldsWhere (λ v. f v || g v) → HoldsWhere f
  holds_left f g h = λ v e. h v (or_left (f v) (g v) e)

  holds_right : (f g : Var → Bool) → HoldsWhere (λ v. f v || g v) → HoldsWhere g
  holds_right f g h = λ v e. h v (or_right (f v) (g v) e)

  -- those of the first transfer, and of the others
  first_reads : (m : _) (ms : PlainInstr) → HoldsWhere (reads (m ∷ ms)) → HoldsWhere (move_reads m)
  first_reads m ms h = holds_left (move_reads m) (reads ms) h

  later_reads : (m : _) (ms : PlainInstr) → HoldsWhere (reads (m ∷ ms)) → HoldsWhere (reads ms)
  later_reads m ms h = holds_right (move_reads m) (reads ms) h

  module _ (memory : (a : ℕ) → s.memory a ≡ t.memory a) (symbols : (y : Sym) → s.place (AtSym y) ≡ t.place (AtSym y))
    where
      -- a placed term has the term's word
      pub value_placed : (x : PlainTerm) → HoldsWhere (term_reads x) → value s x ≡ value t (placed_word at x)
      value_placed (Const c) h = refl
      value_placed (Leaf (InReg r)) h = h (Reg r) (reg_same r)
      value_placed (Leaf (AtSym y)) h = symbols y
      value_placed (Read x) h = memory (value s x) ∙ ap (λ a. t.memory a) (value_placed x h)
      value_placed (Unary o x) h = ap (λ a. un_value o a) (value_placed x h)
      value_placed (Binary o x y) h =
          ap (λ a. bin_value o a (value s y)) (value_placed x (holds_left (term_reads x) (term_reads y) h))
          ∙ ap (λ b. bin_value o (value t (placed_word at x)) b)
          (value_placed y (holds_right (term_reads x) (term_reads y) h))

      -- the same word stands at each address behind both
      pub memory_placed : (x : PlainInstr) → HoldsWhere (reads x) → (a : ℕ)
          → new_memory s (store_of x) a ≡ new_memory t
          (store_of (placed_instr at x)) a
      memory_placed [] h a = memory a
      memory_placed (SetTo r u ∷ ms) h a = memory_placed ms (later_reads (SetTo r u) ms h) a
      memory_placed (CcTo u w ∷ ms) h a = memory_placed ms (later_reads (CcTo u w) ms h) a
      memory_placed (StoreTo u w ∷ ms) h a =
          let f = first_reads (StoreTo u w) ms h in
          rw (
            value_placed u (holds_left (term_reads u) (term_reads w) f),
            value_placed w
                (holds_right (term_reads u) (term_reads w) f),
            memory a,
          ) refl
      memory_placed (Ends e ∷ ms) h a = memory_placed ms (later_reads (Ends e) ms h) a

      -- cc is set alike, or is as it was
      pub cc_placed : (x : PlainInstr) → HoldsWhere (reads x) → (cc_of x ≡ None → s.cc ≡ t.cc) → new_cc s (cc_of x)
          ≡ new_cc t (cc_of (placed_instr at x))
      cc_placed [] h k = k refl
      cc_placed (SetTo r u ∷ ms) h k = cc_placed ms (later_reads (SetTo r u) ms h) k
      cc_placed (CcTo u w ∷ ms) h k =
          let f = first_reads (CcTo u w) ms h in
          rw (
            value_placed u (holds_left (term_reads u) (term_reads w) f),
            value_placed w
                (holds_right (term_reads u) (term_reads w) f),
          ) refl
      cc_placed (StoreTo u w ∷ ms) h k = cc_placed ms (later_reads (StoreTo u w) ms h) k
      cc_placed (Ends e ∷ ms) h k = cc_placed ms (later_reads (Ends e) ms h) k

      -- argument registers are their own places
      arguments_same : (n k : ℕ) → ((j : ℕ) → j < k + n → s.place (InReg (Arg j)) ≡ t.place (InReg (Arg j)))
          → arguments s n k ≡ arguments t n k
      arguments_same zero k h = refl
      arguments_same (suc n) k h = rw (h k (omega arith), arguments_same n (suc k) (λ j l. h j (omega arith))) refl

      ending_placed : (e : Ending ℕ Place Sym) (ms : PlainInstr) → HoldsWhere (move_reads (Ends e))
          → goes s (ending_of (Ends e ∷ ms)) ≡ goes t (ending_of (placed_instr at (Ends e ∷ ms)))
      ending_placed (GoTo l) ms h = refl
      ending_placed (IfCc r l) ms h = ap (λ c. by_cc c r l) (h Cc refl)
      ending_placed (IfTwo u w r l) ms h = rw (
        value_placed u (holds_left (term_reads u) (term_reads w) h),
        value_placed
            w (holds_right (term_reads u) (term_reads w) h),
      ) refl
      ending_placed (CallOf f n) ms h =
          ap (λ ws. Some (Called f ws)) (arguments_same n 0 (
          λ j l. holds_left (is_arg_of n) (is_reg Fp) h (Reg (Arg j))
          (le-leb (suc j) n (omega arith))))
      ending_placed Return ms h = ap (λ a. Some (Returned a)) (h (Reg Rv) refl)

      -- both go on at the same place
      pub goes_placed : (x : PlainInstr) → HoldsWhere (reads x) → goes s (ending_of x) ≡ goes t
          (ending_of (placed_instr at x))
      goes_placed [] h = refl
      goes_placed (SetTo r u ∷ ms) h = goes_placed ms (later_reads (SetTo r u) ms h)
      goes_placed (CcTo u w ∷ ms) h = goes_placed ms (later_reads (CcTo u w) ms h)
      goes_placed (StoreTo u w ∷ ms) h = goes_placed ms (later_reads (StoreTo u w) ms h)
      goes_placed (Ends e ∷ ms) h = ending_placed e ms (first_reads (Ends e) ms h)

      -- a register is set alike, where no other one that is set has its place, or is as it was
      pub word_placed : (r : Register) (x : PlainInstr) (a b : ℕ) → HoldsWhere (reads x) → ApartFrom at r (written x)
          → (right_at code_leaves (InReg r) x ≡ None → a ≡ b)
          → new_word s (right_at code_leaves (InReg r) x) a ≡ new_word t (right_at code_leaves (InReg (place_of at r))
          (placed_instr at x)) b
      word_placed r [] a b h apart k = k refl
      word_placed r (SetTo q u ∷ ms) a b h apart k =
          let others = word_placed r ms a b (later_reads (SetTo q u) ms h) (apart_later at r q u ms apart) in
          rw (place_alike at r q (apart_first at r q u ms apart)) (go (reg_eq r q) k others)
        where
          go : (c : Bool) → ((if c then Some u else right_at code_leaves (InReg r) ms) ≡ None → a ≡ b)
              → ((right_at code_leaves (InReg r) ms ≡ None → a ≡ b) → new_word s (right_at code_leaves (InReg r) ms) a
              ≡ new_word t (right_at code_leaves (InReg (place_of at r)) (placed_instr at ms)) b)
              → new_word s (if c then Some u else right_at code_leaves (InReg r) ms) a ≡ new_word t
              (if c then Some (placed_word at u) else right_at code_leaves (InReg (place_of at r))
              (placed_instr at ms)) b
          go true k others = value_placed u (first_reads (SetTo q u) ms h)
          go false k others = others k
      word_placed r (CcTo u w ∷ ms) a b h apart k = word_placed r ms a b (later_reads (CcTo u w) ms h) apart k
      word_placed r (StoreTo u w ∷ ms) a b h apart k = word_placed r ms a b (later_reads (StoreTo u w) ms h) apart k
      word_placed r (Ends e ∷ ms) a b h apart k = word_placed r ms a b (later_reads (Ends e) ms h) apart k
