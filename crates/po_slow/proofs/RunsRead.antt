-- An instruction reads only what is live before it: from two states that agree there it goes on alike, and leaves
-- states that agree.
use Rattle.std.proofs.Common.{◌≡◌, ℕ, zero, suc, ◌+◌, ◌<◌, ◌^◌, Bool, true, false, [], ◌∷◌, refl, sym, ◌∙◌, ap, subst}
use Rattle.std.proofs.Common.{arith}
use Rattle.std.specs.Prelude.{◌==◌, ◌||◌, nat_lt, if◌then◌else◌, Option, Some, None, ⊤}
use Rattle.std.specs.Option.{option_map}
use mathlib.Core.Logic.{◌⊎◌, inl, inr}
use Rattle.po_word.specs.Words.{un_value, bin_value}
use Rattle.po_term.specs.declared.term.Reg.{Reg as Register}
use Rattle.po_term.specs.declared.term.Reg.TheVariants.{Virt, Fp, Rv, Arg}
use Rattle.po_term.specs.declared.term.Sym.{Sym}
use Rattle.po_term.specs.declared.term.Label.{Label}
use Rattle.po_term.specs.Tree.{Tree, Const, Leaf, Read, Unary, Binary}
use Rattle.po_term.specs.Terms.{Place, InReg, AtSym, State, IsState, value}
use Rattle.po_term.specs.Moves.{Ending, GoTo, IfCc, IfTwo, CallOf, Return, SetTo, CcTo, StoreTo, Ends, PlainMove}
use Rattle.po_term.specs.Moves.{PlainInstr}
use Rattle.po_term.specs.Form.{WellFormed}
use Rattle.po_term.specs.Simplified.{reg_eq, same_register}
use Rattle.po_term.specs.Actions.{MovesHaveWords}
use Rattle.po_simplify.proofs.Worths.{value_fits}
use Rattle.po_model.specs.declared.var.Var.{Var}
use Rattle.po_model.specs.declared.var.Var.TheVariants.{Reg, Cc}
use Rattle.po_model.specs.Parts.{code_leaves, right_at, cc_of, store_of, ending_of}
use Rattle.po_model.specs.Effect.{Control, Next, Jump, Called, Returned, Effected, new_word, new_memory, new_cc, after}
use Rattle.po_model.specs.Effect.{branch, by_cc, arguments, goes, effect}
use Rattle.po_model.specs.LiveAfter.{is_reg, is_cc, is_arg_of, term_reads, move_reads, move_sets, reads, sets}
use Rattle.po_subst.proofs.Agreeing.{reg_self}
use Rattle.po_subst.proofs.Alike.{IsSingle}
use Rattle.po_subst.proofs.Joint.{single_of, words_of}
use Rattle.po_subst.proofs.Reading.{left_true, right_true}

-- a set of variables
abbrev pub Variables : Type 1
Variables = Var → Type 0

-- of these variables, those that stay as they are where control goes so: a call's reply sets rv and empties cc
abbrev pub Passing : Control → Variables → Variables
Passing Next L = L
Passing (Jump l) L = L
Passing (Called f ws) L = λ v. ((is_reg Rv v || is_cc v) ≡ false) × L v
Passing (Returned w) L = L

-- two states of words that agree on memory, on symbols, and on each of these variables
pub record Agree (L : Variables) (s t : State) : Type 0 where
  pub first : IsState s
  pub second : IsState t
  pub memory : (a : ℕ) → s.memory a ≡ t.memory a
  pub symbols : (y : Sym) → s.place (AtSym y) ≡ t.place (AtSym y)
  pub registers : (r : Register) → L (Reg r) → s.place (InReg r) ≡ t.place (InReg r)
  pub compared : L Cc → s.cc ≡ t.cc

-- both without effect, or with the same control, and states that agree on what of these variables stays
abbrev pub Alike : Variables → Option Effected → Option Effected → Type 0
Alike L None None = ⊤
Alike L (Some d) (Some e) = (d.to ≡ e.to) × Agree (Passing d.to L) d.state e.state
Alike L None (Some e) = ⊥
Alike L (Some d) None = ⊥

-- what an instruction reads, and what of these variables it doesn't set
abbrev pub BeforeOne : PlainInstr → Variables → Variables
BeforeOne x L v = (reads x v ≡ true) ⊎ ((sets x v ≡ false) × L v)

-- an instruction whose transfers have words, with at most one of each kind but sets
abbrev pub IsInstr : PlainInstr → Type 0
IsInstr x = MovesHaveWords x × IsSingle x

pub instr_formed : (x : PlainInstr) → WellFormed x → IsInstr x
instr_formed x h = (words_of x h.each, single_of x h.pairs)

-- Agreement

pub agree_less : (L M : Variables) (s t : State) → ((v : Var) → M v → L v) → Agree L s t → Agree M s t
agree_less L M s t h a = record {
  first = a.first;
  second = a.second;
  memory = a.memory;
  symbols = a.symbols;
  registers = λ r m. a.registers r (h (Reg r) m);
  compared = λ m. a.compared (h Cc m);
}

pub agree_self : (L : Variables) (s : State) → IsState s → Agree L s s
agree_self L s fits =
    record {
      first = fits;
      second = fits;
      memory = λ a. refl;
      symbols = λ y. refl;
      registers = λ r l. refl;
      compared = λ l. refl;
    }

pub agree_joins : (L : Variables) (r s t : State) → Agree L r s → Agree L s t → Agree L r t
agree_joins L r s t a b = record {
  first = a.first;
  second = b.second;
  memory = λ c. a.memory c ∙ b.memory c;
  symbols = λ y. a.symbols y ∙ b.symbols y;
  registers = λ q l. a.registers q l ∙ b.registers q l;
  compared = λ l. a.compared l ∙ b.compared l;
}

pub passing_less : (c : Control) (L M : Variables) → ((v : Var) → M v → L v) → (v : Var) → Passing c M v
    → Passing c L v
passing_less Next L M h v p = h v p
passing_less (Jump l) L M h v p = h v p
passing_less (Called f ws) L M h v p = (p.0, h v p.1)
passing_less (Returned w) L M h v p = h v p

-- what stays is one of them
pub passing_in : (c : Control) (L : Variables) (v : Var) → Passing c L v → L v
passing_in Next L v p = p
passing_in (Jump l) L v p = p
passing_in (Called f ws) L v p = p.1
passing_in (Returned w) L v p = p

pub alike_less : (L M : Variables) → ((v : Var) → M v → L v) → (o p : Option Effected) → Alike L o p → Alike M o p
alike_less L M h None None a = tt
alike_less L M h (Some d) (Some e) a =
    (a.0, agree_less (Passing d.to L) (Passing d.to M) d.state e.state (passing_less d.to L M h) a.1)
alike_less L M h None (Some e) a = absurd a
alike_less L M h (Some d) None a = absurd a

pub alike_joins : (L : Variables) (x y z : Option Effected) → Alike L x y → Alike L y z → Alike L x z
alike_joins L None None z h k = k
alike_joins L (Some d) (Some e) (Some f) h k = (
  h.0 ∙ k.0,
  agree_joins (Passing d.to L) d.state e.state f.state h.1
      (subst (λ (c : Control). Agree (Passing c L) e.state f.state) (sym h.0) k.1),
)
alike_joins L (Some d) (Some e) None h k = absurd k
alike_joins L None (Some e) z h k = absurd h
alike_joins L (Some d) None z h k = absurd h

-- the state that is left, where one is, is one of words
abbrev pub LeavesWords : Option Effected → Type 0
LeavesWords None = ⊤
LeavesWords (Some d) = IsState d.state

pub alike_self : (L : Variables) (o : Option Effected) → LeavesWords o → Alike L o o
alike_self L None h = tt
alike_self L (Some d) h = (refl, agree_self (Passing d.to L) d.state h)

-- An instruction leaves words

pub if_fits : (b : Bool) (v w : ℕ) → v < 2 ^ 32 → w < 2 ^ 32 → (if b then v else w) < 2 ^ 32
if_fits true v w h k = h
if_fits false v w h k = k

module _ (s : State) (fits : IsState s) where
  place_fits : (p : Place) (ms : PlainInstr) → MovesHaveWords ms
      → new_word s (right_at code_leaves p ms) (s.place p) < 2 ^ 32
  place_fits p [] h = fits.places p
  place_fits p (SetTo r t ∷ ms) h = go (same_register p (InReg r)) (place_fits p ms h.1)
    where
      go : (b : Bool) → new_word s (right_at code_leaves p ms) (s.place p) < 2 ^ 32
          → new_word s (if b then Some t else right_at code_leaves p ms) (s.place p) < 2 ^ 32
      go true ih = value_fits s fits t h.0
      go false ih = ih
  place_fits p (CcTo t u ∷ ms) h = place_fits p ms h.1
  place_fits p (StoreTo t u ∷ ms) h = place_fits p ms h.1
  place_fits p (Ends e ∷ ms) h = place_fits p ms h.1

  memory_fits : (ms : PlainInstr) → MovesHaveWords ms → (a : ℕ) → new_memory s (store_of ms) a < 2 ^ 32
  memory_fits [] h a = fits.cells a
  memory_fits (SetTo r t ∷ ms) h a = memory_fits ms h.1 a
  memory_fits (CcTo t u ∷ ms) h a = memory_fits ms h.1 a
  memory_fits (StoreTo t u ∷ ms) h a =
      if_fits (a == value s t) (value s u) (s.memory a) (value_fits s fits u h.0.1) (fits.cells a)
  memory_fits (Ends e ∷ ms) h a = memory_fits ms h.1 a

  pub after_fits : (ms : PlainInstr) → MovesHaveWords ms → IsState (after s ms)
  after_fits ms h = record { places = λ p. place_fits p ms h; cells = memory_fits ms h }

  pub effect_fits : (ms : PlainInstr) → MovesHaveWords ms → LeavesWords (effect ms s)
  effect_fits ms h = go (goes s (ending_of ms))
    where
      go : (c : Option Control) → LeavesWords (option_map (λ c. record { state = after s ms; to = c }) c)
      go None = tt
      go (Some c) = after_fits ms h

-- What is read

-- two states that agree on memory and symbols
module _ (s t : State) (memory : (a : ℕ) → s.memory a ≡ t.memory a)
    (symbols : (y : Sym) → s.place (AtSym y) ≡ t.place (AtSym y)) where
  abbrev pub SameAt : Variables
  SameAt (Reg r) = s.place (InReg r) ≡ t.place (InReg r)
  SameAt Cc = s.cc ≡ t.cc

  abbrev pub SameWhere : (Var → Bool) → Type 0
  SameWhere f = (v : Var) → f v ≡ true → SameAt v

  same_left : (f g : Var → Bool) → SameWhere (λ v. f v || g v) → SameWhere f
  same_left f g h v e = h v (left_true (f v) (g v) e)

  same_right : (f g : Var → Bool) → SameWhere (λ v. f v || g v) → SameWhere g
  same_right f g h v e = h v (right_true (f v) (g v) e)

  value_same : (x : Tree ℕ Place) → SameWhere (term_reads x) → value s x ≡ value t x
  value_same (Const c) h = refl
  value_same (Leaf (InReg r)) h = h (Reg r) (reg_self r)
  value_same (Leaf (AtSym y)) h = symbols y
  value_same (Read x) h = memory (value s x) ∙ ap (λ a. t.memory a) (value_same x h)
  value_same (Unary o x) h = ap (λ a. un_value o a) (value_same x h)
  value_same (Binary o x y) h =
      ap (λ a. bin_value o a (value s y)) (value_same x (same_left (term_reads x) (term_reads y) h))
      ∙ ap (λ b. bin_value o (value t x) b) (value_same y (same_right (term_reads x) (term_reads y) h))

  -- the transfers behind the first
  rest_same : (m : PlainMove) (ms : PlainInstr) → SameWhere (reads (m ∷ ms)) → SameWhere (reads ms)
  rest_same m ms h = same_right (move_reads m) (reads ms) h

  first_same : (m : PlainMove) (ms : PlainInstr) → SameWhere (reads (m ∷ ms)) → SameWhere (move_reads m)
  first_same m ms h = same_left (move_reads m) (reads ms) h

  -- a place is set alike, or is as it was
  place_same : (p : Place) (ms : PlainInstr) → SameWhere (reads ms)
      → (right_at code_leaves p ms ≡ None → s.place p ≡ t.place p)
      → new_word s (right_at code_leaves p ms) (s.place p) ≡ new_word t (right_at code_leaves p ms) (t.place p)
  place_same p [] h k = k refl
  place_same p (SetTo r x ∷ ms) h k = go (same_register p (InReg r)) k (place_same p ms (rest_same (SetTo r x) ms h))
    where
      go : (b : Bool) → ((if b then Some x else right_at code_leaves p ms) ≡ None → s.place p ≡ t.place p)
          → ((right_at code_leaves p ms ≡ None → s.place p ≡ t.place p)
          → new_word s (right_at code_leaves p ms) (s.place p)
          ≡ new_word t (right_at code_leaves p ms) (t.place p))
          → new_word s (if b then Some x else right_at code_leaves p ms) (s.place p)
          ≡ new_word t (if b then Some x else right_at code_leaves p ms) (t.place p)
      go true k ih = value_same x (first_same (SetTo r x) ms h)
      go false k ih = ih k
  place_same p (CcTo x y ∷ ms) h k = place_same p ms (rest_same (CcTo x y) ms h) k
  place_same p (StoreTo x y ∷ ms) h k = place_same p ms (rest_same (StoreTo x y) ms h) k
  place_same p (Ends e ∷ ms) h k = place_same p ms (rest_same (Ends e) ms h) k

  memory_same : (ms : PlainInstr) → SameWhere (reads ms) → (a : ℕ)
      → new_memory s (store_of ms) a ≡ new_memory t (store_of ms) a
  memory_same [] h a = memory a
  memory_same (SetTo r x ∷ ms) h a = memory_same ms (rest_same (SetTo r x) ms h) a
  memory_same (CcTo x y ∷ ms) h a = memory_same ms (rest_same (CcTo x y) ms h) a
  memory_same (StoreTo x y ∷ ms) h a =
      let f = first_same (StoreTo x y) ms h in
      rw (
        value_same x (same_left (term_reads x) (term_reads y) f),
        value_same y (same_right (term_reads x) (term_reads y) f),
        memory a,
      ) refl
  memory_same (Ends e ∷ ms) h a = memory_same ms (rest_same (Ends e) ms h) a

  cc_same : (ms : PlainInstr) → SameWhere (reads ms) → (cc_of ms ≡ None → s.cc ≡ t.cc)
      → new_cc s (cc_of ms) ≡ new_cc t (cc_of ms)
  cc_same [] h k = k refl
  cc_same (SetTo r x ∷ ms) h k = cc_same ms (rest_same (SetTo r x) ms h) k
  cc_same (CcTo x y ∷ ms) h k =
      let f = first_same (CcTo x y) ms h in
      rw (
        value_same x (same_left (term_reads x) (term_reads y) f),
        value_same y (same_right (term_reads x) (term_reads y) f),
      ) refl
  cc_same (StoreTo x y ∷ ms) h k = cc_same ms (rest_same (StoreTo x y) ms h) k
  cc_same (Ends e ∷ ms) h k = cc_same ms (rest_same (Ends e) ms h) k

  -- arguments from the k-th to the m-th
  arguments_same : (m n k : ℕ) → n + k ≡ m → SameWhere (is_arg_of m) → arguments s n k ≡ arguments t n k
  arguments_same m zero k e h = refl
  arguments_same m (suc n) k e h =
      let below : nat_lt k m ≡ true = grind arith in
      rw (h (Reg (Arg k)) below, arguments_same m n (suc k) (omega arith) h) refl

  ending_same : (e : Ending ℕ Place Sym) → SameWhere (move_reads (Ends e)) → goes s (Some e) ≡ goes t (Some e)
  ending_same (GoTo l) h = refl
  ending_same (IfCc r l) h = ap (λ c. by_cc c r l) (h Cc refl)
  ending_same (IfTwo x y r l) h =
      rw (
        value_same x (same_left (term_reads x) (term_reads y) h),
        value_same y (same_right (term_reads x) (term_reads y) h),
      ) refl
  ending_same (CallOf f n) h =
      ap (λ ws. Some (Called f ws)) (arguments_same n n 0 (omega arith) (same_left (is_arg_of n) (is_reg Fp) h))
  ending_same Return h = ap (λ a. Some (Returned a)) (h (Reg Rv) refl)

  pub goes_same : (ms : PlainInstr) → SameWhere (reads ms) → goes s (ending_of ms) ≡ goes t (ending_of ms)
  goes_same [] h = refl
  goes_same (SetTo r x ∷ ms) h = goes_same ms (rest_same (SetTo r x) ms h)
  goes_same (CcTo x y ∷ ms) h = goes_same ms (rest_same (CcTo x y) ms h)
  goes_same (StoreTo x y ∷ ms) h = goes_same ms (rest_same (StoreTo x y) ms h)
  goes_same (Ends e ∷ ms) h = ending_same e (first_same (Ends e) ms h)

-- What isn't set

abbrev ending_sets : Option (Ending ℕ Place Sym) → Var → Bool
ending_sets None v = false
ending_sets (Some e) v = move_sets (Ends e) v

-- what stays where control goes so isn't set by the end
branch_passes : (b : Bool) (l : Label) (L : Variables) (v : Var) → Passing (branch b l) L v → L v
branch_passes true l L v p = p
branch_passes false l L v p = p

end_passes : (s : State) (e : Option (Ending ℕ Place Sym)) (c : Control) (L : Variables) (v : Var) → goes s e ≡ Some c
    → Passing c L v → ending_sets e v ≡ false
end_passes s None c L v g p = refl
end_passes s (Some (GoTo l)) c L v g p = refl
end_passes s (Some (IfCc r l)) c L v g p = refl
end_passes s (Some (IfTwo t u r l)) c L v g p = refl
end_passes s (Some (CallOf f n)) c L v g p =
    let e : Called f (arguments s n 0) ≡ c = (cc) in
    (subst (λ (d : Control). Passing d L v) (sym e) p).0
end_passes s (Some Return) c L v g p = refl

neither : (x y : Bool) → x ≡ false → y ≡ false → (x || y) ≡ false
neither x y e i = rw (e, i) refl

pub reg_swap : (q r : Register) → reg_eq q r ≡ reg_eq r q
reg_swap (Virt m) (Virt n) = grind arith
reg_swap Fp Fp = refl
reg_swap Rv Rv = refl
reg_swap (Arg m) (Arg n) = grind arith
reg_swap q r = refl

register_unset : (r : Register) (ms : PlainInstr) → IsSingle ms → right_at code_leaves (InReg r) ms ≡ None
    → ending_sets (ending_of ms) (Reg r) ≡ false → sets ms (Reg r) ≡ false
register_unset r [] h n e = refl
register_unset r (SetTo q t ∷ ms) h n e = go (reg_eq r q) (reg_swap q r) n (register_unset r ms h.1)
  where
    go : (b : Bool) → reg_eq q r ≡ b → (if b then Some t else right_at code_leaves (InReg r) ms) ≡ None
        → (right_at code_leaves (InReg r) ms ≡ None → ending_sets (ending_of ms) (Reg r) ≡ false
        → sets ms (Reg r) ≡ false) → (reg_eq q r || sets ms (Reg r)) ≡ false
    go true i k ih = absurd (cc)
    go false i k ih = neither (reg_eq q r) (sets ms (Reg r)) i (ih k e)
register_unset r (CcTo t u ∷ ms) h n e = register_unset r ms h.1 n e
register_unset r (StoreTo t u ∷ ms) h n e = register_unset r ms h.1 n e
register_unset r (Ends x ∷ ms) h n e =
    neither (move_sets (Ends x) (Reg r)) (sets ms (Reg r)) e (register_unset r ms h.1 n (rw h.0 refl))

cc_unset : (ms : PlainInstr) → IsSingle ms → cc_of ms ≡ None → ending_sets (ending_of ms) Cc ≡ false
    → sets ms Cc ≡ false
cc_unset [] h n e = refl
cc_unset (SetTo q t ∷ ms) h n e = cc_unset ms h.1 n e
cc_unset (CcTo t u ∷ ms) h n e = absurd (cc)
cc_unset (StoreTo t u ∷ ms) h n e = cc_unset ms h.1 n e
cc_unset (Ends x ∷ ms) h n e = neither (move_sets (Ends x) Cc) (sets ms Cc) e (cc_unset ms h.1 n (rw h.0 refl))

-- An instruction reads only what is live before it

module _ (x : PlainInstr) (h : IsInstr x) (L : Variables) (s t : State) (a : Agree (BeforeOne x L) s t) where
  live_same : (v : Var) → BeforeOne x L v → SameAt s t a.memory a.symbols v
  live_same (Reg r) l = a.registers r l
  live_same Cc l = a.compared l

  read : SameWhere s t a.memory a.symbols (reads x)
  read v e = live_same v (inl e)

  pub after_agree : (c : Control) → goes s (ending_of x) ≡ Some c → Agree (Passing c L) (after s x) (after t x)
  after_agree c g = record {
    first = after_fits s a.first x h.0;
    second = after_fits t a.second x h.0;
    memory = memory_same s t a.memory a.symbols x read;
    symbols = λ y. place_same s t a.memory a.symbols (AtSym y) x read (λ n. a.symbols y);
    registers =
        λ r p. place_same s t a.memory a.symbols (InReg r) x read
        (λ n. a.registers r
        (inr (register_unset r x h.1 n (end_passes s (ending_of x) c L (Reg r) g p), passing_in c L (Reg r) p)));
    compared =
        λ p. cc_same s t a.memory a.symbols x read
        (λ n. a.compared (inr (cc_unset x h.1 n (end_passes s (ending_of x) c L Cc g p), passing_in c L Cc p)));
  }

  pub effect_agree : Alike L (effect x s) (effect x t)
  effect_agree = go (goes s (ending_of x)) refl (goes t (ending_of x)) (goes_same s t a.memory a.symbols x read)
    where
      go : (o : Option Control) → goes s (ending_of x) ≡ o → (p : Option Control) → goes s (ending_of x) ≡ p
          → Alike L (option_map (λ c. record { state = after s x; to = c }) o)
          (option_map (λ c. record { state = after t x; to = c }) p)
      go None g None e = tt
      go (Some c) g (Some d) e = ((cc), after_agree c g)
      go None g (Some d) e = absurd (cc)
      go (Some c) g None e = absurd (cc)
