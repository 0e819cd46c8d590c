-- Different holes have different registers, and different symbols.
use Rattle.std.proofs.Common.{◌≡◌, ◌≢◌, ℕ, ◌+◌, ◌<◌, ◌≤◌, Bool, true, false, List, [], ◌∷◌, ◌++◌, length, get_or, refl}
use Rattle.std.proofs.Common.{sym, ◌∙◌, ap, subst, arith, ◌⊎◌, inl, inr}
use Rattle.std.specs.Prelude.{nat_lt, if◌then◌else◌, slice_index_or, All, AllPairs}
use Rattle.std.specs.List.{list_any, position_or_len}
use Rattle.std.proofs.lemmas.Bool.{ltb-true, ltb-false}
use Rattle.std.proofs.lemmas.List.{length-append, get_or_push, get_or_append_left, get_or_default}
use Rattle.std.proofs.lemmas.List.Folds.{list_any_at}
use Rattle.po_term.specs.declared.term.Reg.{Reg as Register}
use Rattle.po_term.specs.declared.term.Reg.TheVariants.{Virt, Fp, Rv, Arg}
use Rattle.po_term.specs.declared.term.Sym.{Sym}
use Rattle.po_term.specs.Moves.{PlainMove}
use Rattle.po_term.specs.Simplified.{reg_eq}
use Rattle.po_model.specs.declared.hole.PReg.{PReg}
use Rattle.po_model.specs.declared.hole.PReg.TheVariants.{Hole, Fixed}
use Rattle.po_model.specs.Pairs.{PlainPair}
use Rattle.po_model.specs.Holed.{PlainValues}
use Rattle.po_model.specs.Parts.{sym_eq}
use Rattle.po_model.specs.Shape.{meet_register, meet_symbol, meet_moves, nothing_met, pair_values, hole_register}
use Rattle.po_model.specs.Shape.{hole_symbol}
use Rattle.po_model.specs.Put.{put_register}
use Rattle.po_skel.specs.Values.{IsVirtual, AreDifferent}
use Rattle.po_skel.proofs.Meeting.{keeps_moves}
use Rattle.po_skel.proofs.Known.{one_register, register_itself, one_symbol, symbol_itself, place_below, found_at}
use Rattle.po_skel.proofs.Known.{IsKnown, IsSymMet, no_sym, Stands}

-- the number of a virtual register
abbrev pub number_of : Register → ℕ
number_of (Virt n) = n
number_of r = 0

-- each of a list stands in it once
abbrev Once : {X : Type 0} → X → List X → Type 0
Once d xs = (j k : ℕ) → j < length xs → k < length xs → slice_index_or xs j d ≡ slice_index_or xs k d → j ≡ k

-- the registers of values are virtual and different, and so are the symbols: by their places
pub record Proper (v : PlainValues) : Type 0 where
  pub virtual : (k : ℕ) → k < length v.regs
      → slice_index_or v.regs k Fp ≡ Virt (number_of (slice_index_or v.regs k Fp))
  pub regs : Once Fp v.regs
  pub syms : Once no_sym v.syms

-- Both ways

virtual_is : (r : Register) → IsVirtual r → r ≡ Virt (number_of r)
virtual_is (Virt n) h = refl
virtual_is Fp h = absurd h
virtual_is Rv h = absurd h
virtual_is (Arg n) h = absurd h

once_of : {X : Type 0} (d : X) (xs : List X) → AllPairs (λ x y. x ≢ y) xs → Once d xs
once_of d xs apart j k h i e = go (nat_lt j k) refl (nat_lt k j) refl
  where
    go : (b : Bool) → nat_lt j k ≡ b → (c : Bool) → nat_lt k j ≡ c → j ≡ k
    go true p c q = absurd (apart j k d (ltb-true j k p) i e)
    go false p true q = absurd (apart k j d (ltb-true k j q) h (sym e))
    go false p false q = let a : k ≤ j = ltb-false j k p in let b : j ≤ k = ltb-false k j q in omega arith

pub proper_of : (v : PlainValues) → AreDifferent v → Proper v
proper_of v d = record {
  virtual = λ k h. virtual_is (slice_index_or v.regs k Fp) (d.virtual k Fp h);
  regs = once_of Fp v.regs d.registers;
  syms = once_of no_sym v.syms d.symbols;
}

pairs_of : {X : Type 0} (d : X) (xs : List X) → Once d xs → AllPairs (λ x y. x ≢ y) xs
pairs_of d xs once i j e l h same =
    let low : i < length xs = omega arith in
    let one : i ≡ j = once i j low h (get_or_default xs i d e low ∙ same ∙ get_or_default xs j e d h) in
    absurd (omega arith)

pub different_of : (v : PlainValues) → Proper v → AreDifferent v
different_of v p = record {
  virtual = λ k d h. subst IsVirtual (sym (get_or_default v.regs k d Fp h ∙ p.virtual k h)) tt;
  registers = pairs_of Fp v.regs p.regs;
  symbols = pairs_of no_sym v.syms p.syms;
}

-- What the walk meets stays different

at_push : {X : Type 0} (xs : List X) (x d : X) (k : ℕ) → k < length (xs ++ x ∷ [])
    → ((k < length xs) × (get_or (xs ++ x ∷ []) k d ≡ get_or xs k d))
    ⊎ ((k ≡ length xs) × (get_or (xs ++ x ∷ []) k d ≡ x))
at_push xs x d k h = go (nat_lt k (length xs)) refl
  where
    go : (b : Bool) → nat_lt k (length xs) ≡ b → ((k < length xs) × (get_or (xs ++ x ∷ []) k d ≡ get_or xs k d))
        ⊎ ((k ≡ length xs) × (get_or (xs ++ x ∷ []) k d ≡ x))
    go true e = let l : k < length xs = ltb-true k (length xs) e in inl (l, get_or_append_left xs (x ∷ []) d k l)
    go false e =
        let l : length xs ≤ k = ltb-false k (length xs) e in
        let n : length (xs ++ x ∷ []) ≡ length xs + 1 = length-append xs (x ∷ []) in
        let i : k ≡ length xs = omega arith in
        inr (i, get_or_push xs x d k (sym i))

once_more : {X : Type 0} (d x : X) (xs : List X) → Once d xs → ((j : ℕ) → j < length xs → get_or xs j d ≡ x → ⊥)
    → Once d (xs ++ x ∷ [])
once_more {X = X} d x xs once new j k h i e = go (at_push xs x d j h) (at_push xs x d k i)
  where
    go : ((j < length xs) × (get_or (xs ++ x ∷ []) j d ≡ get_or xs j d))
        ⊎ ((j ≡ length xs) × (get_or (xs ++ x ∷ []) j d ≡ x))
        → ((k < length xs) × (get_or (xs ++ x ∷ []) k d ≡ get_or xs k d))
        ⊎ ((k ≡ length xs) × (get_or (xs ++ x ∷ []) k d ≡ x)) → j ≡ k
    go (inl (l, a)) (inl (m, b)) = once j k l m (sym a ∙ e ∙ b)
    go (inl (l, a)) (inr (m, b)) = absurd (new j l (sym a ∙ e ∙ b))
    go (inr (l, a)) (inl (m, b)) = absurd (new k m (sym b ∙ sym e ∙ a))
    go (inr (l, a)) (inr (m, b)) = l ∙ sym m

proper_register : (v : PlainValues) (r : Register) → Proper v → Proper (meet_register v r)
proper_register v (Virt n) p = go (list_any (reg_eq (Virt n)) v.regs) refl
  where
    go : (b : Bool) → list_any (reg_eq (Virt n)) v.regs ≡ b
        → Proper (if b then v else record v { regs = v.regs ++ Virt n ∷ [] })
    go true e = p
    go false e = record { virtual = all_virtual; regs = once_more Fp (Virt n) v.regs p.regs new; syms = p.syms }
      where
        new : (j : ℕ) → j < length v.regs → get_or v.regs j Fp ≡ Virt n → ⊥
        new j h i = let t : list_any (reg_eq (Virt n)) v.regs ≡ true =
            list_any_at (reg_eq (Virt n)) v.regs j Fp h (ap (reg_eq (Virt n)) i ∙ register_itself (Virt n)) in
            absurd (cc)

        all_virtual : (k : ℕ) → k < length (v.regs ++ Virt n ∷ []) → slice_index_or (v.regs ++ Virt n ∷ []) k Fp
            ≡ Virt (number_of (slice_index_or (v.regs ++ Virt n ∷ []) k Fp))
        all_virtual k h = at (at_push v.regs (Virt n) Fp k h)
          where
            at : ((k < length v.regs) × (get_or (v.regs ++ Virt n ∷ []) k Fp ≡ get_or v.regs k Fp))
                ⊎ ((k ≡ length v.regs) × (get_or (v.regs ++ Virt n ∷ []) k Fp ≡ Virt n))
                → slice_index_or (v.regs ++ Virt n ∷ []) k Fp
                ≡ Virt (number_of (slice_index_or (v.regs ++ Virt n ∷ []) k Fp))
            at (inl (l, a)) = a ∙ p.virtual k l ∙ ap (λ r. Virt (number_of r)) (sym a)
            at (inr (l, a)) = a ∙ ap (λ r. Virt (number_of r)) (sym a)
proper_register v Fp p = p
proper_register v Rv p = p
proper_register v (Arg n) p = p

proper_symbol : (v : PlainValues) (s : Sym) → Proper v → Proper (meet_symbol v s)
proper_symbol v s p = go (list_any (sym_eq s) v.syms) refl
  where
    go : (b : Bool) → list_any (sym_eq s) v.syms ≡ b → Proper (if b then v else record v { syms = v.syms ++ s ∷ [] })
    go true e = p
    go false e = record { virtual = p.virtual; regs = p.regs; syms = once_more no_sym s v.syms p.syms new }
      where
        new : (j : ℕ) → j < length v.syms → get_or v.syms j no_sym ≡ s → ⊥
        new j h i = let t : list_any (sym_eq s) v.syms ≡ true =
            list_any_at (sym_eq s) v.syms j no_sym h (ap (sym_eq s) i ∙ symbol_itself s) in absurd (cc)

proper_start : Proper nothing_met
proper_start = record {
  virtual = λ k h. absurd (omega arith);
  regs = λ j k h i e. absurd (omega arith);
  syms = λ j k h i e. absurd (omega arith);
}

proper_moves : (v : PlainValues) (ms : List PlainMove) → Proper v → Proper (meet_moves v ms)
proper_moves v ms p =
    keeps_moves Proper proper_register proper_symbol
    (λ w c q. record { virtual = q.virtual; regs = q.regs; syms = q.syms })
    (λ w l q. record { virtual = q.virtual; regs = q.regs; syms = q.syms }) v ms p

pub pair_proper : (p : PlainPair) → Proper (pair_values p)
pair_proper p = proper_moves (meet_moves nothing_met p.a) p.b (proper_moves nothing_met p.a proper_start)

pub pair_different : (p : PlainPair) → AreDifferent (pair_values p)
pair_different p = different_of (pair_values p) (pair_proper p)

-- The hole of what stands at a hole is that hole

pub hole_at : (w : PlainValues) → Proper w → (k : ℕ) → k < length w.regs
    → hole_register w (slice_index_or w.regs k Fp) ≡ Hole k
hole_at w p k h = at (slice_index_or w.regs k Fp) (p.virtual k h) refl
  where
    at : (x : Register) → slice_index_or w.regs k Fp ≡ Virt (number_of (slice_index_or w.regs k Fp))
        → slice_index_or w.regs k Fp ≡ x → hole_register w (slice_index_or w.regs k Fp) ≡ Hole k
    at (Virt n) e i =
        let known : list_any (reg_eq (Virt n)) w.regs ≡ true =
        list_any_at (reg_eq (Virt n)) w.regs k Fp h (ap (reg_eq (Virt n)) i ∙ register_itself (Virt n)) in
        let same : slice_index_or w.regs (position_or_len (reg_eq (Virt n)) w.regs) Fp ≡ slice_index_or w.regs k Fp =
        sym (one_register (Virt n) (slice_index_or w.regs (position_or_len (reg_eq (Virt n)) w.regs) Fp)
        (found_at (reg_eq (Virt n)) w.regs Fp known)) ∙ sym i in
        ap (hole_register w) i
        ∙ ap Hole (p.regs (position_or_len (reg_eq (Virt n)) w.regs) k
        (place_below (reg_eq (Virt n)) w.regs known) h same)
    at Fp e i = absurd (let j : Fp ≡ Virt (number_of (slice_index_or w.regs k Fp)) = sym i ∙ e in cc)
    at Rv e i = absurd (let j : Rv ≡ Virt (number_of (slice_index_or w.regs k Fp)) = sym i ∙ e in cc)
    at (Arg n) e i = absurd (let j : Arg n ≡ Virt (number_of (slice_index_or w.regs k Fp)) = sym i ∙ e in cc)

pub hole_back : (w : PlainValues) → Proper w → (q : PReg) → Stands w q → hole_register w (put_register w q) ≡ q
hole_back w p (Hole k) h = hole_at w p k h
hole_back w p (Fixed (Virt n)) h = absurd h
hole_back w p (Fixed Fp) h = refl
hole_back w p (Fixed Rv) h = refl
hole_back w p (Fixed (Arg n)) h = refl

pub symbol_at : (w : PlainValues) → Proper w → (k : ℕ) → k < length w.syms
    → hole_symbol w (slice_index_or w.syms k no_sym) ≡ k
symbol_at w p k h =
    let s = slice_index_or w.syms k no_sym in
    let known : list_any (sym_eq s) w.syms ≡ true = list_any_at (sym_eq s) w.syms k no_sym h (symbol_itself s) in
    p.syms (position_or_len (sym_eq s) w.syms) k (place_below (sym_eq s) w.syms known) h
    (sym (one_symbol s (slice_index_or w.syms (position_or_len (sym_eq s) w.syms) no_sym)
    (found_at (sym_eq s) w.syms no_sym known)))

-- What was met is known

pub regs_known : (w : PlainValues) → Proper w → All (IsKnown w) w.regs
regs_known w p k d h =
    subst (IsKnown w) (sym (get_or_default w.regs k d Fp h))
    (known_at (slice_index_or w.regs k Fp) (p.virtual k h) refl)
  where
    known_at : (x : Register) → slice_index_or w.regs k Fp ≡ Virt (number_of (slice_index_or w.regs k Fp))
        → slice_index_or w.regs k Fp ≡ x → IsKnown w x
    known_at (Virt n) e i =
        list_any_at (reg_eq (Virt n)) w.regs k Fp h (ap (reg_eq (Virt n)) i ∙ register_itself (Virt n))
    known_at Fp e i = tt
    known_at Rv e i = tt
    known_at (Arg n) e i = absurd (let j : Arg n ≡ Virt (number_of (slice_index_or w.regs k Fp)) = sym i ∙ e in cc)

pub syms_met : (w : PlainValues) → All (IsSymMet w) w.syms
syms_met w k d h =
    list_any_at (sym_eq (slice_index_or w.syms k d)) w.syms k d h (symbol_itself (slice_index_or w.syms k d))
