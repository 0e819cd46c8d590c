-- Values put into holes, continued to all holes so that different ones stay different.
use Rattle.std.proofs.Common.{◌≡◌, ℕ, zero, suc, ◌+◌, ◌*◌, ◌<◌, ◌≤◌, Bool, true, false, List, [], ◌∷◌, length, refl}
use Rattle.std.proofs.Common.{sym, ◌∙◌, ap, subst, arith, eq-eqb, ◌⊎◌, inl, inr}
use Rattle.std.specs.Prelude.{◌==◌, nat_lt, if◌then◌else◌, slice_index_or, Option, Some, None, IsSome}
use Rattle.std.specs.Option.{option_map}
use Rattle.std.proofs.lemmas.Bool.{eqb-true, ltb-true, ltb-false, lt-ltb}
use Rattle.po_term.specs.declared.term.Reg.{Reg as Register}
use Rattle.po_term.specs.declared.term.Reg.TheVariants.{Virt, Fp, Rv, Arg}
use Rattle.po_term.specs.declared.term.Sym.{Sym}
use Rattle.po_term.specs.declared.term.Label.{Label}
use Rattle.po_term.specs.Terms.{Place, InReg, AtSym}
use Rattle.po_term.specs.Simplified.{reg_eq}
use Rattle.po_model.specs.declared.hole.PReg.{PReg}
use Rattle.po_model.specs.declared.hole.PReg.TheVariants.{Hole, Fixed}
use Rattle.po_model.specs.Parts.{code_leaves}
use Rattle.po_model.specs.Holed.{HolePlace, InPReg, AtSymHole, label_hole, PlainValues}
use Rattle.po_model.specs.Put.{put_register, put_symbol, put_place, put_label, label_or}
use Rattle.po_model.specs.Generalised.{hole_register_eq, hole_leaves}
use Rattle.po_maps.proofs.Renames.{Renames}
use Rattle.po_skel.proofs.Known.{no_sym, Stands, StandsAt}
use Rattle.po_skel.proofs.Apart.{number_of, Proper}
use Rattle.po_skel.proofs.Renamed.{apart_map}
use Rattle.po_term.specs.Form.{IsFixed}

-- two different numbers
pub differ : (x y : ℕ) → (x ≡ y → ⊥) → (x == y) ≡ false
differ x y n = go (x == y) refl
  where
    go : (b : Bool) → (x == y) ≡ b → b ≡ false
    go true e = absurd (n (eqb-true x y e))
    go false e = refl

abbrev above : List Register → ℕ
above [] = 0
above (r ∷ rs) = suc (number_of r) + above rs

is_above : (rs : List Register) (k : ℕ) → k < length rs → number_of (slice_index_or rs k Fp) < above rs
is_above [] k h = absurd (omega arith)
is_above (r ∷ rs) zero h = omega arith
is_above (r ∷ rs) (suc k) h = let i : number_of (slice_index_or rs k Fp) < above rs = is_above rs k (omega arith) in
    omega arith

abbrev above_syms : List Sym → ℕ
above_syms [] = 0
above_syms (s ∷ ss) = suc s.0 + above_syms ss

is_above_syms : (ss : List Sym) (k : ℕ) → k < length ss → (slice_index_or ss k no_sym).0 < above_syms ss
is_above_syms [] k h = absurd (omega arith)
is_above_syms (s ∷ ss) zero h = omega arith
is_above_syms (s ∷ ss) (suc k) h = let i : (slice_index_or ss k no_sym).0 < above_syms ss =
    is_above_syms ss k (omega arith) in omega arith

-- the numbers 0 and a change places
abbrev swap : ℕ → ℕ → ℕ
swap a x = if x == 0 then a else if x == a then 0 else x

swap_back : (a x : ℕ) → swap a (swap a x) ≡ x
swap_back a x = go (x == 0) (x == a) refl refl
  where
    -- where x is neither
    stays : (x == 0) ≡ false → (x == a) ≡ false → swap a x ≡ x
    stays e i = rw (e, i) refl

    at_zero : x ≡ 0 → swap a x ≡ a
    at_zero e = rw (e) refl

    at_a : x ≡ a → swap a x ≡ 0
    at_a e = rw (e) (zero_or (a == 0) refl)
      where
        zero_or : (b : Bool) → (a == 0) ≡ b → (if b then a else if a == a then 0 else a) ≡ 0
        zero_or true i = eqb-true a 0 i
        zero_or false i = rw (eq-eqb a a refl) refl

    a_goes : swap a a ≡ 0
    a_goes = go_a (a == 0) refl
      where
        go_a : (b : Bool) → (a == 0) ≡ b → (if b then a else if a == a then 0 else a) ≡ 0
        go_a true i = eqb-true a 0 i
        go_a false i = rw (eq-eqb a a refl) refl

    go : (b c : Bool) → (x == 0) ≡ b → (x == a) ≡ c → swap a (swap a x) ≡ x
    go true c e i = ap (swap a) (at_zero (eqb-true x 0 e)) ∙ a_goes ∙ sym (eqb-true x 0 e)
    go false true e i = ap (swap a) (at_a (eqb-true x a i)) ∙ sym (eqb-true x a i)
    go false false e i = ap (swap a) (stays e i) ∙ stays e i

swap_apart : (a x y : ℕ) → swap a x ≡ swap a y → x ≡ y
swap_apart a x y e = sym (swap_back a x) ∙ ap (swap a) e ∙ swap_back a y

abbrev label_number : Option Label → ℕ
label_number None = 0
label_number (Some l) = l.0

module _ (v : PlainValues) where
  abbrev number : ℕ → ℕ
  number k = if nat_lt k (length v.regs) then number_of (slice_index_or v.regs k Fp) else above v.regs + 2 * k

  abbrev symbol : ℕ → ℕ
  symbol k = if nat_lt k (length v.syms) then (slice_index_or v.syms k no_sym).0 else above_syms v.syms + k

  abbrev pub full_register : PReg → Register
  full_register (Hole k) = Virt (number k)
  full_register (Fixed (Virt n)) = Virt (above v.regs + (2 * n + 1))
  full_register (Fixed Fp) = Fp
  full_register (Fixed Rv) = Rv
  full_register (Fixed (Arg n)) = Arg n

  abbrev pub full_symbol : ℕ → Sym
  full_symbol k = record { 0 = symbol k }

  abbrev pub full_place : HolePlace → Place
  full_place (InPReg r) = InReg (full_register r)
  full_place (AtSymHole k) = AtSym (full_symbol k)

  abbrev pub full_label : Label → Label
  full_label l = record { 0 = swap (label_number v.label) l.0 }

  module _ (proper : Proper v) where
    number_in : (k : ℕ) → k < length v.regs → number k ≡ number_of (slice_index_or v.regs k Fp)
    number_in k h = rw (lt-ltb k (length v.regs) h) refl

    -- where a number is: in the list, or above it
    where_number : (k : ℕ)
        → ((k < length v.regs) × (number k ≡ number_of (slice_index_or v.regs k Fp)) × (number k < above v.regs))
        ⊎ ((length v.regs ≤ k) × (number k ≡ above v.regs + 2 * k))
    where_number k = go (nat_lt k (length v.regs)) refl
      where
        go : (b : Bool) → nat_lt k (length v.regs) ≡ b
            → ((k < length v.regs) × (number k ≡ number_of (slice_index_or v.regs k Fp)) × (number k < above v.regs))
            ⊎ ((length v.regs ≤ k) × (number k ≡ above v.regs + 2 * k))
        go true e = inl (let h : k < length v.regs = ltb-true k (length v.regs) e in
            (h, number_in k h, subst (λ n. n < above v.regs) (sym (number_in k h)) (is_above v.regs k h)))
        go false e = inr (ltb-false k (length v.regs) e, rw (e) refl)

    number_apart : (j k : ℕ) → number j ≡ number k → j ≡ k
    number_apart j k e = go (where_number j) (where_number k)
      where
        go : ((j < length v.regs) × (number j ≡ number_of (slice_index_or v.regs j Fp)) × (number j < above v.regs))
            ⊎ ((length v.regs ≤ j) × (number j ≡ above v.regs + 2 * j))
            → ((k < length v.regs) × (number k ≡ number_of (slice_index_or v.regs k Fp)) × (number k < above v.regs))
            ⊎ ((length v.regs ≤ k) × (number k ≡ above v.regs + 2 * k)) → j ≡ k
        go (inl (h, i, l)) (inl (h', i', l')) =
            proper.regs j k h h' (proper.virtual j h ∙ ap Virt (sym i ∙ e ∙ i') ∙ sym (proper.virtual k h'))
        go (inl (h, i, l)) (inr (h', i')) =
            absurd (let l2 : number k < above v.regs = subst (λ n. n < above v.regs) e l in
            let l3 : above v.regs + 2 * k < above v.regs = subst (λ n. n < above v.regs) i' l2 in omega arith)
        go (inr (h, i)) (inl (h', i', l')) =
            absurd (let l2 : number j < above v.regs = subst (λ n. n < above v.regs) (sym e) l' in
            let l3 : above v.regs + 2 * j < above v.regs = subst (λ n. n < above v.regs) i l2 in omega arith)
        go (inr (h, i)) (inr (h', i')) = let d : above v.regs + 2 * j ≡ above v.regs + 2 * k = sym i ∙ e ∙ i' in
            omega arith

    -- no hole has the number of a register that is no hole
    odd_apart : (j n : ℕ) → number j ≡ above v.regs + (2 * n + 1) → ⊥
    odd_apart j n e = go (where_number j)
      where
        go : ((j < length v.regs) × (number j ≡ number_of (slice_index_or v.regs j Fp)) × (number j < above v.regs))
            ⊎ ((length v.regs ≤ j) × (number j ≡ above v.regs + 2 * j)) → ⊥
        go (inl (h, i, l)) = let l2 : above v.regs + (2 * n + 1) < above v.regs = subst (λ x. x < above v.regs) e l in
            absurd (omega arith)
        go (inr (h, i)) = let d : above v.regs + 2 * j ≡ above v.regs + (2 * n + 1) = sym i ∙ e in
            absurd (omega arith)

    symbol_in : (k : ℕ) → k < length v.syms → symbol k ≡ (slice_index_or v.syms k no_sym).0
    symbol_in k h = rw (lt-ltb k (length v.syms) h) refl

    where_symbol : (k : ℕ)
        → ((k < length v.syms) × (symbol k ≡ (slice_index_or v.syms k no_sym).0) × (symbol k < above_syms v.syms))
        ⊎ (symbol k ≡ above_syms v.syms + k)
    where_symbol k = go (nat_lt k (length v.syms)) refl
      where
        go : (b : Bool) → nat_lt k (length v.syms) ≡ b
            → ((k < length v.syms) × (symbol k ≡ (slice_index_or v.syms k no_sym).0) × (symbol k < above_syms v.syms))
            ⊎ (symbol k ≡ above_syms v.syms + k)
        go true e = inl (let h : k < length v.syms = ltb-true k (length v.syms) e in
            (h, symbol_in k h, subst (λ n. n < above_syms v.syms) (sym (symbol_in k h)) (is_above_syms v.syms k h)))
        go false e = inr (rw (e) refl)

    one_sym : (s t : Sym) → s.0 ≡ t.0 → s ≡ t
    one_sym s t e = ap (λ (n : ℕ). let x : Sym = record { 0 = n } in x) e

    symbol_apart : (j k : ℕ) → symbol j ≡ symbol k → j ≡ k
    symbol_apart j k e = go (where_symbol j) (where_symbol k)
      where
        go : ((j < length v.syms) × (symbol j ≡ (slice_index_or v.syms j no_sym).0) × (symbol j < above_syms v.syms))
            ⊎ (symbol j ≡ above_syms v.syms + j)
            → ((k < length v.syms) × (symbol k ≡ (slice_index_or v.syms k no_sym).0) × (symbol k < above_syms v.syms))
            ⊎ (symbol k ≡ above_syms v.syms + k) → j ≡ k
        go (inl (h, i, l)) (inl (h', i', l')) =
            proper.syms j k h h' (one_sym (slice_index_or v.syms j no_sym) (slice_index_or v.syms k no_sym) (sym i ∙ e
            ∙ i'))
        go (inl (h, i, l)) (inr i') =
            absurd (let l2 : symbol k < above_syms v.syms = subst (λ n. n < above_syms v.syms) e l in
            let l3 : above_syms v.syms + k < above_syms v.syms = subst (λ n. n < above_syms v.syms) i' l2 in
            omega arith)
        go (inr i) (inl (h', i', l')) =
            absurd (let l2 : symbol j < above_syms v.syms = subst (λ n. n < above_syms v.syms) (sym e) l' in
            let l3 : above_syms v.syms + j < above_syms v.syms = subst (λ n. n < above_syms v.syms) i l2 in
            omega arith)
        go (inr i) (inr i') = let d : above_syms v.syms + j ≡ above_syms v.syms + k = sym i ∙ e ∙ i' in omega arith

    pub registers_apart : (r q : PReg) → reg_eq (full_register r) (full_register q) ≡ hole_register_eq r q
    registers_apart (Hole j) (Hole k) = apart_map number number_apart j k
    registers_apart (Hole j) (Fixed (Virt n)) = differ (number j) (above v.regs + (2 * n + 1)) (odd_apart j n)
    registers_apart (Fixed (Virt n)) (Hole k) =
        differ (above v.regs + (2 * n + 1)) (number k) (λ e. odd_apart k n (sym e))
    registers_apart (Fixed (Virt m)) (Fixed (Virt n)) =
        apart_map (λ x. above v.regs + (2 * x + 1)) (λ x y e. omega arith) m n
    registers_apart (Fixed (Arg i)) (Fixed (Arg j)) = refl
    registers_apart (Hole j) (Fixed Fp) = refl
    registers_apart (Hole j) (Fixed Rv) = refl
    registers_apart (Hole j) (Fixed (Arg i)) = refl
    registers_apart (Fixed Fp) (Hole k) = refl
    registers_apart (Fixed Rv) (Hole k) = refl
    registers_apart (Fixed (Arg i)) (Hole k) = refl
    registers_apart (Fixed (Virt m)) (Fixed Fp) = refl
    registers_apart (Fixed (Virt m)) (Fixed Rv) = refl
    registers_apart (Fixed (Virt m)) (Fixed (Arg i)) = refl
    registers_apart (Fixed Fp) (Fixed (Virt m)) = refl
    registers_apart (Fixed Fp) (Fixed Fp) = refl
    registers_apart (Fixed Fp) (Fixed Rv) = refl
    registers_apart (Fixed Fp) (Fixed (Arg i)) = refl
    registers_apart (Fixed Rv) (Fixed (Virt m)) = refl
    registers_apart (Fixed Rv) (Fixed Fp) = refl
    registers_apart (Fixed Rv) (Fixed Rv) = refl
    registers_apart (Fixed Rv) (Fixed (Arg i)) = refl
    registers_apart (Fixed (Arg i)) (Fixed (Virt m)) = refl
    registers_apart (Fixed (Arg i)) (Fixed Fp) = refl
    registers_apart (Fixed (Arg i)) (Fixed Rv) = refl

    pub symbols_apart : (j k : ℕ) → (symbol j == symbol k) ≡ (j == k)
    symbols_apart j k = apart_map symbol symbol_apart j k

    labels_apart : (l m : Label) → ((full_label l).0 == (full_label m).0) ≡ (l.0 == m.0)
    labels_apart l m = apart_map (swap (label_number v.label)) (swap_apart (label_number v.label)) l.0 m.0

    -- which leaves are the same register, and which are the same
    same_regs : (a b : HolePlace) → code_leaves.same_register (full_place a) (full_place b)
        ≡ hole_leaves.same_register a b
    same_regs (InPReg r) (InPReg q) = registers_apart r q
    same_regs (InPReg r) (AtSymHole k) = refl
    same_regs (AtSymHole j) (InPReg q) = refl
    same_regs (AtSymHole j) (AtSymHole k) = refl

    same_leaves : (a b : HolePlace) → code_leaves.same_leaf (full_place a) (full_place b) ≡ hole_leaves.same_leaf a b
    same_leaves (InPReg r) (InPReg q) = registers_apart r q
    same_leaves (InPReg r) (AtSymHole k) = refl
    same_leaves (AtSymHole j) (InPReg q) = refl
    same_leaves (AtSymHole j) (AtSymHole k) = symbols_apart j k

    fixed_stays : (q : Register) → IsFixed q → (r : PReg) → reg_eq q (full_register r) ≡ hole_register_eq (Fixed q) r
    fixed_stays (Virt n) h r = absurd h
    fixed_stays Fp h (Hole k) = refl
    fixed_stays Fp h (Fixed (Virt n)) = refl
    fixed_stays Fp h (Fixed Fp) = refl
    fixed_stays Fp h (Fixed Rv) = refl
    fixed_stays Fp h (Fixed (Arg n)) = refl
    fixed_stays Rv h (Hole k) = refl
    fixed_stays Rv h (Fixed (Virt n)) = refl
    fixed_stays Rv h (Fixed Fp) = refl
    fixed_stays Rv h (Fixed Rv) = refl
    fixed_stays Rv h (Fixed (Arg n)) = refl
    fixed_stays (Arg i) h (Hole k) = refl
    fixed_stays (Arg i) h (Fixed (Virt n)) = refl
    fixed_stays (Arg i) h (Fixed Fp) = refl
    fixed_stays (Arg i) h (Fixed Rv) = refl
    fixed_stays (Arg i) h (Fixed (Arg n)) = refl

    pub full_renames : Renames full_place full_register full_symbol full_label hole_leaves code_leaves
    full_renames = record {
      same_register = same_regs;
      same_leaf = same_leaves;
      in_register = λ r. refl;
      register = regs_at;
      symbol = syms_at;
      is_fixed = fixed_stays;
      register_eq = registers_apart;
      symbol_eq = symbols_apart;
      same_label = labels_apart;
    }
      where
        regs_at : (l : HolePlace) → code_leaves.register (full_place l)
            ≡ option_map full_register (hole_leaves.register l)
        regs_at (InPReg r) = refl
        regs_at (AtSymHole k) = refl

        syms_at : (l : HolePlace) → code_leaves.symbol (full_place l) ≡ option_map full_symbol (hole_leaves.symbol l)
        syms_at (InPReg r) = refl
        syms_at (AtSymHole k) = refl

    -- it continues putting in

    pub register_put : (r : PReg) → Stands v r → full_register r ≡ put_register v r
    register_put (Hole k) h = ap Virt (number_in k h) ∙ sym (proper.virtual k h)
    register_put (Fixed (Virt n)) h = absurd h
    register_put (Fixed Fp) h = refl
    register_put (Fixed Rv) h = refl
    register_put (Fixed (Arg n)) h = refl

    pub symbol_put : (k : ℕ) → k < length v.syms → full_symbol k ≡ put_symbol v k
    symbol_put k h = one_sym (full_symbol k) (put_symbol v k) (symbol_in k h)

    pub place_put : (l : HolePlace) → StandsAt v l → full_place l ≡ put_place v l
    place_put (InPReg r) h = ap InReg (register_put r h)
    place_put (AtSymHole k) h = ap AtSym (symbol_put k h)

    -- a label of a rule where there is one here
    pub label_put : (l : Label) → (l ≡ label_hole) × IsSome v.label → full_label l ≡ put_label v l
    label_put l h = rw (h.0) (go v.label h.1)
      where
        go : (o : Option Label) → IsSome o → record { 0 = label_number o } ≡ label_or o label_hole
        go None i = absurd (cc)
        go (Some m) i = refl
