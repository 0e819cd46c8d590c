-- Where a virtual register is written while another one is still to be read, their machine registers are two.
use Rattle.std.proofs.Common.{◌≡◌, ℕ, zero, suc, ◌+◌, ◌*◌, ◌<◌, ◌≤◌, Bool, true, false, List, [], ◌∷◌, ◌++◌, length}
use Rattle.std.proofs.Common.{get_or, map, reverse, refl, sym, ◌∙◌, ap, subst, arith, ◌⊎◌, inl, inr, eq-eqb}
use Rattle.std.proofs.Common.{append_assoc, append-nil}
use Rattle.std.specs.Prelude.{◌||◌, if◌then◌else◌, ◌≢◌, AllPairs, Contains, IsTrue}
use Rattle.std.proofs.lemmas.Bool.{false≢true, le-leb, ne_eqb, cases_eq, cases_lt}
use Rattle.std.proofs.lemmas.List.{get_or_default, get_or-map, map-append, length-map}
use Rattle.std.proofs.lemmas.List.Elements.{Contains-append_left, Contains-append_right, Contains-append_cases}
use Rattle.std.proofs.lemmas.Grind.{reverse_onto}
use Rattle.po_term.specs.declared.term.Reg.TheVariants.{Virt}
use Rattle.po_model.specs.declared.var.Var.TheVariants.{Reg}
use Rattle.po_model.specs.LiveAfter.{reads}
use Rattle.po_model.specs.Placement.{last_read, Interval, interval_of, intervals_from, intervals, contains}
use Rattle.po_model.specs.Placement.{IsUncrowded, PlacedInterval, lowest_from, place_from, placement, assigned}
use Rattle.po_model.specs.Placement.{registers, machine_of}
use Rattle.po_model.specs.UnitCodes.{written, all_written}
use Rattle.po_assign.proofs.LastReads.{read_later}
use Rattle.po_assign.proofs.Apart.{placement_apart}
use Rattle.po_assign.proofs.Boundary.{any_reads}
use Rattle.po_term.specs.Moves.{PlainInstr}

-- lists

contains_map : {X Y : Type 0} (f : X → Y) (xs : List X) (x : X) → Contains xs x → Contains (map f xs) (f x)
contains_map f xs x c = (
  c.0,
  subst (λ n. c.0 < n) (sym (length-map xs f)) c.1,
  get_or-map f xs c.0 x (f x) c.1
      ∙ ap f c.2,
)

contains_cons : {X : Type 0} (y : X) (xs : List X) (x : X) → Contains xs x → Contains (y ∷ xs) x
contains_cons y xs x c = (suc c.0, omega (arith, c.1), c.2)

contains_reverse : {X : Type 0} (xs : List X) (x : X) → Contains xs x → Contains (reverse xs) x
contains_reverse [] x c = absurd (omega (arith, c.1))
contains_reverse {X = X} (y ∷ ys) x (zero, l, e) = subst (λ (zs : List X). Contains zs x) (sym (reverse_onto ys y []))
    (Contains-append_right (reverse ys) (y ∷ []) x (0, omega arith, e))
contains_reverse {X = X} (y ∷ ys) x (suc k, l, e) =
    subst (λ (zs : List X). Contains zs x) (sym (reverse_onto ys y [])) (Contains-append_left (reverse ys) (y ∷ []) x
    (contains_reverse ys x (k, omega arith, e)))

-- a fact of each pair holds of two elements in one order or the other, unless they are one
either_order : {X : Type 0} (R : X → X → Type 0) (xs : List X) → AllPairs R xs → (x y : X) → Contains xs x
    → Contains xs y → (x ≡ y → ⊥) → R x y ⊎ R y x
either_order {X = X} R xs h x y c d n =
    let at : get_or xs c.0 x ≡ x = c.2 in
    let there : get_or xs d.0 x ≡ y = get_or_default xs d.0 x y d.1 ∙ d.2 in
    elim (cases_lt c.0 d.0) [
      | inl l ↦ inl (subst (λ (z : X). R z y) at (subst (λ (z : X). R (get_or xs c.0 x) z) there (h c.0 d.0 x l d.1)))
      | inr l ↦ elim (cases_eq c.0 d.0) [
        | inl e ↦ absurd (n (sym at ∙ ap (λ k. get_or xs k x) e ∙ there))
        | inr e ↦ inr (subst (λ (z : X). R z x) there (subst (λ (z : X). R (get_or xs d.0 x) z) at
            (h d.0 c.0 x (omega arith) c.1)))
      ]
    ]

-- intervals

-- a register has an interval that contains a point
abbrev pub HasInterval : List Interval → ℕ → ℕ → Type 0
HasInterval is v point = (i : Interval) × Contains is i × (i.register ≡ v) × (i.start ≤ point) × (point ≤ i.finish)

-- what these instructions read is read last at the first of their points, or later
read_last : (v last p : ℕ) (after : List PlainInstr) → any_reads after v ≡ true → 2 * p ≤ last_read v last p after
read_last v last p [] r = absurd (false≢true r)
read_last v last p (x ∷ xs) r = go (reads x (Reg (Virt v))) r (read_later v (2 * p) (suc p) xs (omega arith))
    (λ r. read_last v last (suc p) xs r)
  where
    go : (b : Bool) → (b || any_reads xs v) ≡ true → 2 * p ≤ last_read v (2 * p) (suc p) xs
        → (any_reads xs v ≡ true → 2 * suc p ≤ last_read v last (suc p) xs)
        → 2 * p ≤ last_read v (if b then 2 * p else last) (suc p) xs
    go true r here later = here
    go false r here later = omega (arith, later r)

read_behind_these : (v last p : ℕ) (before after : List PlainInstr) → any_reads after v ≡ true
    → 2 * (p + length before) ≤ last_read v last p (before ++ after)
read_behind_these v last p [] after r = omega (arith, read_last v last p after r)
read_behind_these v last p (x ∷ xs) after r = omega (
  arith,
  read_behind_these v (if reads x (Reg (Virt v)) then 2 * p
      else last) (suc p) xs after r,
)

-- a register that these instructions write, and later ones read
pub held_interval : (p : ℕ) (before after : List PlainInstr) (v point : ℕ) → Contains (all_written before) v
    → any_reads after v ≡ true → point + 1 ≡ 2 * (p + length before)
    → HasInterval (intervals_from p (before ++ after)) v point
held_interval p [] after v point c r e = absurd (omega (arith, c.1))
held_interval p (x ∷ xs) after v point c r e =
    elim (Contains-append_cases (written x) (all_written xs) v c) [
      | inl here ↦
          let i = interval_of p (xs ++ after) v in (
            i,
            Contains-append_left (map (interval_of p (xs ++ after)) (written x))
                (intervals_from (suc p) (xs ++ after)) i (contains_map (interval_of p (xs ++ after)) (written x) v
                here),
            refl,
            omega arith,
            omega (arith, read_behind_these v (2 * p + 1) (suc p) xs after r),
          )
      | inr there ↦
          let h = held_interval (suc p) xs after v point there r (omega arith) in (
            h.0,
            Contains-append_right (map (interval_of p (xs ++ after)) (written x))
                (intervals_from (suc p) (xs ++ after)) h.0 h.1,
            h.2,
            h.3,
            h.4,
          )
    ]

-- a register that an instruction writes
pub written_interval : (p : ℕ) (before : List PlainInstr) (x : PlainInstr) (after : List PlainInstr) (w point : ℕ)
    → Contains (written x) w → point ≡ 2 * (p + length before) + 1
    → HasInterval (intervals_from p (before ++ x ∷ after)) w point
written_interval p [] x after w point c e =
    let i = interval_of p after w in (
      i,
      Contains-append_left (map (interval_of p after) (written x)) (intervals_from (suc p) after) i
          (contains_map (interval_of p after) (written x) w c),
      refl,
      omega arith,
      omega (arith, read_later w (2 * p + 1) (suc p) after (omega arith)),
    )
written_interval p (y ∷ ys) x after w point c e =
    let h = written_interval (suc p) ys x after w point c (omega arith) in (
      h.0,
      Contains-append_right (map (interval_of p (ys ++ x ∷ after)) (written y))
          (intervals_from (suc p) (ys ++ x ∷ after)) h.0 h.1,
      h.2,
      h.3,
      h.4,
    )

-- the intervals' registers are those that are written, in order
registers_of : (p : ℕ) (is : List PlainInstr) (ws : List ℕ) → map (λ (i : Interval). i.register)
    (map (interval_of p is) ws) ≡ ws
registers_of p is [] = refl
registers_of p is (w ∷ ws) = ap (λ (vs : List ℕ). w ∷ vs) (registers_of p is ws)

registers_written : (p : ℕ) (is : List PlainInstr) → map (λ (i : Interval). i.register) (intervals_from p is)
    ≡ all_written is
registers_written p [] = refl
registers_written p (x ∷ xs) =
    map-append (λ (i : Interval). i.register) (map (interval_of p xs) (written x)) (intervals_from (suc p) xs)
    ∙ rw (registers_of p xs (written x), registers_written (suc p) xs) refl

-- placement

abbrev HasPlaced : List PlacedInterval → Interval → Type 0
HasPlaced ds i = (d : PlacedInterval) × Contains ds d × (d.interval ≡ i)

-- what is placed stays so
still_placed : (n : ℕ) (done : List PlacedInterval) (is : List Interval) (i : Interval) → HasPlaced done i
    → HasPlaced (place_from n done is) i
still_placed n done [] i h = h
still_placed n done (j ∷ js) i h =
    let d : PlacedInterval = record { interval = j; machine = lowest_from done j.start 0 n } in
    still_placed n (d ∷ done) js i (h.0, contains_cons d done h.0 h.1, h.2)

is_placed : (n : ℕ) (done : List PlacedInterval) (is : List Interval) (i : Interval) → Contains is i
    → HasPlaced (place_from n done is) i
is_placed n done [] i c = absurd (omega (arith, c.1))
is_placed n done (j ∷ js) i (zero, l, e) =
    let d : PlacedInterval = record { interval = j; machine = lowest_from done j.start 0 n } in
    still_placed n (d ∷ done) js i (d, (0, omega arith, refl), e)
is_placed n done (j ∷ js) i (suc k, l, e) = is_placed n
    (record { interval = j; machine = lowest_from done j.start 0 n } ∷ done) js i (k, omega arith, e)

abbrev keys : List (ℕ × ℕ) → List ℕ
keys xs = map (λ (x : ℕ × ℕ). x.0) xs

-- the registers of the pairs are those of the intervals, in order
keys_placed : (n : ℕ) (done : List PlacedInterval) (is : List Interval)
    → keys (reverse (map assigned (place_from n done is))) ≡ keys (reverse (map assigned done))
    ++ map (λ (i : Interval). i.register) is
keys_placed n done [] = sym (append-nil (keys (reverse (map assigned done))))
keys_placed n done (j ∷ js) =
    let d : PlacedInterval = record { interval = j; machine = lowest_from done j.start 0 n } in
    let before = reverse (map assigned done) in
    keys_placed n (d ∷ done) js
    ∙ ap (λ (xs : List (ℕ × ℕ)). keys xs ++ map (λ (i : Interval). i.register) js)
    (reverse_onto (map assigned done) (assigned d) [])
    ∙ ap (λ (vs : List ℕ). vs ++ map (λ (i : Interval). i.register) js)
    (map-append (λ (x : ℕ × ℕ). x.0) before (assigned d ∷ []))
    ∙ append_assoc (keys before) (j.register ∷ []) (map (λ (i : Interval). i.register) js)

keys_written : (n : ℕ) (code : List PlainInstr) → keys (registers n code) ≡ all_written code
keys_written n code = keys_placed n [] (intervals code) ∙ registers_written 0 code

-- a pair is found by its register, where no two have one register
found_pair : (regs : List (ℕ × ℕ)) (x : ℕ × ℕ) → AllPairs (λ v w. v ≢ w) (keys regs) → Contains regs x
    → machine_of regs x.0 ≡ x.1
found_pair [] x once c = absurd (omega (arith, c.1))
found_pair (y ∷ ys) x once (zero, l, e) =
    let key : y.0 ≡ x.0 = ap (λ (z : ℕ × ℕ). z.0) e in
    let word : y.1 ≡ x.1 = ap (λ (z : ℕ × ℕ). z.1) e in
    rw (eq-eqb y.0 x.0 key) word
found_pair (y ∷ ys) x once (suc k, l, e) =
    let c : Contains ys x = (k, omega arith, e) in
    let d : Contains (keys ys) x.0 = contains_map (λ (z : ℕ × ℕ). z.0) ys x c in
    let other : y.0 ≢ x.0 = λ f. once 0 (suc d.0) x.0 (omega arith) (omega (arith, d.1)) (f ∙ sym d.2) in
    rw (ne_eqb y.0 x.0 other) (found_pair ys x (λ i j z a b. once (suc i) (suc j) z (omega arith) (omega arith)) c)

module _ (n : ℕ) (code : List PlainInstr) (un : IsUncrowded n (intervals code))
    (once : AllPairs (λ v w. v ≢ w) (all_written code)) where
  abbrev machine : ℕ → ℕ
  machine v = machine_of (registers n code) v

  machine_found : (d : PlacedInterval) → Contains (placement n code) d → machine d.interval.register ≡ d.machine
  machine_found d c =
      found_pair (registers n code) (assigned d) (subst (λ (vs : List ℕ). AllPairs (λ v w. v ≢ w) vs)
      (sym (keys_written n code)) once)
      (contains_reverse (map assigned (placement n code)) (assigned d) (contains_map assigned (placement n code) d c))

  is_within : (i : Interval) (point : ℕ) → i.start ≤ point → point ≤ i.finish → IsTrue (contains i point)
  is_within i point a b = rw (le-leb i.start point a, le-leb point i.finish b) refl

  -- two registers whose intervals contain one point
  pub machines_apart : (v w point : ℕ) → HasInterval (intervals code) v point → HasInterval (intervals code) w point
      → v ≢ w → machine v ≢ machine w
  machines_apart v w point h k other same =
      let d = is_placed n [] (intervals code) h.0 h.1 in
      let e = is_placed n [] (intervals code) k.0 k.1 in
      let of_d : d.0.interval.register ≡ v = ap (λ (i : Interval). i.register) d.2 ∙ h.2 in
      let of_e : e.0.interval.register ≡ w = ap (λ (i : Interval). i.register) e.2 ∙ k.2 in
      let in_d : IsTrue (contains d.0.interval point) = subst (λ i. IsTrue (contains i point)) (sym d.2)
      (is_within h.0 point h.3 h.4) in
      let in_e : IsTrue (contains e.0.interval point) = subst (λ i. IsTrue (contains i point)) (sym e.2)
      (is_within k.0 point k.3 k.4) in
      let both : d.0.machine ≡ e.0.machine = sym (machine_found d.0 d.1) ∙ ap machine of_d ∙ same
      ∙ ap machine (sym of_e) ∙ machine_found e.0 e.1 in
      let two : d.0 ≡ e.0 → ⊥ = λ f. other (sym of_d ∙ ap (λ (x : PlacedInterval). x.interval.register) f ∙ of_e) in
      elim (either_order (λ a b. (point : ℕ) → IsTrue (contains a.interval point) → IsTrue (contains b.interval point)
      → a.machine ≢ b.machine) (placement n code) (placement_apart n code un) d.0 e.0 d.1 e.1 two) [
        | inl r ↦ r point in_d in_e both
        | inr r ↦ r point in_e in_d (sym both)
      ]
