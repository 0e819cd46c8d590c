-- What slow combination makes of a shape whose holes have values has only holes that have values, and so have its
-- questions: it is the same where the other holes are replaced by further ones.
use Rattle.std.proofs.Common.{◌≡◌, ℕ, suc, ◌<◌, ◌≤◌, Bool, true, false, List, [], ◌∷◌, length, map, refl, sym, ◌∙◌}
use Rattle.std.proofs.Common.{ap, arith}
use Rattle.std.specs.Prelude.{◌==◌, nat_lt, if◌then◌else◌, slice_index, Option, Some, None, IsSome}
use Rattle.std.specs.Option.{option_map}
use Rattle.std.proofs.lemmas.Bool.{ltb-true, ltb-false, lt-ltb}
use Rattle.std.proofs.lemmas.List.{get_or_past}
use Rattle.po_word.specs.Exprs.{Expr, Number, AtHole, UnOf, BinOf, Log2Of, Ask, Zero, One, Ones, Pow2, Within, Same}
use Rattle.po_word.specs.Exprs.{Related, ask_map, is_so, expr_value, HasHoles, OfEach}
use Rattle.po_term.specs.declared.term.Reg.{Reg as Register}
use Rattle.po_term.specs.declared.term.Reg.TheVariants.{Virt, Fp, Rv, Arg}
use Rattle.po_term.specs.declared.term.Label.{Label}
use Rattle.po_term.specs.Moves.{Move, GoTo, IfCc, IfTwo, CallOf, Return, SetTo, CcTo, StoreTo, Ends}
use Rattle.po_term.specs.MoveMap.{move_map}
use Rattle.po_term.specs.Kinds.{Met, exprs}
use Rattle.po_simplify.proofs.Follows.{Carries, Alike, met_map}
use Rattle.po_simplify.proofs.Instances.{same_tree}
use Rattle.po_model.specs.declared.machine.Machine.{Machine}
use Rattle.po_model.specs.declared.hole.PReg.{PReg}
use Rattle.po_model.specs.declared.hole.PReg.TheVariants.{Hole, Fixed}
use Rattle.po_model.specs.Machines.{IsMachine}
use Rattle.po_model.specs.Combined.{Kept, Gone, AsOne, combined}
use Rattle.po_model.specs.Holed.{HolePlace, InPReg, AtSymHole, HoleMove, HoleCombination, label_hole, PlainValues}
use Rattle.po_model.specs.Holed.{PlainShape}
use Rattle.po_model.specs.Put.{combination_map}
use Rattle.po_model.specs.Generalised.{hole_register_eq, hole_leaves, is_live_in, reading}
use Rattle.po_maps.proofs.Renames.{Renames}
use Rattle.po_maps.proofs.CombinedFollows.{combined-follows}
use Rattle.po_subst.proofs.Mapped.{moves_agree, moves_stay, moves_imply}
use Rattle.po_skel.proofs.Known.{Stands, StandsAt}
use Rattle.po_skel.proofs.Stand.{StandIn}
use Rattle.po_skel.proofs.Renamed.{apart_map}
use Rattle.po_term.specs.Form.{IsFixed}

-- the numbers below n stay, and each other one goes up
abbrev stay : ℕ → ℕ → ℕ
stay n k = if nat_lt k n then k else suc k

stay_below : (n k : ℕ) → k < n → stay n k ≡ k
stay_below n k h = rw (lt-ltb k n h) refl

below_stays : (n k : ℕ) → stay n k ≡ k → k < n
below_stays n k e = go (nat_lt k n) refl e
  where
    go : (b : Bool) → nat_lt k n ≡ b → (if b then k else suc k) ≡ k → k < n
    go true i h = ltb-true k n i
    go false i h = absurd (omega arith)

-- what stays below was there
stay_back : (n k : ℕ) → stay n k < n → stay n k ≡ k
stay_back n k h = go (nat_lt k n) refl h
  where
    go : (b : Bool) → nat_lt k n ≡ b → (if b then k else suc k) < n → (if b then k else suc k) ≡ k
    go true i l = refl
    go false i l = absurd (let p : n ≤ k = ltb-false k n i in omega arith)

stay_apart : (n x y : ℕ) → stay n x ≡ stay n y → x ≡ y
stay_apart n x y e = go (nat_lt x n) (nat_lt y n) refl refl e
  where
    go : (b c : Bool) → nat_lt x n ≡ b → nat_lt y n ≡ c → (if b then x else suc x) ≡ (if c then y else suc y) → x ≡ y
    go true true i j h = h
    go false false i j h = omega arith
    go true false i j h = absurd (let p : x < n = ltb-true x n i in let q : n ≤ y = ltb-false y n j in omega arith)
    go false true i j h = absurd (let p : y < n = ltb-true y n j in let q : n ≤ x = ltb-false x n i in omega arith)

-- a number below n is the image of itself alone
stay_test : (n i k : ℕ) → i < n → (i == stay n k) ≡ (i == k)
stay_test n i k h = ap (λ x. x == stay n k) (sym (stay_below n i h)) ∙ apart_map (stay n) (stay_apart n) i k

abbrev labels_here : Option Label → ℕ
labels_here None = 0
labels_here (Some l) = 1

pub same_moves : {K L R S : Type 0} (ms : List (Move K L R S))
    → map (move_map (λ c. c) (λ l. l) (λ r. r) (λ s. s) (λ l. l)) ms ≡ ms
same_moves [] = refl
same_moves (SetTo r t ∷ ms) = rw (same_tree t, same_moves ms) refl
same_moves (CcTo t u ∷ ms) = rw (same_tree t, same_tree u, same_moves ms) refl
same_moves (StoreTo t u ∷ ms) = rw (same_tree t, same_tree u, same_moves ms) refl
same_moves (Ends (GoTo l) ∷ ms) = rw (same_moves ms) refl
same_moves (Ends (IfCc r l) ∷ ms) = rw (same_moves ms) refl
same_moves (Ends (IfTwo t u r l) ∷ ms) = rw (same_tree t, same_tree u, same_moves ms) refl
same_moves (Ends (CallOf s n) ∷ ms) = rw (same_moves ms) refl
same_moves (Ends Return ∷ ms) = rw (same_moves ms) refl

module _ (v : PlainValues) where
  abbrev const_stay : Expr → Expr
  const_stay (Number c) = Number c
  const_stay (AtHole k) = if nat_lt k (length v.consts) then AtHole k else Number 0
  const_stay (UnOf o x) = UnOf o (const_stay x)
  const_stay (BinOf o x y) = BinOf o (const_stay x) (const_stay y)
  const_stay (Log2Of x) = Log2Of (const_stay x)

  abbrev register_stay : PReg → PReg
  register_stay (Hole k) = Hole (stay (length v.regs) k)
  register_stay (Fixed (Virt n)) = Fixed (Virt (suc n))
  register_stay (Fixed Fp) = Fixed Fp
  register_stay (Fixed Rv) = Fixed Rv
  register_stay (Fixed (Arg n)) = Fixed (Arg (stay 4 n))

  abbrev symbol_stay : ℕ → ℕ
  symbol_stay k = stay (length v.syms) k

  abbrev place_stay : HolePlace → HolePlace
  place_stay (InPReg r) = InPReg (register_stay r)
  place_stay (AtSymHole k) = AtSymHole (symbol_stay k)

  abbrev label_stay : Label → Label
  label_stay l = record { 0 = stay (labels_here v.label) l.0 }

  abbrev move_stay : HoleMove → HoleMove
  move_stay m = move_map const_stay place_stay register_stay symbol_stay label_stay m

  -- what stands stays

  const_stands : (e : Expr) → HasHoles e v.consts → const_stay e ≡ e
  const_stands (Number c) h = refl
  const_stands (AtHole k) h = rw (lt-ltb k (length v.consts) h) refl
  const_stands (UnOf o x) h = ap (λ y. UnOf o y) (const_stands x h)
  const_stands (BinOf o x y) h = rw (const_stands x h.0, const_stands y h.1) refl
  const_stands (Log2Of x) h = ap Log2Of (const_stands x h)

  register_stands : (r : PReg) → Stands v r → register_stay r ≡ r
  register_stands (Hole k) h = ap Hole (stay_below (length v.regs) k h)
  register_stands (Fixed (Virt n)) h = absurd h
  register_stands (Fixed Fp) h = refl
  register_stands (Fixed Rv) h = refl
  register_stands (Fixed (Arg n)) h = ap (λ i. Fixed (Arg i)) (stay_below 4 n (omega arith))

  place_stands : (l : HolePlace) → StandsAt v l → place_stay l ≡ l
  place_stands (InPReg r) h = ap InPReg (register_stands r h)
  place_stands (AtSymHole k) h = ap AtSymHole (stay_below (length v.syms) k h)

  label_stands : (l : Label) → (l ≡ label_hole) × IsSome v.label → label_stay l ≡ l
  label_stands l h = rw (h.0) (go v.label h.1)
    where
      go : (o : Option Label) → IsSome o → record { 0 = stay (labels_here o) 0 } ≡ label_hole
      go None i = absurd (cc)
      go (Some m) i = refl

  pub moves_stand : (ms : List HoleMove) → StandIn v ms → map move_stay ms ≡ ms
  moves_stand ms h =
      moves_agree const_stay (λ c. c) place_stay (λ l. l) register_stay (λ r. r) symbol_stay (λ s. s) label_stay
      (λ l. l) ms
      (moves_imply const_stands place_stands register_stands (λ k i. stay_below (length v.syms) k i) label_stands ms
      h)
      ∙ same_moves ms

  -- what stays stands

  const_has : (e : Expr) → const_stay e ≡ e → HasHoles e v.consts
  const_has (Number c) h = tt
  const_has (AtHole k) h = go (nat_lt k (length v.consts)) refl h
    where
      go : (b : Bool) → nat_lt k (length v.consts) ≡ b → (if b then AtHole k else Number 0) ≡ AtHole k
          → k < length v.consts
      go true i e = ltb-true k (length v.consts) i
      go false i e = absurd (cc)
  const_has (UnOf o x) h = const_has x (cc)
  const_has (BinOf o x y) h = (const_has x (cc), const_has y (cc))
  const_has (Log2Of x) h = const_has x (cc)

  register_has : (r : PReg) → register_stay r ≡ r → Stands v r
  register_has (Hole k) h = below_stays (length v.regs) k (cc)
  register_has (Fixed (Virt n)) h = let e : suc n ≡ n = cc in absurd (omega arith)
  register_has (Fixed Fp) h = tt
  register_has (Fixed Rv) h = tt
  register_has (Fixed (Arg n)) h = let e : stay 4 n ≡ n = cc in let i : n < 4 = below_stays 4 n e in omega arith

  place_has : (l : HolePlace) → place_stay l ≡ l → StandsAt v l
  place_has (InPReg r) h = register_has r (cc)
  place_has (AtSymHole k) h = below_stays (length v.syms) k (cc)

  one_label : (l m : Label) → l.0 ≡ m.0 → l ≡ m
  one_label l m e = ap (λ (n : ℕ). let x : Label = record { 0 = n } in x) e

  label_has : (l : Label) → label_stay l ≡ l → (l ≡ label_hole) × IsSome v.label
  label_has l h = go v.label (below_stays (labels_here v.label) l.0 (ap (λ (x : Label). x.0) h))
    where
      go : (o : Option Label) → l.0 < labels_here o → (l ≡ label_hole) × IsSome o
      go None i = absurd (omega arith)
      go (Some m) i = (one_label l label_hole (omega arith), refl)

  pub moves_have : (ms : List HoleMove) → map move_stay ms ≡ ms → StandIn v ms
  moves_have ms h = moves_imply const_has place_has register_has (λ k i. below_stays (length v.syms) k i) label_has ms
      (moves_stay const_stay place_stay register_stay symbol_stay label_stay ms h)

  abbrev pub ResultStands : HoleCombination → Type 0
  ResultStands Kept = Unit {0}
  ResultStands Gone = Unit {0}
  ResultStands (AsOne ms) = StandIn v ms

  result_has : (c : HoleCombination) → combination_map move_stay c ≡ c → ResultStands c
  result_has Kept h = tt
  result_has Gone h = tt
  result_has (AsOne ms) h = moves_have ms (cc)

  -- the questions of which all holes have values
  abbrev pub AskedStand : List (Ask Expr) → Type 0
  AskedStand [] = Unit {0}
  AskedStand (q ∷ qs) = OfEach (λ e. HasHoles e v.consts) q × AskedStand qs

  ask_has : (q : Ask Expr) → ask_map const_stay q ≡ q → OfEach (λ e. HasHoles e v.consts) q
  ask_has (Zero c) h = const_has c (cc)
  ask_has (One c) h = const_has c (cc)
  ask_has (Ones c) h = const_has c (cc)
  ask_has (Pow2 c) h = const_has c (cc)
  ask_has (Within c lo hi) h = const_has c (cc)
  ask_has (Same c d) h = (const_has c (cc), const_has d (cc))
  ask_has (Related r c d) h = (const_has c (cc), const_has d (cc))

  asked_have : (qs : List (Ask Expr)) → map (ask_map const_stay) qs ≡ qs → AskedStand qs
  asked_have [] h = tt
  asked_have (q ∷ qs) h = (ask_has q (cc), asked_have qs (cc))

  -- it changes no word

  const_worth : (e : Expr) → expr_value v.consts (const_stay e) ≡ expr_value v.consts e
  const_worth (Number c) = refl
  const_worth (AtHole k) = go (nat_lt k (length v.consts)) refl
    where
      go : (b : Bool) → nat_lt k (length v.consts) ≡ b → expr_value v.consts (if b then AtHole k else Number 0)
          ≡ slice_index v.consts k
      go true i = refl
      go false i = sym (get_or_past v.consts k 0 (ltb-false k (length v.consts) i))
  const_worth (UnOf o x) = rw (const_worth x) refl
  const_worth (BinOf o x y) = rw (const_worth x, const_worth y) refl
  const_worth (Log2Of x) = rw (const_worth x) refl

  ask_worth : (q : Ask Expr) → is_so (ask_map (expr_value v.consts) (ask_map const_stay q))
      ≡ is_so (ask_map (expr_value v.consts) q)
  ask_worth (Zero c) = rw (const_worth c) refl
  ask_worth (One c) = rw (const_worth c) refl
  ask_worth (Ones c) = rw (const_worth c) refl
  ask_worth (Pow2 c) = rw (const_worth c) refl
  ask_worth (Within c lo hi) = rw (const_worth c) refl
  ask_worth (Same c d) = rw (const_worth c, const_worth d) refl
  ask_worth (Related r c d) = rw (const_worth c, const_worth d) refl

  stay_alike : (qs : List (Ask Expr)) → Alike (exprs v.consts) (exprs v.consts) const_stay qs
  stay_alike [] = tt
  stay_alike (q ∷ qs) = (ask_worth q, stay_alike qs)

  stay_carries : Carries (exprs v.consts) (exprs v.consts) const_stay
  stay_carries = record { number = λ n. refl; un = λ o c. refl; bin = λ o c d. refl; log2 = λ c. refl }

  -- it keeps registers and symbols apart

  registers_stay : (r q : PReg) → hole_register_eq (register_stay r) (register_stay q) ≡ hole_register_eq r q
  registers_stay (Hole j) (Hole k) = apart_map (stay (length v.regs)) (stay_apart (length v.regs)) j k
  registers_stay (Hole j) (Fixed (Virt n)) = refl
  registers_stay (Hole j) (Fixed Fp) = refl
  registers_stay (Hole j) (Fixed Rv) = refl
  registers_stay (Hole j) (Fixed (Arg i)) = refl
  registers_stay (Fixed (Virt m)) (Hole k) = refl
  registers_stay (Fixed Fp) (Hole k) = refl
  registers_stay (Fixed Rv) (Hole k) = refl
  registers_stay (Fixed (Arg i)) (Hole k) = refl
  registers_stay (Fixed (Virt m)) (Fixed (Virt n)) = apart_map (λ x. suc x) (λ x y e. omega arith) m n
  registers_stay (Fixed (Virt m)) (Fixed Fp) = refl
  registers_stay (Fixed (Virt m)) (Fixed Rv) = refl
  registers_stay (Fixed (Virt m)) (Fixed (Arg i)) = refl
  registers_stay (Fixed Fp) (Fixed (Virt m)) = refl
  registers_stay (Fixed Fp) (Fixed Fp) = refl
  registers_stay (Fixed Fp) (Fixed Rv) = refl
  registers_stay (Fixed Fp) (Fixed (Arg i)) = refl
  registers_stay (Fixed Rv) (Fixed (Virt m)) = refl
  registers_stay (Fixed Rv) (Fixed Fp) = refl
  registers_stay (Fixed Rv) (Fixed Rv) = refl
  registers_stay (Fixed Rv) (Fixed (Arg i)) = refl
  registers_stay (Fixed (Arg i)) (Fixed (Virt m)) = refl
  registers_stay (Fixed (Arg i)) (Fixed Fp) = refl
  registers_stay (Fixed (Arg i)) (Fixed Rv) = refl
  registers_stay (Fixed (Arg i)) (Fixed (Arg j)) = apart_map (stay 4) (stay_apart 4) i j

  fixed_stay : (q : Register) → IsFixed q → (r : PReg) → hole_register_eq (Fixed q) (register_stay r)
      ≡ hole_register_eq (Fixed q) r
  fixed_stay (Virt n) h r = absurd h
  fixed_stay Fp h (Hole k) = refl
  fixed_stay Fp h (Fixed (Virt n)) = refl
  fixed_stay Fp h (Fixed Fp) = refl
  fixed_stay Fp h (Fixed Rv) = refl
  fixed_stay Fp h (Fixed (Arg n)) = refl
  fixed_stay Rv h (Hole k) = refl
  fixed_stay Rv h (Fixed (Virt n)) = refl
  fixed_stay Rv h (Fixed Fp) = refl
  fixed_stay Rv h (Fixed Rv) = refl
  fixed_stay Rv h (Fixed (Arg n)) = refl
  fixed_stay (Arg i) h (Hole k) = refl
  fixed_stay (Arg i) h (Fixed (Virt n)) = refl
  fixed_stay (Arg i) h (Fixed Fp) = refl
  fixed_stay (Arg i) h (Fixed Rv) = refl
  fixed_stay (Arg i) h (Fixed (Arg n)) = stay_test 4 i n (omega arith)

  symbols_stay : (j k : ℕ) → (symbol_stay j == symbol_stay k) ≡ (j == k)
  symbols_stay j k = apart_map (stay (length v.syms)) (stay_apart (length v.syms)) j k

  labels_stay : (l m : Label) → ((label_stay l).0 == (label_stay m).0) ≡ (l.0 == m.0)
  labels_stay l m = apart_map (stay (labels_here v.label)) (stay_apart (labels_here v.label)) l.0 m.0

  -- which leaves are the same register, and which are the same
  same_regs : (a b : HolePlace) → hole_leaves.same_register (place_stay a) (place_stay b)
      ≡ hole_leaves.same_register a b
  same_regs (InPReg r) (InPReg q) = registers_stay r q
  same_regs (InPReg r) (AtSymHole k) = refl
  same_regs (AtSymHole j) (InPReg q) = refl
  same_regs (AtSymHole j) (AtSymHole k) = refl

  same_leaves : (a b : HolePlace) → hole_leaves.same_leaf (place_stay a) (place_stay b) ≡ hole_leaves.same_leaf a b
  same_leaves (InPReg r) (InPReg q) = registers_stay r q
  same_leaves (InPReg r) (AtSymHole k) = refl
  same_leaves (AtSymHole j) (InPReg q) = refl
  same_leaves (AtSymHole j) (AtSymHole k) = symbols_stay j k

  stay_renames : Renames place_stay register_stay symbol_stay label_stay hole_leaves hole_leaves
  stay_renames = record {
    same_register = same_regs;
    same_leaf = same_leaves;
    in_register = λ r. refl;
    register = regs_at;
    symbol = syms_at;
    is_fixed = fixed_stay;
    register_eq = registers_stay;
    symbol_eq = symbols_stay;
    same_label = labels_stay;
  }
    where
      regs_at : (l : HolePlace) → hole_leaves.register (place_stay l)
          ≡ option_map register_stay (hole_leaves.register l)
      regs_at (InPReg r) = refl
      regs_at (AtSymHole k) = refl

      syms_at : (l : HolePlace) → hole_leaves.symbol (place_stay l) ≡ option_map symbol_stay (hole_leaves.symbol l)
      syms_at (InPReg r) = refl
      syms_at (AtSymHole k) = refl

  -- an image that stands is what it was
  stands_back : (r : PReg) → Stands v (register_stay r) → register_stay r ≡ r
  stands_back (Hole k) h = ap Hole (stay_back (length v.regs) k h)
  stands_back (Fixed (Virt n)) h = absurd h
  stands_back (Fixed Fp) h = refl
  stands_back (Fixed Rv) h = refl
  stands_back (Fixed (Arg n)) h = ap (λ i. Fixed (Arg i)) (stay_back 4 n (omega arith))

  live_stays : (s : PlainShape) → ((r : PReg) → is_live_in s r ≡ true → Stands v r) → (r : PReg)
      → is_live_in s (register_stay r) ≡ is_live_in s r
  live_stays s lives r = go (is_live_in s (register_stay r)) (is_live_in s r) refl refl
    where
      go : (b c : Bool) → is_live_in s (register_stay r) ≡ b → is_live_in s r ≡ c → is_live_in s (register_stay r)
          ≡ is_live_in s r
      go true c e i = ap (is_live_in s) (stands_back r (lives (register_stay r) e))
      go false true e i = ap (is_live_in s) (register_stands r (lives r i))
      go false false e i = e ∙ sym i

  -- the reading of a shape stays as it is
  pub reading_stays : (m : Machine) → IsMachine m → (s : PlainShape) → StandIn v s.a → StandIn v s.b
      → ((r : PReg) → is_live_in s r ≡ true → Stands v r)
      → reading m v.consts s ≡ met_map const_stay (combination_map move_stay) (reading m v.consts s)
  reading_stays m is s a b lives =
      sym (ap (λ (x : List HoleMove). combined (exprs v.consts) hole_leaves m (is_live_in s) s.cc x s.b)
      (moves_stand s.a a))
      ∙ sym (ap (λ (x : List HoleMove). combined (exprs v.consts) hole_leaves m (is_live_in s) s.cc
      (map move_stay s.a) x) (moves_stand s.b b))
      ∙ combined-follows (exprs v.consts) (exprs v.consts) const_stay place_stay register_stay symbol_stay label_stay
      hole_leaves hole_leaves stay_carries stay_renames m is (is_live_in s) (is_live_in s) (live_stays s lives)
      s.cc s.a s.b (stay_alike (reading m v.consts s).asked)

  pub result_stands : (m : Machine) → IsMachine m → (s : PlainShape) → StandIn v s.a → StandIn v s.b
      → ((r : PReg) → is_live_in s r ≡ true → Stands v r) → ResultStands (reading m v.consts s).got
  result_stands m is s a b lives =
      result_has (reading m v.consts s).got
      (sym (ap (λ (x : Met Expr HoleCombination). x.got) (reading_stays m is s a b lives)))

  pub asked_stand : (m : Machine) → IsMachine m → (s : PlainShape) → StandIn v s.a → StandIn v s.b
      → ((r : PReg) → is_live_in s r ≡ true → Stands v r) → AskedStand (reading m v.consts s).asked
  asked_stand m is s a b lives =
      asked_have (reading m v.consts s).asked
      (sym (ap (λ (x : Met Expr HoleCombination). x.asked) (reading_stays m is s a b lives)))
