-- The registers that are live after a well-formed pair are those at the live holes of its shape.
use Rattle.std.proofs.Common.{◌≡◌, ◌≢◌, ℕ, zero, suc, ◌≤◌, Bool, true, false, List, [], ◌∷◌, map, refl, sym, ◌∙◌}
use Rattle.std.proofs.Common.{ap, subst, arith, ◌⊎◌, inl, inr}
use Rattle.std.specs.Prelude.{◌||◌, if◌then◌else◌, filter, Some, is_some, All, IsTrue}
use Rattle.std.specs.List.{list_any}
use Rattle.std.proofs.lemmas.List.Folds.{list_any-append}
use Rattle.std.proofs.lemmas.List.Elements.{All-head, All-tail, All-cons, All-nil}
use Rattle.po_term.specs.declared.term.Reg.{Reg as Register}
use Rattle.po_term.specs.declared.term.Reg.TheVariants.{Virt, Fp, Rv, Arg}
use Rattle.po_term.specs.Terms.{InReg}
use Rattle.po_term.specs.Moves.{SetTo, CcTo, StoreTo, Ends, PlainMove}
use Rattle.po_term.specs.Form.{WellFormedMove}
use Rattle.po_term.specs.Simplified.{reg_eq}
use Rattle.po_model.specs.declared.hole.PReg.{PReg}
use Rattle.po_model.specs.declared.hole.PReg.TheVariants.{Hole, Fixed}
use Rattle.po_model.specs.Parts.{code_leaves, right_at}
use Rattle.po_model.specs.Pairs.{PlainPair, is_live_after, is_set_in, WellFormedPair}
use Rattle.po_model.specs.Holed.{PlainValues}
use Rattle.po_model.specs.Shape.{meet_move, meet_moves, nothing_met, pair_values, pair_shape}
use Rattle.po_model.specs.Shape.{hole_register, live_holes, settable}
use Rattle.po_model.specs.Put.{put_register}
use Rattle.po_model.specs.Generalised.{hole_register_eq, is_live_in}
use Rattle.po_skel.proofs.Meeting.{Longer, longer_self, moves_longer, after_register, after_move}
use Rattle.po_skel.proofs.Known.{one_register, register_itself, IsKnown, met_known, known_met, register_met}
use Rattle.po_skel.proofs.Known.{register_back, Stands}
use Rattle.po_skel.proofs.Apart.{pair_proper, hole_back, regs_known}
use Rattle.std.proofs.lemmas.Bool.{eqb-true}

pub one_hole : (r q : PReg) → hole_register_eq r q ≡ true → r ≡ q
one_hole (Hole j) (Hole k) h = ap Hole (eqb-true j k h)
one_hole (Fixed r) (Fixed q) h = ap Fixed (one_register r q h)
one_hole (Hole j) (Fixed q) h = absurd (cc)
one_hole (Fixed r) (Hole k) h = absurd (cc)

hole_itself : (q : PReg) → hole_register_eq q q ≡ true
hole_itself (Hole k) = register_itself (Virt k)
hole_itself (Fixed y) = register_itself y

or_left : (b c : Bool) → b ≡ true → (b || c) ≡ true
or_left true c e = refl
or_left false c e = absurd (cc)

or_right : (b c : Bool) → c ≡ true → (b || c) ≡ true
or_right true c e = refl
or_right false c e = e

either_true : (b c : Bool) → (b || c) ≡ true → (b ≡ true) ⊎ (c ≡ true)
either_true true c h = inl refl
either_true false c h = inr h

-- a register that is set is met, and isn't the frame
set_known : (w v : PlainValues) (ms : List PlainMove) → All WellFormedMove ms → Longer (meet_moves w ms) v
    → (x : Register) → is_some (right_at code_leaves (InReg x) ms) ≡ true → IsKnown v x × (x ≢ Fp)
set_known w v [] f h x e = absurd (cc)
set_known w v (SetTo r t ∷ ms) f h x e = go (reg_eq x r) refl e
    (set_known (meet_move w (SetTo r t)) v ms (All-tail WellFormedMove (SetTo r t) ms f) h x)
  where
    here : IsKnown v r × (r ≢ Fp)
    here =
        let formed = All-head WellFormedMove (SetTo r t) ms f in
        let met = register_met w v r (after_register w v r t (after_move w v (SetTo r t) ms h)) in
        (met_known v r formed.0 met, formed.1)

    go : (b : Bool) → reg_eq x r ≡ b → is_some (if b then Some t else right_at code_leaves (InReg x) ms) ≡ true
        → (is_some (right_at code_leaves (InReg x) ms) ≡ true → IsKnown v x × (x ≢ Fp)) → IsKnown v x × (x ≢ Fp)
    go true i k later = subst (λ y. IsKnown v y × (y ≢ Fp)) (sym (one_register x r i)) here
    go false i k later = later k
set_known w v (CcTo t u ∷ ms) f h x e =
    set_known (meet_move w (CcTo t u)) v ms (All-tail WellFormedMove (CcTo t u) ms f) h x e
set_known w v (StoreTo t u ∷ ms) f h x e =
    set_known (meet_move w (StoreTo t u)) v ms (All-tail WellFormedMove (StoreTo t u) ms f) h x e
set_known w v (Ends y ∷ ms) f h x e =
    set_known (meet_move w (Ends y)) v ms (All-tail WellFormedMove (Ends y) ms f) h x e

-- one of a list that a test finds
found : {X : Type 0} (p : X → Bool) (xs : List X) → list_any p xs ≡ true
    → (x : X) × (p x ≡ true) × ((P : X → Type 0) → All P xs → P x)
found p [] h = absurd (cc)
found {X = X} p (x ∷ xs) h = go (p x) refl h (found p xs)
  where
    go : (b : Bool) → p x ≡ b → (b || list_any p xs) ≡ true
        → (list_any p xs ≡ true → (y : X) × (p y ≡ true) × ((P : X → Type 0) → All P xs → P y))
        → (y : X) × (p y ≡ true) × ((P : X → Type 0) → All P (x ∷ xs) → P y)
    go true e i later = (x, e, λ P a. All-head P x xs a)
    go false e i later = let r = later i in (r.0, r.1, λ P a. r.2 P (All-tail P x xs a))

module _ (w : PlainValues) (live : Register → Bool) where
  -- a register that is live is among the holes, where it is among the registers
  live_there : (x : Register) (rs : List Register) → list_any (reg_eq x) rs ≡ true → live x ≡ true
      → list_any (hole_register_eq (hole_register w x)) (live_holes w live rs) ≡ true
  live_there x [] h l = absurd (cc)
  live_there x (r ∷ rs) h l = go (reg_eq x r) refl h (live_there x rs)
    where
      here : (b : Bool) → live r ≡ b → reg_eq x r ≡ true
          → list_any (hole_register_eq (hole_register w x))
          (map (hole_register w) (if b then r ∷ filter live rs else filter live rs)) ≡ true
      here true k i = ap (λ (c : Bool). c || list_any (hole_register_eq (hole_register w x)) (live_holes w live rs))
          (ap (λ y. hole_register_eq (hole_register w x) (hole_register w y)) (sym (one_register x r i))
          ∙ hole_itself (hole_register w x))
      here false k i = absurd (let t : live r ≡ true = ap live (sym (one_register x r i)) ∙ l in cc)

      later_on : (b : Bool) → list_any (hole_register_eq (hole_register w x)) (live_holes w live rs) ≡ true
          → list_any (hole_register_eq (hole_register w x))
          (map (hole_register w) (if b then r ∷ filter live rs else filter live rs)) ≡ true
      later_on true k =
          or_right (hole_register_eq (hole_register w x) (hole_register w r))
          (list_any (hole_register_eq (hole_register w x)) (live_holes w live rs)) k
      later_on false k = k

      go : (b : Bool) → reg_eq x r ≡ b → (b || list_any (reg_eq x) rs) ≡ true
          → (list_any (reg_eq x) rs ≡ true → live x ≡ true
          → list_any (hole_register_eq (hole_register w x)) (live_holes w live rs) ≡ true)
          → list_any (hole_register_eq (hole_register w x)) (live_holes w live (r ∷ rs)) ≡ true
      go true i j later = here (live r) refl i
      go false i j later = later_on (live r) (later j l)

  -- and what is among the holes is that of a live register
  live_from : (q : PReg) (rs : List Register) → All (IsKnown w) rs
      → list_any (hole_register_eq q) (live_holes w live rs) ≡ true → (x : Register) × (live x ≡ true) × IsKnown w x
      × (q ≡ hole_register w x)
  live_from q [] k h = absurd (cc)
  live_from q (r ∷ rs) k h = go (live r) refl h (live_from q rs (All-tail (IsKnown w) r rs k))
    where
      pick : (b : Bool) → hole_register_eq q (hole_register w r) ≡ b
          → (b || list_any (hole_register_eq q) (live_holes w live rs)) ≡ true → live r ≡ true
          → (list_any (hole_register_eq q) (live_holes w live rs) ≡ true → (x : Register) × (live x ≡ true)
          × IsKnown w x × (q ≡ hole_register w x)) → (x : Register) × (live x ≡ true) × IsKnown w x
          × (q ≡ hole_register w x)
      pick true e i l later = (r, l, All-head (IsKnown w) r rs k, one_hole q (hole_register w r) e)
      pick false e i l later = later i

      go : (b : Bool) → live r ≡ b
          → list_any (hole_register_eq q) (map (hole_register w) (if b then r ∷ filter live rs else filter live rs))
          ≡ true → (list_any (hole_register_eq q) (live_holes w live rs) ≡ true → (x : Register) × (live x ≡ true)
          × IsKnown w x × (q ≡ hole_register w x)) → (x : Register) × (live x ≡ true) × IsKnown w x
          × (q ≡ hole_register w x)
      go true l i later = pick (hole_register_eq q (hole_register w r)) refl i l later
      go false l i later = later i

pub settable_known : (w : PlainValues) → All (IsKnown w) settable
settable_known w =
    All-cons (IsKnown w) Rv (Arg 0 ∷ Arg 1 ∷ Arg 2 ∷ Arg 3 ∷ []) tt
    (All-cons (IsKnown w) (Arg 0) (Arg 1 ∷ Arg 2 ∷ Arg 3 ∷ []) (omega arith)
    (All-cons (IsKnown w) (Arg 1) (Arg 2 ∷ Arg 3 ∷ []) (omega arith)
    (All-cons (IsKnown w) (Arg 2) (Arg 3 ∷ []) (omega arith)
    (All-cons (IsKnown w) (Arg 3) [] (omega arith) (All-nil (IsKnown w))))))

arg_settable : (n : ℕ) → n ≤ 3 → list_any (reg_eq (Arg n)) settable ≡ true
arg_settable zero h = refl
arg_settable (suc zero) h = refl
arg_settable (suc (suc zero)) h = refl
arg_settable (suc (suc (suc zero))) h = refl
arg_settable (suc (suc (suc (suc n)))) h = absurd (omega arith)

module _ (p : PlainPair) (formed : WellFormedPair p) where
  abbrev w : PlainValues
  w = pair_values p

  -- what is live was set, and so it was met and isn't the frame
  pub live_known : (x : Register) → is_live_after p x ≡ true → IsKnown w x × (x ≢ Fp)
  live_known x h =
      let r = found (reg_eq x) p.regs h in
      let same : x ≡ r.0 = one_register x r.0 r.1 in
      let set : (is_set_in p.a r.0 || is_set_in p.b r.0) ≡ true =
      is_true (is_set_in p.a r.0 || is_set_in p.b r.0)
      (r.2 (λ y. IsTrue (is_set_in p.a y || is_set_in p.b y)) formed.set) in
      subst (λ y. IsKnown w y × (y ≢ Fp)) (sym same)
      (go r.0 (either_true (is_set_in p.a r.0) (is_set_in p.b r.0) set))
    where
      is_true : (b : Bool) → IsTrue b → b ≡ true
      is_true b i = i

      go : (y : Register) → (is_set_in p.a y ≡ true) ⊎ (is_set_in p.b y ≡ true) → IsKnown w y × (y ≢ Fp)
      go y (inl e) =
          set_known nothing_met w p.a formed.first.each (moves_longer (meet_moves nothing_met p.a) p.b) y e
      go y (inr e) = set_known (meet_moves nothing_met p.a) w p.b formed.second.each (longer_self w) y e

  -- a hole that is live in the shape is that of a live register
  pub live_of : (q : PReg) → is_live_in (pair_shape p) q ≡ true → (x : Register) × (is_live_after p x ≡ true)
      × IsKnown w x × (q ≡ hole_register w x)
  live_of q h =
      go (either_true (list_any (hole_register_eq q) (live_holes w (is_live_after p) w.regs))
      (list_any (hole_register_eq q) (live_holes w (is_live_after p) settable))
      (sym (list_any-append (hole_register_eq q) (live_holes w (is_live_after p) w.regs)
      (live_holes w (is_live_after p) settable)) ∙ h))
    where
      go : (list_any (hole_register_eq q) (live_holes w (is_live_after p) w.regs) ≡ true)
          ⊎ (list_any (hole_register_eq q) (live_holes w (is_live_after p) settable) ≡ true)
          → (x : Register) × (is_live_after p x ≡ true) × IsKnown w x × (q ≡ hole_register w x)
      go (inl e) = live_from w (is_live_after p) q w.regs (regs_known w (pair_proper p)) e
      go (inr e) = live_from w (is_live_after p) q settable (settable_known w) e

  -- the hole of a live register is live in the shape
  live_in : (x : Register) → is_live_after p x ≡ true → is_live_in (pair_shape p) (hole_register w x) ≡ true
  live_in x h = list_any-append (hole_register_eq (hole_register w x)) (live_holes w (is_live_after p) w.regs)
      (live_holes w (is_live_after p) settable) ∙ go x h (live_known x h)
    where
      go : (y : Register) → is_live_after p y ≡ true → IsKnown w y × (y ≢ Fp)
          → (list_any (hole_register_eq (hole_register w y)) (live_holes w (is_live_after p) w.regs) || list_any
          (hole_register_eq (hole_register w y)) (live_holes w (is_live_after p) settable)) ≡ true
      go (Virt n) l k =
          or_left (list_any (hole_register_eq (hole_register w (Virt n))) (live_holes w (is_live_after p) w.regs))
          (list_any (hole_register_eq (hole_register w (Virt n))) (live_holes w (is_live_after p) settable))
          (live_there w (is_live_after p) (Virt n) w.regs k.0 l)
      go Fp l k = absurd (k.1 refl)
      go Rv l k = or_right (list_any (hole_register_eq (hole_register w Rv)) (live_holes w (is_live_after p) w.regs))
          (list_any (hole_register_eq (hole_register w Rv)) (live_holes w (is_live_after p) settable))
          (live_there w (is_live_after p) Rv settable refl l)
      go (Arg n) l k =
          or_right (list_any (hole_register_eq (hole_register w (Arg n))) (live_holes w (is_live_after p) w.regs))
          (list_any (hole_register_eq (hole_register w (Arg n))) (live_holes w (is_live_after p) settable))
          (live_there w (is_live_after p) (Arg n) settable (arg_settable n k.0) l)

  pub lives_alike : (q : PReg) → Stands w q → is_live_after p (put_register w q) ≡ is_live_in (pair_shape p) q
  lives_alike q h = go (is_live_after p (put_register w q)) (is_live_in (pair_shape p) q) refl refl
    where
      go : (b c : Bool) → is_live_after p (put_register w q) ≡ b → is_live_in (pair_shape p) q ≡ c
          → is_live_after p (put_register w q) ≡ is_live_in (pair_shape p) q
      go true c e i = e
          ∙ sym (ap (is_live_in (pair_shape p)) (sym (hole_back w (pair_proper p) q h)) ∙ live_in (put_register w q) e)
      go false true e i = let r = live_of q i in
          ap (is_live_after p) (ap (put_register w) r.3 ∙ register_back w r.0 (known_met w r.0 r.2)) ∙ r.1 ∙ sym i
      go false false e i = e ∙ sym i
