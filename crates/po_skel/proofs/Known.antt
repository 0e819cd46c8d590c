-- What the walk of a pair has met has a hole, and stands at it.
use Rattle.std.proofs.Common.{◌≡◌, ℕ, ◌+◌, ◌<◌, ◌≤◌, Bool, true, false, List, [], ◌∷◌, ◌++◌, length, get_or}
use Rattle.std.proofs.Common.{refl, sym, ◌∙◌, ap, arith, eq-eqb}
use Rattle.std.specs.Prelude.{if◌then◌else◌, ◌||◌, not, cond}
use Rattle.std.specs.List.{list_any, position_or_len}
use Rattle.std.proofs.lemmas.Bool.{eqb-true}
use Rattle.std.proofs.lemmas.List.Folds.{list_any-append}
use Rattle.std.proofs.lemmas.List.Sums.{passes_at_first}
use Rattle.po_term.specs.declared.term.Reg.{Reg as Register}
use Rattle.po_term.specs.declared.term.Reg.TheVariants.{Virt, Fp, Rv, Arg}
use Rattle.po_term.specs.declared.term.Sym.{Sym}
use Rattle.po_term.specs.Form.{IsRegister, IsFixed}
use Rattle.po_term.specs.Simplified.{reg_eq}
use Rattle.po_model.specs.declared.hole.PReg.{PReg}
use Rattle.po_model.specs.declared.hole.PReg.TheVariants.{Hole, Fixed}
use Rattle.po_model.specs.Holed.{HolePlace, InPReg, AtSymHole, PlainValues}
use Rattle.po_model.specs.Shape.{meet_register, meet_symbol, hole_register, hole_symbol}
use Rattle.po_model.specs.Put.{put_register, put_symbol}
use Rattle.po_model.specs.Parts.{sym_eq}
use Rattle.po_skel.proofs.Meeting.{Longer}

-- Tests of registers and symbols

pub one_register : (r q : Register) → reg_eq r q ≡ true → r ≡ q
one_register (Virt m) (Virt n) e = ap Virt (eqb-true m n e)
one_register Fp Fp e = refl
one_register Rv Rv e = refl
one_register (Arg m) (Arg n) e = ap Arg (eqb-true m n e)
one_register r q e = cc

pub register_itself : (r : Register) → reg_eq r r ≡ true
register_itself (Virt n) = eq-eqb n n refl
register_itself Fp = refl
register_itself Rv = refl
register_itself (Arg n) = eq-eqb n n refl

pub one_symbol : (s t : Sym) → sym_eq s t ≡ true → s ≡ t
one_symbol s t e = let f : s.0 ≡ t.0 = eqb-true s.0 t.0 e in ap (λ n. let x : Sym = record { 0 = n } in x) f

pub symbol_itself : (s : Sym) → sym_eq s s ≡ true
symbol_itself s = eq-eqb s.0 s.0 refl

-- What a test finds in a list

pub place_below : {X : Type 0} (p : X → Bool) (xs : List X) → list_any p xs ≡ true
    → position_or_len p xs < length xs
place_below p [] e = cc
place_below p (x ∷ xs) e = go (p x) (place_below p xs) e
  where
    go : (b : Bool) → (list_any p xs ≡ true → position_or_len p xs < length xs) → (b || list_any p xs) ≡ true
        → cond (not b) (1 + position_or_len p xs) 0 < length (x ∷ xs)
    go true ih h = omega arith
    go false ih h = let k = ih h in omega arith

pub found_at : {X : Type 0} (p : X → Bool) (xs : List X) (d : X) → list_any p xs ≡ true
    → p (get_or xs (position_or_len p xs) d) ≡ true
found_at p xs d e = passes_at_first p xs d (place_below p xs e)

last_passes : {X : Type 0} (p : X → Bool) (xs : List X) (x : X) → p x ≡ true → list_any p (xs ++ x ∷ []) ≡ true
last_passes p [] x e = rw e refl
last_passes p (y ∷ xs) x e = go (p y) (last_passes p xs x e)
  where
    go : (b : Bool) → list_any p (xs ++ x ∷ []) ≡ true → (b || list_any p (xs ++ x ∷ [])) ≡ true
    go true h = refl
    go false h = h

still_passes : {X : Type 0} (p : X → Bool) (xs ys : List X) → list_any p xs ≡ true → list_any p (xs ++ ys) ≡ true
still_passes p xs ys e = list_any-append p xs ys ∙ ap (λ b. b || list_any p ys) e

-- What was met

-- a virtual register that was met, or another register
abbrev pub IsMet : PlainValues → Register → Type 0
IsMet v (Virt n) = list_any (reg_eq (Virt n)) v.regs ≡ true
IsMet v Fp = Unit {0}
IsMet v Rv = Unit {0}
IsMet v (Arg n) = Unit {0}

-- the same, where an argument has a number in its range
abbrev pub IsKnown : PlainValues → Register → Type 0
IsKnown v (Virt n) = list_any (reg_eq (Virt n)) v.regs ≡ true
IsKnown v Fp = Unit {0}
IsKnown v Rv = Unit {0}
IsKnown v (Arg n) = n ≤ 3

abbrev pub IsSymMet : PlainValues → Sym → Type 0
IsSymMet v s = list_any (sym_eq s) v.syms ≡ true

pub known_met : (v : PlainValues) (r : Register) → IsKnown v r → IsMet v r
known_met v (Virt n) h = h
known_met v Fp h = tt
known_met v Rv h = tt
known_met v (Arg n) h = tt

pub met_known : (v : PlainValues) (r : Register) → IsRegister r → IsMet v r → IsKnown v r
met_known v (Virt n) h m = m
met_known v Fp h m = tt
met_known v Rv h m = tt
met_known v (Arg n) h m = h

just_met : (w : PlainValues) (n : ℕ) → list_any (reg_eq (Virt n)) (meet_register w (Virt n)).regs ≡ true
just_met w n = go (list_any (reg_eq (Virt n)) w.regs) refl
  where
    go : (b : Bool) → list_any (reg_eq (Virt n)) w.regs ≡ b
        → list_any (reg_eq (Virt n)) (if b then w else record w { regs = w.regs ++ Virt n ∷ [] }).regs ≡ true
    go true e = e
    go false e = last_passes (reg_eq (Virt n)) w.regs (Virt n) (register_itself (Virt n))

symbol_just_met : (w : PlainValues) (s : Sym) → list_any (sym_eq s) (meet_symbol w s).syms ≡ true
symbol_just_met w s = go (list_any (sym_eq s) w.syms) refl
  where
    go : (b : Bool) → list_any (sym_eq s) w.syms ≡ b
        → list_any (sym_eq s) (if b then w else record w { syms = w.syms ++ s ∷ [] }).syms ≡ true
    go true e = e
    go false e = last_passes (sym_eq s) w.syms s (symbol_itself s)

pub register_met : (w v : PlainValues) (r : Register) → Longer (meet_register w r) v → IsMet v r
register_met w v (Virt n) h =
    ap (list_any (reg_eq (Virt n))) h.more_regs
    ∙ still_passes (reg_eq (Virt n)) (meet_register w (Virt n)).regs h.regs (just_met w n)
register_met w v Fp h = tt
register_met w v Rv h = tt
register_met w v (Arg n) h = tt

pub symbol_met : (w v : PlainValues) (s : Sym) → Longer (meet_symbol w s) v → IsSymMet v s
symbol_met w v s h =
    ap (list_any (sym_eq s)) h.more_syms
    ∙ still_passes (sym_eq s) (meet_symbol w s).syms h.syms (symbol_just_met w s)

-- What was met is put back

abbrev pub no_sym : Sym
no_sym = record { 0 = 0 }

pub register_back : (v : PlainValues) (r : Register) → IsMet v r → put_register v (hole_register v r) ≡ r
register_back v (Virt n) h = sym (one_register (Virt n) _ (found_at (reg_eq (Virt n)) v.regs Fp h))
register_back v Fp h = refl
register_back v Rv h = refl
register_back v (Arg n) h = refl

pub symbol_back : (v : PlainValues) (s : Sym) → IsSymMet v s → put_symbol v (hole_symbol v s) ≡ s
symbol_back v s h = sym (one_symbol s _ (found_at (sym_eq s) v.syms no_sym h))

-- What was met has a hole

-- a register of a rule that has a register here
abbrev pub Stands : PlainValues → PReg → Type 0
Stands v (Hole k) = k < length v.regs
Stands v (Fixed r) = IsFixed r

abbrev pub StandsAt : PlainValues → HolePlace → Type 0
StandsAt v (InPReg r) = Stands v r
StandsAt v (AtSymHole k) = k < length v.syms

pub register_stands : (v : PlainValues) (r : Register) → IsKnown v r → Stands v (hole_register v r)
register_stands v (Virt n) h = place_below (reg_eq (Virt n)) v.regs h
register_stands v Fp h = tt
register_stands v Rv h = tt
register_stands v (Arg n) h = h

pub symbol_stands : (v : PlainValues) (s : Sym) → IsSymMet v s → hole_symbol v s < length v.syms
symbol_stands v s h = place_below (sym_eq s) v.syms h
