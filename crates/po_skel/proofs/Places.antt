-- Where something stands in a list.
use Rattle.std.proofs.Common.{◌≡◌, ℕ, ◌+◌, ◌<◌, Bool, true, false, List, [], ◌∷◌, ◌++◌, length, ◌≤◌}
use Rattle.std.proofs.Common.{refl, ◌∙◌, arith}
use Rattle.std.specs.Prelude.{Some, None, cond, not, ltb, ◌||◌}
use Rattle.std.specs.List.{list_any, position_or_len, position_from}
use Rattle.std.proofs.lemmas.List.Sums.{prefix_len-le-length}
use Rattle.std.proofs.lemmas.Iterator.Adapters.{position_from-zero}
use Rattle.std.proofs.lemmas.Bool.{ltb-true, ltb-false}
use Rattle.po_term.specs.declared.term.Reg.TheVariants.{Virt}
use Rattle.po_term.specs.declared.term.Sym.{Sym}
use Rattle.po_term.specs.Simplified.{reg_eq}
use Rattle.po_model.specs.Holed.{PlainValues}
use Rattle.po_model.specs.Shape.{meet_register, meet_symbol}
use Rattle.po_model.specs.Parts.{sym_eq}
use Rattle.po_skel.proofs.Known.{register_itself, symbol_itself}

some_is : (b : Bool) (n k : ℕ) → cond b (Some n) None ≡ Some k → k ≡ n
some_is true n k e = cc
some_is false n k e = cc

none_is : (b : Bool) (n : ℕ) → cond b (Some n) None ≡ None → b ≡ false
none_is true n e = cc
none_is false n e = refl

some_passes : (b : Bool) (n k : ℕ) → cond b (Some n) None ≡ Some k → b ≡ true
some_passes true n k e = refl
some_passes false n k e = cc

pub place_found : {X : Type 0} (p : X → Bool) (xs : List X) (k : ℕ) → position_from p 0 xs ≡ Some k
    → (k ≡ position_or_len p xs) × (position_or_len p xs ≤ length xs)
place_found p xs k e = (
  some_is (ltb (position_or_len p xs) (length xs)) (position_or_len p xs) k (position_from-zero p xs ∙ e),
  prefix_len-le-length (λ x. not (p x)) xs,
)

pub place_missing : {X : Type 0} (p : X → Bool) (xs : List X) → position_from p 0 xs ≡ None
    → length xs ≡ position_or_len p xs
place_missing p xs e =
    let above =
    ltb-false (position_or_len p xs) (length xs)
    (none_is (ltb (position_or_len p xs) (length xs)) (position_or_len p xs) (position_from-zero p xs ∙ e)) in
    let below = prefix_len-le-length (λ x. not (p x)) xs in
    omega arith

-- whether something is there

any_below : {X : Type 0} (p : X → Bool) (xs : List X) → position_or_len p xs < length xs → list_any p xs ≡ true
any_below p [] h = absurd (omega arith)
any_below p (x ∷ xs) h = go (p x) (any_below p xs) h
  where
    go : (b : Bool) → (position_or_len p xs < length xs → list_any p xs ≡ true)
        → cond (not b) (1 + position_or_len p xs) 0 < length (x ∷ xs) → (b || list_any p xs) ≡ true
    go true ih k = refl
    go false ih k = ih (omega arith)

none_passes : {X : Type 0} (p : X → Bool) (xs : List X) → length xs ≡ position_or_len p xs → list_any p xs ≡ false
none_passes p [] h = refl
none_passes p (x ∷ xs) h = go (p x) (none_passes p xs) h
  where
    go : (b : Bool) → (length xs ≡ position_or_len p xs → list_any p xs ≡ false)
        → length (x ∷ xs) ≡ cond (not b) (1 + position_or_len p xs) 0 → (b || list_any p xs) ≡ false
    go true ih k = absurd (omega arith)
    go false ih k = ih (omega arith)

pub any_found : {X : Type 0} (p : X → Bool) (xs : List X) (k : ℕ) → position_from p 0 xs ≡ Some k
    → list_any p xs ≡ true
any_found p xs k e =
    let passes = some_passes (ltb (position_or_len p xs) (length xs)) (position_or_len p xs) k
    (position_from-zero p xs ∙ e) in
    any_below p xs (ltb-true (position_or_len p xs) (length xs) passes)

pub any_missing : {X : Type 0} (p : X → Bool) (xs : List X) → position_from p 0 xs ≡ None → list_any p xs ≡ false
any_missing p xs e = none_passes p xs (place_missing p xs e)

-- the place of what is added
place_added : {X : Type 0} (p : X → Bool) (xs : List X) (y : X) → p y ≡ true → length xs ≡ position_or_len p xs
    → length xs ≡ position_or_len p (xs ++ y ∷ [])
place_added p [] y e h = rw e refl
place_added p (x ∷ xs) y e h = go (p x) (place_added p xs y e) h
  where
    go : (b : Bool) → (length xs ≡ position_or_len p xs → length xs ≡ position_or_len p (xs ++ y ∷ []))
        → length (x ∷ xs) ≡ cond (not b) (1 + position_or_len p xs) 0
        → length (x ∷ xs) ≡ cond (not b) (1 + position_or_len p (xs ++ y ∷ [])) 0
    go true ih k = absurd (omega arith)
    go false ih k = let same = ih (omega arith) in omega arith

-- What is met, and its place

pub register_found : (v : PlainValues) (n k : ℕ) → position_from (reg_eq (Virt n)) 0 v.regs ≡ Some k
    → (v ≡ meet_register v (Virt n)) × (k ≡ position_or_len (reg_eq (Virt n)) (meet_register v (Virt n)).regs)
register_found v n k e =
    let met = any_found (reg_eq (Virt n)) v.regs k e in
    (rw met refl, rw met ((place_found (reg_eq (Virt n)) v.regs k e).0))

pub register_added : (v : PlainValues) (n : ℕ) → position_from (reg_eq (Virt n)) 0 v.regs ≡ None
    → (record v { regs = v.regs ++ Virt n ∷ [] } ≡ meet_register v (Virt n))
    × (length v.regs ≡ position_or_len (reg_eq (Virt n)) (meet_register v (Virt n)).regs)
register_added v n e =
    let met = any_missing (reg_eq (Virt n)) v.regs e in
    let place = place_added (reg_eq (Virt n)) v.regs (Virt n) (register_itself (Virt n))
    (place_missing (reg_eq (Virt n)) v.regs e) in
    (rw met refl, rw met place)

pub symbol_found : (v : PlainValues) (s : Sym) (k : ℕ) → position_from (sym_eq s) 0 v.syms ≡ Some k
    → (v ≡ meet_symbol v s) × (k ≡ position_or_len (sym_eq s) (meet_symbol v s).syms)
symbol_found v s k e =
    let met = any_found (sym_eq s) v.syms k e in
    (rw met refl, rw met ((place_found (sym_eq s) v.syms k e).0))

pub symbol_added : (v : PlainValues) (s : Sym) → position_from (sym_eq s) 0 v.syms ≡ None
    → (record v { syms = v.syms ++ s ∷ [] } ≡ meet_symbol v s)
    × (length v.syms ≡ position_or_len (sym_eq s) (meet_symbol v s).syms)
symbol_added v s e =
    let met = any_missing (sym_eq s) v.syms e in
    let place = place_added (sym_eq s) v.syms s (symbol_itself s) (place_missing (sym_eq s) v.syms e) in
    (rw met refl, rw met place)
