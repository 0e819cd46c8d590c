-- What a transfer of control leaves as it is, and where it may lead.
use Rattle.std.proofs.Common.{◌≡◌, ℕ, suc, Bool, true, false, List, [], ◌∷◌, refl, subst, arith}
use Rattle.std.specs.Prelude.{◌||◌, not, if◌then◌else◌, AllPairs, Option, Some, None, ⊤}
use Rattle.std.proofs.lemmas.Bool.{false≢true}
use Rattle.po_word.specs.declared.operator.Rel.{Rel}
use Rattle.po_word.specs.Words.{rel_value}
use Rattle.po_term.specs.declared.term.Reg.{Reg as Register}
use Rattle.po_term.specs.declared.term.Reg.TheVariants.{Virt, Fp, Rv, Arg}
use Rattle.po_term.specs.declared.term.Sym.{Sym}
use Rattle.po_term.specs.declared.term.Label.{Label}
use Rattle.po_term.specs.Terms.{Place, InReg, State, value}
use Rattle.po_term.specs.Moves.{Ending, GoTo, IfCc, IfTwo, CallOf, Return, SetTo, CcTo, StoreTo, Ends, PlainInstr}
use Rattle.po_term.specs.Simplified.{reg_eq}
use Rattle.po_term.specs.Form.{GoesBefore}
use Rattle.po_model.specs.declared.var.Var.{Var}
use Rattle.po_model.specs.declared.var.Var.TheVariants.{Reg, Cc}
use Rattle.po_model.specs.Blocks.{PlainBlock, block_with, target_by, goes_on}
use Rattle.po_model.specs.Parts.{code_leaves, right_at, cc_of, ending_of}
use Rattle.po_model.specs.Effect.{Control, Next, Jump, Called, Returned, branch, by_cc, arguments, goes}
use Rattle.po_model.specs.LiveAfter.{is_reg, is_cc, move_sets, sets}

-- what a transfer of control leaves as it is: a call sets rv and empties cc
abbrev pub passes : Control → Var → Bool
passes Next v = true
passes (Jump l) v = true
passes (Called f ws) v = not (is_reg Rv v || is_cc v)
passes (Returned w) v = true

-- behind a transfer of control an instruction has nothing
abbrev pub EndsOnce : PlainInstr → Type 0
EndsOnce [] = ⊤
EndsOnce (SetTo r t ∷ ms) = EndsOnce ms
EndsOnce (CcTo t u ∷ ms) = EndsOnce ms
EndsOnce (StoreTo t u ∷ ms) = EndsOnce ms
EndsOnce (Ends e ∷ ms) = ms ≡ []

-- transfers stand in the order of their kinds, and only of sets there is more than one
none_behind : (e : _) (ms : PlainInstr) → AllPairs GoesBefore (Ends e ∷ ms) → ms ≡ []
none_behind e [] h = refl
none_behind e (SetTo r t ∷ ms) h = absurd (omega (arith, (h 0 1 (Ends e) (omega arith) (omega arith)).in_order))
none_behind e (CcTo t u ∷ ms) h = absurd (omega (arith, (h 0 1 (Ends e) (omega arith) (omega arith)).in_order))
none_behind e (StoreTo t u ∷ ms) h = absurd (omega (arith, (h 0 1 (Ends e) (omega arith) (omega arith)).in_order))
none_behind e (Ends f ∷ ms) h = absurd (omega (arith, (h 0 1 (Ends e) (omega arith) (omega arith)).once refl))

pairs_later : (m : _) (ms : PlainInstr) → AllPairs GoesBefore (m ∷ ms) → AllPairs GoesBefore ms
pairs_later m ms h = λ i j d a b. h (suc i) (suc j) d (omega arith) (omega arith)

pub ends_once : (x : PlainInstr) → AllPairs GoesBefore x → EndsOnce x
ends_once [] h = tt
ends_once (SetTo r t ∷ ms) h = ends_once ms (pairs_later (SetTo r t) ms h)
ends_once (CcTo t u ∷ ms) h = ends_once ms (pairs_later (CcTo t u) ms h)
ends_once (StoreTo t u ∷ ms) h = ends_once ms (pairs_later (StoreTo t u) ms h)
ends_once (Ends e ∷ ms) h = none_behind e ms h

pub reg_swap : (q r : Register) → reg_eq q r ≡ reg_eq r q
reg_swap (Virt m) (Virt n) = grind arith
reg_swap Fp Fp = refl
reg_swap Rv Rv = refl
reg_swap (Arg m) (Arg n) = grind arith
reg_swap q r = refl

neither : (a b : Bool) → a ≡ false → b ≡ false → (a || b) ≡ false
neither a b e f = rw (e, f) refl

not_either : (a b : Bool) → not (a || b) ≡ true → (a || b) ≡ false
not_either true b e = absurd (false≢true e)
not_either false true e = absurd (false≢true e)
not_either false false e = refl

-- a transfer of control sets nothing that passes it
ending_sets : (s : State) (e : Ending ℕ Place Sym) (c : Control) (v : Var) → goes s (Some e) ≡ Some c → passes c v
    ≡ true → move_sets (Ends e) v ≡ false
ending_sets s (GoTo l) c v g p = refl
ending_sets s (IfCc r l) c v g p = refl
ending_sets s (IfTwo t u r l) c v g p = refl
ending_sets s (CallOf f n) Next v g p = absurd (cc)
ending_sets s (CallOf f n) (Jump l) v g p = absurd (cc)
ending_sets s (CallOf f n) (Called h ws) v g p = not_either (is_reg Rv v) (is_cc v) p
ending_sets s (CallOf f n) (Returned w) v g p = absurd (cc)
ending_sets s Return c v g p = refl

ending_alone : (s : State) (e : Ending ℕ Place Sym) (ms : PlainInstr) (c : Control) (v : Var) → ms ≡ []
    → goes s (Some e) ≡ Some c → passes c v ≡ true → sets (Ends e ∷ ms) v ≡ false
ending_alone s e ms c v n g p = rw n (neither (move_sets (Ends e) v) false (ending_sets s e c v g p) refl)

-- what has no right side isn't set, but by a call
pub register_unset : (s : State) (c : Control) (r : Register) (x : PlainInstr) → EndsOnce x → goes s (ending_of x)
    ≡ Some c → passes c (Reg r) ≡ true → right_at code_leaves (InReg r) x ≡ None → sets x (Reg r) ≡ false
register_unset s c r [] n g p e = refl
register_unset s c r (SetTo q t ∷ ms) n g p e = go (reg_eq r q) (reg_swap q r) e (register_unset s c r ms n g p)
  where
    go : (b : Bool) → reg_eq q r ≡ b → (if b then Some t else right_at code_leaves (InReg r) ms) ≡ None
        → (right_at code_leaves (InReg r) ms ≡ None → sets ms (Reg r) ≡ false) → (reg_eq q r || sets ms (Reg r))
        ≡ false
    go true i k others = absurd (cc)
    go false i k others = neither (reg_eq q r) (sets ms (Reg r)) i (others k)
register_unset s c r (CcTo t u ∷ ms) n g p e = register_unset s c r ms n g p e
register_unset s c r (StoreTo t u ∷ ms) n g p e = register_unset s c r ms n g p e
register_unset s c r (Ends f ∷ ms) n g p e = ending_alone s f ms c (Reg r) n g p

pub cc_unset : (s : State) (c : Control) (x : PlainInstr) → EndsOnce x → goes s (ending_of x) ≡ Some c → passes c Cc
    ≡ true → cc_of x ≡ None → sets x Cc ≡ false
cc_unset s c [] n g p e = refl
cc_unset s c (SetTo q t ∷ ms) n g p e = cc_unset s c ms n g p e
cc_unset s c (CcTo t u ∷ ms) n g p e = absurd (cc)
cc_unset s c (StoreTo t u ∷ ms) n g p e = cc_unset s c ms n g p e
cc_unset s c (Ends f ∷ ms) n g p e = ending_alone s f ms c Cc n g p

-- where control may lead, by what a block ends with
module _ (code : List PlainBlock) where
  abbrev pub Comes : Option (Ending ℕ Place Sym) → Control → Type 0
  Comes e Next = goes_on e ≡ true
  Comes e (Jump l) = target_by code e ≡ block_with code l
  Comes e (Called f ws) = goes_on e ≡ true
  Comes e (Returned w) = ⊤

  -- a branch goes to its label or on
  branch_comes : (b : Bool) (e : Option (Ending ℕ Place Sym)) (l : Label) (c : Control) → branch b l ≡ c
      → goes_on e ≡ true → target_by code e ≡ block_with code l → Comes e c
  branch_comes true e l c i g t = subst (Comes e) i t
  branch_comes false e l c i g t = subst (Comes e) i g

  cc_comes : (o : Option (ℕ × ℕ)) (r : Rel) (l : Label) (c : Control) → by_cc o r l ≡ Some c → Comes (Some (IfCc r l))
      c
  cc_comes None r l c g = absurd (cc)
  cc_comes (Some p) r l c g = let i : branch (rel_value r p.0 p.1) l ≡ c = (cc) in branch_comes (rel_value r p.0 p.1)
      (Some (IfCc r l)) l c i refl refl

  -- control goes where the transfer that sent it may lead
  pub comes_of : (s : State) (e : Option (Ending ℕ Place Sym)) (c : Control) → goes s e ≡ Some c → Comes e c
  comes_of s None c g = let i : Next ≡ c = (cc) in subst (Comes None) i refl
  comes_of s (Some (GoTo l)) c g = let i : Jump l ≡ c = (cc) in subst (Comes (Some (GoTo l))) i refl
  comes_of s (Some (IfCc r l)) c g = cc_comes s.cc r l c g
  comes_of s (Some (IfTwo t u r l)) c g =
      let i : branch (rel_value r (value s t) (value s u)) l ≡ c = (cc) in
      branch_comes (rel_value r (value s t) (value s u)) (Some (IfTwo t u r l)) l c i refl refl
  comes_of s (Some (CallOf f n)) c g = let i : Called f (arguments s n 0) ≡ c = (cc) in
      subst (Comes (Some (CallOf f n))) i refl
  comes_of s (Some Return) c g = let i : Returned (s.place (InReg Rv)) ≡ c = (cc) in subst (Comes (Some Return)) i tt
