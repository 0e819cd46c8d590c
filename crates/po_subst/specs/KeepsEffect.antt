-- What is promised of the one list of transfers that two instructions A and B come to: it does what they do, it makes
-- nothing live, and it has the form of an instruction.
use Rattle.std.specs.Prelude.{ℕ, ◌<◌, ◌≤◌, ◌^◌, ◌≡◌, ◌≢◌, Bool, true, false, is_some, not, ◌||◌, ◌&&◌, List, [], ◌∷◌}
use Rattle.std.specs.Prelude.{◌++◌, All, AllPairs, Contains, ⊤}
use Rattle.po_term.specs.declared.term.Reg.{Reg as Register}
use Rattle.po_term.specs.declared.term.Reg.TheVariants.{Fp}
use Rattle.po_term.specs.declared.term.Sym.{Sym}
use Rattle.po_term.specs.declared.term.Label.{Label}
use Rattle.po_term.specs.Tree.{Tree, Const, Leaf, Read, Unary, Binary, EachConst, EachLeaf}
use Rattle.po_term.specs.Terms.{Place, InReg, AtSym, State, IsState}
use Rattle.po_term.specs.Moves.{Ending, GoTo, IfCc, IfTwo, CallOf, Return, SetTo, CcTo, StoreTo, Ends, PlainMove}
use Rattle.po_term.specs.Moves.{PlainInstr}
use Rattle.po_term.specs.Kinds.{words}
use Rattle.po_term.specs.Form.{IsRegister, IsPlace, IsLabel, GoesBefore, WellFormed}
use Rattle.po_model.specs.declared.var.Var.{Var}
use Rattle.po_model.specs.declared.var.Var.TheVariants.{Reg, Cc}
use Rattle.po_model.specs.Parts.{code_leaves, ending_of}
use Rattle.po_model.specs.Effect.{effect}
use Rattle.po_model.specs.LiveAfter.{reads, sets}
use Rattle.po_model.specs.Keeps.{SameEffect, effect_of_both}
use Rattle.po_model.specs.Joined.{Joint, NotJoined, NothingLeft, AsOne, joined}

-- P of the list that stands in the place of the two: of the empty one where nothing is left of them
abbrev pub OfList : Joint ℕ Place Register Sym → (PlainInstr → Type 0) → Type 0
OfList NotJoined P = ⊤
OfList NothingLeft P = P []
OfList (AsOne j) P = P j

-- in every state of words the list does what A and then B do, as far as it is seen with these registers live
abbrev pub JoiningKeepsEffect : Type 0
JoiningKeepsEffect =
    (live : Register → Bool) (cc_live : Bool) (a b : PlainInstr) → WellFormed a → WellFormed b
    → (s : State) → IsState s
    → OfList (joined words code_leaves live cc_live a b).got
    (λ j. SameEffect live cc_live a b (effect_of_both a b s) (effect j s))

-- whether v is live, where these registers are and cc is
abbrev pub lives : (Register → Bool) → Bool → Var → Bool
lives live cc_live (Reg r) = live r
lives live cc_live Cc = cc_live

-- what is live before an instruction, by what is live after it
abbrev pub live_before : PlainInstr → (Var → Bool) → Var → Bool
live_before x after v = reads x v || (not (sets x v) && after v)

-- what is live before the list was live before A and B
abbrev pub JoiningMakesNothingLive : Type 0
JoiningMakesNothingLive =
    (live : Register → Bool) (cc_live : Bool) (a b : PlainInstr) → WellFormed a → WellFormed b → (v : Var)
    → OfList (joined words code_leaves live cc_live a b).got
    (λ j. live_before j (lives live cc_live) v ≡ true → live_before a (live_before b (lives live cc_live)) v ≡ true)

-- the labels of an instruction
abbrev pub ending_labels : Ending ℕ Place Sym → List Label
ending_labels (GoTo l) = l ∷ []
ending_labels (IfCc r l) = l ∷ []
ending_labels (IfTwo t u r l) = l ∷ []
ending_labels (CallOf s n) = []
ending_labels Return = []

abbrev pub labels_in : PlainInstr → List Label
labels_in [] = []
labels_in (Ends e ∷ ms) = ending_labels e ++ labels_in ms
labels_in (m ∷ ms) = labels_in ms

-- the symbols of a term
abbrev pub term_syms : Tree ℕ Place → List Sym
term_syms (Const c) = []
term_syms (Leaf (InReg r)) = []
term_syms (Leaf (AtSym s)) = s ∷ []
term_syms (Read x) = term_syms x
term_syms (Unary o x) = term_syms x
term_syms (Binary o x y) = term_syms x ++ term_syms y

abbrev pub ending_syms : Ending ℕ Place Sym → List Sym
ending_syms (GoTo l) = []
ending_syms (IfCc r l) = []
ending_syms (IfTwo t u r l) = term_syms t ++ term_syms u
ending_syms (CallOf s n) = s ∷ []
ending_syms Return = []

-- the symbols of an instruction, those of its terms and one that is called
abbrev pub syms_in : PlainInstr → List Sym
syms_in [] = []
syms_in (SetTo r t ∷ ms) = term_syms t ++ syms_in ms
syms_in (CcTo t u ∷ ms) = (term_syms t ++ term_syms u) ++ syms_in ms
syms_in (StoreTo t u ∷ ms) = (term_syms t ++ term_syms u) ++ syms_in ms
syms_in (Ends e ∷ ms) = ending_syms e ++ syms_in ms

-- its constants, registers and symbols are in their ranges
pub record TermInRange (t : Tree ℕ Place) : Type 0 where
  pub words : EachConst (λ c. c < 2 ^ 32) t
  pub places : EachLeaf IsPlace t

abbrev pub EndingInRange : Ending ℕ Place Sym → Type 0
EndingInRange (GoTo l) = IsLabel l
EndingInRange (IfCc r l) = IsLabel l
EndingInRange (IfTwo t u r l) = TermInRange t × TermInRange u × IsLabel l
EndingInRange (CallOf s n) = (s.0 < 2 ^ 32) × (n ≤ 4)
EndingInRange Return = ⊤

-- what a well-formed transfer is but for the sizes of its terms: it doesn't set fp, and what it names is in its range
abbrev pub MoveInRange : PlainMove → Type 0
MoveInRange (SetTo r t) = IsRegister r × (r ≢ Fp) × TermInRange t
MoveInRange (CcTo t u) = TermInRange t × TermInRange u
MoveInRange (StoreTo t u) = TermInRange t × TermInRange u
MoveInRange (Ends e) = EndingInRange e

-- the form of the list j in the place of A and B
pub record HasForm (a b j : PlainInstr) : Type 0 where
  -- sets, cc, store and control in this order, at most one of each but sets, and no register set twice
  pub pairs : AllPairs GoesBefore j
  -- each transfer is well formed but for the sizes of its terms
  pub each : All MoveInRange j
  -- its labels and its symbols are among those of A and B
  pub labels : All (Contains (labels_in a ++ labels_in b)) (labels_in j)
  pub symbols : All (Contains (syms_in a ++ syms_in b)) (syms_in j)
  -- it has a transfer of control only where B has one
  pub control : is_some (ending_of b) ≡ false → is_some (ending_of j) ≡ false
  -- what it sets, A or B sets
  pub targets : (v : Var) → sets j v ≡ true → (sets a v || sets b v) ≡ true

-- the list has the form of an instruction, whose sizes only a machine limits
abbrev pub JoiningKeepsForm : Type 0
JoiningKeepsForm =
    (live : Register → Bool) (cc_live : Bool) (a b : PlainInstr) → WellFormed a → WellFormed b
    → OfList (joined words code_leaves live cc_live a b).got (λ j. HasForm a b j)
