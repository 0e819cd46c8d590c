-- Labels and symbols that have their names: a fact of an instruction's moves is one of the labels and symbols in it.
use Rattle.std.proofs.Common.{ℕ, ◌<◌, [], ◌∷◌, ◌++◌}
use Rattle.std.specs.Prelude.{All, Contains}
use Rattle.std.proofs.lemmas.List.Elements.{All-nil, All-cons, All-head, All-tail, All-append, All-weaker}
use Rattle.std.proofs.lemmas.List.Elements.{All-contains}
use Rattle.po_term.specs.declared.term.Sym.{Sym}
use Rattle.po_term.specs.declared.term.Label.{Label}
use Rattle.po_term.specs.Tree.{Tree, Const, Leaf, Read, Unary, Binary, EachLeaf}
use Rattle.po_term.specs.Terms.{Place, InReg, AtSym}
use Rattle.po_term.specs.Moves.{Ending, GoTo, IfCc, IfTwo, CallOf, Return, SetTo, CcTo, StoreTo, Ends, PlainMove}
use Rattle.po_term.specs.Moves.{PlainInstr}
use Rattle.po_model.specs.UnitCodes.{HasSym, NamedEnding, NamedMove}
use Rattle.po_subst.specs.KeepsEffect.{ending_labels, labels_in, term_syms, ending_syms, syms_in}
use Rattle.po_slow.proofs.Onto.{all_split}

module _ (labels syms : ℕ) where
  abbrev pub IsNamedLabel : Label → Type 0
  IsNamedLabel l = l.0 < labels

  abbrev pub IsNamedSym : Sym → Type 0
  IsNamedSym s = s.0 < syms

  term_named : (t : Tree ℕ Place) → EachLeaf (HasSym syms) t → All IsNamedSym (term_syms t)
  term_named (Const c) h = All-nil IsNamedSym
  term_named (Leaf (InReg r)) h = All-nil IsNamedSym
  term_named (Leaf (AtSym s)) h = All-cons IsNamedSym s [] h (All-nil IsNamedSym)
  term_named (Read x) h = term_named x h
  term_named (Unary o x) h = term_named x h
  term_named (Binary o x y) h = All-append IsNamedSym (term_syms x) (term_syms y) (term_named x h.0) (term_named y h.1)

  named_term : (t : Tree ℕ Place) → All IsNamedSym (term_syms t) → EachLeaf (HasSym syms) t
  named_term (Const c) h = tt
  named_term (Leaf (InReg r)) h = tt
  named_term (Leaf (AtSym s)) h = All-head IsNamedSym s [] h
  named_term (Read x) h = named_term x h
  named_term (Unary o x) h = named_term x h
  named_term (Binary o x y) h =
      let two = all_split IsNamedSym (term_syms x) (term_syms y) h in (named_term x two.0, named_term y two.1)

  two_named : (t u : Tree ℕ Place) → EachLeaf (HasSym syms) t → EachLeaf (HasSym syms) u
      → All IsNamedSym (term_syms t ++ term_syms u)
  two_named t u h i = All-append IsNamedSym (term_syms t) (term_syms u) (term_named t h) (term_named u i)

  named_two : (t u : Tree ℕ Place) → All IsNamedSym (term_syms t ++ term_syms u)
      → EachLeaf (HasSym syms) t × EachLeaf (HasSym syms) u
  named_two t u h =
      let two = all_split IsNamedSym (term_syms t) (term_syms u) h in (named_term t two.0, named_term u two.1)

  one_label : (l : Label) → l.0 < labels → All IsNamedLabel (l ∷ [])
  one_label l h = All-cons IsNamedLabel l [] h (All-nil IsNamedLabel)

  ending_named : (e : Ending ℕ Place Sym) → NamedEnding labels syms e
      → All IsNamedLabel (ending_labels e) × All IsNamedSym (ending_syms e)
  ending_named (GoTo l) h = (one_label l h, All-nil IsNamedSym)
  ending_named (IfCc r l) h = (one_label l h, All-nil IsNamedSym)
  ending_named (IfTwo t u r l) h = (one_label l h.2, two_named t u h.0 h.1)
  ending_named (CallOf s n) h = (All-nil IsNamedLabel, All-cons IsNamedSym s [] h (All-nil IsNamedSym))
  ending_named Return h = (All-nil IsNamedLabel, All-nil IsNamedSym)

  named_ending : (e : Ending ℕ Place Sym) → All IsNamedLabel (ending_labels e) → All IsNamedSym (ending_syms e)
      → NamedEnding labels syms e
  named_ending (GoTo l) h i = All-head IsNamedLabel l [] h
  named_ending (IfCc r l) h i = All-head IsNamedLabel l [] h
  named_ending (IfTwo t u r l) h i = let two = named_two t u i in (two.0, two.1, All-head IsNamedLabel l [] h)
  named_ending (CallOf s n) h i = All-head IsNamedSym s [] i
  named_ending Return h i = tt

  abbrev MoveNamed : PlainMove → Type 0
  MoveNamed m = NamedMove labels syms m

  pub instr_named : (ms : PlainInstr) → All (NamedMove labels syms) ms
      → All IsNamedLabel (labels_in ms) × All IsNamedSym (syms_in ms)
  instr_named [] h = (All-nil IsNamedLabel, All-nil IsNamedSym)
  instr_named (SetTo r t ∷ ms) h =
      let ih = instr_named ms (All-tail MoveNamed (SetTo r t) ms h) in (
        ih.0,
        All-append IsNamedSym (term_syms t) (syms_in ms) (term_named t (All-head MoveNamed (SetTo r t) ms h)) ih.1,
      )
  instr_named (CcTo t u ∷ ms) h =
      let ih = instr_named ms (All-tail MoveNamed (CcTo t u) ms h) in
      let two = All-head MoveNamed (CcTo t u) ms h in
      (ih.0, All-append IsNamedSym (term_syms t ++ term_syms u) (syms_in ms) (two_named t u two.0 two.1) ih.1)
  instr_named (StoreTo t u ∷ ms) h =
      let ih = instr_named ms (All-tail MoveNamed (StoreTo t u) ms h) in
      let two = All-head MoveNamed (StoreTo t u) ms h in
      (ih.0, All-append IsNamedSym (term_syms t ++ term_syms u) (syms_in ms) (two_named t u two.0 two.1) ih.1)
  instr_named (Ends e ∷ ms) h =
      let ih = instr_named ms (All-tail MoveNamed (Ends e) ms h) in
      let two = ending_named e (All-head MoveNamed (Ends e) ms h) in (
        All-append IsNamedLabel (ending_labels e) (labels_in ms) two.0 ih.0,
        All-append IsNamedSym (ending_syms e) (syms_in ms) two.1 ih.1,
      )

  pub named_instr : (ms : PlainInstr) → All IsNamedLabel (labels_in ms) → All IsNamedSym (syms_in ms)
      → All (NamedMove labels syms) ms
  named_instr [] h i = All-nil MoveNamed
  named_instr (SetTo r t ∷ ms) h i =
      let parts = all_split IsNamedSym (term_syms t) (syms_in ms) i in
      All-cons MoveNamed (SetTo r t) ms (named_term t parts.0) (named_instr ms h parts.1)
  named_instr (CcTo t u ∷ ms) h i =
      let parts = all_split IsNamedSym (term_syms t ++ term_syms u) (syms_in ms) i in
      All-cons MoveNamed (CcTo t u) ms (named_two t u parts.0) (named_instr ms h parts.1)
  named_instr (StoreTo t u ∷ ms) h i =
      let parts = all_split IsNamedSym (term_syms t ++ term_syms u) (syms_in ms) i in
      All-cons MoveNamed (StoreTo t u) ms (named_two t u parts.0) (named_instr ms h parts.1)
  named_instr (Ends e ∷ ms) h i =
      let front = all_split IsNamedLabel (ending_labels e) (labels_in ms) h in
      let parts = all_split IsNamedSym (ending_syms e) (syms_in ms) i in
      All-cons MoveNamed (Ends e) ms (named_ending e front.0 parts.0) (named_instr ms front.1 parts.1)

  -- an instruction whose labels and symbols are among those of two that have their names
  pub named_of_two : (a b y : PlainInstr) → All (NamedMove labels syms) a → All (NamedMove labels syms) b
      → All (Contains (labels_in a ++ labels_in b)) (labels_in y) → All (Contains (syms_in a ++ syms_in b)) (syms_in y)
      → All (NamedMove labels syms) y
  named_of_two a b y h i ls ss =
      let first = instr_named a h in
      let second = instr_named b i in
      let all_labels = All-append IsNamedLabel (labels_in a) (labels_in b) first.0 second.0 in
      let all_syms = All-append IsNamedSym (syms_in a) (syms_in b) first.1 second.1 in
      named_instr y
      (All-weaker (Contains (labels_in a ++ labels_in b)) IsNamedLabel
      (λ l c. All-contains IsNamedLabel (labels_in a ++ labels_in b) l all_labels c) (labels_in y) ls)
      (All-weaker (Contains (syms_in a ++ syms_in b)) IsNamedSym
      (λ s c. All-contains IsNamedSym (syms_in a ++ syms_in b) s all_syms c) (syms_in y) ss)
