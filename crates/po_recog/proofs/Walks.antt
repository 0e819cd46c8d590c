-- A walk through two parts, one after the other, takes what is found in both.
use Rattle.std.proofs.Common.{◌≡◌, ℕ, Bool, true, false, List, [], ◌∷◌, ◌++◌, Option, Some, None, refl, ap, ◌∙◌, sym}
use Rattle.po_term.specs.declared.term.Reg.{Reg as Register}
use Rattle.po_term.specs.declared.term.Sym.{Sym as Symbol}
use Rattle.po_word.specs.declared.operator.Bin.{Bin}
use Rattle.po_term.specs.Tree.{Tree, Binary}
use Rattle.po_term.specs.Terms.{Place}
use denote.Hole.Carrier.{roll}
use Rattle.po_model.specs.declared.machine.PatTerm.{PatTerm, roll-PatTerm}
use Rattle.po_model.specs.declared.machine.PatTerm.TheVariants as pattern
use Rattle.po_model.specs.declared.machine.PatTerm.TheOpen.{PatTerm-F}
use Rattle.po_model.specs.declared.machine.PatTerm.TheFolds.{fold-roll-PatTerm}
use Rattle.po_model.specs.Patterns.{PatTree, layer_of, pattern_of}
use Rattle.po_model.specs.Operators.{bin_eq}
use Rattle.po_model.specs.Fit.{Found, both, tree_found}
use Rattle.po_recog.specs.Taken.{Slots, and_on, taken_one, taken, taken_if, outcome}
use Rattle.po_model.specs.Parts.{code_leaves}

abbrev Finds : Type 0
Finds = List (Found ℕ Register Symbol)

and_on-assoc : (o : Option Slots) (f g : Slots → Option Slots)
    → and_on (and_on o f) g ≡ and_on o (λ ss. and_on (f ss) g)
and_on-assoc None f g = refl
and_on-assoc (Some ss) f g = refl

and_on-same : (o : Option Slots) (f g : Slots → Option Slots) → ((ss : Slots) → f ss ≡ g ss) → and_on o f ≡ and_on o g
and_on-same None f g h = refl
and_on-same (Some ss) f g h = h ss

pub taken-append : (fs gs : Finds) (ss : Slots) → taken (fs ++ gs) ss ≡ and_on (taken fs ss) (taken gs)
taken-append [] gs ss = refl
taken-append (f ∷ fs) gs ss =
    and_on-same (taken_one f ss) (taken (fs ++ gs)) (λ us. and_on (taken fs us) (taken gs)) (taken-append fs gs)
    ∙ sym (and_on-assoc (taken_one f ss) (taken fs) (taken gs))

pub taken-none : (o : Option Slots) → and_on o (λ ss. None) ≡ None
taken-none None = refl
taken-none (Some ss) = refl

pub taken-both : (x y : Option Finds) (ss : Slots) → taken_if (both x y) ss ≡ and_on (taken_if x ss) (taken_if y)
taken-both None y ss = refl
taken-both (Some fs) None ss = sym (taken-none (taken fs ss))
taken-both (Some fs) (Some gs) ss = taken-append fs gs ss

-- one thing
pub taken-single : (f : Found ℕ Register Symbol) (ss : Slots) → taken (f ∷ []) ss ≡ taken_one f ss
taken-single f ss = whole (taken_one f ss)
  where
    whole : (o : Option Slots) → and_on o (taken []) ≡ o
    whole None = refl
    whole (Some us) = refl

-- the first walk's answer and then the second's
pub walked : (a b : Bool) (x y : Option Finds) (ss us vs : Slots) → outcome a us ≡ taken_if x ss
    → outcome b vs ≡ taken_if y us → a ≡ true → outcome b vs ≡ taken_if (both x y) ss
walked a b x y ss us vs h i e =
    i ∙ ap (λ o. and_on o (taken_if y)) (sym (ap (λ c. outcome c us) e) ∙ h) ∙ sym (taken-both x y ss)

pub stopped : (a : Bool) (x y : Option Finds) (ss us : Slots) → outcome a us ≡ taken_if x ss → a ≡ false
    → None ≡ taken_if (both x y) ss
stopped a x y ss us h e =
    ap (λ o. and_on o (taken_if y)) (sym (ap (λ c. outcome c us) e) ∙ h) ∙ sym (taken-both x y ss)

pattern_binary : (o : Bin) (p v : PatTerm) → pattern_of (pattern.Bin o p v) ≡ Binary o (pattern_of p) (pattern_of v)
unfolding roll-PatTerm roll
pattern_binary o p v = fold-roll-PatTerm PatTree layer_of (PatTerm-F.Bin o p v)

-- two operands behind one operator
pub binary_walked : (o q : Bin) (same a b : Bool) (p v : PatTerm) (t u : Tree ℕ Place) (ss us vs : Slots)
    → same ≡ bin_eq o q → same ≡ true → outcome a us ≡ taken_if (tree_found code_leaves (pattern_of p) t) ss
    → outcome b vs ≡ taken_if (tree_found code_leaves (pattern_of v) u) us → a ≡ true
    → outcome b vs ≡ taken_if (tree_found code_leaves (pattern_of (pattern.Bin o p v)) (Binary q t u)) ss
binary_walked o q same a b p v t u ss us vs s e h i f =
    let one : bin_eq o q ≡ true = sym s ∙ e in
    let both_walked : outcome b vs
    ≡ taken_if (tree_found code_leaves (Binary o (pattern_of p) (pattern_of v)) (Binary q t u)) ss =
    rw one (walked a b (tree_found code_leaves (pattern_of p) t) (tree_found code_leaves (pattern_of v) u) ss us vs h
    i f) in
    both_walked
    ∙ ap (λ (x : PatTree). taken_if (tree_found code_leaves x (Binary q t u)) ss) (sym (pattern_binary o p v))

pub binary_stopped : (o q : Bin) (same a : Bool) (p v : PatTerm) (t u : Tree ℕ Place) (ss us : Slots)
    → same ≡ bin_eq o q → same ≡ true → outcome a us ≡ taken_if (tree_found code_leaves (pattern_of p) t) ss
    → a ≡ false → None ≡ taken_if (tree_found code_leaves (pattern_of (pattern.Bin o p v)) (Binary q t u)) ss
binary_stopped o q same a p v t u ss us s e h f =
    let one : bin_eq o q ≡ true = sym s ∙ e in
    let first_stopped : None
    ≡ taken_if (tree_found code_leaves (Binary o (pattern_of p) (pattern_of v)) (Binary q t u)) ss =
    rw one (stopped a (tree_found code_leaves (pattern_of p) t) (tree_found code_leaves (pattern_of v) u) ss us h f)
    in
    first_stopped
    ∙ ap (λ (x : PatTree). taken_if (tree_found code_leaves x (Binary q t u)) ss) (sym (pattern_binary o p v))

pub nothing_behind : (x : Option Finds) → both x None ≡ None
nothing_behind None = refl
nothing_behind (Some fs) = refl
