-- A walk through two parts, one after the other, finds what stands in both.
use Rattle.std.proofs.Common.{◌≡◌, Bool, true, false, List, [], ◌∷◌, ◌++◌, Option, Some, None, Result, Ok, Err, refl}
use Rattle.std.proofs.Common.{ap, ◌∙◌, sym, append_assoc, append-nil}
use Rattle.po_word.specs.declared.operator.Bin.{Bin}
use Rattle.po_word.specs.declared.memory.OutOfMemory.{OutOfMemory}
use Rattle.po_term.specs.Tree.{Binary}
use denote.Hole.Carrier.{roll}
use Rattle.po_model.specs.declared.machine.PatTerm.{PatTerm, roll-PatTerm}
use Rattle.po_model.specs.declared.machine.PatTerm.TheVariants as pattern
use Rattle.po_model.specs.declared.machine.PatTerm.TheOpen.{PatTerm-F}
use Rattle.po_model.specs.declared.machine.PatTerm.TheFolds.{fold-roll-PatTerm}
use Rattle.po_model.specs.Patterns.{PatTree, layer_of, pattern_of}
use Rattle.po_model.specs.Operators.{bin_eq}
use Rattle.po_model.specs.Fit.{both, tree_found}
use Rattle.po_model.specs.Holed.{HoleTree}
use Rattle.po_model.specs.Generalised.{hole_leaves}
use Rattle.po_trec.specs.declared.found.Spot.{Spot}
use Rattle.po_trec.specs.Spots.{HoleFound, found_of, founds_of, outcome, behind, Finds}

abbrev Founds : Type 0
Founds = List HoleFound

-- one more at the end
pub founds_more : (xs : List Spot) (x : Spot) → founds_of (xs ++ x ∷ []) ≡ founds_of xs ++ found_of x ∷ []
founds_more [] x = refl
founds_more (y ∷ xs) x = ap (λ zs. found_of y ∷ zs) (founds_more xs x)

pub nothing_found : (fs : Founds) → Some fs ≡ behind fs (Some [])
nothing_found fs = ap Some (sym (append-nil fs))

pub none_behind : (x : Option Founds) → both x None ≡ None
none_behind None = refl
none_behind (Some fs) = refl

abbrev next : Option Founds → Option Founds → Option Founds
next None y = None
next (Some fs) y = behind fs y

next-none : (o : Option Founds) → next o None ≡ None
next-none None = refl
next-none (Some fs) = refl

behind-both : (fs : Founds) (x y : Option Founds) → behind fs (both x y) ≡ next (behind fs x) y
behind-both fs None y = refl
behind-both fs (Some gs) None = refl
behind-both fs (Some gs) (Some hs) = ap Some (sym (append_assoc fs gs hs))

-- the first walk's answer and then the second's
walked : (a b : Bool) (x y : Option Founds) (fs gs hs : Founds) → outcome a gs ≡ behind fs x
    → outcome b hs ≡ behind gs y → a ≡ true → outcome b hs ≡ behind fs (both x y)
walked a b x y fs gs hs h i e = i ∙ ap (λ o. next o y) (sym (ap (λ c. outcome c gs) e) ∙ h) ∙ sym (behind-both fs x y)

pub stopped : (a : Bool) (x y : Option Founds) (fs gs : Founds) → outcome a gs ≡ behind fs x → a ≡ false
    → None ≡ behind fs (both x y)
stopped a x y fs gs h e = ap (λ o. next o y) (sym (ap (λ c. outcome c gs) e) ∙ h) ∙ sym (behind-both fs x y)

pattern_binary : (o : Bin) (p v : PatTerm) → pattern_of (pattern.Bin o p v) ≡ Binary o (pattern_of p) (pattern_of v)
unfolding roll-PatTerm roll
pattern_binary o p v = fold-roll-PatTerm PatTree layer_of (PatTerm-F.Bin o p v)

-- two operands behind one operator
binary_walked : (o q : Bin) (same a b : Bool) (p v : PatTerm) (t u : HoleTree) (fs gs hs : Founds) → same ≡ bin_eq o q
    → same ≡ true → outcome a gs ≡ behind fs (tree_found hole_leaves (pattern_of p) t)
    → outcome b hs ≡ behind gs (tree_found hole_leaves (pattern_of v) u) → a ≡ true
    → outcome b hs ≡ behind fs (tree_found hole_leaves (pattern_of (pattern.Bin o p v)) (Binary q t u))
binary_walked o q same a b p v t u fs gs hs s e h i f =
    let one : bin_eq o q ≡ true = sym s ∙ e in
    let both_walked : outcome b hs
    ≡ behind fs (tree_found hole_leaves (Binary o (pattern_of p) (pattern_of v)) (Binary q t u)) =
    rw one (walked a b (tree_found hole_leaves (pattern_of p) t) (tree_found hole_leaves (pattern_of v) u) fs gs
    hs h i f) in
    both_walked ∙ ap (λ (x : PatTree). behind fs (tree_found hole_leaves x (Binary q t u)))
    (sym (pattern_binary o p v))

-- the same of calls
pub then_finds : (a : Bool) (second : Result Bool OutOfMemory) (x y : Option Founds) (fs gs hs : List Spot)
    → outcome a (founds_of gs) ≡ behind (founds_of fs) x → Finds second gs hs y → a ≡ true
    → Finds second fs hs (both x y)
then_finds a (Ok b) x y fs gs hs h i e = walked a b x y (founds_of fs) (founds_of gs) (founds_of hs) h i e
then_finds a (Err r) x y fs gs hs h i e = i

pub binary_finds : (o q : Bin) (same a : Bool) (second : Result Bool OutOfMemory) (p v : PatTerm) (t u : HoleTree)
    (fs gs hs : List Spot) → same ≡ bin_eq o q → same ≡ true
    → outcome a (founds_of gs) ≡ behind (founds_of fs) (tree_found hole_leaves (pattern_of p) t)
    → Finds second gs hs (tree_found hole_leaves (pattern_of v) u) → a ≡ true
    → Finds second fs hs (tree_found hole_leaves (pattern_of (pattern.Bin o p v)) (Binary q t u))
binary_finds o q same a (Ok b) p v t u fs gs hs s e h i f =
    binary_walked o q same a b p v t u (founds_of fs) (founds_of gs) (founds_of hs) s e h i f
binary_finds o q same a (Err r) p v t u fs gs hs s e h i f = i

-- what a walk through two parts comes to
pub ruleset walked_on = (then_finds, stopped, nothing_found)
