-- The term of a pattern from its plain tree.
use Rattle.std.proofs.Common.{◌≡◌, ap, ◌∙◌, subst}
use Rattle.po_term.specs.Tree.{Const, Leaf, Read, Unary, Binary}
use denote.Hole.Carrier.{roll}
use Rattle.po_model.specs.declared.machine.PatTerm.{PatTerm, roll-PatTerm}
use Rattle.po_model.specs.declared.machine.PatTerm.TheVariants as pat
use Rattle.po_model.specs.declared.machine.PatTerm.TheOpen.{PatTerm-F}
use Rattle.po_model.specs.declared.machine.PatTerm.TheFolds.{ind-PatTerm, map-PatTerm}
use Rattle.po_model.specs.Patterns.{PatTree, pattern_of, PatConst, Exactly, Operand, PatLeaf, InPatReg, AtSymbol}
use Rattle.po_pattern.proofs.Layers.{reg_tree, num_tree, const_tree, addr_tree, mem_tree, un_tree, bin_tree}

abbrev pub back_const : PatConst → PatTerm
back_const (Exactly n) = pat.Num n
back_const (Operand k range) = pat.Const k range

abbrev pub back_leaf : PatLeaf → PatTerm
back_leaf (InPatReg r) = pat.Reg r
back_leaf (AtSymbol k) = pat.Addr k

abbrev pub back : PatTree → PatTerm
back (Const c) = back_const c
back (Leaf l) = back_leaf l
back (Read t) = pat.Mem (back t)
back (Unary o t) = pat.Un o (back t)
back (Binary o t u) = pat.Bin o (back t) (back u)

abbrev IsBack : PatTerm → Type 0
IsBack t = back (pattern_of t) ≡ t

abbrev Backed : Type 0
Backed = (t : PatTerm) × IsBack t

back_layer : (y : PatTerm-F Backed) → IsBack (roll-PatTerm (map-PatTerm Backed PatTerm (λ e. e.0) y))
unfolding roll-PatTerm roll
back_layer (PatTerm-F.Reg r) = ap back (reg_tree r)
back_layer (PatTerm-F.Num n) = ap back (num_tree n)
back_layer (PatTerm-F.Const k range) = ap back (const_tree k range)
back_layer (PatTerm-F.Addr k) = ap back (addr_tree k)
back_layer (PatTerm-F.Mem e) = ap back (mem_tree e.0) ∙ ap (λ (t : PatTerm). pat.Mem t) e.1
back_layer (PatTerm-F.Un o e) = ap back (un_tree o e.0) ∙ ap (λ (t : PatTerm). pat.Un o t) e.1
back_layer (PatTerm-F.Bin o e f) = ap back (bin_tree o e.0 f.0)
    ∙ ap (λ (t : PatTerm). pat.Bin o t (back (pattern_of f.0))) e.1 ∙ ap (λ (t : PatTerm). pat.Bin o e.0 t) f.1

-- the term of its plain tree is the term
pub back_again : (t : PatTerm) → back (pattern_of t) ≡ t
back_again = ind-PatTerm IsBack (λ x y is. subst (λ (z : PatTerm-F PatTerm). IsBack (roll-PatTerm z)) is
    (back_layer y))
