-- The plain tree of a pattern's term, by its outermost part.
use Rattle.std.proofs.Common.{◌≡◌, ℕ, Option}
use Rattle.po_word.specs.declared.operator.Un.{Un}
use Rattle.po_word.specs.declared.operator.Bin.{Bin}
use Rattle.po_term.specs.Tree.{Const, Leaf, Read, Unary, Binary}
use denote.Hole.Carrier.{roll}
use Rattle.po_model.specs.declared.machine.Bounds.{Bounds}
use Rattle.po_model.specs.declared.machine.PatReg.{PatReg}
use Rattle.po_model.specs.declared.machine.PatTerm.{PatTerm, roll-PatTerm}
use Rattle.po_model.specs.declared.machine.PatTerm.TheVariants as pat
use Rattle.po_model.specs.declared.machine.PatTerm.TheOpen.{PatTerm-F}
use Rattle.po_model.specs.declared.machine.PatTerm.TheFolds.{fold-roll-PatTerm}
use Rattle.po_model.specs.Patterns.{PatTree, layer_of, pattern_of, Exactly, Operand, InPatReg, AtSymbol}

pub reg_tree : (r : PatReg) → pattern_of (pat.Reg r) ≡ Leaf (InPatReg r)
unfolding roll-PatTerm roll
reg_tree r = fold-roll-PatTerm PatTree layer_of (PatTerm-F.Reg r)

pub num_tree : (n : ℕ) → pattern_of (pat.Num n) ≡ Const (Exactly n)
unfolding roll-PatTerm roll
num_tree n = fold-roll-PatTerm PatTree layer_of (PatTerm-F.Num n)

pub const_tree : (k : ℕ) (range : Option Bounds) → pattern_of (pat.Const k range) ≡ Const (Operand k range)
unfolding roll-PatTerm roll
const_tree k range = fold-roll-PatTerm PatTree layer_of (PatTerm-F.Const k range)

pub addr_tree : (k : ℕ) → pattern_of (pat.Addr k) ≡ Leaf (AtSymbol k)
unfolding roll-PatTerm roll
addr_tree k = fold-roll-PatTerm PatTree layer_of (PatTerm-F.Addr k)

pub mem_tree : (t : PatTerm) → pattern_of (pat.Mem t) ≡ Read (pattern_of t)
unfolding roll-PatTerm roll
mem_tree t = fold-roll-PatTerm PatTree layer_of (PatTerm-F.Mem t)

pub un_tree : (o : Un) (t : PatTerm) → pattern_of (pat.Un o t) ≡ Unary o (pattern_of t)
unfolding roll-PatTerm roll
un_tree o t = fold-roll-PatTerm PatTree layer_of (PatTerm-F.Un o t)

pub bin_tree : (o : Bin) (t u : PatTerm) → pattern_of (pat.Bin o t u) ≡ Binary o (pattern_of t) (pattern_of u)
unfolding roll-PatTerm roll
bin_tree o t u = fold-roll-PatTerm PatTree layer_of (PatTerm-F.Bin o t u)
