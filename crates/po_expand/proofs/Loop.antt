-- One operation after the other.
use Rattle.std.proofs.Common.{◌≡◌, ℕ, ◌+◌, ◌<◌, ◌≤◌, List, ◌∷◌, ◌++◌, length, drop, get_or, sym, subst, ap, ◌∙◌}
use Rattle.std.proofs.Math.ListN.{drop_of_length-le}
use Rattle.po_ir.specs.declared.unit.Op.{Op}
use Rattle.po_ir.specs.Ops.{pops, depth_by}
use Rattle.po_model.specs.Blocks.{PlainBlock}
use Rattle.po_model.specs.Naive.{Text, unless_blank}
use Rattle.po_expand.specs.Fits.{Fits}
use Rattle.po_expand.specs.Steps.{Between, code_with, Expands}
use Rattle.po_expand.proofs.Numbers.{next_of}

module _ (os : List Op) (i : ℕ) (o : Op) (h : i < length os) (e : o ≡ get_or os i o) where
  fits_here : (depth : ℕ) → Fits depth (drop i os) → Fits depth (o ∷ drop (i + 1) os)
  fits_here depth f = subst (Fits depth) (next_of os i o h e) f

  pub finds_values : (depth : ℕ) → Fits depth (drop i os) → pops o ≤ depth
  finds_values depth f = (fits_here depth f).0

  pub fits_next : (labels syms : List Text) (b c : Between) (n m : ℕ) → Expands labels syms o b c → length b.stack ≡ n
      → length c.stack ≡ m → Fits n (drop i os) → Fits m (drop (i + 1) os)
  fits_next labels syms b c n m x k l f =
      subst (λ d. Fits d (drop (i + 1) os)) (ap (λ d. depth_by d o) (sym k) ∙ sym x.depth ∙ l) (fits_here n f).2

  pub code_next : (labels syms : List Text) (b c : Between) (all : List PlainBlock) → Expands labels syms o b c
      → code_with labels syms b (drop i os) ≡ all → code_with labels syms c (drop (i + 1) os) ≡ all
  code_next labels syms b c all x r =
      sym (x.code (drop (i + 1) os)) ∙ ap (code_with labels syms b) (sym (next_of os i o h e)) ∙ r

pub code_all : (labels syms : List Text) (b : Between) (os : List Op) (i : ℕ) (all : List PlainBlock) → length os ≤ i
    → code_with labels syms b (drop i os) ≡ all → b.ended ++ unless_blank b.label b.instrs ≡ all
code_all labels syms b os i all h r = ap (code_with labels syms b) (sym (drop_of_length-le os h)) ∙ r
