-- A unit's naive code has what every code has.
use Rattle.std.proofs.Common.{◌≡◌, ◌≤◌, true, List, [], ◌∷◌, ◌++◌, length, length-append, sym, ap, subst, arith}
use Rattle.std.specs.Prelude.{All, AllPairs, None, ◌^◌, ◌≢◌}
use Rattle.std.specs.List.{flat_map, AllByRecursion}
use Rattle.std.proofs.lemmas.List.Elements.{All-weaker, recursion_from_All}
use Rattle.po_term.specs.Form.{WellFormed}
use Rattle.po_lines.specs.NameList.{has}
use Rattle.po_ir.specs.declared.unit.Op.{Op}
use Rattle.po_ir.specs.declared.unit.Op.TheVariants as op
use Rattle.po_ir.specs.declared.unit.Unit.{Unit as StackUnit}
use Rattle.po_ir.specs.Ops.{label_in, labels_of, target_in}
use Rattle.po_ir.specs.Units.{IsOp, IsUnit}
use Rattle.po_model.specs.Naive.{Text, pieces, sym_in, each_once, blocks_in, naive}
use Rattle.po_model.specs.UnitCodes.{all_written, ReadsBehind, IsNamedBlock, IsUnitCode}
use Rattle.po_expand.proofs.Cutting.{flat_cut, cut_few, instrs_few}
use Rattle.po_expand.proofs.Places.{all_has, all_once, once_few}
use Rattle.po_expand.proofs.Pieces.{Knows, pieces_sound, pieces_few}
use Rattle.po_expand.proofs.Sound.{GoodBlock, cut_ends, cut_good, sets_apart}
use Rattle.po_expand.proofs.Units.{unit_fits}
use Rattle.po_term.specs.Moves.{PlainInstr}

module _ {A : Type 0} (P : A → Type 0) where
  front : (xs ys : List A) → AllByRecursion P (xs ++ ys) → AllByRecursion P xs
  front [] ys h = tt
  front (x ∷ xs) ys h = (h.0, front xs ys h.1)

  back : (xs ys : List A) → AllByRecursion P (xs ++ ys) → AllByRecursion P ys
  back [] ys h = h
  back (x ∷ xs) ys h = back xs ys h.1

module _ (labels syms : List Text) where
  knows : (os : List Op) → AllByRecursion IsOp os → AllByRecursion (λ l. has l labels ≡ true) (flat_map label_in os)
      → AllByRecursion (λ l. has l labels ≡ true) (flat_map target_in os)
      → AllByRecursion (λ s. has s syms ≡ true) (flat_map sym_in os) → Knows labels syms os
  knows [] h l t s = tt
  knows (o ∷ os) h l t s = (
    h.0,
    front (λ l. has l labels ≡ true) (label_in o) (flat_map label_in os) l,
    front (λ l. has l labels ≡ true) (target_in o) (flat_map target_in os) t,
    front (λ s. has s syms ≡ true) (sym_in o) (flat_map sym_in os) s,
    knows os h.1
        (back (λ l. has l labels ≡ true) (label_in o) (flat_map label_in os) l)
        (back (λ l. has l labels ≡ true) (target_in o) (flat_map target_in os) t)
        (back (λ s. has s syms ≡ true) (sym_in o) (flat_map sym_in os) s),
  )

-- an operation names at most one label, and one symbol
flat_few : (f : Op → List Text) → ((o : Op) → length (f o) ≤ 1) → (os : List Op) → length (flat_map f os) ≤ length os
flat_few f h [] = omega arith
flat_few f h (o ∷ os) = omega (arith, h o, flat_few f h os, length-append (f o) (flat_map f os))

one_label : (o : Op) → length (label_in o) ≤ 1
one_label (op.Con n) = omega arith
one_label (op.Adl n) = omega arith
one_label (op.Adg s) = omega arith
one_label op.Lod = omega arith
one_label op.Sto = omega arith
one_label (op.Bin o) = omega arith
one_label (op.Un o) = omega arith
one_label op.Dup = omega arith
one_label op.Pop = omega arith
one_label (op.Lab l) = omega arith
one_label (op.Jmp l) = omega arith
one_label (op.Br r l) = omega arith
one_label (op.Arg k) = omega arith
one_label (op.Call f n) = omega arith
one_label op.Ret = omega arith

one_sym : (o : Op) → length (sym_in o) ≤ 1
one_sym (op.Con n) = omega arith
one_sym (op.Adl n) = omega arith
one_sym (op.Adg s) = omega arith
one_sym op.Lod = omega arith
one_sym op.Sto = omega arith
one_sym (op.Bin o) = omega arith
one_sym (op.Un o) = omega arith
one_sym op.Dup = omega arith
one_sym op.Pop = omega arith
one_sym (op.Lab l) = omega arith
one_sym (op.Jmp l) = omega arith
one_sym (op.Br r l) = omega arith
one_sym (op.Arg k) = omega arith
one_sym (op.Call f n) = omega arith
one_sym op.Ret = omega arith

pub unit_code : (u : StackUnit) → IsUnit u → IsUnitCode (naive u)
unit_code u h =
    let labels = each_once (labels_of u.ops) in
    let syms = each_once (flat_map sym_in u.ops) in
    let few_labels : length labels ≤ 2 ^ 32 =
    omega (arith, once_few (labels_of u.ops), flat_few label_in one_label u.ops, h.few) in
    let few_syms : length syms ≤ 2 ^ 32 =
    omega (arith, once_few (flat_map sym_in u.ops), flat_few sym_in one_sym u.ops, h.few) in
    let known = knows labels syms u.ops (recursion_from_All IsOp u.ops h.each)
    (recursion_from_All (λ l. has l labels ≡ true) (labels_of u.ops)
    (all_once (labels_of u.ops) (labels_of u.ops) (all_has (labels_of u.ops))))
    (recursion_from_All (λ l. has l labels ≡ true) (flat_map target_in u.ops)
    (all_once (labels_of u.ops) (flat_map target_in u.ops) h.targets))
    (recursion_from_All (λ s. has s syms ≡ true) (flat_map sym_in u.ops)
    (all_once (flat_map sym_in u.ops) (flat_map sym_in u.ops) (all_has (flat_map sym_in u.ops)))) in
    let sound =
    pieces_sound labels syms few_labels few_syms 0 [] [] u.ops (omega (arith, h.few)) tt (unit_fits u h) known in
    let naive_pieces = pieces labels syms 0 [] u.ops in
    let Good = GoodBlock (length labels) (length syms) in
    let good = cut_good (length labels) (length syms) 0 naive_pieces sound in
    let code = blocks_in labels syms u.ops in
    let kept = flat_cut None [] naive_pieces in
    let apart = sets_apart (length labels) (length syms) 0 [] naive_pieces sound in
    record {
      placeable = record {
        form = record {
          ends_last = cut_ends naive_pieces;
          formed = All-weaker Good (λ b. All WellFormed b.instrs) (λ b g. g.formed) code good;
        };
        straight = record {
          once = subst (λ (is : List PlainInstr). AllPairs (λ v w. v ≢ w) (all_written is)) (sym kept) apart;
          behind = All-weaker Good (λ b. ReadsBehind [] b.instrs) (λ b g. g.behind) code good;
        };
        few_instrs = omega (
          arith,
          ap (λ (is : List PlainInstr). length is) kept,
          instrs_few naive_pieces,
          pieces_few labels syms 0 [] u.ops,
          h.few,
        );
        few_blocks = omega (arith, cut_few None [] naive_pieces, pieces_few labels syms 0 [] u.ops, h.few);
      };
      named = All-weaker Good (IsNamedBlock (length labels) (length syms)) (λ b g. g.named) code good;
    }
