-- A statement may stand wherever the stack is empty and its label is new.
use Rattle.std.proofs.Common.{◌≡◌, ℕ, ◌<◌, ◌≤◌, ◌^◌, List, [], ◌∷◌, length, All, Bool, true, false, refl, arith, inl}
use Rattle.std.proofs.Common.{inr}
use Rattle.std.specs.Prelude.{cond, IsTrue, ◌==◌}
use Rattle.std.specs.List.{flat_map}
use Rattle.std.proofs.lemmas.List.Elements.{All-nil, All-cons, All-from_recursion}
use mathlib.Core.Logic.{◌⊎◌}
use Rattle.po_name.specs.Names.{is_name}
use Rattle.po_lines.specs.NameList.{has}
use Rattle.po_ir.specs.declared.unit.Op.{Op}
use Rattle.po_ir.specs.Ops.{depth_from, labels_of, target_in}
use Rattle.po_ir.specs.Units.{IsOp}
use Rattle.po_sample.specs.Draws.{place, constant, kind, step}
use Rattle.po_sample.specs.Sample.{Drawn, label, store_constant, add_constant, add_places, skip_equal, statement}
use Rattle.po_sample.proofs.Numbered.{numbered_name, same_self}
use Rattle.po_sample.proofs.Running.{Run}

-- the operations of statement j
pub record IsPart (j : ℕ) (os : List Op) : Type 0 where
  pub few : length os ≤ 8
  pub each : All IsOp os
  pub run : (ls : List (List ℕ)) (args : List ℕ) → has (label j) ls ≡ false → Run 0 ls args os
  pub depth : depth_from 0 os ≡ 0
  pub labels : (labels_of os ≡ []) ⊎ (labels_of os ≡ label j ∷ [])
  pub targets : All (λ l. IsTrue (has l (labels_of os))) (flat_map target_in os)

pub label_named : (j : ℕ) → j < 2 ^ 64 → is_name (label j) ≡ true
label_named j h = numbered_name 76 j h refl refl

place_fits : (x : ℕ) → place x < 2 ^ 32
place_fits x = omega arith

constant_fits : (x : ℕ) → constant x < 2 ^ 32
constant_fits x = omega arith

pub one_fits : 1 < 2 ^ 32
one_fits = omega arith

store_part : (j x y : ℕ) → IsPart j (store_constant x y).ops
store_part j x y = record {
  few = omega arith;
  each = All-from_recursion IsOp (store_constant x y).ops
      (place_fits x, (constant_fits y, (tt, tt)));
  run = λ ls args h. (refl, (refl, (refl, tt)));
  depth = refl;
  labels = inl refl;
  targets = All-nil _;
}

add_part : (j x y : ℕ) → IsPart j (add_constant x y).ops
add_part j x y = record {
  few = omega arith;
  each = All-from_recursion IsOp (add_constant x y).ops
      (place_fits x, (place_fits x, (tt, (constant_fits y, (tt, (tt, tt))))));
  run = λ ls args h. (refl, (refl, (refl, (refl, (refl, (refl, tt))))));
  depth = refl;
  labels = inl refl;
  targets = All-nil _;
}

sum_part : (j x y z : ℕ) → IsPart j (add_places x y z).ops
sum_part j x y z = record {
  few = omega arith;
  each = All-from_recursion IsOp (add_places x y z).ops
      (place_fits x, (place_fits y, (tt, (place_fits z, (tt, (tt, (tt, tt)))))));
  run = λ ls args h. (refl, (refl, (refl, (refl, (refl, (refl, (refl, tt)))))));
  depth = refl;
  labels = inl refl;
  targets = All-nil _;
}

skip_part : (j x y z : ℕ) → j < 2 ^ 64 → IsPart j (skip_equal j x y z).ops
skip_part j x y z small = record {
  few = omega arith;
  each = All-from_recursion IsOp (skip_equal j x y z).ops (
    place_fits x,
    (
      tt,
      (
        constant_fits z,
        (
          label_named j small,
          (
            place_fits y,
            (
              one_fits,
              (
                tt,
                (
                  label_named j small,
                  tt,
                ),
              ),
            ),
          ),
        ),
      ),
    ),
  );
  run = λ ls args h. (refl, (refl, (refl, (refl, (refl, (refl, (refl, (rw h refl, tt))))))));
  depth = refl;
  labels = inr refl;
  targets = All-cons (λ l. IsTrue (has l (label j ∷ []))) (label j) [] (rw (same_self (label j)) refl) (All-nil _);
}

either : (P : Drawn → Type 0) (b : Bool) (u v : Drawn) → P u → P v → P (cond b u v)
either P true u v p q = p
either P false u v p q = q

pub statement_part : (j x : ℕ) → j < 2 ^ 64 → IsPart j (statement j x).ops
statement_part j x small =
    let P : Drawn → Type 0 = λ d. IsPart j d.ops in
    let y = step x in
    let z = step y in
    let v = step z in
    let w = step v in
    either P (kind y == 0) _ _ (store_part j z v) (either P (kind y == 1) _ _ (add_part j z v)
    (either P (kind y == 2) _ _ (sum_part j z v w) (skip_part j z v w small)))
