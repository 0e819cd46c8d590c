-- All units are placed, one after another.
use Rattle.std.proofs.Common.{◌≡◌, ℕ, zero, suc, ◌+◌, List, [], ◌∷◌, ◌++◌, length, All, refl, ap, sym, ◌∙◌, subst}
use Rattle.std.proofs.Common.{arith, append_assoc, append-nil}
use Rattle.po_model.specs.declared.code.UnitCode.{UnitCode}
use Rattle.po_model.specs.declared.machine.Machine.{Machine}
use Rattle.po_model.specs.UnitCodes.{unit_of, flat, IsUnitCode}
use Rattle.po_model.specs.Placement.{registers}
use Rattle.po_assign.specs.declared.answer.Placed.{Placed}
use Rattle.po_compile.specs.Output.{FirstBad, HasRoom, IsShort}
use Rattle.po_compile.specs.Steps.{units_of, placed_of, IsPlaced, ArePlaced}
use Rattle.po_compile.proofs.Each.{all_cons, all_append}

-- the units so far are placed, and these are left
pub record IsAssigning (m : Machine) (codes rest : List UnitCode) (all : List Placed) (unit : ℕ) : Type 0 where
  pub counted : unit + length rest ≡ length codes
  pub formed : All IsUnitCode (units_of rest)
  pub units : placed_of all ++ units_of rest ≡ units_of codes
  pub placed : ArePlaced m all
  pub good : All (HasRoom m) (units_of rest) → All (HasRoom m) (units_of codes)
  pub bad : (point needed k : ℕ) → FirstBad (HasRoom m) (IsShort m point needed) (units_of rest) k
      → FirstBad (HasRoom m) (IsShort m point needed) (units_of codes) (unit + k)

pub assigning_begin : (m : Machine) (codes rest : List UnitCode) (all : List Placed) → rest ≡ codes → all ≡ []
    → All IsUnitCode (units_of codes) → IsAssigning m codes rest all 0
assigning_begin m codes rest all e n formed =
    rw (e, n) (record {
      counted = omega arith;
      formed = formed;
      units = refl;
      placed = λ k d h. absurd (omega arith);
      good = λ g. g;
      bad = λ point needed k f. let n : k ≡ 0 + k =
          omega arith in subst (λ (n : ℕ). FirstBad (HasRoom m) (IsShort m point needed) (units_of codes) n) n f;
    })

placed_append : (xs : List Placed) (x : Placed) → placed_of (xs ++ x ∷ []) ≡ placed_of xs ++ unit_of x.unit ∷ []
placed_append [] x = refl
placed_append (y ∷ ys) x = ap (λ us. unit_of y.unit ∷ us) (placed_append ys x)

pub first_formed : (m : Machine) (codes rest more : List UnitCode) (all : List Placed) (unit : ℕ) (x : UnitCode)
    → IsAssigning m codes rest all unit → rest ≡ x ∷ more → IsUnitCode (unit_of x)
first_formed m codes rest more all unit x h e =
    (subst (λ (r : List UnitCode). All IsUnitCode (units_of r)) e h.formed) zero (unit_of x) (omega arith)

pub assigning_next : (m : Machine) (codes rest more : List UnitCode) (all more_placed : List Placed) (unit : ℕ)
    (x : UnitCode) (p : Placed) → IsAssigning m codes rest all unit → rest ≡ x ∷ more
    → more_placed ≡ all ++ p ∷ [] → unit_of p.unit ≡ unit_of x → IsPlaced m p → HasRoom m (unit_of x)
    → IsAssigning m codes more more_placed (unit + 1)
assigning_next m codes rest more all more_placed unit x p h e f same placed room =
    let here : IsAssigning m codes (x ∷ more) all unit = subst (λ (r : List UnitCode). IsAssigning m codes r all unit)
    e h in
    rw f (record {
      counted = omega (arith, here.counted);
      formed = λ k d b. here.formed (suc k) d (omega arith);
      units = rw (placed_append all p, same, append_assoc) here.units;
      placed = all_append (IsPlaced m) all p here.placed placed;
      good = λ g. here.good (all_cons (HasRoom m) (unit_of x) (units_of more) room g);
      bad = λ point needed k b. let n : unit + suc k ≡ unit + 1 + k = omega arith in
          subst (λ (n : ℕ). FirstBad (HasRoom m) (IsShort m point needed) (units_of codes) n) n
          (here.bad point needed (suc k) (room, b));
    })

pub assigning_short : (m : Machine) (codes rest more : List UnitCode) (all : List Placed) (unit : ℕ) (x : UnitCode)
    (point needed : ℕ) → IsAssigning m codes rest all unit → rest ≡ x ∷ more
    → IsShort m point needed (unit_of x) → FirstBad (HasRoom m) (IsShort m point needed) (units_of codes) unit
assigning_short m codes rest more all unit x point needed h e short =
    let here : IsAssigning m codes (x ∷ more) all unit = subst (λ (r : List UnitCode). IsAssigning m codes r all unit)
    e h in
    let n : unit + zero ≡ unit = omega arith in
    subst (λ (n : ℕ). FirstBad (HasRoom m) (IsShort m point needed) (units_of codes) n) n
    (here.bad point needed zero short)

pub assigning_end : (m : Machine) (codes rest : List UnitCode) (all : List Placed) (unit : ℕ)
    → IsAssigning m codes rest all unit → rest ≡ []
    → (placed_of all ≡ units_of codes) × ArePlaced m all × All (HasRoom m) (units_of codes)
assigning_end m codes rest all unit h e =
    let here : IsAssigning m codes [] all unit = subst (λ (r : List UnitCode). IsAssigning m codes r all unit) e h in
    (sym (append-nil (placed_of all)) ∙ here.units, here.placed, here.good (λ k d b. absurd (omega arith)))

pub placed_so : (m : Machine) (p : Placed) (x : UnitCode) → p.unit ≡ x
    → p.regs.items ≡ registers (length m.regs) (flat (unit_of x).code) → IsPlaced m p
placed_so m p x e f = f ∙ ap (λ (u : UnitCode). registers (length m.regs) (flat (unit_of u).code)) (sym e)
