-- All units are expanded, and written, one after another.
use Rattle.std.proofs.Common.{◌≡◌, ℕ, ◌+◌, ◌<◌, ◌≤◌, List, [], ◌∷◌, ◌++◌, length, drop, map, get_or, refl, ap, sym}
use Rattle.std.proofs.Common.{subst, append_assoc, append-nil}
use Rattle.std.proofs.Math.ListN.{drop_of_length-le}
use Rattle.po_ir.specs.declared.unit.Unit.{Unit as StackUnit}
use Rattle.po_model.specs.declared.code.UnitCode.{UnitCode}
use Rattle.po_model.specs.declared.machine.Machine.{Machine}
use Rattle.po_model.specs.UnitCodes.{unit_of, flat}
use Rattle.po_model.specs.Placement.{registers}
use Rattle.po_model.specs.Naive.{naive}
use Rattle.po_model.specs.Assembly.{IsAssembly}
use Rattle.po_assign.specs.declared.answer.Placed.{Placed}
use Rattle.po_compile.specs.Output.{AreAssembled}
use Rattle.po_compile.specs.Steps.{units_of, placed_of, IsPlaced}
use Rattle.po_compile.proofs.Each.{next_of}

pub units_append : (codes : List UnitCode) (code : UnitCode)
    → units_of (codes ++ code ∷ []) ≡ units_of codes ++ unit_of code ∷ []
units_append [] code = refl
units_append (x ∷ xs) code = ap (λ us. unit_of x ∷ us) (units_append xs code)

pub expanded_next : (units : List StackUnit) (i : ℕ) (x : StackUnit) (codes more : List UnitCode) (code : UnitCode)
    → i < length units → x ≡ get_or units i x → more ≡ codes ++ code ∷ [] → unit_of code ≡ naive x
    → units_of codes ++ map naive (drop i units) ≡ map naive units
    → units_of more ++ map naive (drop (i + 1) units) ≡ map naive units
expanded_next units i x codes more code h e f same before =
    let now : units_of codes ++ naive x ∷ map naive (drop (i + 1) units) ≡ map naive units =
    subst (λ (ys : List StackUnit). units_of codes ++ map naive ys ≡ map naive units) (next_of units i x h e)
    before in
    rw (f, units_append codes code, same, append_assoc) now

abbrev pub IsWriting : Machine → List Placed → ℕ → List ℕ → Type 0
IsWriting m all i out =
    (rest : List ℕ) → AreAssembled m (placed_of (drop i all)) rest → AreAssembled m (placed_of all) (out ++ rest)

pub written_next : (m : Machine) (all : List Placed) (i : ℕ) (x : Placed) (old new text : List ℕ) → i < length all
    → x ≡ get_or all i x → IsAssembly m x.regs.items (unit_of x.unit) text → IsPlaced m x → new ≡ old ++ text
    → IsWriting m all i old → IsWriting m all (i + 1) new
written_next m all i x old new text h e is placed f before = λ rest more.
    let here_is : IsAssembly m (registers (length m.regs) (flat (unit_of x.unit).code)) (unit_of x.unit) text =
    subst (λ (rs : List (ℕ × ℕ)). IsAssembly m rs (unit_of x.unit) text) placed is in
    let here : AreAssembled m (placed_of (drop i all)) (text ++ rest) =
    subst (λ (ys : List Placed). AreAssembled m (placed_of ys) (text ++ rest)) (sym (next_of all i x h e))
    (text, rest, here_is, more, refl) in
    rw (f, append_assoc) (before (text ++ rest) here)

pub written_end : (m : Machine) (all : List Placed) (i : ℕ) (out : List ℕ) → length all ≤ i → IsWriting m all i out
    → AreAssembled m (placed_of all) out
written_end m all i out h before =
    let none : drop i all ≡ [] = drop_of_length-le all h in
    subst (λ (o : List ℕ). AreAssembled m (placed_of all) o) (append-nil out)
    (before [] (subst (λ (ys : List Placed). AreAssembled m (placed_of ys) []) (sym none) refl))
