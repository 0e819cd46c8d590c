-- A mode makes one code of a unit.
use Rattle.std.proofs.Common.{◌≡◌, ℕ, List, [], ◌∷◌, refl, ap, sym, ◌∙◌}
use Rattle.std.specs.List.{AllZip}
use Rattle.po_model.specs.declared.machine.Machine.{Machine}
use Rattle.po_model.specs.Blocks.{PlainBlock}
use Rattle.po_model.specs.Combined.{combination}
use Rattle.po_model.specs.UnitCodes.{PlainUnit}
use Rattle.po_slow.specs.Passes.{IsSlowedUnit}
use Rattle.po_slow.proofs.OnlyOne.{make_one_code}
use Rattle.po_compile.specs.declared.mode.Mode.{Mode}
use Rattle.po_compile.specs.declared.mode.Mode.TheVariants.{Naive, Slow, Opt}
use Rattle.po_compile.specs.Modes.{IsCodeIn, ModesMakeOneCode}

-- the unit with another code
abbrev with_code : PlainUnit → List PlainBlock → PlainUnit
with_code u code = record u { code = code }

one_slowed : (m : Machine) (u v w : PlainUnit) (n k : ℕ) → IsSlowedUnit m u v n → IsSlowedUnit m u w k → v ≡ w
one_slowed m u v w n k s t =
    let one : v.code ≡ w.code = (make_one_code (combination m) u.code v.code w.code s.pairs t.pairs s.slowed
    t.slowed).1 in
    s.same ∙ ap (with_code u) one ∙ sym t.same

pub one_code : ModesMakeOneCode
one_code Naive m u v w e f = e ∙ sym f
one_code Slow m u v w (n, s) (k, t) = one_slowed m u v w n k s t
one_code Opt m u v w (n, s) (k, t) = one_slowed m u v w n k s t

pub one_list : (mode : Mode) (m : Machine) (us vs ws : List PlainUnit)
    → AllZip (IsCodeIn mode m) us vs → AllZip (IsCodeIn mode m) us ws → vs ≡ ws
one_list mode m [] [] [] y z = refl
one_list mode m [] [] (w ∷ ws) y z = absurd z
one_list mode m [] (v ∷ vs) ws y z = absurd y
one_list mode m (u ∷ us) [] ws y z = absurd y
one_list mode m (u ∷ us) (v ∷ vs) [] y z = absurd z
one_list mode m (u ∷ us) (v ∷ vs) (w ∷ ws) y z =
    ap (λ (x : PlainUnit). x ∷ vs) (one_code mode m u v w y.0 z.0)
    ∙ ap (λ (xs : List PlainUnit). w ∷ xs) (one_list mode m us vs ws y.1 z.1)
