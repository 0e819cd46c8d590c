-- All passes make nothing live, and what fits goes on to fit.
use Rattle.std.proofs.Common.{◌≡◌, ℕ, ◌<◌, Bool, true, false, List, length, refl, sym, ap, subst}
use Rattle.std.specs.Prelude.{◌↔◌, IsTrue, IsSome, is_some, Option, Some, None}
use Rattle.std.proofs.lemmas.Bool.{false≢true}
use Rattle.po_model.specs.declared.machine.Machine.{Machine}
use Rattle.po_model.specs.declared.var.Var.TheVariants.{Cc}
use Rattle.po_model.specs.Blocks.{PlainBlock, instrs_at}
use Rattle.po_model.specs.LiveAfter.{LiveAfter}
use Rattle.po_model.specs.Fit.{fit}
use Rattle.po_model.specs.Fitted.{instr_at, IsRecognised}
use Rattle.po_slow.specs.Passes.{PassesMakeNothingLive, PassesKeepFit}
use Rattle.po_slow.proofs.Passes.{by_passes}
use Rattle.po_slow.proofs.LivenessPass.{AllFit}
use Rattle.po_slow.proofs.LivenessCode.{liveness_laws}
use Rattle.po_slow.proofs.LivenessLast.{told_at_last}

pub make_nothing_live : PassesMakeNothingLive
make_nothing_live m answer code scanned pairs allowed safe formed s =
    (by_passes (liveness_laws m allowed) answer safe code scanned pairs formed s).0.live

-- two tests of one fact are one
pub same_test : {P : Type 0} (a b : Bool) → IsTrue a ↔ P → IsTrue b ↔ P → a ≡ b
same_test true true h i = refl
same_test true false h i = sym (i.1 (h.0 refl))
same_test false true h i = h.1 (i.0 refl)
same_test false false h i = refl

recognised_fit : (m : Machine) (code : List PlainBlock) → IsRecognised code m → AllFit m code
recognised_fit m code (live, tells, fits) b i c l t =
    let f = fits b i l in
    subst (λ c. IsSome (fit m c (instr_at i (instrs_at code b)))) (same_test (live b i) c (tells b i l) t)
    (ap (λ o. is_some o) f.1)

fit_recognised : (m : Machine) (code : List PlainBlock) (live : ℕ → ℕ → Bool)
    → ((b i : ℕ) → i < length (instrs_at code b) → IsTrue (live b i) ↔ LiveAfter code b i Cc) → AllFit m code
    → IsRecognised code m
fit_recognised m code live tells fits = (
  live,
  tells,
  λ b i l. found (fit m (live b i) (instr_at i (instrs_at code b))) (fits b i (live b i) l (tells b i l)),
)
  where
    found : {X : Type 0} (o : Option X) → IsSome o → (x : X) × (o ≡ Some x)
    found None h = absurd (false≢true h)
    found (Some x) h = (x, refl)

pub keep_fit : PassesKeepFit
keep_fit m answer code scanned pairs allowed safe formed s r =
    let t = told_at_last answer code scanned pairs s in
    fit_recognised m scanned (λ b i. t.0 b i Cc) (λ b i l. t.1 b i Cc l)
    ((by_passes (liveness_laws m allowed) answer safe code scanned pairs formed s).0.fits (recognised_fit m code r))
