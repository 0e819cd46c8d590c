use Rattle.std.proofs.Common.{◌≡◌, ◌+◌, ℕ, All, drop}
use Rattle.po_model.specs.Fitted.{IsUnrecognised}
use Rattle.po_compile.specs.Output.{AllFit, FirstBad}
use Rattle.po_compile.specs.Steps.{units_of}
use Rattle.po_compile.proofs.units.check_all.Given as goal

-- the codes so far fit
abbrev pub invariant-loop-code : goal.invariant-loop-code
invariant-loop-code l = record {
  counted : l.unit ≡ l.code-index;
  good : All (AllFit l.machine) (units_of (drop l.code-index l.codes)) → All (AllFit l.machine) (units_of l.codes);
  bad : (b i : ℕ) (k : ℕ) → FirstBad (AllFit l.machine) (λ u. IsUnrecognised u.code l.machine b i)
      (units_of (drop l.code-index l.codes)) k
      → FirstBad (AllFit l.machine) (λ u. IsUnrecognised u.code l.machine b i) (units_of l.codes) (l.code-index + k);
}
