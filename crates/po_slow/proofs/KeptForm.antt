-- Passes keep the form of a code: all of it.
use Rattle.std.proofs.Common.{◌≡◌, ◌<◌, ◌≤◌, List, length, ap, arith}
use mathlib.Core.Logic.{◌⊎◌, inl, inr}
use Rattle.po_model.specs.Blocks.{PlainBlock}
use Rattle.po_model.specs.UnitCodes.{flat}
use Rattle.po_slow.specs.Passes.{PassesKeepForm}
use Rattle.po_slow.proofs.Forms.{keeps_formed}
use Rattle.po_slow.proofs.Straight.{keeps_straight}

no_more : (code scanned : List PlainBlock) → (scanned ≡ code) ⊎ (length (flat scanned) < length (flat code))
    → length (flat scanned) ≤ length (flat code)
no_more code scanned (inl e) = let l = ap (λ (c : List PlainBlock). length (flat c)) e in omega (arith, l)
no_more code scanned (inr h) = omega (arith, h)

pub form_kept : PassesKeepForm
form_kept m answer code scanned pairs allowed safe formed passes =
    let kept = keeps_formed m allowed answer safe code scanned pairs formed passes in
    record {
      formed = kept.1;
      labels = kept.0.labels;
      fewer = no_more code scanned kept.0.same_or_fewer;
      same_or_fewer = kept.0.same_or_fewer;
      straight = keeps_straight m allowed answer safe code scanned pairs formed passes;
      named = kept.0.named;
    }
