-- How so many parts follow from one and the others.
use Rattle.std.proofs.Common.{◌≡◌, ℕ, zero, suc, List, [], ◌∷◌, Ok, refl, true, ap, sym, ◌∙◌, ◌-◌, ◌<◌, arith}
use Rattle.po_lines.specs.declared.fault.LineError.{LineError}
use Rattle.po_lines.specs.declared.fault.LineError.TheVariants as error
use Rattle.po_lines.specs.Faults.{◌>>=◌, Fails}
use Rattle.po_pattern.specs.declared.part.Frame.{Frame}
use Rattle.po_pattern.specs.declared.part.Turn.{Turn}
use Rattle.po_pattern.specs.declared.part.Turn.TheVariants.{Opens, Whole}
use Rattle.po_pattern.specs.Rests.{Rest}
use Rattle.po_pattern.specs.Terms.{Reading, step, steps, is_whole, whole_with}

pub steps_none : (s : Reading) → steps 0 s ≡ Ok s
unfolding steps
steps_none s = refl

steps_bound : (n : ℕ) (s : Reading) → steps (suc n) s ≡ (step s >>= (λ t. steps n t))
unfolding steps
steps_bound n s = refl

pub steps_next : (n : ℕ) (s t : Reading) → 0 < n → step s ≡ Ok t → steps n s ≡ steps (n - 1) t
steps_next zero s t h e = let no : ⊥ = omega arith in absurd no
steps_next (suc n) s t h e = let same : suc n - 1 ≡ n = omega arith in
    steps_bound n s ∙ ap (λ r. r >>= (λ u. steps n u)) e ∙ ap (λ k. steps k t) (sym same)

-- the first fault stays
pub fails_first : (n : ℕ) (s : Reading) (e : LineError) → 0 < n → Fails e (step s) → Fails e (steps n s)
fails_first zero s e h f = let no : ⊥ = omega arith in absurd no
fails_first (suc n) s (error.Fault x) h f = steps_bound n s ∙ ap (λ r. r >>= (λ u. steps n u)) f
fails_first (suc n) s error.Memory h f = tt

step_whole : (frames : List Frame) (turn : Turn) (r : Rest) (seen : _) → whole_with frames turn ≡ true
    → step (record { frames = frames; turn = record { value = turn; rest = r; seen = seen } })
    ≡ Ok (record { frames = frames; turn = record { value = turn; rest = r; seen = seen } })
unfolding step
step_whole [] (Whole part) r seen e = refl
step_whole (f ∷ fs) (Whole part) r seen e = cc
step_whole [] (Opens frame) r seen e = cc
step_whole (f ∷ fs) (Opens frame) r seen e = cc

pub steps_whole : (n : ℕ) (s : Reading) → is_whole s ≡ true → steps n s ≡ Ok s
steps_whole zero s e = steps_none s
steps_whole (suc n) s e = steps_bound n s ∙ ap (λ r. r >>= (λ u. steps n u))
    (step_whole s.frames s.turn.value s.turn.rest s.turn.seen e) ∙ steps_whole n s e
