-- What stood in a list before is still its start.
use Rattle.std.proofs.Common.{◌≡◌, ◌≤◌, ℕ, List, ◌++◌, length, take, sym, ap, ◌∙◌, arith, length-append, length-take}
use Rattle.std.proofs.Common.{take_all}
use Rattle.std.proofs.lemmas.List.{take-append-le, take-take}
use Rattle.std.specs.Io.{StartsWith}

pub starts_same : (xs now : List ℕ) → now ≡ xs → StartsWith now xs
starts_same xs now e = rw e (take_all (length xs) xs (omega arith))

-- a list that starts with more starts with less
pub starts_less : (xs more mid now : List ℕ) → mid ≡ xs ++ more → StartsWith now mid → StartsWith now xs
starts_less xs more mid now e h =
    let shorter : length xs ≤ length mid = omega (arith, ap length e, length-append xs more) in
    sym (take-take (length xs) (length mid) now shorter) ∙ ap (take (length xs)) (h ∙ e)
    ∙ take-append-le (length xs) xs more (omega arith)
    ∙ take_all (length xs) xs (omega arith)

-- more is added at the end
pub starts_more : (xs more mid now : List ℕ) → StartsWith mid xs → now ≡ mid ++ more → StartsWith now xs
starts_more xs more mid now h e =
    let shorter : length xs ≤ length mid = omega (arith, ap length h, length-take (length xs) mid) in
    rw e (take-append-le (length xs) mid more shorter ∙ h)
