-- A turn of the loop that places spans.
use Rattle.std.proofs.Common.{◌≡◌, ℕ, ◌+◌, ◌<◌, ◌≤◌, List, [], ◌∷◌, ◌++◌, length, get_or, set, drop, map, reverse}
use Rattle.std.proofs.Common.{sym, subst, ap, ◌∙◌, arith}
use Rattle.std.specs.List.{All, count_by}
use Rattle.std.specs.Prelude.{◌==◌}
use Rattle.po_model.specs.Placement.{Interval, count_at, IsCrowded, IsUncrowded, place_from, assigned}
use Rattle.po_assign.specs.declared.spans.Span.{Span}
use Rattle.po_assign.specs.Spans.{interval_from}
use Rattle.po_assign.proofs.Lists.{next_at, behind_all}
use Rattle.po_assign.proofs.Standing.{Standing, starts_count, standing_step, standing_crowded, standing_uncrowded}
use Rattle.po_assign.proofs.Standing.{standing_pairs}

abbrev pub seen : List Span → List Interval
seen ss = map interval_from ss

pub crowded_turn : (n : ℕ) (xs : List Span) (p : ℕ) (ends : List ℕ) (regs : List (ℕ × ℕ)) (d s : Span) (needed : ℕ)
    → p < length xs → s ≡ get_or xs p d →
    Standing n (seen xs) (seen (drop p xs)) ends regs → ((k : ℕ) → k < length ends → s.start ≤ get_or ends k 0) →
    needed ≡ n + count_by (λ (t : Span). t.start == s.start) (drop p xs) → IsCrowded n (seen xs) s.start needed
crowded_turn n xs p ends regs d s needed h e st busy counted =
    let next = next_at xs p d s h e in
    let left = seen (drop (p + 1) xs) in
    let at = subst (λ (ss : List Span). Standing n (seen xs) (seen ss) ends regs) next st in
    let count : count_by (λ (t : Span). t.start == s.start) (drop p xs) ≡ count_at (interval_from s ∷ left) s.start =
    ap (λ (ss : List Span). count_by (λ (t : Span). t.start == s.start) ss) next ∙ starts_count s.start
    (s ∷ drop (p + 1) xs) (omega arith, at.rising.1, at.rising.2) in
    let all : needed ≡ n + count_at (interval_from s ∷ left) s.start = counted ∙ ap (λ k. n + k) count in
    subst (λ k. IsCrowded n (seen xs) s.start k) (sym all) (standing_crowded n (seen xs) (interval_from s) left ends
    regs at busy)

pub placed_turn : (n : ℕ) (xs : List Span) (p : ℕ) (ends : List ℕ) (regs after : List (ℕ × ℕ)) (d s : Span) (r : ℕ)
    → p < length xs → s ≡ get_or xs p d →
    Standing n (seen xs) (seen (drop p xs)) ends regs → r < length ends → get_or ends r 0 < s.start →
    ((k : ℕ) → k < r → s.start ≤ get_or ends k 0) → after ≡ regs ++ (s.register, r) ∷ [] →
    Standing n (seen xs) (seen (drop (p + 1) xs)) (set ends r s.finish) after
placed_turn n xs p ends regs after d s r h e st small free busy pushed =
    let at = subst (λ (ss : List Span). Standing n (seen xs) (seen ss) ends regs) (next_at xs p d s h e) st in
    rw pushed (standing_step n (seen xs) (interval_from s) (seen (drop (p + 1) xs)) ends regs r at small free busy)

pub last_turn : (n : ℕ) (xs : List Span) (p : ℕ) (ends : List ℕ) (regs : List (ℕ × ℕ)) → length xs ≤ p
    → Standing n (seen xs) (seen (drop p xs)) ends regs →
    IsUncrowded n (seen xs) × (regs ≡ reverse (map assigned (place_from n [] (seen xs)))) × All (λ x. x.1 < n) regs
last_turn n xs p ends regs h st =
    let at = subst (λ (ss : List Span). Standing n (seen xs) (seen ss) ends regs) (behind_all xs p h) st in
    (standing_uncrowded n (seen xs) ends regs at, standing_pairs n (seen xs) ends regs at, at.below)
