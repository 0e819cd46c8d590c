-- Registers whose intervals share a point get different machine registers, where no point is crowded.
use Rattle.std.proofs.Common.{ℕ, ◌+◌, ◌<◌, ◌≤◌, List, [], ◌∷◌, ◌++◌, length, get_or, set, replicate, subst, zero, suc}
use Rattle.std.proofs.Common.{arith, ◌⊎◌, inl, inr, ◌*◌, map}
use Rattle.std.proofs.lemmas.Bool.{cases_lt}
use Rattle.po_model.specs.Placement.{Interval, intervals, intervals_from, interval_of, IsUncrowded, place_from}
use Rattle.po_model.specs.Placement.{placement, AreApart}
use Rattle.po_assign.specs.Spans.{Rising}
use Rattle.po_assign.proofs.Standing.{Standing, standing_begin, standing_step, standing_crowded}
use Rattle.po_assign.proofs.LastReads.{read_later}
use Rattle.po_model.specs.UnitCodes.{written}
use Rattle.po_term.specs.Moves.{PlainInstr}

-- the lowest of these ends that lies before a point
abbrev Free : ℕ → List ℕ → Type 0
Free point ends = (r : ℕ) × (r < length ends) × (get_or ends r 0 < point) × ((k : ℕ) → k < r → point ≤ get_or ends k 0)

abbrev AllBusy : ℕ → List ℕ → Type 0
AllBusy point ends = (k : ℕ) → k < length ends → point ≤ get_or ends k 0

busy_next : (point e : ℕ) (es : List ℕ) (n : ℕ) → point ≤ e → ((k : ℕ) → k < n → point ≤ get_or es k 0) → (k : ℕ)
    → k < suc n → point ≤ get_or (e ∷ es) k 0
busy_next point e es n h rest zero l = h
busy_next point e es n h rest (suc k) l = rest k (omega arith)

free_next : (point e : ℕ) (es : List ℕ) → (e < point) ⊎ (point ≤ e) → Free point es ⊎ AllBusy point es
    → Free point (e ∷ es) ⊎ AllBusy point (e ∷ es)
free_next point e es (inl h) rest = inl (0, omega arith, h, λ k l. absurd (omega arith))
free_next point e es (inr h) (inl (r, small, free, busy)) =
    inl (suc r, omega arith, free, busy_next point e es r h busy)
free_next point e es (inr h) (inr busy) = inr (busy_next point e es (length es) h busy)

free_or_busy : (point : ℕ) (ends : List ℕ) → Free point ends ⊎ AllBusy point ends
free_or_busy point [] = inr (λ k l. absurd (omega arith))
free_or_busy point (e ∷ es) = free_next point e es (cases_lt e point) (free_or_busy point es)

standing_apart : (n : ℕ) (all left : List Interval) (ends : List ℕ) (regs : List (ℕ × ℕ)) → Standing n all left ends
    regs → IsUncrowded n all → AreApart (place_from n [] all)
standing_apart n all [] ends regs st un = subst AreApart st.follows st.apart
standing_apart n all (i ∷ left) ends regs st un =
    elim (free_or_busy i.start ends) [
      | inl f ↦ standing_apart n all left (set ends f.0 i.finish) (regs ++ (i.register, f.0) ∷ [])
          (standing_step n all i left ends regs f.0 st f.1 f.2 f.3) un
      | inr busy ↦ let crowded = standing_crowded n all i left ends regs st busy in
          absurd (omega (arith, crowded.count, crowded.over, un i.start))
    ]

intervals_over : (p : ℕ) (is : List PlainInstr) (m : ℕ) (ws : List ℕ) (rest : List Interval) → m ≤ 2 * p + 1
    → Rising (2 * p + 1) rest → Rising m (map (interval_of p is) ws ++ rest)
intervals_over p is m [] [] h r = tt
intervals_over p is m [] (i ∷ rest) h r = (omega (arith, r.0), r.1, r.2)
intervals_over p is m (w ∷ ws) rest h r = (
  h,
  read_later w (2 * p + 1) (suc p) is (omega arith),
  intervals_over p is
      (2 * p + 1) ws rest (omega arith) r,
)

intervals_rise : (p m : ℕ) (is : List PlainInstr) → m ≤ 2 * p + 1 → Rising m (intervals_from p is)
intervals_rise p m [] h = tt
intervals_rise p m (i ∷ is) h = intervals_over p is m (written i) (intervals_from (suc p) is) h
    (intervals_rise (suc p) (2 * p + 1) is (omega arith))

pub placement_apart : (n : ℕ) (code : List PlainInstr) → IsUncrowded n (intervals code) → AreApart (placement n code)
placement_apart n code un = standing_apart n (intervals code) (intervals code) (replicate n 0) []
    (standing_begin n (intervals code) (intervals_rise 0 1 code (omega arith))) un
