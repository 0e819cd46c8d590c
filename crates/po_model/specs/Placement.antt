-- Placement: the interval of each virtual register, the machine register that it gets, and the points that are
-- crowded.
--
-- The instructions of a code are numbered p = 0, 1, .. over all its blocks. Instruction p reads at the point 2 * p
-- and writes at the point 2 * p + 1.
use Rattle.std.specs.Prelude.{ℕ, zero, suc, ◌+◌, ◌*◌, ◌≤◌, ◌<◌, ◌≡◌, ◌≢◌, ◌==◌, ◌&&◌, nat_le, Bool, IsTrue, List, []}
use Rattle.std.specs.Prelude.{◌∷◌, ◌++◌, map, reverse, count_by, AllPairs, if◌then◌else◌}
use Rattle.std.specs.List.{list_any}
use Rattle.po_term.specs.declared.term.Reg.TheVariants.{Virt}
use Rattle.po_model.specs.declared.var.Var.TheVariants.{Reg}
use Rattle.po_model.specs.LiveAfter.{reads}
use Rattle.po_model.specs.UnitCodes.{written}
use Rattle.po_term.specs.Moves.{PlainInstr}

-- the last point at which these instructions, numbered from p on, read the virtual register v; `last` where they don't
abbrev pub last_read : ℕ → ℕ → ℕ → List PlainInstr → ℕ
last_read v last p [] = last
last_read v last p (i ∷ is) = last_read v (if reads i (Reg (Virt v)) then 2 * p else last) (suc p) is

-- from the write of a register to its last read
pub record Interval : Type 0 where
  pub register : ℕ
  pub start : ℕ
  pub finish : ℕ

-- the interval of a register that instruction p writes, before these instructions
abbrev pub interval_of : ℕ → List PlainInstr → ℕ → Interval
interval_of p is v = record { register = v; start = 2 * p + 1; finish = last_read v (2 * p + 1) (suc p) is }

-- the intervals of the registers that are written from instruction p on, by start and place in the list
abbrev pub intervals_from : ℕ → List PlainInstr → List Interval
intervals_from p [] = []
intervals_from p (i ∷ is) = map (interval_of p is) (written i) ++ intervals_from (suc p) is

abbrev pub intervals : List PlainInstr → List Interval
intervals code = intervals_from 0 code

abbrev pub contains : Interval → ℕ → Bool
contains i point = nat_le i.start point && nat_le point i.finish

-- how many intervals a point lies in
abbrev pub count_at : List Interval → ℕ → ℕ
count_at is point = count_by (λ i. contains i point) is

-- no point lies in more than n intervals
abbrev pub IsUncrowded : ℕ → List Interval → Type 0
IsUncrowded n is = (point : ℕ) → count_at is point ≤ n

-- the first point that lies in more than n intervals, and how many
pub record IsCrowded (n : ℕ) (is : List Interval) (point needed : ℕ) : Type 0 where
  pub count : needed ≡ count_at is point
  pub over : n < needed
  pub first : (q : ℕ) → q < point → count_at is q ≤ n

-- an interval with the machine register that it got, by its number
pub record PlacedInterval : Type 0 where
  pub interval : Interval
  pub machine : ℕ

-- whether a machine register is that of one of these at a point
abbrev pub is_taken : List PlacedInterval → ℕ → ℕ → Bool
is_taken done point r = list_any (λ d. d.machine == r && contains d.interval point) done

-- the lowest register from r on that isn't taken at a point, of n registers
abbrev pub lowest_from : List PlacedInterval → ℕ → ℕ → ℕ → ℕ
lowest_from done point r zero = r
lowest_from done point r (suc n) = if is_taken done point r then lowest_from done point (suc r) n else r

-- each interval, in order, gets the lowest of n registers that no earlier interval containing its start has; the last
-- one stands first
abbrev pub place_from : ℕ → List PlacedInterval → List Interval → List PlacedInterval
place_from n done [] = done
place_from n done (i ∷ is) = place_from n (record { interval = i; machine = lowest_from done i.start 0 n } ∷ done) is

abbrev pub placement : ℕ → List PlainInstr → List PlacedInterval
placement n code = place_from n [] (intervals code)

-- the virtual register with its machine register
abbrev pub assigned : PlacedInterval → ℕ × ℕ
assigned d = (d.interval.register, d.machine)

-- each virtual register with its machine register, in order of the intervals
abbrev pub registers : ℕ → List PlainInstr → List (ℕ × ℕ)
registers n code = reverse (map assigned (placement n code))

-- the machine register of a virtual register: that of its first pair, and 0 where it has none
abbrev pub machine_of : List (ℕ × ℕ) → ℕ → ℕ
machine_of [] v = 0
machine_of (x ∷ xs) v = if x.0 == v then x.1 else machine_of xs v

-- no two of these whose intervals share a point have one machine register
abbrev pub AreApart : List PlacedInterval → Type 0
AreApart placed = AllPairs (λ a b. (point : ℕ) → IsTrue (contains a.interval point)
    → IsTrue (contains b.interval point) → a.machine ≢ b.machine) placed
