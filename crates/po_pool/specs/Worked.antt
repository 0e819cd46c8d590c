-- What workers and learners give back. Of a job, `good` says when a seat is good for its place and the results that it
-- gave, and `gives` what is promised of the result of a unit.
use Rattle.std.specs.Prelude.{◌≡◌, ℕ, ◌+◌, ◌*◌, ◌/◌, List, length, slice_get, slice_range, Some}

-- P of each place of a list and of what stands there
abbrev pub EachAt : {A : Type 0} → (ℕ → A → Type 0) → List A → Type 0
EachAt P xs = (place : ℕ) (x : _) → slice_get xs place ≡ Some x → P place x

-- of so many units and workers, the first unit of the worker at this place; the next worker's is behind its last
abbrev pub first_unit : ℕ → ℕ → ℕ → ℕ
first_unit units workers place = place * units / workers

module _ {S O : Type 0} (good : ℕ → S → List O → Type 0) (gives : ℕ → O → Type 0) where
  -- one worker went through the units from one index up to another
  pub record IsThrough (place from to : ℕ) (seat : S) (outs : List O) : Type 0 where
    pub all : from + length outs ≡ to
    pub given : EachAt (λ k o. gives (from + k) o) outs
    pub good_seat : good place seat outs

  -- the first workers, of so many, went through their units: their seats, and the results in the units' order
  pub record AreThrough (units workers : ℕ) (seats : List S) (outs : List O) : Type 0 where
    pub all : length outs ≡ first_unit units workers (length seats)
    pub given : EachAt gives outs
    pub good_seats : EachAt (λ place seat. good place seat
        (slice_range outs (first_unit units workers place) (first_unit units workers (place + 1)))) seats
