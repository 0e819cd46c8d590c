-- What the shares of all learners come to, once their threads have ended.
use Rattle.std.specs.Prelude.{ℕ, zero, suc, ◌≡◌, ◌+◌, ◌<◌, ◌≤◌}

-- of so many pairs that were put into the queue, so many were learned: without learners none; else each but for at
-- most one of each learner
pub record AreLearned (learners put learned : ℕ) : Type 0 where
  pub none : learners ≡ 0 → learned ≡ 0
  pub least : 0 < learners → learned ≤ put
  pub most : 0 < learners → put ≤ learned + learners

-- how many of the pairs that were left are learned: all of them, where there are learners
abbrev pub learned_of : ℕ → ℕ → ℕ
learned_of zero left = 0
learned_of (suc learners) left = left
