-- What became of misses that were posted.
use Rattle.std.specs.Prelude.{◌≡◌, ℕ, suc, ◌+◌, List, [], ◌∷◌, ◌++◌, length}
use Rattle.po_model.specs.Pairs.{PlainPair}
use Rattle.po_rule.specs.declared.post.Posted.{Posted}
use Rattle.po_rule.specs.declared.post.Posted.TheVariants.{Taken, Dropped}
use Rattle.po_rule.specs.Posts.{RoseBy, with_posted}
use Rattle.po_crew.specs.declared.sent.Sent.{Sent}

-- those of the pairs that were taken, by the answers for them
abbrev pub taken_of : List Posted → List PlainPair → List PlainPair
taken_of (Taken ∷ answers) (p ∷ ps) = p ∷ taken_of answers ps
taken_of (Dropped ∷ answers) (p ∷ ps) = taken_of answers ps
taken_of answers ps = []

-- how many were dropped
abbrev pub drops : List Posted → ℕ
drops [] = 0
drops (Taken ∷ answers) = drops answers
drops (Dropped ∷ answers) = suc (drops answers)

-- each of these misses was posted once, in order. Those that were taken stand behind what was taken before, and the
-- post was full at each of the others
pub record ArePosted (misses before after : List PlainPair) (fulls now taken dropped : ℕ) : Type 0 where
  pub answers : List Posted
  pub each : length answers ≡ length misses
  pub took : after ≡ before ++ taken_of answers misses
  pub taken_count : taken ≡ length (taken_of answers misses)
  pub dropped_count : dropped ≡ drops answers
  pub all : taken + dropped ≡ length misses
  pub full : RoseBy dropped fulls now

-- the counts after one more answer
abbrev pub counted : Posted → Sent → Sent
counted Taken c = record { taken = c.taken + 1; dropped = c.dropped }
counted Dropped c = record { taken = c.taken; dropped = c.dropped + 1 }

-- one miss was posted, and counted
pub record IsPosted (p : PlainPair) (before after : List PlainPair) (fulls now : ℕ) (old new : Sent) : Type 0 where
  pub answer : Posted
  pub took : after ≡ with_posted answer p before
  pub counts : new ≡ counted answer old
  pub full : RoseBy (drops (answer ∷ [])) fulls now
