-- What a seat keeps, from one turn to the next.
use Rattle.std.specs.Prelude.{◌≡◌, ℕ, ◌+◌, ◌≤◌, Bool, true, false, [], length}
use Rattle.po_queue.specs.Passes.{QueueId, PassView}

-- how many pairs a learner took and didn't learn: at most the one at which memory was refused to it
abbrev pub most_lost : Bool → ℕ
most_lost false = 0
most_lost true = 1

-- a learner put nothing into the queue. Of the pairs that it took, its share of the count has each, but for at most
-- the one at which memory was refused
pub record HasLearned {T : Type 0} (queue : QueueId) (pass : PassView T) (parts amount : ℕ) (refused : Bool) :
    Type 0 where
  pub queue_is : pass.queue ≡ queue
  pub part : pass.parts ≡ 1
  pub puts : pass.puts ≡ []
  pub room : pass.met_full ≡ false
  pub share : parts ≡ 1
  pub taken : amount ≤ length pass.takes
  pub learned : length pass.takes ≤ amount + most_lost refused
