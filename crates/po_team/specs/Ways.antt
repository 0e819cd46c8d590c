-- What contracts see of a way to the rules, and of a post.
use Rattle.std.specs.Prelude.{◌≡◌, ℕ, ◌<◌, List, true}
use Rattle.po_model.specs.declared.rule.Rule.{Rule}
use Rattle.po_queue.specs.Passes.{QueueId, PassView}

-- the rules that were seen or told of, and how often the way was shut
pub record WayView : Type 0 where
  pub seen : List Rule
  pub refused : ℕ

-- the pass of a post, and how often it was told that the queue is full
pub record PostView (T : Type 0) : Type 0 where
  pub pass : PassView T
  pub fulls : ℕ

-- what a post leaves as it is: the queue, and the parts and the takes of its pass
pub record PostHome (T : Type 0) : Type 0 where
  pub queue : QueueId
  pub parts : ℕ
  pub takes : List T

module _ {T : Type 0} where
  abbrev pub home_of : PostView T → PostHome T
  home_of p = record { queue = p.pass.queue; parts = p.pass.parts; takes = p.pass.takes }

  -- a post that was told of a full queue has met one
  abbrev pub RemembersFull : PostView T → Type 0
  RemembersFull p = 0 < p.fulls → p.pass.met_full ≡ true
