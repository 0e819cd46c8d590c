-- What contracts see of a queue and of its passes.
use Rattle.std.specs.Prelude.{◌≡◌, ℕ, ◌+◌, Bool, true, false, List, [], ◌∷◌, ◌++◌, length}
use Rattle.std.specs.List.{sum_by}
use Rattle.atomic_table.specs.Seated.{TableId}
use Rattle.po_queue.specs.declared.balance.Account.{Account}
use Rattle.po_queue.specs.Balance.{account, MomentOf}

-- which queue it is, and how many items it may hold
pub record QueueId : Type 0 where
  pub line : TableId
  pub count : TableId
  pub capacity : ℕ

-- a pass: its queue, its parts of the right to know the whole, what it has put and taken, and whether it has met a
-- full queue
pub record PassView (T : Type 0) : Type 0 where
  pub queue : QueueId
  pub parts : ℕ
  pub puts : List T
  pub takes : List T
  pub met_full : Bool

-- a queue: which it is, and how many passes it was opened with
pub record PostsView : Type 0 where
  pub queue : QueueId
  pub passes : ℕ

module _ {T : Type 0} where
  abbrev pub fresh_pass : QueueId → ℕ → PassView T
  fresh_pass queue parts = record { queue = queue; parts = parts; puts = []; takes = []; met_full = false }

  -- a pass as `open` makes it
  abbrev pub new_pass : QueueId → PassView T
  new_pass queue = fresh_pass queue 1

  abbrev pub after_put : PassView T → T → PassView T
  after_put p x =
      record { queue = p.queue; parts = p.parts; puts = p.puts ++ x ∷ []; takes = p.takes; met_full = p.met_full }

  abbrev pub after_full : PassView T → PassView T
  after_full p = record { queue = p.queue; parts = p.parts; puts = p.puts; takes = p.takes; met_full = true }

  abbrev pub after_take : PassView T → T → PassView T
  after_take p x =
      record { queue = p.queue; parts = p.parts; puts = p.puts; takes = p.takes ++ x ∷ []; met_full = p.met_full }

  abbrev pub IsOf : QueueId → PassView T → Type 0
  IsOf queue p = p.queue ≡ queue

  -- at a moment the queue held so many items, and this pass had put and taken what it now has
  abbrev pub HeldAt : ℕ → PassView T → Type 0
  HeldAt n p = (items : List T) × (length items ≡ n) × MomentOf (account p.parts p.puts p.takes) items

  -- how many items were put by these passes
  abbrev pub put_count : List (PassView T) → ℕ
  put_count passes = sum_by (λ (p : PassView T). length p.puts) passes

  -- each item was put by these passes as often as it was taken by them or is left: whatever items weigh, what was put
  -- weighs as much as what was taken and what is left
  abbrev pub Conserves : List (PassView T) → List T → Type 0
  Conserves passes left =
      (weight : T → ℕ) → sum_by (λ (p : PassView T). sum_by weight p.puts) passes
      ≡ sum_by (λ (p : PassView T). sum_by weight p.takes) passes + sum_by weight left
