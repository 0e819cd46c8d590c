-- How the pass that a queue keeps takes in all others when the queue is drained.
use Rattle.std.specs.Prelude.{◌≡◌, ℕ, ◌+◌, ◌-◌, Bool, true, ◌||◌, List, [], ◌∷◌, ◌++◌, length}
use Rattle.std.specs.List.{sum_by, All}
use Rattle.po_queue.specs.Passes.{PassView, put_count}

module _ {T : Type 0} where
  -- a pass of which one part was cut off
  abbrev pub after_cut : PassView T → PassView T
  after_cut p = record { queue = p.queue; parts = p.parts - 1; puts = p.puts; takes = p.takes; met_full = p.met_full }

  -- two passes made one
  abbrev pub merged : PassView T → PassView T → PassView T
  merged p q = record {
    queue = p.queue;
    parts = p.parts + q.parts;
    puts = p.puts ++ q.puts;
    takes = p.takes ++ q.takes;
    met_full = p.met_full || q.met_full;
  }

  -- the pass with every part is in balance with what the queue holds
  abbrev pub Settles : PassView T → List T → Type 0
  Settles p items = (weight : T → ℕ) → sum_by weight p.puts ≡ sum_by weight p.takes + sum_by weight items

  -- the first pass has become k, when it took in these passes
  pub record Gathered (first k : PassView T) (passes : List (PassView T)) : Type 0 where
    pub queue : k.queue ≡ first.queue
    pub parts : k.parts ≡ first.parts + sum_by (λ (p : PassView T). p.parts) passes
    pub puts : (weight : T → ℕ) → sum_by weight k.puts ≡ sum_by (λ (p : PassView T). sum_by weight p.puts) passes
    pub takes : (weight : T → ℕ) → sum_by weight k.takes ≡ sum_by (λ (p : PassView T). sum_by weight p.takes) passes
    pub count : length k.puts ≡ put_count passes
    pub full : All (λ (p : PassView T). p.met_full ≡ true → k.met_full ≡ true) passes

  -- the pass has become k, when it took these items
  abbrev pub Took : PassView T → PassView T → List T → Type 0
  Took first k items = k ≡ record {
    queue = first.queue;
    parts = first.parts;
    puts = first.puts;
    takes = first.takes ++ items;
    met_full = first.met_full;
  }
