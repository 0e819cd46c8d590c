-- What is left of passes when each thread of a run has ended.
use Rattle.std.specs.Prelude.{◌≡◌, ℕ, ◌<◌, true, List, [], ◌∷◌, length, Option, None, Some, slice_get}
use Rattle.std.specs.List.{sum_by, All}
use Rattle.po_queue.specs.Passes.{QueueId, PassView, IsOf, put_count}

module _ {T : Type 0} where
  -- the passes that are there
  abbrev pub passes_in : List (Option (PassView T)) → List (PassView T)
  passes_in [] = []
  passes_in (None ∷ ps) = passes_in ps
  passes_in (Some p ∷ ps) = p ∷ passes_in ps

  -- how many items were taken with these passes
  abbrev pub take_count : List (PassView T) → ℕ
  take_count passes = sum_by (λ (p : PassView T). length p.takes) passes

  -- one of the passes has met a full queue
  abbrev pub HaveMetFull : List (PassView T) → Type 0
  HaveMetFull passes = (k : ℕ) × (p : PassView T) × (slice_get passes k ≡ Some p) × (p.met_full ≡ true)

  -- these passes of one queue have so many parts together. They put as many items as it took, and where it didn't take
  -- one, a pass of them has met a full queue
  pub record AreBack (queue : QueueId) (parts taken dropped : ℕ) (passes : List (PassView T)) : Type 0 where
    pub each : All (IsOf queue) passes
    pub parts_are : sum_by (λ (p : PassView T). p.parts) passes ≡ parts
    pub put : put_count passes ≡ taken
    pub full : 0 < dropped → HaveMetFull passes
