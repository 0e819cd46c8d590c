-- The rule of what the queue holds, over what each pass has put and taken.
use Rattle.std.specs.Prelude.{◌≡◌, ℕ, ◌+◌, List, [], ◌∷◌, ◌++◌}
use Rattle.std.specs.List.{sum_by}
use mathlib.Core.Option.{some}
use lib.ListN.{get_elem?}
use Rattle.po_queue.specs.declared.balance.Account.{Account}

-- the right to know the whole has so many parts: one for each pass that a queue may have, and one that the queue keeps
abbrev pub all_parts : ℕ
all_parts = 256

module _ {T : Type 0} where
  abbrev pub account : ℕ → List T → List T → Account T
  account parts put taken = record { parts = parts; put = put; taken = taken }

  -- a pass without a part has put and taken nothing
  abbrev pub IdleIsEmpty : List (Account T) → Type 0
  IdleIsEmpty views =
      (port : ℕ) (v : Account T) → get_elem? views port ≡ some v → v.parts ≡ 0 → (v.put ≡ []) × (v.taken ≡ [])

  -- each item was put as often as it was taken or is held: whatever items weigh, what was put weighs as much as what
  -- was taken and what the queue holds
  abbrev pub Balanced : List T → List (Account T) → Type 0
  Balanced items views =
      (sum_by (λ (v : Account T). v.parts) views ≡ all_parts)
      × ((weight : T → ℕ) → sum_by (λ (v : Account T). sum_by weight v.put) views
      ≡ sum_by (λ (v : Account T). sum_by weight v.taken) views + sum_by weight items)
      × IdleIsEmpty views

  -- a moment at which the queue held these items: they are in balance with what all passes had put and taken by then,
  -- of which one had put and taken this
  abbrev pub MomentOf : Account T → List T → Type 0
  MomentOf v items = (views : List (Account T)) × (port : ℕ) × (get_elem? views port ≡ some v) × Balanced items views
