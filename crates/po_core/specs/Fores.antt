-- A foreground as plain data, when each event of it is allowed, and what the event does.
--
-- A foreground scans the codes that it was given, one after the other. Within a block it looks each pair up in its
-- snapshot: the first
-- so many published rules.
use Rattle.std.specs.Prelude.{ℕ, ◌≡◌, ◌+◌, ◌<◌, ◌≤◌, ◌^◌, List, [], ◌∷◌, ◌++◌, length, take, slice_get, slice_set}
use Rattle.std.specs.Prelude.{Option, Some, None}
use Rattle.po_model.specs.declared.machine.Machine.{Machine}
use Rattle.po_model.specs.Blocks.{PlainBlock}
use Rattle.po_model.specs.Pairs.{PlainPair}
use Rattle.po_model.specs.Holed.{PlainRule}
use Rattle.po_model.specs.Lookups.{FitsRule, NoneFits}
use Rattle.po_model.specs.Learning.{Try, Used, Missed, TriedOn}
use Rattle.po_model.specs.Scanned.{Scan, AfterEnd, pair_ready}
use Rattle.po_slow.specs.States.{IsFinished}

-- the codes that it was given; where the scan of each stands; which of them is the present one, all before it being
-- finished; how many
-- pairs of the present one were tried and how many ends of blocks passed; how many rules its snapshot shows, where
-- it has one; the misses
-- that it has still to post; and what it counts
pub record PlainFore : Type 0 where
  pub given : List (List PlainBlock)
  pub scans : List Scan
  pub at : ℕ
  pub tries : ℕ
  pub ends : ℕ
  pub shown : Option ℕ
  pub unposted : List PlainPair
  pub hits : ℕ
  pub misses : ℕ
  pub posted : ℕ
  pub dropped : ℕ

-- one more than n is a number of the state
abbrev pub HasNext : ℕ → Type 0
HasNext n = n + 1 < 2 ^ 64

-- Begin: a snapshot is taken

-- there is a block to scan, no snapshot and no unposted miss, and so many rules are published
pub record CanBegin (published shown : ℕ) (f : PlainFore) : Type 0 where
  pub block : f.at < length f.scans
  pub no_snapshot : f.shown ≡ None
  pub all_posted : f.unposted ≡ []
  pub within : shown ≤ published

abbrev pub HasBegun : ℕ → PlainFore → PlainFore → Type 0
HasBegun shown f g = g ≡ record f { shown = Some shown }

-- Try: a pair is looked up

-- there is a snapshot, and a pair stands ready; and each number that the try raises has a next one
pub record CanTry (published : List PlainRule) (f : PlainFore) : Type 0 where
  pub shown : ℕ
  pub snapshot : f.shown ≡ Some shown
  pub scan : Scan
  pub present : slice_get f.scans f.at ≡ Some scan
  pub pair : PlainPair
  pub ready : pair_ready scan ≡ Some pair
  pub tries : HasNext f.tries
  pub hits : (r : PlainRule) → FitsRule (take shown published) pair r → HasNext f.hits
  pub misses : NoneFits (take shown published) pair → HasNext f.misses

-- what is counted of a try; a miss is one more to post
abbrev pub counted : Try → PlainFore → PlainFore
counted (Used p r) f = record f { tries = f.tries + 1; hits = f.hits + 1 }
counted (Missed p) f = record f { tries = f.tries + 1; misses = f.misses + 1; unposted = f.unposted ++ p ∷ [] }

-- the present scan goes on by one try with the snapshot's rules, and the try is counted
pub record HasTried (m : Machine) (published : List PlainRule) (f g : PlainFore) : Type 0 where
  pub shown : ℕ
  pub snapshot : f.shown ≡ Some shown
  pub scan : Scan
  pub present : slice_get f.scans f.at ≡ Some scan
  pub try : Try
  pub after : Scan
  pub tried : TriedOn m (take shown published) scan try after
  pub is : g ≡ counted try (record f { scans = slice_set f.scans f.at after })

-- End: the end of a block is passed

-- there is a snapshot, and no pair stands ready; and the number of ends of blocks has a next one
pub record CanEnd (f : PlainFore) : Type 0 where
  pub shown : ℕ
  pub snapshot : f.shown ≡ Some shown
  pub scan : Scan
  pub present : slice_get f.scans f.at ≡ Some scan
  pub none_ready : pair_ready scan ≡ None
  pub ends : HasNext f.ends

-- from the n-th code on, k is the first that isn't finished; it is behind the last where all are
pub record IsNext (scans : List Scan) (n k : ℕ) : Type 0 where
  pub order : n ≤ k
  pub within : k ≤ length scans
  pub passed : (i : ℕ) (s : Scan) → n ≤ i → i < k → slice_get scans i ≡ Some s → IsFinished s
  pub here : (s : Scan) → slice_get scans k ≡ Some s → IsFinished s → ⊥

-- where the foreground stands once the present scan stands at t: one end of a block more; or, where the code is
-- finished, before the first
-- block of the next code that has one
pub record IsOnward (f g : PlainFore) (t : Scan) : Type 0 where
  pub going : (IsFinished t → ⊥) → (g.at ≡ f.at) × (g.tries ≡ f.tries) × (g.ends ≡ f.ends + 1)
  pub finished : IsFinished t → IsNext g.scans (f.at + 1) g.at × (g.tries ≡ 0) × (g.ends ≡ 0)

-- the present scan passes the end of its block, and the snapshot is given back
pub record HasEnded (f g : PlainFore) : Type 0 where
  pub scan : Scan
  pub present : slice_get f.scans f.at ≡ Some scan
  pub after : Scan
  pub ended : AfterEnd scan after
  pub scans : g.scans ≡ slice_set f.scans f.at after
  pub onward : IsOnward f g after
  pub rest : g ≡ record f { scans = g.scans; at = g.at; tries = g.tries; ends = g.ends; shown = None }

-- Post and Drop: the first unposted miss is put into the queue, or dropped

pub record CanPost (f : PlainFore) : Type 0 where
  pub no_snapshot : f.shown ≡ None
  pub pair : PlainPair
  pub others : List PlainPair
  pub unposted : f.unposted ≡ pair ∷ others
  pub posted : HasNext f.posted

pub record CanDrop (f : PlainFore) : Type 0 where
  pub no_snapshot : f.shown ≡ None
  pub pair : PlainPair
  pub others : List PlainPair
  pub unposted : f.unposted ≡ pair ∷ others
  pub dropped : HasNext f.dropped

abbrev pub HasPosted : PlainPair → PlainFore → PlainFore → Type 0
HasPosted p f g = (ps : List PlainPair) × (f.unposted ≡ p ∷ ps)
    × (g ≡ record f { unposted = ps; posted = f.posted + 1 })

abbrev pub HasDropped : PlainPair → PlainFore → PlainFore → Type 0
HasDropped p f g = (ps : List PlainPair) × (f.unposted ≡ p ∷ ps)
    × (g ≡ record f { unposted = ps; dropped = f.dropped + 1 })

-- Of several foregrounds

-- P of the i-th
abbrev pub AtFore : List PlainFore → ℕ → (PlainFore → Type 0) → Type 0
AtFore fs i P = (f : PlainFore) × (slice_get fs i ≡ Some f) × P f

-- the i-th changed so, and no other
abbrev pub SetFore : List PlainFore → ℕ → (PlainFore → PlainFore → Type 0) → List PlainFore → Type 0
SetFore fs i E gs = (f : PlainFore) × (g : PlainFore) × (slice_get fs i ≡ Some f) × E f g × (gs ≡ slice_set fs i g)
