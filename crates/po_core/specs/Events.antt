-- The state of foregrounds and learners over one list of rules and one queue, as plain data; the events, when each
-- is allowed, and what it
-- does.
use Rattle.std.specs.Prelude.{ℕ, ◌≡◌, ◌≢◌, ◌<◌, ◌≤◌, List, [], ◌∷◌, ◌++◌, length, slice_get, slice_set}
use Rattle.std.specs.Prelude.{All, Contains, Option, Some, None, ⊤}
use mathlib.Core.Logic.{◌⊎◌}
use Rattle.po_model.specs.declared.machine.Machine.{Machine}
use Rattle.po_model.specs.Pairs.{PlainPair}
use Rattle.po_model.specs.Holed.{PlainRule}
use Rattle.po_model.specs.Agrees.{Instance}
use Rattle.po_model.specs.Learning.{put_to, take_from, LearnsTo}
use Rattle.po_core.specs.Fores.{PlainFore, CanBegin, HasBegun, CanTry, HasTried, CanEnd, HasEnded}
use Rattle.po_core.specs.Fores.{CanPost, HasPosted, CanDrop, HasDropped, AtFore, SetFore}

-- the machine; the rules that are published, and those that are pending; the queue, and how many pairs it may hold;
-- the foregrounds; and
-- the pair that each learner holds, where it holds one
pub record PlainCore : Type 0 where
  pub machine : Machine
  pub published : List PlainRule
  pub pending : List PlainRule
  pub queue : List PlainPair
  pub room : ℕ
  pub fores : List PlainFore
  pub held : List (Option PlainPair)

-- the events: of the foreground, or the learner, of that number
pub data PlainEvent : Type 0 where
  -- the foreground takes a snapshot, which shows so many published rules
  Begin : ℕ → ℕ → PlainEvent
  -- it looks up the pair that stands ready
  Try : ℕ → PlainEvent
  -- it passes the end of the block, and gives the snapshot back
  End : ℕ → PlainEvent
  -- its first unposted miss goes to the back of the queue
  Post : ℕ → PlainEvent
  -- its first unposted miss is dropped
  Drop : ℕ → PlainEvent
  -- the learner takes the front of the queue
  Take : ℕ → PlainEvent
  -- the learner has learned a rule of that machine from the pair that it holds
  Learn : ℕ → Machine → PlainRule → PlainEvent
  -- the pending rules are published
  Publish : PlainEvent

-- a pair is held that is an instance of the rule
abbrev pub HoldsOne : Option PlainPair → PlainRule → Type 0
HoldsOne None r = ⊥
HoldsOne (Some p) r = Instance r p

-- the i-th learner holds such a pair
abbrev pub Holds : List (Option PlainPair) → ℕ → PlainRule → Type 0
Holds held i r = (o : Option PlainPair) × (slice_get held i ≡ Some o) × HoldsOne o r

-- the rule is one of these, or none of them
abbrev pub IsOneOrNone : List PlainRule → PlainRule → Type 0
IsOneOrNone rs r = Contains rs r ⊎ All (λ s. s ≢ r) rs

-- the event is allowed
abbrev pub IsAllowed : PlainCore → PlainEvent → Type 0
IsAllowed c (Begin i shown) = AtFore c.fores i (CanBegin (length c.published) shown)
IsAllowed c (Try i) = AtFore c.fores i (CanTry c.published)
IsAllowed c (End i) = AtFore c.fores i CanEnd
IsAllowed c (Post i) = AtFore c.fores i CanPost × (length c.queue < c.room)
IsAllowed c (Drop i) = AtFore c.fores i CanDrop × (c.room ≤ length c.queue)
IsAllowed c (Take i) = (slice_get c.held i ≡ Some None) × (c.queue ≢ [])
IsAllowed c (Learn i m r) = Holds c.held i r × (m ≡ c.machine)
IsAllowed c Publish = ⊤

-- the i-th foreground changed so, and nothing else
abbrev pub OnFore : PlainCore → ℕ → (PlainFore → PlainFore → Type 0) → PlainCore → Type 0
OnFore c i E d = SetFore c.fores i E d.fores × (d ≡ record c { fores = d.fores })

-- what the event does
abbrev pub Does : PlainCore → PlainEvent → PlainCore → Type 0
Does c (Begin i shown) d = OnFore c i (HasBegun shown) d
Does c (Try i) d = OnFore c i (HasTried c.machine c.published) d
Does c (End i) d = OnFore c i HasEnded d
Does c (Post i) d = (p : PlainPair) × SetFore c.fores i (HasPosted p) d.fores
    × (put_to c.room c.queue p ≡ Some d.queue)
    × (d ≡ record c { fores = d.fores; queue = d.queue })
Does c (Drop i) d = (p : PlainPair) × (put_to c.room c.queue p ≡ None) × OnFore c i (HasDropped p) d
Does c (Take i) d = (p : PlainPair) × (take_from c.queue ≡ Some (p, d.queue))
    × (d ≡ record c { queue = d.queue; held = slice_set c.held i (Some p) })
Does c (Learn i m r) d = IsOneOrNone (c.published ++ c.pending) r × LearnsTo c.published c.pending r d.pending
    × (d ≡ record c { pending = d.pending; held = slice_set c.held i None })
Does c Publish d = d ≡ record c { published = c.published ++ c.pending; pending = [] }

-- the event was allowed and made; or nothing changed
abbrev pub StepsTo : PlainCore → PlainEvent → PlainCore → Type 0
StepsTo c e d = (IsAllowed c e × Does c e d) ⊎ (d ≡ c)

-- a list of events leads from one state to another
abbrev pub LeadsTo : PlainCore → List PlainEvent → PlainCore → Type 0
LeadsTo c [] d = d ≡ c
LeadsTo c (e ∷ es) d = (b : PlainCore) × StepsTo c e b × LeadsTo b es d
