-- What every list of events keeps.
use Rattle.std.specs.Prelude.{ℕ, zero, suc, ◌≡◌, ◌+◌, ◌≤◌, List, [], ◌∷◌, ◌++◌, length, All, Option, Some, None, ⊤}
use Rattle.po_model.specs.declared.machine.Machine.{Machine}
use Rattle.po_model.specs.Machines.{IsMachine}
use Rattle.po_model.specs.Blocks.{PlainBlock}
use Rattle.po_model.specs.UnitCodes.{IsFormedCode}
use Rattle.po_model.specs.Pairs.{PlainPair, WellFormedPair}
use Rattle.po_model.specs.Combined.{combination}
use Rattle.po_model.specs.Scanned.{Scan, Finished, IsPassStart, IsSlowed, StandsAt}
use Rattle.po_model.specs.Canonical.{Canonical}
use Rattle.po_model.specs.Lookups.{AreCanonical, AreDistinct}
use Rattle.po_slow.specs.States.{IsFinished}
use Rattle.po_core.specs.Fores.{PlainFore, IsNext}
use Rattle.po_core.specs.Events.{PlainCore, PlainEvent, Learn, LeadsTo}

-- The codes of a foreground

-- the code is finished: it is what all passes make of the one that was given, by slow combination, with so many tries
pub record IsDone (m : Machine) (given : List PlainBlock) (s : Scan) (tries : ℕ) : Type 0 where
  pub code : List PlainBlock
  pub scan : s ≡ Finished code
  pub pairs : List PlainPair
  pub slowed : IsSlowed m given pairs code
  pub count : tries ≡ length pairs

-- codes that aren't begun: each scan is at the start of the first pass
abbrev pub AreFresh : List (List PlainBlock) → List Scan → Type 0
AreFresh [] [] = ⊤
AreFresh [] (s ∷ ss) = ⊥
AreFresh (c ∷ cs) [] = ⊥
AreFresh (c ∷ cs) (s ∷ ss) = IsPassStart c s × AreFresh cs ss

-- the first `at` codes are finished; the next one isn't, and stands where slow combination stands after so many
-- tries and ends of blocks;
-- the others aren't begun; and so many pairs were tried over all
abbrev pub AreScanned : Machine → List (List PlainBlock) → List Scan → ℕ → ℕ → ℕ → ℕ → Type 0
AreScanned m [] [] zero tries ends total = (tries ≡ 0) × (ends ≡ 0) × (total ≡ 0)
AreScanned m [] [] (suc at) tries ends total = ⊥
AreScanned m [] (s ∷ ss) at tries ends total = ⊥
AreScanned m (c ∷ cs) [] at tries ends total = ⊥
AreScanned m (c ∷ cs) (s ∷ ss) zero tries ends total = (IsFinished s → ⊥) × StandsAt (combination m) c tries ends s
    × AreFresh cs ss
    × (total ≡ tries)
AreScanned m (c ∷ cs) (s ∷ ss) (suc at) tries ends total = (i : ℕ) × (j : ℕ) × IsDone m c s i
    × AreScanned m cs ss at tries ends j
    × (total ≡ i + j)

-- The parts

-- a snapshot shows no more rules than so many
abbrev pub ShowsAtMost : Option ℕ → ℕ → Type 0
ShowsAtMost None n = ⊤
ShowsAtMost (Some shown) n = shown ≤ n

-- the parts of a foreground, where so many rules are published
pub record IsFore (m : Machine) (published : ℕ) (f : PlainFore) : Type 0 where
  -- its snapshot is a prefix of the published rules
  pub shown : ShowsAtMost f.shown published
  -- each code that it was given has well-formed instructions, and its control transfers stand last
  pub given : All IsFormedCode f.given
  -- finished codes are slow combination's, the present one stands where slow combination stands, and tries are hits
  -- and misses
  pub scanned : AreScanned m f.given f.scans f.at f.tries f.ends (f.hits + f.misses)
  -- a miss is unposted, posted or dropped
  pub counts : f.misses ≡ length f.unposted + f.posted + f.dropped
  -- and each unposted one is well formed
  pub unposted : All WellFormedPair f.unposted

abbrev pub HoldsFormed : Option PlainPair → Type 0
HoldsFormed None = ⊤
HoldsFormed (Some p) = WellFormedPair p

pub record HasParts (c : PlainCore) : Type 0 where
  pub machine : IsMachine c.machine
  -- the rules, published and pending, are canonical, and no two are the same
  pub canonical : AreCanonical c.machine (c.published ++ c.pending)
  pub distinct : AreDistinct (c.published ++ c.pending)
  pub fores : All (IsFore c.machine (length c.published)) c.fores
  -- the queue holds at most its room, and each pair that is queued or held is well formed
  pub room : length c.queue ≤ c.room
  pub queued : All WellFormedPair c.queue
  pub held : All HoldsFormed c.held

-- A new core

-- a foreground before its first block
pub record IsNewFore (codes : List (List PlainBlock)) (f : PlainFore) : Type 0 where
  pub fresh : AreFresh codes f.scans
  pub first : IsNext f.scans 0 f.at
  pub rest : f ≡ record {
    given = codes;
    scans = f.scans;
    at = f.at;
    tries = 0;
    ends = 0;
    shown = None;
    unposted = [];
    hits = 0;
    misses = 0;
    posted = 0;
    dropped = 0;
  }

-- a foreground for each of these lists of codes
abbrev pub AreNewFores : List (List (List PlainBlock)) → List PlainFore → Type 0
AreNewFores [] [] = ⊤
AreNewFores [] (f ∷ fs) = ⊥
AreNewFores (u ∷ us) [] = ⊥
AreNewFores (u ∷ us) (f ∷ fs) = IsNewFore u f × AreNewFores us fs

-- no rule, no pair in the queue, no learner that holds one
pub record IsNewCore (m : Machine) (units : List (List (List PlainBlock))) (learners room : ℕ) (c : PlainCore) : Type
    0 where
  pub fores : AreNewFores units c.fores
  pub many_held : length c.held ≡ learners
  pub none_held : All (λ o. o ≡ None) c.held
  pub rest : c ≡ record {
    machine = m;
    published = [];
    pending = [];
    queue = [];
    room = room;
    fores = c.fores;
    held =
        c.held;
  }

-- Every list of events

-- the rule that an event brings is canonical, as each learned rule is
abbrev pub BringsCanonical : PlainEvent → Type 0
BringsCanonical (Learn i m r) = Canonical m r
BringsCanonical e = ⊤

-- from any state that has the parts, every list of events leads to one that has them
abbrev pub EventsKeepParts : Type 0
EventsKeepParts = (c d : PlainCore) (es : List PlainEvent) → All BringsCanonical es → HasParts c → LeadsTo c es d
    → HasParts d

-- and so it does from a new core on any machine that a description may tell of, whose codes are formed
abbrev pub EventsOfNewCoresKeepParts : Type 0
EventsOfNewCoresKeepParts = (m : Machine) (units : List (List (List PlainBlock))) (learners room : ℕ) (c d : PlainCore)
    (es : List PlainEvent) → IsMachine m → All (All IsFormedCode) units → IsNewCore m units learners room c
    → All BringsCanonical es → LeadsTo c es d → HasParts d
