-- The states and events of the code as plain ones.
use Rattle.std.specs.Prelude.{◌≡◌, ◌≤◌, List, map, take, drop, length, All, Option, Some, None, ⊤}
use Rattle.std.specs.Global.{Vec}
use Rattle.std.specs.Arc.{arc_value}
use Rattle.po_model.specs.declared.code.Code.{Code}
use Rattle.po_model.specs.declared.pair.Pair.{Pair}
use Rattle.po_model.specs.Blocks.{PlainBlock, code_of}
use Rattle.po_model.specs.Pairs.{PlainPair, pair_of}
use Rattle.po_model.specs.Holed.{rule_of}
use Rattle.po_slow.specs.States.{scan_of, IsFormedState}
use Rattle.po_table.specs.Tables.{shared}
use Rattle.po_core.specs.declared.fore.Fore.{Fore}
use Rattle.po_core.specs.declared.state.Core.{Core}
use Rattle.po_core.specs.declared.event.Event.{Event}
use Rattle.po_core.specs.declared.event.Event.TheVariants as event
use Rattle.po_core.specs.declared.event.StepRefusal.{StepRefusal}
use Rattle.po_core.specs.declared.event.StepRefusal.TheVariants as refusal
use Rattle.po_core.specs.Fores.{PlainFore}
use Rattle.po_core.specs.Events.{PlainCore, PlainEvent, Begin, Try, End, Post, Drop, Take, Learn, Publish, IsAllowed}

abbrev pub fore_of : Fore → PlainFore
fore_of f = record {
  given = map code_of f.given.items;
  scans = map scan_of f.scans.items;
  at = f.at;
  tries = f.tries;
  ends = f.ends;
  shown = f.shown;
  unposted = map pair_of f.unposted.items;
  hits = f.hits;
  misses = f.misses;
  posted = f.posted;
  dropped = f.dropped;
}

abbrev pub held_of : Option Pair → Option PlainPair
held_of None = None
held_of (Some p) = Some (pair_of p)

-- the first rules are published, and the others are pending
abbrev pub core_of : Core → PlainCore
core_of c = record {
  machine = arc_value c.machine;
  published = take c.published (shared c.rules.items);
  pending = drop c.published (shared c.rules.items);
  queue = map pair_of c.queue.items;
  room = c.room;
  fores = map fore_of c.fores.items;
  held = map held_of c.held.items;
}

abbrev pub event_of : Event → PlainEvent
event_of (event.Begin fore shown) = Begin fore shown
event_of (event.Try fore) = Try fore
event_of (event.End fore) = End fore
event_of (event.Post fore) = Post fore
event_of (event.Drop fore) = Drop fore
event_of (event.Take learner) = Take learner
event_of (event.Learn learner l) = Learn learner l.0 (rule_of l.1)
event_of event.Publish = Publish

-- the codes of a foreground
abbrev pub codes_of : Vec Code → List (List PlainBlock)
codes_of codes = map code_of codes.items

-- what every state of the code has: so many rules as are published, and well-formed scans
abbrev pub IsFormedFore : Fore → Type 0
IsFormedFore f = All IsFormedState f.scans.items

pub record IsFormedCore (c : Core) : Type 0 where
  pub within : c.published ≤ length c.rules.items
  pub fores : All IsFormedFore c.fores.items

-- why an event isn't made: it isn't allowed, and comes back; or memory is wanting
abbrev pub Refuses : PlainCore → Event → StepRefusal → Type 0
Refuses c e (refusal.NotAllowed f) = (f ≡ e) × (IsAllowed c (event_of e) → ⊥)
Refuses c e refusal.OutOfMemory = ⊤
