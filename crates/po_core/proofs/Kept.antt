-- Each event keeps the parts.
use Rattle.std.proofs.Common.{◌≡◌, ◌≢◌, ℕ, suc, ◌+◌, ◌<◌, ◌≤◌, Bool, true, false, List, [], ◌∷◌, ◌++◌, length, take}
use Rattle.std.proofs.Common.{All, set, slice_get, Option, Some, None, refl, sym, ◌∙◌, ap, subst, arith, append_assoc}
use Rattle.std.proofs.Common.{add-one}
use Rattle.std.specs.Prelude.{nat_lt, if◌then◌else◌, Result, Ok, Err}
use Rattle.po_word.specs.declared.memory.OutOfMemory.{OutOfMemory}
use mathlib.Core.Logic.{inl, inr}
use Rattle.std.proofs.lemmas.Bool.{ltb-true}
use Rattle.std.proofs.lemmas.List.{append-nil, length-append}
use Rattle.std.proofs.lemmas.List.Elements.{All-set, All-push, All-head, All-tail, All-weaker, All-take, All-contains}
use Rattle.std.proofs.lemmas.List.Quantifiers.{all_pairs_push}
use Rattle.po_model.specs.declared.machine.Machine.{Machine}
use Rattle.po_model.specs.Pairs.{PlainPair, WellFormedPair}
use Rattle.po_model.specs.Holed.{PlainRule}
use Rattle.po_model.specs.Canonical.{Canonical}
use Rattle.po_model.specs.Lookups.{AreCanonical, AreDistinct, FitsRule}
use Rattle.po_model.specs.Learning as learning
use Rattle.po_model.specs.Learning.{TriedOn, put_to, take_from, LearnsTo}
use Rattle.po_model.specs.Scanned.{Scan, Within, Finished, AfterEnd, after_try}
use Rattle.po_core.specs.Fores.{PlainFore, HasBegun, counted, HasTried, HasEnded, IsNext, IsOnward, HasPosted}
use Rattle.po_core.specs.Fores.{HasDropped, SetFore}
use Rattle.po_core.specs.Events.{PlainCore, PlainEvent, Begin, Try, End, Post, Drop, Take, Learn, Publish, IsAllowed}
use Rattle.po_core.specs.Events.{Does, StepsTo, LeadsTo, IsOneOrNone}
use Rattle.po_core.specs.Parts.{AreScanned, ShowsAtMost, IsFore, HoldsFormed, HasParts, BringsCanonical}
use Rattle.po_core.proofs.Lists.{some_same, all_at, all_front}
use Rattle.po_core.proofs.Scanning.{AreBegun, scanned_tried, scanned_on, scanned_done, begun_next, present_going}
use Rattle.po_core.specs.Scans.{IsGoingAt}
use Rattle.po_core.specs.Went.{Went}

-- A foreground after a try

rule_canonical : (m : Machine) (rs : List PlainRule) (n : ℕ) (p : PlainPair) (x : PlainRule) → AreCanonical m rs
    → FitsRule (take n rs) p x → Canonical m x
rule_canonical m rs n p x a f = All-contains (Canonical m) (take n rs) x (All-take (Canonical m) n rs a) f.listed

kept_counted : (m : Machine) (rs : List PlainRule) (n k : ℕ) (f : PlainFore) (s t : Scan) (x : learning.Try)
    → AreCanonical m rs
    → slice_get f.scans f.at ≡ Some s → TriedOn m (take k rs) s x t → IsFore m n f
    → IsFore m n (counted x (record f { scans = set f.scans f.at t }))
kept_counted m rs n k f s t (learning.Used p x) a g h i =
    let agrees = (rule_canonical m rs k p x a h.looked).agrees p h.formed h.looked.instance in
    record {
      shown = i.shown;
      given = i.given;
      scanned = scanned_tried m f.given f.scans f.at f.tries f.ends (f.hits + f.misses) (f.hits + 1 + f.misses) s t p
          i.scanned g
          h.ready (h.goes_on ∙ ap (λ o. after_try o s) (sym agrees)) (omega arith);
      counts = i.counts;
      unposted = i.unposted;
    }
kept_counted m rs n k f s t (learning.Missed p) a g h i = record {
  shown = i.shown;
  given = i.given;
  scanned = scanned_tried m f.given f.scans f.at f.tries f.ends (f.hits + f.misses) (f.hits + (f.misses + 1)) s t p
      i.scanned g
      h.ready h.goes_on (omega arith);
  counts = omega (arith, i.counts, length-append f.unposted (p ∷ []));
  unposted = All-push WellFormedPair f.unposted p i.unposted h.formed;
}

kept_tried : (m : Machine) (rs : List PlainRule) (n : ℕ) (f g : PlainFore) → AreCanonical m rs → HasTried m rs f g
    → IsFore m n f
    → IsFore m n g
kept_tried m rs n f g a h i =
    subst (IsFore m n) (sym h.is) (kept_counted m rs n h.shown f h.scan h.after h.try a h.present h.tried i)

-- A foreground after the end of a block

scanned_ended : (m : Machine) (f g : PlainFore) (s t : Scan) (total : ℕ)
    → AreScanned m f.given f.scans f.at f.tries f.ends total
    → slice_get f.scans f.at ≡ Some s → AfterEnd s t → g.scans ≡ set f.scans f.at t → IsOnward f g t
    → AreScanned m f.given g.scans g.at g.tries g.ends total
scanned_ended m f g s (Within x) total a p e scans o =
    let h = o.going (λ z. z) in
    let ss = set f.scans f.at (Within x) in
    subst (λ ss. AreScanned m f.given ss g.at g.tries g.ends total) (sym scans)
    (subst (λ i. AreScanned m f.given ss i g.tries g.ends total) (sym h.0)
    (subst (λ i. AreScanned m f.given ss f.at i g.ends total) (sym h.1)
    (subst (λ i. AreScanned m f.given ss f.at f.tries i total) (sym h.2)
    (scanned_on m f.given f.scans f.at f.tries f.ends total s (Within x) a p e (λ z. z)))))
scanned_ended m f g s (Finished code) total a p e scans o =
    let h = o.finished tt in
    let n : IsNext g.scans (suc f.at) g.at = subst (λ i. IsNext g.scans i g.at) (add-one f.at) h.0 in
    let done = scanned_done m f.given f.scans f.at f.tries f.ends total s code a p e in
    let b = begun_next m f.given g.scans (suc f.at) g.at total
    (subst (λ ss. AreBegun m f.given ss (suc f.at) total) (sym scans) done) n in
    subst (λ i. AreScanned m f.given g.scans g.at i g.ends total) (sym h.1)
    (subst (λ i. AreScanned m f.given g.scans g.at 0 i total) (sym h.2) b)

kept_ended : (m : Machine) (n : ℕ) (f g : PlainFore) → HasEnded f g → IsFore m n f → IsFore m n g
kept_ended m n f g h i = subst (IsFore m n) (sym h.rest) (record {
  shown = tt;
  given = i.given;
  scanned = scanned_ended m f g h.scan h.after (f.hits + f.misses) i.scanned h.present h.ended h.scans h.onward;
  counts = i.counts;
  unposted = i.unposted;
})

-- A foreground with another snapshot, and with one unposted miss less

kept_begun : (m : Machine) (n shown : ℕ) (f g : PlainFore) → shown ≤ n → HasBegun shown f g → IsFore m n f
    → IsFore m n g
kept_begun m n shown f g l e i = subst (IsFore m n) (sym e)
    (record { shown = l; given = i.given; scanned = i.scanned; counts = i.counts; unposted = i.unposted })

first_formed : (m : Machine) (n : ℕ) (f : PlainFore) (p : PlainPair) (ps : List PlainPair) → f.unposted ≡ p ∷ ps
    → IsFore m n f
    → WellFormedPair p
first_formed m n f p ps e i = All-head WellFormedPair p ps (subst (All WellFormedPair) e i.unposted)

others_formed : (m : Machine) (n : ℕ) (f : PlainFore) (p : PlainPair) (ps : List PlainPair) → f.unposted ≡ p ∷ ps
    → IsFore m n f
    → All WellFormedPair ps
others_formed m n f p ps e i = All-tail WellFormedPair p ps (subst (All WellFormedPair) e i.unposted)

kept_posted : (m : Machine) (n : ℕ) (p : PlainPair) (f g : PlainFore) → HasPosted p f g → IsFore m n f → IsFore m n g
kept_posted m n p f g (ps, e, is) i = subst (IsFore m n) (sym is) (record {
  shown = i.shown;
  given = i.given;
  scanned = i.scanned;
  counts = omega (arith, i.counts, ap length e);
  unposted = others_formed m n f p ps e i;
})

kept_dropped : (m : Machine) (n : ℕ) (p : PlainPair) (f g : PlainFore) → HasDropped p f g → IsFore m n f → IsFore m n g
kept_dropped m n p f g (ps, e, is) i = subst (IsFore m n) (sym is) (record {
  shown = i.shown;
  given = i.given;
  scanned = i.scanned;
  counts = omega (arith, i.counts, ap length e);
  unposted = others_formed m n f p ps e i;
})

shows_more : (o : Option ℕ) (n k : ℕ) → n ≤ k → ShowsAtMost o n → ShowsAtMost o k
shows_more None n k h s = tt
shows_more (Some i) n k h s = omega arith

more_published : (m : Machine) (n k : ℕ) → n ≤ k → (f : PlainFore) → IsFore m n f → IsFore m k f
more_published m n k h f i = record {
  shown = shows_more f.shown n k h i.shown;
  given = i.given;
  scanned = i.scanned;
  counts = i.counts;
  unposted = i.unposted;
}

-- One foreground of several

kept_set : (G : PlainFore → Type 0) (fs gs : List PlainFore) (i : ℕ) (E : PlainFore → PlainFore → Type 0)
    → ((f g : PlainFore) → E f g → G f → G g) → SetFore fs i E gs → All G fs → All G gs
kept_set G fs gs i E k (f, g, at, e, is) a = subst (All G) (sym is) (All-set G fs i g (k f g e (all_at G fs i f at a))
    a)

with_fores : (c d : PlainCore) → d ≡ record c { fores = d.fores }
    → All (IsFore c.machine (length c.published)) d.fores → HasParts c
    → HasParts d
with_fores c d e a h = subst HasParts (sym e) (record {
  machine = h.machine;
  canonical = h.canonical;
  distinct = h.distinct;
  fores = a;
  room = h.room;
  queued = h.queued;
  held = h.held;
})

-- The queue

put_some : (room : ℕ) (q : List PlainPair) (p : PlainPair) (after : List PlainPair) → put_to room q p ≡ Some after
    → (length q < room) × (after ≡ q ++ p ∷ [])
put_some room q p after = go (nat_lt (length q) room) refl
  where
    go : (b : Bool) → nat_lt (length q) room ≡ b → (if b then Some (q ++ p ∷ []) else None) ≡ Some after
        → (length q < room) × (after ≡ q ++ p ∷ [])
    go true e s = (ltb-true (length q) room e, sym (some_same s))
    go false e s = absurd (cc)

take_some : (q : List PlainPair) (p : PlainPair) (after : List PlainPair) → take_from q ≡ Some (p, after)
    → q ≡ p ∷ after
take_some [] p after e = absurd (cc)
take_some (x ∷ xs) p after e = ap (λ (z : PlainPair × List PlainPair). z.0 ∷ z.1) (some_same e)

kept_room : (room : ℕ) (q after : List PlainPair) (p : PlainPair) → (length q < room) × (after ≡ q ++ p ∷ [])
    → length after ≤ room
kept_room room q after p (h, e) = omega (arith, ap length e, length-append q (p ∷ []))

-- The rules

module _ (m : Machine) (published pending after : List PlainRule) (r : PlainRule)
    (learns : LearnsTo published pending r after) where
  kept_rules : IsOneOrNone (published ++ pending) r → Canonical m r → AreCanonical m (published ++ pending)
      → AreDistinct (published ++ pending) → AreCanonical m (published ++ after) × AreDistinct (published ++ after)
  kept_rules (inl one) c a d =
      let e = sym (learns.known one) in
      (subst (λ rs. AreCanonical m (published ++ rs)) e a, subst (λ rs. AreDistinct (published ++ rs)) e d)
  kept_rules (inr none) c a d =
      let e : (published ++ pending) ++ r ∷ [] ≡ published ++ after
      = append_assoc published pending (r ∷ []) ∙ ap (λ rs. published ++ rs) (sym (learns.fresh none)) in (
        subst (AreCanonical m) e (All-push (Canonical m) (published ++ pending) r a c),
        subst AreDistinct e (all_pairs_push (λ s t. s ≢ t) (published ++ pending) r d none),
      )

-- Each event

pub published_canonical : (c : PlainCore) → HasParts c → AreCanonical c.machine c.published
published_canonical c h = all_front (Canonical c.machine) c.published c.pending h.canonical

kept_post : (c d : PlainCore) (i : ℕ) → Does c (Post i) d → HasParts c → HasParts d
kept_post c d i (p, s, q, e) h =
    let G = IsFore c.machine (length c.published) in
    let put = put_some c.room c.queue p d.queue q in
    let formed : WellFormedPair p = first_formed c.machine (length c.published) s.0 p s.3.0 s.3.1
    (all_at G c.fores i s.0 s.2 h.fores) in
    subst HasParts (sym e) (record {
      machine = h.machine;
      canonical = h.canonical;
      distinct = h.distinct;
      fores = kept_set G c.fores d.fores i (HasPosted p) (kept_posted c.machine (length c.published) p) s h.fores;
      room = kept_room c.room c.queue d.queue p put;
      queued = subst (All WellFormedPair) (sym put.1) (All-push WellFormedPair c.queue p h.queued formed);
      held = h.held;
    })

kept_take : (c d : PlainCore) (i : ℕ) → Does c (Take i) d → HasParts c → HasParts d
kept_take c d i (p, q, e) h =
    let was = take_some c.queue p d.queue q in
    let queued : All WellFormedPair (p ∷ d.queue) = subst (All WellFormedPair) was h.queued in
    subst HasParts (sym e) (record {
      machine = h.machine;
      canonical = h.canonical;
      distinct = h.distinct;
      fores = h.fores;
      room = omega (arith, ap length was, h.room);
      queued = All-tail WellFormedPair p d.queue queued;
      held = All-set HoldsFormed c.held i (Some p) (All-head WellFormedPair p d.queue queued) h.held;
    })

kept_learn : (c d : PlainCore) (i : ℕ) (m : Machine) (r : PlainRule) → m ≡ c.machine → Canonical m r
    → Does c (Learn i m r) d
    → HasParts c → HasParts d
kept_learn c d i m r same is (one, learns, e) h =
    let rules = kept_rules c.machine c.published c.pending d.pending r learns one (subst (λ n. Canonical n r) same is)
    h.canonical h.distinct in
    subst HasParts (sym e) (record {
      machine = h.machine;
      canonical = rules.0;
      distinct = rules.1;
      fores = h.fores;
      room = h.room;
      queued = h.queued;
      held = All-set HoldsFormed c.held i None tt h.held;
    })

kept_publish : (c d : PlainCore) → Does c Publish d → HasParts c → HasParts d
kept_publish c d e h =
    let rs = c.published ++ c.pending in
    let same : rs ++ [] ≡ rs = append-nil rs in
    let more : length c.published ≤ length rs = omega (arith, length-append c.published c.pending) in
    subst HasParts (sym e) (record {
      machine = h.machine;
      canonical = subst (AreCanonical c.machine) (sym same) h.canonical;
      distinct = subst AreDistinct (sym same) h.distinct;
      fores = All-weaker (IsFore c.machine (length c.published)) (IsFore c.machine (length rs))
          (more_published c.machine (length c.published) (length rs) more) c.fores h.fores;
      room = h.room;
      queued = h.queued;
      held = h.held;
    })

-- no present code is finished
pub all_going : (c : PlainCore) → HasParts c → All (λ f. IsGoingAt f.scans f.at) c.fores
all_going c h = All-weaker (IsFore c.machine (length c.published)) (λ f. IsGoingAt f.scans f.at)
    (λ f i s at finished. present_going c.machine f.given f.scans f.at f.tries f.ends (f.hits + f.misses) s i.scanned
    at finished)
    c.fores h.fores

-- no snapshot shows more than the published rules
pub all_show : (c : PlainCore) → HasParts c → All (λ f. ShowsAtMost f.shown (length c.published)) c.fores
all_show c h = All-weaker (IsFore c.machine (length c.published)) (λ f. ShowsAtMost f.shown (length c.published))
    (λ f i. i.shown) c.fores h.fores

pub kept : (c d : PlainCore) (e : PlainEvent) → BringsCanonical e → IsAllowed c e → Does c e d → HasParts c
    → HasParts d
kept c d (Begin i shown) b (f, at, can) (s, e) h = with_fores c d e
    (kept_set (IsFore c.machine (length c.published)) c.fores d.fores i (HasBegun shown)
    (λ f g. kept_begun c.machine (length c.published) shown f g can.within) s h.fores) h
kept c d (Try i) b can (s, e) h = with_fores c d e
    (kept_set (IsFore c.machine (length c.published)) c.fores d.fores i (HasTried c.machine c.published)
    (λ f g. kept_tried c.machine c.published (length c.published) f g (published_canonical c h)) s h.fores) h
kept c d (End i) b can (s, e) h = with_fores c d e
    (kept_set (IsFore c.machine (length c.published)) c.fores d.fores i HasEnded
    (kept_ended c.machine (length c.published)) s h.fores) h
kept c d (Post i) b can does h = kept_post c d i does h
kept c d (Drop i) b can (p, q, (s, e)) h = with_fores c d e
    (kept_set (IsFore c.machine (length c.published)) c.fores d.fores i (HasDropped p)
    (kept_dropped c.machine (length c.published) p) s h.fores) h
kept c d (Take i) b can does h = kept_take c d i does h
kept c d (Learn i m r) b (holds, same) does h = kept_learn c d i m r same b does h
kept c d Publish b can does h = kept_publish c d does h

-- where an event may go one way or another
pub kept_went : (r : Result Bool OutOfMemory) (c d : PlainCore) (e : PlainEvent) → BringsCanonical e
    → Went r (IsAllowed c e) (Does c e d) (d ≡ c) → HasParts c → HasParts d
kept_went (Ok true) c d e b (can, does) h = kept c d e b can does h
kept_went (Ok false) c d e b (refused, same) h = subst HasParts (sym same) h
kept_went (Err w) c d e b same h = subst HasParts (sym same) h

-- Every list of events

kept_step : (c d : PlainCore) (e : PlainEvent) → BringsCanonical e → StepsTo c e d → HasParts c → HasParts d
kept_step c d e b (inl (can, does)) h = kept c d e b can does h
kept_step c d e b (inr same) h = subst HasParts (sym same) h

pub kept_list : (c d : PlainCore) (es : List PlainEvent) → All BringsCanonical es → HasParts c → LeadsTo c es d
    → HasParts d
kept_list c d [] b h e = subst HasParts (sym e) h
kept_list c d (e ∷ es) b h (a, s, l) = kept_list a d es (All-tail BringsCanonical e es b)
    (kept_step c a e (All-head BringsCanonical e es b) s h) l
