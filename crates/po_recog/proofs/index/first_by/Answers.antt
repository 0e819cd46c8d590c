use Rattle.std.proofs.Common.{◌≡◌, ◌∙◌, ℕ, List, ap, sym, arith}
use Rattle.std.specs.Prelude.{◌<◌}
use Rattle.po_term.specs.Moves.{moves_of}
use Rattle.po_recog.specs.Heads.{head_number, list_number}
use Rattle.po_recog.specs.Indexes.{number_at, first_with, links}
use Rattle.po_recog.proofs.Chains.{begin_head, begin_rest, next_head, next_rest, next_far, unfilled, filled_first}
use Rattle.po_recog.proofs.index.first_by.Goals as goal

pub loop-next-init : goal.loop-next-init
loop-next-init c =
    let ms = moves_of c.args.xs.now in
    let es = c.args.entries.now in
    let g = c.number_of.result in
    let same : g ≡ list_number ms = c.number_of.ensures.number ∙ ap head_number c.head_of.ensures in
    let first : c.number_at-next.result ≡ first_with g es 0 =
    c.number_at-next.ensures ∙ ap (λ (ns : List ℕ). number_at ns g) c.deref.ensures.value
    ∙ c.requires.firsts g c.number_of.ensures.small in
    record {
      head = begin_head c.args.cc_live ms es g c.number_at-next.result same first;
      rest = begin_rest c.args.cc_live ms es g c.number_at-next.result same first;
    }

pub returns-then-fills : goal.returns-then-fills
returns-then-fills c = filled_first c.args.cc_live (moves_of c.args.xs.now) c.args.entries.now c.loop-next.next
    c.index-entries-next.result c.fills.result c.fills.new.slots c.loop-next-test.true c.index-entries-next.is
    c.if-fills.true c.fills.ensures c.loop-next.invariant.rest

pub loop-next-smaller : goal.loop-next-smaller
loop-next-smaller c =
    let e = c.index-entries-next.result in
    let b = c.loop-next-test.true in
    let link : c.number_at-next-in-loop-next.result ≡ number_at (links c.args.entries.now 0) c.loop-next.next =
    c.number_at-next-in-loop-next.ensures
    ∙ ap (λ (ns : List ℕ). number_at ns c.loop-next.next) (c.deref-in-loop-next.ensures.value ∙ c.requires.nexts) in
    let far = next_far c.args.cc_live (moves_of c.args.xs.now) c.args.entries.now c.loop-next.next
    c.number_at-next-in-loop-next.result e b c.index-entries-next.is
    (c.loop-next.invariant.head e b c.index-entries-next.is) link in
    omega arith

pub loop-next-preserved : goal.loop-next-preserved
loop-next-preserved c =
    let ms = moves_of c.args.xs.now in
    let es = c.args.entries.now in
    let e = c.index-entries-next.result in
    let b = c.loop-next-test.true in
    let link : c.number_at-next-in-loop-next.result ≡ number_at (links es 0) c.loop-next.next =
    c.number_at-next-in-loop-next.ensures
    ∙ ap (λ (ns : List ℕ). number_at ns c.loop-next.next) (c.deref-in-loop-next.ensures.value ∙ c.requires.nexts) in
    let head = c.loop-next.invariant.head e b c.index-entries-next.is in
    let none = unfilled c.args.cc_live ms e c.fills.result c.fills.new.slots c.if-fills.false c.fills.ensures in
    record {
      head = next_head c.args.cc_live ms es c.loop-next.next c.number_at-next-in-loop-next.result e b
          c.index-entries-next.is head link;
      rest = next_rest c.args.cc_live ms es c.loop-next.next c.number_at-next-in-loop-next.result e b
          c.index-entries-next.is head link none ∙ c.loop-next.invariant.rest;
    }
