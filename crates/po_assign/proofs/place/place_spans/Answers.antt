use Rattle.std.proofs.Common.{◌≡◌, ◌+◌, ◌∙◌, ap, replicate, refl, rules, count_by, ◌==◌, slice_index_or}
use Rattle.po_assign.specs.declared.spans.Span.{Span}
use Rattle.po_assign.proofs.Lists.{rest_whole}
use Rattle.po_assign.proofs.Standing.{standing_begin}
use Rattle.po_assign.proofs.Turns.{crowded_turn, placed_turn, last_turn}
use Rattle.po_assign.proofs.place.place_spans.Goals as goal

pub loop-index-init : goal.loop-index-init
loop-index-init c =
    let none : c.in_ok-ends.ends.items ≡ replicate c.args.count 0 = search rules in
    rw (none, c.in_ok-regs.ensures.items) (standing_begin c.args.count _ c.requires.rising)

pub returns-in_default : goal.returns-in_default
returns-in_default c =
    let xs = c.args.spans.now in
    let p = c.loop-index.index in
    let busy = rw c.deref.ensures.value at c.in_default.ensures in
    let d : Span = record { register = 0; start = 0; finish = 0 } in
    let s = slice_index_or xs p d in
    let rest = ap (λ ss. c.args.count + count_by (λ (t : Span). t.start == s.start) ss) (rest_whole xs p) in
    crowded_turn c.args.count xs p c.loop-index.ends.items c.loop-index.regs.items d s _ c.loop-index-test.true refl
    c.loop-index.invariant busy
    (ap (λ k. c.args.count + k) c.starting_at.ensures ∙ rest)

pub loop-index-preserved : goal.loop-index-preserved
loop-index-preserved c =
    let xs = c.args.spans.now in
    let p = c.loop-index.index in
    let found = rw c.deref.ensures.value at c.in-Some.ensures in
    let d : Span = record { register = 0; start = 0; finish = 0 } in
    placed_turn c.args.count xs p c.loop-index.ends.items c.loop-index.regs.items c.push.new.self.items d
    (slice_index_or xs p d) c.in-Some.free
    c.loop-index-test.true refl c.loop-index.invariant found.0 found.1 found.2 c.in_ok-push.ensures.items

pub returns : goal.returns
returns c = last_turn c.args.count c.args.spans.now c.loop-index.index c.loop-index.ends.items c.loop-index.regs.items
    c.loop-index-test.false c.loop-index.invariant
