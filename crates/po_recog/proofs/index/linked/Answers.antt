use Rattle.std.proofs.Common.{◌≡◌, ◌-◌, ◌+◌, ◌∙◌, List, [], length, drop, reverse, ap, sym, refl, arith, rules}
use Rattle.po_model.specs.declared.machine.Entry.{Entry}
use Rattle.po_recog.specs.Indexes.{first_with, links}
use Rattle.po_recog.proofs.Chains.{firsts_back, nexts_back, first_none, links_none}
use Rattle.po_recog.proofs.index.linked.Goals as goal

pub loop-i-init : goal.loop-i-init
loop-i-init c =
    let es = c.args.entries.now in
    record {
      within = omega arith;
      many = c.requires.heads;
      firsts = λ g h. c.requires.none g h ∙ sym (first_none g es (length es) (omega arith));
      nexts = ap reverse c.in_ok-nexts.ensures.items ∙ sym (links_none es (length es) (omega arith));
    }

pub bounds-entries-i : goal.bounds-entries-i
bounds-entries-i c = let b = c.loop-i.invariant.within in let p = c.loop-i-test.true in omega arith

pub offset_bounds-entries-i : goal.offset_bounds-entries-i
offset_bounds-entries-i c = let b = c.loop-i.invariant.within in let p = c.loop-i-test.true in search rules

pub loop-i-preserved : goal.loop-i-preserved
loop-i-preserved c =
    let es = c.args.entries.now in
    let i = c.loop-i.i in
    let e = c.index-entries-i.result in
    let b = c.loop-i.invariant.within in
    let p = c.loop-i-test.true in
    let same : i - 1 + 1 ≡ i = omega arith in
    let head = c.entry_number-head.ensures.number in
    record {
      within = omega arith;
      many = c.put_number.ensures.len ∙ c.loop-i.invariant.many;
      firsts = firsts_back es i (i - 1) c.entry_number-head.result e same (omega arith) c.index-entries-i.is head
          c.loop-i.firsts c.put_number.new.numbers c.loop-i.invariant.firsts c.put_number.ensures.numbers;
      nexts = nexts_back es i (i - 1) c.entry_number-head.result e same (omega arith) c.index-entries-i.is head
          c.loop-i.nexts.items c.push.new.self.items c.number_at.result c.loop-i.invariant.nexts
          c.in_ok-push.ensures.items
          (c.number_at.ensures ∙ c.loop-i.invariant.firsts c.entry_number-head.result c.entry_number-head.ensures.small);
    }

pub returns-clause-firsts : goal.returns-clause-firsts
returns-clause-firsts c =
    let z : c.loop-i.i ≡ 0 = omega (arith, c.loop-i-test.false) in
    λ g h. c.loop-i.invariant.firsts g h ∙ ap (λ i. first_with g (drop i c.args.entries.now) i) z

pub returns-clause-nexts : goal.returns-clause-nexts
returns-clause-nexts c =
    let z : c.loop-i.i ≡ 0 = omega (arith, c.loop-i-test.false) in
    c.reverse.ensures.items ∙ c.loop-i.invariant.nexts ∙ ap (λ i. links (drop i c.args.entries.now) i) z
