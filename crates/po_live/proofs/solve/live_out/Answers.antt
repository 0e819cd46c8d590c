use Rattle.std.specs.Global.{Vec}
use Rattle.std.proofs.lemmas.List.{length-map}
use Rattle.po_live.specs.declared.solve.Due.{Due}
use Rattle.po_live.specs.declared.sets.LiveVars.{LiveVars}
use Rattle.std.proofs.Common.{List, length-append, ◌≡◌, ℕ, ◌<◌, ◌≤◌, ◌∙◌, refl, ap, length, map, arith}
use Rattle.po_model.specs.Blocks.{block_of, instrs_at}
use Rattle.po_live.specs.Sets.{sets_any}
use Rattle.po_live.specs.Sets.{holds_at}
use Rattle.po_live.specs.Due.{is_due, is_in, vars_of}
use Rattle.po_live.proofs.Graphs.{written_back}
use Rattle.po_live.proofs.Paths.{is_read}
use Rattle.po_live.proofs.Solved.{begun_blocks, due_popped, due_here, due_none, pred_below, preds_are, passed_on}
use Rattle.po_live.proofs.Solved.{ended}
use Rattle.po_live.proofs.solve.live_out.Goals as goal

pub passing-init : goal.passing-init
passing-init c = record {
  long = c.in_ok-out.ensures.len;
  going =
      begun_blocks c.args.blocks.now c.in_ok-work.work.items c.in_ok-out.out.items c.in_ok-work.ensures
      c.in_ok-out.ensures.empty;
}

pub returns-clause-live : goal.returns-clause-live
returns-clause-live c =
    let none = due_none c.passing.work.items (omega (arith, c.in_default.ensures.cases)) in
    let done = ended (map block_of c.args.blocks.now) (vars_of c.in_ok-work.work.items) (holds_at c.passing.out.items)
    (is_due c.passing.work.items) c.passing.invariant.going none in
    λ b xs q. is_read (map block_of c.args.blocks.now) (holds_at c.passing.out.items) done.0 done.1 q b xs

pub index-requires : goal.index-requires
index-requires c =
    let there = c.passing.invariant.going.due_there c.in-Some.due.block c.in-Some.due.var
    (due_here c.passing.work.items c.pop.new.self.items c.in-Some.due c.in-Some.ensures.items) in
    omega (arith, there, length-map c.args.blocks.now block_of, c.in_ok-preds.ensures.len)

pub spread-requires-clause-here : goal.spread-requires-clause-here
spread-requires-clause-here c = λ p e.
    let there = c.passing.invariant.going.due_there c.in-Some.due.block c.in-Some.due.var
    (due_here c.passing.work.items c.pop.new.self.items c.in-Some.due c.in-Some.ensures.items) in
    let list : c.in-Some.due.block < length c.in_ok-preds.preds.items =
    omega (arith, there, length-map c.args.blocks.now block_of, c.in_ok-preds.ensures.len) in
    let are =
    preds_are c.args.blocks.now c.in_ok-preds.preds.items c.in-Some.due.block c.index.result.now c.deref.result.now
    list (c.deref.ensures.value ∙ ap (λ (v : Vec ℕ). v.items) c.index.ensures) c.in_ok-preds.ensures.leads in
    let h = pred_below (map block_of c.args.blocks.now) c.in-Some.due.block (is_in c.deref.result.now) are p e in
    omega (
      arith,
      h,
      length-map c.args.blocks.now block_of,
      c.passing.invariant.long,
      ap (λ (ls : List LiveVars). length ls) c.deref_mut.ensures.value,
    )

pub passing-smaller : goal.passing-smaller
passing-smaller c =
    let among = c.passing.invariant.going.due_among c.in-Some.due.block c.in-Some.due.var
    (due_here c.passing.work.items c.pop.new.self.items c.in-Some.due c.in-Some.ensures.items) in
    let fuel = rw (c.deref_mut.ensures.value, c.passing.invariant.long) at
    (c.in_ok-spread.ensures.fuel (vars_of c.in_ok-work.work.items) among) in
    let longer = simp length-append at (ap (λ (ds : List Due). length ds) c.in-Some.ensures.items) in
    let keeps : c.passing.out.len ≡ length c.spread.new.out = omega arith in
    let same : length c.passing.out.items ≤ c.passing.out.len = omega arith in
    rw (written_back c.spread.new.out c.passing.out.items c.passing.out.len keeps same) (omega (arith, fuel, longer))

pub passing-preserved : goal.passing-preserved
passing-preserved c =
    let there = c.passing.invariant.going.due_there c.in-Some.due.block c.in-Some.due.var
    (due_here c.passing.work.items c.pop.new.self.items c.in-Some.due c.in-Some.ensures.items) in
    let list : c.in-Some.due.block < length c.in_ok-preds.preds.items =
    omega (arith, there, length-map c.args.blocks.now block_of, c.in_ok-preds.ensures.len) in
    let are =
    preds_are c.args.blocks.now c.in_ok-preds.preds.items c.in-Some.due.block c.index.result.now c.deref.result.now
    list (c.deref.ensures.value ∙ ap (λ (v : Vec ℕ). v.items) c.index.ensures) c.in_ok-preds.ensures.leads in
    let keeps : c.passing.out.len ≡ length c.spread.new.out = omega arith in
    let same : length c.passing.out.items ≤ c.passing.out.len = omega arith in
    let out = rw (c.deref_mut.ensures.value) at (c.in_ok-spread.ensures.out) in
    let work = rw (c.deref_mut.ensures.value) at (c.in_ok-spread.ensures.work) in
    rw (written_back c.spread.new.out c.passing.out.items c.passing.out.len keeps same) (record {
      long = omega arith;
      going =
          passed_on (map block_of c.args.blocks.now) (vars_of c.in_ok-work.work.items) (holds_at c.passing.out.items)
          (is_due c.passing.work.items) c.passing.invariant.going
          c.in-Some.due.block c.in-Some.due.var (is_due c.pop.new.self.items)
          (due_popped c.passing.work.items c.pop.new.self.items c.in-Some.due c.in-Some.ensures.items)
          (is_in c.deref.result.now) are
          (λ b q. sets_any (instrs_at (map block_of c.args.blocks.now) b) q) (holds_at c.spread.new.out)
          (is_due c.spread.new.work.items)
          (λ b q h. refl)
          out work;
    })
