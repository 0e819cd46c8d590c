use Rattle.std.proofs.Common.{arith}
use Rattle.std.proofs.lemmas.List.Elements.{All-same, All-push}
use Rattle.po_slow.specs.States.{IsFormedState}
use Rattle.po_core.proofs.Starting.{scans_more, scans_all, item_formed}
use Rattle.po_core.proofs.fresh.new_scans.Goals as goal

pub new_scan-requires : goal.new_scan-requires
new_scan-requires c = item_formed c.args.codes.now c.loop-c.c-index c.c-item.result c.loop-c-test.true c.c-item.is
    c.requires

pub loop-c-preserved : goal.loop-c-preserved
loop-c-preserved c = record {
  fresh = scans_more c.args.codes.now c.loop-c.c-index c.c-item.result c.loop-c.scans.items c.push.new.xs.items
      c.in_ok-new_scan.field-0 c.loop-c-test.true c.c-item.is c.in_ok-push.ensures c.in_ok-new_scan.ensures.fresh
      c.loop-c.invariant.fresh;
  formed = All-same IsFormedState c.push.new.xs.items _ c.in_ok-push.ensures
      (All-push IsFormedState c.loop-c.scans.items
      c.in_ok-new_scan.field-0 c.loop-c.invariant.formed c.in_ok-new_scan.ensures.formed);
}

pub returns-clause-fresh : goal.returns-clause-fresh
returns-clause-fresh c = scans_all c.args.codes.now c.loop-c.c-index c.loop-c.scans.items (omega arith)
    c.loop-c.invariant.fresh
