use Rattle.std.proofs.Common.{◌<◌, length, refl, arith}
use Rattle.std.proofs.lemmas.Bool.{false≢true}
use Rattle.po_core.proofs.Ending.{passed_more, next_here, next_end}
use Rattle.po_core.proofs.scans.next_from.Goals as goal

pub codes-preserved : goal.codes-preserved
codes-preserved c =
    let h : c.codes.at < length c.args.scans.now = omega arith in
    record {
      order = omega (arith, c.codes.invariant.order);
      within = omega arith;
      passed = passed_more c.args.scans.now c.args.from c.codes.at c.index-scans-at.result h c.index-scans-at.is
          (c.if-is_finished.ensures.0 refl) c.codes.invariant.passed;
    }

pub returns-else-is_finished : goal.returns-else-is_finished
returns-else-is_finished c =
    let h : c.codes.at < length c.args.scans.now = omega arith in
    next_here c.args.scans.now c.args.from c.codes.at c.index-scans-at.result h c.index-scans-at.is
    c.codes.invariant.order
    (λ f. false≢true (c.if-is_finished.ensures.1 f)) c.codes.invariant.passed

pub returns-after-codes : goal.returns-after-codes
returns-after-codes c = next_end c.args.scans.now c.args.from c.codes.at c.codes.invariant.order
    c.codes.invariant.within
    (omega arith) c.codes.invariant.passed
