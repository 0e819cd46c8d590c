use Rattle.std.proofs.Common.{◌≡◌, ◌<◌, map, length, sym, ap, subst, arith}
use Rattle.std.proofs.lemmas.List.{with_items_is}
use Rattle.po_slow.specs.States.{scan_of}
use Rattle.po_core.specs.Fores.{HasNext}
use Rattle.po_core.specs.Scans.{NoneReadyAt, IsEndedAt}
use Rattle.po_core.specs.Views.{fore_of}
use Rattle.po_core.proofs.Lifting.{present}
use Rattle.po_core.proofs.Ending.{none_ready, at_end_at, has_ended}
use Rattle.po_core.proofs.ended.end_fore.Goals as goal

pub end_scan-requires-clause-at_end : goal.end_scan-requires-clause-at_end
end_scan-requires-clause-at_end c =
    let f = c.args.f.now in
    let none : NoneReadyAt (map scan_of c.deref.result.now) f.at
    = none_ready c.in_ok-ready_at.field-0 _ _ (sym c.if-is_some.ensures) c.in_ok-ready_at.ensures in
    let here : NoneReadyAt (map scan_of f.scans.items) f.at
    = subst (λ xs. NoneReadyAt (map scan_of xs) f.at) c.deref.ensures.value none in
    at_end_at f.scans.items c.deref_mut.result.now f.at c.deref_mut.ensures.value c.requires.formed c.requires.going
    here

pub returns-clause-went : goal.returns-clause-went
returns-clause-went c =
    let f = c.args.f.now in
    let none : NoneReadyAt (map scan_of c.deref.result.now) f.at
    = none_ready c.in_ok-ready_at.field-0 _ _ (sym c.if-is_some.ensures) c.in_ok-ready_at.ensures in
    let here : NoneReadyAt (map scan_of f.scans.items) f.at
    = subst (λ xs. NoneReadyAt (map scan_of xs) f.at) c.deref.ensures.value none in
    let h : f.at < length f.scans.items = omega arith in
    let p = present f.scans.items f.at h in
    let len : length c.end_scan.new.scans ≡ f.scans.len =
    omega (arith, c.end_scan.auto.scans, c.deref_mut.ensures.len) in
    let ended : IsEndedAt (map scan_of f.scans.items) f.at (map scan_of c.end_scan.new.scans)
    = subst (λ xs. IsEndedAt (map scan_of xs) f.at (map scan_of c.end_scan.new.scans)) c.deref_mut.ensures.value
    c.in_ok-end_scan.ensures.ended in
    let next : HasNext f.ends = omega arith in (
      record {
        shown = c.in-Some._shown;
        snapshot = c.in-Some.is;
        scan = p.0;
        present = p.1;
        none_ready =
            here p.0 p.1;
        ends = next;
      },
      has_ended (fore_of f) (fore_of c.go_on.new.f) (map scan_of c.end_scan.new.scans) _ p.0
          (ap (map scan_of) (with_items_is f.scans c.end_scan.new.scans len)) ended c.go_on.ensures.goes p.1,
    )
