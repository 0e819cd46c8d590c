-- What a worker hands over of a unit.
use Rattle.std.specs.Prelude.{◌≡◌, List, map}
use Rattle.std.specs.List.{flat_map}
use Rattle.po_model.specs.declared.pair.Pair.{Pair}
use Rattle.po_fore.specs.declared.report.Hit.{Hit}
use Rattle.po_fore.specs.declared.report.BlockReport.{BlockReport}
use Rattle.po_crew.specs.declared.unit.Work.{Work}
use Rattle.po_tally.specs.declared.brief.Brief.{Brief}
use Rattle.po_tally.specs.declared.brief.Short.{Short}
use Rattle.po_tally.specs.Tallies.{AreJoined, tally_of}

-- the hits and the misses of all reports, in order
abbrev pub hits_in : List BlockReport → List Hit
hits_in reports = flat_map (λ r. r.used.items) reports

abbrev pub missed_in : List BlockReport → List Pair
missed_in reports = flat_map (λ r. r.misses.items) reports

-- the hits of these reports are counted, and the misses are there
pub record AreShort (reports : List BlockReport) (s : Short) : Type 0 where
  pub tallies : AreJoined (map tally_of (hits_in reports)) s.tallies.items
  pub misses : s.misses.items ≡ missed_in reports

-- of the work the unit, what became of its misses, and its tries, each rule once
pub record IsBriefOf (w : Work) (b : Brief) : Type 0 where
  pub unit : b.unit ≡ w.unit
  pub tallies : AreJoined (map tally_of (hits_in w.reports.items)) b.tallies.items
  pub misses : b.misses.items ≡ missed_in w.reports.items
  pub taken : b.taken ≡ w.taken
  pub dropped : b.dropped ≡ w.dropped
