-- What the reports behind the briefs tell of: which pairs were tried, and by which rules.
use Rattle.std.proofs.Common.{ℕ, ◌≡◌, ◌+◌, List, length}
use Rattle.std.specs.List.{All, sum_by}
use Rattle.po_model.specs.declared.machine.Machine.{Machine}
use Rattle.po_model.specs.declared.pair.Pair.{Pair}
use Rattle.po_model.specs.Pairs.{PlainPair, pair_of}
use Rattle.po_fore.specs.declared.report.Hit.{Hit}
use Rattle.po_fore.specs.declared.report.BlockReport.{BlockReport}
use Rattle.po_settle.specs.Reported.{HasFormedMisses}
use Rattle.po_opt.specs.Told.{IsHit}

-- a report of hits and misses
pub record IsReport (m : Machine) (r : BlockReport) : Type 0 where
  pub hits : All (IsHit m) r.used.items
  pub misses : HasFormedMisses r

-- what hits weigh, misses, and all pairs of a report
abbrev pub hit_weight : (PlainPair → ℕ) → Hit → ℕ
hit_weight weight h = weight (pair_of h.pair)

abbrev pub miss_weight : (PlainPair → ℕ) → Pair → ℕ
miss_weight weight p = weight (pair_of p)

abbrev pub weight_in : (PlainPair → ℕ) → BlockReport → ℕ
weight_in weight r = sum_by (hit_weight weight) r.used.items + sum_by (miss_weight weight) r.misses.items

-- reports tell of these pairs, each as often: whatever pairs weigh, those of the reports weigh as much
abbrev pub TellOf : List BlockReport → List PlainPair → Type 0
TellOf reports pairs = (weight : PlainPair → ℕ) → sum_by (weight_in weight) reports ≡ sum_by weight pairs

-- how many hits and misses there are
abbrev pub hit_count : List BlockReport → ℕ
hit_count reports = sum_by (λ r. length r.used.items) reports

abbrev pub miss_count : List BlockReport → ℕ
miss_count reports = sum_by (λ r. length r.misses.items) reports
