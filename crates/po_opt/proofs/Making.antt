-- What a run makes of its works.
use Rattle.std.proofs.Common.{◌≡◌, ℕ, ◌+◌, List, All, length, map, subst, sym, ◌∙◌, ap, arith}
use Rattle.std.proofs.lemmas.List.Concat.{length-flat_map}
use Rattle.po_model.specs.declared.code.UnitCode.{UnitCode}
use Rattle.po_model.specs.declared.machine.Machine.{Machine}
use Rattle.po_model.specs.Pairs.{pair_of, WellFormedPair}
use Rattle.po_model.specs.UnitCodes.{PlainUnit}
use Rattle.po_fore.specs.declared.report.BlockReport.{BlockReport}
use Rattle.po_tally.specs.declared.brief.Brief.{Brief}
use Rattle.po_tally.specs.declared.tally.Tally.{Tally}
use Rattle.po_tally.specs.Briefs.{hits_in, missed_in}
use Rattle.po_tally.specs.Tallies.{AreJoined, tally_of}
use Rattle.po_tally.proofs.Joining.{joined_through}
use Rattle.po_team.specs.Works.{AreWorksOf, taken_in, dropped_in}
use Rattle.po_opt.specs.declared.finish.Opted.{Opted}
use Rattle.po_opt.specs.declared.works.Told.{Told}
use Rattle.po_opt.specs.Counts.{AreCounts, IsMade}
use Rattle.po_opt.specs.Told.{AreSlowed, AreTold, IsTally, codes_in, tallies_in, misses_in, units_of}
use Rattle.po_opt.proofs.Telling.{AllTold, behind, brief_misses, brief_taken, brief_tallies, misses_all, reports_in}
use Rattle.po_opt.proofs.Telling.{slowed_behind, told_all}
use Rattle.po_opt.proofs.ByRules.{are_told, misses_are, tallies_are}

module _ (m : Machine) (codes : List UnitCode) (briefs : List Brief) (told : Told)
    (are : AreWorksOf m codes briefs) (joined : AreJoined (tallies_in briefs) told.tallies.items)
    (missed : told.misses.items ≡ misses_in briefs) where
  abbrev reports : List BlockReport
  reports = reports_in (behind m codes briefs are).works

  all : AllTold m (units_of codes) reports
  all = let b = behind m codes briefs are in told_all m codes b.works b.works_are

  tallies : AreJoined (map tally_of (hits_in reports)) told.tallies.items
  tallies =
      let b = behind m codes briefs are in
      joined_through (map tally_of (hits_in reports)) (tallies_in briefs) told.tallies.items
      (brief_tallies b.works briefs b.briefs_are) joined

  misses : told.misses.items ≡ missed_in reports
  misses = let b = behind m codes briefs are in missed ∙ brief_misses b.works briefs b.briefs_are

  pub told_tallies : All (IsTally m) told.tallies.items
  told_tallies = tallies_are m (units_of codes) reports told.tallies.items told.misses.items all tallies misses

  pub told_formed : All WellFormedPair (map pair_of told.misses.items)
  told_formed = misses_are m (units_of codes) reports told.tallies.items told.misses.items all tallies misses

  pub told_posted : told.taken ≡ taken_in briefs → told.dropped ≡ dropped_in briefs
      → told.taken + told.dropped ≡ length told.misses.items
  told_posted taken dropped =
      let b = behind m codes briefs are in
      let counts = brief_taken b.works briefs b.briefs_are in
      omega (
        arith,
        taken,
        dropped,
        counts.0,
        counts.1,
        misses_all m codes b.works b.works_are,
        ap length misses,
        length-flat_map (λ (r : BlockReport). r.misses.items) reports,
      )

  pub made_by : (capacity learners : ℕ) (made : Opted) → capacity ≡ 1024 → told.codes.items ≡ codes_in briefs
      → made.codes.items ≡ told.codes.items
      → ((us : List PlainUnit) → AreTold m us told.tallies.items told.misses.items
      → AreCounts m us capacity learners made.rules.items made.counts)
      → IsMade m codes learners made
  made_by capacity learners made full held codes_are counts = record {
    slowed = subst (λ cs. AreSlowed m (units_of codes) (units_of cs)) (sym (codes_are ∙ held))
        (slowed_behind m codes briefs (behind m codes briefs are));
    counts = subst (λ n. AreCounts m (units_of codes) n learners made.rules.items made.counts) full
        (counts (units_of codes)
        (are_told m (units_of codes) reports told.tallies.items told.misses.items all tallies misses));
  }
