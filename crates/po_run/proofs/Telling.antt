-- The counts that are told of a run.
use Rattle.std.proofs.Common.{◌≡◌, ℕ, List, [], Bool, true, false, Option, Some, None, refl, ap}
use Rattle.std.specs.Prelude.{if◌then◌else◌}
use Rattle.po_opt.specs.declared.counts.Counts.{Counts}
use Rattle.po_words.specs.declared.request.Request.TheVariants.{Opt}
use Rattle.po_compile.specs.declared.status.Status.{Status}
use Rattle.po_compile.specs.declared.status.Status.TheVariants as status
use Rattle.po_run.specs.Stats.{stats_text, OnCounts, AreStatsOf}

pub told_of : (workers learners : ℕ) (stats : Bool) (s : Status) (counts : Option Counts) (old new : Option (List ℕ))
    → OnCounts learners s counts old new
    → AreStatsOf (Opt workers learners stats) s old new (stats_text (if stats then counts else None))
told_of w l true status.Done (Some c) old new h = (c, h, refl)
told_of w l true status.Done None old new h = absurd h
told_of w l true status.Usage counts old new h = ap stats_text h
told_of w l true status.ReadFault counts old new h = ap stats_text h
told_of w l true (status.BadText line col kind) counts old new h = ap stats_text h
told_of w l true (status.Unrecognised unit block index) counts old new h = ap stats_text h
told_of w l true (status.TooFew unit point needed) counts old new h = ap stats_text h
told_of w l true (status.WriteFault written) counts old new h = ap stats_text h
told_of w l true status.OutOfMemory counts old new h = ap stats_text h
told_of w l false s counts old new h = refl
