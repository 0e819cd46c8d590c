use Rattle.std.proofs.Common.{◌≡◌, ℕ, ◌++◌, ◌+◌, map, take}
use Rattle.std.specs.Arc.{arc_value}
use Rattle.po_model.specs.Pairs.{pair_of}
use Rattle.po_settle.specs.Texts.{texts_of, IsUnruled}
use Rattle.po_settle.specs.Reported.{miss_text}
use Rattle.po_settle.proofs.reports.push_misses.Given as goal

abbrev pub invariant-loop-p : goal.invariant-loop-p
invariant-loop-p g l = record {
  texts : texts_of l.texts.items
      ≡ texts_of l.initial.texts.items ++ map (miss_text (arc_value l.m)) (take l.p-index l.misses);
  ticks : (n : ℕ) × IsUnruled (g.R.Lookup.rules l.rules) (map pair_of (take l.p-index l.misses)) n
      × (l.steps ≡ l.initial.steps + n);
}
