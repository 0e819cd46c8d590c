use Rattle.std.proofs.Common.{◌≡◌, ℕ, ◌++◌, ◌+◌, drop}
use Rattle.std.specs.Arc.{arc_value}
use Rattle.po_settle.specs.Texts.{texts_of}
use Rattle.po_settle.specs.Reported.{all_texts}
use Rattle.po_settle.proofs.Texts.{Rest}
use Rattle.po_settle.proofs.reports.settle.Given as goal

abbrev pub invariant-loop-r : goal.invariant-loop-r
invariant-loop-r g l = record {
  texts : texts_of l.texts.items ++ all_texts (arc_value l.m) (drop l.r-index l.r-items)
      ≡ all_texts (arc_value l.m) l.r-items;
  ticks : (n : ℕ) × Rest (g.R.Lookup.rules l.rules) l.r-items l.r-index n × (l.steps ≡ l.initial.steps + n);
}
