use Rattle.std.proofs.Common.{◌≡◌, ◌++◌, drop}
use Rattle.po_model.specs.LiveSet.{is_live}
use Rattle.po_model.specs.Holed.{values_of}
use Rattle.po_model.specs.Shape.{live_holes}
use Rattle.po_key.specs.ShapeWords.{registers_words}
use Rattle.po_key.proofs.pair.write_live.Given as goal

-- what is written so far, with what is still to come, is the whole
abbrev pub invariant-loop-r : goal.invariant-loop-r
invariant-loop-r l =
    l.out.items ++ registers_words (live_holes (values_of l.v) (is_live l.live) (drop l.r-index l.rs))
    ≡ l.initial.out.items ++ registers_words (live_holes (values_of l.v) (is_live l.live) l.rs)
