use Rattle.std.proofs.Common.{◌≡◌, ◌++◌, map, take}
use Rattle.po_settle.specs.Texts.{texts_of}
use Rattle.po_settle.specs.Reported.{hit_text}
use Rattle.po_settle.proofs.reports.push_hits.Given as goal

abbrev pub invariant-loop-h : goal.invariant-loop-h
invariant-loop-h l = texts_of l.texts.items ≡ texts_of l.initial.texts.items ++ map hit_text (take l.h-index l.used)
