-- What was read of a term so far, as the code has it.
use Rattle.std.specs.Prelude.{reverse}
use Rattle.po_pattern.specs.declared.reading.Reading.{Reading as Partly}
use Rattle.po_pattern.specs.Rests.{read_of}
use Rattle.po_pattern.specs.Terms.{Reading}

abbrev pub reading_of : Partly → Reading
reading_of s = record { frames = reverse s.frames; turn = read_of s.turn }
