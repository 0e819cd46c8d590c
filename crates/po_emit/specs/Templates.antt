-- The lines of a machine's entries in parts. An operand's text is told by its digit.
use Rattle.std.specs.Prelude.{◌≡◌, ℕ, List, [], ◌++◌, Option, Some, None, map, codes}
use Rattle.std.specs.List.{flat_map}
use Rattle.po_model.specs.declared.machine.Entry.{Entry}
use Rattle.po_model.specs.declared.machine.Machine.{Machine}
use Rattle.po_emit.specs.declared.templates.Part.{Part}
use Rattle.po_emit.specs.declared.templates.Line.{Line}
use Rattle.po_emit.specs.declared.templates.Draft.{Draft}
use Rattle.po_emit.specs.declared.templates.Templates.{Templates}
use Rattle.po_emit.specs.Texts.{piece_text}

module _ (text : ℕ → List ℕ) where
  abbrev pub text_behind : Option ℕ → List ℕ
  text_behind None = []
  text_behind (Some k) = text k

  -- the bytes of a part, and the operand behind them
  abbrev pub part_text : Part → List ℕ
  part_text p = p.bytes.items ++ text_behind p.digit

  abbrev pub line_text : Line → List ℕ
  line_text l = flat_map part_text l.parts.items

  -- a line with the bytes that aren't a part yet
  abbrev pub draft_text : Draft → List ℕ
  draft_text d = flat_map part_text d.parts.items ++ d.bytes.items

  -- two spaces, the template and a line feed
  abbrev pub entry_text : Entry → List ℕ
  entry_text e = codes "  " ++ flat_map (piece_text text) e.template ++ codes "\n"

-- they have the line of each entry of the machine, whatever the operands are
abbrev pub AreTemplatesOf : Machine → Templates → Type 0
AreTemplatesOf m ts = (text : ℕ → List ℕ) → map (line_text text) ts.lines.items ≡ map (entry_text text) m.entries
