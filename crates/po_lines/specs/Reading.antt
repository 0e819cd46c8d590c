-- A text is read line by line; the first fault stays.
use Rattle.std.specs.Prelude.{List, [], ◌∷◌, Result, Ok}
use Rattle.po_lines.specs.Lines.{Numbered}
use Rattle.po_lines.specs.Faults.{◌>>=◌, TextFault}

-- what is read behind all of these lines, if no line has a fault
unfoldable pub read_each : {S : Type 0} → (S → Numbered → Result S TextFault) → S → List Numbered → Result S TextFault
read_each step s [] = Ok s
read_each step s (l ∷ ls) = do
  t ← step s l
  read_each step t ls
