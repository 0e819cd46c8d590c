-- The line that is told on the notes for a status.
use Rattle.std.specs.Prelude.{ℕ, List, [], ◌++◌, codes, decimal}
use Rattle.po_text.specs.declared.fault.Kind.{Kind}
use Rattle.po_text.specs.declared.fault.Kind.TheVariants as kind
use Rattle.po_compile.specs.declared.status.Status.{Status}
use Rattle.po_compile.specs.declared.status.Status.TheVariants as status

-- ORDER: fault kinds
abbrev pub kind_name : Kind → List ℕ
kind_name kind.Word = codes "Word"
kind_name kind.Number = codes "Number"
kind_name kind.Range = codes "Range"
kind_name kind.ListForm = codes "ListForm"
kind_name kind.NeverMatches = codes "NeverMatches"
kind_name kind.Duplicate = codes "Duplicate"
kind_name kind.StackUnderflow = codes "StackUnderflow"
kind_name kind.StackAtBoundary = codes "StackAtBoundary"
kind_name kind.ArgMissing = codes "ArgMissing"
kind_name kind.NoLabel = codes "NoLabel"
kind_name kind.FallsOff = codes "FallsOff"
kind_name kind.TooMany = codes "TooMany"

abbrev pub usage : List ℕ
usage =
    codes "po: usage: po naive, po slow, po opt [--workers N] [--learners N] [--stats], po gen --seed N --units N\n"

-- nothing where the program is done, else one line
-- ORDER: statuses
abbrev pub note_line : Status → List ℕ
note_line status.Done = []
note_line status.Usage = usage
note_line status.ReadFault = codes "po: read failed\n"
note_line (status.BadText line col kind) =
    codes "po: line " ++ decimal line ++ codes ", column " ++ decimal col ++ codes ": " ++ kind_name kind ++ codes "\n"
note_line (status.Unrecognised unit block index) =
    codes "po: unit " ++ decimal unit ++ codes ", block " ++ decimal block
    ++ codes ", instruction " ++ decimal index ++ codes ": not recognised\n"
note_line (status.TooFew unit point needed) =
    codes "po: unit " ++ decimal unit ++ codes ", point " ++ decimal point
    ++ codes ": " ++ decimal needed ++ codes " registers needed\n"
note_line (status.WriteFault written) = codes "po: write failed after " ++ decimal written ++ codes " bytes\n"
note_line status.OutOfMemory = codes "po: out of memory\n"
