-- The rules that are written.
use Rattle.std.specs.Prelude.{ℕ, ◌≡◌, List, length}
use Rattle.po_model.specs.declared.machine.Machine.{Machine}
use Rattle.po_fore.specs.declared.report.BlockReport.{BlockReport}
use Rattle.po_settle.specs.Lines.{rules_text}
use Rattle.po_settle.specs.Reported.{all_texts}
use Rattle.po_settle.specs.Texts.{AreSorted}

-- the texts of the rules that reports tell of, sorted by bytes, each once, in lines; and how many there are
pub record AreWritten (m : Machine) (reports : List BlockReport) (lines : List ℕ) (count : ℕ) : Type 0 where
  pub texts : List (List ℕ)
  pub sorted : AreSorted (all_texts m reports) texts
  pub written : lines ≡ rules_text texts
  pub counted : count ≡ length texts
