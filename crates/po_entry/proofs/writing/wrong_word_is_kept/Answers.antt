use Rattle.po_entry.proofs.KeptLine.{word_kept, word_first}
use Rattle.po_entry.proofs.Whole.{no_whole_line}
use Rattle.po_entry.proofs.writing.wrong_word_is_kept.Goals as goal

pub returns : goal.returns
returns c = record {
  behind = λ front s t column l a b e. word_kept front s t column l a b e;
  before = λ front s t column other l a b e f. word_first front s t column other l a b e f;
  no_whole_line = λ front s column e right whole wrong. no_whole_line front s column e right whole wrong;
}
