use Rattle.po_entry.proofs.Allowed.{entry_allowed}
use Rattle.po_entry.proofs.Written.{entry_written}
use Rattle.po_entry.proofs.ReadsLine.{entry_reads}
use Rattle.po_entry.proofs.Printed.{entry_printed}
use Rattle.po_entry.proofs.writing.line_is_read_where_written.Goals as goal

pub returns : goal.returns
returns c = record {
  found = λ line e h. (entry_allowed line e h, entry_written line e h);
  again = λ line e h w. entry_reads e line h w;
  printed = λ e h. entry_printed e h;
}
