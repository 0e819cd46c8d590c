use Rattle.std.specs.Arc.{arc_value}
use Rattle.po_store_rows.proofs.learned.learned.Given as goal

-- the store's name stands for the count, the history and the machine that the store is opened with
abbrev pub ghosts-is_seen-L-Ledger : goal.ghosts-is_seen-L-Ledger
ghosts-is_seen-L-Ledger g a = record { name = a.blank.name; parts = a.blank.parts }

abbrev pub ghosts-is_seen-L-StoreName : goal.ghosts-is_seen-L-StoreName
ghosts-is_seen-L-StoreName g a = record { book = a.opened.seen.book; machine = arc_value a.machine }
