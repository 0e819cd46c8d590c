use Rattle.std.specs.Arc.{arc_value}
use Rattle.po_opt.proofs.opt.opt_all.Given as goal

-- the store's name stands for the count, the history and the machine that the store is opened with
abbrev pub ghosts-run_over-L-Ledger : goal.ghosts-run_over-L-Ledger
ghosts-run_over-L-Ledger g a = record { name = a.blank.name; parts = a.blank.parts }

abbrev pub ghosts-run_over-L-StoreName : goal.ghosts-run_over-L-StoreName
ghosts-run_over-L-StoreName g a = record { book = a.opened.seen.book; machine = arc_value a.machine.now }
