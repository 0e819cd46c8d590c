use Rattle.po_entry.proofs.list.+transfers.Given as goal

abbrev pub decreases-transfers : goal.decreases-transfers
decreases-transfers l = l.more
