use Rattle.po_gen.proofs.summing.summary.Given as goal

abbrev pub ghosts-count : goal.ghosts-count
ghosts-count a = record { name = a.ledger.name; parts = a.ledger.parts }
