use Rattle.po_rows.proofs.branch.text_tries.Given as goal

abbrev pub ghosts-tries_all : goal.ghosts-tries_all
ghosts-tries_all a = record { name = a.ledger.name; parts = a.ledger.parts }
