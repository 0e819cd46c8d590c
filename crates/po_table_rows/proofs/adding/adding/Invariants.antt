use Rattle.po_table_rows.proofs.adding.adding.Given as goal

abbrev pub ghosts-adds : goal.ghosts-adds
ghosts-adds g a = record { name = a.ledger.name; parts = a.ledger.parts }
