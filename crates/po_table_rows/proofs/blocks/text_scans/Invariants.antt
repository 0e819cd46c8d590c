use Rattle.po_table_rows.proofs.blocks.text_scans.Given as goal

abbrev pub ghosts-scans : goal.ghosts-scans
ghosts-scans a = record { name = a.ledger.name; parts = a.ledger.parts }
