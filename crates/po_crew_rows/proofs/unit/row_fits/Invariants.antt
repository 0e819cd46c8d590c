use Rattle.po_crew_rows.proofs.unit.row_fits.Given as goal

abbrev pub ghosts-text_works : goal.ghosts-text_works
ghosts-text_works a = record { name = a.ledger.name; parts = a.ledger.parts }
