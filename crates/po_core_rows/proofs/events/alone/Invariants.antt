use Rattle.po_core_rows.proofs.events.alone.Given as goal

abbrev pub ghosts-played : goal.ghosts-played
ghosts-played g a = record { name = a.ledger.name; parts = a.ledger.parts }
