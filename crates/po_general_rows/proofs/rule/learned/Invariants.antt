use Rattle.po_general_rows.proofs.rule.learned.Given as goal

abbrev pub ghosts-counted : goal.ghosts-counted
ghosts-counted a = record { name = a.ledger.name; parts = a.ledger.parts }
