use Rattle.po_gen_rows.proofs.summaries.a_line_has_the_counts_of_its_units.Given as goal

abbrev pub ghosts-of_three : goal.ghosts-of_three
ghosts-of_three g a = record { name = a.ledger.name; parts = a.ledger.parts }
