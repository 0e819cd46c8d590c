use Rattle.po_pool.proofs.learn.learn.Given as goal

-- the seat is good for its place
abbrev pub invariant-turns : goal.invariant-turns
invariant-turns g l = g.S.Study.good l.study l.place l.seat
