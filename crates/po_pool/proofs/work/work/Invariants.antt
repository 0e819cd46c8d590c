use Rattle.po_pool.specs.Worked.{IsThrough}
use Rattle.po_pool.proofs.work.work.Given as goal

-- the worker went through the units so far
abbrev pub invariant-loop-index : goal.invariant-loop-index
invariant-loop-index g l =
    IsThrough (g.J.Job.good l.job) (g.J.Job.gives l.job) l.place l.from l.index l.seat l.outs.items
