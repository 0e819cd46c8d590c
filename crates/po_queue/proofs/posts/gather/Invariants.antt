use Rattle.po_queue.specs.Gathered.{Gathered}
use Rattle.po_queue.proofs.posts.gather.Given as goal

abbrev pub invariant-loop-pass : goal.invariant-loop-pass
invariant-loop-pass g l = Gathered l.initial.keeper l.keeper l.yielded
