use Rattle.po_opt.proofs.Summing.{IsSumming}
use Rattle.po_opt.proofs.works.tell.Given as goal

abbrev pub invariant-loop-brief : goal.invariant-loop-brief
invariant-loop-brief l = IsSumming l.fn.briefs.items l.brief-iterator.rest.items l.told
