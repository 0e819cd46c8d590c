use Rattle.std.proofs.Common.{length}
use Rattle.po_trec.proofs.parts.+compared.Given as goal

abbrev pub decreases-compared : goal.decreases-compared
decreases-compared l = length l.a.now
