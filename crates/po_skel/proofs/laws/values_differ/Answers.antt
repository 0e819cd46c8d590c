use Rattle.po_skel.proofs.Apart.{pair_different}
use Rattle.po_skel.proofs.laws.values_differ.Goals as goal

pub returns : goal.returns
returns c = pair_different
