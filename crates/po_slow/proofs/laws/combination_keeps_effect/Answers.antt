use Rattle.po_slow.proofs.Sound.{keeps_effect}
use Rattle.po_slow.proofs.laws.combination_keeps_effect.Goals as goal

pub returns : goal.returns
returns c = keeps_effect
