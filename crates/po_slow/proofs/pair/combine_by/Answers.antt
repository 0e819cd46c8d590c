use Rattle.po_model.specs.Pairs.{pair_of}
use Rattle.po_model.specs.Combined.{combination_of}
use Rattle.po_slow.proofs.Sound.{answer_keeps}
use Rattle.po_slow.proofs.pair.combine_by.Goals as goal

pub returns-clause-keeps_effect : goal.returns-clause-keeps_effect
returns-clause-keeps_effect c =
    answer_keeps c.args.m.now (pair_of c.args.p.now) (combination_of c.in_ok-outcome.outcome) c.in_ok-outcome.ensures
