use Rattle.std.proofs.Common.{not, rules}
use Rattle.std.proofs.lemmas.Fn.{filter_same}
use Rattle.po_term.specs.Simplified.{reg_eq}
use Rattle.po_live.proofs.sets.remove_from.Goals as goal

pub returns : goal.returns
returns c = filter_same _ (λ q. not (reg_eq c.args.r q)) _ (λ x b f t. search rules) _ _ c.retain.ensures.filtered
