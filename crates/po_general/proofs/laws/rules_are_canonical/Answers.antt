use Rattle.po_general.proofs.Rules.{own_instance, is_canonical}
use Rattle.po_general.proofs.laws.rules_are_canonical.Goals as goal

pub returns : goal.returns
returns c = λ m is p. record { instance = own_instance m p; canonical = is_canonical m is p }
