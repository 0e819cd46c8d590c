use Rattle.po_general.proofs.Filled.{result_has_values, questions_have_words}
use Rattle.po_general.proofs.laws.rules_are_filled.Goals as goal

pub returns : goal.returns
returns c =
    λ m is p formed. record { result = result_has_values m is p formed; asked = questions_have_words m is p formed }
