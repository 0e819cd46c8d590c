use Rattle.std.proofs.Common.{sym, ◌∙◌, ap}
use Rattle.std.specs.Prelude.{option_map}
use Rattle.po_words.proofs.Numbers.{number_or-found, number_or-missing}
use Rattle.po_words.proofs.values.number_or.Goals as goal

pub returns-in-Some : goal.returns-in-Some
returns-in-Some c = number_or-found c.args.absent c.args.low c.args.high _ c.in-Some.value.now _
    (sym c.value_of.ensures ∙ ap (option_map (λ s. s.now)) c.in-Some.is) c.number_within.ensures

pub returns-in-None : goal.returns-in-None
returns-in-None c = number_or-missing c.args.absent c.args.low c.args.high _
    (sym c.value_of.ensures ∙ ap (option_map (λ s. s.now)) c.in-None.is)
