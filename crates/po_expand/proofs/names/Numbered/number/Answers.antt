use Rattle.std.specs.Prelude.{nat_eq}
use Rattle.std.specs.Cmp.Lexicographic.{pointwise}
use Rattle.std.proofs.Common.{sym, ◌∙◌}
use Rattle.po_expand.proofs.Numbers.{not_there}
use Rattle.po_expand.proofs.names.Numbered.number.Goals as goal

pub returns-in-None : goal.returns-in-None
returns-in-None c =
    not_there (pointwise nat_eq c.args.name.now) c.args.self.now.table c.len.result
    (rw (← c.bytes.ensures) (sym c.place.ensures ∙ c.in-None.is)) c.len.ensures
