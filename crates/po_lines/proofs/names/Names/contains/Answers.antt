use Rattle.std.proofs.Common.{◌∙◌, ap, Vec, Global, ℕ}
use Rattle.std.specs.Prelude.{nat_eq}
use Rattle.std.specs.Cmp.Lexicographic.{pointwise}
use Rattle.po_lines.specs.NameList.{has}
use Rattle.po_lines.proofs.NameSet.{any_map}
use Rattle.po_lines.proofs.names.Names.contains.Goals as goal

pub returns : goal.returns
returns c =
    c.contains.ensures
    ∙ any_map (pointwise nat_eq c.args.name.now) (λ (v : Vec ℕ Global). v.items) c.self.inside.set.keys
    ∙ ap (has c.args.name.now) c.self.view_is
