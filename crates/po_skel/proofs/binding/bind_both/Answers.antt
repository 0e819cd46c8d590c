use Rattle.po_term.specs.Terms.{tree_of}
use Rattle.po_model.specs.Holed.{values_of}
use Rattle.po_skel.proofs.Numbered.{few_first}
use Rattle.po_skel.proofs.binding.bind_both.Goals as goal

pub bind_term-requires : goal.bind_term-requires
bind_term-requires c =
    few_first (values_of c.args.v.now) (tree_of c.args.y.now) (tree_of c.args.w.now) c.requires
