use Rattle.po_term.specs.Terms.{tree_of}
use Rattle.po_subst.proofs.Agreeing.{agrees}
use Rattle.po_subst.proofs.addresses.is_one_base.Goals as goal

pub returns : goal.returns
returns c = agrees c.same_term.result (tree_of c.args.u.now) (tree_of c.args.v.now) c.same_term.ensures
