use Rattle.std.proofs.Common.{subst, sym}
use Rattle.po_term.specs.declared.term.Alias.{Alias}
use Rattle.po_term.specs.Terms.{tree_of}
use Rattle.po_model.specs.Meets.{Meets}
use Rattle.po_subst.proofs.Meeting.{alias_right}
use Rattle.po_subst.proofs.addresses.alias.Goals as goal

pub returns-clause-means : goal.returns-clause-means
returns-clause-means c = λ s fits h i.
    subst (λ (a : Alias). Meets a s (tree_of c.args.p.now) (tree_of c.args.q.now)) (sym c.compare.ensures)
    (alias_right s fits (tree_of c.args.p.now) (tree_of c.args.q.now) h i)
