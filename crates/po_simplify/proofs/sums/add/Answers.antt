use Rattle.std.proofs.Common.{◌∙◌, sym, ap, ℕ}
use Rattle.po_term.specs.Terms.{tree_of, Place}
use Rattle.po_term.specs.Tree.{Tree}
use Rattle.po_term.specs.Kinds.{Met, words}
use Rattle.po_term.specs.Simplified.{same_register}
use Rattle.po_simplify.proofs.PlusStages.{plus_is_staged}
use Rattle.po_simplify.proofs.sums.add.Goals as goal

pub returns : goal.returns
returns c = c.in_ok-r.ensures ∙ sym (ap (λ (m : Met ℕ (Tree ℕ Place)). m.got)
    (plus_is_staged words same_register (tree_of c.args.a) (tree_of c.args.b)))
