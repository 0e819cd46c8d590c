use Rattle.std.proofs.Common.{◌∙◌, ap, not, ◌||◌}
use Rattle.po_live.specs.Sets.{var_eq}
use Rattle.po_live.proofs.Preds.{on_ok, if_ok}
use Rattle.po_live.proofs.Outs.{set_get, set_put}
use Rattle.po_live.proofs.solve.insert_at.Goals as goal

pub returns-clause-all : goal.returns-clause-all
returns-clause-all c = on_ok c.insert.result
    (λ a. set_put c.args.out.now c.args.p c.insert.new.live c.args.v c.requires
    (λ q. a q ∙ ap (λ t. var_eq c.args.v q || t) (set_get c.args.out.now c.args.p c.index-out-p.result q c.requires)))
    c.insert.ensures.all

pub returns-clause-new : goal.returns-clause-new
returns-clause-new c = if_ok c.insert.result
    (λ new e. e ∙ ap (λ t. not t) (set_get c.args.out.now c.args.p c.index-out-p.result c.args.v c.requires))
    c.insert.ensures.new
