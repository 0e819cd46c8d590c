use Rattle.std.proofs.Common.{rules, ◌≡◌, ◌∙◌, ap, length, IfOk}
use Rattle.po_pool.specs.Worked.{first_unit, AreThrough}
use Rattle.po_pool.proofs.Throughs.{all_units, ok_both}
use Rattle.po_pool.proofs.run.run_all.Goals as goal

pub returns-clause-outs : goal.returns-clause-outs
returns-clause-outs g c =
    let n = length c.args.workers.items in
    let worked : IfOk c.scoped.result (λ r. AreThrough (g.J.Job.good c.args.job.now) (g.J.Job.gives c.args.job.now)
    c.args.units n r.workers.items r.outs.items) = search rules in
    let count : IfOk c.scoped.result (λ r. length r.workers.items ≡ n) = search rules in
    ok_both c.scoped.result
    (λ r w e. w.all ∙ ap (first_unit c.args.units n) e ∙ all_units c.args.units n c.requires.workers.0) worked count
