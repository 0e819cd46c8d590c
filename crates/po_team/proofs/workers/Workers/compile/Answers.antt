use Rattle.std.proofs.Common.{rules, ℕ, refl, sym, subst}
use Rattle.po_model.specs.UnitCodes.{PlainUnit}
use Rattle.po_rule.specs.declared.miss.Miss.{Miss}
use Rattle.po_store.specs.Published.{plain}
use Rattle.po_team.specs.Works.{IsWorkBy, Puts}
use Rattle.po_team.proofs.Beginnings.{plain_prefix}
use Rattle.po_team.proofs.workers.Workers.compile.Goals as goal

pub returns-clause-brief : goal.returns-clause-brief
returns-clause-brief g c =
    let seen = c.told-way.result.seen in
    let copied = c.in_ok-code.ensures.copy in (
      plain seen,
      plain_prefix c.args.note seen c.args.note seen refl refl c.told-way.ensures.told,
      (
        c.in_ok-back.back.work,
        (
          copied.0,
          copied.1,
          subst (λ (u : PlainUnit). IsWorkBy c.args.self.now.machine.now (plain seen) u c.in_ok-back.back.work)
              copied.2 c.in_ok-back.ensures.work,
        ),
        c.in_ok-brief.ensures,
      ),
    )

pub returns-clause-puts : goal.returns-clause-puts
returns-clause-puts g c =
    let b = c.in_ok-back.back in
    let brief = c.in_ok-brief.brief in
    let puts : Puts {T = Miss} c.args.pass c.args.fulls b.pass b.fulls b.work.taken b.work.dropped = search rules in
    subst (λ (n : ℕ). Puts {T = Miss} c.args.pass c.args.fulls b.pass b.fulls n brief.dropped)
    (sym c.in_ok-brief.ensures.taken)
    (subst (λ (n : ℕ). Puts {T = Miss} c.args.pass c.args.fulls b.pass b.fulls b.work.taken n)
    (sym c.in_ok-brief.ensures.dropped) puts)
