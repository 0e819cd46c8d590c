use Rattle.std.proofs.Common.{◌≡◌, ap, sym, arith}
use Rattle.std.proofs.lemmas.Grind.{common_steps}
use Rattle.po_model.specs.Holed.{rule_of}
use Rattle.po_store.specs.Published.{plain}
use Rattle.po_store.specs.Logged.{PublisherView}
use Rattle.po_store.proofs.Grows.{publishes}
use Rattle.po_store.proofs.Logs.{logged_next}
use Rattle.po_store.proofs.publisher.Publisher.learn_one.Goals as goal

pub invariant_of-self-2 : goal.invariant_of-self-2
invariant_of-self-2 g c = (
  rw (c.push_reserved.ensures.items, c.reserve.ensures.items)
      (logged_next c.self.inside.log.items c.args.pair (rule_of c.args.learned.1) c.requires.formed c.requires.instance
      (plain c.self.inside.desk) (plain c.learn.new.self) c.in_ok-place.place c.self.invariant.0
      c.in_ok-place.ensures.learned),
  grind (arith, common_steps),
)

pub returns-clause-publishes : goal.returns-clause-publishes
returns-clause-publishes g c =
    rw (sym (ap (λ (p : PublisherView). p.rules) c.self.view_is))
    (publishes (plain c.self.inside.desk) (rule_of c.args.learned.1) c.in_ok-place.place (plain c.learn.new.self)
    c.in_ok-place.ensures.learned)
