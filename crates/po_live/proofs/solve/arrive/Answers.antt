use Rattle.std.proofs.Common.{◌≡◌, length, length-append, arith, ap, false}
use Rattle.po_live.specs.Sets.{holds_at}
use Rattle.po_live.proofs.Fuel.{fuel_kept, fuel_less, was_false}
use Rattle.po_live.proofs.solve.arrive.Goals as goal

pub returns-in_ok-push_due-clause-fuel : goal.returns-in_ok-push_due-clause-fuel
returns-in_ok-push_due-clause-fuel c = λ us i.
    let absent : holds_at c.args.out.now c.args.p c.args.v ≡ false =
    was_false c.in_ok-insert_at.field-0 (holds_at c.args.out.now c.args.p c.args.v) c.in_ok-insert_at.ensures.new
    c.if-branch.true in
    let less = fuel_less (holds_at c.args.out.now) (holds_at c.insert_at.new.out) c.args.p c.args.v
    c.in_ok-insert_at.ensures.all us (length c.args.out.now) c.requires.here i absent in
    let longer = simp length-append at (ap length c.in_ok-push_due.ensures.items) in
    omega (arith, less, longer)

pub returns-else-branch-clause-fuel : goal.returns-else-branch-clause-fuel
returns-else-branch-clause-fuel c = λ us i.
    let kept = fuel_kept (holds_at c.args.out.now) (holds_at c.insert_at.new.out) c.args.p c.args.v
    c.in_ok-insert_at.ensures.all us (length c.args.out.now) in
    omega (arith, kept)
