use Rattle.std.proofs.Common.{rules}
use Rattle.po_ir.proofs.Printed.{parts_printed}
use Rattle.po_ir.proofs.print.print_unit.Goals as goal

pub returns : goal.returns
returns c =
    parts_printed c.args.u.now.name c.args.u.now.ops c.new-out.result.items c.push_named.new.out.items
    c.push.new.out.items c.push_ops.new.out.items c.push-2.new.out.items
    c.new-out.ensures.items c.in_ok-push_named.ensures c.in_ok-push.ensures (search rules) c.in_ok-push-2.ensures
