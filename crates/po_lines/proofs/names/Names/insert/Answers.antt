use Rattle.po_lines.proofs.NameSet.{added_is, put_is}
use Rattle.po_lines.proofs.names.Names.insert.Goals as goal

pub returns-clause-added : goal.returns-clause-added
returns-clause-added c =
    added_is c.self.inside.set.keys c.in_ok-from_slice.field-0 c.args.name.now c.args.self.now c.in_ok-added.added
    c.in_ok-from_slice.ensures.items c.self.view_is c.in_ok-added.ensures.added

pub returns-clause-names : goal.returns-clause-names
returns-clause-names c =
    put_is c.self.inside.set.keys c.insert.new.self.keys c.in_ok-from_slice.field-0 c.args.name.now c.args.self.now
    c.in_ok-from_slice.ensures.items c.self.view_is c.in_ok-added.ensures.keys
