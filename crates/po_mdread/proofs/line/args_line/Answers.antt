use Rattle.std.proofs.Common.{map}
use Rattle.po_lines.specs.Words.{seen}
use Rattle.po_mdread.proofs.NameLaws.{four_found, new_are}
use Rattle.po_mdread.proofs.line.args_line.Goals as goal

pub returns-clause-kept : goal.returns-clause-kept
returns-clause-kept c =
    let ws = map seen c.args.rest.now in
    let read = four_found ws c.args.end c.in_ok-args.args c.in_ok-args.ensures in
    new_are c.args.names _ ws c.in_ok-names.names _ c.requires c.in_ok-names.ensures read.read.words
