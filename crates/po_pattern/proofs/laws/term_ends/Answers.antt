use Rattle.po_pattern.specs.Rests.{rest_of}
use Rattle.po_pattern.proofs.Terms.{term_ends}
use Rattle.po_pattern.proofs.laws.term_ends.Goals as goal

pub returns : goal.returns
returns c first e = term_ends (rest_of c.args.cursor) c.args.seen first e
