use Rattle.std.proofs.Common.{rules, map}
use Rattle.std.specs.Prelude.{string_bytes}
use Rattle.clap.specs.Words.{found_of, rows_of}
use Rattle.po_words.proofs.Requests.{asks_as_given}
use Rattle.po_words.proofs.request.request_of.Goals as goal

pub returns-clause-asks : goal.returns-clause-asks
returns-clause-asks c = asks_as_given (map string_bytes c.args.words.now) c.in-Some.mode
    (rows_of (found_of c.in-Some-2.matches)) c.request_in.result (search rules) (search rules) (search rules)
    c.request_in.ensures
