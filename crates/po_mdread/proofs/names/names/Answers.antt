use Rattle.po_mdread.proofs.NameTurns.{names_on, names_fail, names_done}
use Rattle.po_mdread.proofs.names.names.Goals as goal

pub returns-in-Err : goal.returns-in-Err
returns-in-Err c =
    names_fail c.args.words.now c.words.word-index c.word-item.result c.words.names c.in-Err.error _ c.words-test.true
    c.word-item.is c.in-Err.ensures c.words.invariant

pub words-preserved : goal.words-preserved
words-preserved c =
    rw c.in_ok-push.ensures.ok (names_on c.args.words.now c.words.word-index c.word-item.result c.words.names
    c.in-Ok.name _ c.words-test.true c.word-item.is c.in-Ok.ensures c.words.invariant)

pub returns : goal.returns
returns c = names_done c.args.words.now c.words.word-index c.words.names _ c.words-test.false c.words.invariant
