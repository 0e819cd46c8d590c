use Rattle.po_mdread.proofs.NameTurns.{new_names_on, new_names_fail, new_names_done, is_new, is_there, with_it}
use Rattle.po_mdread.proofs.names.with_new.Goals as goal

pub returns-then-not-added : goal.returns-then-not-added
returns-then-not-added c =
    let there = is_there _ c.in-Ok.added c.in-Ok.ensures.added c.if-not-added.true in
    rw c.fault_at.ensures (new_names_fail c.args.words.now c.words.word-index c.word-item.result c.words.names _
    c.words-test.true c.word-item.is there c.words.invariant)

pub words-preserved : goal.words-preserved
words-preserved c =
    let new = is_new _ c.in-Ok.added c.in-Ok.ensures.added c.if-not-added.false in
    let with = with_it _ c.words.names c.insert.new.self _ c.in-Ok.ensures.names new in
    rw with (new_names_on c.args.words.now c.words.word-index c.word-item.result c.words.names _ c.words-test.true
    c.word-item.is new c.words.invariant)

pub returns : goal.returns
returns c = new_names_done c.args.words.now c.words.word-index c.words.names _ c.words-test.false c.words.invariant
