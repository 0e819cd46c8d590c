use Rattle.po_model.specs.Holed.{values_of}
use Rattle.po_key.proofs.Joined.{walk_words}
use Rattle.po_key.proofs.pair.walk.Goals as goal

pub returns-clause-words : goal.returns-clause-words
returns-clause-words c = walk_words c.args.p.now (values_of c.nothing_met-v.result)
    (values_of c.walk_transfers.new.v) (values_of c.walk_transfers-2.new.v) c.deref.result.now c.deref-2.result.now
    c.deref-3.result.now c.new-out.result.items c.push.new.xs.items c.walk_transfers.new.out.items
    c.walk_transfers-2.new.out.items c.write_live.new.out.items c.write_live-2.new.out.items c.bit_word.result
    c.new-out.ensures.items c.bit_word.ensures c.in_ok-push.ensures c.nothing_met-v.ensures c.deref.ensures.value
    c.deref-2.ensures.value c.in_ok-walk_transfers.ensures.values c.in_ok-walk_transfers-2.ensures.values
    c.deref-3.ensures.value c.in_ok-walk_transfers.ensures.words c.in_ok-walk_transfers-2.ensures.words
    c.in_ok-write_live.ensures c.in_ok-write_live-2.ensures
