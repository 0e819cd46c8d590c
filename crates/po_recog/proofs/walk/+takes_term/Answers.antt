use Rattle.po_term.specs.Terms.{tree_of}
use Rattle.po_recog.proofs.Walks.{binary_walked, binary_stopped}
use Rattle.po_recog.proofs.walk.+takes_term.Goals as goal

pub returns-then-takes_term : goal.returns-then-takes_term
returns-then-takes_term t c =
    rw (c.in-Bin-Bin.is-0, c.in-Bin-Bin.is-1)
    (binary_walked c.in-Bin-Bin.o c.in-Bin-Bin.r c.same_bin.result c.takes_term-in-Bin-Bin.result
    c.takes_term-then-takes_term.result
    c.in-Bin-Bin.p c.in-Bin-Bin.q (tree_of c.in-Bin-Bin.t.value) (tree_of c.in-Bin-Bin.u.value)
    c.args.slots.now c.takes_term-in-Bin-Bin.new.slots c.takes_term-then-takes_term.new.slots
    c.same_bin.ensures c.if-not-same_bin.false
    (rw (c.get-in-Bin-Bin.ensures, c.deref-in-Bin-Bin.ensures) at c.takes_term-in-Bin-Bin.ensures)
    (rw (c.get-then-takes_term.ensures, c.deref-then-takes_term.ensures) at c.takes_term-then-takes_term.ensures)
    c.if-takes_term.true)

pub returns-else-takes_term : goal.returns-else-takes_term
returns-else-takes_term t c =
    rw (c.in-Bin-Bin.is-0, c.in-Bin-Bin.is-1, c.if-takes_term.false)
    (binary_stopped c.in-Bin-Bin.o c.in-Bin-Bin.r c.same_bin.result c.takes_term-in-Bin-Bin.result
    c.in-Bin-Bin.p c.in-Bin-Bin.q (tree_of c.in-Bin-Bin.t.value) (tree_of c.in-Bin-Bin.u.value)
    c.args.slots.now c.takes_term-in-Bin-Bin.new.slots
    c.same_bin.ensures c.if-not-same_bin.false
    (rw (c.get-in-Bin-Bin.ensures, c.deref-in-Bin-Bin.ensures) at c.takes_term-in-Bin-Bin.ensures)
    c.if-takes_term.false)
