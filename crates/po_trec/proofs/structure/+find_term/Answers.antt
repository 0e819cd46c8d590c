use Rattle.po_model.specs.Holed.{hole_tree_of}
use Rattle.po_trec.proofs.Behind.{binary_finds}
use Rattle.po_trec.proofs.structure.+find_term.Goals as goal

pub returns-then-branch : goal.returns-then-branch
returns-then-branch t c =
    rw (c.in-Bin-Bin.is-0, c.in-Bin-Bin.is-1)
    (binary_finds c.in-Bin-Bin.o c.in-Bin-Bin.r c.same_bin.result c.in_ok-find_term-in-Bin-Bin.field-0
    c.find_term-then-branch.result
    c.in-Bin-Bin.p c.in-Bin-Bin.q (hole_tree_of c.in-Bin-Bin.t.value) (hole_tree_of c.in-Bin-Bin.u.value)
    c.args.found.now.items c.find_term-then-same_bin.new.found.items c.find_term-then-branch.new.found.items
    c.same_bin.ensures c.if-same_bin.true
    (rw (c.get-then-same_bin.ensures, c.deref-then-same_bin.ensures) at c.in_ok-find_term-in-Bin-Bin.ensures)
    (rw (c.get-then-branch.ensures, c.deref-then-branch.ensures) at c.find_term-then-branch.ensures)
    c.if-branch.true)
