use Rattle.std.proofs.Common.{arith}
use Rattle.po_model.specs.Scanned.{onward}
use Rattle.po_slow.specs.States.{on}
use Rattle.po_slow.proofs.Written.{instrs_here, parts_here, place_written, placed_written}
use Rattle.po_slow.proofs.MarksWritten.{true_here, true_written}
use Rattle.po_slow.proofs.within.go_on_within.Goals as goal

pub go_on-requires-clause-inside : goal.go_on-requires-clause-inside
go_on-requires-clause-inside c =
    omega (
      arith,
      c.requires.placed.next,
      instrs_here c.args.blocks.now c.args.lives.now c.args.b c.index-blocks-b.result c.deref_mut.result.now
          c.requires.block c.deref_mut.ensures.value,
    )

pub go_on-requires-clause-lives : goal.go_on-requires-clause-lives
go_on-requires-clause-lives c =
    parts_here c.args.blocks.now c.args.lives.now c.args.b c.index-blocks-b.result c.deref_mut.result.now c.args.at.now
    c.requires.block c.deref_mut.ensures.value c.requires.placed

pub returns-clause-place : goal.returns-clause-place
returns-clause-place c =
    place_written c.args.blocks.now c.args.lives.now c.args.b c.index-blocks-b.result c.go_on.new.xs
    c.deref_mut.result.now c.args.at.now c.go_on.new.at (on onward)
    c.requires.block c.go_on.auto.xs c.deref_mut.ensures.value c.requires.placed c.go_on.ensures.onward

pub returns-clause-placed : goal.returns-clause-placed
returns-clause-placed c =
    placed_written c.args.blocks.now c.args.lives.now c.args.b c.index-blocks-b.result c.go_on.new.xs
    c.deref_mut.result.now c.args.at.now c.go_on.new.at
    c.requires.block c.go_on.auto.xs c.deref_mut.ensures.value c.requires.placed c.go_on.ensures.order
    c.go_on.ensures.inside

pub returns-clause-marks : goal.returns-clause-marks
returns-clause-marks c = λ m t.
    let at = c.args.at.now in
    true_written c.args.blocks.now c.args.marks.now c.args.b c.index-blocks-b.result c.index-marks-b.result
    c.requires.block c.requires.beside c.deref_mut.result.now c.deref_mut-2.result.now c.deref_mut.ensures.value
    c.deref_mut-2.ensures.value m c.go_on.new.xs c.go_on.new.marks at c.go_on.new.at c.go_on.auto.xs
    c.go_on.auto.marks t (c.go_on.ensures.marks m (true_here c.args.blocks.now c.args.marks.now c.args.b c.index-blocks-b.result
    c.index-marks-b.result c.requires.block c.requires.beside c.deref_mut.result.now c.deref_mut-2.result.now
    c.deref_mut.ensures.value c.deref_mut-2.ensures.value m at t))
