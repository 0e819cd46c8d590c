use Rattle.std.specs.Prelude.{◌++◌, codes, decimal}
use Rattle.po_run.proofs.Told.{told_three}
use Rattle.po_run.proofs.notes.push_unrecognised.Goals as goal

-- the line is told in three parts
pub returns-clause-all : goal.returns-clause-all
returns-clause-all c = λ d.
    told_three _ _ _ _ (codes "po: unit " ++ decimal d.args.unit ++ codes ", block " ++ decimal d.args.block)
    (codes ", instruction ") (decimal d.args.index) (codes ": not recognised\n")
    d.in_ok-push_two.ensures.all (rw d.from.ensures at d.in_ok-push_number.ensures.all) d.in_ok-write_all.ensures.all
