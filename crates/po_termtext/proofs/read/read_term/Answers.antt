use Rattle.po_termtext.proofs.Whole.{found_of, none_of, again_of}
use Rattle.po_termtext.proofs.read.read_term.Goals as goal

pub returns-clause-found : goal.returns-clause-found
returns-clause-found c = found_of c.args.text.now _ c.in_ok-read.ensures

pub returns-clause-none : goal.returns-clause-none
returns-clause-none c = none_of c.args.text.now _ c.in_ok-read.ensures

pub returns-clause-again : goal.returns-clause-again
returns-clause-again c = again_of c.args.text.now _ c.in_ok-read.ensures
