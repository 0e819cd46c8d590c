use Rattle.po_live.proofs.Flags.{flags_down}
use Rattle.po_live.proofs.cc.none.Goals as goal

pub returns-clause-none : goal.returns-clause-none
returns-clause-none c = λ b. rw (c.in_ok-flags.ensures.items_if_clones_equal (λ y h. h)) (flags_down c.args.n b)
