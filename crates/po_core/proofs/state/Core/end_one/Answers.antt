use Rattle.std.proofs.Common.{All, map, sym, subst}
use Rattle.po_core.specs.Scans.{IsGoingAt}
use Rattle.po_core.specs.Views.{core_of, fore_of}
use Rattle.po_core.proofs.Kept.{all_going}
use Rattle.po_core.proofs.state.Core.end_one.Goals as goal

pub end_at-requires-clause-going : goal.end_at-requires-clause-going
end_at-requires-clause-going c =
    subst (λ xs. All (λ f. IsGoingAt f.scans f.at) (map fore_of xs)) (sym c.deref_mut.ensures.value)
    (all_going (core_of c.args.self.now) c.requires.parts)
