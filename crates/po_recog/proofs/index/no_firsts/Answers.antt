use Rattle.std.proofs.Common.{◌≡◌, ℕ, List, replicate, subst, sym, rules}
use Rattle.po_recog.specs.Indexes.{number_at}
use Rattle.po_recog.proofs.Chains.{number_same}
use Rattle.po_recog.proofs.index.no_firsts.Goals as goal

pub returns-clause-none : goal.returns-clause-none
returns-clause-none c = λ g h.
    let all : c.in_ok-firsts.firsts.items ≡ replicate 1280 c.args.entries = search rules in
    subst (λ (ns : List ℕ). number_at ns g ≡ c.args.entries) (sym all) (number_same 1280 g c.args.entries h)
