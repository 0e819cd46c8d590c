use Rattle.std.proofs.Common.{◌≡◌, List, ◌∙◌, subst}
use Rattle.po_term.specs.declared.term.Reg.{Reg as Register}
use Rattle.po_term.specs.Moves.{instr_of}
use Rattle.po_term.specs.Kinds.{words}
use Rattle.po_model.specs.Parts.{code_leaves}
use Rattle.po_model.specs.Combined.{combined, combination_of}
use Rattle.po_subst.specs.Seen.{is_among}
use Rattle.po_slow.proofs.pair.of_pair.Goals as goal

pub returns : goal.returns
returns c =
    let p = c.args.p.now in
    subst (λ (rs : List Register). combination_of c.in_ok-outcome.outcome
    ≡ (combined words code_leaves c.args.m.now (is_among rs) p.live.cc (instr_of p.a) (instr_of p.b)).got)
    (c.deref.ensures.value ∙ c.in_ok-live.ensures) c.in_ok-outcome.ensures.combines
