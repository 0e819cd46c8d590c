use Rattle.std.proofs.Common.{◌≡◌, ap, sym, ◌∙◌}
use Rattle.po_term.specs.Moves.{instr_of}
use Rattle.po_term.specs.Kinds.{words}
use Rattle.po_model.specs.Parts.{code_leaves}
use Rattle.po_model.specs.Joined.{joined}
use Rattle.po_model.specs.Combined.{recognised, combined, combination_of}
use Rattle.po_subst.specs.JoinedMoves.{at_most}
use Rattle.po_subst.specs.Seen.{is_among}
use Rattle.po_slow.proofs.Longest.{cut_recognised}
use Rattle.po_slow.proofs.PairAhead.{combined_ahead}
use Rattle.po_slow.proofs.pair.combine_two.Goals as goal

pub returns : goal.returns
returns c =
    let m = c.args.m.now in
    let live = is_among c.args.live.now in
    let a = instr_of c.args.a.now in
    let b = instr_of c.args.b.now in
    let both = (joined words code_leaves live c.args.cc_live a b).got in
    let combines : combination_of c.outcome.result ≡ (combined words code_leaves m live c.args.cc_live a b).got
    = c.outcome.ensures
    ∙ ap (λ j. (recognised words code_leaves m c.args.cc_live j).got)
    (c.in_ok-joined.ensures ∙ ap (λ n. at_most n both) c.most.ensures)
    ∙ cut_recognised m c.args.index.now c.args.cc_live both c.requires.index in
    record {
      combines = combines;
      ahead =
          λ after same cc_same. combines
          ∙ combined_ahead m live c.args.cc_live a (record { instr = b; live = after }) (λ r. sym (same r))
          (sym cc_same);
    }
