use Rattle.std.proofs.Common.{arith}
use Rattle.po_opt.proofs.Ending.{all_parts, are_learned}
use Rattle.po_opt.proofs.rest.end_learning.Goals as goal

pub gather-requires : goal.gather-requires
gather-requires g c = record {
  all = omega (
    arith,
    c.in_ok-learn_left.ensures.own.0,
    c.in_ok-learn_left.ensures.parts,
    c.requires.own.0,
    c.requires.parts,
    all_parts (λ s. s.parts) c.args.shares.items c.requires.shares,
  );
}

pub returns-clause-learned : goal.returns-clause-learned
returns-clause-learned g c =
    are_learned (λ s. s.amount) c.args.passes.items c.in_ok-rest.rest.items c.args.shares.items c.gather.result
    c.in_ok-rest.ensures.conserves c.requires.counted c.requires.lost
    (omega (
      arith,
      c.gather.ensures.counted,
      c.in_ok-learn_left.ensures.own.1,
      c.in_ok-learn_left.ensures.amount,
      c.requires.own.1,
    ))
