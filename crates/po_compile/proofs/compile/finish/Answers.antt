use Rattle.std.proofs.Common.{◌++◌, ◌∙◌, ap}
use Rattle.po_compile.specs.Steps.{units_of, placed_of}
use Rattle.po_compile.proofs.Assembled.{compiled, refused}
use Rattle.po_compile.proofs.compile.finish.Goals as goal

pub returns-in-Err-clause-compiles : goal.returns-in-Err-clause-compiles
returns-in-Err-clause-compiles g c = λ mode text naive begun codes rules.
    refused mode text c.args.machine.now naive (units_of c.args.made.codes.items) c.in-Err.refusal begun codes
    c.requires.formed c.in-Err.ensures

pub returns-clause-compiles : goal.returns-clause-compiles
returns-clause-compiles g c = λ mode text naive begun codes rules.
    let out = c.in_ok-out.ensures in
    compiled mode text c.args.machine.now naive (units_of c.args.made.codes.items)
    (placed_of c.deref.result.now) out.0 c.args.made.rules.items c.in_ok-out.out.items c.requires.machine begun codes
    c.requires.formed c.in-Ok.ensures.2 (ap placed_of c.deref.ensures.value ∙ c.in-Ok.ensures.0) out.1 rules
    (out.2 ∙ ap (λ r. out.0 ++ r) c.deref-2.ensures.value)
