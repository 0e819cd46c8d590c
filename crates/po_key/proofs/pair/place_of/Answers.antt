use Rattle.std.proofs.Common.{sym, ◌∙◌}
use Rattle.po_term.specs.Simplified.{reg_eq}
use Rattle.po_skel.proofs.Places.{place_found, place_missing}
use Rattle.po_key.proofs.pair.place_of.Goals as goal

pub returns-in-Some : goal.returns-in-Some
returns-in-Some c =
    (place_found (reg_eq c.args.r) c.args.regs.now c.in-Some.k (sym c.find.ensures ∙ c.in-Some.is)).0

pub returns-in-None : goal.returns-in-None
returns-in-None c = place_missing (reg_eq c.args.r) c.args.regs.now (sym c.find.ensures ∙ c.in-None.is)
