use Rattle.std.proofs.Common.{◌≡◌, suc, ◌-◌, ◌<◌, ◌∷◌, length, drop, drop-cons, ap, sym, ◌∙◌, subst, arith}
use Rattle.std.specs.Prelude.{◌||◌}
use Rattle.po_term.specs.Moves.{instr_of, instrs_of}
use Rattle.po_model.specs.declared.var.Var.{Var}
use Rattle.po_live.specs.Sets.{is_fp, back, holds}
use Rattle.po_live.specs.Parts.{IsGrown}
use Rattle.po_live.proofs.Instrs.{live_more}
use Rattle.po_live.proofs.Listed.{grown_more}
use Rattle.po_live.proofs.parts.put_parts.Goals as goal

pub loop-i-preserved : goal.loop-i-preserved
loop-i-preserved c =
    let xs = c.args.xs.now in
    let old = c.args.list.now in
    let list = c.loop-i.list in
    let new = c.put_part.new.list in
    let out = holds c.args.out.now in
    let i = c.loop-i.i - 1 in
    let next : c.loop-i.i ≡ suc i = omega arith in
    let here : i < length xs = omega arith in
    let behind : (q : Var) → holds c.loop-i.live q ≡ (is_fp q || back (instrs_of (drop (suc i) xs)) out q) =
    λ q. c.loop-i.invariant.live q ∙ ap (λ k. is_fp q || back (instrs_of (drop k xs)) out q) next in
    let grown : IsGrown old.regs.items old.parts.items list.regs.items list.parts.items (instrs_of (drop (suc i) xs))
    out =
    subst (λ k. IsGrown old.regs.items old.parts.items list.regs.items list.parts.items (instrs_of (drop k xs)) out)
    next c.loop-i.invariant.grown in
    let cut = drop-cons xs i c.index-xs-i.result here ∙ ap (λ x. x ∷ drop (suc i) xs) (sym c.index-xs-i.is) in
    record {
      within = omega arith;
      live =
          live_more xs i c.loop-i.i c.index-xs-i.result out (holds c.loop-i.live) (holds c.step_with_fp.new.live) next
          here c.index-xs-i.is c.loop-i.invariant.live c.in_ok-step_with_fp.ensures;
      grown =
          grown_more old.regs.items old.parts.items list.regs.items list.parts.items new.regs.items new.parts.items
          (instr_of c.index-xs-i.result) (instrs_of (drop (suc i) xs)) (instrs_of (drop i xs)) out c.loop-i.live
          grown behind (ap instrs_of cut) c.in_ok-put_part.ensures.regs c.in_ok-put_part.ensures.parts;
      ends = c.in_ok-put_part.ensures.ends ∙ c.loop-i.invariant.ends;
    }
