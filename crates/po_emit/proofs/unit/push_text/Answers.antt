use Rattle.std.proofs.Common.{◌≡◌, ◌++◌, ◌∙◌, ℕ, Bool, List, refl, ap, subst, append_assoc, sym}
use Rattle.std.specs.Prelude.{codes}
use Rattle.std.specs.Global.{Vec}
use Rattle.std.proofs.lemmas.Result.{on_ok_weaker, on_err_weaker}
use Rattle.po_model.specs.Placement.{machine_of}
use Rattle.po_model.specs.Fitted.{TellsCc}
use Rattle.po_model.specs.UnitCodes.{unit_of}
use Rattle.po_model.specs.Assembly.{blocks_from, IsAssembly}
use Rattle.po_live.specs.Flags.{flag_at, flags_at}
use Rattle.po_emit.specs.Regs.{machine_at}
use Rattle.po_emit.specs.Fits.{FitBlocksFrom}
use Rattle.po_emit.proofs.Fitting.{recognised, if_ok_more}
use Rattle.po_emit.proofs.Starts.{starts_less}
use Rattle.po_emit.proofs.unit.push_text.Goals as goal

pub returns-clause-ok : goal.returns-clause-ok
returns-clause-ok c =
    let u = unit_of c.args.p.now.unit in
    let old = c.args.out.now.items in
    let lives = c.in_ok-lives.lives.after.items in
    let at = machine_at c.deref-2.result.now in
    let live : ℕ → ℕ → Bool = λ b i. flag_at (flags_at c.deref-3.result.now b) i in
    let blocks = blocks_from c.args.m.now at u live 0 u.code in
    let name : c.push_name_line.new.out.items ≡ old ++ u.name ++ codes ":\n" = c.in_ok-push_name_line.ensures.ok in
    let tells : TellsCc u.code (λ b i. flag_at (flags_at lives b) i) = c.in_ok-lives.ensures.live in
    let is : IsAssembly c.args.m.now c.args.p.now.regs.items u (u.name ++ codes ":\n" ++ blocks) = record {
      at = at;
      gives = λ v. ap (λ (regs : List ℕ). machine_at regs v) c.deref-2.ensures.value ∙ c.in_ok-regs.ensures v
          ∙ ap (λ (pairs : List (ℕ × ℕ)). machine_of pairs v) c.deref.ensures.value;
      live = live;
      tells =
          subst (λ (ls : List (Vec Bool)). TellsCc u.code (λ b i. flag_at (flags_at ls b) i))
          (sym c.deref-3.ensures.value) tells;
      lines = refl;
    } in
    on_ok_weaker c.push_blocks.result
    (λ e. (
      _,
      is,
      e ∙ ap (λ (t : List ℕ). t ++ blocks) (name ∙ append_assoc old u.name (codes ":\n"))
          ∙ append_assoc old (u.name ++ codes ":\n") blocks,
    ))
    c.push_blocks.ensures.ok

pub returns-clause-fits : goal.returns-clause-fits
returns-clause-fits c =
    let u = unit_of c.args.p.now.unit in
    let lives = c.in_ok-lives.lives.after.items in
    let tells : TellsCc u.code (λ b i. flag_at (flags_at lives b) i) = c.in_ok-lives.ensures.live in
    if_ok_more c.push_blocks.result
    (λ fits h all. recognised c.args.m.now lives u.code tells
    (subst (λ (ls : List (Vec Bool)). FitBlocksFrom c.args.m.now ls 0 u.code) c.deref-3.ensures.value (h all)))
    c.push_blocks.ensures.fits

pub returns-clause-err : goal.returns-clause-err
returns-clause-err c =
    let u = unit_of c.args.p.now.unit in
    let old = c.args.out.now.items in
    let name : c.push_name_line.new.out.items ≡ old ++ u.name ++ codes ":\n" = c.in_ok-push_name_line.ensures.ok in
    on_err_weaker c.push_blocks.result
    (starts_less old (u.name ++ codes ":\n") _ _ (name ∙ append_assoc old u.name (codes ":\n")))
    c.push_blocks.ensures.err
