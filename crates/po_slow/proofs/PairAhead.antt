-- What becomes of the last done instruction and the next one, by what is live after the next one.
use Rattle.std.proofs.Common.{◌≡◌, ℕ, ◌-◌, ◌<◌, ◌≤◌, ◌||◌, Bool, List, [], ◌∷◌, length, reverse, take, drop, get_or}
use Rattle.std.proofs.Common.{refl, ap, sym}
use Rattle.std.proofs.Common.{subst, ◌∙◌, arith}
use Rattle.po_term.specs.declared.term.Reg.{Reg as Register}
use Rattle.po_term.specs.declared.transfer.Instr.{Instr}
use Rattle.po_term.specs.Moves.{PlainInstr, instr_of, instrs_of}
use Rattle.po_term.specs.Kinds.{words}
use Rattle.po_model.specs.declared.machine.Machine.{Machine}
use Rattle.po_model.specs.declared.var.Var.{Var}
use Rattle.po_model.specs.declared.var.Var.TheVariants.{Reg, Cc}
use Rattle.po_model.specs.Parts.{code_leaves}
use Rattle.po_model.specs.Pairs.{is_live_after}
use Rattle.po_model.specs.Combined.{Answer, recognised, combined, combination}
use Rattle.po_model.specs.Scanned.{Ahead, pair_with, ready, instrs_ahead}
use Rattle.po_live.specs.Sets.{has_reg}
use Rattle.po_subst.specs.Seen.{is_among}
use Rattle.po_subst.proofs.Reading.{reg_swap}
use Rattle.po_slow.specs.States.{IsAnswer}
use Rattle.po_slow.proofs.Standing.{done_at, ahead_at}
use Rattle.po_subst.proofs.Targets.{joined_same}
use Rattle.po_slow.proofs.PairWith.{pair_tells}

pub combined_ahead : (m : Machine) (live : Register → Bool) (cc_live : Bool) (d : PlainInstr) (x : Ahead)
    → ((r : Register) → live r ≡ x.live (Reg r)) → cc_live ≡ x.live Cc
    → (combined words code_leaves m live cc_live d x.instr).got ≡ combination m (pair_with d x)
combined_ahead m live cc_live d x same cc_same =
    ap (λ c. (combined words code_leaves m live c d x.instr).got) cc_same
    ∙ ap (λ j. (recognised words code_leaves m (x.live Cc) j).got)
    (joined_same live (is_live_after (pair_with d x)) (x.live Cc) d x.instr
    (λ r e. same r ∙ (pair_tells d x).regs r e))

-- the two ways to ask whether a register is one of these
pub has_is_among : (rs : List Register) (r : Register) → has_reg rs r ≡ is_among rs r
has_is_among [] r = refl
has_is_among (q ∷ qs) r = λ i. reg_swap q r i || has_is_among qs r i

-- what becomes of the two where they stand in a block is the answer for the pair that is ready
pub answer_there : (m : Machine) (live : ℕ → Var → Bool) (xs : List Instr) (done next : ℕ) (d x : Instr) (o : Answer)
    → 0 < done → done ≤ next → next < length xs → d ≡ get_or xs (done - 1) d → x ≡ get_or xs next x
    → o ≡ combination m (pair_with (instr_of d) (record { instr = instr_of x; live = live next }))
    → IsAnswer m (ready (reverse (take done (instrs_of xs))) (instrs_ahead live next (drop next (instrs_of xs)))) o
answer_there m live xs done next d x o some order inside d_is x_is e =
    let ds = done_at xs (done - 1) done d (omega arith) (omega arith) d_is in
    let rs = ahead_at live xs next x inside x_is in
    subst (λ p. IsAnswer m p o) (sym (λ i. ready (ds i) (rs i))) e
