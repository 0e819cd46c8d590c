use Rattle.std.proofs.Common.{◌≡◌, ℕ, suc, ◌<◌, Bool, true, List, [], ◌∷◌, length, ◌∙◌, refl, sym, arith}
use Rattle.std.specs.Prelude.{IsTrue}
use Rattle.std.specs.Bool.{◌==◌}
use Rattle.std.proofs.lemmas.Bool.{eqb-true}
use Rattle.po_term.specs.declared.transfer.Transfer.{Transfer}
use Rattle.po_term.specs.Moves.{moves_of}
use Rattle.po_model.specs.declared.hole.PTransfer.{PTransfer}
use Rattle.po_model.specs.Holed.{PlainValues, values_of, hole_moves_of}
use Rattle.po_skel.specs.Numbered.{numbered_moves}
use Rattle.po_skel.proofs.Numbered.{few_at}
use Rattle.po_skel.proofs.binding.+bind_transfers.Goals as goal

pub bind_transfer-requires : goal.bind_transfer-requires
bind_transfer-requires t c =
    few_at (values_of c.args.v.now) c.args.ts.now 0 c.t-item.result (omega arith) c.t-item.is c.requires

some_left : (n : ℕ) (b : Bool) → b ≡ (suc n == 0) → b ≡ true → ⊥
some_left n b e f = absurd (let none = eqb-true (suc n) 0 (sym e ∙ f) in omega arith)

none_left : (v : PlainValues) (ss : List PTransfer) (ts : List Transfer) (b : Bool) → length ss < 1
    → b ≡ (length ts == 0) → (IsTrue b → hole_moves_of ss ≡ numbered_moves v (moves_of ts))
    × (hole_moves_of ss ≡ numbered_moves v (moves_of ts) → IsTrue b)
none_left v [] [] b h e = (λ f. refl, λ f. e)
none_left v [] (t ∷ ts) b h e = (λ f. absurd (some_left (length ts) b e f), λ f. absurd (cc))
none_left v (s ∷ ss) ts b h e = absurd (omega arith)

pub returns-in-empty-clause-same : goal.returns-in-empty-clause-same
returns-in-empty-clause-same t c =
    none_left (values_of c.args.v.now) c.args.ss.now c.args.ts.now c.is_empty.result c.in-empty.len_below
    c.is_empty.ensures
