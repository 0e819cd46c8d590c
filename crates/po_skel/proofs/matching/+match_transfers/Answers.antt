use Rattle.std.proofs.Common.{◌≡◌, ℕ, ◌≤◌, ◌<◌, List, [], ◌∷◌, length, arith}
use Rattle.po_term.specs.declared.transfer.Transfer.{Transfer}
use Rattle.po_term.specs.Moves.{moves_of}
use Rattle.po_model.specs.declared.hole.PTransfer.{PTransfer}
use Rattle.po_model.specs.Holed.{PlainValues, values_of, hole_moves_of}
use Rattle.po_model.specs.Shape.{hole_moves}
use Rattle.po_skel.proofs.matching.+match_transfers.Goals as goal

none_and_some : (v : PlainValues) (n : ℕ) (ss : List PTransfer) (ts : List Transfer) → length ss < 1 → 1 ≤ length ts
    → hole_moves_of ss ≡ hole_moves v n (moves_of ts) → ⊥
none_and_some v n [] [] h k e = omega arith
none_and_some v n [] (t ∷ ts) h k e = cc
none_and_some v n (s ∷ ss) ts h k e = omega arith

pub returns-in_default : goal.returns-in_default
returns-in_default t c = λ e.
    none_and_some (values_of c.args.v.now) c.args.n c.args.ss.now c.args.ts.now c.in-empty.len_below
    c.in_default.len_at_least e
