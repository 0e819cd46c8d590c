-- A unit's code has at most four transfers in an instruction.
use Rattle.std.proofs.Common.{◌≤◌, List, [], ◌∷◌, length, suc, arith}
use Rattle.std.specs.List.{All}
use Rattle.std.proofs.lemmas.List.Elements.{All-append}
use Rattle.po_term.specs.Form.{WellFormed}
use Rattle.po_model.specs.Blocks.{PlainBlock}
use Rattle.po_model.specs.UnitCodes.{flat}
use Rattle.po_term.specs.Moves.{PlainInstr}

pub formed_few : (bs : List PlainBlock) → All (λ b. All WellFormed b.instrs) bs
    → All (λ (i : PlainInstr). length i ≤ 4) (flat bs)
formed_few [] h = λ k d l. absurd (omega arith)
formed_few (b ∷ bs) h =
    All-append (λ (i : PlainInstr). length i ≤ 4) b.instrs (flat bs) (λ k d l. (h 0 b (omega arith) k d l).few)
    (formed_few bs (λ k d l. h (suc k) d (omega arith)))
