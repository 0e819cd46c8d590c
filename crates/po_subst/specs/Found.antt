-- What a call adds to a list of transfers.
use Rattle.std.specs.Prelude.{Bool, if◌then◌else◌, List, [], ◌∷◌, ◌++◌, Option, Some, None}
use Rattle.std.specs.Option.{option_map}
use Rattle.po_term.specs.declared.term.Reg.{Reg as Register}
use Rattle.po_term.specs.declared.transfer.Transfer.{Transfer}
use Rattle.po_term.specs.declared.transfer.Instr.{Instr}
use Rattle.po_term.specs.Kinds.{words}
use Rattle.po_model.specs.Parts.{code_leaves}
use Rattle.po_model.specs.Joined.{is_wanted, forward_move}
use Rattle.po_term.specs.Moves.{PlainMove, PlainInstr, move_of, moves_of, instr_of}

-- the transfers, where they are known
abbrev pub known_moves : Bool → List Transfer → Option PlainInstr
known_moves known xs = if known then Some (moves_of xs) else None

-- the moves found, behind those of the list
abbrev pub behind : List Transfer → Option PlainInstr → Option PlainInstr
behind xs found = option_map (λ ys. moves_of xs ++ ys) found

-- an instruction that was made, where there is one
abbrev pub instr_made : Option Instr → Option PlainInstr
instr_made made = option_map instr_of made

-- a transfer that was made, as a list, where there is one
abbrev pub move_made : Option Transfer → Option PlainInstr
move_made made = option_map (λ t. move_of t ∷ []) made

-- what a transfer of B becomes: nothing where it isn't wanted
abbrev pub wanted_move : (Register → Bool) → Bool → PlainInstr → PlainMove → Option PlainInstr
wanted_move live cc_live a m = if is_wanted live cc_live m then (forward_move words code_leaves a m).got else Some []
