-- Which transfers of two instructions A and B surely are among those of the list that they come to.
use Rattle.std.specs.Prelude.{Bool, true, false, not, ◌&&◌, ◌||◌, is_some, filter}
use Rattle.std.specs.List.{list_any}
use Rattle.po_term.specs.declared.term.Reg.{Reg as Register}
use Rattle.po_term.specs.Moves.{IfCc, IfTwo, SetTo, CcTo, StoreTo, Ends, PlainMove, PlainInstr}
use Rattle.po_model.specs.declared.var.Var.TheVariants.{Reg}
use Rattle.po_model.specs.LiveAfter.{term_reads, move_reads}
use Rattle.po_model.specs.Parts.{code_leaves, cc_of}
use Rattle.po_model.specs.Joined.{is_control, is_wanted, is_kept}

-- a transfer reads r, or is one of control
abbrev pub may_read : Register → PlainMove → Bool
may_read r m = is_control m || move_reads m (Reg r)

-- it sets a register to a term that has the register
abbrev pub feeds_itself : PlainMove → Bool
feeds_itself (SetTo r t) = term_reads t (Reg r)
feeds_itself m = false

-- a transfer of A surely stays beside B
abbrev pub stays : (Register → Bool) → Bool → PlainInstr → PlainMove → Bool
stays live cc_live b m =
    is_kept code_leaves live cc_live (filter (is_wanted live cc_live) b) m && not (feeds_itself m)

-- a transfer of B surely comes into the list, read after A
abbrev pub comes : (Register → Bool) → Bool → PlainInstr → PlainMove → Bool
comes live cc_live a (SetTo r t) = live r && (not (term_reads t (Reg r)) && not (list_any (may_read r) a))
comes live cc_live a (CcTo t u) = cc_live
comes live cc_live a (StoreTo t u) = true
comes live cc_live a (Ends (IfCc r l)) = not (is_some (cc_of a))
comes live cc_live a (Ends (IfTwo t u r l)) = false
comes live cc_live a (Ends e) = true
