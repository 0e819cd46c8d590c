-- What two instructions come to, seen as moves.
use Rattle.std.specs.Prelude.{ℕ, nat_lt, if◌then◌else◌, length}
use Rattle.po_term.specs.declared.term.Reg.{Reg as Register}
use Rattle.po_term.specs.declared.term.Sym.{Sym}
use Rattle.po_term.specs.Terms.{Place}
use Rattle.po_term.specs.Moves.{instr_of}
use Rattle.po_model.specs.Joined.{Joint, NotJoined, NothingLeft, AsOne}
use Rattle.po_subst.specs.declared.joining.Joined.{Joined}
use Rattle.po_subst.specs.declared.joining.Joined.TheVariants as answer

abbrev pub joint_of : Joined → Joint ℕ Place Register Sym
joint_of answer.Not = NotJoined
joint_of answer.Empty = NothingLeft
joint_of (answer.List i) = AsOne (instr_of i)

-- what two instructions come to, where a list of more than so many transfers is none: they stay two then
abbrev pub at_most : ℕ → Joint ℕ Place Register Sym → Joint ℕ Place Register Sym
at_most most NotJoined = NotJoined
at_most most NothingLeft = NothingLeft
at_most most (AsOne ms) = if nat_lt most (length ms) then NotJoined else AsOne ms
