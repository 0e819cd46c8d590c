-- What two instructions of a shape come to, seen as moves.
use Rattle.std.specs.Prelude.{ℕ}
use Rattle.po_word.specs.Exprs.{Expr}
use Rattle.po_model.specs.declared.hole.PReg.{PReg}
use Rattle.po_model.specs.Joined.{Joint, NotJoined, NothingLeft, AsOne}
use Rattle.po_model.specs.Holed.{HolePlace, hole_moves_of}
use Rattle.po_trec.specs.declared.joining.JoinedP.{JoinedP}
use Rattle.po_trec.specs.declared.joining.JoinedP.TheVariants as answer

abbrev pub joint_of : JoinedP → Joint Expr HolePlace PReg ℕ
joint_of answer.Not = NotJoined
joint_of answer.Empty = NothingLeft
joint_of (answer.List xs) = AsOne (hole_moves_of xs.items)
