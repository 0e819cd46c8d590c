-- Expressions and questions without their boxes.
use Rattle.po_word.specs.declared.expression.CExpr.{CExpr}
use Rattle.po_word.specs.declared.expression.CExpr.{Num, Hole, Un', Bin', Log2'}
use Rattle.po_word.specs.declared.expression.Question.{Question}
use Rattle.po_word.specs.declared.expression.Question.TheVariants.{IsZero, IsOne, IsOnes, IsPow2}
use Rattle.po_word.specs.declared.expression.Question.TheVariants.{InRange, Equal, Holds}
use Rattle.po_word.specs.Exprs.{Expr, Number, AtHole, UnOf, BinOf, Log2Of}
use Rattle.po_word.specs.Exprs.{Ask, Zero, One, Ones, Pow2, Within, Same, Related}

-- an expression as the plain one that it stands for
abbrev pub expr_of : CExpr → Expr
expr_of (Num c) = Number c
expr_of (Hole k) = AtHole k
expr_of (Un' o p x) = UnOf o (expr_of x)
expr_of (Bin' o p x q y) = BinOf o (expr_of x) (expr_of y)
expr_of (Log2' p x) = Log2Of (expr_of x)

-- a question as the plain one about plain expressions
abbrev pub ask_of : Question → Ask Expr
ask_of (IsZero e) = Zero (expr_of e)
ask_of (IsOne e) = One (expr_of e)
ask_of (IsOnes e) = Ones (expr_of e)
ask_of (IsPow2 e) = Pow2 (expr_of e)
ask_of (InRange e lo hi) = Within (expr_of e) lo hi
ask_of (Equal e f) = Same (expr_of e) (expr_of f)
ask_of (Holds r e f) = Related r (expr_of e) (expr_of f)
