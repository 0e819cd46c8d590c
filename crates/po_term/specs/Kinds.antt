-- A reading of a table: what came out, and the questions that were met on the way, in order.
use Rattle.std.specs.Prelude.{ℕ, Bool, if◌then◌else◌, List, [], ◌∷◌, ◌++◌}
use Rattle.po_word.specs.declared.operator.Un.{Un}
use Rattle.po_word.specs.declared.operator.Bin.{Bin}
use Rattle.po_word.specs.Words.{un_value, bin_value}
use Rattle.po_word.specs.Exprs.{Expr, Number, UnOf, BinOf, Log2Of, expr_value, Ask, ask_map, is_so, log2}

-- a kind of constants: how they are folded, and how questions about them are answered
pub record Kind (K : Type 0) : Type 0 where
  pub number : ℕ → K
  pub un : Un → K → K
  pub bin : Bin → K → K → K
  pub log2 : K → K
  pub says : Ask K → Bool

-- the constants that are words
abbrev pub words : Kind ℕ
words = record { number = λ n. n; un = un_value; bin = bin_value; log2 = log2; says = is_so }

-- the constants that are expressions, where a fold writes an expression and hole k is the word k for a question
abbrev pub exprs : List ℕ → Kind Expr
exprs ws = record {
  number = Number;
  un = UnOf;
  bin = BinOf;
  log2 = Log2Of;
  says = λ q.
      is_so (ask_map (expr_value ws) q);
}

pub record Met (K A : Type 0) : Type 0 where
  pub got : A
  pub asked : List (Ask K)

-- with no question
abbrev pub give : {K A : Type 0} → A → Met K A
give x = record { got = x; asked = [] }

-- m, and then what f makes of its result
abbrev pub and_then : {K A B : Type 0} → Met K A → (A → Met K B) → Met K B
and_then m f = record { got = (f m.got).got; asked = m.asked ++ (f m.got).asked }

-- the question q; yes: the first; no: the second
abbrev pub ask : {K A : Type 0} → Kind K → Ask K → Met K A → Met K A → Met K A
ask k q a b = let m = if k.says q then a else b in record { got = m.got; asked = q ∷ m.asked }
