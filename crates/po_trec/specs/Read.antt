-- What a call answers, and the questions that it puts onto a path; what a call finds, seen without references and
-- boxes.
use Rattle.std.specs.Prelude.{ℕ, ◌≡◌, List, Option, Result, IfOk}
use Rattle.std.specs.Option.{option_map, option_to_list}
use Rattle.std.specs.Global.{Vec}
use Rattle.std.proofs.Common.{Bor}
use Rattle.po_word.specs.declared.memory.OutOfMemory.{OutOfMemory}
use Rattle.po_word.specs.declared.expression.CExpr.{CExpr}
use Rattle.po_word.specs.Exprs.{Expr}
use Rattle.po_word.specs.Views.{expr_of}
use Rattle.po_term.specs.Kinds.{Met}
use Rattle.po_model.specs.declared.hole.PTerm.{PTerm}
use Rattle.po_model.specs.declared.hole.PTransfer.{PTransfer}
use Rattle.po_model.specs.Holed.{HoleTree, HoleMove, hole_tree_of, hole_moves_of}
use Rattle.po_tsimp.specs.declared.path.Path.{Path as QuestionPath}
use Rattle.po_tsimp.specs.Made.{path_of, extended}

-- a term or an expression that was found, behind its reference
abbrev pub tree_found : Option (Bor PTerm) → Option HoleTree
tree_found found = option_map (λ t. hole_tree_of t.now) found

abbrev pub expr_found : Option (Bor CExpr) → Option Expr
expr_found found = option_map (λ e. expr_of e.now) found

-- on Ok: the answer, seen as plain data, is what the table gives, and the path has the questions that were met
abbrev pub Answers : {A B : Type 0} → (A → B) → List ℕ → Result A OutOfMemory → QuestionPath → QuestionPath
    → Met Expr B → Type 0
Answers view ws result old new m =
    IfOk result (λ x. (view x ≡ m.got) × (path_of new ≡ extended ws (path_of old) m.asked))

-- two terms that were found, behind their references
abbrev pub two_found : Option (Bor PTerm × Bor PTerm) → Option (HoleTree × HoleTree)
two_found found = option_map (λ two. (hole_tree_of two.0.now, hole_tree_of two.1.now)) found

-- a term that was made, where there is one
abbrev pub tree_made : Option PTerm → Option HoleTree
tree_made made = option_map hole_tree_of made

-- the transfers that were made of one: none, or one
abbrev pub moves_made : Option PTransfer → List HoleMove
moves_made made = hole_moves_of (option_to_list made)

-- a list of transfers that was made, where there is one
abbrev pub list_of : Vec PTransfer → List HoleMove
list_of xs = hole_moves_of xs.items

abbrev pub list_made : Option (Vec PTransfer) → Option (List HoleMove)
list_made made = option_map list_of made
