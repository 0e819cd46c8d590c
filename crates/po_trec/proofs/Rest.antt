-- What becomes of the first transfer of a list, and then of the rest.
use Rattle.std.proofs.Common.{◌≡◌, ◌∙◌, ◌≤◌, ◌-◌, ℕ, length, take, drop, get_or, length-drop, arith, List, [], ◌∷◌}
use Rattle.std.proofs.Common.{◌++◌, Option, Some, None, Result, Ok, Err, refl, ap, sym, subst, append-nil}
use Rattle.std.specs.Prelude.{IfOk}
use Rattle.std.specs.Global.{Vec}
use Rattle.std.proofs.Math.Seq.{take-length}
use Rattle.po_word.specs.declared.memory.OutOfMemory.{OutOfMemory}
use Rattle.po_word.specs.Exprs.{Expr, Ask}
use Rattle.po_term.specs.Kinds.{Met, give, and_then, exprs}
use Rattle.po_term.specs.Simplified.{simple_move, simple_moves}
use Rattle.po_model.specs.declared.hole.PTransfer.{PTransfer}
use Rattle.po_model.specs.Forward.{with_some, and_some}
use Rattle.po_model.specs.Joined.{forward_move, forward_moves}
use Rattle.po_model.specs.Holed.{HoleMove, hole_move_of, hole_moves_of}
use Rattle.po_model.specs.Generalised.{same_hole_register, hole_leaves}
use Rattle.po_tsimp.specs.declared.path.Path.{Path as QuestionPath}
use Rattle.po_tsimp.specs.Made.{path_of, extended}
use Rattle.po_tsimp.proofs.Paths.{extended_append}
use Rattle.po_trec.specs.Read.{list_of, Answers}

-- the code's rest of a list is the list behind the first
pub rest_whole : {X : Type 0} (xs : List X) (n : ℕ) → take (length xs - n) (drop n xs) ≡ drop n xs
rest_whole xs n =
    let e : length (drop n xs) ≡ length xs - n = length-drop n xs in rw (← e) (take-length (drop n xs))

-- the questions of two readings, one after the other
one_path : (ws : List ℕ) (p q r : QuestionPath) (earlier later : List (Ask Expr))
    → path_of q ≡ extended ws (path_of p) earlier
    → path_of r ≡ extended ws (path_of q) later → path_of r ≡ extended ws (path_of p) (earlier ++ (later ++ []))
one_path ws p q r earlier later e f =
    f ∙ ap (λ kept. extended ws kept later) e ∙ sym (extended_append ws earlier later (path_of p))
    ∙ ap (λ (qs : List (Ask Expr)). extended ws (path_of p) (earlier ++ qs)) (sym (append-nil later))

-- Transfers simplified

both_moves : (ws : List ℕ) (m n : Met Expr (List HoleMove)) (xs ys : List HoleMove)
    (all : Result (Vec PTransfer) OutOfMemory) (p q r : QuestionPath) → xs ≡ m.got
    → path_of q ≡ extended ws (path_of p) m.asked → ys ≡ n.got → path_of r ≡ extended ws (path_of q) n.asked
    → IfOk all (λ zs. hole_moves_of zs.items ≡ xs ++ ys)
    → Answers list_of ws all p r (and_then m (λ ms. and_then n (λ ns. give (ms ++ ns))))
both_moves ws m n xs ys (Ok zs) p q r e f g h i =
    (i ∙ ap (λ ms. ms ++ ys) e ∙ ap (λ ns. m.got ++ ns) g, one_path ws p q r m.asked n.asked f h)
both_moves ws m n xs ys (Err x) p q r e f g h i = i

abbrev one_simple : List ℕ → HoleMove → Met Expr (List HoleMove)
one_simple ws m = simple_move (exprs ws) same_hole_register m

abbrev all_simple : List ℕ → List HoleMove → Met Expr (List HoleMove)
all_simple ws ms = simple_moves (exprs ws) same_hole_register ms

pub simple_rest : (ws : List ℕ) (ts : List PTransfer) (t : PTransfer) (xs ys : List HoleMove)
    (all : Result (Vec PTransfer) OutOfMemory) (p q r : QuestionPath) → 1 ≤ length ts → t ≡ get_or ts 0 t
    → xs ≡ (one_simple ws (hole_move_of t)).got
    → path_of q ≡ extended ws (path_of p) (one_simple ws (hole_move_of t)).asked
    → ys ≡ (all_simple ws (hole_moves_of (take (length ts - 1) (drop 1 ts)))).got
    → path_of r ≡ extended ws (path_of q) (all_simple ws (hole_moves_of (take (length ts - 1) (drop 1 ts)))).asked
    → IfOk all (λ zs. hole_moves_of zs.items ≡ xs ++ ys)
    → Answers list_of ws all p r (all_simple ws (hole_moves_of ts))
simple_rest ws [] t xs ys all p q r some same e f g h i = absurd (omega arith)
simple_rest ws (u ∷ us) t xs ys all p q r some same e f g h i =
    let P : List PTransfer → Type 0 = λ l.
    (ys ≡ (all_simple ws (hole_moves_of l)).got)
    × (path_of r ≡ extended ws (path_of q) (all_simple ws (hole_moves_of l)).asked) in
    let rest : P us = subst P (rest_whole (u ∷ us) 1) (g, h) in
    subst (λ (v : PTransfer). Answers list_of ws all p r (all_simple ws (hole_moves_of (v ∷ us)))) same
    (both_moves ws (one_simple ws (hole_move_of t)) (all_simple ws (hole_moves_of us)) xs ys all p q r e f rest.0
    rest.1 i)

-- Transfers read through the first instruction

abbrev Found : Type 0
Found = Option (List HoleMove)

abbrev behind_first : Met Expr Found → Found → Met Expr Found
behind_first n o = with_some o (λ ms. and_some n (λ ns. give (Some (ms ++ ns))))

abbrev both_found : Met Expr Found → Met Expr Found → Met Expr Found
both_found m n = and_some m (λ ms. and_some n (λ ns. give (Some (ms ++ ns))))

-- on a path that goes from p to r, this is found
abbrev ForwardsTo : List ℕ → QuestionPath → QuestionPath → Found → Met Expr Found → Type 0
ForwardsTo ws p r got m = (got ≡ m.got) × (path_of r ≡ extended ws (path_of p) m.asked)

behind_some : (ws : List ℕ) (m n : Met Expr Found) (xs : List HoleMove) (got : Found) (p r : QuestionPath)
    → Some xs ≡ m.got → got ≡ (behind_first n (Some xs)).got
    → path_of r ≡ extended ws (path_of p) (m.asked ++ (behind_first n (Some xs)).asked)
    → ForwardsTo ws p r got (both_found m n)
behind_some ws m n xs got p r e f g =
    subst (λ (o : Found). (got ≡ (behind_first n o).got)
    × (path_of r ≡ extended ws (path_of p) (m.asked ++ (behind_first n o).asked))) e (f, g)

abbrev after_list : List HoleMove → Found → Met Expr Found
after_list xs o = with_some o (λ ns. give (Some (xs ++ ns)))

both_then : (ws : List ℕ) (m n : Met Expr Found) (xs : List HoleMove) (o : Found) (p q r : QuestionPath)
    → Some xs ≡ m.got → path_of q ≡ extended ws (path_of p) m.asked → o ≡ n.got
    → path_of r ≡ extended ws (path_of q) n.asked → (after_list xs o).asked ≡ []
    → ForwardsTo ws p r (after_list xs o).got (both_found m n)
both_then ws m n xs o p q r e f g h none =
    behind_some ws m n xs (after_list xs o).got p r e (ap (λ (u : Found). (after_list xs u).got) g)
    (one_path ws p q r m.asked n.asked f h
    ∙ ap (λ (qs : List (Ask Expr)). extended ws (path_of p) (m.asked ++ (n.asked ++ qs)))
    (sym none ∙ ap (λ (u : Found). (after_list xs u).asked) g))

abbrev one_forwarded : List ℕ → List HoleMove → HoleMove → Met Expr Found
one_forwarded ws a m = forward_move (exprs ws) hole_leaves a m

abbrev all_forwarded : List ℕ → List HoleMove → List HoleMove → Met Expr Found
all_forwarded ws a ms = forward_moves (exprs ws) hole_leaves a ms

pub forward_rest : (ws : List ℕ) (a : List HoleMove) (ts : List PTransfer) (t : PTransfer) (xs : List HoleMove)
    (o : Found) (p q r : QuestionPath) → 1 ≤ length ts → t ≡ get_or ts 0 t
    → Some xs ≡ (one_forwarded ws a (hole_move_of t)).got
    → path_of q ≡ extended ws (path_of p) (one_forwarded ws a (hole_move_of t)).asked
    → o ≡ (all_forwarded ws a (hole_moves_of (take (length ts - 1) (drop 1 ts)))).got
    → path_of r
    ≡ extended ws (path_of q) (all_forwarded ws a (hole_moves_of (take (length ts - 1) (drop 1 ts)))).asked
    → (after_list xs o).asked ≡ [] → ForwardsTo ws p r (after_list xs o).got (all_forwarded ws a (hole_moves_of ts))
forward_rest ws a [] t xs o p q r some same e f g h none = absurd (omega arith)
forward_rest ws a (u ∷ us) t xs o p q r some same e f g h none =
    let P : List PTransfer → Type 0 = λ l.
    (o ≡ (all_forwarded ws a (hole_moves_of l)).got)
    × (path_of r ≡ extended ws (path_of q) (all_forwarded ws a (hole_moves_of l)).asked) in
    let rest : P us = subst P (rest_whole (u ∷ us) 1) (g, h) in
    subst (λ (v : PTransfer). ForwardsTo ws p r (after_list xs o).got (all_forwarded ws a (hole_moves_of (v ∷ us))))
    same
    (both_then ws (one_forwarded ws a (hole_move_of t)) (all_forwarded ws a (hole_moves_of us)) xs o p q r e f rest.0
    rest.1 none)
