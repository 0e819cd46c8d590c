-- Whether each question has its answer, one after another.
use Rattle.std.proofs.Common.{◌≡◌, ℕ, ◌-◌, ◌≤◌, Bool, true, false, List, [], ◌∷◌, length, take, drop, get_or, All, ◌↔◌}
use Rattle.std.proofs.Common.{sym, ◌∙◌, ap, subst, arith}
use Rattle.std.specs.Prelude.{IsTrue}
use Rattle.std.proofs.lemmas.List.{take_rest}
use Rattle.std.proofs.lemmas.List.Elements.{All-cons, All-head, All-tail}
use Rattle.po_word.specs.declared.expression.Question.{Question}
use Rattle.po_word.specs.Exprs.{Expr, Ask, ask_map, expr_value, is_so}
use Rattle.po_model.specs.Agrees.{Instance}
use Rattle.po_model.specs.Holed.{PlainRule, PlainValues, answered_of, asked_of}
use Rattle.po_model.specs.Pairs.{PlainPair}
use Rattle.po_model.specs.Shape.{pair_values, pair_shape}

-- the question has the answer
abbrev pub Gives : List ℕ → Ask Expr × Bool → Type 0
Gives ws qa = is_so (ask_map (expr_value ws) qa.0) ≡ qa.1

pub first_answered : (ws : List ℕ) (xs : List (Question × Bool)) (x : Question × Bool) (b : Bool) → 1 ≤ length xs
    → x ≡ get_or xs 0 x → Gives ws (answered_of x)
    → (IsTrue b ↔ All (Gives ws) (asked_of (take (length xs - 1) (drop 1 xs))))
    → (IsTrue b ↔ All (Gives ws) (asked_of xs))
first_answered ws [] x b h e g others = absurd (omega arith)
first_answered ws (y ∷ ys) x b h e g others =
    let whole : take (length (y ∷ ys) - 1) (drop 1 (y ∷ ys)) ≡ ys = take_rest (y ∷ ys) 1 in
    let here : Gives ws (answered_of y) = subst (λ (z : Question × Bool). Gives ws (answered_of z)) e g in (
      λ t. All-cons (Gives ws) (answered_of y) (asked_of ys) here
          (subst (λ (zs : List (Question × Bool)). All (Gives ws) (asked_of zs)) whole (others.0 t)),
      λ a. others.1 (subst (λ (zs : List (Question × Bool)). All (Gives ws) (asked_of zs)) (sym whole)
          (All-tail (Gives ws) (answered_of y) (asked_of ys) a)),
    )

pub first_not_answered : (ws : List ℕ) (xs : List (Question × Bool)) (x : Question × Bool) (b : Bool) → 1 ≤ length xs
    → x ≡ get_or xs 0 x → (Gives ws (answered_of x) → ⊥) → b ≡ false → (IsTrue b ↔ All (Gives ws) (asked_of xs))
first_not_answered ws [] x b h e g f = absurd (omega arith)
first_not_answered ws (y ∷ ys) x b h e g f = (
  λ t. absurd (cc),
  λ a. absurd (g (subst (λ (z : Question × Bool). Gives ws (answered_of z)) (sym e)
      (All-head (Gives ws) (answered_of y) (asked_of ys) a))),
)

-- a pair of the rule's shape
pub instance_by : (r : PlainRule) (p : PlainPair) (v : PlainValues) (ws : List ℕ) (qs : List (Question × Bool))
    (b : Bool)
    → pair_shape p ≡ r.shape → v ≡ pair_values p → ws ≡ v.consts → asked_of qs ≡ r.asked
    → (IsTrue b ↔ All (Gives ws) (asked_of qs)) → (IsTrue b ↔ Instance r p)
instance_by r p v ws qs b shape values consts asked k =
    let e : ws ≡ (pair_values p).consts = consts ∙ ap (λ (v : PlainValues). v.consts) values in (
      λ t. record {
        shape = shape;
        answers = subst (All (Gives (pair_values p).consts)) asked
            (subst (λ (ws : List ℕ). All (Gives ws) (asked_of qs)) e (k.0 t));
      },
      λ i. k.1 (subst (λ (ws : List ℕ). All (Gives ws) (asked_of qs)) (sym e)
          (subst (All (Gives (pair_values p).consts)) (sym asked) i.answers)),
    )

pub no_instance : (r : PlainRule) (p : PlainPair) (b : Bool) → (pair_shape p ≡ r.shape → ⊥) → b ≡ false
    → (IsTrue b ↔ Instance r p)
no_instance r p b other f = (λ t. absurd (cc), λ i. absurd (other i.shape))
