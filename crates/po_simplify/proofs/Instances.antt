-- The two uses of a reading that follows another: words put into expressions, and words that answer the same
-- questions alike.
use Rattle.std.proofs.Common.{◌≡◌, ℕ, Bool, List, [], ◌∷◌, map, refl, sym, ◌∙◌, ap}
use Rattle.po_word.specs.Exprs.{Expr, Ask, Zero, One, Ones, Pow2, Within, Same, Related, ask_map, expr_value}
use Rattle.po_term.specs.Tree.{Tree, Const, Leaf, Read, Unary, Binary, tree_map}
use Rattle.po_term.specs.Kinds.{Met, words, exprs}
use Rattle.po_term.specs.Simplified.{simple}
use Rattle.po_simplify.proofs.Follows.{Carries, Alike, met_map, simple-follows}

pub values_carry : (ws : List ℕ) → Carries (exprs ws) words (λ e. expr_value ws e)
values_carry ws = record { number = λ n. refl; un = λ o c. refl; bin = λ o c d. refl; log2 = λ c. refl }

pub same_carry : (ws us : List ℕ) → Carries (exprs ws) (exprs us) (λ e. e)
same_carry ws us = record { number = λ n. refl; un = λ o c. refl; bin = λ o c d. refl; log2 = λ c. refl }

-- a question about expressions is answered by their words
pub values_alike : (ws : List ℕ) (qs : List (Ask Expr)) → Alike (exprs ws) words (λ e. expr_value ws e) qs
values_alike ws [] = tt
values_alike ws (q ∷ qs) = (refl, values_alike ws qs)

same_ask : (q : Ask Expr) → ask_map (λ e. e) q ≡ q
same_ask (Zero c) = refl
same_ask (One c) = refl
same_ask (Ones c) = refl
same_ask (Pow2 c) = refl
same_ask (Within c lo hi) = refl
same_ask (Same c d) = refl
same_ask (Related r c d) = refl

pub same_asks : (qs : List (Ask Expr)) → map (ask_map (λ e. e)) qs ≡ qs
same_asks [] = refl
same_asks (q ∷ qs) = rw (same_ask q) (ap (λ rs. q ∷ rs) (same_asks qs))

pub same_tree : {K L : Type 0} (t : Tree K L) → tree_map (λ (e : K). e) (λ (p : L). p) t ≡ t
same_tree (Const c) = refl
same_tree (Leaf l) = refl
same_tree (Read x) = ap Read (same_tree x)
same_tree (Unary o x) = ap (λ y. Unary o y) (same_tree x)
same_tree (Binary o x y) = rw (same_tree x) (ap (λ z. Binary o x z) (same_tree y))

-- both lists of words answer these questions alike
abbrev pub AnswerAlike : List ℕ → List ℕ → List (Ask Expr) → Type 0
AnswerAlike ws us [] = Unit {0}
AnswerAlike ws us (q ∷ qs) = ((exprs us).says q ≡ (exprs ws).says q) × AnswerAlike ws us qs

pub same_alike : (ws us : List ℕ) (qs : List (Ask Expr)) → AnswerAlike ws us qs → Alike (exprs ws) (exprs us) (λ e. e)
    qs
same_alike ws us [] h = tt
same_alike ws us (q ∷ qs) h = (rw (same_ask q) h.0, same_alike ws us qs h.1)

module _ {L : Type 0} (same : L → L → Bool) where
  same_met : (m : Met Expr (Tree Expr L)) → met_map (λ e. e) (tree_map (λ e. e) (λ p. p)) m ≡ m
  same_met m = rw (same_tree m.got) (rw (same_asks m.asked))

  -- simplifying and then putting in words is putting them in and then simplifying
  pub simple_puts_in : {M : Type 0} (same_after : M → M → Bool) (g : L → M)
      → ((a b : L) → same_after (g a) (g b) ≡ same a b) → (ws : List ℕ) (t : Tree Expr L) → tree_map (expr_value ws) g
      (simple (exprs ws) same t).got ≡ (simple words same_after (tree_map (expr_value ws) g t)).got
  simple_puts_in {M = M} same_after g apart ws t =
      sym (ap (λ (m : Met ℕ (Tree ℕ M)). m.got) (simple-follows (exprs ws) words (λ e. expr_value ws e) g same
      same_after (values_carry ws) apart t (values_alike ws (simple (exprs ws) same t).asked)))

  -- words that answer the questions alike meet the same questions, and get the same result
  pub simple_alike : (ws us : List ℕ) (t : Tree Expr L) → AnswerAlike ws us (simple (exprs ws) same t).asked
      → simple (exprs us) same t ≡ simple (exprs ws) same t
  simple_alike ws us t h =
      let e : simple (exprs us) same (tree_map (λ e. e) (λ p. p) t) ≡ met_map (λ e. e) (tree_map (λ e. e) (λ p. p))
      (simple (exprs ws) same t) = simple-follows (exprs ws) (exprs us) (λ e. e) (λ p. p) same same
      (same_carry ws us) (λ p q. refl) t (same_alike ws us (simple (exprs ws) same t).asked h) in
      (rw (same_tree t) at e) ∙ same_met (simple (exprs ws) same t)
