-- The questions of what stands at the places of a pattern, from left to right.
use Rattle.std.proofs.Common.{◌≡◌, ◌<◌, ◌+◌, ℕ, suc, Bool, true, false, List, [], ◌∷◌, ◌++◌, Result, Ok, Err, length}
use Rattle.std.proofs.Common.{get_or, take, drop, refl, ap, ◌∙◌, sym, subst, arith}
use Rattle.std.specs.Prelude.{◌&&◌, if◌then◌else◌, IfOk, OnOk}
use Rattle.std.proofs.Math.Seq.{drop-cons, take-suc}
use Rattle.po_word.specs.declared.memory.OutOfMemory.{OutOfMemory}
use Rattle.po_word.specs.Exprs.{Ask, Expr}
use Rattle.po_term.specs.Kinds.{Met, give, exprs}
use Rattle.po_model.specs.Fit.{question, questions, all_yes}
use Rattle.po_tsimp.specs.declared.path.Path.{Path as QuestionPath}
use Rattle.po_tsimp.specs.Made.{path_of, note, extended}
use Rattle.po_tsimp.proofs.Paths.{extended_append}
use Rattle.po_trec.specs.declared.found.Spot.{Spot}
use Rattle.po_trec.specs.Read.{Answers}
use Rattle.po_trec.specs.Spots.{HoleFound, found_of, founds_of, answers_from}
use Rattle.po_trec.proofs.Behind.{founds_more}

-- One question

abbrev yes_to : List ℕ → List (Ask Expr) → Met Expr Bool
yes_to ws qs = all_yes (exprs ws) qs

one_got : (b : Bool) → (if b then give {K = Expr} true else give {K = Expr} false).got ≡ b
one_got true = refl
one_got false = refl

one_asked : (b : Bool) → (if b then give {K = Expr} true else give {K = Expr} false).asked ≡ []
one_asked true = refl
one_asked false = refl

pub answered_one : (ws : List ℕ) (q : Ask Expr) (r : Result Bool OutOfMemory) (old new : QuestionPath)
    → IfOk r (λ b. b ≡ (exprs ws).says q) → OnOk r (path_of new ≡ note ws (path_of old) q)
    → Answers (λ b. b) ws r old new (yes_to ws (q ∷ []))
answered_one ws q (Ok b) old new h i = (
  h ∙ sym (one_got ((exprs ws).says q)),
  i
      ∙ ap (λ (qs : List (Ask Expr)). extended ws (note ws (path_of old) q) qs)
      (sym (one_asked ((exprs ws).says q))),
)
answered_one ws q (Err e) old new h i = h

-- Questions, and then others where all of these have the answer yes

abbrev pub then_if : Met Expr Bool → Met Expr Bool → Met Expr Bool
then_if m n = record { got = m.got && n.got; asked = m.asked ++ (if m.got then n.asked else []) }

yes_to-append : (ws : List ℕ) (qs rs : List (Ask Expr)) → yes_to ws (qs ++ rs) ≡ then_if (yes_to ws qs) (yes_to ws rs)
yes_to-append ws [] rs = refl
yes_to-append ws (q ∷ qs) rs = go ((exprs ws).says q) (yes_to-append ws qs rs)
  where
    go : (b : Bool) → yes_to ws (qs ++ rs) ≡ then_if (yes_to ws qs) (yes_to ws rs)
        → record {
          got = (if b then yes_to ws (qs ++ rs) else give false).got;
          asked =
              q ∷ (if b then yes_to ws (qs ++ rs) else give false).asked;
        }
        ≡ then_if (record {
          got = (if b then yes_to ws qs else give false).got;
          asked =
              q ∷ (if b then yes_to ws qs else give false).asked;
        }) (yes_to ws rs)
    go true h = ap (λ (m : Met Expr Bool). record { got = m.got; asked = q ∷ m.asked }) h
    go false h = refl

-- the place i, and then those behind it
from_place : (ws : List ℕ) (fs : List Spot) (i : ℕ) (d : Spot) → i < length fs
    → answers_from ws fs i ≡ then_if (yes_to ws (question (founds_of (take i fs)) (found_of (get_or fs i d))))
    (answers_from ws fs (suc i))
from_place ws fs i d below =
    ap (λ (l : List Spot). yes_to ws (questions (founds_of (take i fs)) (founds_of l))) (drop-cons fs i d below)
    ∙ yes_to-append ws (question (founds_of (take i fs)) (found_of (get_or fs i d)))
    (questions (founds_of (take i fs) ++ found_of (get_or fs i d) ∷ []) (founds_of (drop (suc i) fs)))
    ∙ ap (λ (l : List HoleFound). then_if (yes_to ws (question (founds_of (take i fs)) (found_of (get_or fs i d))))
    (yes_to ws (questions l (founds_of (drop (suc i) fs)))))
    (sym (founds_more (take i fs) (get_or fs i d)) ∙ ap founds_of (sym (take-suc fs i d below)))

then_answers : (ws : List ℕ) (b : Bool) (second : Result Bool OutOfMemory) (p q r : QuestionPath)
    (m n : Met Expr Bool) → b ≡ m.got → path_of q ≡ extended ws (path_of p) m.asked → b ≡ true
    → Answers (λ c. c) ws second q r n → Answers (λ c. c) ws second p r (then_if m n)
then_answers ws b (Ok c) p q r m n h i e j =
    let met : m.got ≡ true = sym h ∙ e in
    rw met (j.0, j.1 ∙ ap (λ kept. extended ws kept n.asked) i ∙ sym (extended_append ws m.asked n.asked (path_of p)))
then_answers ws b (Err x) p q r m n h i e j = j

stop_answers : (ws : List ℕ) (b : Bool) (p q : QuestionPath) (m n : Met Expr Bool) → b ≡ m.got
    → path_of q ≡ extended ws (path_of p) m.asked → b ≡ false
    → (false ≡ (then_if m n).got) × (path_of q ≡ extended ws (path_of p) (then_if m n).asked)
stop_answers ws b p q m n h i e =
    let met : m.got ≡ false = sym h ∙ e in
    rw met (refl, i ∙ sym (extended_append ws m.asked [] (path_of p)))

-- At the thing x, the place i

at_place : (ws : List ℕ) (fs : List Spot) (i : ℕ) (x : Spot) → i < length fs → x ≡ get_or fs i x
    → answers_from ws fs i ≡ then_if (yes_to ws (question (founds_of (take i fs)) (found_of x)))
    (answers_from ws fs (i + 1))
at_place ws fs i x below same =
    let next : suc i ≡ i + 1 = omega arith in
    from_place ws fs i x below
    ∙ ap (λ y. then_if (yes_to ws (question (founds_of (take i fs)) (found_of y))) (answers_from ws fs (suc i)))
    (sym same)
    ∙ ap (λ j. then_if (yes_to ws (question (founds_of (take i fs)) (found_of x))) (answers_from ws fs j)) next

pub next_answers : (ws : List ℕ) (fs : List Spot) (i : ℕ) (x : Spot) (b : Bool) (second : Result Bool OutOfMemory)
    (p q r : QuestionPath) → i < length fs → x ≡ get_or fs i x
    → b ≡ (yes_to ws (question (founds_of (take i fs)) (found_of x))).got
    → path_of q ≡ extended ws (path_of p) (yes_to ws (question (founds_of (take i fs)) (found_of x))).asked → b ≡ true
    → Answers (λ c. c) ws second q r (answers_from ws fs (i + 1))
    → Answers (λ c. c) ws second p r (answers_from ws fs i)
next_answers ws fs i x b second p q r below same h k e j =
    subst (λ m. Answers (λ c. c) ws second p r m) (sym (at_place ws fs i x below same))
    (then_answers ws b second p q r (yes_to ws (question (founds_of (take i fs)) (found_of x)))
    (answers_from ws fs (i + 1)) h k e j)

pub last_answers : (ws : List ℕ) (fs : List Spot) (i : ℕ) (x : Spot) (b : Bool) (p q : QuestionPath) → i < length fs
    → x ≡ get_or fs i x → b ≡ (yes_to ws (question (founds_of (take i fs)) (found_of x))).got
    → path_of q ≡ extended ws (path_of p) (yes_to ws (question (founds_of (take i fs)) (found_of x))).asked
    → b ≡ false → (false ≡ (answers_from ws fs i).got)
    × (path_of q ≡ extended ws (path_of p) (answers_from ws fs i).asked)
last_answers ws fs i x b p q below same h k e =
    subst (λ (m : Met Expr Bool). (false ≡ m.got) × (path_of q ≡ extended ws (path_of p) m.asked))
    (sym (at_place ws fs i x below same))
    (stop_answers ws b p q (yes_to ws (question (founds_of (take i fs)) (found_of x))) (answers_from ws fs (i + 1)) h
    k e)
