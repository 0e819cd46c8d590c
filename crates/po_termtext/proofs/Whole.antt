-- A whole text: reading is the inverse of printing.
use Rattle.std.proofs.Common.{◌≡◌, ◌≢◌, ℕ, ◌+◌, ◌≤◌, List, [], ◌∷◌, ◌++◌, true, Option, Some, None, refl, sym, ap}
use Rattle.std.proofs.Common.{◌∙◌, subst, arith, IfSome, IfNone, inl, inr}
use Rattle.std.specs.Prelude.{nat_le}
use Rattle.std.specs.Option.{option_map}
use Rattle.std.proofs.lemmas.Bool.Decides.{nat_tests}
use Rattle.po_term.specs.declared.term.Term.{Term}
use Rattle.po_term.specs.Tree.{Tree, tree_size, tree_depth}
use Rattle.po_term.specs.Terms.{Place, tree_of}
use Rattle.po_termtext.specs.TermText.{term_text}
use Rattle.po_term.specs.Form.{WellFormedTerm}
use Rattle.po_termtext.specs.Form.{HasNumbers}
use Rattle.po_termtext.specs.Reading.{◌>>=◌, Seen, term_in, whole, text_in}
use Rattle.po_termtext.proofs.Options.{chosen, bound}
use Rattle.po_termtext.proofs.Found.{term_found}
use Rattle.po_termtext.proofs.Again.{term_again}

append_none : (xs : List ℕ) → xs ++ [] ≡ xs
append_none [] = refl
append_none (x ∷ xs) = ap (λ (r : List ℕ). x ∷ r) (append_none xs)

at_most : (n k : ℕ) → n ≤ k → nat_le n k ≡ true
at_most n k h = grind (arith, nat_tests)

is_at_most : (n k : ℕ) → nat_le n k ≡ true → n ≤ k
is_at_most n k h = grind (arith, nat_tests)

-- a whole term has nothing behind it, and the size
record IsWhole (p : Seen (Tree ℕ Place)) (t : Tree ℕ Place) : Type 0 where
  tree : p.0 ≡ t
  rest : p.1 ≡ []
  size : tree_size t ≤ 64

whole_found : (p : Seen (Tree ℕ Place)) (t : Tree ℕ Place) → whole p ≡ Some t → IsWhole p t
unfolding whole
whole_found (u, []) t e = elim (chosen (nat_le (tree_size u) 64) (Some u) None (Some t) e) [
  | inl h ↦ let same : u ≡ t = cc in subst (IsWhole (u, [])) same
      (record { tree = refl; rest = refl; size = is_at_most (tree_size u) 64 h.0 })
  | inr h ↦ cc
]
whole_found (u, b ∷ bs) t e = cc

-- what is read from a whole text has it as its text
pub text_found : (s : List ℕ) (t : Tree ℕ Place) → text_in s ≡ Some t → WellFormedTerm t × (s ≡ term_text t)
unfolding text_in
text_found s t e =
    let read = bound whole (term_in 16 s) t e in
    let facts = term_found 16 s read.0 read.1 in
    let end = whole_found read.0 t read.2 in
    let numbers : HasNumbers t = subst HasNumbers end.tree facts.numbers in
    let text : s ≡ term_text read.0.0 = facts.text ∙ ap (λ (r : List ℕ). term_text read.0.0 ++ r) end.rest
    ∙ append_none (term_text read.0.0) in (
      record {
        words = numbers.words;
        places = numbers.places;
        size = end.size;
        depth = subst (λ (u : Tree ℕ Place). tree_depth u ≤ 16) end.tree facts.depth;
      },
      text ∙ ap term_text end.tree,
    )

alone : (t : Tree ℕ Place) (d : ℕ) → HasNumbers t → tree_depth t ≤ d → term_in d (term_text t) ≡ Some (t, [])
alone t d n h = ap (term_in d) (sym (append_none (term_text t))) ∙ term_again t d [] n h refl

-- the text of a term within the limits is read as that term
pub text_again : (s : List ℕ) (t : Tree ℕ Place) → WellFormedTerm t → s ≡ term_text t → text_in s ≡ Some t
unfolding text_in whole
text_again s t h e =
    ap (λ (v : List ℕ). term_in 16 v >>= whole) e
    ∙ ap (λ (r : Option (Seen (Tree ℕ Place))). r >>= whole) (alone t 16 (record { words = h.words; places = h.places }) h.depth)
    ∙ rw (at_most (tree_size t) 64 h.size) refl

tree_or : Tree ℕ Place → Option (Seen (Tree ℕ Place)) → Tree ℕ Place
tree_or t None = t
tree_or t (Some p) = p.0

-- two terms of one text are one term
pub text_of_one : (t u : Tree ℕ Place) → HasNumbers t → HasNumbers u → term_text t ≡ term_text u → t ≡ u
unfolding tree_or
text_of_one t u m n e =
    let d : ℕ = tree_depth t + tree_depth u in
    let first : term_in d (term_text t) ≡ Some (t, []) = alone t d m (omega arith) in
    let second : term_in d (term_text u) ≡ Some (u, []) = alone u d n (omega arith) in
    ap (tree_or t) (sym first ∙ ap (term_in d) e ∙ second)

-- the three promises of reading, from what is read
pub found_of : (s : List ℕ) (r : Option Term) → option_map tree_of r ≡ text_in s
    → IfSome r (λ t. WellFormedTerm (tree_of t) × (s ≡ term_text (tree_of t)))
found_of s None e = tt
found_of s (Some t) e = text_found s (tree_of t) (sym e)

pub none_of : (s : List ℕ) (r : Option Term) → option_map tree_of r ≡ text_in s
    → IfNone r ((t : Tree ℕ Place) → WellFormedTerm t → s ≢ term_text t)
none_of s None e = λ t h same. let read : text_in s ≡ Some t = text_again s t h same in cc
none_of s (Some t) e = tt

pub again_of : (s : List ℕ) (r : Option Term) → option_map tree_of r ≡ text_in s → (t : Tree ℕ Place) → WellFormedTerm t
    → s ≡ term_text t → option_map tree_of r ≡ Some t
again_of s r e t h same = e ∙ text_again s t h same
