-- Words and marks at the front of a text.
use Rattle.std.proofs.Common.{◌≡◌, ◌≢◌, ℕ, List, [], ◌∷◌, ◌++◌, Bool, true, false, cond, Option, Some, None}
use Rattle.std.proofs.Common.{MatchOption, refl, sym, ap, ◌∙◌, subst, length, take, drop, arith, Bor, inl, inr}
use Rattle.std.specs.Prelude.{◌==◌, not}
use Rattle.std.specs.List.{take_while, list_all}
use Rattle.std.specs.Option.{option_copied}
use Rattle.std.proofs.lemmas.List.{take-append-drop}
use Rattle.std.proofs.lemmas.List.Sums.{take_while-cons}
use Rattle.std.proofs.lemmas.Bool.Decides.{nat_tests}
use Rattle.po_termtext.specs.Reading.{behind, in_word, word_of, rest_of}
use Rattle.po_termtext.proofs.Options.{chosen, both}

same_number : (b c : ℕ) → (b == c) ≡ true → b ≡ c
same_number b c e = grind (arith, nat_tests)

itself : (b : ℕ) → (b == b) ≡ true
itself b = grind (arith, nat_tests)

-- a mark is taken from in front of any rest
pub behind_again : (mark rest : List ℕ) → behind mark (mark ++ rest) ≡ Some rest
behind_again [] rest = refl
behind_again (c ∷ cs) rest = rw (itself c) (behind_again cs rest)

-- where something stands behind a mark, the text is the mark and that
pub behind_found : (mark text rest : List ℕ) → behind mark text ≡ Some rest → text ≡ mark ++ rest
behind_found [] text rest e = cc
behind_found (c ∷ cs) [] rest e = cc
behind_found (c ∷ cs) (b ∷ bs) rest e = elim (chosen (b == c) (behind cs bs) None (Some rest) e) [
  | inl h ↦ ap (λ (x : ℕ). x ∷ bs) (same_number b c h.0) ∙ ap (λ (r : List ℕ). c ∷ r) (behind_found cs bs rest h.1)
  | inr h ↦ cc
]

none_behind : (mark text : List ℕ) (r : Option (List ℕ)) → behind mark text ≡ r
    → ((rest : List ℕ) → text ≢ mark ++ rest) → None ≡ r
none_behind mark text None e h = refl
none_behind mark text (Some rest) e h = absurd (h rest (behind_found mark text rest e))

-- what taking a prefix gives
pub behind_is : (mark text : List ℕ) (r : Option (Bor (List ℕ))) → MatchOption r ((rest : List ℕ) → text ≢ mark
    ++ rest) (λ x. text ≡ mark ++ x.now) → option_copied r ≡ behind mark text
behind_is mark text None h = none_behind mark text (behind mark text) refl h
behind_is mark text (Some x) h = sym (ap (behind mark) h ∙ behind_again mark x.now)

taken : (t : Bool) (p : ℕ → Bool) (b : ℕ) (bs : List ℕ) → take (length (take_while p bs)) bs ≡ take_while p bs
    → take (length (cond t (b ∷ take_while p bs) [])) (b ∷ bs) ≡ cond t (b ∷ take_while p bs) []
taken true p b bs e = ap (λ (r : List ℕ). b ∷ r) e
taken false p b bs e = refl

-- the front that passes is the front of its length
pub take_passed : (p : ℕ → Bool) (s : List ℕ) → take (length (take_while p s)) s ≡ take_while p s
take_passed p [] = refl
take_passed p (b ∷ bs) = subst (λ (w : List ℕ). take (length w) (b ∷ bs) ≡ w) (sym (take_while-cons p b bs))
    (taken (p b) p b bs (take_passed p bs))

-- a text is its first word and the rest
pub word_and_rest : (s : List ℕ) → s ≡ word_of s ++ rest_of s
word_and_rest s = sym (ap (λ (w : List ℕ). w ++ rest_of s) (sym (take_passed in_word s))
    ∙ take-append-drop (length (word_of s)) s)

-- no word goes on here
abbrev pub ends : List ℕ → Bool
ends [] = true
ends (b ∷ bs) = not (in_word b)

stops : (rest : List ℕ) → ends rest ≡ true → word_of rest ≡ []
stops [] h = refl
stops (b ∷ bs) h = take_while-cons in_word b bs ∙ rw (no_word (in_word b) h) refl
  where
    no_word : (t : Bool) → not t ≡ true → t ≡ false
    no_word true h = cc
    no_word false h = refl

-- a word in front of a rest that ends it
pub word_again : (w rest : List ℕ) → list_all in_word w ≡ true → ends rest ≡ true → word_of (w ++ rest) ≡ w
word_again [] rest all h = stops rest h
word_again (b ∷ bs) rest all h =
    let parts = both (in_word b) (list_all in_word bs) all in
    take_while-cons in_word b (bs ++ rest) ∙ rw parts.0 (ap (λ (w : List ℕ). b ∷ w) (word_again bs rest parts.1 h))

dropped : (w rest : List ℕ) → drop (length w) (w ++ rest) ≡ rest
dropped [] rest = refl
dropped (b ∷ bs) rest = dropped bs rest

pub rest_again : (w rest : List ℕ) → list_all in_word w ≡ true → ends rest ≡ true → rest_of (w ++ rest) ≡ rest
rest_again w rest all h = ap (λ (v : List ℕ). drop (length v) (w ++ rest)) (word_again w rest all h) ∙ dropped w rest
