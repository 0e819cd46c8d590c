-- The values of options, from clap's matches.
use Rattle.std.proofs.Common.{◌≡◌, ◌≤◌, ℕ, Option, Some, None, refl, sym, ◌∙◌, ap, subst, arith, find}
use Rattle.std.specs.Prelude.{option_map, option_and_then, unwrap_or}
use Rattle.std.specs.Str.{bytes_eq}
use Rattle.clap.specs.Facts.{Entry}
use Rattle.clap.specs.Walk.{Row, Text, row_of, rows_of}
use Rattle.clap.specs.Matches.{matched_of}
use Rattle.clap.specs.declared.parser.matches.Found.{Found}
use Rattle.clap.proofs.WalkLemmas.{find_row}
use Rattle.po_words.specs.Finds.{Finds}
use Rattle.po_words.specs.Values.{HasNumber, HasNumberOr, IsNumber, is_from_words, is_given}

-- whether the words give an option, by the entry that clap found
pub given-by_entry : (f : Found) (name : Text)
    → is_from_words (option_and_then (λ a. a.source) (matched_of f name)) ≡ is_given name (rows_of f)
given-by_entry f name =
    go (find (λ e. bytes_eq e.0.now name) f.entries.items)
    ∙ ap (λ (o : Option Row). is_from_words (option_and_then (λ r. r.source) o)) (sym (find_row f.entries.items name))
  where
    go : (o : Option Entry) → is_from_words (option_and_then (λ a. a.source) (option_map (λ e. e.1) o))
        ≡ is_from_words (option_and_then (λ (r : Row). r.source) (option_map row_of o))
    go None = refl
    go (Some e) = refl

-- a value is one number
pub one_number : (low high : ℕ) (o : Option Text) (n k : ℕ) → HasNumber low high o n → HasNumber low high o k → n ≡ k
one_number low high None n k g h = absurd g
one_number low high (Some value) n k g h = ap (λ (o : Option ℕ). unwrap_or o 0) (sym g.0 ∙ h.0)

pub one_number-or : (absent low high : ℕ) (o : Option Text) (n k : ℕ) → HasNumberOr absent low high o n
    → HasNumberOr absent low high o k → n ≡ k
one_number-or absent low high None n k g h = g ∙ sym h
one_number-or absent low high (Some value) n k g h = ap (λ (o : Option ℕ). unwrap_or o 0) (sym g.0 ∙ h.0)

-- and lies in its bounds
pub number-below : (low high : ℕ) (o : Option Text) (n : ℕ) → HasNumber low high o n → n ≤ high
number-below low high None n h = absurd h
number-below low high (Some value) n h = h.2

pub number_or-within : (absent low high : ℕ) (o : Option Text) (n : ℕ) → low ≤ absent → absent ≤ high
    → HasNumberOr absent low high o n → (low ≤ n) × (n ≤ high)
number_or-within absent low high None n above below h = (omega arith, omega arith)
number_or-within absent low high (Some value) n above below h = (h.1, h.2)

-- the number of a value that the words give, and where they give none
pub number_found : (low high : ℕ) (o : Option Text) (value : Text) (r : Option ℕ) → o ≡ Some value
    → Finds (IsNumber low high value) r → Finds (HasNumber low high o) r
number_found low high o value r same found = subst (λ x. Finds (HasNumber low high x) r) (sym same) found

pub number_missing : (low high : ℕ) (o : Option Text) → o ≡ None → Finds (HasNumber low high o) None
number_missing low high o same = subst (λ x. Finds (HasNumber low high x) None) (sym same) (λ n h. h)

pub number_or-found : (absent low high : ℕ) (o : Option Text) (value : Text) (r : Option ℕ) → o ≡ Some value
    → Finds (IsNumber low high value) r → Finds (HasNumberOr absent low high o) r
number_or-found absent low high o value r same found =
    subst (λ x. Finds (HasNumberOr absent low high x) r) (sym same) found

pub number_or-missing : (absent low high : ℕ) (o : Option Text) → o ≡ None → HasNumberOr absent low high o absent
number_or-missing absent low high o same = subst (λ x. HasNumberOr absent low high x absent) (sym same) refl
