-- The turns of the loops over the names of a line.
use Rattle.std.proofs.Common.{◌≡◌, ℕ, ◌+◌, ◌<◌, ◌≤◌, List, [], ◌∷◌, ◌++◌, Bool, true, false, Result, Ok, Err, refl}
use Rattle.std.proofs.Common.{ap, sym, ◌∙◌, length, drop, map, get_or, append_assoc, append-nil, min, arith, ◌⊎◌, inl}
use Rattle.std.proofs.Common.{inr}
use Rattle.std.proofs.lemmas.List.{at_drop_more, drop_all}
use Rattle.std.specs.Prelude.{not, cond}
use Rattle.po_text.specs.declared.fault.Kind.TheVariants as kind
use Rattle.po_lines.specs.declared.fault.LineFault.{LineFault}
use Rattle.po_lines.specs.declared.fault.LineError.{LineError}
use Rattle.po_lines.specs.declared.fault.LineError.TheVariants as error
use Rattle.po_lines.specs.declared.word.Word.{Word}
use Rattle.po_lines.specs.Words.{Placed, seen}
use Rattle.po_lines.specs.Faults.{◌>>=◌, fault, Fails}
use Rattle.po_lines.specs.Leaves.{name_in}
use Rattle.po_lines.specs.NameList.{has}
use Rattle.po_mdread.specs.NameLines.{names_in, with_new}

-- names in front of those that are read
abbrev pub prepend : {A E : Type 0} → List A → Result (List A) E → Result (List A) E
prepend front (Ok more) = Ok (front ++ more)
prepend front (Err e) = Err e

one_more : (names : List (List ℕ)) (name : List ℕ) (r : Result (List (List ℕ)) LineFault)
    → prepend names (r >>= λ more. Ok (name ∷ more)) ≡ prepend (names ++ name ∷ []) r
one_more names name (Ok more) = ap Ok (sym (append_assoc names (name ∷ []) more))
one_more names name (Err e) = refl

name_on : (names : List (List ℕ)) (name : List ℕ) (w : Placed) (ws : List Placed) → name_in w ≡ Ok name
    → prepend names (names_in (w ∷ ws)) ≡ prepend (names ++ name ∷ []) (names_in ws)
unfolding names_in
name_on names name w ws e = rw e (one_more names name (names_in ws))

name_fails : (names : List (List ℕ)) (e : LineError) (w : Placed) (ws : List Placed) → Fails e (name_in w)
    → Fails e (prepend names (names_in (w ∷ ws)))
unfolding names_in
name_fails names (error.Fault f) w ws h = rw h refl
name_fails names error.Memory w ws h = tt

names_end : (names : List (List ℕ)) → prepend names (names_in []) ≡ Ok names
unfolding names_in
names_end names = ap Ok (append-nil names)

-- the word is the next one
next_word : {Y : Type 0} (F : List Placed → Y) (words : List Word) (i : ℕ) (w : Word) → i < length words
    → w ≡ get_or words i w
    → F (map seen (drop i words)) ≡ F (seen w ∷ map seen (drop (i + 1) words))
next_word F words i w h is =
    at_drop_more (λ (ws : List Word). F (map seen ws)) words i w h
    ∙ ap (λ (v : Word). F (seen v ∷ map seen (drop (i + 1) words))) (sym is)

-- no word is left
no_word : {Y : Type 0} (F : List Placed → Y) (words : List Word) (i : ℕ) → length words ≤ i
    → F (map seen (drop i words)) ≡ F []
no_word F words i h = ap (λ (ws : List Word). F (map seen ws)) (drop_all i words h)

pub names_on : (words : List Word) (i : ℕ) (w : Word) (names : List (List ℕ)) (name : List ℕ)
    (r : Result (List (List ℕ)) LineFault) → i < length words → w ≡ get_or words i w
    → name_in (seen w) ≡ Ok name → prepend names (names_in (map seen (drop i words))) ≡ r
    → prepend (names ++ name ∷ []) (names_in (map seen (drop (i + 1) words))) ≡ r
names_on words i w names name r h is e read =
    sym (next_word (λ ws. prepend names (names_in ws)) words i w h is ∙ name_on names name (seen w)
    (map seen (drop (i + 1) words)) e) ∙ read

pub names_fail : (words : List Word) (i : ℕ) (w : Word) (names : List (List ℕ)) (e : LineError)
    (r : Result (List (List ℕ)) LineFault) → i < length words → w ≡ get_or words i w
    → Fails e (name_in (seen w)) → prepend names (names_in (map seen (drop i words))) ≡ r → Fails e r
names_fail words i w names e r h is fails read =
    let told : prepend names (names_in (seen w ∷ map seen (drop (i + 1) words))) ≡ r =
    sym (next_word (λ ws. prepend names (names_in ws)) words i w h is) ∙ read in
    rw (← told) (name_fails names e (seen w) (map seen (drop (i + 1) words)) fails)

pub names_done : (words : List Word) (i : ℕ) (names : List (List ℕ)) (r : Result (List (List ℕ)) LineFault)
    → length words ≤ i
    → prepend names (names_in (map seen (drop i words))) ≡ r → r ≡ Ok names
names_done words i names r h read = sym read ∙ no_word (λ ws. prepend names (names_in ws)) words i h ∙ names_end names

new_on : (names : List (List ℕ)) (w : Placed) (ws : List Placed) → has w.bytes names ≡ false → with_new names (w ∷ ws)
    ≡ with_new (names ++ w.bytes ∷ []) ws
unfolding with_new
new_on names w ws e = rw e refl

new_fails : (names : List (List ℕ)) (w : Placed) (ws : List Placed) → has w.bytes names ≡ true
    → with_new names (w ∷ ws) ≡ Err (fault w.column kind.Duplicate)
unfolding with_new
new_fails names w ws e = rw e refl

new_end : (names : List (List ℕ)) → with_new names [] ≡ Ok names
unfolding with_new
new_end names = refl

pub new_names_on : (words : List Word) (i : ℕ) (w : Word) (names : List (List ℕ))
    (r : Result (List (List ℕ)) LineFault) → i < length words → w ≡ get_or words i w
    → has w.bytes.now names ≡ false → with_new names (map seen (drop i words)) ≡ r
    → with_new (names ++ w.bytes.now ∷ []) (map seen (drop (i + 1) words)) ≡ r
new_names_on words i w names r h is e read =
    sym (next_word (with_new names) words i w h is ∙ new_on names (seen w) (map seen (drop (i + 1) words)) e) ∙ read

pub new_names_fail : (words : List Word) (i : ℕ) (w : Word) (names : List (List ℕ))
    (r : Result (List (List ℕ)) LineFault) → i < length words → w ≡ get_or words i w
    → has w.bytes.now names ≡ true → with_new names (map seen (drop i words)) ≡ r
    → r ≡ Err (fault w.column kind.Duplicate)
new_names_fail words i w names r h is e read =
    sym read ∙ next_word (with_new names) words i w h is ∙ new_fails names (seen w) (map seen (drop (i + 1) words)) e

pub new_names_done : (words : List Word) (i : ℕ) (names : List (List ℕ)) (r : Result (List (List ℕ)) LineFault)
    → length words ≤ i
    → with_new names (map seen (drop i words)) ≡ r → r ≡ Ok names
new_names_done words i names r h read = sym read ∙ no_word (with_new names) words i h ∙ new_end names

-- what the insertion of a name says
pub is_new : (b added : Bool) → added ≡ not b → added ≡ true → b ≡ false
is_new true added e h = cc
is_new false added e h = refl

pub is_there : (b added : Bool) → added ≡ not b → added ≡ false → b ≡ true
is_there true added e h = refl
is_there false added e h = cc

min_either : (n m : ℕ) → (min n m ≡ n) ⊎ ((min n m ≡ m) × (m ≤ n))
min_either n m = grind arith

pub drop_min : {A : Type 0} (n : ℕ) (xs : List A) → drop (min n (length xs)) xs ≡ drop n xs
drop_min n xs = elim (min_either n (length xs)) [
  | inl h ↦ ap (λ (m : ℕ). drop m xs) h
  | inr h ↦ ap (λ (m : ℕ). drop m xs) h.0 ∙ drop_all (length xs) xs (omega arith) ∙ sym (drop_all n xs h.1)
]

pub with_it : (b : Bool) (old new more : List (List ℕ)) → new ≡ cond b old more → b ≡ false → new ≡ more
with_it true old new more e h = cc
with_it false old new more e h = e
