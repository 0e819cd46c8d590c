-- What the names of a line are, where they are read.
use Rattle.std.proofs.Common.{◌≡◌, ℕ, suc, ◌-◌, ◌≤◌, List, [], ◌∷◌, ◌++◌, true, Ok, refl, ap, sym, ◌∙◌, subst, length}
use Rattle.std.proofs.Common.{take, drop, map, append_assoc, append-nil, arith, inl, inr}
use Rattle.std.specs.Prelude.{nat_lt, ⊤}
use Rattle.std.specs.List.{AllByRecursion}
use Rattle.std.proofs.lemmas.Bool.Decides.{nat_tests}
use Rattle.std.proofs.lemmas.List.{length-drop}
use Rattle.po_name.specs.Names.{is_name}
use Rattle.po_lines.specs.Faults.{◌>>=◌}
use Rattle.po_lines.specs.Forms.{first_word, no_more, rest_words, name_alone}
use Rattle.po_lines.specs.Leaves.{name_in}
use Rattle.po_lines.specs.NameList.{has}
use Rattle.po_lines.specs.Words.{Placed}
use Rattle.po_lines.proofs.NameLaws.{name_found}
use Rattle.po_lines.proofs.Results.{bind_ok, chosen, ok_is, not_ok}
use Rattle.po_lines.proofs.WordLaws.{bytes_of}
use Rattle.po_mdread.specs.NameLines.{names_in, at_least, none_past, four_names, register_names, with_new}

abbrev pub AreNames : List (List ℕ) → Type 0
AreNames names = AllByRecursion (λ n. is_name n ≡ true) names

-- the words of a line are these names
pub record AreRead (ws : List Placed) (names : List (List ℕ)) : Type 0 where
  pub words : map bytes_of ws ≡ names
  pub named : AreNames names

pub names_found : (ws : List Placed) (names : List (List ℕ)) → names_in ws ≡ Ok names → AreRead ws names
unfolding names_in
names_found [] names e = subst (λ (ns : List (List ℕ)). AreRead [] ns) (ok_is e) (record { words = refl; named = tt })
names_found (w ∷ ws) names e =
    let first = bind_ok (name_in w) (λ (name : List ℕ). names_in ws >>= λ (more : List (List ℕ)). Ok (name ∷ more))
    names e in
    let rest = bind_ok (names_in ws) (λ (more : List (List ℕ)). Ok (first.0 ∷ more)) names first.2 in
    let name = name_found w first.0 first.1 in
    let more = names_found ws rest.0 rest.1 in
    let here : is_name first.0 ≡ true = subst (λ (n : List ℕ). is_name n ≡ true) name.1 name.0 in
    subst (λ (ns : List (List ℕ)). AreRead (w ∷ ws) ns) (ok_is rest.2) (record {
      words = ap (λ (n : List ℕ). n ∷ map bytes_of ws) name.1 ∙ ap (λ (ns : List (List ℕ)). first.0 ∷ ns) more.words;
      named = (here, more.named);
    })

pub no_more_found : (ws : List Placed) (t : ⊤) → no_more ws ≡ Ok t → ws ≡ []
unfolding no_more
no_more_found [] t e = refl
no_more_found (w ∷ ws) t e = absurd (not_ok e)

pub alone_found : (ws : List Placed) (end : ℕ) (name : List ℕ) → name_alone ws end ≡ Ok name → AreRead ws (name ∷ [])
unfolding name_alone first_word rest_words
alone_found [] end name e = absurd (not_ok e)
alone_found (w ∷ ws) end name e =
    let first = bind_ok (name_in w) (λ (n : List ℕ). no_more ws >>= λ (t : ⊤). Ok n) name e in
    let rest = bind_ok (no_more ws) (λ (t : ⊤). Ok first.0) name first.2 in
    let told = name_found w first.0 first.1 in
    let here : is_name first.0 ≡ true = subst (λ (n : List ℕ). is_name n ≡ true) told.1 told.0 in
    subst (λ (n : List ℕ). AreRead (w ∷ ws) (n ∷ [])) (ok_is rest.2) (record {
      words = ap (λ (vs : List Placed). w.bytes ∷ map bytes_of vs) (no_more_found ws rest.0 rest.1)
          ∙ ap (λ (n : List ℕ). n ∷ []) told.1;
      named = (here, tt);
    })

four_long : (ws : List Placed) → drop 4 ws ≡ [] → take 4 ws ≡ ws
four_long [] e = refl
four_long (a ∷ []) e = refl
four_long (a ∷ b ∷ []) e = refl
four_long (a ∷ b ∷ c ∷ []) e = refl
four_long (a ∷ b ∷ c ∷ d ∷ []) e = refl
four_long (a ∷ b ∷ c ∷ d ∷ f ∷ ws) e = cc

enough_found : (n : ℕ) (ws : List Placed) (end : ℕ) (t : ⊤) → at_least n ws end ≡ Ok t → n ≤ length ws
unfolding at_least
enough_found n ws end t e = elim (chosen (nat_lt (length ws) n) _ _ (Ok t) e) [
  | inl p ↦ absurd (not_ok p.1)
  | inr p ↦ (let few = p.0 in grind (arith, nat_tests))
]

pub record AreFour (ws : List Placed) (names : List (List ℕ)) : Type 0 where
  pub read : AreRead ws names
  pub four : length names ≡ 4

length_words : (ws : List Placed) → length (map bytes_of ws) ≡ length ws
length_words [] = refl
length_words (w ∷ ws) = ap suc (length_words ws)

pub four_found : (ws : List Placed) (end : ℕ) (names : List (List ℕ)) → four_names ws end ≡ Ok names → AreFour ws names
unfolding four_names
four_found ws end names e =
    let front = bind_ok (names_in (take 4 ws)) (λ (ns : List (List ℕ)). at_least 4 ws end >>= λ (t : ⊤). no_more
    (drop 4 ws) >>= λ (u : ⊤). Ok ns) names e in
    let enough = bind_ok (at_least 4 ws end) (λ (t : ⊤). no_more (drop 4 ws) >>= λ (u : ⊤). Ok front.0) names front.2
    in
    let none = bind_ok (no_more (drop 4 ws)) (λ (u : ⊤). Ok front.0) names enough.2 in
    let past : drop 4 ws ≡ [] = no_more_found (drop 4 ws) none.0 none.1 in
    let all : take 4 ws ≡ ws = four_long ws past in
    let read : AreRead ws front.0 = subst (λ (vs : List Placed). AreRead vs front.0) all
    (names_found (take 4 ws) front.0 front.1) in
    let some : 4 ≤ length ws = enough_found 4 ws end enough.0 enough.1 in
    let few : length ws - 4 ≡ 0 = sym (length-drop 4 ws) ∙ ap length past in
    let long : length front.0 ≡ length ws = sym (ap length read.words) ∙ length_words ws in
    subst (λ (ns : List (List ℕ)). AreFour ws ns) (ok_is none.2) (record { read = read; four = omega arith })

pub record AreRegisters (ws : List Placed) (names : List (List ℕ)) : Type 0 where
  pub read : AreRead ws names
  pub some : 1 ≤ length names
  pub few : length names ≤ 64

past_found : (ws : List Placed) (t : ⊤) → none_past ws ≡ Ok t → ws ≡ []
unfolding none_past
past_found [] t e = refl
past_found (w ∷ ws) t e = absurd (not_ok e)

some_found : (ws : List Placed) (end : ℕ) (w : Placed) → first_word ws end ≡ Ok w → 1 ≤ length ws
unfolding first_word
some_found [] end w e = absurd (not_ok e)
some_found (v ∷ ws) end w e = omega arith

pub registers_found : (ws : List Placed) (end : ℕ) (names : List (List ℕ)) → register_names ws end ≡ Ok names
    → AreRegisters ws names
unfolding register_names
registers_found ws end names e =
    let none = bind_ok (none_past (drop 64 ws)) (λ (t : ⊤). first_word ws end >>= λ (w : Placed). names_in ws) names e
    in
    let first = bind_ok (first_word ws end) (λ (w : Placed). names_in ws) names none.2 in
    let past : drop 64 ws ≡ [] = past_found (drop 64 ws) none.0 none.1 in
    let read : AreRead ws names = names_found ws names first.2 in
    let some : 1 ≤ length ws = some_found ws end first.0 first.1 in
    let few : length ws - 64 ≡ 0 = sym (length-drop 64 ws) ∙ ap length past in
    let long : length names ≡ length ws = sym (ap length read.words) ∙ length_words ws in
    record { read = read; some = omega arith; few = omega arith }

pub new_found : (names : List (List ℕ)) (ws : List Placed) (all : List (List ℕ)) → with_new names ws ≡ Ok all
    → all ≡ names ++ map bytes_of ws
unfolding with_new
new_found names [] all e = sym (ok_is e) ∙ sym (append-nil names)
new_found names (w ∷ ws) all e = elim (chosen (has w.bytes names) _ _ (Ok all) e) [
  | inl p ↦ absurd (not_ok p.1)
  | inr p ↦ new_found (names ++ w.bytes ∷ []) ws all p.1 ∙ append_assoc names (w.bytes ∷ []) (map bytes_of ws)
]

-- the names behind a line
pub new_are : (names before : List (List ℕ)) (ws : List Placed) (all read : List (List ℕ)) → names ≡ before
    → with_new names ws ≡ Ok all → map bytes_of ws ≡ read → all ≡ before ++ read
new_are names before ws all read h e f = new_found names ws all e ∙ ap (λ (ns : List (List ℕ)). names ++ ns) f
    ∙ ap (λ (ns : List (List ℕ)). ns ++ read) h
