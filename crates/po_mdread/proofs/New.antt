-- Names that all differ are new, one behind the other.
use Rattle.std.proofs.Common.{◌≡◌, ◌≢◌, ℕ, suc, ◌<◌, List, [], ◌∷◌, ◌++◌, Bool, true, false, refl, sym, ◌∙◌, subst}
use Rattle.std.proofs.Common.{length, length-append, get_or, append_assoc, append-nil, arith}
use Rattle.std.specs.Prelude.{nat_eq, ◌||◌}
use Rattle.std.specs.Cmp.Lexicographic.{pointwise}
use Rattle.std.proofs.Math.ListN.{get_or-append}
use Rattle.std.proofs.Math.Seq.{get_or-append_seam}
use Rattle.po_lines.specs.NameList.{has}
use Rattle.po_mdread.proofs.NameLaws.{AreNames}
use Rattle.po_mdread.proofs.LinesFound.{same_found}
use Rattle.po_mdread.proofs.Allowed.{Differ}
use Rattle.po_mdread.proofs.Again.{AreNew}

neither : (a : Bool) (b : Bool) → (a ≡ true → ⊥) → b ≡ false → (a || b) ≡ false
neither true b h e = absurd (h refl)
neither false b h e = e

has_not : (name : List ℕ) (names : List (List ℕ)) → ((k : ℕ) (d : List ℕ) → k < length names → get_or names k d ≢
    name) → has name names ≡ false
has_not name [] h = refl
has_not name (x ∷ xs) h =
    let no = λ (e : pointwise nat_eq name x ≡ true). h 0 name (omega arith) (sym (same_found name x e)) in
    let rest = has_not name xs (λ k d g. h (suc k) d (omega (arith, g))) in
    neither (pointwise nat_eq name x) (has name xs) no rest

pub new_from : (before more : List (List ℕ)) → Differ (before ++ more) → AreNew before more
new_from before [] h = tt
new_from before (n ∷ ns) h =
    let long = length-append before (n ∷ ns) in
    let apart = λ (k : ℕ) (d : List ℕ) (g : k < length before). (λ (e : get_or before k d ≡ n).
    h k (length before) d g (omega arith) (get_or-append before (n ∷ ns) d k g ∙ e
    ∙ sym (get_or-append_seam before n ns d))) in
    (has_not n before apart, new_from (before ++ n ∷ []) ns (subst Differ (sym (append_assoc before (n ∷ []) ns)) h))

pub new_front : (before xs ys : List (List ℕ)) → AreNew before (xs ++ ys) → AreNew before xs
new_front before [] ys h = tt
new_front before (x ∷ xs) ys h = (h.0, new_front (before ++ x ∷ []) xs ys h.1)

pub new_back : (before xs ys : List (List ℕ)) → AreNew before (xs ++ ys) → AreNew (before ++ xs) ys
new_back before [] ys h = subst (λ (b : List (List ℕ)). AreNew b ys) (sym (append-nil before)) h
new_back before (x ∷ xs) ys h = subst (λ (b : List (List ℕ)). AreNew b ys) (append_assoc before (x ∷ []) xs)
    (new_back (before ++ x ∷ []) xs ys h.1)

pub names_front : (xs ys : List (List ℕ)) → AreNames (xs ++ ys) → AreNames xs
names_front [] ys h = tt
names_front (x ∷ xs) ys h = (h.0, names_front xs ys h.1)

pub names_back : (xs ys : List (List ℕ)) → AreNames (xs ++ ys) → AreNames ys
names_back [] ys h = h
names_back (x ∷ xs) ys h = names_back xs ys h.1
