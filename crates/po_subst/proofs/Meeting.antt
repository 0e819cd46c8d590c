-- The answer on two addresses is right in every state of words.
use Rattle.std.proofs.Common.{◌≡◌, ℕ, ◌^◌, ◌<◌, Bool, true, false, refl, sym, ap, arith}
use Rattle.std.specs.Prelude.{◌==◌, ◌≢◌, ⊤, if◌then◌else◌, Option, Some, None}
use Rattle.std.proofs.lemmas.Bool.{eqb-true}
use Rattle.po_word.specs.declared.operator.Bin.TheVariants.{Add}
use Rattle.po_word.specs.Words.{bin_value}
use Rattle.po_term.specs.declared.term.Alias.{Alias}
use Rattle.po_term.specs.declared.term.Alias.TheVariants.{Same, Apart, Maybe}
use Rattle.po_term.specs.Tree.{Tree, Const, Binary}
use Rattle.po_term.specs.Terms.{Place, State, IsState, value}
use Rattle.po_term.specs.Kinds.{words, give}
use Rattle.po_term.specs.Worth.{HasWords}
use Rattle.po_simplify.proofs.Worths.{value_fits}
use Rattle.po_model.specs.Parts.{code_leaves}
use Rattle.po_model.specs.Forward.{agree, base_of, offset_of, by_offsets, by_bases, alias_of}
use Rattle.po_model.specs.Meets.{Meets}
use Rattle.po_subst.proofs.Agreeing.{agree_one}

-- the word of a base and an offset
abbrev sum_of : Option ℕ → Option ℕ → ℕ
sum_of None None = 0
sum_of None (Some c) = c
sum_of (Some b) None = b
sum_of (Some b) (Some c) = bin_value Add b c

abbrev option_value : State → Option (Tree ℕ Place) → Option ℕ
option_value s None = None
option_value s (Some t) = Some (value s t)

value_parts : (s : State) (t : Tree ℕ Place) → value s t ≡ sum_of (option_value s (base_of t)) (offset_of t)
value_parts s (Const c) = refl
value_parts s (Binary Add u (Const c)) = refl
value_parts s t = refl

abbrev IsWord : Option ℕ → Type 0
IsWord None = ⊤
IsWord (Some c) = c < 2 ^ 32

offset_fits : (t : Tree ℕ Place) → HasWords t → IsWord (offset_of t)
offset_fits (Const c) h = h
offset_fits (Binary Add u (Const c)) h = h.1
offset_fits t h = tt

base_fits : (s : State) → IsState s → (t : Tree ℕ Place) → HasWords t → IsWord (option_value s (base_of t))
base_fits s fits (Const c) h = tt
base_fits s fits (Binary Add u (Const c)) h = value_fits s fits u h.0
base_fits s fits t h = value_fits s fits t h

-- what the two sums are to each other
abbrev Apartness : Alias → ℕ → ℕ → Type 0
Apartness Same x y = x ≡ y
Apartness Apart x y = x ≢ y
Apartness Maybe x y = ⊤

meets_of : (a : Alias) (s : State) (p q : Tree ℕ Place) → Apartness a (value s p) (value s q) → Meets a s p q
meets_of Same s p q h = h
meets_of Apart s p q h = h
meets_of Maybe s p q h = tt

choose : (x y : ℕ) (b : Bool) → (b ≡ true → x ≡ y) → (b ≡ false → x ≢ y)
    → Apartness (if b then give {K = ℕ} Same else give {K = ℕ} Apart).got x y
choose x y true f g = f refl
choose x y false f g = g refl

ne_of : (c d : ℕ) → (c == d) ≡ false → c ≢ d
ne_of c d e = grind arith

offsets_apart : (b : Option ℕ) (c d : Option ℕ) → IsWord b → IsWord c → IsWord d
    → Apartness (by_offsets words code_leaves c d).got (sum_of b c) (sum_of b d)
offsets_apart (Some b) (Some c) (Some d) h i j =
    choose (bin_value Add b c) (bin_value Add b d) (c == d) (λ e. ap (bin_value Add b) (eqb-true c d e))
    (λ e f. ne_of c d e (omega arith))
offsets_apart (Some b) (Some c) None h i j =
    choose (bin_value Add b c) b (c == 0) (λ e. let z : c ≡ 0 = eqb-true c 0 e in omega arith)
    (λ e f. ne_of c 0 e (omega arith))
offsets_apart (Some b) None (Some d) h i j =
    choose b (bin_value Add b d) (d == 0) (λ e. let z : d ≡ 0 = eqb-true d 0 e in omega arith)
    (λ e f. ne_of d 0 e (omega arith))
offsets_apart (Some b) None None h i j = refl
offsets_apart None (Some c) (Some d) h i j = choose c d (c == d) (λ e. eqb-true c d e) (λ e. ne_of c d e)
offsets_apart None (Some c) None h i j = choose c 0 (c == 0) (λ e. eqb-true c 0 e) (λ e. ne_of c 0 e)
offsets_apart None None (Some d) h i j = choose 0 d (d == 0) (λ e. sym (eqb-true d 0 e)) (λ e f. ne_of d 0 e (sym f))
offsets_apart None None None h i j = refl

bases_apart : (s : State) (u v : Option (Tree ℕ Place)) (c d : Option ℕ) → IsWord (option_value s u) → IsWord c
    → IsWord d
    → Apartness (by_bases words code_leaves u v (by_offsets words code_leaves c d)).got (sum_of (option_value s u) c)
    (sum_of (option_value s v) d)
bases_apart s None None c d h i j = offsets_apart None c d tt i j
bases_apart s None (Some v) c d h i j = tt
bases_apart s (Some u) None c d h i j = tt
bases_apart s (Some u) (Some v) c d h i j = go (agree words code_leaves u v).got refl
  where
    go : (yes : Bool) → (agree words code_leaves u v).got ≡ yes
        → Apartness (if yes then by_offsets words code_leaves c d else give {K = ℕ} Maybe).got
        (sum_of (Some (value s u)) c) (sum_of (Some (value s v)) d)
    go true e = rw (← agree_one u v e) (offsets_apart (Some (value s u)) c d h i j)
    go false e = tt

pub alias_right : (s : State) → IsState s → (p q : Tree ℕ Place) → HasWords p → HasWords q
    → Meets (alias_of words code_leaves p q).got s p q
alias_right s fits p q h i =
    meets_of (alias_of words code_leaves p q).got s p q
    (rw (value_parts s p, value_parts s q)
    (bases_apart s (base_of p) (base_of q) (offset_of p) (offset_of q) (base_fits s fits p h) (offset_fits p h)
    (offset_fits q i)))
