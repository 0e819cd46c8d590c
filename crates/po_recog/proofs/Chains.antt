-- The entries of one head, each linked to the next.
use Rattle.std.proofs.Common.{◌≡◌, ℕ, zero, suc, ◌+◌, ◌<◌, ◌≤◌, Bool, true, false, List, [], ◌∷◌, Option, Some, None}
use Rattle.std.proofs.Common.{length, drop, get_or, length-drop, reverse, ◌++◌, ◌-◌, replicate, refl, ap, sym, ◌∙◌, subst, arith, drop-cons}
use Rattle.std.specs.Prelude.{◌==◌, if◌then◌else◌, slice_get, unwrap_or}
use Rattle.std.specs.Option.{option_map}
use Rattle.std.proofs.lemmas.Bool.{eqb-true, eq-eqb, false≢true}
use Rattle.std.proofs.Math.ListN.{drop_of_length-le}
use Rattle.std.proofs.lemmas.List.{reverse-append, get_or-drop}
use Rattle.po_term.specs.declared.term.Reg.{Reg as Register}
use Rattle.po_term.specs.declared.term.Sym.{Sym as Symbol}
use Rattle.po_term.specs.Moves.{PlainInstr}
use Rattle.po_term.specs.Kinds.{words, give}
use Rattle.po_model.specs.declared.machine.Entry.{Entry}
use Rattle.po_model.specs.Fit.{Found, entry_fit, first_fit}
use Rattle.po_model.specs.Parts.{code_leaves}
use Rattle.po_recog.specs.declared.answer.Operand.{Operand}
use Rattle.po_recog.specs.Heads.{entry_number, list_number}
use Rattle.po_recog.specs.Indexes.{first_with, links, number_at, heads}
use Rattle.po_recog.specs.Operands.{operands_in, fit_from}
use Rattle.po_recog.specs.Taken.{outcome}
use Rattle.po_recog.proofs.Passed.{passed_over}

-- the next element, and those behind it
pub next_of : {X : Type 0} (xs : List X) (i : ℕ) (x : X) → i < length xs → x ≡ get_or xs i x
    → drop i xs ≡ x ∷ drop (suc i) xs
next_of xs i x h e = drop-cons xs i x h ∙ ap (λ y. y ∷ drop (suc i) xs) (sym e)

-- each place of a list that is one number again and again
pub number_same : (n k d : ℕ) → k < n → number_at (replicate n d) k ≡ d
number_same zero k d h = absurd (omega arith)
number_same (suc n) zero d h = refl
number_same (suc n) (suc k) d h = number_same n k d (omega arith)

not_before : (g : ℕ) (es : List Entry) (n : ℕ) → n ≤ first_with g es n
not_before g [] n = omega arith
not_before g (e ∷ es) n = go (entry_number e == g) (not_before g es (suc n))
  where
    go : (b : Bool) → suc n ≤ first_with g es (suc n) → n ≤ (if b then n else first_with g es (suc n))
    go true later = omega arith
    go false later = omega arith

-- the one that is first has the head
there : (g : ℕ) (es : List Entry) (n k p : ℕ) (e : Entry) → first_with g es n ≡ p → p ≡ n + k → k < length es
    → e ≡ get_or es k e → entry_number e ≡ g
there g [] n k p e h q b is = absurd (omega arith)
there g (x ∷ es) n zero p e h q b is = ap entry_number is
    ∙ go (entry_number x == g) refl h (not_before g es (suc n))
  where
    go : (b : Bool) → (entry_number x == g) ≡ b → (if b then n else first_with g es (suc n)) ≡ p
        → suc n ≤ first_with g es (suc n) → entry_number x ≡ g
    go true same f later = eqb-true (entry_number x) g same
    go false same f later = absurd (omega (arith, f, q, later))
there g (x ∷ es) n (suc k) p e h q b is =
    there g es (suc n) k p e (go (entry_number x == g) h) (omega (arith, q)) (omega arith) is
  where
    go : (b : Bool) → (if b then n else first_with g es (suc n)) ≡ p → first_with g es (suc n) ≡ p
    go true f = absurd (omega (arith, f, q))
    go false f = f

-- the first one behind an entry that has its head
pub link_at : (es : List Entry) (n i p : ℕ) (e : Entry) → i < length es → e ≡ get_or es i e → p ≡ n + i + 1
    → number_at (links es n) i ≡ first_with (entry_number e) (drop (suc i) es) p
link_at [] n i p e h is q = absurd (omega arith)
link_at (x ∷ es) n zero p e h is q =
    let k : suc n ≡ p = omega (arith, q) in
    ap (λ (y : Entry). first_with (entry_number y) es (suc n)) (sym is) ∙ ap (first_with (entry_number e) es) k
link_at (x ∷ es) n (suc i) p e h is q = link_at es (suc n) i p e (omega arith) is (omega (arith, q))

none_at : (entries : List Entry) (n : ℕ) → length entries ≤ n → drop n entries ≡ []
none_at entries n h = drop_of_length-le entries h

pub first_none : (g : ℕ) (entries : List Entry) (n : ℕ) → length entries ≤ n → first_with g (drop n entries) n ≡ n
first_none g entries n h = ap (λ (es : List Entry). first_with g es n) (none_at entries n h)

pub links_none : (entries : List Entry) (n : ℕ) → length entries ≤ n → links (drop n entries) n ≡ []
links_none entries n h = ap (λ (es : List Entry). links es n) (none_at entries n h)

-- one entry more, before those that are linked
module _ (entries : List Entry) (i j h : ℕ) (e : Entry) (same : j + 1 ≡ i) (b : j < length entries)
    (is : e ≡ get_or entries j e) (head : h ≡ entry_number e) where
  counted : suc j ≡ i
  counted = omega (arith, same)

  ahead : drop j entries ≡ e ∷ drop i entries
  ahead = next_of entries j e b is ∙ ap (λ k. e ∷ drop k entries) counted

  pub firsts_back : (old new : List ℕ)
      → ((g : ℕ) → g < heads → number_at old g ≡ first_with g (drop i entries) i)
      → ((g : ℕ) → number_at new g ≡ (if h == g then j else number_at old g))
      → (g : ℕ) → g < heads → number_at new g ≡ first_with g (drop j entries) j
  firsts_back old new before put g few =
      put g ∙ ap (λ k. if k == g then j else number_at old g) head
      ∙ ap (λ n. if entry_number e == g then j else n) (before g few)
      ∙ ap (λ k. if entry_number e == g then j else first_with g (drop i entries) k) (sym counted)
      ∙ ap (λ (es : List Entry). first_with g es j) (sym ahead)

  pub nexts_back : (old new : List ℕ) (x : ℕ) → reverse old ≡ links (drop i entries) i → new ≡ old ++ x ∷ []
      → x ≡ first_with h (drop i entries) i → reverse new ≡ links (drop j entries) j
  nexts_back old new x before pushed first =
      ap reverse pushed ∙ reverse-append old (x ∷ [])
      ∙ ap (λ n. n ∷ reverse old) (first ∙ ap (λ k. first_with k (drop i entries) i) head)
      ∙ ap (λ ns. first_with (entry_number e) (drop i entries) i ∷ ns) before
      ∙ ap (λ k. first_with (entry_number e) (drop i entries) k ∷ links (drop i entries) k) (sym counted)
      ∙ ap (λ (es : List Entry). links es j) (sym ahead)

drop_none : {X : Type 0} (k : ℕ) → ◌≡◌ {A = List X} (drop k []) []
drop_none zero = refl
drop_none (suc k) = refl

drops : {X : Type 0} (xs : List X) (j k n : ℕ) → n ≡ j + k → drop k (drop j xs) ≡ drop n xs
drops xs zero k n e = let same : k ≡ n = omega (arith, e) in ap (λ i. drop i xs) same
drops [] (suc j) k n e = drop_none k ∙ sym (drop_none n)
drops (x ∷ xs) (suc j) k zero e = absurd (omega (arith, e))
drops (x ∷ xs) (suc j) k (suc n) e = drops xs j k n (omega (arith, e))

abbrev Finds : Type 0
Finds = Option (List (Found ℕ Register Symbol))

nothing : (o : Finds) → None ≡ option_map operands_in o → o ≡ None
nothing None h = refl
nothing (Some fs) h = cc

module _ (cc_live : Bool) (ms : PlainInstr) where
  pass_one : (e : Entry) (es : List Entry) (n : ℕ) → (entry_fit code_leaves words cc_live e ms).got ≡ None
      → (first_fit code_leaves words cc_live (e ∷ es) n ms).got ≡ (first_fit code_leaves words cc_live es (suc n) ms).got
  pass_one e es n none = rw none refl

  take_one : (e : Entry) (es : List Entry) (n : ℕ) (fs : List (Found ℕ Register Symbol))
      → (entry_fit code_leaves words cc_live e ms).got ≡ Some fs
      → (first_fit code_leaves words cc_live (e ∷ es) n ms).got ≡ Some (n, fs)
  take_one e es n fs some = rw some refl

  -- what the first of these that fits gives
  abbrev found : List Entry → ℕ → Option (ℕ × List (Found ℕ Register Symbol))
  found es n = (first_fit code_leaves words cc_live es n ms).got

  abbrev one : Entry → Finds
  one e = (entry_fit code_leaves words cc_live e ms).got

  -- those before the first one that has the list's head don't fit
  skip : (g : ℕ) (es : List Entry) (n k p : ℕ) → g ≡ list_number ms → first_with g es n ≡ p → p ≡ n + k
      → found (drop k es) p ≡ found es n
  skip g [] n k p same h q = ap (λ (es : List Entry). found es p) (drop_none k)
  skip g (e ∷ es) n zero p same h q = let z : p ≡ n = omega (arith, q) in ap (found (e ∷ es)) z
  skip g (e ∷ es) n (suc k) p same h q =
      go (entry_number e == g) refl h (λ f. skip g es (suc n) k p same f (omega (arith, q)))
    where
      go : (b : Bool) → (entry_number e == g) ≡ b → (if b then n else first_with g es (suc n)) ≡ p
          → (first_with g es (suc n) ≡ p → found (drop k es) p ≡ found es (suc n))
          → found (drop k es) p ≡ found (e ∷ es) n
      go true other f later = absurd (omega (arith, f, q))
      go false other f later =
          let none : one e ≡ None = nothing (one e) (passed_over e cc_live ms (entry_number e) g refl same
          (λ eq. false≢true (sym other ∙ eq-eqb (entry_number e) g eq))) in
          later f ∙ sym (pass_one e es n none)

  -- the first of all that have the list's head
  pub begin_head : (entries : List Entry) (g next : ℕ) → g ≡ list_number ms → next ≡ first_with g entries 0
      → (e : Entry) → next < length entries → e ≡ get_or entries next e → entry_number e ≡ list_number ms
  begin_head entries g next same is e h at = there g entries 0 next next e (sym is) (omega arith) h at ∙ same

  pub begin_rest : (entries : List Entry) (g next : ℕ) → g ≡ list_number ms → next ≡ first_with g entries 0
      → found (drop next entries) next ≡ found entries 0
  begin_rest entries g next same is = skip g entries 0 next next same (sym is) (omega arith)

  module _ (entries : List Entry) (next then_next : ℕ) (e : Entry) (h : next < length entries)
      (is : e ≡ get_or entries next e) (head : entry_number e ≡ list_number ms)
      (link : then_next ≡ number_at (links entries 0) next) where
    linked : then_next ≡ first_with (entry_number e) (drop (suc next) entries) (suc next)
    linked = link ∙ link_at entries 0 next (suc next) e h is (omega arith)

    far : then_next ≡ suc next + (then_next - suc next)
    far =
        let b = not_before (entry_number e) (drop (suc next) entries) (suc next) in omega (arith, linked)

    pub next_far : next < then_next
    next_far = let b = not_before (entry_number e) (drop (suc next) entries) (suc next) in omega (arith, linked)

    pub next_head : (x : Entry) → then_next < length entries → x ≡ get_or entries then_next x
        → entry_number x ≡ list_number ms
    next_head x b at =
        let k = then_next - suc next in
        let len : length (drop (suc next) entries) ≡ length entries - suc next = length-drop (suc next) entries in
        let here : x ≡ get_or (drop (suc next) entries) k x = at ∙ ap (λ j. get_or entries j x) far
        ∙ sym (get_or-drop (suc next) entries k x) in
        let more = next_far in
        there (entry_number e) (drop (suc next) entries) (suc next) k then_next x (sym linked) far
        (omega (arith, len)) here ∙ head

    pub next_rest : one e ≡ None → found (drop then_next entries) then_next ≡ found (drop next entries) next
    next_rest none =
        let behind = drop (suc next) entries in
        let k = then_next - suc next in
        ap (λ (es : List Entry). found es then_next) (sym (drops entries (suc next) k then_next far))
        ∙ skip (entry_number e) behind (suc next) k then_next head (sym linked) far
        ∙ sym (pass_one e behind next none)
        ∙ ap (λ (es : List Entry). found es next) (sym (next_of entries next e h is))

  -- an entry that isn't filled doesn't fit
  pub unfilled : (e : Entry) (b : Bool) (slots : List (Option Operand)) → b ≡ false
      → outcome b slots ≡ option_map operands_in (one e) → one e ≡ None
  unfilled e false slots h f = nothing (one e) f
  unfilled e true slots h f = absurd (false≢true (sym h))

  -- and one that is filled is the first that fits
  pub filled_first : (entries : List Entry) (next : ℕ) (e : Entry) (b : Bool) (slots : List (Option Operand))
      → next < length entries → e ≡ get_or entries next e → b ≡ true
      → outcome b slots ≡ option_map operands_in (one e)
      → found (drop next entries) next ≡ found entries 0
      → Some (next, slots) ≡ option_map fit_from (found entries 0)
  filled_first entries next e b slots h is t f rest =
      go (one e) refl (subst (λ b. outcome b slots ≡ option_map operands_in (one e)) t f)
      ∙ ap (option_map fit_from) (ap (λ (es : List Entry). found es next) (sym (next_of entries next e h is)) ∙ rest)
    where
      same_slots : (fs : List (Found ℕ Register Symbol)) → Some slots ≡ Some (operands_in fs) → slots ≡ operands_in fs
      same_slots fs g = cc

      go : (o : Finds) → one e ≡ o → Some slots ≡ option_map operands_in o
          → Some (next, slots) ≡ option_map fit_from (found (e ∷ drop (suc next) entries) next)
      go None same g = cc
      go (Some fs) same g = ap (λ (ss : List (Option Operand)). Some (next, ss)) (same_slots fs g)
          ∙ sym (ap (option_map fit_from) (take_one e (drop (suc next) entries) next fs same))
