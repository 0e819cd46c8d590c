-- What is found makes an entry fit, or not.
use Rattle.std.proofs.Common.{◌≡◌, ◌∙◌, ◌≤◌, ◌+◌, ◌-◌, ℕ, suc, length, take, drop, get_or, length-drop, arith, Bool}
use Rattle.std.proofs.Common.{true, false, List, [], ◌∷◌, ◌++◌, Option, Some, None, Result, Ok, Err, refl, ap, sym}
use Rattle.std.proofs.Common.{subst}
use Rattle.std.specs.Prelude.{is_some}
use Rattle.std.specs.Option.{option_map}
use Rattle.po_word.specs.declared.memory.OutOfMemory.{OutOfMemory}
use Rattle.po_word.specs.Exprs.{Expr}
use Rattle.po_term.specs.Kinds.{Met, and_then, exprs}
use Rattle.po_model.specs.declared.machine.Entry.{Entry}
use Rattle.po_model.specs.Fit.{all_agree, only_if, answered, entry_fit, or_later, first_fit}
use Rattle.po_model.specs.Combined.{Kept, AsOne, if_fit}
use Rattle.po_model.specs.Holed.{HoleMove}
use Rattle.po_model.specs.Generalised.{hole_leaves}
use Rattle.po_tsimp.specs.declared.path.Path.{Path as QuestionPath}
use Rattle.po_tsimp.specs.Made.{path_of, extended}
use Rattle.po_tsimp.proofs.Paths.{extended_append, extended_nothing}
use Rattle.po_trec.proofs.Rest.{rest_whole}
use Rattle.po_trec.specs.declared.found.Spot.{Spot}
use Rattle.po_trec.specs.Read.{Answers}
use Rattle.po_trec.specs.Spots.{HoleFound, founds_of, answers_from, whether, numbered}

abbrev Founds : Type 0
Founds = List HoleFound

-- Whether what is found fits

abbrev answer_to : List ℕ → Option Founds → Met Expr Bool
answer_to ws o = whether (answered hole_leaves (exprs ws) o)

only_some : (b : Bool) (fs : Founds) → is_some (only_if b fs) ≡ b
only_some true fs = refl
only_some false fs = refl

pub agreed_answers : (ws : List ℕ) (fs : List Spot) (b : Bool) (r : Result Bool OutOfMemory) (p q : QuestionPath)
    → b ≡ all_agree hole_leaves (founds_of fs) → b ≡ true → Answers (λ c. c) ws r p q (answers_from ws fs 0)
    → Answers (λ c. c) ws r p q (answer_to ws (Some (founds_of fs)))
agreed_answers ws fs b (Ok c) p q h e i =
    let agreed : all_agree hole_leaves (founds_of fs) ≡ true = sym h ∙ e in
    rw agreed (
      i.0 ∙ sym (only_some (answers_from ws fs 0).got (founds_of fs)),
      i.1
          ∙ sym (extended_nothing ws (answers_from ws fs 0).asked (path_of p)),
    )
agreed_answers ws fs b (Err x) p q h e i = i

-- The first entry that fits

abbrev or_rest : ℕ → Met Expr (Option Founds) → Met Expr (Option (ℕ × Founds)) → Met Expr (Option ℕ)
or_rest n m rest = numbered (and_then m (λ fit. or_later n fit rest))

fits_later : (ws : List ℕ) (n : ℕ) (b : Bool) (second : Result (Option ℕ) OutOfMemory) (p q r : QuestionPath)
    (m : Met Expr (Option Founds)) (rest : Met Expr (Option (ℕ × Founds))) → b ≡ is_some m.got
    → path_of q ≡ extended ws (path_of p) m.asked → b ≡ false → Answers (λ c. c) ws second q r (numbered rest)
    → Answers (λ c. c) ws second p r (or_rest n m rest)
fits_later ws n b (Ok c) p q r m rest h i e j = go m.got (sym h ∙ e)
  where
    go : (o : Option Founds) → is_some o ≡ false → (c ≡ (numbered (or_later n o rest)).got)
        × (path_of r ≡ extended ws (path_of p) (m.asked ++ (or_later n o rest).asked))
    go None s = (
      j.0,
      j.1 ∙ ap (λ kept. extended ws kept rest.asked) i
          ∙ sym (extended_append ws m.asked rest.asked (path_of p)),
    )
    go (Some fs) s = absurd (cc)
fits_later ws n b (Err x) p q r m rest h i e j = j

abbrev first_number : List ℕ → Bool → List Entry → ℕ → List HoleMove → Met Expr (Option ℕ)
first_number ws cc_live es n ms = numbered (first_fit hole_leaves (exprs ws) cc_live es n ms)

-- the entry e doesn't fit, and then the rest is tried
pub later_entry : (ws : List ℕ) (cc_live : Bool) (es : List Entry) (e : Entry) (n : ℕ) (ms : List HoleMove) (b : Bool)
    (second : Result (Option ℕ) OutOfMemory) (p q r : QuestionPath) → 1 ≤ length es → e ≡ get_or es 0 e
    → b ≡ is_some (entry_fit hole_leaves (exprs ws) cc_live e ms).got
    → path_of q ≡ extended ws (path_of p) (entry_fit hole_leaves (exprs ws) cc_live e ms).asked → b ≡ false
    → Answers (λ c. c) ws second q r (first_number ws cc_live (take (length es - 1) (drop 1 es)) (n + 1) ms)
    → Answers (λ c. c) ws second p r (first_number ws cc_live es n ms)
later_entry ws cc_live [] e n ms b second p q r some same h i f j = absurd (omega arith)
later_entry ws cc_live (x ∷ es) e n ms b second p q r some same h i f j =
    let next : n + 1 ≡ suc n = omega arith in
    let tried : Answers (λ c. c) ws second q r (first_number ws cc_live es (suc n) ms) =
    subst (λ k. Answers (λ c. c) ws second q r (first_number ws cc_live es k ms)) next
    (subst (λ (l : List Entry). Answers (λ c. c) ws second q r (first_number ws cc_live l (n + 1) ms))
    (rest_whole (x ∷ es) 1) j) in
    subst (λ (y : Entry). Answers (λ c. c) ws second p r (first_number ws cc_live (y ∷ es) n ms)) same
    (fits_later ws n b second p q r (entry_fit hole_leaves (exprs ws) cc_live e ms)
    (first_fit hole_leaves (exprs ws) cc_live es (suc n) ms) h i f tried)

-- What becomes of the transfers

abbrev number_of : Option (ℕ × Founds) → Option ℕ
number_of o = option_map (λ f. f.0) o

pub fit_as_one : (n : ℕ) (o : Option (ℕ × Founds)) (ms : List HoleMove) → Some n ≡ number_of o
    → AsOne ms ≡ if_fit ms o
fit_as_one n None ms h = absurd (cc)
fit_as_one n (Some f) ms h = refl

pub fit_kept : (o : Option (ℕ × Founds)) (ms : List HoleMove) → None ≡ number_of o → Kept ≡ if_fit ms o
fit_kept None ms h = refl
fit_kept (Some f) ms h = absurd (cc)

-- what becomes of a pair, by whether an entry fits it
pub ruleset one_or_kept = (fit_as_one, fit_kept, extended_nothing)
