-- A text that has an output compiles, unless memory is wanted or the source or the sink fails.
use Rattle.std.proofs.Common.{◌≡◌, ℕ, zero, suc, ◌+◌, ◌<◌, ◌≤◌, List, [], ◌∷◌, ◌++◌, length, All, Option}
use Rattle.std.proofs.Common.{Some, None, Result, Ok, Err, Bool, refl, ap, sym, ◌∙◌, subst, arith, inl, inr}
use Rattle.std.proofs.lemmas.List.{append-nil, length-append}
use Rattle.po_text.specs.Causes.{before_known}
use Rattle.po_text.specs.declared.fault.Kind.{Kind}
use Rattle.po_lines.specs.Faults.{text_fault}
use Rattle.po_ir.specs.declared.unit.Unit.{Unit as StackUnit}
use Rattle.po_model.specs.declared.machine.Machine.{Machine}
use Rattle.po_model.specs.UnitCodes.{PlainUnit}
use Rattle.po_model.specs.Blocks.{instrs_at}
use Rattle.po_model.specs.Fit.{fit}
use Rattle.po_model.specs.Fitted.{IsUnrecognised, instr_at}
use Rattle.po_slow.proofs.LivenessPasses.{same_test}
use Rattle.po_compile.specs.declared.status.Status.{Status}
use Rattle.po_compile.specs.declared.status.Status.TheVariants as status
use Rattle.po_compile.specs.Input.{Program, input_in, IsInput}
use Rattle.po_compile.specs.declared.mode.Mode.{Mode}
use Rattle.po_compile.specs.Output.{FirstBad, AllFit, HasRoom, HaveRoom, IsShort, HasUnfit, HasCrowd, naive_codes}
use Rattle.po_compile.specs.declared.refusal.Refusal.{Refusal}
use Rattle.po_compile.specs.declared.refusal.Refusal.TheVariants as refusal
use Rattle.po_compile.specs.Statuses.{ReadsWhole, OnBadText, HasCause, status_for, IsComplete}
use Rattle.po_compile.proofs.OnlyOne.{one_list}

-- what was read is the text that the source told
known_text : (new : Option (List ℕ)) (text read : List ℕ) → Some text ≡ before_known read new
    → ReadsWhole (Some text) new read → read ≡ text
known_text None text read e whole = absurd cc
known_text (Some rest) text read e whole =
    let ended : rest ≡ [] = whole.ended in
    let same : text ≡ read ++ rest = cc in
    sym (same ∙ ap (λ r. read ++ r) ended ∙ append-nil read)

same_text : (old new : Option (List ℕ)) (text read : List ℕ) → old ≡ Some text → ReadsWhole old new read → read ≡ text
same_text old new text read e whole =
    let told : ReadsWhole (Some text) new read = subst (λ (o : Option (List ℕ)). ReadsWhole o new read) e whole in
    known_text new text read told.given told

-- more bytes than the limit are no text within it
too_long : (new : Option (List ℕ)) (text bytes : List ℕ) → Some text ≡ before_known bytes new → length text ≤ 4194304
    → 4194304 < length bytes → ⊥
too_long None text bytes e fits long = cc
too_long (Some rest) text bytes e fits long =
    let same : length text ≡ length bytes + length rest = ap length (let whole : text ≡ bytes ++ rest = cc in whole)
    ∙ length-append bytes rest in omega arith

-- what has an output has no other end

ok_same : {A E : Type 0} (x y : A) → ◌≡◌ {A = Result A E} (Ok x) (Ok y) → x ≡ y
ok_same x y e = cc

not_fault : {A E : Type 0} (r : Result A E) (x : A) (f : E) → r ≡ Ok x → r ≡ Err f → ⊥
not_fault r x f e g = cc

all_not_bad : {X : Type 0} (P Q : X → Type 0) (xs : List X) (n : ℕ) → ((x : X) → P x → Q x → ⊥) → All P xs
    → FirstBad P Q xs n → ⊥
all_not_bad P Q [] n apart all bad = bad
all_not_bad P Q (x ∷ xs) zero apart all bad = apart x (all zero x (omega arith)) bad
all_not_bad P Q (x ∷ xs) (suc n) apart all bad =
    all_not_bad P Q xs n apart (λ k d h. all (suc k) d (omega arith)) bad.1

not_both : {A : Type 0} {r : Option A} (x : A) → r ≡ Some x → r ≡ None → ⊥
not_both x e f = cc

fits_or_not : (m : Machine) (b i : ℕ) (u : PlainUnit) → AllFit m u → IsUnrecognised u.code m b i → ⊥
fits_or_not m b i u fits unfit =
    let same : fits.0 b i ≡ unfit.live b i = same_test (fits.0 b i) (unfit.live b i) (fits.1 b i unfit.there)
    (unfit.tells b i unfit.there) in
    let found = fits.2 b i unfit.there in
    not_both found.0 found.1 (subst (λ (l : Bool). fit m l (instr_at i (instrs_at u.code b)) ≡ None) (sym same)
    unfit.unfit)

not_over : (n needed count : ℕ) → n < needed → needed ≡ count → count ≤ n → ⊥
not_over n needed count a e b = omega arith

room_or_not : (m : Machine) (point needed : ℕ) (u : PlainUnit) → HasRoom m u → IsShort m point needed u → ⊥
room_or_not m point needed u room short = not_over _ _ _ short.over short.count (room point)

pub same_input : (text : List ℕ) (m n : Machine) (us vs : List StackUnit) → IsInput text m us → IsInput text n vs
    → (m ≡ n) × (us ≡ vs)
same_input text m n us vs e f =
    let same : ◌≡◌ {A = Program} (record { machine = m; units = us }) (record { machine = n; units = vs }) =
    ok_same _ _ (sym e ∙ f) in
    (ap (λ p. p.machine) same, ap (λ p. p.units) same)

not_unfit : (text : List ℕ) (m : Machine) (us : List StackUnit) (n b i : ℕ) → IsInput text m us
    → All (AllFit m) (naive_codes us) → HasUnfit text n b i → ⊥
not_unfit text m us n b i is fits unfit =
    let same = same_input text m unfit.0 us unfit.1 is unfit.2 in
    let here : All (AllFit unfit.0) (naive_codes unfit.1) = subst
    (λ (m : Machine). All (AllFit m) (naive_codes unfit.1)) same.0
    (subst (λ (us : List StackUnit). All (AllFit m) (naive_codes us)) same.1 fits) in
    all_not_bad (AllFit unfit.0) (λ u. IsUnrecognised u.code unfit.0 b i) (naive_codes unfit.1) n
    (fits_or_not unfit.0 b i) here unfit.3

not_crowded : (mode : Mode) (text : List ℕ) (m : Machine) (us : List StackUnit) (n point needed : ℕ)
    → IsInput text m us → HaveRoom mode m us → HasCrowd mode text n point needed → ⊥
not_crowded mode text m us n point needed is room crowd =
    let same = same_input text m crowd.0 us crowd.1 is crowd.2 in
    let here : HaveRoom mode crowd.0 crowd.1 = subst (λ (m : Machine). HaveRoom mode m crowd.1) same.0
    (subst (λ (us : List StackUnit). HaveRoom mode m us) same.1 room) in
    let one : here.0 ≡ crowd.3.made = one_list mode crowd.0 (naive_codes crowd.1) here.0 crowd.3.made here.1
    crowd.3.codes in
    all_not_bad (HasRoom crowd.0) (IsShort crowd.0 point needed) crowd.3.made n (room_or_not crowd.0 point needed)
    (subst (λ (made : List PlainUnit). All (HasRoom crowd.0) made) one here.2) crowd.3.crowded

not_bad : (text : List ℕ) (m : Machine) (us : List StackUnit) (line col : ℕ) (kind : Kind) (old new : Option (List ℕ))
    → old ≡ Some text → length text ≤ 4194304 → IsInput text m us → OnBadText (status.BadText line col kind) old new
    → ⊥
not_bad text m us line col kind old new e fits is (inl read) =
    let f : input_in text ≡ Err (text_fault line col kind) =
    subst (λ (t : List ℕ). input_in t ≡ Err (text_fault line col kind)) (same_text old new text read.0 e read.1)
    read.2 in
    not_fault (input_in text) _ _ is f
not_bad text m us line col kind old new e fits is (inr long) = too_long new text long.0 (sym e ∙ long.3) fits long.2

-- a text with a fault, and a text that has no output

pub bad_text_complete : (mode : Mode) (s : Status) (line col : ℕ) (kind : Kind) (old new : Option (List ℕ))
    (before now before_written now_written : ℕ) → s ≡ status.BadText line col kind → OnBadText s old new
    → IsComplete mode s old before now before_written now_written
bad_text_complete mode s line col kind old new b n bw nw e bad = λ text m us told fits is recognised room c k d l.
    absurd (not_bad text m us line col kind old new told fits is (subst (λ (s : Status). OnBadText s old new) e bad))

refusal_complete : (mode : Mode) (text : List ℕ) (r : Refusal) (old new : Option (List ℕ)) (b n bw nw : ℕ)
    → ReadsWhole old new text → HasCause mode text r → IsComplete mode (status_for r) old b n bw nw
refusal_complete mode text (refusal.BadText line col kind) old new b n bw nw whole why =
    bad_text_complete mode (status.BadText line col kind) line col kind old new b n bw nw refl (inl (text, whole, why))
refusal_complete mode text (refusal.Unrecognised unit block index) old new b n bw nw whole why =
    λ t m us told fits is recognised room c k d l. not_unfit t m us unit block index is recognised
    (subst (λ (t : List ℕ). HasUnfit t unit block index) (same_text old new t text told whole) why)
refusal_complete mode text (refusal.TooFew unit point needed) old new b n bw nw whole why =
    λ t m us told fits is recognised room c k d l. not_crowded mode t m us unit point needed is room
    (subst (λ (t : List ℕ). HasCrowd mode t unit point needed) (same_text old new t text told whole) why)
refusal_complete mode text refusal.OutOfMemory old new b n bw nw whole why =
    λ t m us told fits is recognised room c k d l. tt

pub refused_complete : (mode : Mode) (text : List ℕ) (r : Refusal) (s : Status) (old new : Option (List ℕ))
    (b n bw nw : ℕ) → s ≡ status_for r → ReadsWhole old new text → HasCause mode text r
    → IsComplete mode s old b n bw nw
refused_complete mode text r s old new b n bw nw e whole why =
    subst (λ (s : Status). IsComplete mode s old b n bw nw) (sym e)
    (refusal_complete mode text r old new b n bw nw whole why)
