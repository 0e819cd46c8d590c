-- One unit more goes from its operations to its assembly.
use Rattle.std.proofs.Common.{◌≡◌, ℕ, zero, suc, ◌+◌, ◌<◌, ◌≤◌, true, List, [], ◌∷◌, ◌++◌, length, take}
use Rattle.std.proofs.Common.{map, get_or, All, Option, Some, None, Result, Ok, Err, refl, ap, sym, ◌∙◌, subst, arith}
use Rattle.std.proofs.Common.{append_assoc, append-nil, add-one}
use Rattle.std.specs.Prelude.{is_some}
use Rattle.std.specs.List.{AllZip}
use Rattle.std.proofs.lemmas.Bool.{false≢true}
use Rattle.po_ir.specs.declared.unit.Unit.{Unit as StackUnit}
use Rattle.po_assign.specs.declared.answer.Placed.{Placed}
use Rattle.po_model.specs.declared.machine.Machine.{Machine}
use Rattle.po_model.specs.Assembly.{IsAssembly}
use Rattle.po_model.specs.Machines.{IsMachine}
use Rattle.po_model.specs.Naive.{naive}
use Rattle.po_model.specs.Placement.{registers}
use Rattle.po_model.specs.UnitCodes.{PlainUnit, IsUnitCode, unit_of, flat}
use Rattle.po_model.specs.Fitted.{IsUnrecognised}
use Rattle.po_compile.specs.declared.compiled.Compiled.{Compiled}
use Rattle.po_compile.specs.declared.mode.Mode.{Mode}
use Rattle.po_compile.specs.declared.mode.Alone.{Alone}
use Rattle.po_compile.specs.declared.mode.Alone.TheVariants as alone
use Rattle.po_compile.specs.declared.refusal.Refusal.{Refusal}
use Rattle.po_compile.specs.declared.refusal.Refusal.TheVariants as refusal
use Rattle.po_compile.specs.declared.work.Crowd.{Crowd}
use Rattle.po_compile.specs.declared.work.Work.{Work}
use Rattle.po_compile.specs.Input.{IsInput}
use Rattle.po_compile.specs.Modes.{IsCodeIn, mode_alone}
use Rattle.po_compile.specs.Output.{FirstBad, AllFit, HasRoom, IsShort, AreAssembled, naive_codes}
use Rattle.po_compile.specs.Rules.{AreRulesIn}
use Rattle.po_compile.specs.Statuses.{Compiles, HasCause}
use Rattle.po_compile.specs.Steps.{Checked}
use Rattle.po_compile.specs.Turns.{Come, AreDone, CheckedUnit, Answered}
use Rattle.po_compile.proofs.Assembled.{output_of}
use Rattle.po_compile.proofs.Each.{all_append}
use Rattle.po_compile.proofs.Slowed.{zip_length, made_formed}

-- The first that is bad

-- one more behind it changes nothing
bad_more : {X : Type 0} (P Q : X → Type 0) (xs : List X) (x : X) (n : ℕ) → FirstBad P Q xs n
    → FirstBad P Q (xs ++ x ∷ []) n
bad_more P Q [] x n bad = absurd bad
bad_more P Q (y ∷ ys) x zero bad = bad
bad_more P Q (y ∷ ys) x (suc n) bad = (bad.0, bad_more P Q ys x n bad.1)

-- it stands behind all that are good
bad_last : {X : Type 0} (P Q : X → Type 0) (xs : List X) (x : X) → All P xs → Q x
    → FirstBad P Q (xs ++ x ∷ []) (length xs)
bad_last P Q [] x good bad = bad
bad_last P Q (y ∷ ys) x good bad =
    (good zero y (omega arith), bad_last P Q ys x (λ k d h. good (suc k) d (omega arith)) bad)

bad_at : {X Y : Type 0} (P Q : Y → Type 0) (f : X → Y) (xs : List X) (i : ℕ) (x : X) → All P (map f (take i xs))
    → i < length xs → x ≡ get_or xs i x → Q (f x) → FirstBad P Q (map f xs) i
bad_at P Q f [] i x good h e bad = absurd (omega arith)
bad_at P Q f (y ∷ ys) zero x good h e bad = subst (λ z. Q (f z)) e bad
bad_at P Q f (y ∷ ys) (suc i) x good h e bad =
    (good zero (f y) (omega arith), bad_at P Q f ys i x (λ k d b. good (suc k) d (omega arith)) (omega arith) e bad)

-- The units that come

assembled_append : (m : Machine) (us : List PlainUnit) (u : PlainUnit) (out text : List ℕ) → AreAssembled m us out
    → IsAssembly m (registers (length m.regs) (flat u.code)) u text → AreAssembled m (us ++ u ∷ []) (out ++ text)
assembled_append m [] u out text none is = (text, [], is, refl, ap (λ o. o ++ text) none ∙ sym (append-nil text))
assembled_append m (v ∷ vs) u out text more is = (
  more.0,
  more.1 ++ text,
  more.2,
  assembled_append m vs u more.1 text more.3 is,
  ap (λ o. o ++ text) more.4 ∙ append_assoc more.0 more.1 text,
)

-- behind a crowd nothing changes
pub come_behind : (m : Machine) (made : List PlainUnit) (u : PlainUnit) (crowd : Option Crowd) (out : List ℕ)
    → is_some crowd ≡ true → Come m made crowd out → Come m (made ++ u ∷ []) crowd out
come_behind m made u None out some come = absurd (false≢true some)
come_behind m made u (Some c) out some come =
    bad_more (HasRoom m) (IsShort m c.point c.needed) made u c.unit come

-- a unit is written
pub come_written : (m : Machine) (made : List PlainUnit) (u : PlainUnit) (p : Placed) (crowd : Option Crowd)
    (out now text : List ℕ) → crowd ≡ None → Come m made crowd out → HasRoom m u → unit_of p.unit ≡ u
    → p.regs.items ≡ registers (length m.regs) (flat u.code) → IsAssembly m p.regs.items (unit_of p.unit) text
    → now ≡ out ++ text → Come m (made ++ u ∷ []) crowd now
come_written m made u p crowd out now text none come room same regs is e =
    let before : Come m made None out = subst (λ (c : Option Crowd). Come m made c out) none come in
    let of_unit : IsAssembly m p.regs.items u text =
    subst (λ (v : PlainUnit). IsAssembly m p.regs.items v text) same is in
    let here : IsAssembly m (registers (length m.regs) (flat u.code)) u text =
    subst (λ (rs : List (ℕ × ℕ)). IsAssembly m rs u text) regs of_unit in
    let all : Come m (made ++ u ∷ []) None (out ++ text) =
    (all_append (HasRoom m) made u before.0 room, assembled_append m made u out text before.1 here) in
    let written : Come m (made ++ u ∷ []) None now =
    subst (λ (o : List ℕ). Come m (made ++ u ∷ []) None o) (sym e) all in
    subst (λ (c : Option Crowd). Come m (made ++ u ∷ []) c now) (sym none) written

-- a unit is crowded
pub come_crowded : (m : Machine) (made : List PlainUnit) (u : PlainUnit) (crowd : Option Crowd) (out : List ℕ)
    (unit point needed : ℕ) → crowd ≡ None → Come m made crowd out → IsShort m point needed u → length made ≡ unit
    → (now : List ℕ) → Come m (made ++ u ∷ []) (Some (record { unit = unit; point = point; needed = needed })) now
come_crowded m made u crowd out unit point needed none come short e now =
    let before : Come m made None out = subst (λ (c : Option Crowd). Come m made c out) none come in
    subst (λ (n : ℕ). FirstBad (HasRoom m) (IsShort m point needed) (made ++ u ∷ []) n) e
    (bad_last (HasRoom m) (IsShort m point needed) made u before.0 short)

zip_append : {A : Type 0} (R : A → A → Type 0) (us vs : List A) (u v : A) → AllZip R us vs → R u v
    → AllZip R (us ++ u ∷ []) (vs ++ v ∷ [])
zip_append R [] [] u v z r = (r, tt)
zip_append R [] (w ∷ ws) u v z r = absurd z
zip_append R (x ∷ xs) [] u v z r = absurd z
zip_append R (x ∷ xs) (w ∷ ws) u v z r = (z.0, zip_append R xs ws u v z.1 r)

pub done_begin : (mode : Mode) (m : Machine) (w : Work) → w.crowd ≡ None → w.out.items ≡ [] → AreDone mode m [] w
done_begin mode m w quiet empty =
    let none : Come m [] None w.out.items = (λ k d h. absurd (omega arith), empty) in
    record {
      fits = λ k d h. absurd (omega arith);
      formed = λ k d h. absurd (omega arith);
      made = [];
      codes = tt;
      come = subst (λ (c : Option Crowd). Come m [] c w.out.items) (sym quiet) none;
    }

pub done_next : (mode : Mode) (m : Machine) (us : List PlainUnit) (n : ℕ) (u code made : PlainUnit) (old new : Work)
    → length us ≡ n → AreDone mode m us old → code ≡ u → AllFit m code → IsUnitCode code → IsCodeIn mode m code made
    → ((vs : List PlainUnit) → length vs ≡ n → Come m vs old.crowd old.out.items
    → Come m (vs ++ made ∷ []) new.crowd new.out.items)
    → AreDone mode m (us ++ u ∷ []) new
done_next mode m us n u code made old new count h same fits formed is_code come =
    let next : AreDone mode m (us ++ code ∷ []) new = record {
      fits = all_append (AllFit m) us code h.fits fits;
      formed = all_append IsUnitCode us code h.formed formed;
      made = h.made ++ made ∷ [];
      codes = zip_append (IsCodeIn mode m) us h.made code made h.codes is_code;
      come = come h.made (zip_length (IsCodeIn mode m) us h.made h.codes ∙ count) h.come;
    } in
    subst (λ (v : PlainUnit). AreDone mode m (us ++ v ∷ []) new) same next

-- All of them

taken_one : (us : List StackUnit) (i : ℕ) (u : StackUnit) → i < length us → u ≡ get_or us i u
    → naive_codes (take (suc i) us) ≡ naive_codes (take i us) ++ naive u ∷ []
taken_one [] i u h e = absurd (omega arith)
taken_one (x ∷ xs) zero u h e = ap (λ (y : StackUnit). naive y ∷ []) (sym e)
taken_one (x ∷ xs) (suc i) u h e = ap (λ (ys : List PlainUnit). naive x ∷ ys) (taken_one xs i u (omega arith) e)

pub taken_next : (us : List StackUnit) (i : ℕ) (u : StackUnit) → i < length us → u ≡ get_or us i u
    → naive_codes (take (i + 1) us) ≡ naive_codes (take i us) ++ naive u ∷ []
taken_next us i u h e = ap (λ n. naive_codes (take n us)) (add-one i) ∙ taken_one us i u h e

pub taken_count : (us : List StackUnit) (i : ℕ) → i ≤ length us → length (naive_codes (take i us)) ≡ i
taken_count us zero h = refl
taken_count [] (suc i) h = absurd (omega arith)
taken_count (x ∷ xs) (suc i) h = ap suc (taken_count xs i (omega arith))

-- a unit is refused, and those before it fit
pub first_refused : (m : Machine) (us : List StackUnit) (i n : ℕ) (u : StackUnit) (r : Refusal)
    → All (AllFit m) (naive_codes (take i us)) → i < length us → u ≡ get_or us i u → n ≡ i
    → CheckedUnit m n (naive u) (Err r) → Checked m (naive_codes us) (Err r)
first_refused m us i n u (refusal.BadText line col kind) fits h e same checked = absurd checked
first_refused m us i n u (refusal.Unrecognised unit block index) fits h e same checked =
    subst (λ (k : ℕ). FirstBad (AllFit m) (λ v. IsUnrecognised v.code m block index) (naive_codes us) k)
    (sym (checked.0 ∙ same))
    (bad_at (AllFit m) (λ v. IsUnrecognised v.code m block index) naive us i u fits h e checked.1)
first_refused m us i n u (refusal.TooFew unit point needed) fits h e same checked = absurd checked
first_refused m us i n u refusal.OutOfMemory fits h e same checked = tt

no_rules : (a : Alone) (m : Machine) (us : List PlainUnit) → AreRulesIn (mode_alone a) m us []
no_rules alone.Naive m us = refl
no_rules alone.Slow m us = refl

pub answered_none : {T : Type 0} (crowd : Option Crowd) (out : List ℕ) (c : Compiled T) → crowd ≡ None
    → c.out.items ≡ out → Answered crowd out (Ok c)
answered_none {T = T} crowd out c none e =
    subst (λ (k : Option Crowd). Answered {T = T} k out (Ok c)) (sym none) e

pub answered_some : (T : Type 0) (crowd : Option Crowd) (out : List ℕ) (c : Crowd) → crowd ≡ Some c
    → Answered {T = T} crowd out (Err (refusal.TooFew c.unit c.point c.needed))
answered_some T crowd out c some = subst (λ (k : Option Crowd). Answered {T = T} k out (Err (refusal.TooFew c.unit
    c.point c.needed))) (sym some) refl

-- what is answered is what compiling gives
pub answered : {T : Type 0} (a : Alone) (text : List ℕ) (m : Machine) (us : List StackUnit) (w : Work)
    (r : Result (Compiled T) Refusal) → IsMachine m → IsInput text m us
    → AreDone (mode_alone a) m (naive_codes us) w → Answered w.crowd w.out.items r → Compiles (mode_alone a) text r
answered {T = T} a text m us w r is input done told = go w.crowd r done.come told
  where
    go : (crowd : Option Crowd) (r : Result (Compiled T) Refusal) → Come m done.made crowd w.out.items
        → Answered crowd w.out.items r → Compiles (mode_alone a) text r
    go None (Ok c) come told = (
      m,
      us,
      input,
      output_of (mode_alone a) m us done.made done.made w.out.items [] c.out.items is (record {
        fits = done.fits;
        naive_formed = done.formed;
        codes = done.codes;
        formed = made_formed (mode_alone a) m (naive_codes us) done.made is done.codes done.formed;
      }) come.0 refl come.1 (no_rules a m (naive_codes us)) (told ∙ sym (append-nil w.out.items)),
    )
    go None (Err e) come told = absurd told
    go (Some c) (Ok d) come told = absurd told
    go (Some c) (Err e) come told = subst (λ (x : Refusal). HasCause (mode_alone a) text x) (sym told)
        (m, us, input, record { fits = done.fits; made = done.made; codes = done.codes; crowded = come })

-- a text whose first fault among the units is this one has it as its cause
pub checked_cause : (mode : Mode) (text : List ℕ) (m : Machine) (us : List StackUnit) (r : Refusal)
    → IsInput text m us → Checked m (naive_codes us) (Err r) → HasCause mode text r
checked_cause mode text m us (refusal.BadText line col kind) input checked = absurd checked
checked_cause mode text m us (refusal.Unrecognised unit block index) input checked = (m, us, input, checked)
checked_cause mode text m us (refusal.TooFew unit point needed) input checked = absurd checked
checked_cause mode text m us refusal.OutOfMemory input checked = tt
