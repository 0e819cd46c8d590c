-- A new core.
use Rattle.std.proofs.Common.{◌≡◌, ℕ, ◌+◌, ◌<◌, ◌≤◌, List, [], ◌∷◌, ◌++◌, map, length, drop, get_or, All, None, refl}
use Rattle.std.proofs.Common.{sym, ◌∙◌, ap, subst, arith, append_assoc, append-nil}
use Rattle.std.proofs.lemmas.List.Elements.{All-nil, All-cons, All-head, All-tail, All-weaker, All-get_or}
use Rattle.std.proofs.lemmas.List.{drop_more, drop_all, map-append}
use Rattle.po_model.specs.declared.machine.Machine.{Machine}
use Rattle.po_model.specs.Machines.{IsMachine}
use Rattle.std.specs.Global.{Vec}
use Rattle.po_model.specs.declared.code.Code.{Code}
use Rattle.po_model.specs.Blocks.{PlainBlock, code_of}
use Rattle.po_model.specs.UnitCodes.{IsFormedCode}
use Rattle.po_model.specs.Pairs.{WellFormedPair}
use Rattle.po_model.specs.Canonical.{Canonical}
use Rattle.po_model.specs.Scanned.{Scan, IsPassStart}
use Rattle.po_slow.specs.declared.state.ScanState.{ScanState}
use Rattle.po_slow.specs.States.{scan_of}
use Rattle.po_core.specs.declared.fore.Fore.{Fore}
use Rattle.po_core.specs.Fores.{PlainFore}
use Rattle.po_core.specs.Views.{fore_of, codes_of}
use Rattle.po_core.proofs.Lists.{all_plain}
use Rattle.po_core.specs.Events.{PlainCore, PlainEvent, LeadsTo}
use Rattle.po_core.specs.Parts.{AreFresh, IsFore, HoldsFormed, HasParts, IsNewFore, AreNewFores, IsNewCore}
use Rattle.po_core.specs.Parts.{BringsCanonical}
use Rattle.po_core.proofs.Scanning.{fresh_next}
use Rattle.po_core.proofs.Kept.{kept_list}

-- A new core has the parts

new_fore_kept : (m : Machine) (n : ℕ) (codes : List (List PlainBlock)) (f : PlainFore) → All IsFormedCode codes
    → IsNewFore codes f
    → IsFore m n f
new_fore_kept m n codes f formed h = subst (IsFore m n) (sym h.rest) (record {
  shown = tt;
  given = formed;
  scanned = fresh_next m codes f.scans f.at 0 h.fresh refl h.first;
  counts = refl;
  unposted = All-nil WellFormedPair;
})

new_fores_kept : (m : Machine) (n : ℕ) (units : List (List (List PlainBlock))) (fs : List PlainFore)
    → All (All IsFormedCode) units
    → AreNewFores units fs → All (IsFore m n) fs
new_fores_kept m n [] [] formed h = All-nil (IsFore m n)
new_fores_kept m n [] (f ∷ fs) formed h = absurd h
new_fores_kept m n (u ∷ us) [] formed h = absurd h
new_fores_kept m n (u ∷ us) (f ∷ fs) formed (new, h) = All-cons (IsFore m n) f fs
    (new_fore_kept m n u f (All-head (All IsFormedCode) u us formed) new)
    (new_fores_kept m n us fs (All-tail (All IsFormedCode) u us formed) h)

pub new_kept : (m : Machine) (units : List (List (List PlainBlock))) (learners room : ℕ) (c : PlainCore) → IsMachine m
    → All (All IsFormedCode) units → IsNewCore m units learners room c → HasParts c
new_kept m units learners room c is formed h = subst HasParts (sym h.rest) (record {
  machine = is;
  canonical = All-nil (Canonical m);
  distinct = λ i j d l k. absurd (omega arith);
  fores = new_fores_kept m 0 units c.fores formed h.fores;
  room = omega arith;
  queued = All-nil WellFormedPair;
  held = All-weaker (λ o. o ≡ None) HoldsFormed (λ o e. subst HoldsFormed (sym e) tt) c.held h.none_held;
})

pub new_list_kept : (m : Machine) (units : List (List (List PlainBlock))) (learners room : ℕ) (c d : PlainCore)
    (es : List PlainEvent) → IsMachine m → All (All IsFormedCode) units → IsNewCore m units learners room c
    → All BringsCanonical es → LeadsTo c es d → HasParts d
new_list_kept m units learners room c d es is formed new b l =
    kept_list c d es b (new_kept m units learners room c is formed new) l

-- The scans of codes, one after the other: whatever starts the codes to come, all are begun

abbrev pub FreshSoFar : List (List PlainBlock) → List Scan → List (List PlainBlock) → Type 0
FreshSoFar codes scans rest = (ts : List Scan) → AreFresh rest ts → AreFresh codes (scans ++ ts)

pub fresh_more : (codes : List (List PlainBlock)) (scans : List Scan) (c : List PlainBlock) (s : Scan)
    (rest more : List (List PlainBlock))
    → rest ≡ c ∷ more → IsPassStart c s → FreshSoFar codes scans rest → FreshSoFar codes (scans ++ s ∷ []) more
fresh_more codes scans c s rest more e p h = λ ts f. subst (AreFresh codes) (sym (append_assoc scans (s ∷ []) ts))
    (h (s ∷ ts) (subst (λ cs. AreFresh cs (s ∷ ts)) (sym e) (p, f)))

pub fresh_all : (codes : List (List PlainBlock)) (scans : List Scan) (rest : List (List PlainBlock)) → rest ≡ []
    → FreshSoFar codes scans rest → AreFresh codes scans
fresh_all codes scans rest e h =
    subst (AreFresh codes) (append-nil scans) (h [] (subst (λ cs. AreFresh cs []) (sym e) tt))

-- the next of these, and the others
pub drop_item : {A B : Type 0} (v : A → B) (xs : List A) (i : ℕ) (x : A) → i < length xs → x ≡ get_or xs i x
    → map v (drop i xs) ≡ v x ∷ map v (drop (i + 1) xs)
drop_item v xs i x h e = ap (map v) (drop_more xs i x h ∙ ap (λ y. y ∷ drop (i + 1) xs) (sym e))

pub scans_none : (codes : List Code) (scans : List ScanState) → scans ≡ []
    → FreshSoFar (map code_of codes) (map scan_of scans) (map code_of codes)
scans_none codes scans e = λ ts f. subst (λ ss. AreFresh (map code_of codes) (map scan_of ss ++ ts)) (sym e) f

pub scans_more : (codes : List Code) (i : ℕ) (c : Code) (scans ss : List ScanState) (s : ScanState) → i < length codes
    → c ≡ get_or codes i c → ss ≡ scans ++ s ∷ [] → IsPassStart (code_of c) (scan_of s)
    → FreshSoFar (map code_of codes) (map scan_of scans) (map code_of (drop i codes))
    → FreshSoFar (map code_of codes) (map scan_of ss) (map code_of (drop (i + 1) codes))
scans_more codes i c scans ss s h is e p f =
    subst (λ xs. FreshSoFar (map code_of codes) xs (map code_of (drop (i + 1) codes)))
    (sym (ap (map scan_of) e ∙ map-append scan_of scans (s ∷ [])))
    (fresh_more (map code_of codes) (map scan_of scans) (code_of c) (scan_of s) (map code_of (drop i codes))
    (map code_of (drop (i + 1) codes)) (drop_item code_of codes i c h is) p f)

pub scans_all : (codes : List Code) (i : ℕ) (scans : List ScanState) → length codes ≤ i
    → FreshSoFar (map code_of codes) (map scan_of scans) (map code_of (drop i codes))
    → AreFresh (map code_of codes) (map scan_of scans)
scans_all codes i scans h f =
    fresh_all (map code_of codes) (map scan_of scans) (map code_of (drop i codes))
    (ap (map code_of) (drop_all i codes h)) f

-- one of the codes that are formed is formed
pub item_formed : (codes : List Code) (i : ℕ) (c : Code) → i < length codes → c ≡ get_or codes i c
    → All IsFormedCode (map code_of codes) → IsFormedCode (code_of c)
item_formed codes i c h e a = subst (λ d. IsFormedCode (code_of d)) (sym e)
    (All-get_or (λ d. IsFormedCode (code_of d)) codes i c h (all_plain code_of IsFormedCode codes a))

-- and so the foregrounds of lists of codes

abbrev pub NewSoFar : List (List (List PlainBlock)) → List PlainFore → List (List (List PlainBlock)) → Type 0
NewSoFar units fores rest = (gs : List PlainFore) → AreNewFores rest gs → AreNewFores units (fores ++ gs)

pub new_more : (units : List (List (List PlainBlock))) (fores : List PlainFore) (u : List (List PlainBlock))
    (f : PlainFore)
    (rest more : List (List (List PlainBlock))) → rest ≡ u ∷ more → IsNewFore u f → NewSoFar units fores rest
    → NewSoFar units (fores ++ f ∷ []) more
new_more units fores u f rest more e n h = λ gs a. subst (AreNewFores units) (sym (append_assoc fores (f ∷ []) gs))
    (h (f ∷ gs) (subst (λ us. AreNewFores us (f ∷ gs)) (sym e) (n, a)))

pub new_all : (units : List (List (List PlainBlock))) (fores : List PlainFore) (rest : List (List (List PlainBlock)))
    → rest ≡ []
    → NewSoFar units fores rest → AreNewFores units fores
new_all units fores rest e h =
    subst (AreNewFores units) (append-nil fores) (h [] (subst (λ us. AreNewFores us []) (sym e) tt))

pub fores_none : (units : List (Vec Code)) (rest : List (Vec Code)) (fores : List Fore) → rest ≡ units → fores ≡ []
    → NewSoFar (map codes_of units) (map fore_of fores) (map codes_of rest)
fores_none units rest fores r e = λ gs a. subst (λ fs. AreNewFores (map codes_of units) (map fore_of fs ++ gs)) (sym e)
    (subst (λ us. AreNewFores (map codes_of us) gs) r a)

pub fores_more : (units : List (Vec Code)) (rest more : List (Vec Code)) (u : Vec Code) (fores fs : List Fore)
    (f : Fore)
    → rest ≡ u ∷ more → fs ≡ fores ++ f ∷ [] → IsNewFore (codes_of u) (fore_of f)
    → NewSoFar (map codes_of units) (map fore_of fores) (map codes_of rest)
    → NewSoFar (map codes_of units) (map fore_of fs) (map codes_of more)
fores_more units rest more u fores fs f r e n h =
    subst (λ xs. NewSoFar (map codes_of units) xs (map codes_of more))
    (sym (ap (map fore_of) e ∙ map-append fore_of fores (f ∷ [])))
    (new_more (map codes_of units) (map fore_of fores) (codes_of u) (fore_of f) (map codes_of rest) (map codes_of more)
    (ap (map codes_of) r) n h)

pub fores_all : (units : List (Vec Code)) (rest : List (Vec Code)) (fores : List Fore) → rest ≡ []
    → NewSoFar (map codes_of units) (map fore_of fores) (map codes_of rest)
    → AreNewFores (map codes_of units) (map fore_of fores)
fores_all units rest fores r h = new_all (map codes_of units) (map fore_of fores) (map codes_of rest)
    (ap (map codes_of) r) h

pub first_formed : (rest more : List (Vec Code)) (u : Vec Code) → rest ≡ u ∷ more
    → All (All IsFormedCode) (map codes_of rest)
    → All IsFormedCode (codes_of u)
first_formed rest more u r a =
    All-head (All IsFormedCode) (codes_of u) (map codes_of more)
    (subst (λ us. All (All IsFormedCode) (map codes_of us)) r a)

pub others_formed : (rest more : List (Vec Code)) (u : Vec Code) → rest ≡ u ∷ more
    → All (All IsFormedCode) (map codes_of rest)
    → All (All IsFormedCode) (map codes_of more)
others_formed rest more u r a =
    All-tail (All IsFormedCode) (codes_of u) (map codes_of more)
    (subst (λ us. All (All IsFormedCode) (map codes_of us)) r a)
