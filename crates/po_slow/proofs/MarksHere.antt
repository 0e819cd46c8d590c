-- The marks of a block as its instructions are written.
use Rattle.std.proofs.Common.{◌≡◌, ℕ, zero, suc, ◌+◌, ◌-◌, ◌<◌, ◌≤◌, Bool, List, [], ◌∷◌, length, reverse, take}
use Rattle.std.proofs.Common.{drop, set, get_or, Option, Some, None, refl, sym, ◌∙◌, ap, subst, arith}
use Rattle.std.specs.Prelude.{IfSome}
use Rattle.std.proofs.lemmas.List.{length-map, map-set, get_or-map, get_or_default}
use Rattle.po_term.specs.declared.transfer.Instr.{Instr}
use Rattle.po_term.specs.Moves.{instr_of, instrs_of}
use Rattle.po_model.specs.declared.machine.Machine.{Machine}
use Rattle.po_model.specs.declared.var.Var.{Var}
use Rattle.po_model.specs.Combined.{Answer, Kept, combination}
use Rattle.po_model.specs.Scanned.{pair_with, ready, instrs_ahead}
use Rattle.po_slow.specs.declared.mark.Mark.{Mark}
use Rattle.po_slow.specs.States.{stand_at, on, take_next, IsAnswer}
use Rattle.po_slow.specs.Marks.{Fits, Says, AreTrue}
use Rattle.po_slow.proofs.Standing.{take_stand, done_at, ahead_at}
use Rattle.po_slow.proofs.Marks.{kept_says, marked_kept, take_true}

-- An instruction that is put further down

-- the instruction at the place i stands at the place j, and something else at i
abbrev pub IsMoved : List Instr → ℕ → ℕ → List Instr → Type 0
IsMoved xs i j ws = (left x : Instr) × (x ≡ get_or xs i x) × (ws ≡ set (set xs i left) j x)

pub moved_down : (xs : List Instr) (i j : ℕ) (x : Instr) (ys : List Instr) → x ≡ get_or xs i x
    → (left : Instr) × (ys ≡ set xs i left) → IsMoved xs i j (set ys j x)
moved_down xs i j x ys e (left, f) = (left, x, e, ap (λ l. set l j x) f)

still_here : (xs : List Instr) (i : ℕ) → i < length xs → IsMoved xs i i xs
still_here [] i h = absurd (omega arith)
still_here (z ∷ zs) zero h = (z, z, refl, refl)
still_here (z ∷ zs) (suc i) h = more (still_here zs i (omega arith))
  where
    more : IsMoved zs i i zs → IsMoved (z ∷ zs) (suc i) (suc i) (z ∷ zs)
    more (left, x, e, f) = (left, x, e, ap (λ l. z ∷ l) f)

pub stays_there : (xs : List Instr) (i j : ℕ) → i < length xs → i ≡ j → IsMoved xs i j xs
stays_there xs i j h e = subst (λ k. IsMoved xs i k xs) e (still_here xs i h)

pub take_moved : (live : ℕ → Var → Bool) (xs ws : List Instr) (done next : ℕ) (changed : Bool) → done ≤ next
    → next < length xs → IsMoved xs next done ws
    → stand_at (instrs_of ws) live (done + 1) (next + 1) changed
    ≡ on take_next (stand_at (instrs_of xs) live done next changed)
take_moved live xs ws done next changed o h (left, x, e, f) =
    ap (λ l. stand_at (instrs_of l) live (done + 1) (next + 1) changed) f
    ∙ take_stand live xs (set xs next left) x done next changed o h e (left, refl)

-- an instruction of a list, among the plain ones
there : (xs : List Instr) (i : ℕ) (x : Instr) → i < length xs → x ≡ get_or xs i x
    → instr_of x ≡ get_or (instrs_of xs) i []
there xs i x h e = ap instr_of e ∙ sym (get_or-map instr_of xs i x [] h)

pub marks_moved : (m : Machine) (xs ws : List Instr) (ks : List (Option Mark)) (done next : ℕ) (mark : Option Mark)
    → done ≤ next → next < length xs → IsMoved xs next done ws
    → (0 < done → Says m (get_or (instrs_of xs) (done - 1) []) (get_or (instrs_of xs) next []) mark)
    → AreTrue m (instrs_of xs) ks done next → AreTrue m (instrs_of ws) (set ks done mark) (done + 1) (next + 1)
marks_moved m xs ws ks done next mark o h (left, x, e, f) says t =
    let ps = instrs_of xs in
    let p : instr_of x ≡ get_or ps next [] = there xs next x h e in
    let q : instrs_of ws ≡ set (set ps next (instr_of left)) done (get_or ps next []) =
    ap instrs_of f ∙ (map-set instr_of (set xs next left) done x
    ∙ (λ i. set (map-set instr_of xs next left i) done (p i))) in
    subst (λ l. AreTrue m l (set ks done mark) (done + 1) (next + 1)) (sym q)
    (take_true m ps ks done next o t (instr_of left) mark (omega (arith, h, length-map xs instr_of)) says)

-- The pair that is ready

pub fits_there : (live other : Var → Bool) (xs : List Instr) (done next : ℕ) (d x : Instr) (mark : Option Mark)
    → 0 < done → done ≤ next → next < length xs → d ≡ get_or xs (done - 1) d → x ≡ get_or xs next x → live ≡ other
    → IfSome mark (λ k. Fits k live (instr_of d) (instr_of x))
    → IfSome mark (λ k. Fits k other (get_or (instrs_of xs) (done - 1) []) (get_or (instrs_of xs) next []))
fits_there live other xs done next d x mark some o h d_is x_is l f =
    let p = there xs (done - 1) d (omega (arith, some, o, h)) d_is in
    let q = there xs next x h x_is in
    subst (λ v. IfSome mark (λ k. Fits k v (get_or (instrs_of xs) (done - 1) []) (get_or (instrs_of xs) next []))) l
    (subst (λ y. IfSome mark (λ k. Fits k live y (get_or (instrs_of xs) next []))) p
    (subst (λ y. IfSome mark (λ k. Fits k live (instr_of d) y)) q f))

-- its two instructions
record IsPairAt (live : ℕ → Var → Bool) (xs : List Instr) (done next : ℕ) : Type 0 where
  pub ready_is : ready (reverse (take done (instrs_of xs))) (instrs_ahead live next (drop next (instrs_of xs)))
      ≡ Some (pair_with (get_or (instrs_of xs) (done - 1) [])
      (record { instr = get_or (instrs_of xs) next []; live = live next }))

pair_at : (live : ℕ → Var → Bool) (xs : List Instr) (done next : ℕ) → 0 < done → done ≤ next → next < length xs
    → IsPairAt live xs done next
pair_at live [] done next s o h = absurd (omega (arith, h))
pair_at live (z ∷ zs) done next s o h =
    let xs = z ∷ zs in
    let last = get_or xs (done - 1) z in
    let first = get_or xs next z in
    let inside : done - 1 < length xs = omega (arith, s, o, h) in
    let last_is : last ≡ get_or xs (done - 1) last = get_or_default xs (done - 1) z last inside in
    let first_is : first ≡ get_or xs next first = get_or_default xs next z first h in
    let ds = done_at xs (done - 1) done last (omega (arith, s)) inside last_is in
    let rs = ahead_at live xs next first h first_is in
    let p = there xs (done - 1) last inside last_is in
    let q = there xs next first h first_is in
    record {
      ready_is =
          (λ i. ready (ds i) (rs i)) ∙ (λ i. Some (pair_with (p i) (record { instr = q i; live = live next })));
    }

pub marked_answer : (m : Machine) (live : ℕ → Var → Bool) (xs : List Instr) (ks : List (Option Mark)) (done next : ℕ)
    (mark : Option Mark) → 0 < done → done ≤ next → next < length xs
    → IfSome mark (λ k. Fits k (live next) (get_or (instrs_of xs) (done - 1) []) (get_or (instrs_of xs) next []))
    → AreTrue m (instrs_of xs) ks done next → (k : Mark) × (mark ≡ Some k) × (get_or ks next None ≡ Some k)
    → IsAnswer m (ready (reverse (take done (instrs_of xs))) (instrs_ahead live next (drop next (instrs_of xs)))) Kept
marked_answer m live xs ks done next mark s o h f t (k, e, g) =
    let kept = marked_kept m (get_or (instrs_of xs) (done - 1) []) (get_or (instrs_of xs) next []) (live next)
    (get_or ks next None) mark k f e g (t.here s (omega (arith, h, length-map xs instr_of))) in
    subst (λ p. IsAnswer m p Kept) (sym (pair_at live xs done next s o h).ready_is) (sym kept)

pub answered_says : (m : Machine) (live : ℕ → Var → Bool) (xs : List Instr) (done next : ℕ) (mark : Option Mark)
    (answer : Answer) → 0 < done → done ≤ next → next < length xs
    → IfSome mark (λ k. Fits k (live next) (get_or (instrs_of xs) (done - 1) []) (get_or (instrs_of xs) next []))
    → IsAnswer m (ready (reverse (take done (instrs_of xs))) (instrs_ahead live next (drop next (instrs_of xs)))) answer
    → answer ≡ Kept → Says m (get_or (instrs_of xs) (done - 1) []) (get_or (instrs_of xs) next []) mark
answered_says m live xs done next mark answer s o h f a e =
    let is : answer ≡ combination m (pair_with (get_or (instrs_of xs) (done - 1) [])
    (record { instr = get_or (instrs_of xs) next []; live = live next }))
    = subst (λ p. IsAnswer m p answer) (pair_at live xs done next s o h).ready_is a in
    kept_says m (get_or (instrs_of xs) (done - 1) []) (get_or (instrs_of xs) next []) (live next) mark f (sym is ∙ e)
