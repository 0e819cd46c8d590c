-- Each move keeps the rule of the count.
use Rattle.std.proofs.Common.{◌≡◌, ℕ, ◌+◌, ◌-◌, ◌<◌, ◌≤◌, ◌≢◌, Bool, true, false, List, [], ◌∷◌, ◌++◌, set}
use Rattle.std.proofs.Common.{slice_index, if◌then◌else◌, max, nat_eq, sym, refl, ap, ◌∙◌, subst, ⊎_elim, arith}
use Rattle.std.specs.List.{sum_by}
use Rattle.std.proofs.lemmas.List.Sums.{sum_by-append, sum_by_push, sum_by-cons}
use mathlib.Core.Option.{some, some-ne-none}
use lib.ListN.{get_elem?}
use lib.Pointwise.{pointwise, bytes_decides}
use Rattle.crossbeam_utils.specs.Register.{Turns, TurnsAt, Forks, Merges}
use Rattle.atomic_table.proofs.Lists.{at_set}
use Rattle.po_queue.specs.declared.count.Tally.{Tally}
use Rattle.po_queue.specs.Balance.{all_parts}
use Rattle.po_queue.specs.Count.{tally_of, Fits, Counted, Told, Seen, Audited}
use Rattle.po_queue.proofs.Totals.{total_set, part_of, All, all_set, all_snoc, alone}

pub begins : Counted (0 ∷ []) (tally_of all_parts 0 0 ∷ [])
begins = (
  refl,
  refl,
  all_snoc (Fits 0) [] (tally_of all_parts 0 0) (omega arith, λ z. refl) (λ j u e. absurd (some-ne-none u (sym e))),
)

raised : (n m : ℕ) → n ≤ m → (views : List Tally) → All (Fits n) views → All (Fits m) views
raised n m up views all j u e = let f = all j u e in (omega arith, f.1)

-- a step that leaves the value x or adds 1 to it
pub tells_at : (port : ℕ) (v : Tally) (x y : List ℕ) → 0 < v.parts → slice_index x 0 ≤ slice_index y 0
    → TurnsAt Counted port v x y Told
tells_at port v x y some_part up views b at =
    let n : ℕ = slice_index x 0 in
    let m : ℕ = slice_index y 0 in
    let w : Tally = tally_of v.parts (v.told + (m - n)) v.seen in
    let mine = b.2 port v at in (
      w,
      (
        (let s = total_set (λ (u : Tally). u.parts) views port v w at in let p = b.0 in omega arith),
        (let s = total_set (λ (u : Tally). u.told) views port v w at in let p = b.1 in omega arith),
        all_set (Fits m) views port w (omega arith, λ z. absurd (omega arith)) (raised n m up views b.2),
      ),
      refl,
    )

exchanged_up : (n : ℕ) (x : List ℕ) → slice_index x 0
    ≤ slice_index (if pointwise nat_eq x (n ∷ []) then ((n + 1) ∷ []) else x) 0
exchanged_up n x = go (pointwise nat_eq x (n ∷ [])) refl
  where
    go : (b : Bool) → pointwise nat_eq x (n ∷ []) ≡ b → slice_index x 0
        ≤ slice_index (if b then ((n + 1) ∷ []) else x) 0
    go true e = subst (λ (z : List ℕ). slice_index z 0 ≤ n + 1) (sym ((bytes_decides x (n ∷ [])).0 e)) (omega arith)
    go false e = omega arith

pub tells : (port : ℕ) (v : Tally) (n : ℕ) → 0 < v.parts
    → Turns Counted port v (λ x. if pointwise nat_eq x (n ∷ []) then ((n + 1) ∷ []) else x) Told
tells port v n some_part x = tells_at port v x (if pointwise nat_eq x (n ∷ []) then ((n + 1) ∷ []) else x) some_part
    (exchanged_up n x)

pub looks : (port : ℕ) (v : Tally) → 0 < v.parts → Turns Counted port v (λ x. x) Seen
looks port v some_part x views b at =
    let n : ℕ = slice_index x 0 in
    let w : Tally = tally_of v.parts v.told n in (
      w,
      (
        (let s = total_set (λ (u : Tally). u.parts) views port v w at in let p = b.0 in omega arith),
        (let s = total_set (λ (u : Tally). u.told) views port v w at in let p = b.1 in omega arith),
        all_set (Fits n) views port w (omega arith, λ z. absurd (omega arith)) b.2,
      ),
      ((b.2 port v at).0, refl),
    )

pub audits : (port : ℕ) (v : Tally) → Turns Counted port v (λ x. x) Audited
audits port v x views b at =
    let n : ℕ = slice_index x 0 in (
      v,
      (
        (let s = total_set (λ (u : Tally). u.parts) views port v v at in let p = b.0 in omega arith),
        (let s = total_set (λ (u : Tally). u.told) views port v v at in let p = b.1 in omega arith),
        all_set (Fits n) views port v (b.2 port v at) b.2,
      ),
      (
        refl,
        (b.2 port v at).0,
        (λ whole.
            let all : sum_by (λ (u : Tally). u.parts) views ≡ v.parts = b.0 ∙ sym whole in
            let t = alone (λ (u : Tally). u.parts) (λ (u : Tally). u.told) views port v at
            (λ j u e. (b.2 j u e).1) all in
            let p = b.1 in omega arith),
      ),
    )

pub forks : (port : ℕ) (v : Tally) → 1 < v.parts
    → Forks Counted port v (tally_of (v.parts - 1) v.told v.seen) (tally_of 1 0 0)
forks port v many x views b at =
    let n : ℕ = slice_index x 0 in
    let l : Tally = tally_of (v.parts - 1) v.told v.seen in
    let r : Tally = tally_of 1 0 0 in
    let vs : List Tally = set views port l in (
      (let s = total_set (λ (u : Tally). u.parts) views port v l at in let p = b.0 in
          omega (arith, sum_by_push (λ (u : Tally). u.parts) vs r)),
      (let s = total_set (λ (u : Tally). u.told) views port v l at in let p = b.1 in
          omega (arith, sum_by_push (λ (u : Tally). u.told) vs r)),
      all_snoc (Fits n) vs r (omega arith, λ z. refl)
          (all_set (Fits n) views port l ((b.2 port v at).0, λ z. absurd (omega arith)) b.2),
    )

pub wholes : (port : ℕ) (v : Tally) → Forks Counted port v (tally_of 0 0 0) v
wholes port v x views b at =
    let n : ℕ = slice_index x 0 in
    let l : Tally = tally_of 0 0 0 in
    let vs : List Tally = set views port l in (
      (let s = total_set (λ (u : Tally). u.parts) views port v l at in let p = b.0 in
          omega (arith, sum_by_push (λ (u : Tally). u.parts) vs v)),
      (let s = total_set (λ (u : Tally). u.told) views port v l at in let p = b.1 in
          omega (arith, sum_by_push (λ (u : Tally). u.told) vs v)),
      all_snoc (Fits n) vs v (b.2 port v at) (all_set (Fits n) views port l (omega arith, λ z. refl) b.2),
    )

pub merges : (port : ℕ) (v : Tally) (other : ℕ) (w : Tally) → 0 < v.parts
    → Merges Counted port v other w (tally_of (v.parts + w.parts) (v.told + w.told) (max v.seen w.seen))
    (tally_of 0 0 0)
merges port v other w some_part x views b at two at' =
    let n : ℕ = slice_index x 0 in
    let both : Tally = tally_of (v.parts + w.parts) (v.told + w.told) (max v.seen w.seen) in
    let spent : Tally = tally_of 0 0 0 in
    let vs : List Tally = set views port both in
    let mine = b.2 port v at in
    let was : get_elem? views other ≡ some w
    = ⊎_elim (λ (t : (other ≡ port) × (both ≡ w)). absurd (two t.0))
    (λ (t : (other ≢ port) × (get_elem? views other ≡ some w)). t.1) (at_set views port other both w at') in
    let theirs = b.2 other w was in (
      (let s = total_set (λ (u : Tally). u.parts) views port v both at in
          let s' = total_set (λ (u : Tally). u.parts) vs other w spent at' in let p = b.0 in omega arith),
      (let s = total_set (λ (u : Tally). u.told) views port v both at in
          let s' = total_set (λ (u : Tally). u.told) vs other w spent at' in let p = b.1 in omega arith),
      all_set (Fits n) vs other spent (omega arith, λ z. refl)
          (all_set (Fits n) views port both (omega arith, λ z. absurd (omega arith)) b.2),
    )
