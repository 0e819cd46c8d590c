-- Each move keeps the rule of the queue.
use Rattle.std.proofs.Common.{◌≡◌, ℕ, ◌+◌, ◌-◌, ◌<◌, ◌≢◌, List, [], ◌∷◌, ◌++◌, set, sym, refl, ap, ◌∙◌, ⊎_elim, arith}
use Rattle.std.specs.List.{sum_by}
use Rattle.std.proofs.lemmas.List.Sums.{sum_by-append, sum_by_push, sum_by-cons}
use mathlib.Core.Option.{some, some-ne-none}
use lib.ListN.{get_elem?}
use Rattle.crossbeam_queue.specs.Fifo.{Pushes, Pops, Forks, Merges, Learns}
use Rattle.crossbeam_queue.proofs.Lists.{at_set}
use Rattle.po_queue.specs.declared.balance.Account.{Account}
use Rattle.po_queue.specs.Balance.{account, all_parts, Balanced, MomentOf}
use Rattle.po_queue.proofs.Totals.{total_set, All, all_set, all_snoc, alone}

module _ {T : Type 0} where
  abbrev Idle : Account T → Type 0
  Idle v = v.parts ≡ 0 → (v.put ≡ []) × (v.taken ≡ [])

  pub begins : Balanced [] (account {T = T} all_parts [] [] ∷ [])
  begins = (
    refl,
    (λ h. refl),
    all_snoc Idle [] (account all_parts [] []) (λ z. (refl, refl))
        (λ j u e. absurd (some-ne-none u (sym e))),
  )

  pub puts : (n port : ℕ) (v : Account T) (x : T) → 0 < v.parts
      → Pushes Balanced n port v x (λ w. w ≡ account v.parts (v.put ++ x ∷ []) v.taken)
  puts n port v x some_part items views room b at =
      let w : Account T = account v.parts (v.put ++ x ∷ []) v.taken in (
        w,
        (
          (let s = total_set (λ (u : Account T). u.parts) views port v w at in let p = b.0 in omega arith),
          (λ h.
              let s = total_set (λ (u : Account T). sum_by h u.put) views port v w at in
              let t = total_set (λ (u : Account T). sum_by h u.taken) views port v w at in
              let p = b.1 h in
              omega (arith, sum_by_push h v.put x, sum_by_push h items x)),
          all_set Idle views port w (λ z. absurd (omega arith)) b.2,
        ),
        refl,
      )

  pub takes : (port : ℕ) (v : Account T) → 0 < v.parts
      → Pops Balanced port v (λ x w. w ≡ account v.parts v.put (v.taken ++ x ∷ []))
  takes port v some_part x items views b at =
      let w : Account T = account v.parts v.put (v.taken ++ x ∷ []) in (
        w,
        (
          (let s = total_set (λ (u : Account T). u.parts) views port v w at in let p = b.0 in omega arith),
          (λ h.
              let s = total_set (λ (u : Account T). sum_by h u.put) views port v w at in
              let t = total_set (λ (u : Account T). sum_by h u.taken) views port v w at in
              let p = b.1 h in
              omega (arith, sum_by_push h v.taken x, sum_by-cons h x items)),
          all_set Idle views port w (λ z. absurd (omega arith)) b.2,
        ),
        refl,
      )

  pub forks : (port : ℕ) (v : Account T) → 1 < v.parts
      → Forks Balanced port v (account (v.parts - 1) v.put v.taken) (account 1 [] [])
  forks port v many items views b at =
      let l : Account T = account (v.parts - 1) v.put v.taken in
      let r : Account T = account 1 [] [] in
      let vs : List (Account T) = set views port l in (
        (let s = total_set (λ (u : Account T). u.parts) views port v l at in let p = b.0 in
            omega (arith, sum_by_push (λ (u : Account T). u.parts) vs r)),
        (λ h.
            let s = total_set (λ (u : Account T). sum_by h u.put) views port v l at in
            let t = total_set (λ (u : Account T). sum_by h u.taken) views port v l at in
            let p = b.1 h in
            omega (
              arith,
              sum_by_push (λ (u : Account T). sum_by h u.put) vs r,
              sum_by_push (λ (u : Account T). sum_by h u.taken) vs r,
            )),
        all_snoc Idle vs r (λ z. (refl, refl)) (all_set Idle views port l (λ z. absurd (omega arith)) b.2),
      )

  pub merges : (port : ℕ) (v : Account T) (other : ℕ) (w : Account T) → 0 < v.parts
      → Merges Balanced port v other w (account (v.parts + w.parts) (v.put ++ w.put) (v.taken ++ w.taken))
      (account 0 [] [])
  merges port v other w some_part items views b at two at' =
      let both : Account T = account (v.parts + w.parts) (v.put ++ w.put) (v.taken ++ w.taken) in
      let spent : Account T = account 0 [] [] in
      let vs : List (Account T) = set views port both in (
        (let s = total_set (λ (u : Account T). u.parts) views port v both at in
            let s' = total_set (λ (u : Account T). u.parts) vs other w spent at' in let p = b.0 in omega arith),
        (λ h.
            let s = total_set (λ (u : Account T). sum_by h u.put) views port v both at in
            let t = total_set (λ (u : Account T). sum_by h u.taken) views port v both at in
            let s' = total_set (λ (u : Account T). sum_by h u.put) vs other w spent at' in
            let t' = total_set (λ (u : Account T). sum_by h u.taken) vs other w spent at' in
            let p = b.1 h in
            omega (arith, sum_by-append h v.put w.put, sum_by-append h v.taken w.taken)),
        all_set Idle vs other spent (λ z. (refl, refl)) (all_set Idle views port both (λ z. absurd (omega arith)) b.2),
      )

  -- the state itself is the moment
  pub moments : (port : ℕ) (v : Account T) → Learns Balanced port v (MomentOf v)
  moments port v items views b at = (views, port, at, b)

  -- the pass with every part knows what the queue held
  pub settles : (v : Account T) (items : List T) → v.parts ≡ all_parts → MomentOf v items
      → (h : T → ℕ) → sum_by h v.put ≡ sum_by h v.taken + sum_by h items
  settles v items whole (views, port, at, b) h =
      let p = b.1 h in
      let all : sum_by (λ (u : Account T). u.parts) views ≡ v.parts = b.0 ∙ sym whole in
      let s = alone (λ (u : Account T). u.parts) (λ (u : Account T). sum_by h u.put) views port v at
      (λ j u e z. ap (sum_by h) (b.2 j u e z).0) all in
      let t = alone (λ (u : Account T). u.parts) (λ (u : Account T). sum_by h u.taken) views port v at
      (λ j u e z. ap (sum_by h) (b.2 j u e z).1) all in
      omega arith
