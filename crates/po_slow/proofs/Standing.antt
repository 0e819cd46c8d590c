-- How the place of the scan of a block moves as instructions are written and counted.
use Rattle.std.proofs.Common.{◌≡◌, ℕ, ◌+◌, ◌-◌, ◌<◌, ◌≤◌, Bool, true, false, List, [], ◌∷◌, length, reverse, take}
use Rattle.std.proofs.Common.{drop, set, get_or, Some, refl, sym, ◌∙◌, ap, arith, add-one}
use Rattle.std.proofs.lemmas.List.{length-set, length-map, map-set}
use Rattle.std.proofs.lemmas.List.{take-set-le, take_more_set, take_more, drop-set-lt, drop-set, drop_more, get_or-map}
use Rattle.std.proofs.lemmas.List.{get_or_default, reverse-append}
use Rattle.po_term.specs.declared.term.Reg.{Reg as Register}
use Rattle.po_term.specs.declared.transfer.Instr.{Instr}
use Rattle.po_term.specs.Moves.{instr_of, instrs_of, PlainInstr}
use Rattle.po_model.specs.declared.var.Var.{Var}
use Rattle.po_live.specs.declared.parts.LiveAt.{LiveAt}
use Rattle.po_live.specs.Parts.{live_in}
use Rattle.po_model.specs.declared.pair.Pair.{Pair}
use Rattle.po_model.specs.Pairs.{PlainPair, pair_of}
use Rattle.po_model.specs.Combined.{Gone, AsOne}
use Rattle.po_model.specs.Scanned.{Ahead, Stand, is_dead, put_live, pair_with, ready, instrs_ahead, onward, settled}
use Rattle.po_slow.specs.States.{stand_at, on, take_next}

-- the instructions to come, with the next one
pub ahead_more : (live : ℕ → Var → Bool) (xs : List PlainInstr) (next : ℕ) (x : PlainInstr) → next < length xs
    → x ≡ get_or xs next x
    → instrs_ahead live next (drop next xs)
    ≡ record { instr = x; live = live next } ∷ instrs_ahead live (next + 1) (drop (next + 1) xs)
ahead_more live xs next x h e =
    ap (instrs_ahead live next) (drop_more xs next x h ∙ ap (λ y. y ∷ drop (next + 1) xs) (sym e))
    ∙ ap (λ n. record { instr = x; live = live next } ∷ instrs_ahead live n (drop (next + 1) xs))
    (sym (add-one next))

-- the instructions that are done, with one more
pub done_more : (xs : List PlainInstr) (done : ℕ) (x : PlainInstr) → done < length xs
    → reverse (take (done + 1) (set xs done x)) ≡ x ∷ reverse (take done xs)
done_more xs done x h = ap reverse (take_more_set xs done x h) ∙ reverse-append (take done xs) (x ∷ [])

-- two lists that stand for one place
pub same_stand : {ds es : List PlainInstr} {rs ss : List Ahead} {b c : Bool} → ds ≡ es → rs ≡ ss → b ≡ c
    → (f : List PlainInstr → List Ahead → Bool → Stand) → f ds rs b ≡ f es ss c
same_stand d r b f = rw (d, r, b) refl

-- the next instruction is taken from its place and put behind those that are done
take_plain : (live : ℕ → Var → Bool) (xs : List PlainInstr) (e x : PlainInstr) (done next : ℕ) (changed : Bool)
    → done ≤ next → next < length xs → x ≡ get_or xs next x
    → stand_at (set (set xs next e) done x) live (done + 1) (next + 1) changed
    ≡ on take_next (stand_at xs live done next changed)
take_plain live xs e x done next changed o h g =
    let d : reverse (take (done + 1) (set (set xs next e) done x)) ≡ x ∷ reverse (take done xs) =
    done_more (set xs next e) done x (omega (arith, length-set xs next e))
    ∙ ap (λ ys. x ∷ reverse ys) (take-set-le done xs next e o) in
    let r : drop (next + 1) (set (set xs next e) done x) ≡ drop (next + 1) xs =
    drop-set-lt (next + 1) (set xs next e) done x (omega arith) ∙ drop-set-lt (next + 1) xs next e (omega arith) in
    same_stand d (ap (instrs_ahead live (next + 1)) r) refl (λ ds rs b. record { done = ds; rest = rs; changed = b })
    ∙ sym (ap (λ rs. take_next (reverse (take done xs)) rs changed) (ahead_more live xs next x h g))

pub take_stand : (live : ℕ → Var → Bool) (xs ys : List Instr) (x : Instr) (done next : ℕ) (changed : Bool)
    → done ≤ next → next < length xs → x ≡ get_or xs next x → (e : Instr) × (ys ≡ set xs next e)
    → stand_at (instrs_of (set ys done x)) live (done + 1) (next + 1) changed
    ≡ on take_next (stand_at (instrs_of xs) live done next changed)
take_stand live xs ys x done next changed o h g (e, i) =
    ap (λ ys. stand_at ys live (done + 1) (next + 1) changed)
    (ap (λ ys. instrs_of (set ys done x)) i
    ∙ (map-set instr_of (set xs next e) done x ∙ ap (λ ys. set ys done (instr_of x)) (map-set instr_of xs next e)))
    ∙ take_plain live (instrs_of xs) (instr_of e) (instr_of x) done next changed o
    (omega (arith, length-map xs instr_of)) (ap instr_of g ∙ sym (get_or-map instr_of xs next x (instr_of x) h))

-- the same, read off the instructions of a block
pub ahead_at : (live : ℕ → Var → Bool) (xs : List Instr) (next : ℕ) (x : Instr) → next < length xs
    → x ≡ get_or xs next x
    → instrs_ahead live next (drop next (instrs_of xs))
    ≡ record { instr = instr_of x; live = live next }
    ∷ instrs_ahead live (next + 1) (drop (next + 1) (instrs_of xs))
ahead_at live xs next x h e =
    ahead_more live (instrs_of xs) next (instr_of x) (omega (arith, length-map xs instr_of))
    (ap instr_of e ∙ sym (get_or-map instr_of xs next x (instr_of x) h))

-- the last one that is done
pub done_at : (xs : List Instr) (last done : ℕ) (d : Instr) → done ≡ last + 1 → last < length xs → d ≡ get_or xs last d
    → reverse (take done (instrs_of xs)) ≡ instr_of d ∷ reverse (take last (instrs_of xs))
done_at xs last done d n h e =
    ap (λ k. reverse (take k (instrs_of xs))) n
    ∙ (ap reverse (take_more (instrs_of xs) last (instr_of d) (omega (arith, length-map xs instr_of)))
    ∙ reverse-append (take last (instrs_of xs)) (get_or (instrs_of xs) last (instr_of d) ∷ []))
    ∙ ap (λ y. y ∷ reverse (take last (instrs_of xs)))
    (get_or-map instr_of xs last d (instr_of d) h ∙ sym (ap instr_of e))

-- On to the next pair

onward_dead : (done : List PlainInstr) (x : Ahead) (xs : List Ahead) (changed : Bool) → is_dead x.live x.instr ≡ true
    → onward done (x ∷ xs) changed ≡ onward done xs true
onward_dead [] x xs changed h = rw h refl
onward_dead (d ∷ ds) x xs changed h = rw h refl

onward_first : (x : Ahead) (xs : List Ahead) (changed : Bool) → is_dead x.live x.instr ≡ false
    → onward [] (x ∷ xs) changed ≡ onward (x.instr ∷ []) xs changed
onward_first x xs changed h = rw h refl

onward_here : (d : PlainInstr) (ds : List PlainInstr) (x : Ahead) (xs : List Ahead) (changed : Bool)
    → is_dead x.live x.instr ≡ false
    → onward (d ∷ ds) (x ∷ xs) changed ≡ record { done = d ∷ ds; rest = x ∷ xs; changed = changed }
onward_here d ds x xs changed h = rw h refl

-- a dead instruction is dropped
pub dead_stand : (live : ℕ → Var → Bool) (xs : List Instr) (x : Instr) (done next : ℕ) (changed : Bool)
    → next < length xs → x ≡ get_or xs next x → is_dead (live next) (instr_of x) ≡ true
    → on onward (stand_at (instrs_of xs) live done (next + 1) true)
    ≡ on onward (stand_at (instrs_of xs) live done next changed)
dead_stand live xs x done next changed h e dead =
    let ds = reverse (take done (instrs_of xs)) in
    sym (ap (λ rs. onward ds rs changed) (ahead_at live xs next x h e)
    ∙ onward_dead ds (record { instr = instr_of x; live = live next })
    (instrs_ahead live (next + 1) (drop (next + 1) (instrs_of xs))) changed dead)

-- one with none before it is done
pub first_stand : (live : ℕ → Var → Bool) (xs : List Instr) (x : Instr) (done next : ℕ) (changed : Bool) (s : Stand)
    → next < length xs → x ≡ get_or xs next x → is_dead (live next) (instr_of x) ≡ false → done ≡ 0
    → s ≡ on take_next (stand_at (instrs_of xs) live done next changed)
    → on onward s ≡ on onward (stand_at (instrs_of xs) live done next changed)
first_stand live xs x done next changed s h e alive zero_done i =
    let rs = instrs_ahead live (next + 1) (drop (next + 1) (instrs_of xs)) in
    let y : Ahead = record { instr = instr_of x; live = live next } in
    let d : reverse (take done (instrs_of xs)) ≡ [] = ap (λ n. reverse (take n (instrs_of xs))) zero_done in
    let r = ahead_at live xs next x h e in
    ap (on onward) (i ∙ same_stand d r refl take_next)
    ∙ sym (same_stand d r refl onward ∙ onward_first y rs changed alive)

-- a pair is ready
pub here_stand : (live : ℕ → Var → Bool) (xs : List Instr) (x : Instr) (done next : ℕ) (changed : Bool)
    → next < length xs → x ≡ get_or xs next x → is_dead (live next) (instr_of x) ≡ false → 0 < done → done ≤ next
    → stand_at (instrs_of xs) live done next changed ≡ on onward (stand_at (instrs_of xs) live done next changed)
here_stand live xs x done next changed h e alive some o =
    let rs = instrs_ahead live (next + 1) (drop (next + 1) (instrs_of xs)) in
    let y : Ahead = record { instr = instr_of x; live = live next } in
    let last = get_or xs (done - 1) x in
    let d =
    done_at xs (done - 1) done last (omega arith) (omega arith) (get_or_default xs (done - 1) x last (omega arith))
    in
    let r = ahead_at live xs next x h e in
    same_stand d r refl (λ ds rs b. record { done = ds; rest = rs; changed = b })
    ∙ sym (same_stand d r refl onward
    ∙ onward_here (instr_of last) (reverse (take (done - 1) (instrs_of xs))) y rs changed alive)

-- On from the pair that is ready

-- the instructions that are done and those to come, the pair first
record Parted (live : ℕ → Var → Bool) (xs : List Instr) (done next : ℕ) : Type 0 where
  pub last : Instr
  pub first : Instr
  pub last_is : last ≡ get_or xs (done - 1) last
  pub first_is : first ≡ get_or xs next first
  pub done_are : reverse (take done (instrs_of xs)) ≡ instr_of last ∷ reverse (take (done - 1) (instrs_of xs))
  pub rest_are : instrs_ahead live next (drop next (instrs_of xs))
      ≡ record { instr = instr_of first; live = live next }
      ∷ instrs_ahead live (next + 1) (drop (next + 1) (instrs_of xs))

parted : (live : ℕ → Var → Bool) (xs : List Instr) (done next : ℕ) → 0 < done → done ≤ next → next < length xs
    → Parted live xs done next
parted live [] done next s o h = absurd (omega arith)
parted live (z ∷ zs) done next s o h =
    let xs = z ∷ zs in
    let last = get_or xs (done - 1) z in
    let first = get_or xs next z in
    let last_is : last ≡ get_or xs (done - 1) last = get_or_default xs (done - 1) z last (omega arith) in
    let first_is : first ≡ get_or xs next first = get_or_default xs next z first h in
    record {
      last = last;
      first = first;
      last_is = last_is;
      first_is = first_is;
      done_are = done_at xs (done - 1) done last (omega arith) (omega arith) last_is;
      rest_are = ahead_at live xs next first h first_is;
    }

-- both go
pub gone_stand : (live : ℕ → Var → Bool) (xs : List Instr) (done next : ℕ) (changed : Bool) → 0 < done → done ≤ next
    → next < length xs
    → on onward (stand_at (instrs_of xs) live (done - 1) (next + 1) true)
    ≡ on (settled Gone) (stand_at (instrs_of xs) live done next changed)
gone_stand live xs done next changed some o h =
    let p = parted live xs done next some o h in
    sym (same_stand p.done_are p.rest_are refl (settled Gone))

-- one is next
pub one_stand : (live : ℕ → Var → Bool) (xs : List Instr) (i : Instr) (done next : ℕ) (changed : Bool) → 0 < done
    → done ≤ next → next < length xs
    → on onward (stand_at (instrs_of (set xs next i)) live (done - 1) next true)
    ≡ on (settled (AsOne (instr_of i))) (stand_at (instrs_of xs) live done next changed)
one_stand live xs i done next changed some o h =
    let p = parted live xs done next some o h in
    let d : take (done - 1) (set (instrs_of xs) next (instr_of i)) ≡ take (done - 1) (instrs_of xs) =
    take-set-le (done - 1) (instrs_of xs) next (instr_of i) (omega arith) in
    let n = length-map xs instr_of in
    let r : instrs_ahead live next (drop next (set (instrs_of xs) next (instr_of i)))
    ≡ record { instr = instr_of i; live = live next }
    ∷ instrs_ahead live (next + 1) (drop (next + 1) (instrs_of xs))
    = ap (instrs_ahead live next) (drop-set (instrs_of xs) next (instr_of i) (omega arith))
    ∙ ap (λ k. record { instr = instr_of i; live = live next } ∷ instrs_ahead live k (drop (next + 1) (instrs_of xs)))
    (sym (add-one next)) in
    ap (λ ys. on onward (stand_at ys live (done - 1) next true)) (map-set instr_of xs next i)
    ∙ (same_stand (ap reverse d) r refl onward
    ∙ sym (same_stand p.done_are p.rest_are refl (settled (AsOne (instr_of i)))))

-- The pair that is ready

same_pair : {a b c d : PlainInstr} {r s : List Register} {v w : Bool} → a ≡ c → b ≡ d → r ≡ s → v ≡ w
    → ◌≡◌ {A = PlainPair} (record { a = a; b = b; regs = r; cc = v }) (record { a = c; b = d; regs = s; cc = w })
same_pair e f g h = rw (e, f, g, h) refl

-- a copy of the pair
pub pair_is_ready : (live : ℕ → Var → Bool) (xs : List Instr) (done next : ℕ) (d x : Instr) (l : LiveAt) (p : Pair)
    → 0 < done → done ≤ next → next < length xs
    → d ≡ get_or xs (done - 1) d → x ≡ get_or xs next x → live_in l ≡ live next
    → instr_of p.a ≡ instr_of d → instr_of p.b ≡ instr_of x
    → p.live.regs.keys ≡ put_live (live_in l) (instr_of x) (put_live (live_in l) (instr_of d) []) → p.live.cc ≡ l.cc
    → ready (reverse (take done (instrs_of xs))) (instrs_ahead live next (drop next (instrs_of xs))) ≡ Some (pair_of p)
pair_is_ready live xs done next d x l p some o h d_is x_is l_is a b regs cc =
    let ds = done_at xs (done - 1) done d (omega arith) (omega arith) d_is in
    let rs = ahead_at live xs next x h x_is in
    let z : Ahead = record { instr = instr_of x; live = live_in l } in
    let same : pair_with (instr_of d) z ≡ pair_of p = sym (same_pair a b regs cc) in
    (λ i. ready (ds i) (rs i))
    ∙ (ap (λ lives. Some (pair_with (instr_of d) (record { instr = instr_of x; live = lives }))) (sym l_is)
    ∙ ap Some same)
