-- What the list of an entry's transfers keeps, as each next one is taken: the form of instructions.
use Rattle.std.proofs.Common.{◌≡◌, ◌<◌, ◌≤◌, ◌&&◌, Bool, true, false, not, nat_lt, List, [], ◌∷◌, ◌++◌, length, All}
use Rattle.std.proofs.Common.{AllPairs, refl, sym, ◌∙◌, subst, arith, ltb-true, eq-eqb, zero-le}
use Rattle.std.specs.List.{list_all}
use Rattle.std.proofs.lemmas.Bool.{and_parts}
use Rattle.std.proofs.lemmas.List.{map-append, length-append, length-map}
use Rattle.std.proofs.lemmas.List.Elements.{All-map, All-push, All-weaker, All-nil}
use Rattle.std.proofs.lemmas.List.Sums.{AllPass-from_list_all}
use Rattle.std.proofs.lemmas.List.Quantifiers.{all_pairs_push}
use Rattle.po_term.specs.declared.term.Reg.{Reg}
use Rattle.po_term.specs.declared.term.Reg.TheVariants.{Virt, Fp, Rv, Arg}
use Rattle.po_term.specs.Simplified.{reg_eq}
use Rattle.po_model.specs.declared.machine.PatReg.{PatReg}
use Rattle.po_model.specs.declared.machine.PatReg.TheVariants.{Any, Fixed}
use Rattle.po_model.specs.declared.machine.PatCond.TheVariants as cond
use Rattle.po_model.specs.declared.machine.PatTransfer.{PatTransfer}
use Rattle.po_model.specs.declared.machine.PatTransfer.TheVariants as transfer
use Rattle.po_model.specs.Patterns.{PatMove, pat_move_of, pat_moves_of}
use Rattle.po_model.specs.Entries.{kind_of, Sets, GoesBefore}
use Rattle.po_entry.specs.ListRules.{order_of, same_register, sets, goes_before, may_follow}

kind_is : (m : PatTransfer) → kind_of (pat_move_of m) ≡ order_of m
kind_is (transfer.Set r t) = refl
kind_is (transfer.Cc t u) = refl
kind_is (transfer.Store t u) = refl
kind_is (transfer.Goto k) = refl
kind_is (transfer.If cond.Cc r k) = refl
kind_is (transfer.If (cond.Two t u) r k) = refl
kind_is (transfer.Call k) = refl
kind_is transfer.Ret = refl

-- only a set sets a register
only_sets : (m : PatTransfer) (q : PatReg) → Sets q (pat_move_of m) → order_of m ≡ 0
only_sets (transfer.Set r t) q h = refl
only_sets (transfer.Cc t u) q h = absurd h
only_sets (transfer.Store t u) q h = absurd h
only_sets (transfer.Goto k) q h = absurd h
only_sets (transfer.If cond.Cc r k) q h = absurd h
only_sets (transfer.If (cond.Two t u) r k) q h = absurd h
only_sets (transfer.Call k) q h = absurd h
only_sets transfer.Ret q h = absurd h

reg_self : (r : Reg) → reg_eq r r ≡ true
reg_self (Virt n) = eq-eqb n n refl
reg_self Fp = refl
reg_self Rv = refl
reg_self (Arg n) = eq-eqb n n refl

same_self : (r : PatReg) → same_register r r ≡ true
same_self (Any k) = eq-eqb k k refl
same_self (Fixed r) = reg_self r

refuted : (b : Bool) → b ≡ true → not b ≡ true → ⊥
refuted true e h = cc
refuted false e h = cc

-- a transfer that sets a register sets it by the test too
set_apart : (r q : PatReg) (m : PatTransfer) → not (sets r m) ≡ true → r ≡ q → Sets q (pat_move_of m) → ⊥
set_apart r q (transfer.Set s t) e h k =
    let same : s ≡ r = k ∙ sym h in
    refuted (same_register s r) (subst (λ (x : PatReg). same_register s x ≡ true) same (same_self s)) e
set_apart r q (transfer.Cc t u) e h k = k
set_apart r q (transfer.Store t u) e h k = k
set_apart r q (transfer.Goto j) e h k = k
set_apart r q (transfer.If cond.Cc s j) e h k = k
set_apart r q (transfer.If (cond.Two t u) s j) e h k = k
set_apart r q (transfer.Call j) e h k = k
set_apart r q transfer.Ret e h k = k

-- the kinds differ
later : (n m : PatTransfer) → 0 < order_of n → order_of n < order_of m → GoesBefore (pat_move_of n) (pat_move_of m)
later n m h k = record {
  in_order = omega (arith, kind_is n, kind_is m);
  once = λ e. absurd (omega (arith, kind_is n, kind_is m, e));
  apart = λ q s t. absurd (omega (arith, only_sets n q s));
}

follows : (n m : PatTransfer) → goes_before n m ≡ true → GoesBefore (pat_move_of n) (pat_move_of m)
follows (transfer.Set r t) m e = record {
  in_order = zero-le;
  once = λ h. refl;
  apart = λ q h k. set_apart r q m e h k;
}
follows (transfer.Cc t u) m e = later (transfer.Cc t u) m (omega arith) (ltb-true _ _ e)
follows (transfer.Store t u) m e = later (transfer.Store t u) m (omega arith) (ltb-true _ _ e)
follows (transfer.Goto k) m e = later (transfer.Goto k) m (omega arith) (ltb-true _ _ e)
follows (transfer.If c r k) m e = later (transfer.If c r k) m (omega arith) (ltb-true _ _ e)
follows (transfer.Call k) m e = later (transfer.Call k) m (omega arith) (ltb-true _ _ e)
follows transfer.Ret m e = later transfer.Ret m (omega arith) (ltb-true _ _ e)

-- it doesn't set `fp`
abbrev pub LeavesFp : PatMove → Type 0
LeavesFp m = Sets (Fixed Fp) m → ⊥

-- the form of a list of transfers
pub record Listed (ms : List PatMove) : Type 0 where
  pub few : length ms ≤ 4
  pub pairs : AllPairs GoesBefore ms
  pub free : All LeavesFp ms

pub none_listed : Listed []
none_listed = record { few = omega arith; pairs = λ i j d h k. absurd (omega (arith, k)); free = All-nil LeavesFp }

pub moves_push : (before : List PatTransfer) (m : PatTransfer) → pat_moves_of (before ++ m ∷ []) ≡ pat_moves_of before
    ++ pat_move_of m ∷ []
moves_push before m = map-append pat_move_of before (m ∷ [])

-- one transfer more
pub listed_on : (before : List PatTransfer) (m : PatTransfer) → may_follow before m ≡ true
    → Listed (pat_moves_of before) → Listed (pat_moves_of (before ++ m ∷ []))
unfolding may_follow
listed_on before m e h =
    let parts = and_parts (nat_lt (length before) 4 && not (sets (Fixed Fp) m))
    (list_all (λ n. goes_before n m) before) e in
    let first = and_parts (nat_lt (length before) 4) (not (sets (Fixed Fp) m)) parts.0 in
    let room : length before < 4 = ltb-true _ _ first.0 in
    let each = All-map (λ n. GoesBefore n (pat_move_of m)) pat_move_of before
    (All-weaker (λ n. goes_before n m ≡ true) (λ n. GoesBefore (pat_move_of n) (pat_move_of m))
    (λ n g. follows n m g) before (AllPass-from_list_all (λ n. goes_before n m) before parts.1)) in
    subst (λ (ms : List PatMove). Listed ms) (sym (moves_push before m)) (record {
      few = simp (length-append, length-map) (omega arith);
      pairs = all_pairs_push GoesBefore (pat_moves_of before) (pat_move_of m) h.pairs each;
      free = All-push LeavesFp (pat_moves_of before) (pat_move_of m) h.free
          (λ s. set_apart (Fixed Fp) (Fixed Fp) m first.1 refl s);
    })
