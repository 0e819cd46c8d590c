-- What a description allows of an entry's list of transfers, the reader lets stand there.
use Rattle.std.proofs.Common.{◌≡◌, ℕ, ◌+◌, ◌<◌, ◌≤◌, Bool, true, false, not, nat_lt, List, [], ◌∷◌, ◌++◌, length}
use Rattle.std.proofs.Common.{length-append, get_or, map, All, AllPairs, refl, sym}
use Rattle.std.proofs.Common.{ap, ◌∙◌, subst, arith, eqb-true}
use Rattle.std.specs.List.{list_all}
use Rattle.std.proofs.lemmas.Bool.Decides.{nat_tests}
use Rattle.std.proofs.lemmas.List.{length-map}
use Rattle.std.proofs.lemmas.List.Elements.{All-head, All-tail}
use Rattle.std.proofs.Math.ListN.{get_or-append}
use Rattle.std.proofs.Math.Seq.{get_or-append_seam}
use Rattle.po_term.specs.declared.term.Reg.{Reg}
use Rattle.po_term.specs.declared.term.Reg.TheVariants.{Virt, Fp, Rv, Arg}
use Rattle.po_term.specs.Simplified.{reg_eq}
use Rattle.po_model.specs.declared.machine.PatReg.{PatReg}
use Rattle.po_model.specs.declared.machine.PatReg.TheVariants.{Any, Fixed}
use Rattle.po_model.specs.Patterns.{PatTree, PatMove, SetsTo, Compares, Stores, Jumps, Branches, BranchesOn, Calls}
use Rattle.po_model.specs.Patterns.{Returns}
use Rattle.po_model.specs.Entries.{kind_of, GoesBefore, IsPatMove}
use Rattle.po_entry.specs.ListRules.{order_of, same_register, sets, goes_before, may_follow, transfers}
use Rattle.po_entry.proofs.AgainMoves.{back_move}

-- registers that differ

reg_is : (r s : Reg) → reg_eq r s ≡ true → r ≡ s
reg_is (Virt m) (Virt n) e = ap Virt (eqb-true m n e)
reg_is (Virt m) Fp e = cc
reg_is (Virt m) Rv e = cc
reg_is (Virt m) (Arg n) e = cc
reg_is Fp (Virt n) e = cc
reg_is Fp Fp e = refl
reg_is Fp Rv e = cc
reg_is Fp (Arg n) e = cc
reg_is Rv (Virt n) e = cc
reg_is Rv Fp e = cc
reg_is Rv Rv e = refl
reg_is Rv (Arg n) e = cc
reg_is (Arg m) (Virt n) e = cc
reg_is (Arg m) Fp e = cc
reg_is (Arg m) Rv e = cc
reg_is (Arg m) (Arg n) e = ap Arg (eqb-true m n e)

register_is : (q r : PatReg) → same_register q r ≡ true → q ≡ r
register_is (Any k) (Any l) e = ap Any (eqb-true k l e)
register_is (Any k) (Fixed s) e = cc
register_is (Fixed r) (Any l) e = cc
register_is (Fixed r) (Fixed s) e = ap Fixed (reg_is r s e)

not_same : (b : Bool) → (b ≡ true → ⊥) → not b ≡ true
not_same true h = absurd (h refl)
not_same false h = refl

-- no transfer sets `fp`
leaves_fp : (m : PatMove) → IsPatMove m → not (sets (Fixed Fp) (back_move m)) ≡ true
leaves_fp (SetsTo r t) h = not_same (same_register r (Fixed Fp)) (λ e. h.1 (register_is r (Fixed Fp) e))
leaves_fp (Compares t u) h = refl
leaves_fp (Stores t u) h = refl
leaves_fp (Jumps k) h = refl
leaves_fp (Branches r k) h = refl
leaves_fp (BranchesOn t u r k) h = refl
leaves_fp (Calls k) h = refl
leaves_fp Returns h = refl

order_back : (m : PatMove) → order_of (back_move m) ≡ kind_of m
order_back (SetsTo r t) = refl
order_back (Compares t u) = refl
order_back (Stores t u) = refl
order_back (Jumps k) = refl
order_back (Branches r k) = refl
order_back (BranchesOn t u r k) = refl
order_back (Calls k) = refl
order_back Returns = refl

later : (k l : ℕ) → k ≤ l → (k ≡ l → k ≡ 0) → 0 < k → nat_lt k l ≡ true
later k l h once some = by_test (nat_lt k l) refl
  where
    is_least : nat_lt k l ≡ false → k ≡ l
    is_least e = grind (arith, nat_tests)

    by_test : (b : Bool) → nat_lt k l ≡ b → b ≡ true
    by_test true e = refl
    by_test false e = let none : k ≡ 0 = once (is_least e) in absurd (omega (arith, none, some))

kind_later : (m n : PatMove) (k : ℕ) → GoesBefore m n → kind_of m ≡ k → 0 < k → nat_lt k (order_of (back_move n))
    ≡ true
kind_later m n k h e some =
    let low = h.in_order in
    let is : order_of (back_move n) ≡ kind_of n = order_back n in
    rw is (later k (kind_of n) (omega (arith, low, e)) (λ f. sym e ∙ h.once (e ∙ f)) some)

set_before : (r : PatReg) (t : PatTree) (n : PatMove) → GoesBefore (SetsTo r t) n → not (sets r (back_move n)) ≡ true
set_before r t (SetsTo q u) h = not_same (same_register q r) (λ e. h.apart r refl (register_is q r e))
set_before r t (Compares v u) h = refl
set_before r t (Stores v u) h = refl
set_before r t (Jumps k) h = refl
set_before r t (Branches s k) h = refl
set_before r t (BranchesOn v u s k) h = refl
set_before r t (Calls k) h = refl
set_before r t Returns h = refl

goes_again : (m n : PatMove) → GoesBefore m n → goes_before (back_move m) (back_move n) ≡ true
goes_again (SetsTo r t) n h = set_before r t n h
goes_again (Compares t u) n h = kind_later (Compares t u) n 1 h refl (omega arith)
goes_again (Stores t u) n h = kind_later (Stores t u) n 2 h refl (omega arith)
goes_again (Jumps k) n h = kind_later (Jumps k) n 3 h refl (omega arith)
goes_again (Branches r k) n h = kind_later (Branches r k) n 3 h refl (omega arith)
goes_again (BranchesOn t u r k) n h = kind_later (BranchesOn t u r k) n 3 h refl (omega arith)
goes_again (Calls k) n h = kind_later (Calls k) n 3 h refl (omega arith)
goes_again Returns n h = kind_later Returns n 3 h refl (omega arith)

all_go : (bs : List PatMove) (m : PatMove) → All (λ b. GoesBefore b m) bs
    → list_all (λ n. goes_before n (back_move m)) (map back_move bs) ≡ true
all_go [] m h = refl
all_go (b ∷ bs) m h =
    let first = goes_again b m (All-head (λ x. GoesBefore x m) b bs h) in
    let rest = all_go bs m (All-tail (λ x. GoesBefore x m) b bs h) in
    rw (first, rest) refl

pub may_again : (bs : List PatMove) (m : PatMove) → length bs < 4 → IsPatMove m → All (λ b. GoesBefore b m) bs
    → may_follow (map back_move bs) (back_move m) ≡ true
unfolding may_follow
may_again bs m few h before =
    let long : length (map back_move bs) ≡ length bs = length-map bs back_move in
    let room : nat_lt (length bs) 4 ≡ true = grind (arith, nat_tests) in
    let fp : not (sets (Fixed Fp) (back_move m)) ≡ true = leaves_fp m h in
    let all = all_go bs m before in
    rw (long, room, fp, all) refl

-- those before a transfer
pub before_it : (bs ms : List PatMove) (m : PatMove) → AllPairs GoesBefore (bs ++ m ∷ ms)
    → All (λ b. GoesBefore b m) bs
before_it bs ms m pairs = λ i d l.
    let long = length-append bs (m ∷ ms) in
    let found : GoesBefore (get_or (bs ++ m ∷ ms) i d) (get_or (bs ++ m ∷ ms) (length bs) d) =
    pairs i (length bs) d l (omega (arith, long)) in
    let first : get_or (bs ++ m ∷ ms) i d ≡ get_or bs i d = get_or-append bs (m ∷ ms) d i l in
    let second : get_or (bs ++ m ∷ ms) (length bs) d ≡ m = get_or-append_seam bs m ms d in
    subst (λ (x : PatMove). GoesBefore x m) first (subst (λ (x : PatMove). GoesBefore (get_or (bs ++ m ∷ ms) i d) x)
    second found)
