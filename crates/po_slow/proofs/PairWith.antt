-- The pair of the last done instruction and the next one: it is well formed, and it tells what is live after the next
-- one.
use Rattle.std.proofs.Common.{◌≡◌, ℕ, Bool, true, false, List, [], ◌∷◌, Some, Ordering, Less, Equal, Greater, refl}
use Rattle.std.proofs.Common.{sym, ap, ◌∙◌, arith}
use Rattle.std.specs.Prelude.{All, IsTrue, is_some, ◌||◌, ◌&&◌, ◌==◌, if◌then◌else◌}
use Rattle.std.specs.List.{list_any}
use Rattle.std.specs.Ordering.{is_eq, nat_cmp, match_ordering}
use Rattle.std.specs.BTreeSet.{insert_key}
use Rattle.std.proofs.lemmas.Bool.{false≢true}
use Rattle.std.proofs.lemmas.Bool.Decides.{nat_tests}
use Rattle.std.proofs.lemmas.List.Elements.{All-nil}
use Rattle.std.proofs.lemmas.Map.Views.{All-insert_key}
use Rattle.po_term.specs.declared.term.Reg.{Reg as Register}
use Rattle.po_term.specs.declared.term.Reg.TheVariants.{Virt, Fp, Rv, Arg}
use Rattle.po_term.specs.contracts.term.RegOrd.TheImpl.{cmp-value}
use Rattle.po_term.specs.Terms.{InReg}
use Rattle.po_term.specs.Moves.{SetTo, CcTo, StoreTo, Ends, PlainInstr}
use Rattle.po_term.specs.Form.{WellFormed}
use Rattle.po_term.specs.Simplified.{reg_eq}
use Rattle.po_model.specs.declared.var.Var.{Var}
use Rattle.po_model.specs.declared.var.Var.TheVariants.{Reg}
use Rattle.po_model.specs.Parts.{code_leaves, right_at}
use Rattle.po_model.specs.Pairs.{is_live_after, is_set_in, WellFormedPair}
use Rattle.po_model.specs.Scanned.{Ahead, put_live, pair_with}
use Rattle.po_subst.proofs.Agreeing.{one_register, reg_self}
use Rattle.po_subst.proofs.Reading.{left_true, right_true}
use Rattle.po_slow.specs.KeepsEffect.{IsLiveAfter}

nat_key : (m n : ℕ) → is_eq (nat_cmp m n) ≡ (m == n)
nat_key m n = grind (arith, nat_tests)

key_eq : (a b : Register) → is_eq (cmp-value.it a b) ≡ reg_eq a b
key_eq (Virt m) (Virt n) = nat_key m n
key_eq (Virt m) Fp = refl
key_eq (Virt m) Rv = refl
key_eq (Virt m) (Arg n) = refl
key_eq Fp (Virt n) = refl
key_eq Fp Fp = refl
key_eq Fp Rv = refl
key_eq Fp (Arg n) = refl
key_eq Rv (Virt n) = refl
key_eq Rv Fp = refl
key_eq Rv Rv = refl
key_eq Rv (Arg n) = refl
key_eq (Arg m) (Virt n) = refl
key_eq (Arg m) Fp = refl
key_eq (Arg m) Rv = refl
key_eq (Arg m) (Arg n) = nat_key m n

or_moved : (x y z : Bool) → (x || (y || z)) ≡ (y || (x || z))
or_moved true true z = refl
or_moved true false z = refl
or_moved false y z = refl

or_again : (x z : Bool) → (x || z) ≡ (x || (x || z))
or_again true z = refl
or_again false z = refl

-- a set of registers with one more
any_put : (r q : Register) (rs : List Register)
    → list_any (reg_eq r) (insert_key cmp-value.it rs q) ≡ (reg_eq r q || list_any (reg_eq r) rs)
any_put r q [] = refl
any_put r q (x ∷ xs) = go (cmp-value.it q x) refl (any_put r q xs)
  where
    go : (o : Ordering) → cmp-value.it q x ≡ o
        → list_any (reg_eq r) (insert_key cmp-value.it xs q) ≡ (reg_eq r q || list_any (reg_eq r) xs)
        → list_any (reg_eq r) (match_ordering o (q ∷ x ∷ xs) (x ∷ xs) (x ∷ insert_key cmp-value.it xs q))
        ≡ (reg_eq r q || (reg_eq r x || list_any (reg_eq r) xs))
    go Less e ih = refl
    go Equal e ih =
        let same : q ≡ x = one_register q x (sym (key_eq q x) ∙ ap is_eq e) in
        rw (same) (or_again (reg_eq r x) (list_any (reg_eq r) xs))
    go Greater e ih = ap (λ b. reg_eq r x || b) ih ∙ or_moved (reg_eq r x) (reg_eq r q) (list_any (reg_eq r) xs)

-- which registers an instruction sets
is_set_more : (r q : Register) (t : _) (ms : PlainInstr)
    → is_set_in (SetTo q t ∷ ms) r ≡ (reg_eq r q || is_set_in ms r)
is_set_more r q t ms = go (reg_eq r q)
  where
    go : (c : Bool) → is_some (if c then Some t else right_at code_leaves (InReg r) ms) ≡ (c || is_set_in ms r)
    go true = refl
    go false = refl

-- registers, with those that an instruction sets and that are live
any_live : (live : Var → Bool) (r : Register) (ms : PlainInstr) (rs : List Register)
    → list_any (reg_eq r) (put_live live ms rs) ≡ (list_any (reg_eq r) rs || (is_set_in ms r && live (Reg r)))
any_live live r [] rs = or_nothing (list_any (reg_eq r) rs)
  where
    or_nothing : (x : Bool) → x ≡ (x || false)
    or_nothing true = refl
    or_nothing false = refl
any_live live r (SetTo q t ∷ ms) rs =
    any_live live r ms (if live (Reg q) then insert_key cmp-value.it rs q else rs)
    ∙ go (reg_eq r q) refl (live (Reg q)) refl
    ∙ ap (λ b. list_any (reg_eq r) rs || (b && live (Reg r))) (sym (is_set_more r q t ms))
  where
    here : (l x s : Bool) → ((if l then true else x) || (s && l)) ≡ (x || l)
    here true true s = refl
    here true false s = refl
    here false x true = refl
    here false x false = refl

    go : (c : Bool) → reg_eq r q ≡ c → (l : Bool) → live (Reg q) ≡ l
        → (list_any (reg_eq r) (if l then insert_key cmp-value.it rs q else rs) || (is_set_in ms r && live (Reg r)))
        ≡ (list_any (reg_eq r) rs || ((reg_eq r q || is_set_in ms r) && live (Reg r)))
    go true e true f =
        let g : live (Reg r) ≡ true = ap (λ (x : Register). live (Reg x)) (one_register r q e) ∙ f in
        rw (any_put r q rs, e, g) (here true (list_any (reg_eq r) rs) (is_set_in ms r))
    go true e false f =
        let g : live (Reg r) ≡ false = ap (λ (x : Register). live (Reg x)) (one_register r q e) ∙ f in
        rw (e, g) (here false (list_any (reg_eq r) rs) (is_set_in ms r))
    go false e true f = rw (any_put r q rs, e) refl
    go false e false f = rw (e) refl
any_live live r (CcTo t u ∷ ms) rs = any_live live r ms rs
any_live live r (StoreTo t u ∷ ms) rs = any_live live r ms rs
any_live live r (Ends e ∷ ms) rs = any_live live r ms rs

-- a fact of these registers, and of those that an instruction sets
all_live : (Q : Register → Type 0) (live : Var → Bool) (ms : PlainInstr) (rs : List Register) → All Q rs
    → ((r : Register) → is_set_in ms r ≡ true → Q r) → All Q (put_live live ms rs)
all_live Q live [] rs h f = h
all_live Q live (SetTo q t ∷ ms) rs h f =
    all_live Q live ms (if live (Reg q) then insert_key cmp-value.it rs q else rs) (go (live (Reg q)))
    (λ r e. f r (is_set_more r q t ms ∙ right_true (reg_eq r q) (is_set_in ms r) e))
  where
    go : (l : Bool) → All Q (if l then insert_key cmp-value.it rs q else rs)
    go true =
        All-insert_key cmp-value.it q Q rs h
        (f q (is_set_more q q t ms ∙ left_true (reg_eq q q) (is_set_in ms q) (reg_self q)))
    go false = h
all_live Q live (CcTo t u ∷ ms) rs h f = all_live Q live ms rs h f
all_live Q live (StoreTo t u ∷ ms) rs h f = all_live Q live ms rs h f
all_live Q live (Ends e ∷ ms) rs h f = all_live Q live ms rs h f

abbrev SetByEither : PlainInstr → PlainInstr → Register → Type 0
SetByEither a b r = IsTrue (is_set_in a r || is_set_in b r)

pub pair_formed : (d : PlainInstr) (x : Ahead) → WellFormed d → WellFormed x.instr → WellFormedPair (pair_with d x)
pair_formed d x h i = record {
  first = h;
  second = i;
  set = all_live (SetByEither d x.instr) x.live x.instr (put_live x.live d [])
      (all_live (SetByEither d x.instr) x.live d [] (All-nil (SetByEither d x.instr))
      (λ r e. left_true (is_set_in d r) (is_set_in x.instr r) e))
      (λ r e. right_true (is_set_in d r) (is_set_in x.instr r) e);
}

pub pair_tells : (d : PlainInstr) (x : Ahead) → IsLiveAfter (pair_with d x) x.live
pair_tells d x = record {
  regs =
      λ r e. sym (any_live x.live r x.instr (put_live x.live d [])
      ∙ ap (λ b. b || (is_set_in x.instr r && x.live (Reg r))) (any_live x.live r d [])
      ∙ both (is_set_in d r) (is_set_in x.instr r) (x.live (Reg r)) e);
  cc = refl;
}
  where
    both : (a b l : Bool) → (a || b) ≡ true → ((a && l) || (b && l)) ≡ l
    both true true true e = refl
    both true true false e = refl
    both true false true e = refl
    both true false false e = refl
    both false true l e = refl
    both false false l e = absurd (false≢true e)

-- what the pair names as live, one of the two sets
pub pair_names : (d : PlainInstr) (x : Ahead) (r : Register) → is_live_after (pair_with d x) r ≡ true
    → (is_set_in d r || is_set_in x.instr r) ≡ true
pair_names d x r e =
    some (is_set_in d r) (is_set_in x.instr r) (x.live (Reg r))
    (sym (any_live x.live r x.instr (put_live x.live d [])
    ∙ ap (λ b. b || (is_set_in x.instr r && x.live (Reg r))) (any_live x.live r d [])) ∙ e)
  where
    some : (a b l : Bool) → ((a && l) || (b && l)) ≡ true → (a || b) ≡ true
    some true b l e = refl
    some false true l e = refl
    some false false l e = e
