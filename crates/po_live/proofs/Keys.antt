-- Registers as keys of a set.
use Rattle.std.proofs.Common.{◌≡◌, ℕ, ◌+◌, ◌<◌, Bool, true, false, List, [], ◌∷◌, length, take, slice_index_or, refl}
use Rattle.std.proofs.Common.{sym, ◌∙◌, ap, arith}
use Rattle.std.specs.Prelude.{◌||◌, cond}
use Rattle.std.specs.List.{list_any}
use Rattle.std.specs.Ordering.{is_eq, nat_cmp}
use Rattle.std.proofs.Common.{◌==◌}
use Rattle.std.proofs.lemmas.List.Folds.{list_any_more}
use Rattle.std.proofs.lemmas.Bool.Decides.{nat_tests}
use Rattle.std.specs.BTreeSet.{BTreeSet, Updates}
use Rattle.std.specs.BTreeMap.{is_at}
use Rattle.po_term.specs.declared.term.Reg.{Reg as Register}
use Rattle.po_term.specs.declared.term.Reg.TheVariants.{Virt, Fp, Rv, Arg}
use Rattle.po_term.specs.Simplified.{reg_eq}
use Rattle.po_model.specs.declared.var.Var.{Var}
use Rattle.po_model.specs.declared.var.Var.TheVariants.{Reg, Cc}
use Rattle.po_model.specs.LiveSets.{holds as in_set}
use Rattle.po_live.specs.declared.sets.LiveVars.{LiveVars}
use Rattle.po_live.specs.Sets.{has_reg, holds}
use Rattle.po_term.specs.contracts.term.RegOrd.TheImpl.{cmp-value}

nat_key : (m n : ℕ) → is_eq (nat_cmp m n) ≡ (m == n)
nat_key m n = grind (arith, nat_tests)

pub key_eq : (a b : Register) → is_eq (cmp-value.it a b) ≡ reg_eq a b
key_eq (Virt m) (Virt n) = nat_key m n
key_eq (Virt m) Fp = refl
key_eq (Virt m) Rv = refl
key_eq (Virt m) (Arg n) = refl
key_eq Fp (Virt n) = refl
key_eq Fp Fp = refl
key_eq Fp Rv = refl
key_eq Fp (Arg n) = refl
key_eq Rv (Virt n) = refl
key_eq Rv Fp = refl
key_eq Rv Rv = refl
key_eq Rv (Arg n) = refl
key_eq (Arg m) (Virt n) = refl
key_eq (Arg m) Fp = refl
key_eq (Arg m) Rv = refl
key_eq (Arg m) (Arg n) = nat_key m n

any_key : (q : Register) (ks : List Register) → list_any (is_at (cmp-value.it q)) ks ≡ list_any (reg_eq q) ks
any_key q [] = refl
any_key q (k ∷ ks) = rw (key_eq q k, any_key q ks)

-- what a set has after r is put in
pub key_put : (r : Register) (s n : BTreeSet Register) → Updates cmp-value.it s n r true → (q : Register)
    → list_any (reg_eq q) n.keys ≡ (reg_eq r q || list_any (reg_eq q) s.keys)
key_put r s n u q =
    sym (any_key q n.keys) ∙ u.0 q ∙ ap (λ b. cond b true (list_any (is_at (cmp-value.it q)) s.keys)) (key_eq r q)
    ∙ in_or (reg_eq r q) ∙ ap (λ b. reg_eq r q || b) (any_key q s.keys)
  where
    in_or : (b : Bool)
        → cond b true (list_any (is_at (cmp-value.it q)) s.keys) ≡ (b || list_any (is_at (cmp-value.it q)) s.keys)
    in_or true = refl
    in_or false = refl

or_comm : (a b : Bool) → (a || b) ≡ (b || a)
or_comm true true = refl
or_comm true false = refl
or_comm false true = refl
or_comm false false = refl

-- the keys of one more register of a list
pub keys_more : (rs : List Register) (i : ℕ) (r : Register) (s n : BTreeSet Register) → i < length rs
    → r ≡ slice_index_or rs i r
    → ((q : Register) → list_any (reg_eq q) n.keys ≡ (reg_eq r q || list_any (reg_eq q) s.keys))
    → ((q : Register) → list_any (reg_eq q) s.keys ≡ has_reg (take i rs) q) → (q : Register)
    → list_any (reg_eq q) n.keys ≡ has_reg (take (i + 1) rs) q
keys_more rs i r s n h e p was q =
    p q ∙ ap (λ b. reg_eq r q || b) (was q) ∙ or_comm (reg_eq r q) (has_reg (take i rs) q)
    ∙ ap (λ k. has_reg (take i rs) q || reg_eq k q) e ∙ sym (list_any_more (λ k. reg_eq k q) rs i r h)

pub set_holds : (s : BTreeSet Register) (l : LiveVars)
    → ((q : Register) → list_any (reg_eq q) s.keys ≡ has_reg l.regs.items q) → (q : Var)
    → in_set (record { regs = s; cc = l.cc }) q ≡ holds l q
set_holds s l e (Reg r) = e r
set_holds s l e Cc = refl
