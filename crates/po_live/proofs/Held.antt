-- What is held after a register was put in or taken out.
use Rattle.std.proofs.Common.{◌≡◌, Bool, true, false, List, [], ◌∷◌, ◌++◌, refl, sym, ◌∙◌, ap}
use Rattle.std.specs.Prelude.{not, ◌||◌, ◌&&◌}
use Rattle.std.specs.List.{list_any, filter}
use Rattle.std.proofs.lemmas.Bool.{true≢false}
use Rattle.std.proofs.lemmas.List.Folds.{list_any-append}
use Rattle.po_term.specs.declared.term.Reg.{Reg as Register}
use Rattle.po_term.specs.declared.term.Reg.TheVariants.{Fp}
use Rattle.po_term.specs.Simplified.{reg_eq}
use Rattle.po_model.specs.declared.var.Var.{Var}
use Rattle.po_model.specs.declared.var.Var.TheVariants.{Reg, Cc}
use Rattle.po_live.specs.declared.sets.LiveVars.{LiveVars}
use Rattle.po_live.specs.Sets.{var_eq, is_fp, has_reg, holds}
use Rattle.po_live.proofs.Fuel.{reg_eq_true}

or_turned : (a b : Bool) → (a || (b || false)) ≡ (b || a)
or_turned true true = refl
or_turned true false = refl
or_turned false true = refl
or_turned false false = refl

-- a register that is there already
pub held_already : (l : LiveVars) (r : Register) → has_reg l.regs.items r ≡ true → (q : Var)
    → holds l q ≡ (var_eq (Reg r) q || holds l q)
held_already l r h Cc = refl
held_already l r h (Reg s) = go (reg_eq r s) refl
  where
    go : (b : Bool) → reg_eq r s ≡ b → has_reg l.regs.items s ≡ (b || has_reg l.regs.items s)
    go true e = ap (has_reg l.regs.items) (sym (reg_eq_true r s e)) ∙ h
    go false e = refl

-- one that is put behind the others
pub held_more : (l m : LiveVars) (r : Register) → m.regs.items ≡ l.regs.items ++ r ∷ [] → m.cc ≡ l.cc → (q : Var)
    → holds m q ≡ (var_eq (Reg r) q || holds l q)
held_more l m r e c Cc = c
held_more l m r e c (Reg s) =
    ap (λ rs. has_reg rs s) e ∙ list_any-append (λ k. reg_eq k s) l.regs.items (r ∷ [])
    ∙ or_turned (has_reg l.regs.items s) (reg_eq r s)

-- one that isn't there any more
others : (r q : Register) (ks : List Register)
    → has_reg (filter (λ k. not (reg_eq r k)) ks) q ≡ (not (reg_eq r q) && has_reg ks q)
others r q [] = go (reg_eq r q)
  where
    go : (b : Bool) → false ≡ (not b && false)
    go true = refl
    go false = refl
others r q (k ∷ ks) = go (reg_eq r k) refl (reg_eq r q) refl (others r q ks)
  where
    -- k stands here for another register than r
    apart : reg_eq r k ≡ false → reg_eq r q ≡ true → reg_eq k q ≡ false
    apart e f = pick (reg_eq k q) refl
      where
        pick : (b : Bool) → reg_eq k q ≡ b → b ≡ false
        pick true g = absurd (true≢false (sym (ap (reg_eq r) (reg_eq_true k q g) ∙ f) ∙ e))
        pick false g = refl

    go : (b : Bool) → reg_eq r k ≡ b → (c : Bool) → reg_eq r q ≡ c
        → has_reg (filter (λ k. not (reg_eq r k)) ks) q ≡ (not (reg_eq r q) && has_reg ks q)
        → has_reg (filter (λ k. not (reg_eq r k)) (k ∷ ks)) q ≡ (not (reg_eq r q) && (reg_eq k q || has_reg ks q))
    go true e true f ih = rw (e, f) (rw f at ih)
    go true e false f ih =
        rw (e, f) (rw f at ih ∙ sym (ap (λ b. b || has_reg ks q) (ap (λ j. reg_eq j q) (sym (reg_eq_true r k e)) ∙ f)))
    go false e true f ih =
        rw (e, f) (ap (λ b. b || has_reg (filter (λ k. not (reg_eq r k)) ks) q) (apart e f) ∙ rw f at ih)
    go false e false f ih = rw (e, f) (ap (λ b. reg_eq k q || b) (rw f at ih))

pub held_less : (l m : LiveVars) (r : Register) → m.regs.items ≡ filter (λ k. not (reg_eq r k)) l.regs.items
    → m.cc ≡ l.cc → (q : Var) → holds m q ≡ (not (var_eq (Reg r) q) && holds l q)
held_less l m r e c Cc = c
held_less l m r e c (Reg s) = ap (λ rs. has_reg rs s) e ∙ others r s l.regs.items

-- Where nothing is held but fp

none_else : (rs : List Register) (r : Register) → list_any (λ k. not (reg_eq k Fp)) rs ≡ false → reg_eq Fp r ≡ false
    → has_reg rs r ≡ false
none_else [] r h f = refl
none_else (k ∷ ks) r h f = go (reg_eq k Fp) refl h (none_else ks r)
  where
    go : (b : Bool) → reg_eq k Fp ≡ b → (not b || list_any (λ j. not (reg_eq j Fp)) ks) ≡ false
        → (list_any (λ j. not (reg_eq j Fp)) ks ≡ false → reg_eq Fp r ≡ false → has_reg ks r ≡ false)
        → (reg_eq k r || has_reg ks r) ≡ false
    go true e g ih = ap (λ b. b || has_reg ks r) (ap (λ j. reg_eq j r) (reg_eq_true k Fp e) ∙ f) ∙ ih g f
    go false e g ih = absurd (true≢false g)

pub fp_alone : (l : LiveVars) → (l.cc || list_any (λ k. not (reg_eq k Fp)) l.regs.items) ≡ false → (q : Var)
    → is_fp q ≡ false → holds l q ≡ false
fp_alone l h q f = go l.cc (list_any (λ k. not (reg_eq k Fp)) l.regs.items) refl refl h q f
  where
    go : (c b : Bool) → l.cc ≡ c → list_any (λ k. not (reg_eq k Fp)) l.regs.items ≡ b → (c || b) ≡ false → (q : Var)
        → is_fp q ≡ false → holds l q ≡ false
    go true b e g h q f = absurd (true≢false h)
    go false true e g h q f = absurd (true≢false h)
    go false false e g h (Reg r) f = none_else l.regs.items r g f
    go false false e g h Cc f = e
