-- Slow combination commutes with another choice of registers, symbols and labels.
use Rattle.std.proofs.Common.{◌≡◌, ℕ, Bool, true, false, List, [], ◌∷◌, map, refl, ap}
use Rattle.std.specs.Prelude.{◌==◌}
use Rattle.std.specs.List.{list_any}
use Rattle.std.specs.Option.{option_map}
use Rattle.std.proofs.lemmas.Bool.{eqb-true, eq-eqb}
use Rattle.po_word.specs.Exprs.{Ask, Zero, One, Ones, Pow2, Within, Same, Related}
use Rattle.po_term.specs.declared.term.Reg.{Reg as Register}
use Rattle.po_term.specs.declared.term.Reg.TheVariants.{Virt, Fp, Rv, Arg}
use Rattle.po_term.specs.declared.term.Sym.{Sym}
use Rattle.po_term.specs.Terms.{Place, InReg, AtSym}
use Rattle.po_term.specs.Kinds.{words}
use Rattle.po_term.specs.Simplified.{reg_eq, same_register}
use Rattle.po_simplify.proofs.Follows.{Carries, Alike}
use Rattle.po_model.specs.declared.machine.Machine.{Machine}
use Rattle.po_model.specs.Machines.{IsMachine}
use Rattle.po_model.specs.Parts.{code_leaves, same_place, sym_eq}
use Rattle.po_model.specs.Pairs.{PlainPair, is_live_after}
use Rattle.po_model.specs.Combined.{combination, combined}
use Rattle.po_model.specs.Put.{combination_map}
use Rattle.po_maps.proofs.Renames.{Renames}
use Rattle.po_maps.proofs.CombinedFollows.{combined-follows}
use Rattle.po_skel.specs.Renaming.{Choice, IsApart, chosen_register, chosen_symbol, chosen_label, chosen_place}
use Rattle.po_skel.specs.Renaming.{chosen_move, chosen_pair}
use Rattle.po_term.specs.Form.{IsFixed}

-- a map of numbers that keeps them apart keeps their tests
pub apart_map : (h : ℕ → ℕ) → ((x y : ℕ) → h x ≡ h y → x ≡ y) → (x y : ℕ) → (h x == h y) ≡ (x == y)
apart_map h apart x y = go (h x == h y) (x == y) refl refl
  where
    go : (b c : Bool) → (h x == h y) ≡ b → (x == y) ≡ c → b ≡ c
    go true true e i = refl
    go false false e i = refl
    go true false e i = absurd (let n : (x == y) ≡ true = eq-eqb x y (apart x y (eqb-true (h x) (h y) e)) in cc)
    go false true e i = absurd (let n : (h x == h y) ≡ true = eq-eqb (h x) (h y) (ap h (eqb-true x y i)) in cc)

words_carry : Carries words words (λ k. k)
words_carry = record { number = λ n. refl; un = λ o c. refl; bin = λ o c d. refl; log2 = λ c. refl }

words_alike : (qs : List (Ask ℕ)) → Alike words words (λ k. k) qs
words_alike [] = tt
words_alike (Zero c ∷ qs) = (refl, words_alike qs)
words_alike (One c ∷ qs) = (refl, words_alike qs)
words_alike (Ones c ∷ qs) = (refl, words_alike qs)
words_alike (Pow2 c ∷ qs) = (refl, words_alike qs)
words_alike (Within c lo hi ∷ qs) = (refl, words_alike qs)
words_alike (Same c d ∷ qs) = (refl, words_alike qs)
words_alike (Related r c d ∷ qs) = (refl, words_alike qs)

module _ (c : Choice) (apart : IsApart c) where
  pub one_register : (r q : Register) → reg_eq (chosen_register c r) (chosen_register c q) ≡ reg_eq r q
  one_register (Virt m) (Virt n) = apart_map c.register apart.registers m n
  one_register (Virt m) Fp = refl
  one_register (Virt m) Rv = refl
  one_register (Virt m) (Arg n) = refl
  one_register Fp (Virt n) = refl
  one_register Fp Fp = refl
  one_register Fp Rv = refl
  one_register Fp (Arg n) = refl
  one_register Rv (Virt n) = refl
  one_register Rv Fp = refl
  one_register Rv Rv = refl
  one_register Rv (Arg n) = refl
  one_register (Arg m) (Virt n) = refl
  one_register (Arg m) Fp = refl
  one_register (Arg m) Rv = refl
  one_register (Arg m) (Arg n) = refl

  pub one_symbol : (s t : Sym) → sym_eq (chosen_symbol c s) (chosen_symbol c t) ≡ sym_eq s t
  one_symbol s t = apart_map c.symbol apart.symbols s.0 t.0

  same_registers : (p q : Place) → same_register (chosen_place c p) (chosen_place c q) ≡ same_register p q
  same_registers (InReg r) (InReg q) = one_register r q
  same_registers (InReg r) (AtSym t) = refl
  same_registers (AtSym s) (InReg q) = refl
  same_registers (AtSym s) (AtSym t) = refl

  same_places : (p q : Place) → same_place (chosen_place c p) (chosen_place c q) ≡ same_place p q
  same_places (InReg r) (InReg q) = one_register r q
  same_places (InReg r) (AtSym t) = refl
  same_places (AtSym s) (InReg q) = refl
  same_places (AtSym s) (AtSym t) = one_symbol s t

  register_there : (p : Place)
      → code_leaves.register (chosen_place c p) ≡ option_map (chosen_register c) (code_leaves.register p)
  register_there (InReg r) = refl
  register_there (AtSym s) = refl

  symbol_there : (p : Place)
      → code_leaves.symbol (chosen_place c p) ≡ option_map (chosen_symbol c) (code_leaves.symbol p)
  symbol_there (InReg r) = refl
  symbol_there (AtSym s) = refl

  stays_fixed : (q : Register) → IsFixed q → (r : Register) → reg_eq q (chosen_register c r) ≡ reg_eq q r
  stays_fixed (Virt n) h r = absurd h
  stays_fixed Fp h (Virt n) = refl
  stays_fixed Fp h Fp = refl
  stays_fixed Fp h Rv = refl
  stays_fixed Fp h (Arg n) = refl
  stays_fixed Rv h (Virt n) = refl
  stays_fixed Rv h Fp = refl
  stays_fixed Rv h Rv = refl
  stays_fixed Rv h (Arg n) = refl
  stays_fixed (Arg m) h (Virt n) = refl
  stays_fixed (Arg m) h Fp = refl
  stays_fixed (Arg m) h Rv = refl
  stays_fixed (Arg m) h (Arg n) = refl

  renames : Renames (chosen_place c) (chosen_register c) (chosen_symbol c) (chosen_label c) code_leaves code_leaves
  renames = record {
    same_register = same_registers;
    same_leaf = same_places;
    in_register = λ r. refl;
    register = register_there;
    symbol = symbol_there;
    is_fixed = stays_fixed;
    register_eq = one_register;
    symbol_eq = one_symbol;
    same_label = λ l m. apart_map c.label apart.labels l.0 m.0;
  }

  live : (rs : List Register) (r : Register) → list_any (reg_eq (chosen_register c r)) (map (chosen_register c) rs)
      ≡ list_any (reg_eq r) rs
  live [] r = refl
  live (q ∷ rs) r = rw (one_register r q, live rs r) refl

  pub commutes : (m : Machine) → IsMachine m → (p : PlainPair)
      → combination m (chosen_pair c p) ≡ combination_map (chosen_move c) (combination m p)
  commutes m is p =
      ap (λ x. x.got)
      (combined-follows words words (λ k. k) (chosen_place c) (chosen_register c) (chosen_symbol c)
      (chosen_label c) code_leaves code_leaves words_carry renames m is
      (is_live_after p) (is_live_after (chosen_pair c p)) (live p.regs) p.cc p.a p.b
      (words_alike (combined words code_leaves m (is_live_after p) p.cc p.a p.b).asked))
