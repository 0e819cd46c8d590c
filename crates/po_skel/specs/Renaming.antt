-- Another choice of virtual registers, symbols and labels.
use Rattle.std.specs.Prelude.{ℕ, ◌≡◌, map}
use Rattle.po_term.specs.declared.term.Reg.{Reg as Register}
use Rattle.po_term.specs.declared.term.Reg.TheVariants.{Virt, Fp, Rv, Arg}
use Rattle.po_term.specs.declared.term.Sym.{Sym}
use Rattle.po_term.specs.declared.term.Label.{Label}
use Rattle.po_term.specs.Terms.{Place, InReg, AtSym}
use Rattle.po_term.specs.MoveMap.{move_map}
use Rattle.po_model.specs.declared.machine.Machine.{Machine}
use Rattle.po_model.specs.Machines.{IsMachine}
use Rattle.po_model.specs.Pairs.{PlainPair}
use Rattle.po_model.specs.Combined.{combination}
use Rattle.po_model.specs.Put.{combination_map}
use Rattle.po_term.specs.Moves.{PlainMove}

-- by their numbers
pub record Choice : Type 0 where
  pub register : ℕ → ℕ
  pub symbol : ℕ → ℕ
  pub label : ℕ → ℕ

-- different ones stay different
pub record IsApart (c : Choice) : Type 0 where
  pub registers : (m n : ℕ) → c.register m ≡ c.register n → m ≡ n
  pub symbols : (m n : ℕ) → c.symbol m ≡ c.symbol n → m ≡ n
  pub labels : (m n : ℕ) → c.label m ≡ c.label n → m ≡ n

module _ (c : Choice) where
  abbrev pub chosen_register : Register → Register
  chosen_register (Virt n) = Virt (c.register n)
  chosen_register Fp = Fp
  chosen_register Rv = Rv
  chosen_register (Arg k) = Arg k

  abbrev pub chosen_symbol : Sym → Sym
  chosen_symbol s = record { 0 = c.symbol s.0 }

  abbrev pub chosen_label : Label → Label
  chosen_label l = record { 0 = c.label l.0 }

  abbrev pub chosen_place : Place → Place
  chosen_place (InReg r) = InReg (chosen_register r)
  chosen_place (AtSym s) = AtSym (chosen_symbol s)

  abbrev pub chosen_move : PlainMove → PlainMove
  chosen_move m = move_map (λ k. k) chosen_place chosen_register chosen_symbol chosen_label m

  abbrev pub chosen_pair : PlainPair → PlainPair
  chosen_pair p =
      record { a = map chosen_move p.a; b = map chosen_move p.b; regs = map chosen_register p.regs; cc = p.cc }

-- slow combination of the pair with the other choice is slow combination of the pair, with the other choice
abbrev pub Commutes : Type 0
Commutes = (m : Machine) → IsMachine m → (c : Choice) → IsApart c → (p : PlainPair)
    → combination m (chosen_pair c p) ≡ combination_map (chosen_move c) (combination m p)
