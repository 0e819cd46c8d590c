-- Which values belong to a shape, and the pair that they make of it.
use Rattle.std.specs.Prelude.{◌≡◌, ◌≢◌, All, AllPairs, map, length, is_some}
use Rattle.po_term.specs.declared.term.Reg.{Reg as Register}
use Rattle.po_term.specs.declared.term.Reg.TheVariants.{Virt, Fp, Rv, Arg}
use Rattle.po_model.specs.Pairs.{PlainPair, WellFormedPair}
use Rattle.po_model.specs.Holed.{PlainValues, PlainShape}
use Rattle.po_model.specs.Shape.{pair_values, pair_shape}
use Rattle.po_model.specs.Put.{put_register, put_move, HasMoves}

abbrev pub IsVirtual : Register → Type 0
IsVirtual (Virt n) = Unit {0}
IsVirtual Fp = ⊥
IsVirtual Rv = ⊥
IsVirtual (Arg n) = ⊥

-- different holes have different virtual registers, and different symbols
pub record AreDifferent (v : PlainValues) : Type 0 where
  pub virtual : All IsVirtual v.regs
  pub registers : AllPairs (λ r q. r ≢ q) v.regs
  pub symbols : AllPairs (λ s t. s ≢ t) v.syms

-- w may stand at the holes of a shape at which v stands in a pair
pub record Belong (v w : PlainValues) : Type 0 where
  pub differ : AreDifferent w
  pub registers : length w.regs ≡ length v.regs
  pub symbols : length w.syms ≡ length v.syms
  pub label : is_some w.label ≡ is_some v.label
  pub constants : length w.consts ≡ length v.consts

-- the pair that a shape becomes with these values
abbrev pub put_pair : PlainValues → PlainShape → PlainPair
put_pair w s = record {
  a = map (put_move w) s.a;
  b = map (put_move w) s.b;
  regs = map (put_register w) s.live;
  cc = s.cc;
}

-- the shape of what a shape becomes is that shape, and what stands at its holes is what was put there
pub record Stays (p : PlainPair) (w : PlainValues) : Type 0 where
  pub shape : pair_shape (put_pair w (pair_shape p)) ≡ pair_shape p
  pub values : pair_values (put_pair w (pair_shape p)) ≡ w

abbrev pub ShapesStay : Type 0
ShapesStay = (p : PlainPair) (w : PlainValues) → Belong (pair_values p) w → Stays p w

-- each hole of the shape of a well-formed pair has its value in the pair
pub record IsFilled (p : PlainPair) : Type 0 where
  pub first : HasMoves (pair_values p) (pair_shape p).a
  pub second : HasMoves (pair_values p) (pair_shape p).b

abbrev pub ShapesAreFilled : Type 0
ShapesAreFilled = (p : PlainPair) → WellFormedPair p → IsFilled p
