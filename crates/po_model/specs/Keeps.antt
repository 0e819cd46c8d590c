-- When what two instructions A and B do, one after the other, can't be told apart from something else, as far as it
-- is seen.
use Rattle.std.specs.Prelude.{ℕ, ◌≡◌, Bool, true, not, ◌||◌, ◌&&◌, Option, Some, None, is_some, ⊤}
use Rattle.po_term.specs.declared.term.Reg.{Reg as Register}
use Rattle.po_term.specs.Terms.{Place, InReg, AtSym, State}
use Rattle.po_term.specs.Moves.{PlainInstr}
use Rattle.po_model.specs.Parts.{code_leaves, cc_of, right_at}
use Rattle.po_model.specs.Effect.{Control, Next, Jump, Called, Returned, Effected, effect}

-- a place that holds something live: a symbol always does
abbrev pub live_at : (Register → Bool) → Place → Bool
live_at live (InReg r) = live r
live_at live (AtSym s) = true

-- whether an instruction has a transfer that sets a place
abbrev pub is_set_at : PlainInstr → Place → Bool
is_set_at ms p = is_some (right_at code_leaves p ms)

-- live, or set by neither
abbrev pub matters : (Register → Bool) → PlainInstr → PlainInstr → Place → Bool
matters live a b p = live_at live p || (not (is_set_at a p) && not (is_set_at b p))

abbrev pub cc_matters : Bool → PlainInstr → PlainInstr → Bool
cc_matters cc_live a b = cc_live || (not (is_some (cc_of a)) && not (is_some (cc_of b)))

-- B in the state that A leaves, where A goes on to it
abbrev pub continues : PlainInstr → State → Control → Option Effected
continues b s Next = effect b s
continues b s (Jump l) = Some (record { state = s; to = Jump l })
continues b s (Called f ws) = Some (record { state = s; to = Called f ws })
continues b s (Returned w) = Some (record { state = s; to = Returned w })

abbrev pub then_effect : PlainInstr → Option Effected → Option Effected
then_effect b None = None
then_effect b (Some d) = continues b d.state d.to

-- what A and then B do
abbrev pub effect_of_both : PlainInstr → PlainInstr → State → Option Effected
effect_of_both a b s = then_effect b (effect a s)

-- after A and B, with what is live there
module _ (live : Register → Bool) (cc_live : Bool) (a b : PlainInstr) where
  -- two ends that can't be told apart: the code goes on alike, and each word of memory is the same, each register
  -- that is live or that neither sets, and cc where it is live or neither sets it
  pub record SameEnd (d e : Effected) : Type 0 where
    pub control : d.to ≡ e.to
    pub memory : (c : ℕ) → d.state.memory c ≡ e.state.memory c
    pub places : (p : Place) → matters live a b p ≡ true → d.state.place p ≡ e.state.place p
    pub compared : cc_matters cc_live a b ≡ true → d.state.cc ≡ e.state.cc

  -- there is no effect, or the same one
  abbrev pub SameEffect : Option Effected → Option Effected → Type 0
  SameEffect None None = ⊤
  SameEffect None (Some e) = ⊥
  SameEffect (Some d) None = ⊥
  SameEffect (Some d) (Some e) = SameEnd d e
