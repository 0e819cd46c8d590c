-- What one list does in the place of two instructions, part by part, and that its effect can't be told apart from
-- theirs then.
use Rattle.std.proofs.Common.{◌≡◌, ℕ, Bool, true, false, [], ◌∷◌, refl}
use Rattle.std.specs.Prelude.{Option, Some, None, is_some}
use Rattle.std.specs.List.{list_any}
use Rattle.std.specs.Option.{option_map}
use Rattle.std.proofs.lemmas.Bool.{true≢false}
use Rattle.po_term.specs.declared.term.Reg.{Reg as Register}
use Rattle.po_term.specs.Terms.{Place, State}
use Rattle.po_term.specs.Moves.{SetTo, CcTo, StoreTo, Ends, PlainInstr}
use Rattle.po_term.specs.Actions.{MovesHaveWords}
use Rattle.po_model.specs.Parts.{ending_of}
use Rattle.po_model.specs.Effect.{Control, after, goes, effect}
use Rattle.po_model.specs.Keeps.{matters, cc_matters, SameEffect, effect_of_both}
use Rattle.po_model.specs.Joined.{is_control}

-- j does in the state s what a and then b do
pub record Keeps (live : Register → Bool) (cc_live : Bool) (a b j : PlainInstr) (s : State) : Type 0 where
  -- whether there is an effect, and where the code goes on
  pub control : goes (after s a) (ending_of b) ≡ goes s (ending_of j)
  pub memory : (c : ℕ) → (after (after s a) b).memory c ≡ (after s j).memory c
  pub places : (p : Place) → matters live a b p ≡ true → (after (after s a) b).place p ≡ (after s j).place p
  pub compared : cc_matters cc_live a b ≡ true → (after (after s a) b).cc ≡ (after s j).cc
  pub words : MovesHaveWords j
  -- it has a transfer of control only where B has one
  pub stays : is_some (ending_of b) ≡ false → is_some (ending_of j) ≡ false

-- an instruction without a transfer of control has no ending
pub none_ends : (ms : PlainInstr) → list_any is_control ms ≡ false → ending_of ms ≡ None
none_ends [] h = refl
none_ends (SetTo r t ∷ ms) h = none_ends ms h
none_ends (CcTo t u ∷ ms) h = none_ends ms h
none_ends (StoreTo t u ∷ ms) h = none_ends ms h
none_ends (Ends e ∷ ms) h = absurd (true≢false h)

-- after an A that goes on to B, the list has the effect of both
pub same_effect : (live : Register → Bool) (cc_live : Bool) (a b j : PlainInstr) (s : State)
    → ending_of a ≡ None → Keeps live cc_live a b j s
    → SameEffect live cc_live a b (effect_of_both a b s) (effect j s)
same_effect live cc_live a b j s none k = rw (none, k.control) (go (goes s (ending_of j)))
  where
    go : (g : Option Control)
        → SameEffect live cc_live a b
        (option_map (λ c. record { state = after (after s a) b; to = c }) g)
        (option_map (λ c. record { state = after s j; to = c }) g)
    go None = tt
    go (Some c) = record { control = refl; memory = k.memory; places = k.places; compared = k.compared }
