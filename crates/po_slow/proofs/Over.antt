-- Whether all blocks are passed.
use Rattle.std.proofs.Common.{◌≡◌, ℕ, ◌-◌, ◌<◌, ◌≤◌, Bool, List, [], ◌∷◌, length, reverse, take, drop, leb, arith, ◌↔◌}
use Rattle.std.proofs.Common.{tests, rules}
use Rattle.std.specs.Prelude.{IsTrue}
use mathlib.Core.Logic.{inl, inr}
use Rattle.std.proofs.lemmas.List.{length-drop}
use Rattle.po_model.specs.declared.var.Var.{Var}
use Rattle.po_model.specs.Blocks.{PlainBlock}
use Rattle.po_slow.specs.States.{place_in, place_at, IsFinished}
use Rattle.po_slow.proofs.Keeping.{less_or_not}

over_at : (code : List PlainBlock) (live : ℕ → ℕ → Var → Bool) (b done next : ℕ) (changed : Bool) → length code ≤ b
    → IsFinished (place_at code live b done next changed)
over_at code live b done next changed h = go (drop b code) (length-drop b code)
  where
    go : (xs : List PlainBlock) → length xs ≡ length code - b
        → IsFinished (place_in live b done next changed (reverse (take b code)) xs)
    go [] e = tt
    go (x ∷ xs) e = absurd (omega arith)

not_over_at : (code : List PlainBlock) (live : ℕ → ℕ → Var → Bool) (b done next : ℕ) (changed : Bool) → b < length code
    → IsFinished (place_at code live b done next changed) → ⊥
not_over_at code live b done next changed h = go (drop b code) (length-drop b code)
  where
    go : (xs : List PlainBlock) → length xs ≡ length code - b
        → IsFinished (place_in live b done next changed (reverse (take b code)) xs) → ⊥
    go [] e f = absurd (omega arith)
    go (x ∷ xs) e f = f

is_le : (n b : ℕ) → IsTrue (leb n b) → n ≤ b
is_le n b h = search (rules, tests)

le_is : (n b : ℕ) → n ≤ b → IsTrue (leb n b)
le_is n b h = search (rules, tests)

pub is_over : (code : List PlainBlock) (live : ℕ → ℕ → Var → Bool) (b done next : ℕ) (changed : Bool) (n : ℕ)
    → n ≡ length code → (IsTrue (leb n b) ↔ IsFinished (place_at code live b done next changed))
is_over code live b done next changed n e = (
  λ t. let h : n ≤ b = is_le n b t in over_at code live b done next changed (omega arith),
  λ f. elim (less_or_not b n)
      [ inl h ↦ absurd (not_over_at code live b done next changed (omega arith) f) | inr h ↦ le_is n b h ],
)
