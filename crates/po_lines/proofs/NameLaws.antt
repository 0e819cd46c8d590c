-- A name is read as itself, and what is read as a name is one.
use Rattle.std.proofs.Common.{◌≡◌, ℕ, List, true, Ok, refl, inl, inr}
use Rattle.po_name.specs.Names.{is_name}
use Rattle.po_lines.specs.Words.{Placed}
use Rattle.po_lines.specs.Leaves.{is_name_text, name_in}
use Rattle.po_lines.proofs.Results.{chosen, ok_is, not_ok}

pub name_again : (w : Placed) → is_name w.bytes ≡ true → name_in w ≡ Ok w.bytes
unfolding name_in
name_again w h = rw h refl

pub name_found : (w : Placed) (bytes : List ℕ) → name_in w ≡ Ok bytes → (is_name w.bytes ≡ true) × (w.bytes ≡ bytes)
unfolding name_in
name_found w bytes e = elim (chosen (is_name w.bytes) _ _ (Ok bytes) e) [
  | inl p ↦ (p.0, ok_is p.1)
  | inr p ↦ elim (chosen (is_name_text w.bytes) _ _ (Ok bytes) p.1) [
    | inl q ↦ absurd (not_ok q.1)
    | inr q ↦ absurd (not_ok q.1)
  ]
]
