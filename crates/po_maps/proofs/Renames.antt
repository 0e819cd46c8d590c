-- What maps of leaves, registers, symbols and labels keep of what the leaves say of themselves.
use Rattle.std.proofs.Common.{◌≡◌}
use Rattle.std.specs.Prelude.{◌==◌}
use Rattle.std.specs.Option.{option_map}
use Rattle.po_term.specs.declared.term.Reg.{Reg}
use Rattle.po_term.specs.declared.term.Label.{Label}
use Rattle.po_term.specs.Form.{IsFixed}
use Rattle.po_model.specs.Parts.{Leaves}
use Rattle.po_subst.proofs.ForwardFollows.{Matches}

-- what a leaf is, stays what it is; what is one stays one, and what is two stays two
pub record Renames {L M R Q S T : Type 0} (g : L → M) (onto_register : R → Q) (onto_symbol : S → T)
    (onto_label : Label → Label) (leaves_j : Leaves L R S) (leaves_k : Leaves M Q T) : Type 0 where
  pub same_register : (a b : L) → leaves_k.same_register (g a) (g b) ≡ leaves_j.same_register a b
  pub same_leaf : (a b : L) → leaves_k.same_leaf (g a) (g b) ≡ leaves_j.same_leaf a b
  pub in_register : (r : R) → leaves_k.in_register (onto_register r) ≡ g (leaves_j.in_register r)
  pub register : (l : L) → leaves_k.register (g l) ≡ option_map onto_register (leaves_j.register l)
  pub symbol : (l : L) → leaves_k.symbol (g l) ≡ option_map onto_symbol (leaves_j.symbol l)
  -- of registers that have a name of their own
  pub is_fixed : (q : Reg) → IsFixed q → (r : R) → leaves_k.is_fixed q (onto_register r) ≡ leaves_j.is_fixed q r
  pub register_eq : (r q : R) → leaves_k.register_eq (onto_register r) (onto_register q) ≡ leaves_j.register_eq r q
  pub symbol_eq : (s t : S) → leaves_k.symbol_eq (onto_symbol s) (onto_symbol t) ≡ leaves_j.symbol_eq s t
  pub same_label : (l m : Label) → ((onto_label l).0 == (onto_label m).0) ≡ (l.0 == m.0)

-- what aliasing and forwarding ask of it
pub matches : {L M R Q S T : Type 0} {g : L → M} {onto_register : R → Q} {onto_symbol : S → T}
    {onto_label : Label → Label} {leaves_j : Leaves L R S} {leaves_k : Leaves M Q T}
    → Renames g onto_register onto_symbol onto_label leaves_j leaves_k
    → Matches g onto_register leaves_j leaves_k
matches renames = record { register = renames.same_register; leaf = renames.same_leaf; in_place = renames.in_register }
