-- One more transfer of B that is read after A.
use Rattle.std.proofs.Common.{◌≡◌, ℕ, Bool, true, false, List, [], ◌∷◌, ◌++◌, refl, sym, ◌∙◌, ap, append_assoc}
use Rattle.std.specs.Prelude.{if◌then◌else◌, Option, Some, None, filter}
use Rattle.std.specs.Option.{option_map}
use Rattle.po_term.specs.declared.term.Reg.{Reg as Register}
use Rattle.po_term.specs.declared.transfer.Transfer.{Transfer}
use Rattle.po_term.specs.Moves.{moves_of, PlainMove}
use Rattle.po_term.specs.Kinds.{words, Met, give, and_then}
use Rattle.po_model.specs.Parts.{code_leaves}
use Rattle.po_model.specs.Forward.{with_some, and_some}
use Rattle.po_model.specs.Joined.{is_wanted, forward_move, forward_moves}
use Rattle.po_subst.specs.Found.{known_moves, behind, wanted_move}

-- two lists that are found, one behind the other
abbrev pub found_both : Option (List PlainMove) → Option (List PlainMove) → Option (List PlainMove)
found_both None ys = None
found_both (Some xs) ys = option_map (λ zs. xs ++ zs) ys

both_met : (m n : Met ℕ (Option (List PlainMove)))
    → (and_some m (λ xs. and_some n (λ ys. give (Some (xs ++ ys))))).got ≡ found_both m.got n.got
both_met m n = go m.got n.got
  where
    go : (a b : Option (List PlainMove))
        → (with_some {K = ℕ} a
        (λ xs. and_then (record { got = b; asked = n.asked }) (λ r. with_some r (λ ys. give (Some (xs ++ ys)))))).got
        ≡ found_both a b
    go None b = refl
    go (Some xs) None = refl
    go (Some xs) (Some ys) = refl

nothing_first : (ys : Option (List PlainMove)) → found_both (Some []) ys ≡ ys
nothing_first None = refl
nothing_first (Some ys) = refl

module _ (live : Register → Bool) (cc_live : Bool) (a : List PlainMove) where
  -- the wanted moves, the first before the others
  pub wanted_first : (m : PlainMove) (ms : List PlainMove)
      → (forward_moves words code_leaves a (filter (is_wanted live cc_live) (m ∷ ms))).got
      ≡ found_both (wanted_move live cc_live a m)
      (forward_moves words code_leaves a (filter (is_wanted live cc_live) ms)).got
  wanted_first m ms = go (is_wanted live cc_live m)
    where
      go : (b : Bool)
          → (forward_moves words code_leaves a
          (if b then m ∷ filter (is_wanted live cc_live) ms else filter (is_wanted live cc_live) ms)).got
          ≡ found_both (if b then (forward_move words code_leaves a m).got else Some [])
          (forward_moves words code_leaves a (filter (is_wanted live cc_live) ms)).got
      go true =
          both_met (forward_move words code_leaves a m)
          (forward_moves words code_leaves a (filter (is_wanted live cc_live) ms))
      go false = sym (nothing_first (forward_moves words code_leaves a (filter (is_wanted live cc_live) ms)).got)

-- after a transfer that is known
pub behind_known : (xs ys : List Transfer) (found rest : Option (List PlainMove))
    → known_moves true ys ≡ behind xs found → behind ys rest ≡ behind xs (found_both found rest)
behind_known xs ys None rest e = cc
behind_known xs ys (Some zs) None e = refl
behind_known xs ys (Some zs) (Some us) e =
    let f : moves_of ys ≡ moves_of xs ++ zs = cc in
    ap Some (ap (λ ws. ws ++ us) f ∙ append_assoc (moves_of xs) zs us)

-- after one that isn't
pub behind_unknown : (xs ys : List Transfer) (found rest : Option (List PlainMove))
    → known_moves false ys ≡ behind xs found → None ≡ behind xs (found_both found rest)
behind_unknown xs ys None rest e = refl
behind_unknown xs ys (Some zs) rest e = cc
