-- What is left of an instruction without what isn't live.
use Rattle.std.proofs.Common.{◌≡◌, Bool, true, false, List, [], ◌∷◌, refl, sym, ◌∙◌, ap}
use Rattle.std.specs.Prelude.{not, ◌&&◌, ◌||◌, if◌then◌else◌, Some, is_some, filter}
use Rattle.std.specs.List.{list_any}
use Rattle.std.proofs.lemmas.Bool.{false≢true}
use Rattle.po_term.specs.declared.transfer.Transfer.{Transfer}
use Rattle.po_term.specs.declared.term.Reg.{Reg as Register}
use Rattle.po_term.specs.Terms.{InReg}
use Rattle.po_term.specs.Moves.{PlainMove, PlainInstr, SetTo, CcTo, StoreTo, Ends, move_of, moves_of}
use Rattle.po_term.specs.Simplified.{reg_eq}
use Rattle.po_model.specs.Parts.{code_leaves, right_at, cc_of, store_of}
use Rattle.po_model.specs.Joined.{is_wanted}
use Rattle.po_subst.proofs.Agreeing.{one_register}

-- a test of transfers, and of their moves
pub any_move : (p : PlainMove → Bool) (ts : List Transfer)
    → list_any p (moves_of ts) ≡ list_any (λ t. p (move_of t)) ts
any_move p [] = refl
any_move p (t ∷ ts) = ap (λ b. p (move_of t) || b) (any_move p ts)

module _ (live : Register → Bool) (cc_live : Bool) where
  -- of what is live, what is wanted of the moves sets what they all set
  pub right_wanted : (r : Register) → live r ≡ true → (ms : PlainInstr)
      → right_at code_leaves (InReg r) (filter (is_wanted live cc_live) ms) ≡ right_at code_leaves (InReg r) ms
  right_wanted r l [] = refl
  right_wanted r l (SetTo q t ∷ ms) = go (live q) refl (reg_eq r q) refl (right_wanted r l ms)
    where
      go : (b : Bool) → live q ≡ b → (c : Bool) → reg_eq r q ≡ c
          → right_at code_leaves (InReg r) (filter (is_wanted live cc_live) ms) ≡ right_at code_leaves (InReg r) ms
          → right_at code_leaves (InReg r)
          (if b then SetTo q t ∷ filter (is_wanted live cc_live) ms else filter (is_wanted live cc_live) ms)
          ≡ (if c then Some t else right_at code_leaves (InReg r) ms)
      go true d true e ih = rw (e) refl
      go true d false e ih = rw (e) ih
      go false d true e ih = absurd (false≢true (sym d ∙ ap live (sym (one_register r q e)) ∙ l))
      go false d false e ih = ih
  right_wanted r l (CcTo t u ∷ ms) = go cc_live (right_wanted r l ms)
    where
      go : (b : Bool)
          → right_at code_leaves (InReg r) (filter (is_wanted live cc_live) ms) ≡ right_at code_leaves (InReg r) ms
          → right_at code_leaves (InReg r)
          (if b then CcTo t u ∷ filter (is_wanted live cc_live) ms else filter (is_wanted live cc_live) ms)
          ≡ right_at code_leaves (InReg r) ms
      go true ih = ih
      go false ih = ih
  right_wanted r l (StoreTo t u ∷ ms) = right_wanted r l ms
  right_wanted r l (Ends e ∷ ms) = right_wanted r l ms

  pub cc_wanted : cc_live ≡ true → (ms : PlainInstr) → cc_of (filter (is_wanted live cc_live) ms) ≡ cc_of ms
  cc_wanted l [] = refl
  cc_wanted l (SetTo q t ∷ ms) = go (live q) (cc_wanted l ms)
    where
      go : (b : Bool) → cc_of (filter (is_wanted live cc_live) ms) ≡ cc_of ms
          → cc_of (if b then SetTo q t ∷ filter (is_wanted live cc_live) ms else filter (is_wanted live cc_live) ms)
          ≡ cc_of ms
      go true ih = ih
      go false ih = ih
  cc_wanted l (CcTo t u ∷ ms) = rw l refl
  cc_wanted l (StoreTo t u ∷ ms) = cc_wanted l ms
  cc_wanted l (Ends e ∷ ms) = cc_wanted l ms

  pub store_wanted : (ms : PlainInstr) → store_of (filter (is_wanted live cc_live) ms) ≡ store_of ms
  store_wanted [] = refl
  store_wanted (SetTo q t ∷ ms) = go (live q) (store_wanted ms)
    where
      go : (b : Bool) → store_of (filter (is_wanted live cc_live) ms) ≡ store_of ms
          → store_of (if b then SetTo q t ∷ filter (is_wanted live cc_live) ms else filter (is_wanted live cc_live) ms)
          ≡ store_of ms
      go true ih = ih
      go false ih = ih
  store_wanted (CcTo t u ∷ ms) = go cc_live (store_wanted ms)
    where
      go : (b : Bool) → store_of (filter (is_wanted live cc_live) ms) ≡ store_of ms
          → store_of (if b then CcTo t u ∷ filter (is_wanted live cc_live) ms else filter (is_wanted live cc_live) ms)
          ≡ store_of ms
      go true ih = ih
      go false ih = ih
  store_wanted (StoreTo t u ∷ ms) = refl
  store_wanted (Ends e ∷ ms) = store_wanted ms

  pub set_kept : (r : Register) (ms : PlainInstr)
      → (live r && not (is_some (right_at code_leaves (InReg r) (filter (is_wanted live cc_live) ms))))
      ≡ (live r && not (is_some (right_at code_leaves (InReg r) ms)))
  set_kept r ms = go (live r) refl
    where
      go : (b : Bool) → live r ≡ b
          → (b && not (is_some (right_at code_leaves (InReg r) (filter (is_wanted live cc_live) ms))))
          ≡ (b && not (is_some (right_at code_leaves (InReg r) ms)))
      go true e = rw (right_wanted r e ms) refl
      go false e = refl

  pub cc_kept : (ms : PlainInstr)
      → (cc_live && not (is_some (cc_of (filter (is_wanted live cc_live) ms)))) ≡ (cc_live && not (is_some (cc_of ms)))
  cc_kept ms = go cc_live refl
    where
      go : (b : Bool) → cc_live ≡ b
          → (b && not (is_some (cc_of (filter (is_wanted live cc_live) ms)))) ≡ (b && not (is_some (cc_of ms)))
      go true e = rw (cc_wanted e ms) refl
      go false e = refl

  pub store_kept : (ms : PlainInstr)
      → not (is_some (store_of (filter (is_wanted live cc_live) ms))) ≡ not (is_some (store_of ms))
  store_kept ms = ap (λ o. not (is_some o)) (store_wanted ms)
