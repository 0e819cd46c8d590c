-- What the list of transfers and the mark behind it keep.
use Rattle.std.proofs.Common.{◌≡◌, ◌≢◌, ℕ, ◌≤◌, Bool, true, false, List, [], ◌∷◌, ◌++◌, length, All, refl, sym, ap}
use Rattle.std.proofs.Common.{◌∙◌, subst, arith, zero, suc, Option, Some, None, Ok, inl, inr, append-nil}
use Rattle.std.specs.Prelude.{codes, ⊤}
use Rattle.std.specs.List.{list_any}
use Rattle.std.proofs.lemmas.List.{length-append}
use Rattle.std.proofs.lemmas.List.Elements.{All-push, All-nil, All-cons}
use Rattle.std.proofs.lemmas.Grind.{flat_map-append}
use Rattle.po_lines.proofs.Results.{chosen, bind_ok, ok_is, not_ok}
use Rattle.po_model.specs.declared.machine.PatCond.TheVariants as condition
use Rattle.po_model.specs.declared.machine.PatTransfer.{PatTransfer}
use Rattle.po_model.specs.declared.machine.PatTransfer.TheVariants as transfer
use Rattle.po_model.specs.Patterns.{PatMove, pat_move_of, pat_moves_of}
use Rattle.po_model.specs.Entries.{Place, move_places, places_of, kind_of, MayClobber}
use Rattle.po_pattern.specs.declared.operands.Operands.{Operands}
use Rattle.po_pattern.specs.Rests.{Rest, Read}
use Rattle.po_entry.specs.Words.{says, behind_word, keyword}
use Rattle.po_entry.specs.Transfers.{transfer_in}
use Rattle.po_entry.specs.ListRules.{may_follow, decided, with_next, transfers, sets_cc, clobber_may_stand, clobber_in}
use Rattle.po_pattern.proofs.Told.{Tells}
use Rattle.po_pattern.proofs.Leaves.{Found}
use Rattle.po_entry.proofs.Listed.{Listed, listed_on, moves_push}
use Rattle.po_entry.proofs.Moves.{IsReadMove, MoveHas, transfer_found}

-- what was read of a list
pub record Kept (ms : List PatTransfer) (seen : Operands) : Type 0 where
  pub listed : Listed (pat_moves_of ms)
  pub each : All IsReadMove (pat_moves_of ms)
  pub told : Tells seen (places_of (pat_moves_of ms))

-- it has one transfer at least
pub record Some_kept (ms : List PatTransfer) (seen : Operands) : Type 0 where
  pub kept : Kept ms seen
  pub some : 1 ≤ length ms

places_push : (ms : List PatMove) (m : PatMove) → places_of (ms ++ m ∷ []) ≡ places_of ms ++ move_places m
places_push ms m = flat_map-append move_places ms (m ∷ []) ∙ ap (λ (x : List Place). places_of ms ++ x)
    (append-nil (move_places m))

kept_on : (before : List PatTransfer) (m : PatTransfer) (old seen : Operands) → may_follow before m ≡ true
    → Kept before old → Found MoveHas old (Some m) seen → Some_kept (before ++ m ∷ []) seen
kept_on before m old seen e k f = record {
  kept = record {
    listed = listed_on before m e k.listed;
    each = subst (λ (ms : List PatMove). All IsReadMove ms) (sym (moves_push before m))
        (All-push IsReadMove (pat_moves_of before) (pat_move_of m) k.each f.has.fine);
    told = subst (λ (qs : List Place). Tells seen qs) (ap (λ (x : List Place). places_of (pat_moves_of before) ++ x)
        f.has.is ∙ sym (places_push (pat_moves_of before) (pat_move_of m)) ∙ ap places_of (sym (moves_push before m)))
        (f.told (places_of (pat_moves_of before)) k.told);
  };
  some = simp length-append (omega arith);
}

decided_kept : (column : ℕ) (before ms : List PatTransfer) (m : Option PatTransfer) (old seen : Operands)
    → decided column before m ≡ Ok ms → Kept before old → Found MoveHas old m seen → Some_kept ms seen
decided_kept column before ms None old seen e k f = absurd (not_ok e)
decided_kept column before ms (Some m) old seen e k f = elim (chosen (may_follow before m) _ _ _ e) [
  | inl (h, is) ↦ subst (λ (xs : List PatTransfer). Some_kept xs seen) (ok_is is) (kept_on before m old seen h k f)
  | inr (h, is) ↦ absurd (not_ok is)
]

next_kept : (before : List PatTransfer) (r : Rest) (seen : Operands) (x : Read (List PatTransfer))
    → with_next before r seen ≡ Ok x → Kept before seen → Some_kept x.value x.seen
unfolding with_next
next_kept before r seen x e k =
    let p = bind_ok (transfer_in r seen) _ x e in
    let q = bind_ok (decided r.column before p.0.value) _ x p.2 in
    subst (λ (y : Read (List PatTransfer)). Some_kept y.value y.seen) (ok_is q.2)
    (decided_kept r.column before q.0 p.0.value seen p.0.seen q.1 k (transfer_found r seen p.0 p.1))

pub transfers_kept : (more : ℕ) (before : List PatTransfer) (r : Rest) (seen : Operands) (x : Read (List PatTransfer))
    → transfers more before r seen ≡ Ok x → Kept before seen → Some_kept x.value x.seen
unfolding transfers
transfers_kept zero before r seen x e k = next_kept before r seen x e k
transfers_kept (suc more) before r seen x e k =
    let p = bind_ok (with_next before r seen) _ x e in
    let next = next_kept before r seen p.0 p.1 k in
    elim (chosen (says (codes ";") p.0.rest) _ _ _ p.2) [
      | inl (h, is) ↦ transfers_kept more p.0.value (behind_word p.0.rest) p.0.seen x is next.kept
      | inr (h, is) ↦ subst (λ (y : Read (List PatTransfer)). Some_kept y.value y.seen) (ok_is is) next
    ]

-- the mark behind the list

cc_only : (m : PatTransfer) → sets_cc m ≡ false → kind_of (pat_move_of m) ≢ 1
cc_only (transfer.Set r t) e h = omega (arith, h)
cc_only (transfer.Cc t u) e h = absurd (cc)
cc_only (transfer.Store t u) e h = omega (arith, h)
cc_only (transfer.Goto k) e h = omega (arith, h)
cc_only (transfer.If condition.Cc r k) e h = omega (arith, h)
cc_only (transfer.If (condition.Two t u) r k) e h = omega (arith, h)
cc_only (transfer.Call k) e h = omega (arith, h)
cc_only transfer.Ret e h = omega (arith, h)

none_sets : (ms : List PatTransfer) → list_any sets_cc ms ≡ false → All (λ m. kind_of m ≢ 1) (pat_moves_of ms)
none_sets [] e = All-nil (λ m. kind_of m ≢ 1)
none_sets (m ∷ ms) e = elim (sets_cc m) as (λ b. sets_cc m ≡ b → All (λ m. kind_of m ≢ 1) (pat_moves_of (m ∷ ms))) [
  | true ↦ (λ h. let yes' : list_any sets_cc (m ∷ ms) ≡ true = rw h refl in absurd (cc (yes', e)))
  | false ↦ (λ h. let rest : list_any sets_cc ms ≡ false = rw h at e in All-cons (λ m. kind_of m ≢ 1) (pat_move_of m)
      (pat_moves_of ms) (cc_only m h) (none_sets ms rest))
] refl

pub record Marked (ms : List PatTransfer) (seen : Operands) (x : Read Bool) : Type 0 where
  pub allowed : MayClobber x.value (pat_moves_of ms)
  pub noted : x.seen ≡ seen

allowed_there : (column : ℕ) (ms : List PatTransfer) (x : ⊤) → clobber_may_stand column ms ≡ Ok x
    → MayClobber true (pat_moves_of ms)
allowed_there column ms x e = elim (chosen (list_any sets_cc ms) _ _ _ e) [
  | inl (h, is) ↦ absurd (not_ok is)
  | inr (h, is) ↦ none_sets ms h
]

pub clobber_marked : (ms : List PatTransfer) (r : Rest) (seen : Operands) (x : Read Bool) → clobber_in ms r seen
    ≡ Ok x → Marked ms seen x
unfolding clobber_in
clobber_marked ms r seen x e = elim (chosen (says (codes "clobber") r) _ _ _ e) [
  | inl (h, is) ↦ (let p = bind_ok (clobber_may_stand r.column ms) _ x is in
      let q = bind_ok (keyword (codes "cc") (behind_word r)) _ x p.2 in
      subst (λ (y : Read Bool). Marked ms seen y) (ok_is q.2)
      (record { allowed = allowed_there r.column ms p.0 p.1; noted = refl }))
  | inr (h, is) ↦ subst (λ (y : Read Bool). Marked ms seen y) (ok_is is) (record { allowed = tt; noted = refl })
]
