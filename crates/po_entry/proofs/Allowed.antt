-- An entry that is read is one that a description may have.
use Rattle.std.proofs.Common.{◌≡◌, ℕ, List, [], sym, subst, Ok}
use Rattle.std.specs.Prelude.{codes}
use Rattle.std.proofs.lemmas.List.{length-map}
use Rattle.std.proofs.lemmas.List.Elements.{All-nil}
use Rattle.po_lines.proofs.Results.{bind_ok, ok_is}
use Rattle.po_model.specs.declared.machine.Entry.{Entry}
use Rattle.po_model.specs.Patterns.{PatMove, SetsTo, Compares, Stores, Jumps, Branches, BranchesOn, Calls, Returns}
use Rattle.po_model.specs.Patterns.{pat_moves_of}
use Rattle.po_model.specs.Entries.{IsPatMove, places_of, IsEntry}
use Rattle.po_pattern.specs.Rests.{skip_blanks}
use Rattle.po_pattern.specs.Seen.{none_seen}
use Rattle.po_entry.specs.Words.{keyword}
use Rattle.po_entry.specs.ListRules.{transfers, clobber_in}
use Rattle.po_entry.specs.Template.{arrow, template_in}
use Rattle.po_entry.specs.Reading.{line_start, entry_in}
use Rattle.po_pattern.proofs.Told.{Tells, none_told}
use Rattle.po_entry.proofs.Listed.{LeavesFp, none_listed}
use Rattle.po_entry.proofs.Moves.{IsReadMove}
use Rattle.po_entry.proofs.Kept.{Kept, transfers_kept, clobber_marked}
use Rattle.po_entry.proofs.Pieces.{template_fine}

move_fine : (m : PatMove) → IsReadMove m → LeavesFp m → IsPatMove m
move_fine (SetsTo r t) h f = (h.0, (λ e. f e), h.1)
move_fine (Compares t u) h f = h
move_fine (Stores t u) h f = h
move_fine (Jumps k) h f = h
move_fine (Branches r k) h f = h
move_fine (BranchesOn t u r k) h f = h
move_fine (Calls k) h f = h
move_fine Returns h f = tt

nothing_kept : Kept [] none_seen
nothing_kept = record { listed = none_listed; each = All-nil IsReadMove; told = none_told }

pub entry_allowed : (line : List ℕ) (e : Entry) → entry_in line ≡ Ok e → IsEntry e
unfolding entry_in
entry_allowed line e h =
    let p = bind_ok (keyword (codes "insn") (skip_blanks (line_start line))) _ e h in
    let q = bind_ok (transfers 4 [] p.0 none_seen) _ e p.2 in
    let s = bind_ok (clobber_in q.0.value q.0.rest q.0.seen) _ e q.2 in
    let t = bind_ok (arrow s.0.rest) _ e s.2 in
    let u = bind_ok (template_in s.0.seen t.0) _ e t.2 in
    let kept = transfers_kept 4 [] p.0 none_seen q.0 q.1 nothing_kept in
    let mark = clobber_marked q.0.value q.0.rest q.0.seen s.0 s.1 in
    let ms = pat_moves_of q.0.value in
    let told : Tells s.0.seen (places_of ms) = subst (λ o. Tells o (places_of ms)) (sym mark.noted) kept.kept.told in
    subst (λ (x : Entry). IsEntry x) (ok_is u.2) (record {
      some = simp length-map kept.some;
      few = kept.kept.listed.few;
      pairs = kept.kept.listed.pairs;
      each = λ k d l. move_fine _ (kept.kept.each k d l) (kept.kept.listed.free k d l);
      operands = kept.kept.told.agree;
      clobber = mark.allowed;
      template = template_fine (places_of ms) s.0.seen t.0 u.0 u.1 told;
    })
