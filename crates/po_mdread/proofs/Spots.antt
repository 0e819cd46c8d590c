-- Where the lines of a text begin.
use Rattle.std.proofs.Common.{◌≡◌, ℕ, ◌+◌, ◌-◌, ◌<◌, ◌≤◌, List, [], ◌∷◌, ◌++◌, Bool, true, false, Result, Ok, refl}
use Rattle.std.proofs.Common.{ap, sym, ◌∙◌, length, drop, min, arith, ◌⊎◌, inl, inr}
use Rattle.std.specs.List.{position_or_len}
use Rattle.std.proofs.lemmas.List.{drop-drop, length-drop}
use Rattle.po_text.specs.declared.fault.Spot.{Spot}
use Rattle.po_lines.specs.Lines.{Numbered, is_feed, line_until, lines_from, lines_behind}
use Rattle.po_lines.proofs.LineCuts.{ended, first_line_is}
use Rattle.std.proofs.lemmas.Bool.{false≢true}
use Rattle.po_lines.specs.Faults.{TextFault}
use Rattle.po_lines.specs.Reading.{read_each}
use Rattle.po_lines.proofs.Results.{bind_ok, ok_is}
use Rattle.po_model.specs.declared.machine.Machine.{Machine}
use Rattle.po_mdread.specs.declared.sofar.Sofar.{Sofar}
use Rattle.po_mdread.specs.declared.sofar.Sofar.TheVariants.{Ended}
use Rattle.po_mdread.specs.Reading.{behind, has_ended, step}
use Rattle.po_mdread.proofs.Ended.{whole_read}
use Rattle.po_mdread.proofs.Steps.{ends_here}

-- the first line from a place on, and the lines behind it
pub record IsNext (at : Spot) (text : List ℕ) (l : Numbered) (ls : List Numbered) : Type 0 where
  pub number : l.number ≡ at.line
  pub further : at.offset < l.after
  pub within : l.after ≤ length text
  pub rest : ls ≡ lines_behind (behind l) text

head_is : (l r : Numbered) (ls rs : List Numbered) → ◌≡◌ {A = List Numbered} (l ∷ ls) (r ∷ rs) → (l ≡ r) × (ls ≡ rs)
head_is l r ls rs e = (cc, cc)

no_line : (l : Numbered) (ls : List Numbered) → ◌≡◌ {A = List Numbered} [] (l ∷ ls) → ⊥
no_line l ls e = cc

some_or_none : (n : ℕ) → (n ≡ 0) ⊎ (0 < n)
some_or_none n = grind arith

next_is : (at : Spot) (text : List ℕ) (l r : Numbered) (ls : List Numbered) (m : ℕ) → l ≡ r → r.number ≡ at.line
    → r.after ≡ at.offset + m → 0 < m → at.offset + m ≤ length text
    → ls ≡ lines_from (at.line + 1) (at.offset + m) (drop m (drop at.offset text)) → IsNext at text l ls
next_is at text l r ls m e number after some within rest =
    let l_number : l.number ≡ at.line = ap (λ (x : Numbered). x.number) e ∙ number in
    let l_after : l.after ≡ at.offset + m = ap (λ (x : Numbered). x.after) e ∙ after in
    record {
      number = l_number;
      further = omega arith;
      within = omega arith;
      rest = rest ∙ rw (l_number, l_after, drop-drop m at.offset text) refl;
    }

pub next_at : (at : Spot) (text : List ℕ) (l : Numbered) (ls : List Numbered) → at.offset ≤ length text
    → l ∷ ls ≡ lines_behind at text → IsNext at text l ls
next_at at text l ls h e =
    let rest : List ℕ = drop at.offset text in
    let long : length rest ≡ length text - at.offset = length-drop at.offset text in
    elim (some_or_none (length rest)) [
      | inl none ↦ absurd (no_line l ls (sym (e ∙ ended at.line at.offset rest none)))
      | inr some ↦ (let k : ℕ = min (position_or_len is_feed rest) (length rest) in
          let m : ℕ = min (length rest) (k + 1) in
          let cut = head_is l (record { number = at.line; bytes = line_until rest k; after = at.offset + m }) ls
          (lines_from (at.line + 1) (at.offset + m) (drop m rest)) (e ∙ first_line_is at.line at.offset rest k
          refl some) in
          next_is at text l (record { number = at.line; bytes = line_until rest k; after = at.offset + m }) ls m cut.0
          refl refl (omega arith) (omega arith) cut.1)
    ]

-- a place behind some of the lines from another place on
pub record IsBehind (at : Spot) (text : List ℕ) (s : Sofar) (m : Machine) (end : Spot) : Type 0 where
  pub within : end.offset ≤ length text
  pub counted : end.line + at.offset ≤ end.offset + at.line
  pub front : List Numbered
  pub cut : lines_behind at text ≡ front ++ lines_behind end text
  pub read : read_each step s front ≡ Ok (Ended m end)

either : (b : Bool) → (b ≡ true) ⊎ (b ≡ false)
either true = inl refl
either false = inr refl

pub none_read : (s : Sofar) (t : Sofar) → read_each step s [] ≡ Ok t → s ≡ t
unfolding read_each
none_read s t e = ok_is e

one_read : (s t : Sofar) (l : Numbered) → step s l ≡ Ok t → read_each step s (l ∷ []) ≡ Ok t
unfolding read_each
one_read s t l e = rw e refl

pub more_read : (s t : Sofar) (l : Numbered) (ls : List Numbered) (r : Result Sofar TextFault) → step s l ≡ Ok t
    → read_each step t ls ≡ r → read_each step s (l ∷ ls) ≡ r
unfolding read_each
more_read s t l ls r e h = rw e h

pub first_read : (s r : Sofar) (l : Numbered) (ls : List Numbered) → read_each step s (l ∷ ls) ≡ Ok r → (t : Sofar)
    × (step s l ≡ Ok t) × (read_each step t ls ≡ Ok r)
unfolding read_each
first_read s r l ls e = bind_ok (step s l) (λ (t : Sofar). read_each step t ls) r e

here : (at : Spot) (text : List ℕ) (l : Numbered) (ls : List Numbered) (s : Sofar) (m : Machine) (end : Spot)
    → l ∷ ls ≡ lines_behind at text → IsNext at text l ls
    → step s l ≡ Ok (Ended m end) → end ≡ behind l → IsBehind at text s m end
here at text l ls s m end e n told is =
    let offset : end.offset ≡ l.after = ap (λ (x : Spot). x.offset) is in
    let line : end.line ≡ l.number + 1 = ap (λ (x : Spot). x.line) is in
    let number = n.number in
    let further = n.further in
    let within = n.within in
    record {
      within = omega arith;
      counted = omega arith;
      front = l ∷ [];
      cut = sym e ∙ ap (λ (xs : List Numbered). l ∷ xs) (n.rest ∙ ap (λ (x : Spot). lines_behind x text) (sym is));
      read = one_read s (Ended m end) l told;
    }

later : (at : Spot) (text : List ℕ) (l : Numbered) (ls : List Numbered) (s t : Sofar) (m : Machine) (end : Spot)
    → l ∷ ls ≡ lines_behind at text → IsNext at text l ls
    → step s l ≡ Ok t → IsBehind (behind l) text t m end → IsBehind at text s m end
later at text l ls s t m end e n told b =
    let number = n.number in
    let further = n.further in
    let counted = b.counted in
    record {
      within = b.within;
      counted = omega arith;
      front = l ∷ b.front;
      cut = sym e ∙ ap (λ (xs : List Numbered). l ∷ xs) (n.rest ∙ b.cut);
      read = more_read s t l b.front (Ok (Ended m end)) told b.read;
    }

pub behind_end : (ls : List Numbered) (at : Spot) (text : List ℕ) (s : Sofar) (m : Machine) (end : Spot)
    → at.offset ≤ length text → ls ≡ lines_behind at text → has_ended s ≡ false
    → read_each step s ls ≡ Ok (Ended m end) → IsBehind at text s m end
behind_end [] at text s m end h e going read = absurd (false≢true
    (sym going ∙ ap has_ended (none_read s (Ended m end) read)))
behind_end (l ∷ ls) at text s m end h e going read =
    let next = next_at at text l ls h e in
    let first = first_read s (Ended m end) l ls read in
    elim (either (has_ended first.0)) [
      | inl done ↦ (let same : Ended m end ≡ first.0 = ok_is (whole_read first.0 ls (Ok (Ended m end)) done first.2) in
          let told : step s l ≡ Ok (Ended m end) = first.1 ∙ ap Ok (sym same) in
          here at text l ls s m end e next told (ends_here s l m end told going))
      | inr more ↦ later at text l ls s first.0 m end e next first.1 (behind_end ls (behind l) text first.0 m end
          next.within next.rest more first.2)
    ]
