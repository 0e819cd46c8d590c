-- What a step over a line is that has no fault.
use Rattle.std.proofs.Common.{◌≡◌, ℕ, ◌≤◌, List, [], ◌∷◌, true, false, Result, Ok, Err, refl, ap, sym, ◌∙◌, length}
use Rattle.std.proofs.Common.{arith, ◌⊎◌, inl, inr}
use Rattle.std.specs.Prelude.{nat_lt}
use Rattle.std.proofs.lemmas.Bool.{false≢true}
use Rattle.std.proofs.lemmas.Bool.Decides.{nat_tests}
use Rattle.po_text.specs.declared.fault.Spot.{Spot}
use Rattle.po_lines.specs.declared.fault.LineFault.{LineFault}
use Rattle.po_lines.specs.Faults.{at_line}
use Rattle.po_lines.specs.Forms.{says_nothing}
use Rattle.po_lines.specs.Lines.{Numbered}
use Rattle.po_lines.specs.Words.{Placed, line_words, words_in}
use Rattle.po_lines.proofs.Results.{bind_ok, chosen, ok_is, not_ok}
use Rattle.po_model.specs.declared.machine.Machine.{Machine}
use Rattle.po_mdread.specs.declared.sofar.Sofar.{Sofar}
use Rattle.po_mdread.specs.declared.sofar.Sofar.TheVariants.{ToMachine, ToFrame, ToResult, ToArgs, ToRegs, ToEntries}
use Rattle.po_mdread.specs.declared.sofar.Sofar.TheVariants.{Ended}
use Rattle.po_mdread.specs.Reading.{behind, some_line, words_line, line_in, has_ended, step}
use Rattle.po_mdread.proofs.LinesFound.{machine_found, frame_found, result_found, args_found, regs_found, entry_found}

-- a line within the limit
abbrev pub IsShort : Numbered → Type 0
IsShort l = length l.bytes ≤ 4096

-- a line that says nothing
pub record IsSilent (l : Numbered) : Type 0 where
  pub short : IsShort l
  pub silent : says_nothing (words_in l.bytes) ≡ true

-- a line that says something
pub record IsSaid (s : Sofar) (l : Numbered) (t : Sofar) : Type 0 where
  pub short : IsShort l
  pub first : Placed
  pub others : List Placed
  pub words : words_in l.bytes ≡ first ∷ others
  pub said : says_nothing (first ∷ others) ≡ false
  pub told : some_line s l first others ≡ Ok t

silent_or_said : (s : Sofar) (l : Numbered) (ws : List Placed) (t : Sofar) → IsShort l → words_in l.bytes ≡ ws
    → words_line s l ws ≡ Ok t
    → (IsSilent l × (t ≡ s)) ⊎ IsSaid s l t
unfolding words_line says_nothing
silent_or_said s l [] t short e h = inl (record { short = short; silent = ap says_nothing e }, sym (ok_is h))
silent_or_said s l (w ∷ ws) t short e h = elim (chosen (says_nothing (w ∷ ws)) _ _ (Ok t) h) [
  | inl p ↦ inl (record { short = short; silent = ap says_nothing e ∙ p.0 }, sym (ok_is p.1))
  | inr p ↦ inr (record { short = short; first = w; others = ws; words = e; said = p.0; told = p.1 })
]

pub short_found : (line : List ℕ) (ws : List Placed) → line_words line ≡ Ok ws → (length line ≤ 4096)
    × (words_in line ≡ ws)
unfolding line_words
short_found line ws e = elim (chosen (nat_lt 4096 (length line)) _ _ (Ok ws) e) [
  | inl p ↦ absurd (not_ok p.1)
  | inr p ↦ (let few = p.0 in (grind (arith, nat_tests), ok_is p.1))
]

pub at_line_ok : {A : Type 0} (n : ℕ) (r : Result A LineFault) (x : A) → at_line n r ≡ Ok x → r ≡ Ok x
at_line_ok n (Ok y) x e = ap Ok (ok_is e)
at_line_ok n (Err f) x e = absurd (not_ok e)

pub step_found : (s : Sofar) (l : Numbered) (t : Sofar) → step s l ≡ Ok t → has_ended s ≡ false
    → (IsSilent l × (t ≡ s)) ⊎ IsSaid s l t
unfolding step line_in
step_found s l t e h =
    let read : line_in s l ≡ Ok t = at_line_ok l.number (line_in s l) t (rw h at e) in
    let words = bind_ok (line_words l.bytes) (λ (ws : List Placed). words_line s l ws) t read in
    let short = short_found l.bytes words.0 words.1 in
    silent_or_said s l words.0 t short.0 short.1 words.2

ended_is : (m n : Machine) (at spot : Spot) → Ended m at ≡ Ended n spot → at ≡ spot
ended_is m n at spot e = cc

not_ended : (s : Sofar) (m : Machine) (at : Spot) → s ≡ Ended m at → has_ended s ≡ false → ⊥
not_ended s m at e h = false≢true (sym h ∙ ap has_ended e)

-- only the line `end` ends a description
said_end : (s : Sofar) (l : Numbered) (w : Placed) (ws : List Placed) (m : Machine) (at : Spot) → some_line s l w ws
    ≡ Ok (Ended m at) → has_ended s ≡ false → at ≡ behind l
unfolding some_line
said_end ToMachine l w ws m at e h = let f = machine_found w ws _ (Ended m at) e in
    absurd (not_ended (ToFrame f.0) m at (sym f.2) refl)
said_end (ToFrame n) l w ws m at e h = let f = frame_found n w ws _ (Ended m at) e in
    absurd (not_ended (ToResult n f.0) m at (sym f.2) refl)
said_end (ToResult n a) l w ws m at e h = let f = result_found n a w ws _ (Ended m at) e in
    absurd (not_ended (ToArgs n a f.0) m at (sym f.3) refl)
said_end (ToArgs n a b) l w ws m at e h = let f = args_found n a b w ws _ (Ended m at) e in
    absurd (not_ended (ToRegs n a b f.0) m at (sym f.4) refl)
said_end (ToRegs n a b c) l w ws m at e h = let f = regs_found n a b c w ws _ (Ended m at) e in
    absurd (not_ended (ToEntries _) m at (sym f.4) refl)
said_end (ToEntries k) l w ws m at e h = elim (entry_found k l w ws (Ended m at) e) [
  | inl f ↦ absurd (not_ended (ToEntries _) m at (sym f.next) refl)
  | inr f ↦ ended_is m k at (behind l) f.next
]
said_end (Ended k spot) l w ws m at e h = absurd (false≢true (sym h))

pub ends_here : (s : Sofar) (l : Numbered) (m : Machine) (at : Spot) → step s l ≡ Ok (Ended m at) → has_ended s
    ≡ false → at ≡ behind l
ends_here s l m at e h = elim (step_found s l (Ended m at) e h) [
  | inl p ↦ absurd (not_ended s m at (sym p.1) h)
  | inr p ↦ said_end s l p.first p.others m at p.told h
]
