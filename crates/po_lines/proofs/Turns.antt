-- The turns of a loop over the lines of a text that reads them by a step.
use Rattle.std.proofs.Common.{◌≡◌, ℕ, ◌+◌, List, [], ◌∷◌, refl, ap, sym, ◌∙◌, Result, Ok, Err, Some, None, length}
use Rattle.std.proofs.Common.{arith}
use Rattle.po_text.specs.declared.fault.TextRefusal.{TextRefusal}
use Rattle.po_text.specs.declared.fault.TextRefusal.TheVariants as refusal
use Rattle.po_lines.specs.declared.line.Line.{Line}
use Rattle.po_lines.specs.Lines.{Numbered, Ahead, line_of, Takes}
use Rattle.po_lines.specs.Faults.{TextFault, text_fault, Refuses}
use Rattle.po_lines.specs.Reading.{read_each}

more_lines : {S : Type 0} (step : S → Numbered → Result S TextFault) (s t : S) (l : Numbered) (ls : List Numbered)
    (r : Result S TextFault)
    → step s l ≡ Ok t → read_each step s (l ∷ ls) ≡ r → read_each step t ls ≡ r
unfolding read_each
more_lines step s t l ls r told read = rw told at read

stopped : {S : Type 0} (step : S → Numbered → Result S TextFault) (s : S) (l : Numbered) (ls : List Numbered)
    (f : TextFault)
    → step s l ≡ Err f → read_each step s (l ∷ ls) ≡ Err f
unfolding read_each
stopped step s l ls f told = rw told refl

no_line : {S : Type 0} (step : S → Numbered → Result S TextFault) (s : S) → read_each step s [] ≡ Ok s
unfolding read_each
no_line step s = refl

lines_of : (old new : Ahead) (l : Line) → Takes old new (Some l) → old.lines ≡ line_of l ∷ new.lines
lines_of old new l h = ap (λ (a : Ahead). a.lines) h.0

-- all lines are read
pub all_read : {S : Type 0} (step : S → Numbered → Result S TextFault) (s : S) (old new : Ahead)
    (r : Result S TextFault)
    → Takes old new None → read_each step s old.lines ≡ r → r ≡ Ok s
all_read step s old new r h read = sym read ∙ ap (read_each step s) h.0 ∙ no_line step s

-- a line without a fault
pub read_on : {S : Type 0} (step : S → Numbered → Result S TextFault) (s t : S) (old new : Ahead) (l : Line)
    (r : Result S TextFault)
    → Takes old new (Some l) → step s (line_of l) ≡ Ok t → read_each step s old.lines ≡ r
    → read_each step t new.lines ≡ r
read_on step s t old new l r h told read =
    more_lines step s t (line_of l) new.lines r told (ap (read_each step s) (sym (lines_of old new l h)) ∙ read)

-- a line with a fault
pub fails_on : {S : Type 0} (step : S → Numbered → Result S TextFault) (s : S) (old new : Ahead) (l : Line)
    (e : TextRefusal) (r : Result S TextFault)
    → Takes old new (Some l) → Refuses e (step s (line_of l)) → read_each step s old.lines ≡ r → Refuses e r
fails_on step s old new l (refusal.BadText line column kind) r h told read =
    sym read ∙ ap (read_each step s) (lines_of old new l h)
    ∙ stopped step s (line_of l) new.lines (text_fault line column kind) told
fails_on step s old new l refusal.OutOfMemory r h told read = tt

-- the number of the line behind the last one stays
pub counts_on : (old new : Ahead) (l : Line) (n : ℕ) → Takes old new (Some l) → old.line + length old.lines ≡ n
    → new.line + length new.lines ≡ n
counts_on old new l n h e =
    let number : old.line ≡ l.number = ap (λ (a : Ahead). a.line) h.0 in
    let long : length old.lines ≡ length (line_of l ∷ new.lines) = ap length (lines_of old new l h) in
    let next : new.line ≡ l.number + 1 = h.1 in
    omega (arith, number, long, next, e)

-- a line less is ahead
pub shorter : (old new : Ahead) (l : Line) → Takes old new (Some l) → length old.lines ≡ length new.lines + 1
shorter old new l h =
    let long : length old.lines ≡ length (line_of l ∷ new.lines) = ap length (lines_of old new l h) in
    omega (arith, long)

-- at the end of the text
pub counted : (old new : Ahead) (n : ℕ) → Takes old new None → old.line + length old.lines ≡ n → new.line ≡ n
counted old new n h e =
    let none : length old.lines ≡ 0 = ap length h.0 in
    let same : new.line ≡ old.line = ap (λ (a : Ahead). a.line) h.1 in
    omega (arith, none, same, e)
