-- The bytes of a template, taken one by one.
use Rattle.std.proofs.Common.{◌≡◌, ℕ, ◌+◌, ◌<◌, List, [], ◌∷◌, refl, ap, sym, ◌∙◌, Result, Ok, Err, length, drop}
use Rattle.std.proofs.Common.{get_or, add-one, drop-cons}
use Rattle.po_lines.specs.declared.fault.LineFault.{LineFault}
use Rattle.po_lines.specs.declared.fault.LineError.{LineError}
use Rattle.po_lines.specs.declared.fault.LineError.TheVariants as error
use Rattle.po_lines.specs.Faults.{Fails}
use Rattle.po_pattern.specs.declared.operands.Operands.{Operands}
use Rattle.po_entry.specs.declared.begun.Begun.{Begun}
use Rattle.po_entry.specs.Template.{template_step, template_from}

drop_next : (bs : List ℕ) (i : ℕ) → i < length bs → drop i bs ≡ get_or bs i 0 ∷ drop (i + 1) bs
drop_next bs i h = rw (add-one, drop-cons bs i 0) refl

one_more : (seen : Operands) (column : ℕ) (s t : Begun) (b : ℕ) (bs : List ℕ)
    → template_step seen column s b ≡ Ok t → template_from seen column s (b ∷ bs) ≡ template_from seen (column + 1) t
    bs
unfolding template_from
one_more seen column s t b bs told = rw told refl

stopped : (seen : Operands) (column : ℕ) (s : Begun) (b : ℕ) (bs : List ℕ) (f : LineFault)
    → template_step seen column s b ≡ Err f → template_from seen column s (b ∷ bs) ≡ Err f
unfolding template_from
stopped seen column s b bs f told = rw told refl

none_left : (seen : Operands) (column : ℕ) (s : Begun) → template_from seen column s [] ≡ Ok s
unfolding template_from
none_left seen column s = refl

-- a byte without a fault
pub takes_on : (seen : Operands) (column : ℕ) (s t : Begun) (bs : List ℕ) (i : ℕ) (r : Result Begun LineFault)
    → i < length bs → template_step seen column s (get_or bs i 0) ≡ Ok t → template_from seen column s (drop i bs) ≡ r
    → template_from seen (column + 1) t (drop (i + 1) bs) ≡ r
takes_on seen column s t bs i r h told read =
    sym (one_more seen column s t (get_or bs i 0) (drop (i + 1) bs) told)
    ∙ sym (ap (template_from seen column s) (drop_next bs i h)) ∙ read

-- a byte with one
pub fails_on : (seen : Operands) (column : ℕ) (s : Begun) (bs : List ℕ) (i : ℕ) (e : LineError)
    (r : Result Begun LineFault)
    → i < length bs → Fails e (template_step seen column s (get_or bs i 0)) → template_from seen column s (drop i bs)
    ≡ r → Fails e r
fails_on seen column s bs i (error.Fault f) r h told read =
    sym read ∙ ap (template_from seen column s) (drop_next bs i h) ∙ stopped seen column s (get_or bs i 0)
    (drop (i + 1) bs) f told
fails_on seen column s bs i error.Memory r h told read = tt

-- no byte is left
pub all_taken : (seen : Operands) (column : ℕ) (s : Begun) (left : List ℕ) (r : Result Begun LineFault)
    → left ≡ [] → template_from seen column s left ≡ r → r ≡ Ok s
all_taken seen column s left r e read = sym read ∙ ap (template_from seen column s) e ∙ none_left seen column s
