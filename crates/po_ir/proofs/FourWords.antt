-- No line has a form of more than three words, so its first four tell what it says.
use Rattle.std.proofs.Common.{◌≡◌, ℕ, ◌+◌, List, [], ◌∷◌, Result, Ok, Err, Option, Some, None, refl, ap, sym, ◌∙◌}
use Rattle.std.proofs.Common.{take, length}
use Rattle.po_lines.specs.declared.fault.LineFault.{LineFault}
use Rattle.po_lines.specs.Words.{Placed, line_words, first_words}
use Rattle.po_lines.specs.Lines.{Numbered}
use Rattle.po_lines.specs.Faults.{◌>>=◌, text_fault, at_line}
use Rattle.po_lines.specs.Forms.{says_nothing, no_more, first_word, rest_words, name_alone, word_number_alone}
use Rattle.po_lines.proofs.Results.{ok_is, err_is, not_ok, not_err}
use Rattle.po_ir.specs.declared.unit.Key.{Key}
use Rattle.po_ir.specs.declared.unit.Key.TheVariants as key
use Rattle.po_ir.specs.declared.unit.Unit.{Unit as StackUnit}
use Rattle.po_ir.specs.Keys.{key_of_word}
use Rattle.po_ir.specs.Lines.{arg_in_line, call_in_line, alone, op_in}
use Rattle.po_ir.specs.Reading.{Open, Sofar, op_line, key_line, inside_line, outside_line, some_line, words_line, step}

op_four : (k : Key) (a b c : Placed) (ws : List Placed) (end : ℕ)
    → op_in k (a ∷ b ∷ c ∷ ws) end ≡ op_in k (a ∷ b ∷ c ∷ []) end
unfolding op_in alone arg_in_line call_in_line name_alone word_number_alone first_word rest_words no_more
op_four key.Con a b c ws end = refl
op_four key.Adl a b c ws end = refl
op_four key.Adg a b c ws end = refl
op_four key.Lod a b c ws end = refl
op_four key.Sto a b c ws end = refl
op_four (key.Bin o) a b c ws end = refl
op_four (key.Un o) a b c ws end = refl
op_four key.Dup a b c ws end = refl
op_four key.Pop a b c ws end = refl
op_four key.Lab a b c ws end = refl
op_four key.Jmp a b c ws end = refl
op_four (key.Br r) a b c ws end = refl
op_four key.Arg a b c ws end = refl
op_four key.Call a b c ws end = refl
op_four key.Ret a b c ws end = refl

key_four : (line : ℕ) (us : List StackUnit) (u : Open) (k : Option Key) (w a b c : Placed) (ws : List Placed) (end : ℕ)
    → key_line line us u k w (a ∷ b ∷ c ∷ ws) end ≡ key_line line us u k w (a ∷ b ∷ c ∷ []) end
unfolding key_line op_line
key_four line us u None w a b c ws end = refl
key_four line us u (Some k) w a b c ws end = rw (op_four k a b c ws end) refl

line_four : (line : ℕ) (us : List StackUnit) (u : Option Open) (w a b c : Placed) (ws : List Placed) (end : ℕ)
    → some_line line us u w (a ∷ b ∷ c ∷ ws) end ≡ some_line line us u w (a ∷ b ∷ c ∷ []) end
unfolding some_line outside_line inside_line name_alone first_word rest_words no_more
line_four line us None w a b c ws end = refl
line_four line us (Some u) w a b c ws end = rw (key_four line us u (key_of_word w.bytes) w a b c ws end) refl

words_four : (line : ℕ) (s : Sofar) (ws : List Placed) (end : ℕ)
    → words_line line s (take 4 ws) end ≡ words_line line s ws end
unfolding words_line says_nothing
words_four line s [] end = refl
words_four line s (w ∷ []) end = refl
words_four line s (w ∷ a ∷ []) end = refl
words_four line s (w ∷ a ∷ b ∷ []) end = refl
words_four line s (w ∷ a ∷ b ∷ c ∷ ws) end = rw (line_four line s.units s.inside w a b c ws end) refl

read_by : (n : ℕ) (s : Sofar) (end : ℕ) (r : Result (List Placed) LineFault) (ws : List Placed)
    → (r >>= λ vs. Ok (take 4 vs)) ≡ Ok ws
    → (at_line n r >>= λ vs. words_line n s vs end) ≡ words_line n s ws end
read_by n s end (Ok vs) ws e = sym (words_four n s vs end) ∙ ap (λ (x : List Placed). words_line n s x end) (ok_is e)
read_by n s end (Err f) ws e = absurd (not_ok e)

-- a line is read by its first four words
pub step_four : (s : Sofar) (l : Numbered) (ws : List Placed) → first_words 4 l.bytes ≡ Ok ws
    → step s l ≡ words_line l.number s ws (length l.bytes + 1)
unfolding step first_words
step_four s l ws e = read_by l.number s (length l.bytes + 1) (line_words l.bytes) ws e

fault_by : (n : ℕ) (s : Sofar) (end : ℕ) (r : Result (List Placed) LineFault) (f : LineFault)
    → (r >>= λ vs. Ok (take 4 vs)) ≡ Err f
    → (at_line n r >>= λ vs. words_line n s vs end) ≡ Err (text_fault n f.column f.kind)
fault_by n s end (Ok vs) f e = absurd (not_err e)
fault_by n s end (Err g) f e = ap (λ (h : LineFault). Err (text_fault n h.column h.kind)) (err_is e)

-- a line that is too long
pub fault_four : (s : Sofar) (l : Numbered) (f : LineFault) → first_words 4 l.bytes ≡ Err f
    → step s l ≡ Err (text_fault l.number f.column f.kind)
unfolding step first_words
fault_four s l f e = fault_by l.number s (length l.bytes + 1) (line_words l.bytes) f e
