-- A line of a form is read as what the form says.
use Rattle.std.proofs.Common.{◌≡◌, ℕ, ◌+◌, ◌≤◌, List, [], ◌∷◌, ◌++◌, true, false, Result, Ok, Some, None, refl, ap}
use Rattle.std.proofs.Common.{sym, ◌∙◌, subst, map, length, arith}
use Rattle.std.specs.Prelude.{codes, nat_eq, nat_lt, ◌==◌, find}
use Rattle.std.specs.List.{starts_with}
use Rattle.std.proofs.lemmas.Bool.Decides.{nat_tests}
use Rattle.po_word.specs.declared.operator.Bin.TheVariants as bin
use Rattle.po_word.specs.declared.operator.Un.TheVariants as un
use Rattle.po_word.specs.declared.operator.Rel.TheVariants as rel
use Rattle.po_name.specs.Names.{is_name}
use Rattle.po_lines.specs.Words.{Placed, line_words, words_in}
use Rattle.po_lines.specs.Lines.{Numbered}
use Rattle.po_lines.specs.Faults.{TextFault}
use Rattle.po_lines.specs.Forms.{says_nothing}
use Rattle.po_lines.specs.Leaves.{same}
use Rattle.po_lines.specs.NameList.{has}
use Rattle.po_ir.specs.declared.unit.Op.{Op}
use Rattle.po_ir.specs.declared.unit.Jump.{Jump}
use Rattle.po_ir.specs.declared.unit.Key.{Key}
use Rattle.po_ir.specs.declared.unit.Key.TheVariants as key
use Rattle.po_ir.specs.declared.unit.Unit.{Unit as StackUnit}
use Rattle.po_ir.specs.Keys.{key_text, key_of_word}
use Rattle.po_ir.specs.Ops.{key_of, labels_of, target_in, ends_well}
use Rattle.po_ir.specs.Lines.{second_column}
use Rattle.po_ir.specs.Faults.{decided, misses, end_fault}
use Rattle.po_ir.specs.Grammar.{IsArgument, IsOpLine, word_bytes, texts_of, is_silent}
use Rattle.po_ir.specs.Reading.{Open, Sofar, jumps_in, with_op, op_line, closed, key_line, inside_line, unit_name}
use Rattle.po_ir.specs.Reading.{begun_with, outside_line, some_line, words_line, step}
use Rattle.po_ir.proofs.OpLaws.{op_again, name_alone_again, no_more_again}
use Rattle.po_ir.proofs.StepLaws.{open_at}
use Rattle.po_ir.proofs.Allowed.{label_of, labels_append, jump_labels}

-- a key's word is that key's, not `end`, and begins no comment
pub key_facts : (k : Key)
    → (key_of_word (key_text k) ≡ Some k) × (same (key_text k) (codes "end") ≡ false)
    × (starts_with nat_eq (key_text k) (codes "//") ≡ false)
unfolding key_of_word
key_facts key.Con = (refl, refl, refl)
key_facts key.Adl = (refl, refl, refl)
key_facts key.Adg = (refl, refl, refl)
key_facts key.Lod = (refl, refl, refl)
key_facts key.Sto = (refl, refl, refl)
key_facts key.Dup = (refl, refl, refl)
key_facts key.Pop = (refl, refl, refl)
key_facts key.Lab = (refl, refl, refl)
key_facts key.Jmp = (refl, refl, refl)
key_facts key.Arg = (refl, refl, refl)
key_facts key.Call = (refl, refl, refl)
key_facts key.Ret = (refl, refl, refl)
key_facts (key.Bin bin.Add) = (refl, refl, refl)
key_facts (key.Bin bin.Sub) = (refl, refl, refl)
key_facts (key.Bin bin.Mul) = (refl, refl, refl)
key_facts (key.Bin bin.And) = (refl, refl, refl)
key_facts (key.Bin bin.Or) = (refl, refl, refl)
key_facts (key.Bin bin.Xor) = (refl, refl, refl)
key_facts (key.Bin bin.Shl) = (refl, refl, refl)
key_facts (key.Bin bin.Shr) = (refl, refl, refl)
key_facts (key.Bin bin.Sar) = (refl, refl, refl)
key_facts (key.Un un.Neg) = (refl, refl, refl)
key_facts (key.Un un.Not) = (refl, refl, refl)
key_facts (key.Br rel.Eq) = (refl, refl, refl)
key_facts (key.Br rel.Ne) = (refl, refl, refl)
key_facts (key.Br rel.Lt) = (refl, refl, refl)
key_facts (key.Br rel.Le) = (refl, refl, refl)
key_facts (key.Br rel.Gt) = (refl, refl, refl)
key_facts (key.Br rel.Ge) = (refl, refl, refl)
key_facts (key.Br rel.Ltu) = (refl, refl, refl)
key_facts (key.Br rel.Geu) = (refl, refl, refl)

short_line : (n : ℕ) → n ≤ 4096 → nat_lt 4096 n ≡ false
short_line n h = grind (arith, nat_tests)

step_words : (s t : Sofar) (l : Numbered) → length l.bytes ≤ 4096
    → words_line l.number s (words_in l.bytes) (length l.bytes + 1) ≡ Ok t → step s l ≡ Ok t
unfolding step line_words
step_words s t l short e = rw (short_line (length l.bytes) short) e

silent_words : (line : ℕ) (s : Sofar) (ws : List Placed) (end : ℕ) → is_silent (map word_bytes ws) ≡ true
    → words_line line s ws end ≡ Ok s
unfolding words_line says_nothing
silent_words line s [] end h = refl
silent_words line s (w ∷ ws) end h = rw h refl

-- a line that says nothing
pub silent_again : (s : Sofar) (l : Numbered) → length l.bytes ≤ 4096 → is_silent (texts_of l) ≡ true → step s l ≡ Ok s
silent_again s l short h = step_words s s l short (silent_words l.number s (words_in l.bytes) (length l.bytes + 1) h)

-- the unit with one more operation, from a line with these words behind the first
abbrev one_more : ℕ → Open → Op → List Placed → Open
one_more line u o ws =
    record { name = u.name; ops = u.ops ++ o ∷ []; jumps = u.jumps ++ jumps_in line (second_column ws) o }

op_line_again : (line : ℕ) (u : Open) (o : Op) (ws : List Placed) (end : ℕ) → (length u.ops == 65536) ≡ false
    → ((column : ℕ) → decided u.ops o column ≡ None) → IsArgument o (map word_bytes ws)
    → op_line line u (key_of o) ws end ≡ Ok (one_more line u o ws)
unfolding op_line with_op
op_line_again line u o ws end room free h = rw (room, op_again o ws end h, free (second_column ws)) refl

inside_again : (line : ℕ) (us : List StackUnit) (u : Open) (w : Placed) (ws : List Placed) (end : ℕ) (o : Op)
    → (length u.ops == 65536) ≡ false → ((column : ℕ) → decided u.ops o column ≡ None)
    → w.bytes ≡ key_text (key_of o) → IsArgument o (map word_bytes ws)
    → inside_line line us u w ws end ≡ Ok (record { units = us; inside = Some (one_more line u o ws) })
unfolding inside_line key_line
inside_again line us u w ws end o room free e h =
    let k = key_facts (key_of o) in
    rw (e, k.1, k.0, op_line_again line u o ws end room free h) refl

-- the unit goes on with this operation
pub record GoesOn (us : List StackUnit) (u : Open) (o : Op) (r : Result Sofar TextFault) : Type 0 where
  pub jumps : List Jump
  pub labels : map label_of jumps ≡ map label_of u.jumps ++ target_in o
  pub read : r ≡ Ok (open_at us u.name (u.ops ++ o ∷ []) jumps)

op_words_again : (line : ℕ) (us : List StackUnit) (u : Open) (ps : List Placed) (end : ℕ) (o : Op)
    → (length u.ops == 65536) ≡ false → ((column : ℕ) → decided u.ops o column ≡ None)
    → IsOpLine (map word_bytes ps) o → GoesOn us u o (words_line line (record { units = us; inside = Some u }) ps end)
unfolding words_line says_nothing some_line
op_words_again line us u [] end o room free h = absurd (let e = h.2 in cc)
op_words_again line us u (w ∷ ws) end o room free h =
    let first : w.bytes ≡ key_text (key_of o) = (let e = h.2 in cc) in
    let rest : map word_bytes ws ≡ h.0 = (let e = h.2 in cc) in
    let plain : starts_with nat_eq w.bytes (codes "//") ≡ false =
    subst (λ (b : List ℕ). starts_with nat_eq b (codes "//") ≡ false) (sym first) (key_facts (key_of o)).2 in
    record {
      jumps = u.jumps ++ jumps_in line (second_column ws) o;
      labels =
          labels_append u.jumps (jumps_in line (second_column ws) o)
          ∙ ap (λ (r : List (List ℕ)). map label_of u.jumps ++ r) (jump_labels line (second_column ws) o);
      read =
          rw plain (inside_again line us u w ws end o room free first
          (subst (λ (r : List (List ℕ)). IsArgument o r) (sym rest) h.1));
    }

-- a line of an operation that decides no fault
pub op_step_again : (us : List StackUnit) (u : Open) (l : Numbered) (o : Op) → length l.bytes ≤ 4096
    → (length u.ops == 65536) ≡ false → ((column : ℕ) → decided u.ops o column ≡ None)
    → IsOpLine (texts_of l) o → GoesOn us u o (step (record { units = us; inside = Some u }) l)
op_step_again us u l o short room free h =
    let x = op_words_again l.number us u (words_in l.bytes) (length l.bytes + 1) o room free h in
    record { jumps = x.jumps; labels = x.labels; read = step_words _ _ l short x.read }

begin_words : (line : ℕ) (us : List StackUnit) (name : List ℕ) (ps : List Placed) (end : ℕ) → is_name name ≡ true
    → (length us == 65536) ≡ false → has name (map unit_name us) ≡ false
    → map word_bytes ps ≡ codes "unit" ∷ name ∷ []
    → words_line line (record { units = us; inside = None }) ps end ≡ Ok (open_at us name [] [])
unfolding words_line says_nothing some_line outside_line begun_with
begin_words line us name [] end good room new h = cc
begin_words line us name (w ∷ ws) end good room new h =
    let first : w.bytes ≡ codes "unit" = cc in
    let rest : map word_bytes ws ≡ name ∷ [] = cc in
    let plain : starts_with nat_eq w.bytes (codes "//") ≡ false =
    subst (λ (b : List ℕ). starts_with nat_eq b (codes "//") ≡ false) (sym first) refl in
    let is_unit : same w.bytes (codes "unit") ≡ true =
    subst (λ (b : List ℕ). same b (codes "unit") ≡ true) (sym first) refl in
    rw (plain, is_unit, room, name_alone_again name ws end (good, rest), new) refl

-- the first line of a unit
pub begin_again : (us : List StackUnit) (name : List ℕ) (l : Numbered) → length l.bytes ≤ 4096 → is_name name ≡ true
    → (length us == 65536) ≡ false → has name (map unit_name us) ≡ false
    → texts_of l ≡ codes "unit" ∷ name ∷ []
    → step (record { units = us; inside = None }) l ≡ Ok (open_at us name [] [])
begin_again us name l short good room new h =
    step_words _ _ l short (begin_words l.number us name (words_in l.bytes) (length l.bytes + 1) good room new h)

no_end_fault : (line : ℕ) (os : List Op) (js : List Jump) → find (misses (labels_of os)) js ≡ None
    → ends_well os ≡ true → end_fault line os js ≡ None
no_end_fault line os js h e = rw (h, e) refl

end_words : (line : ℕ) (us : List StackUnit) (u : Open) (ps : List Placed) (end : ℕ)
    → find (misses (labels_of u.ops)) u.jumps ≡ None → ends_well u.ops ≡ true
    → map word_bytes ps ≡ codes "end" ∷ []
    → words_line line (record { units = us; inside = Some u }) ps end
    ≡ Ok (record { units = us ++ record { name = u.name; ops = u.ops } ∷ []; inside = None })
unfolding words_line says_nothing some_line inside_line closed
end_words line us u [] end miss last h = cc
end_words line us u (w ∷ ws) end miss last h =
    let first : w.bytes ≡ codes "end" = cc in
    let rest : map word_bytes ws ≡ [] = cc in
    let plain : starts_with nat_eq w.bytes (codes "//") ≡ false =
    subst (λ (b : List ℕ). starts_with nat_eq b (codes "//") ≡ false) (sym first) refl in
    let is_end : same w.bytes (codes "end") ≡ true =
    subst (λ (b : List ℕ). same b (codes "end") ≡ true) (sym first) refl in
    rw (plain, is_end, no_more_again ws rest, no_end_fault line u.ops u.jumps miss last) refl

-- the last line of a unit
pub end_again : (us : List StackUnit) (u : Open) (l : Numbered) → length l.bytes ≤ 4096
    → find (misses (labels_of u.ops)) u.jumps ≡ None → ends_well u.ops ≡ true
    → texts_of l ≡ codes "end" ∷ []
    → step (record { units = us; inside = Some u }) l
    ≡ Ok (record { units = us ++ record { name = u.name; ops = u.ops } ∷ []; inside = None })
end_again us u l short miss last h =
    step_words _ _ l short (end_words l.number us u (words_in l.bytes) (length l.bytes + 1) miss last h)
