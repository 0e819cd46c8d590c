-- What stands behind a whole line makes no word of it wrong, but for a byte that no template has.
use Rattle.std.proofs.Common.{◌≡◌, ◌≢◌, ℕ, ◌+◌, ◌-◌, ◌≤◌, ◌==◌, ◌&&◌, Bool, true, false, List, [], ◌∷◌, ◌++◌}
use Rattle.std.proofs.Common.{length, length-append, append_assoc, codes, refl, sym, ap, ◌∙◌, subst, arith, ℤ, Option}
use Rattle.std.proofs.Common.{Some, None, Result, Ok, Err}
use Rattle.std.specs.Prelude.{⊤, cond}
use Rattle.std.specs.List.{list_all}
use Rattle.std.proofs.lemmas.Bool.{and_parts}
use Rattle.po_text.specs.declared.fault.Kind.TheVariants as kind
use Rattle.po_name.specs.Names.{is_digit}
use Rattle.po_lines.specs.declared.fault.LineFault.{LineFault}
use Rattle.po_lines.specs.Faults.{◌>>=◌, fault}
use Rattle.po_term.specs.Tree as tree
use Rattle.po_termtext.specs.TermText.{un_text, bin_text, rel_text}
use Rattle.po_model.specs.declared.machine.Bounds.{Bounds}
use Rattle.po_model.specs.declared.machine.Entry.{Entry}
use Rattle.po_model.specs.declared.machine.Piece.{Piece}
use Rattle.po_model.specs.declared.machine.Piece.TheVariants as piece
use Rattle.po_model.specs.Patterns.{PatConst, Exactly, Operand, PatTree, PatMove, SetsTo, Compares, Stores, Jumps}
use Rattle.po_model.specs.Patterns.{Branches, BranchesOn, Calls, Returns, pat_moves_of}
use Rattle.po_model.specs.Entries.{places_of, IsEntry}
use Rattle.po_word.specs.Words.{signed}
use Rattle.po_pattern.specs.declared.operands.Operands.{Operands}
use Rattle.po_pattern.specs.Seen.{none_seen, kind_of}
use Rattle.po_entry.specs.declared.begun.Begun.{Begun}
use Rattle.po_entry.specs.declared.begun.Mark.{Mark}
use Rattle.po_entry.specs.EntryText.{operand_text, pat_reg_text, pat_leaf_text, template_text, is_mark}
use Rattle.po_entry.specs.Kept.{may_stand_in_template, IsNoWholeLine}
use Rattle.po_entry.specs.Reading.{entry_in}
use Rattle.po_entry.specs.Template as template
use Rattle.po_entry.specs.Writing as writing
use Rattle.po_entry.specs.Writing.{Form, nothing, text, ◌⨾◌, blanks, number, alone, word, ends_here}
use Rattle.po_entry.proofs.Noted.{noted}
use Rattle.po_entry.proofs.AgainParts.{at}
use Rattle.po_entry.proofs.AgainFits.{small_moves}
use Rattle.po_entry.proofs.AgainTemplate.{from_here, pieces_again}
use Rattle.po_entry.proofs.Allowed.{entry_allowed}
use Rattle.po_entry.proofs.Written.{entry_written}
use Rattle.po_entry.proofs.ReadsLine.{before_arrow, with_template, line_opens, before_template, seen_of}

-- the form stands there too with bytes behind the line, where something stood behind it
record Further (f : Form) (from to s : List ℕ) : Type 0 where
  some : 1 ≤ length from
  more : f (from ++ s) (to ++ s)

record Goes (f : Form) : Type 0 where
  go : (from to s : List ℕ) → 1 ≤ length to → f from to → Further f from to s

longer : (bytes to : List ℕ) → 1 ≤ length to → 1 ≤ length (bytes ++ to)
longer bytes to h = let long = length-append bytes to in omega (arith, h, long)

goes_text : (bytes : List ℕ) → Goes (text bytes)
goes_text bytes = record {
  go = λ from to s h w. record {
    some = subst (λ (x : List ℕ). 1 ≤ length x) (sym w) (longer bytes to h);
    more = ap (λ (x : List ℕ). x ++ s) w ∙ append_assoc bytes to s;
  };
}

goes_nothing : Goes nothing
goes_nothing = record {
  go = λ from to s h w. record {
    some = subst (λ (x : List ℕ). 1 ≤ length x) (sym w) h;
    more = ap (λ (x : List ℕ). x ++ s) w;
  };
}

goes_blanks : Goes blanks
goes_blanks = record {
  go = λ from to s h w. let t = (goes_text w.0).go from to s h w.2 in
      record { some = t.some; more = (w.0, w.1, t.more) };
}

goes_number : (z : ℤ) → Goes (number z)
goes_number z = record {
  go = λ from to s h w. let t = (goes_text w.0).go from to s h w.2 in
      record { some = t.some; more = (w.0, w.1, t.more) };
}

goes_then : {f g : Form} → Goes f → Goes g → Goes (f ⨾ g)
goes_then {f = f} {g = g} a b = record {
  go = λ from to s h w.
      let two = b.go w.0 to s h w.2 in
      let one = a.go from w.0 s two.some w.1 in
      record { some = one.some; more = (w.0 ++ s, one.more, two.more) };
}

ends_again : (between s : List ℕ) → 1 ≤ length between → ends_here between ≡ true → ends_here (between ++ s) ≡ true
ends_again [] s h e = absurd (omega (arith, h))
ends_again (b ∷ bs) s h e = e

goes_alone : {f : Form} → Goes f → Goes (alone f)
goes_alone {f = f} a = record {
  go = λ from to s h w.
      let two = goes_blanks.go w.0 to s h w.3 in
      let one = a.go from w.0 s two.some w.1 in
      record { some = one.some; more = (w.0 ++ s, one.more, ends_again w.0 s two.some w.2, two.more) };
}

goes_word : (bytes : List ℕ) → Goes (word bytes)
goes_word bytes = goes_alone (goes_text bytes)

-- blanks and then this
behind_blanks : {f : Form} → Goes f → Goes (blanks ⨾ f)
behind_blanks a = goes_then goes_blanks a

goes_range : (range : Option Bounds) → Goes (writing.range range)
goes_range None = goes_nothing
goes_range (Some b) = behind_blanks (goes_then (goes_text (codes "[")) (behind_blanks (goes_then (goes_number b.lo)
    (behind_blanks (goes_then (goes_text (codes ",")) (behind_blanks (goes_then (goes_number b.hi)
    (behind_blanks (goes_text (codes "]"))))))))))

goes_constant : (c : PatConst) → Goes (writing.constant c)
goes_constant (Exactly n) = goes_number (signed n)
goes_constant (Operand k range) = goes_then (goes_text (operand_text (codes "#") k)) (goes_range range)

goes_term : (t : PatTree) → Goes (writing.term t)
goes_term (tree.Const c) = goes_constant c
goes_term (tree.Leaf l) = goes_text (pat_leaf_text l)
goes_term (tree.Read t) = goes_then (goes_text (codes "M")) (behind_blanks (goes_then (goes_text (codes "["))
    (behind_blanks (goes_then (goes_term t) (behind_blanks (goes_text (codes "]")))))))
goes_term (tree.Unary o t) = goes_then (goes_text (un_text o)) (behind_blanks (goes_then (goes_text (codes "("))
    (behind_blanks (goes_then (goes_term t) (behind_blanks (goes_text (codes ")")))))))
goes_term (tree.Binary o t u) = goes_then (goes_text (codes "(")) (behind_blanks (goes_then (goes_term t)
    (behind_blanks (goes_then (goes_text (bin_text o)) (behind_blanks (goes_then (goes_term u)
    (behind_blanks (goes_text (codes ")")))))))))

goes_two : (t u : PatTree) → Goes (writing.two t u)
goes_two t u = goes_then (goes_alone (goes_term t)) (goes_then (goes_word (codes "?")) (goes_alone (goes_term u)))

goes_jump : (k : ℕ) → Goes (writing.jump k)
goes_jump k = goes_then (goes_word (codes "goto")) (goes_word (operand_text (codes "@") k))

goes_move : (m : PatMove) → Goes (writing.move m)
goes_move (SetsTo r t) = goes_then (goes_word (pat_reg_text r)) (goes_then (goes_word (codes ":="))
    (goes_alone (goes_term t)))
goes_move (Compares t u) = goes_then (goes_word (codes "cc")) (goes_then (goes_word (codes ":=")) (goes_two t u))
goes_move (Stores t u) = goes_then (goes_alone (goes_term (tree.Read t))) (goes_then (goes_word (codes ":="))
    (goes_alone (goes_term u)))
goes_move (Jumps k) = goes_jump k
goes_move (Branches r k) = goes_then (goes_word (codes "if")) (goes_then (goes_word (codes "cc"))
    (goes_then (goes_word (rel_text r)) (goes_jump k)))
goes_move (BranchesOn t u r k) = goes_then (goes_word (codes "if")) (goes_then (goes_two t u)
    (goes_then (goes_word (rel_text r)) (goes_jump k)))
goes_move (Calls k) = goes_then (goes_word (codes "call")) (goes_word (operand_text (codes "&") k))
goes_move Returns = goes_word (codes "ret")

goes_others : (ms : List PatMove) → Goes (writing.others ms)
goes_others [] = goes_nothing
goes_others (m ∷ ms) = goes_then (goes_word (codes ";")) (goes_then (goes_move m) (goes_others ms))

goes_pattern : (ms : List PatMove) → Goes (writing.pattern ms)
goes_pattern [] = goes_nothing
goes_pattern (m ∷ ms) = goes_then (goes_move m) (goes_others ms)

goes_clobber : (clobbers : Bool) → Goes (writing.clobber clobbers)
goes_clobber false = goes_nothing
goes_clobber true = goes_then (goes_word (codes "clobber")) (goes_word (codes "cc"))

goes_before : (e : Entry) → Goes (before_arrow e)
goes_before e = behind_blanks (goes_then (goes_word (codes "insn")) (goes_then (goes_pattern (pat_moves_of e.pattern))
    (goes_clobber e.clobbers)))

-- no word is wrong
abbrev NoWrong : {A : Type 0} → Result A LineFault → Type 0
NoWrong (Ok x) = ⊤
NoWrong (Err f) = f.kind ≢ kind.Word

none_bind : {A B : Type 0} (m : Result A LineFault) (g : A → Result B LineFault) → NoWrong m
    → ((x : A) → NoWrong (g x)) → NoWrong (m >>= g)
none_bind (Ok x) g h f = f x
none_bind (Err x) g h f = h

step_right : (seen : Operands) (column byte : ℕ) (pieces : List Piece) (waiting : Option Mark)
    → may_stand_in_template byte ≡ true → NoWrong (template.step_with seen column pieces waiting byte)
step_right seen column byte pieces None h = by_mark (is_mark byte)
  where
    plain_right : NoWrong (template.plain column byte)
    plain_right = rw h tt

    by_mark : (x : Bool) → NoWrong (cond x
        (Ok (record { pieces = pieces; waiting = Some (record { byte = byte; column = column }) }))
        (template.plain column byte >>= (λ p. Ok (template.with_piece pieces p))))
    by_mark true = tt
    by_mark false = none_bind (template.plain column byte) _ plain_right (λ x. tt)
step_right seen column byte pieces (Some mark) h = none_bind (template.marked seen mark byte) _
    (by_test (byte == mark.byte)
    (is_digit byte && template.is_seen (template.kind_by mark.byte) (kind_of seen (byte - 48)))) (λ x. tt)
  where
    by_test : (x y : Bool) → NoWrong (cond x (Ok (piece.Byte byte)) (cond y
        (Ok (template.piece_by (template.kind_by mark.byte) (byte - 48)))
        (Err (fault mark.column kind.ListForm))))
    by_test true y = tt
    by_test false true = tt
    by_test false false = λ w. cc (w)

bytes_right : (seen : Operands) (column : ℕ) (s : Begun) (bs : List ℕ) → list_all may_stand_in_template bs ≡ true
    → NoWrong (template.template_from seen column s bs)
unfolding template.template_from template.template_step
bytes_right seen column s [] h = tt
bytes_right seen column s (b ∷ bs) h =
    let both = and_parts (may_stand_in_template b) (list_all may_stand_in_template bs) h in
    none_bind (template.template_step seen column s b) _ (step_right seen column b s.pieces s.waiting both.0)
    (λ x. bytes_right seen (column + 1) x bs both.1)

whole_right : (pieces : List Piece) (waiting : Option Mark) → NoWrong (template.whole_with pieces waiting)
whole_right pieces None = tt
whole_right pieces (Some mark) = λ w. cc (w)

-- the template of an entry that goes on
template_right : (e : Entry) (c : ℕ) (s : List ℕ) → IsEntry e → list_all may_stand_in_template s ≡ true
    → NoWrong (template.template_in (noted none_seen (places_of (pat_moves_of e.pattern)))
    (at c (template_text e.template ++ s)))
unfolding template.template_in from_here
template_right e c s h right =
    let ms : List PatMove = pat_moves_of e.pattern in
    let all = pieces_again (places_of ms) (noted none_seen (places_of ms)) e.template c [] s (seen_of e h)
    (small_moves ms h.each) h.template in
    none_bind (template.template_from (noted none_seen (places_of ms)) c template.nothing_yet
    (template_text e.template ++ s)) (λ b. template.whole_with b.pieces b.waiting)
    (subst (λ (r : Result Begun LineFault). NoWrong r) (sym all.1)
    (bytes_right (noted none_seen (places_of ms)) all.0 (record { pieces = e.template; waiting = None }) s right))
    (λ b. whole_right b.pieces b.waiting)

wrong_not : {A : Type 0} (column : ℕ) (m : Result A LineFault) → NoWrong m → m ≡ Err (fault column kind.Word) → ⊥
wrong_not column m h e =
    let no : kind.Word ≢ kind.Word = subst (λ (r : Result _ LineFault). NoWrong r) e h in
    no refl

pub no_whole_line : IsNoWholeLine
no_whole_line front s column e right whole wrong =
    let h = entry_allowed front e whole in
    let two = before_template e front (entry_written front e whole) in
    let template : List ℕ = template_text e.template in
    let more = ((goes_before e).go front (codes "=>" ++ (32 ∷ template)) s (omega arith) two).more in
    let o = line_opens e (front ++ s) (template ++ s) h more in
    wrong_not column (entry_in (front ++ s)) (subst (λ (r : Result Entry LineFault). NoWrong r) (sym o.is)
    (none_bind _ (with_template e) (template_right e o.column s h right) (λ x. tt))) wrong
