-- A line that is written as an entry may be is read as that entry.
use Rattle.std.proofs.Common.{◌≡◌, ℕ, ◌+◌, ◌<◌, ◌≤◌, Bool, true, false, List, [], ◌∷◌, ◌++◌, length, map, All}
use Rattle.std.proofs.Common.{AllPairs, codes, refl, sym, ap, ◌∙◌, subst, arith, zero, suc, Result, Ok, append_assoc}
use Rattle.std.proofs.Common.{append-nil}
use Rattle.std.proofs.Common.{length-append}
use Rattle.std.specs.List.{prefix_len}
use Rattle.std.proofs.lemmas.List.{map-append}
use Rattle.std.proofs.lemmas.List.Elements.{All-head, All-tail}
use Rattle.po_text.specs.Words.{is_blank}
use Rattle.po_lines.specs.declared.fault.LineFault.{LineFault}
use Rattle.po_lines.specs.Faults.{◌>>=◌}
use Rattle.po_lines.specs.Leaves.{same}
use Rattle.po_model.specs.declared.machine.Entry.{Entry}
use Rattle.po_model.specs.declared.machine.PatTransfer.{PatTransfer}
use Rattle.po_model.specs.declared.machine.Piece.{Piece}
use Rattle.po_model.specs.Patterns.{PatMove, pat_moves_of}
use Rattle.po_model.specs.Entries.{Place, GoesBefore, MayClobber, IsPatMove, move_places, places_of, IsEntry}
use Rattle.po_pattern.specs.declared.operands.Operands.{Operands}
use Rattle.po_pattern.specs.Seen.{none_seen}
use Rattle.po_entry.specs.EntryText.{template_text, entry_text}
use Rattle.po_entry.specs.Words.{says}
use Rattle.po_entry.specs.ListRules.{with_next, transfers, clobber_in}
use Rattle.po_entry.specs.Template.{template_in}
use Rattle.po_entry.specs.Reading.{entry_in}
use Rattle.po_entry.specs.Writing as writing
use Rattle.po_entry.specs.Writing.{Form, blanks, word, ◌⨾◌, IsWritten}
use Rattle.po_pattern.proofs.Told.{Tells}
use Rattle.po_entry.proofs.Noted.{noted, Fits, noted_more, fits_front, fits_back}
use Rattle.po_entry.proofs.AgainParts.{at, Again}
use Rattle.po_entry.proofs.AgainMoves.{Follows, word_says, back_move, back_move_again}
use Rattle.po_entry.proofs.AgainFits.{small_moves, from_none}
use Rattle.po_entry.proofs.AgainList.{may_again, before_it}
use Rattle.po_entry.proofs.AgainTemplate.{no_cc, arrow_again, template_again}
use Rattle.po_entry.proofs.Printed.{entry_printed}
use Rattle.po_entry.proofs.ReadsParts.{skips}
use Rattle.po_entry.proofs.ReadsMoves.{word_at, says_it, keyword_reads, follows_byte, move_reads, move_solid}

-- one transfer more

next_reads : (bs : List PatMove) (m : PatMove) (c : ℕ) (from to : List ℕ) (seen : Operands) → writing.move m from to
    → length bs < 4 → IsPatMove m → All (λ b. GoesBefore b m) bs → Fits seen (move_places m) → Follows to
    → Again (with_next (map back_move bs) (at c from) seen) (map back_move (bs ++ m ∷ [])) to
    (noted seen (move_places m))
unfolding with_next
next_reads bs m c from to seen w few h before fits f =
    let got = move_reads m c from to seen w h fits f in
    let is = got.is in
    let may = may_again bs m few h before in
    let more : map back_move (bs ++ m ∷ []) ≡ map back_move bs ++ back_move m ∷ [] = map-append back_move bs (m ∷ [])
    in
    record { column = got.column; is = rw is (rw may (rw more refl)) }

-- what stands behind the transfers: no `;`
record Behind (to : List ℕ) : Type 0 where
  follows : Follows to
  none : (d : ℕ) → says (codes ";") (at d to) ≡ false

list_reads : (ms : List PatMove) (m : PatMove) (more : ℕ) (bs : List PatMove) (c : ℕ) (from to : List ℕ)
    (seen : Operands) → writing.pattern (m ∷ ms) from to → length ms ≤ more → length (bs ++ m ∷ ms) ≤ 4
    → All IsPatMove (m ∷ ms) → AllPairs GoesBefore (bs ++ m ∷ ms) → Fits seen (places_of (m ∷ ms)) → Behind to
    → Again (transfers more (map back_move bs) (at c from) seen) (map back_move (bs ++ m ∷ ms)) to
    (noted seen (places_of (m ∷ ms)))
unfolding transfers
list_reads [] m zero bs c from to seen w room few h pairs fits f =
    let long = length-append bs (m ∷ []) in
    let places : noted seen (places_of (m ∷ [])) ≡ noted seen (move_places m) =
    ap (noted seen) (append-nil (move_places m)) in
    let one : writing.move m from to = subst (λ (x : List ℕ). writing.move m from x) w.2 w.1 in
    let got = next_reads bs m c from to seen one (omega (arith, few, long)) (All-head IsPatMove m [] h)
    (before_it bs [] m pairs) (subst (λ (ps : List Place). Fits seen ps) (append-nil (move_places m)) fits) f.follows
    in
    let is = got.is in
    record { column = got.column; is = rw places is }
list_reads [] m (suc more) bs c from to seen w room few h pairs fits f =
    let long = length-append bs (m ∷ []) in
    let places : noted seen (places_of (m ∷ [])) ≡ noted seen (move_places m) =
    ap (noted seen) (append-nil (move_places m)) in
    let one : writing.move m from to = subst (λ (x : List ℕ). writing.move m from x) w.2 w.1 in
    let got = next_reads bs m c from to seen one (omega (arith, few, long)) (All-head IsPatMove m [] h)
    (before_it bs [] m pairs) (subst (λ (ps : List Place). Fits seen ps) (append-nil (move_places m)) fits) f.follows
    in
    let is = got.is in
    let no = f.none got.column in
    record { column = got.column; is = rw places (rw is (rw no refl)) }
list_reads (n ∷ ms) m zero bs c from to seen w room few h pairs fits f = absurd (omega (arith, room))
list_reads (n ∷ ms) m (suc more) bs c from to seen w room few h pairs fits f =
    let long = length-append bs (m ∷ n ∷ ms) in
    let i = w.2 in
    let j = i.2 in
    let others = All-tail IsPatMove m (n ∷ ms) h in
    let solid = move_solid n i.0 j.0 j.1 (All-head IsPatMove n ms others) in
    let one = next_reads bs m c from w.0 seen w.1 (omega (arith, few, long)) (All-head IsPatMove m (n ∷ ms) h)
    (before_it bs (n ∷ ms) m pairs) (fits_front seen (move_places m) (places_of (n ∷ ms)) fits)
    (follows_byte 59 _ w.0 i.1.1 refl refl) in
    let first = one.is in
    let semicolon = word_at (codes ";") one.column w.0 i.0 i.1 refl solid in
    let yes = says_it (codes ";") one.column w.0 i.0 semicolon in
    let left = semicolon.behind in
    let same : bs ++ m ∷ [] ++ (n ∷ ms) ≡ bs ++ (m ∷ n ∷ ms) = append_assoc bs (m ∷ []) (n ∷ ms) in
    let two = list_reads ms n more (bs ++ m ∷ []) semicolon.column i.0 to (noted seen (move_places m)) j
    (omega (arith, room)) (subst (λ (xs : List PatMove). length xs ≤ 4) (sym same) few) others
    (subst (λ (xs : List PatMove). AllPairs GoesBefore xs) (sym same) pairs)
    (fits_back seen (move_places m) (places_of (n ∷ ms)) fits) f in
    let second = two.is in
    let places : noted seen (places_of (m ∷ n ∷ ms)) ≡ noted (noted seen (move_places m)) (places_of (n ∷ ms)) =
    noted_more seen (move_places m) (places_of (n ∷ ms)) in
    let value : map back_move (bs ++ (m ∷ n ∷ ms)) ≡ map back_move (bs ++ m ∷ [] ++ (n ∷ ms)) =
    ap (map back_move) (sym same) in
    record { column = two.column; is = rw (places, value) (rw first (rw (yes, left) second)) }

pattern_reads : (ms : List PatMove) (c : ℕ) (from to : List ℕ) → writing.pattern ms from to → 1 ≤ length ms
    → length ms ≤ 4 → All IsPatMove ms → AllPairs GoesBefore ms → Fits none_seen (places_of ms) → Behind to
    → Again (transfers 4 [] (at c from) none_seen) (map back_move ms) to (noted none_seen (places_of ms))
pattern_reads [] c from to w some few h pairs fits f = absurd (omega (arith, some))
pattern_reads (m ∷ ms) c from to w some few h pairs fits f = list_reads ms m 4 [] c from to none_seen w
    (omega (arith, few)) few h pairs fits f

pattern_solid : (ms : List PatMove) (from to : List ℕ) → writing.pattern ms from to → 1 ≤ length ms
    → All IsPatMove ms → prefix_len is_blank from ≡ 0
pattern_solid [] from to w some h = absurd (omega (arith, some))
pattern_solid (m ∷ ms) from to w some h = move_solid m from w.0 w.1 (All-head IsPatMove m ms h)

-- `clobber cc`

behind_pattern : (clobbers : Bool) (from to template : List ℕ) → writing.clobber clobbers from to → to ≡ codes "=>"
    ++ (32 ∷ template) → Behind from
behind_pattern false from to template h e = subst (λ (w : List ℕ). Behind w) (sym (h ∙ e)) (record {
  follows = record { solid = refl; plain = refl };
  none = λ d. word_says (codes "=>") (codes ";") d template false refl refl;
})
behind_pattern true from to template h e =
    let solid : prefix_len is_blank h.0 ≡ 0 = (follows_byte 99 _ h.0 h.2.1 refl refl).solid in
    record {
      follows = follows_byte 99 _ from h.1.1 refl refl;
      none = λ d. let word = word_at (codes "clobber") d from h.0 h.1 refl solid in
          ap (λ (x : List ℕ). same x (codes ";")) word.here;
    }

clobber_reads : (clobbers : Bool) (ms : List PatMove) (c : ℕ) (from to template : List ℕ) (seen : Operands)
    → writing.clobber clobbers from to → to ≡ codes "=>" ++ (32 ∷ template) → MayClobber clobbers ms
    → Again (clobber_in (map back_move ms) (at c from) seen) clobbers to seen
unfolding clobber_in
clobber_reads false ms c from to template seen w e h =
    let no : says (codes "clobber") (at c from) ≡ false = ap (λ (x : List ℕ). says (codes "clobber") (at c x)) (w ∙ e)
    ∙ word_says (codes "=>") (codes "clobber") c template false refl refl in
    let same = ap (λ (x : List ℕ). Ok (record { value = false; rest = at c x; seen = seen })) w in
    record { column = c; is = rw no same }
clobber_reads true ms c from to template seen w e h =
    let arrow_solid : prefix_len is_blank to ≡ 0 = ap (prefix_len is_blank) e in
    let one = word_at (codes "clobber") c from w.0 w.1 refl (follows_byte 99 _ w.0 w.2.1 refl refl).solid in
    let yes = says_it (codes "clobber") c from w.0 one in
    let none = no_cc ms h in
    let left = one.behind in
    let two = word_at (codes "cc") one.column w.0 to w.2 refl arrow_solid in
    let cc_word = keyword_reads (codes "cc") one.column w.0 to two in
    record { column = two.column; is = rw yes (rw none (rw left (rw cc_word refl))) }

-- the whole line

-- what stands before `=>`
abbrev pub before_arrow : Entry → Form
before_arrow e = blanks ⨾ word (codes "insn") ⨾ writing.pattern (pat_moves_of e.pattern) ⨾ writing.clobber e.clobbers

abbrev pub with_template : Entry → List Piece → Result Entry LineFault
with_template e pieces = let x : Entry = record {
  pattern = map back_move (pat_moves_of e.pattern);
  clobbers = e.clobbers;
  template = pieces;
} in Ok x

-- a line whose template is read from this column on
pub record Opens (e : Entry) (line template : List ℕ) : Type 0 where
  pub column : ℕ
  pub is : entry_in line ≡ (template_in (noted none_seen (places_of (pat_moves_of e.pattern))) (at column template)
      >>= with_template e)

pub line_opens : (e : Entry) (line template : List ℕ) → IsEntry e
    → before_arrow e line (codes "=>" ++ (32 ∷ template)) → Opens e line template
unfolding entry_in
line_opens e line template h w =
    let ms : List PatMove = pat_moves_of e.pattern in
    let i = w.2 in
    let j = i.2 in
    let seen : Operands = noted none_seen (places_of ms) in
    let tail : List ℕ = codes "=>" ++ (32 ∷ template) in
    let fitted = from_none (places_of ms) h.operands (small_moves ms h.each) in
    let skip = skips 1 line w.0 w.1 (follows_byte 105 _ w.0 i.1.1 refl refl).solid in
    let begun = skip.is in
    let insn = word_at (codes "insn") skip.column w.0 i.0 i.1 refl (pattern_solid ms i.0 j.0 j.1 h.some h.each) in
    let word = keyword_reads (codes "insn") skip.column w.0 i.0 insn in
    let pattern = pattern_reads ms insn.column i.0 j.0 j.1 h.some h.few h.each h.pairs fitted.fits
    (behind_pattern e.clobbers j.0 tail template j.2 refl) in
    let listed = pattern.is in
    let mark = clobber_reads e.clobbers ms pattern.column j.0 tail template seen j.2 refl h.clobber in
    let marked = mark.is in
    let opened = arrow_again mark.column template in
    record { column = mark.column + 2 + 1; is = rw begun (rw word (rw listed (rw marked (rw opened refl)))) }

-- the line up to the template
pub before_template : (e : Entry) (line : List ℕ) → IsWritten e line
    → before_arrow e line (codes "=>" ++ (32 ∷ template_text e.template))
before_template e line w =
    let i = w.2 in
    let j = i.2 in
    let k = j.2 in
    let l = k.2 in
    let arrow_is : k.0 ≡ codes "=>" ++ (32 ∷ template_text e.template) = l.1
    ∙ ap (λ (x : List ℕ). codes "=> " ++ x) (l.2 ∙ append-nil (template_text e.template)) in
    let mark = subst (λ (x : List ℕ). writing.clobber e.clobbers j.0 x) arrow_is k.1 in
    (w.0, w.1, (i.0, i.1, (j.0, j.1, mark)))

-- the operands that the template may have are those that were told
pub seen_of : (e : Entry) → IsEntry e → Tells (noted none_seen (places_of (pat_moves_of e.pattern)))
    (places_of (pat_moves_of e.pattern))
seen_of e h =
    let ms : List PatMove = pat_moves_of e.pattern in
    (from_none (places_of ms) h.operands (small_moves ms h.each)).told

line_reads : (e : Entry) (line : List ℕ) → IsEntry e → IsWritten e line → entry_in line ≡ with_template e e.template
line_reads e line h w =
    let ms : List PatMove = pat_moves_of e.pattern in
    let o = line_opens e line (template_text e.template) h (before_template e line w) in
    let read = template_again (places_of ms) (noted none_seen (places_of ms)) e.template o.column (seen_of e h)
    (small_moves ms h.each) h.template in
    o.is ∙ ap (λ (r : Result (List Piece) LineFault). r >>= with_template e) read

backs : (xs : List PatTransfer) → map back_move (pat_moves_of xs) ≡ xs
backs [] = refl
backs (x ∷ xs) = ap (λ (y : PatTransfer). y ∷ map back_move (pat_moves_of xs)) (back_move_again x)
    ∙ ap (λ (ys : List PatTransfer). x ∷ ys) (backs xs)

pub entry_reads : (e : Entry) (line : List ℕ) → IsEntry e → IsWritten e line → entry_in line ≡ Ok e
entry_reads e line h w = line_reads e line h w
    ∙ ap (λ (xs : List PatTransfer). let x : Entry = record {
      pattern = xs;
      clobbers = e.clobbers;
      template = e.template;
    } in Ok x) (backs e.pattern)

-- the printed line
pub entry_again : (e : Entry) → IsEntry e → entry_in (entry_text e) ≡ Ok e
entry_again e h = entry_reads e (entry_text e) h (entry_printed e h)
