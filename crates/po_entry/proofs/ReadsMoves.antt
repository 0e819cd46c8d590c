-- A transfer that stands as its form says is read.
use Rattle.std.proofs.Common.{◌≡◌, ℕ, ◌+◌, ◌<◌, ◌==◌, Bool, true, false, List, [], ◌∷◌, ◌++◌, length, drop}
use Rattle.std.proofs.Common.{codes, refl, sym, ap, ◌∙◌, subst, arith, Some, Result, Ok}
use Rattle.std.specs.List.{list_all, prefix_len}
use Rattle.std.proofs.lemmas.Cmp.{nat_list_eq_equiv}
use Rattle.std.proofs.Math.Seq.{take-append_seam, drop-append_seam}
use Rattle.po_word.specs.declared.operator.Rel.{Rel}
use Rattle.po_text.specs.Words.{is_blank}
use Rattle.po_lines.specs.declared.fault.LineFault.{LineFault}
use Rattle.po_lines.specs.Leaves.{same}
use Rattle.po_term.specs.declared.term.Reg.TheVariants.{Virt, Fp, Rv, Arg}
use Rattle.po_term.specs.Tree as tree
use Rattle.po_term.specs.Tree.{EachLeaf}
use Rattle.po_termtext.specs.TermText.{rel_text}
use Rattle.po_model.specs.declared.machine.PatReg.{PatReg}
use Rattle.po_model.specs.declared.machine.PatReg.TheVariants.{Any, Fixed}
use Rattle.po_model.specs.declared.machine.PatCond.{PatCond}
use Rattle.po_model.specs.declared.machine.PatCond.TheVariants as condition
use Rattle.po_model.specs.declared.machine.PatTransfer.TheVariants as transfer
use Rattle.po_model.specs.Patterns.{PatTree, PatMove, SetsTo, Compares, Stores, Jumps, Branches, BranchesOn, Calls}
use Rattle.po_model.specs.Patterns.{Returns}
use Rattle.po_model.specs.Entries.{Place, place, OfSym, OfLabel, IsPatReg, IsPatLeaf, IsPatTree, IsPatMove}
use Rattle.po_model.specs.Entries.{reg_places}
use Rattle.po_model.specs.Entries.{tree_places, move_places}
use Rattle.po_pattern.specs.declared.operands.Operands.{Operands}
use Rattle.po_pattern.specs.declared.operands.OperandKind.TheVariants.{Symbol, Label}
use Rattle.po_pattern.specs.Rests.{Read, skip_blanks}
use Rattle.po_pattern.specs.Seen.{with_operand}
use Rattle.po_pattern.specs.Parts as parts
use Rattle.po_entry.specs.EntryText.{operand_text, pat_reg_text}
use Rattle.po_entry.specs.Words.{is_word_byte, word_here, says, after_word, behind_word, ends_word, keyword, ended}
use Rattle.po_entry.specs.Transfers as transfers
use Rattle.po_entry.specs.Writing as writing
use Rattle.po_entry.specs.Writing.{blanks, ends_here, alone, word, ◌⨾◌}
use Rattle.po_entry.proofs.Noted.{noted, Fits, noted_more, fits_front, fits_back}
use Rattle.po_entry.proofs.Backs.{back}
use Rattle.po_entry.proofs.AgainParts.{at, Again, prefix_again, operand_again, Stops}
use Rattle.po_entry.proofs.AgainMoves.{says_other, Follows, reg_behind, rel_word, NoKeyword, other_than_keywords}
use Rattle.po_entry.proofs.AgainMoves.{BeginsSet, named_other, setting, register_set, back_move}
use Rattle.po_entry.proofs.ReadsParts.{skips, blank_stops, operand_bytes}
use Rattle.po_entry.proofs.ReadsTerms.{term_front, front_solid, term_reads, address_reads}
use Rattle.po_entry.proofs.ReadsTerms.{memory_name}

-- words

ends_none : (bs : List ℕ) → ends_here bs ≡ true → prefix_len is_word_byte bs ≡ 0
ends_none [] e = refl
ends_none (b ∷ bs) e = rw e refl

ends_same : (bs : List ℕ) → ends_here bs ≡ true → ends_word bs ≡ true
ends_same [] e = refl
ends_same (b ∷ bs) e = e

here_is : (w between : List ℕ) (c : ℕ) → list_all is_word_byte w ≡ true → ends_here between ≡ true
    → word_here (at c (w ++ between)) ≡ w
unfolding word_here
here_is w between c all ends =
    let long : prefix_len is_word_byte (w ++ between) ≡ length w = prefix_again is_word_byte w between all
    (ends_none between ends) in
    rw long (take-append_seam w between)

left_is : (w between : List ℕ) (c : ℕ) → list_all is_word_byte w ≡ true → ends_here between ≡ true
    → after_word (at c (w ++ between)) ≡ at (c + length w) between
unfolding after_word
left_is w between c all ends =
    let long : prefix_len is_word_byte (w ++ between) ≡ length w = prefix_again is_word_byte w between all
    (ends_none between ends) in
    let left : drop (length w) (w ++ between) ≡ between = drop-append_seam w between in
    rw (long, left) refl

pub record WordAt (w : List ℕ) (c : ℕ) (from to : List ℕ) : Type 0 where
  pub column : ℕ
  pub here : word_here (at c from) ≡ w
  pub behind : behind_word (at c from) ≡ at column to

pub word_at : (w : List ℕ) (c : ℕ) (from to : List ℕ) → word w from to → list_all is_word_byte w ≡ true
    → prefix_len is_blank to ≡ 0 → WordAt w c from to
word_at w c from to h all solid =
    let skip = skips (c + length w) h.0 to h.3 solid in
    record {
      column = skip.column;
      here = ap (λ (x : List ℕ). word_here (at c x)) h.1 ∙ here_is w h.0 c all h.2;
      behind = ap (λ (x : List ℕ). behind_word (at c x)) h.1 ∙ ap skip_blanks (left_is w h.0 c all h.2) ∙ skip.is;
    }

pub says_it : (w : List ℕ) (c : ℕ) (from to : List ℕ) → WordAt w c from to → says w (at c from) ≡ true
says_it w c from to h = ap (λ (v : List ℕ). same v w) h.here ∙ nat_list_eq_equiv.refl w

says_as : (w v : List ℕ) (c : ℕ) (from to : List ℕ) (b : Bool) → WordAt w c from to → same w v ≡ b
    → says v (at c from) ≡ b
says_as w v c from to b h e = ap (λ (x : List ℕ). same x v) h.here ∙ e

pub keyword_reads : (w : List ℕ) (c : ℕ) (from to : List ℕ) → (h : WordAt w c from to) → keyword w (at c from)
    ≡ Ok (at h.column to)
unfolding keyword
keyword_reads w c from to h =
    let yes = says_it w c from to h in
    let behind = h.behind in
    rw yes (ap Ok behind)

-- what stands behind a word begins with this byte
pub follows_byte : (byte : ℕ) (others a : List ℕ) → a ≡ byte ∷ others → is_blank byte ≡ false → (byte == 91) ≡ false
    → Follows a
follows_byte byte others a e f g = subst (λ (w : List ℕ). Follows w) (sym e) (record { solid = rw f refl; plain = g })

-- what ends a word

end_stops : (b : List ℕ) → ends_here b ≡ true → prefix_len is_blank b ≡ 0 → Stops b
end_stops [] e solid = record { name = refl; digit = refl; plain = refl }
end_stops (x ∷ xs) e solid =
    let more : prefix_len is_blank (x ∷ xs) ≡ 1 + prefix_len is_blank xs = rw e refl in
    absurd (omega (arith, more, solid))

alone_stops : (between to : List ℕ) → ends_here between ≡ true → blanks between to → Follows to → Stops between
alone_stops between to ends h f = by_blanks h.0 h.1 h.2
  where
    by_blanks : (bs : List ℕ) → list_all is_blank bs ≡ true → between ≡ bs ++ to → Stops between
    by_blanks [] all e = end_stops between ends (ap (prefix_len is_blank) e ∙ f.solid)
    by_blanks (x ∷ xs) all e = subst (λ (w : List ℕ). Stops w) (sym e) (blank_stops x xs to all f.solid f.plain)

record EndedAt {T : Type 0} (value : T) (c : ℕ) (between to : List ℕ) (seen : Operands) : Type 0 where
  column : ℕ
  is : ended (record { value = value; rest = at c between; seen = seen })
      ≡ Ok (record { value = value; rest = at column to; seen = seen })

ended_reads : {T : Type 0} (value : T) (c : ℕ) (between to : List ℕ) (seen : Operands) → ends_here between ≡ true
    → blanks between to → prefix_len is_blank to ≡ 0 → EndedAt value c between to seen
unfolding ended
ended_reads value c between to seen ends h solid =
    let skip = skips c between to h solid in
    let ends = ends_same between ends in
    let skipped = skip.is in
    record { column = skip.column; is = rw (ends, skipped) refl }

-- whole registers, terms, addresses, labels and symbols

register_reads : (r : PatReg) (c : ℕ) (from to : List ℕ) (seen : Operands) → word (pat_reg_text r) from to → IsPatReg r
    → Fits seen (reg_places r) → Follows to
    → Again (transfers.register (at c from) seen) r to (noted seen (reg_places r))
unfolding transfers.register
register_reads r c from to seen h g fits f =
    let next : Operands = noted seen (reg_places r) in
    let got = reg_behind r c h.0 seen g fits (alone_stops h.0 to h.2 h.3 f) in
    let is : parts.register (at c from) seen ≡ Ok (record { value = r; rest = at got.column h.0; seen = next }) =
    ap (λ (w : List ℕ). parts.register (at c w) seen) h.1 ∙ got.is in
    let end = ended_reads r got.column h.0 to next h.2 h.3 f.solid in
    let ends = end.is in
    record { column = end.column; is = rw is ends }

whole_term : (t : PatTree) (c : ℕ) (from to : List ℕ) (seen : Operands) → alone (writing.term t) from to → IsPatTree t
    → Fits seen (tree_places t) → Follows to
    → Again (transfers.term (at c from) seen) (Some (back t)) to (noted seen (tree_places t))
unfolding transfers.term
whole_term t c from to seen h g fits f =
    let next : Operands = noted seen (tree_places t) in
    let got = term_reads t c from h.0 seen h.1 g fits (alone_stops h.0 to h.2 h.3 f) in
    let is = got.is in
    let end = ended_reads (Some (back t)) got.column h.0 to next h.2 h.3 f.solid in
    let ends = end.is in
    record { column = end.column; is = rw is ends }

whole_address : (t : PatTree) (c : ℕ) (from to : List ℕ) (seen : Operands)
    → alone (writing.term (tree.Read t)) from to → IsPatTree t → Fits seen (tree_places t) → Follows to
    → Again (transfers.address (at c from) seen) (Some (back t)) to (noted seen (tree_places t))
unfolding transfers.address
whole_address t c from to seen h g fits f =
    let next : Operands = noted seen (tree_places t) in
    let got = address_reads t c from h.0 seen h.1 g fits in
    let is = got.is in
    let end = ended_reads (Some (back t)) got.column h.0 to next h.2 h.3 f.solid in
    let ends = end.is in
    record { column = end.column; is = rw is ends }

label_reads : (k c : ℕ) (from to : List ℕ) (seen : Operands) → word (operand_text (codes "@") k) from to → k < 10
    → Fits seen (place k OfLabel false ∷ []) → Follows to
    → Again (transfers.label (at c from) seen) k to (with_operand seen Label k)
unfolding transfers.label parts.label
label_reads k c from to seen h small fits f =
    let next : Operands = with_operand seen Label k in
    let got = operand_again Label k c h.0 seen small fits.0.may in
    let is : parts.operand Label (at c from) seen ≡ Ok (record { value = k; rest = at got.column h.0; seen = next }) =
    ap (λ (w : List ℕ). parts.operand Label (at c w) seen) (operand_bytes 64 k from h.0 small h.1) ∙ got.is in
    let end = ended_reads k got.column h.0 to next h.2 h.3 f.solid in
    let ends = end.is in
    record { column = end.column; is = rw is ends }

symbol_reads : (k c : ℕ) (from to : List ℕ) (seen : Operands) → word (operand_text (codes "&") k) from to → k < 10
    → Fits seen (place k OfSym false ∷ []) → Follows to
    → Again (transfers.symbol (at c from) seen) k to (with_operand seen Symbol k)
unfolding transfers.symbol parts.symbol
symbol_reads k c from to seen h small fits f =
    let next : Operands = with_operand seen Symbol k in
    let got = operand_again Symbol k c h.0 seen small fits.0.may in
    let is : parts.operand Symbol (at c from) seen ≡ Ok (record { value = k; rest = at got.column h.0; seen = next }) =
    ap (λ (w : List ℕ). parts.operand Symbol (at c w) seen) (operand_bytes 38 k from h.0 small h.1) ∙ got.is in
    let end = ended_reads k got.column h.0 to next h.2 h.3 f.solid in
    let ends = end.is in
    record { column = end.column; is = rw is ends }

-- the parts of transfers

term_solid : (t : PatTree) (from to : List ℕ) → alone (writing.term t) from to → IsPatTree t
    → prefix_len is_blank from ≡ 0
term_solid t from to h g = front_solid from (term_front t from h.0 h.1 g.numbers.leaves)

compared_reads : (t u : PatTree) (c : ℕ) (from to : List ℕ) (seen : Operands) → writing.two t u from to → IsPatTree t
    → IsPatTree u → Fits seen (tree_places t) → Fits (noted seen (tree_places t)) (tree_places u) → Follows to
    → Again (transfers.compared (at c from) seen) (Some (record { left = back t; right = back u })) to
    (noted (noted seen (tree_places t)) (tree_places u))
unfolding transfers.compared
compared_reads t u c from to seen h g i fits more f =
    let j = h.2 in
    let one = whole_term t c from h.0 seen h.1 g fits (follows_byte 63 _ h.0 j.1.1 refl refl) in
    let first = one.is in
    let word = word_at (codes "?") one.column h.0 j.0 j.1 refl (term_solid u j.0 to j.2 i) in
    let sign = keyword_reads (codes "?") one.column h.0 j.0 word in
    let two = whole_term u word.column j.0 to (noted seen (tree_places t)) j.2 i more f in
    let second = two.is in
    record { column = two.column; is = rw (first, sign) (rw second refl) }

set_reads : (r : PatReg) (t : PatTree) (c : ℕ) (from to : List ℕ) (seen : Operands)
    → writing.move (SetsTo r t) from to → IsPatReg r → IsPatTree t → Fits seen (reg_places r)
    → Fits (noted seen (reg_places r)) (tree_places t) → Follows to
    → Again (transfers.set_in (at c from) seen) (Some (transfer.Set r (back t))) to
    (noted (noted seen (reg_places r)) (tree_places t))
unfolding transfers.set_in
set_reads r t c from to seen h g i fits more f =
    let j = h.2 in
    let one = register_reads r c from h.0 seen h.1 g fits (follows_byte 58 _ h.0 j.1.1 refl refl) in
    let first = one.is in
    let word = word_at (codes ":=") one.column h.0 j.0 j.1 refl (term_solid t j.0 to j.2 i) in
    let sign = keyword_reads (codes ":=") one.column h.0 j.0 word in
    let two = whole_term t word.column j.0 to (noted seen (reg_places r)) j.2 i more f in
    let second = two.is in
    record { column = two.column; is = rw (first, sign) (rw second refl) }

two_solid : (t u : PatTree) (from to : List ℕ) → writing.two t u from to → IsPatTree t → prefix_len is_blank from ≡ 0
two_solid t u from to h g = term_solid t from h.0 h.1 g

cc_reads : (t u : PatTree) (c : ℕ) (from to : List ℕ) (seen : Operands) → writing.move (Compares t u) from to
    → IsPatTree t → IsPatTree u → Fits seen (tree_places t) → Fits (noted seen (tree_places t)) (tree_places u)
    → Follows to
    → Again (transfers.cc_in (at c from) seen) (Some (transfer.Cc (back t) (back u))) to
    (noted (noted seen (tree_places t)) (tree_places u))
unfolding transfers.cc_in
cc_reads t u c from to seen h g i fits more f =
    let j = h.2 in
    let one = word_at (codes "cc") c from h.0 h.1 refl (follows_byte 58 _ h.0 j.1.1 refl refl).solid in
    let first = keyword_reads (codes "cc") c from h.0 one in
    let two = word_at (codes ":=") one.column h.0 j.0 j.1 refl (two_solid t u j.0 to j.2 g) in
    let sign = keyword_reads (codes ":=") one.column h.0 j.0 two in
    let both = compared_reads t u two.column j.0 to seen j.2 g i fits more f in
    let second = both.is in
    record { column = both.column; is = rw (first, sign) (rw second refl) }

store_reads : (t u : PatTree) (c : ℕ) (from to : List ℕ) (seen : Operands) → writing.move (Stores t u) from to
    → IsPatTree t → IsPatTree u → Fits seen (tree_places t) → Fits (noted seen (tree_places t)) (tree_places u)
    → Follows to
    → Again (transfers.store_in (at c from) seen) (Some (transfer.Store (back t) (back u))) to
    (noted (noted seen (tree_places t)) (tree_places u))
unfolding transfers.store_in
store_reads t u c from to seen h g i fits more f =
    let j = h.2 in
    let one = whole_address t c from h.0 seen h.1 g fits (follows_byte 58 _ h.0 j.1.1 refl refl) in
    let first = one.is in
    let word = word_at (codes ":=") one.column h.0 j.0 j.1 refl (term_solid u j.0 to j.2 i) in
    let sign = keyword_reads (codes ":=") one.column h.0 j.0 word in
    let two = whole_term u word.column j.0 to (noted seen (tree_places t)) j.2 i more f in
    let second = two.is in
    record { column = two.column; is = rw (first, sign) (rw second refl) }

goto_reads : (k c : ℕ) (from to : List ℕ) (seen : Operands) → writing.jump k from to → k < 10
    → Fits seen (place k OfLabel false ∷ []) → Follows to
    → Again (transfers.goto_in (at c from) seen) k to (with_operand seen Label k)
unfolding transfers.goto_in
goto_reads k c from to seen h small fits f =
    let one = word_at (codes "goto") c from h.0 h.1 refl (follows_byte 64 _ h.0 h.2.1 refl refl).solid in
    let first = keyword_reads (codes "goto") c from h.0 one in
    let two = label_reads k one.column h.0 to seen h.2 small fits f in
    let second = two.is in
    record { column = two.column; is = rw first (rw second refl) }

call_reads : (k c : ℕ) (from to : List ℕ) (seen : Operands) → writing.move (Calls k) from to → k < 10
    → Fits seen (place k OfSym false ∷ []) → Follows to
    → Again (transfers.call_in (at c from) seen) k to (with_operand seen Symbol k)
unfolding transfers.call_in
call_reads k c from to seen h small fits f =
    let one = word_at (codes "call") c from h.0 h.1 refl (follows_byte 38 _ h.0 h.2.1 refl refl).solid in
    let first = keyword_reads (codes "call") c from h.0 one in
    let two = symbol_reads k one.column h.0 to seen h.2 small fits f in
    let second = two.is in
    record { column = two.column; is = rw first (rw second refl) }

-- `REL goto @k`
branch_reads : (x : PatCond) (r : Rel) (k c : ℕ) (from to : List ℕ) (seen : Operands)
    → (word (rel_text r) ⨾ writing.jump k) from to → k < 10 → Fits seen (place k OfLabel false ∷ []) → Follows to
    → Again (transfers.branch_in (Some x) (at c from) seen) (Some (transfer.If x r k)) to (with_operand seen Label k)
unfolding transfers.branch_in transfers.relation
branch_reads x r k c from to seen h small fits f =
    let w = rel_word r in
    let found = w.is in
    let one = word_at (rel_text r) c from h.0 h.1 w.word (follows_byte 103 _ h.0 h.2.1.1 refl refl).solid in
    let here = one.here in
    let behind = one.behind in
    let two = goto_reads k one.column h.0 to seen h.2 small fits f in
    let second = two.is in
    record { column = two.column; is = rw (here, found) (rw behind (rw second refl)) }

rel_follows : (r : Rel) (from to : List ℕ) → word (rel_text r) from to → Follows from
rel_follows r from to h = subst (λ (w : List ℕ). Follows w) (sym h.1)
    (let w = rel_word r in record { solid = w.solid h.0; plain = w.plain h.0 })

if_cc_reads : (r : Rel) (k c : ℕ) (from to : List ℕ) (seen : Operands) → writing.move (Branches r k) from to → k < 10
    → Fits seen (place k OfLabel false ∷ []) → Follows to
    → Again (transfers.if_in (at c from) seen) (Some (transfer.If condition.Cc r k)) to (with_operand seen Label k)
unfolding transfers.if_in
if_cc_reads r k c from to seen h small fits f =
    let j = h.2 in
    let one = word_at (codes "if") c from h.0 h.1 refl (follows_byte 99 _ h.0 j.1.1 refl refl).solid in
    let first = keyword_reads (codes "if") c from h.0 one in
    let two = word_at (codes "cc") one.column h.0 j.0 j.1 refl (rel_follows r j.0 j.2.0 j.2.1).solid in
    let yes = says_it (codes "cc") one.column h.0 j.0 two in
    let behind = two.behind in
    let got = branch_reads condition.Cc r k two.column j.0 to seen j.2 small fits f in
    let is = got.is in
    record { column = got.column; is = rw first (rw (yes, behind) (rw is refl)) }

no_cc_here : (t : PatTree) (c : ℕ) (from to : List ℕ) → writing.term t from to → EachLeaf IsPatLeaf t
    → says (codes "cc") (at c from) ≡ false
no_cc_here t c from to h g =
    let front = term_front t from to h g in
    ap (λ (w : List ℕ). says (codes "cc") (at c w)) front.is ∙ says_other front.first 99 c front.others (99 ∷ [])
    front.no_cc

if_two_reads : (t u : PatTree) (r : Rel) (k c : ℕ) (from to : List ℕ) (seen : Operands)
    → writing.move (BranchesOn t u r k) from to → IsPatTree t → IsPatTree u → k < 10 → Fits seen (tree_places t)
    → Fits (noted seen (tree_places t)) (tree_places u)
    → Fits (noted (noted seen (tree_places t)) (tree_places u)) (place k OfLabel false ∷ []) → Follows to
    → Again (transfers.if_in (at c from) seen) (Some (transfer.If (condition.Two (back t) (back u)) r k)) to
    (with_operand (noted (noted seen (tree_places t)) (tree_places u)) Label k)
unfolding transfers.if_in
if_two_reads t u r k c from to seen h g i small fits more last f =
    let j = h.2 in
    let one = word_at (codes "if") c from h.0 h.1 refl (two_solid t u h.0 j.0 j.1 g) in
    let first = keyword_reads (codes "if") c from h.0 one in
    let no = no_cc_here t one.column h.0 j.1.1.0 j.1.1.1 g.numbers.leaves in
    let two = compared_reads t u one.column h.0 j.0 seen j.1 g i fits more (rel_follows r j.0 j.2.0 j.2.1) in
    let second = two.is in
    let got = branch_reads (condition.Two (back t) (back u)) r k two.column j.0 to
    (noted (noted seen (tree_places t)) (tree_places u)) j.2 small last f in
    let is = got.is in
    record { column = got.column; is = rw first (rw (no, second) (rw is refl)) }

-- which transfer stands here

reg_begins : (r : PatReg) (c : ℕ) (from to : List ℕ) → word (pat_reg_text r) from to → IsPatReg r
    → BeginsSet (at c from)
reg_begins r c from to h g = subst (λ (w : List ℕ). BeginsSet (at c w)) (sym h.1) (begins_as r c h.0 h.2 g)
  where
    begins_as : (r : PatReg) (c : ℕ) (between : List ℕ) → ends_here between ≡ true → IsPatReg r
        → BeginsSet (at c (pat_reg_text r ++ between))
    begins_as (Any k) c between e g = record {
      none = other_than_keywords 37 c _ refl refl refl refl;
      cc_no = says_other 37 99 c _ _ refl;
      memory_no = refl;
    }
    begins_as (Fixed (Virt n)) c between e g = absurd g
    begins_as (Fixed Fp) c between e g = record {
      none = other_than_keywords 102 c _ refl refl refl refl;
      cc_no = says_other 102 99 c _ _ refl;
      memory_no = named_other 102 _ _ refl;
    }
    begins_as (Fixed Rv) c between e g = record {
      none = record {
        goto_no = says_other 114 103 c _ _ refl;
        call_no = says_other 114 99 c _ _ refl;
        ret_no = ap (λ (w : List ℕ). same w (codes "ret")) (here_is (codes "rv") between c refl e);
        if_no = says_other 114 105 c _ _ refl;
      };
      cc_no = says_other 114 99 c _ _ refl;
      memory_no = named_other 114 _ _ refl;
    }
    begins_as (Fixed (Arg n)) c between e g = record {
      none = other_than_keywords 97 c _ refl refl refl refl;
      cc_no = says_other 97 99 c _ _ refl;
      memory_no = named_other 97 _ _ refl;
    }

memory_set : (t : PatTree) (c : ℕ) (from to : List ℕ) (seen : Operands) → writing.term (tree.Read t) from to
    → transfers.begins_memory (at c from) ≡ true
    → transfers.transfer_in (at c from) seen ≡ transfers.store_in (at c from) seen
unfolding transfers.setting_in
memory_set t c from to seen h memory =
    let none : NoKeyword (at c from) = subst (λ (w : List ℕ). NoKeyword (at c w)) (sym h.1)
    (other_than_keywords 77 c _ refl refl refl refl) in
    let cc_no : says (codes "cc") (at c from) ≡ false = ap (λ (w : List ℕ). says (codes "cc") (at c w)) h.1
    ∙ says_other 77 99 c _ (99 ∷ []) refl in
    setting (at c from) seen none ∙ rw (cc_no, memory) refl

cc_set : (c : ℕ) (from to : List ℕ) (seen : Operands) → WordAt (codes "cc") c from to
    → transfers.transfer_in (at c from) seen ≡ transfers.cc_in (at c from) seen
unfolding transfers.setting_in
cc_set c from to seen h =
    let yes = says_it (codes "cc") c from to h in
    setting (at c from) seen (record {
      goto_no = says_as (codes "cc") (codes "goto") c from to false h refl;
      call_no = says_as (codes "cc") (codes "call") c from to false h refl;
      ret_no = says_as (codes "cc") (codes "ret") c from to false h refl;
      if_no = says_as (codes "cc") (codes "if") c from to false h refl;
    }) ∙ rw yes refl

if_set : (c : ℕ) (from to : List ℕ) (seen : Operands) → WordAt (codes "if") c from to
    → transfers.transfer_in (at c from) seen ≡ transfers.if_in (at c from) seen
unfolding transfers.transfer_in
if_set c from to seen h =
    let one = says_as (codes "if") (codes "goto") c from to false h refl in
    let two = says_as (codes "if") (codes "call") c from to false h refl in
    let three = says_as (codes "if") (codes "ret") c from to false h refl in
    let yes = says_it (codes "if") c from to h in
    rw (one, two, three, yes) refl

goto_move : (k c : ℕ) (from to : List ℕ) (seen : Operands) → writing.jump k from to → k < 10
    → Fits seen (place k OfLabel false ∷ []) → Follows to
    → Again (transfers.transfer_in (at c from) seen) (Some (transfer.Goto k)) to (with_operand seen Label k)
unfolding transfers.transfer_in
goto_move k c from to seen h small fits f =
    let yes = says_it (codes "goto") c from h.0
    (word_at (codes "goto") c from h.0 h.1 refl (follows_byte 64 _ h.0 h.2.1 refl refl).solid) in
    let got = goto_reads k c from to seen h small fits f in
    let is = got.is in
    record { column = got.column; is = rw yes (rw is refl) }

call_move : (k c : ℕ) (from to : List ℕ) (seen : Operands) → writing.move (Calls k) from to → k < 10
    → Fits seen (place k OfSym false ∷ []) → Follows to
    → Again (transfers.transfer_in (at c from) seen) (Some (transfer.Call k)) to (with_operand seen Symbol k)
unfolding transfers.transfer_in
call_move k c from to seen h small fits f =
    let word = word_at (codes "call") c from h.0 h.1 refl (follows_byte 38 _ h.0 h.2.1 refl refl).solid in
    let no = says_as (codes "call") (codes "goto") c from h.0 false word refl in
    let yes = says_it (codes "call") c from h.0 word in
    let got = call_reads k c from to seen h small fits f in
    let is = got.is in
    record { column = got.column; is = rw (no, yes) (rw is refl) }

ret_move : (c : ℕ) (from to : List ℕ) (seen : Operands) → word (codes "ret") from to → Follows to
    → Again (transfers.transfer_in (at c from) seen) (Some transfer.Ret) to seen
unfolding transfers.transfer_in
ret_move c from to seen h f =
    let word = word_at (codes "ret") c from to h refl f.solid in
    let no = says_as (codes "ret") (codes "goto") c from to false word refl in
    let none = says_as (codes "ret") (codes "call") c from to false word refl in
    let yes = says_it (codes "ret") c from to word in
    let behind = word.behind in
    record { column = word.column; is = rw (no, none, yes) (rw behind refl) }

-- whole transfers

again_as : {T : Type 0} (m n : Result (Read T) LineFault) (value : T) (to : List ℕ) (seen : Operands) → m ≡ n
    → Again n value to seen → Again m value to seen
again_as m n value to seen e a = record { column = a.column; is = e ∙ a.is }

pub move_reads : (m : PatMove) (c : ℕ) (from to : List ℕ) (seen : Operands) → writing.move m from to → IsPatMove m
    → Fits seen (move_places m) → Follows to
    → Again (transfers.transfer_in (at c from) seen) (Some (back_move m)) to (noted seen (move_places m))
move_reads (SetsTo r t) c from to seen w h fits f =
    let got = set_reads r t c from to seen w h.0 h.2 (fits_front seen (reg_places r) (tree_places t) fits)
    (fits_back seen (reg_places r) (tree_places t) fits) f in
    subst (λ (s : Operands). Again (transfers.transfer_in (at c from) seen) (Some (back_move (SetsTo r t))) to s)
    (sym (noted_more seen (reg_places r) (tree_places t)))
    (again_as _ _ _ to _ (register_set (at c from) seen (reg_begins r c from w.0 w.1 h.0)) got)
move_reads (Compares t u) c from to seen w h fits f =
    let got = cc_reads t u c from to seen w h.0 h.1 (fits_front seen (tree_places t) (tree_places u) fits)
    (fits_back seen (tree_places t) (tree_places u) fits) f in
    let word = word_at (codes "cc") c from w.0 w.1 refl (follows_byte 58 _ w.0 w.2.1.1 refl refl).solid in
    subst (λ (s : Operands). Again (transfers.transfer_in (at c from) seen) (Some (back_move (Compares t u))) to s)
    (sym (noted_more seen (tree_places t) (tree_places u)))
    (again_as _ _ _ to _ (cc_set c from w.0 seen word) got)
move_reads (Stores t u) c from to seen w h fits f =
    let got = store_reads t u c from to seen w h.0 h.1 (fits_front seen (tree_places t) (tree_places u) fits)
    (fits_back seen (tree_places t) (tree_places u) fits) f in
    subst (λ (s : Operands). Again (transfers.transfer_in (at c from) seen) (Some (back_move (Stores t u))) to s)
    (sym (noted_more seen (tree_places t) (tree_places u)))
    (again_as _ _ _ to _ (memory_set t c from w.1.0 seen w.1.1 (memory_name t from w.1.0 w.1.1)) got)
move_reads (Jumps k) c from to seen w h fits f = goto_move k c from to seen w h fits f
move_reads (Branches r k) c from to seen w h fits f =
    let word = word_at (codes "if") c from w.0 w.1 refl (follows_byte 99 _ w.0 w.2.1.1 refl refl).solid in
    again_as _ _ _ to _ (if_set c from w.0 seen word) (if_cc_reads r k c from to seen w h fits f)
move_reads (BranchesOn t u r k) c from to seen w h fits f =
    let ts : List Place = tree_places t in
    let us : List Place = tree_places u in
    let last : List Place = place k OfLabel false ∷ [] in
    let fit_one = fits_front seen (ts ++ us) last fits in
    let got = if_two_reads t u r k c from to seen w h.0 h.1 h.2 (fits_front seen ts us fit_one)
    (fits_back seen ts us fit_one)
    (subst (λ (s : Operands). Fits s last) (noted_more seen ts us) (fits_back seen (ts ++ us) last fits)) f in
    let same : noted seen (ts ++ us ++ last) ≡ with_operand (noted (noted seen ts) us) Label k =
    noted_more seen (ts ++ us) last ∙ ap (λ (s : Operands). with_operand s Label k) (noted_more seen ts us) in
    let word = word_at (codes "if") c from w.0 w.1 refl (two_solid t u w.0 w.2.0 w.2.1 h.0) in
    subst (λ (s : Operands). Again (transfers.transfer_in (at c from) seen) (Some (back_move (BranchesOn t u r k))) to
    s) (sym same) (again_as _ _ _ to _ (if_set c from w.0 seen word) got)
move_reads (Calls k) c from to seen w h fits f = call_move k c from to seen w h fits f
move_reads Returns c from to seen w h fits f = ret_move c from to seen w f

pub move_solid : (m : PatMove) (from to : List ℕ) → writing.move m from to → IsPatMove m → prefix_len is_blank from ≡ 0
move_solid (SetsTo (Any k) t) from to w h = ap (prefix_len is_blank) w.1.1
move_solid (SetsTo (Fixed (Virt n)) t) from to w h = absurd h.0
move_solid (SetsTo (Fixed Fp) t) from to w h = ap (prefix_len is_blank) w.1.1
move_solid (SetsTo (Fixed Rv) t) from to w h = ap (prefix_len is_blank) w.1.1
move_solid (SetsTo (Fixed (Arg n)) t) from to w h = ap (prefix_len is_blank) w.1.1
move_solid (Compares t u) from to w h = ap (prefix_len is_blank) w.1.1
move_solid (Stores t u) from to w h = ap (prefix_len is_blank) w.1.1.1
move_solid (Jumps k) from to w h = ap (prefix_len is_blank) w.1.1
move_solid (Branches r k) from to w h = ap (prefix_len is_blank) w.1.1
move_solid (BranchesOn t u r k) from to w h = ap (prefix_len is_blank) w.1.1
move_solid (Calls k) from to w h = ap (prefix_len is_blank) w.1.1
move_solid Returns from to w h = ap (prefix_len is_blank) w.1
