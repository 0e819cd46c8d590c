-- Two lines that are the same up to an end of a word are read alike up to there: words, transfers, the whole line.
use Rattle.std.proofs.Common.{◌≡◌, ℕ, ◌+◌, ◌-◌, ◌<◌, ◌≤◌, ◌==◌, ◌&&◌, Bool, true, false, not, nat_le, List, [], ◌∷◌}
use Rattle.std.proofs.Common.{◌++◌, leb-true, length, take, drop, codes, refl, sym, ap, ◌∙◌, subst, arith, zero, suc}
use Rattle.std.proofs.Common.{Option, Some, None, Result, Ok, Err}
use Rattle.std.specs.Prelude.{cond, ⊤}
use Rattle.std.specs.List.{prefix_len, list_any}
use Rattle.std.specs.Option.{option_map}
use Rattle.std.proofs.lemmas.Bool.Decides.{nat_tests}
use Rattle.std.proofs.lemmas.List.{length-drop, take-append-le, drop-append-le}
use Rattle.std.proofs.lemmas.List.Sums.{prefix_len-le-length}
use Rattle.po_word.specs.declared.operator.Rel.{Rel}
use Rattle.po_text.specs.Words.{is_blank}
use Rattle.po_text.specs.declared.fault.Kind.TheVariants as kind
use Rattle.po_name.specs.Names.{is_digit}
use Rattle.po_lines.specs.declared.fault.LineFault.{LineFault}
use Rattle.po_lines.specs.Faults.{◌>>=◌, fault}
use Rattle.po_lines.proofs.Results.{err_is}
use Rattle.po_lines.specs.Leaves.{same}
use Rattle.po_model.specs.declared.machine.Entry.{Entry}
use Rattle.po_model.specs.declared.machine.Piece.{Piece}
use Rattle.po_model.specs.declared.machine.Piece.TheVariants as piece
use Rattle.po_model.specs.declared.machine.PatTerm.{PatTerm}
use Rattle.po_model.specs.declared.machine.PatCond.{PatCond}
use Rattle.po_model.specs.declared.machine.PatCond.TheVariants as condition
use Rattle.po_model.specs.declared.machine.PatTransfer.{PatTransfer}
use Rattle.po_model.specs.declared.machine.PatTransfer.TheVariants as transfer
use Rattle.po_pattern.specs.declared.operands.Operands.{Operands}
use Rattle.po_pattern.specs.declared.operands.OperandKind.TheVariants.{Symbol, Label}
use Rattle.po_pattern.specs.Rests.{Rest, Read, behind, skip_blanks, wrong, begins, mark}
use Rattle.po_pattern.specs.Seen.{kind_of, none_seen}
use Rattle.po_pattern.specs.Parts as parts
use Rattle.po_pattern.specs.Terms as terms
use Rattle.po_entry.specs.declared.begun.Begun.{Begun}
use Rattle.po_entry.specs.declared.begun.Mark.{Mark}
use Rattle.po_entry.specs.declared.pair.Pair.{Pair}
use Rattle.po_entry.specs.EntryText.{is_mark}
use Rattle.po_entry.specs.Words.{is_word_byte, word_here, says, after_word, behind_word, ends_word, keyword, ended}
use Rattle.po_entry.specs.Transfers as transfers
use Rattle.po_entry.specs.Transfers.{pair_of}
use Rattle.po_entry.specs.ListRules as rules
use Rattle.po_entry.specs.ListRules.{may_follow, sets_cc}
use Rattle.po_entry.specs.Template as template
use Rattle.po_entry.specs.Reading.{entry_in}
use Rattle.po_entry.specs.Writing.{ends_here}
use Rattle.po_entry.specs.Kept.{IsKept, IsFirst}
use Rattle.po_entry.proofs.AgainParts.{at}
use Rattle.po_entry.proofs.KeptParts.{Two, LateFault, LateAny, LateRest, own_column, skip_column, Late, read_at}
use Rattle.po_entry.proofs.KeptParts.{Rests, same_rest, both_rests, late_rest, Reads, same_fault, both_read, late_read}
use Rattle.po_entry.proofs.KeptParts.{late_bind, late_less, late_cond, reads_bind}
use Rattle.po_entry.proofs.KeptParts.{reads_cond, skip_more, skip_stay, Skipped, inside, outside, skipped}
use Rattle.po_entry.proofs.KeptParts.{Steady, behind_skip, from_here, steady_map, mark_alike, ends_pass, prefix_in}
use Rattle.po_entry.proofs.KeptParts.{name_same, steady_operand, steady_register}
use Rattle.po_entry.proofs.KeptTerms.{term_late, term_alike, steady_address}

-- words

blank_ends : (b : ℕ) → is_blank b ≡ true → is_word_byte b ≡ false
blank_ends b e = ap not e

word_long : (q z : List ℕ) → ends_here z ≡ true → prefix_len is_word_byte (q ++ z) ≡ prefix_len is_word_byte q
word_long q z e = prefix_in is_word_byte q z (ends_pass is_word_byte blank_ends z e)

word_same : (d b : ℕ) (q z : List ℕ) → ends_here z ≡ true → word_here (at d (b ∷ q ++ z))
    ≡ take (prefix_len is_word_byte (b ∷ q)) (b ∷ q)
unfolding word_here
word_same d b q z e =
    let long = word_long (b ∷ q) z e in
    rw long (take-append-le (prefix_len is_word_byte (b ∷ q)) (b ∷ q) z (prefix_len-le-length is_word_byte (b ∷ q)))

word_left : (d b : ℕ) (q z : List ℕ) → ends_here z ≡ true → after_word (at d (b ∷ q ++ z))
    ≡ at (d + prefix_len is_word_byte (b ∷ q)) (drop (prefix_len is_word_byte (b ∷ q)) (b ∷ q) ++ z)
unfolding after_word
word_left d b q z e =
    let long = word_long (b ∷ q) z e in
    let left = drop-append-le (prefix_len is_word_byte (b ∷ q)) (b ∷ q) z
    (prefix_len-le-length is_word_byte (b ∷ q)) in
    rw (long, left) refl

word_room : (k : Two) (d b : ℕ) (q : List ℕ) → d + length (b ∷ q) ≡ k.e → d + prefix_len is_word_byte (b ∷ q)
    + length (drop (prefix_len is_word_byte (b ∷ q)) (b ∷ q)) ≡ k.e
word_room k d b q l = omega (
  arith,
  l,
  length-drop (prefix_len is_word_byte (b ∷ q)) (b ∷ q),
  prefix_len-le-length is_word_byte (b ∷ q),
)

says_same : (w : List ℕ) (k : Two) (d b : ℕ) (q : List ℕ) → says w (at d (b ∷ q ++ k.s)) ≡ says w (at d (b ∷ q ++ k.t))
says_same w k d b q = ap (λ (v : List ℕ). same v w) (word_same d b q k.s k.ends_s ∙ sym (word_same d b q k.t k.ends_t))

after_late : (r : Rest) → r.column ≤ (after_word r).column
unfolding after_word
after_late r = omega arith

behind_late : (r : Rest) → r.column ≤ (behind_word r).column
behind_late r = let one = after_late r in let two = skip_more (after_word r) in omega (arith, one, two)

-- a reader behind the word here
steady_behind : {T : Type 0} (f : Rest → Result (Read T) LineFault) → Steady own_column f
    → Steady own_column (λ r. f (behind_word r))
steady_behind {T = T} f h = record {
  alike = λ k d b q l.
      let n : ℕ = prefix_len is_word_byte (b ∷ q) in
      let p : List ℕ = drop (prefix_len is_word_byte (b ∷ q)) (b ∷ q) in
      subst (λ (u : Rest). Reads own_column k (f (skip_blanks u)) (f (behind_word (at d (b ∷ q ++ k.t)))))
      (sym (word_left d b q k.s k.ends_s))
      (subst (λ (u : Rest). Reads own_column k (f (skip_blanks (at (d + n) (p ++ k.s)))) (f (skip_blanks u)))
      (sym (word_left d b q k.t k.ends_t)) (behind_skip own_column f h k (d + n) p (word_room k d b q l)));
  late = λ r. late_less own_column (behind_word r).column r.column (f (behind_word r)) (behind_late r)
      (h.late (behind_word r));
}

-- what was read, right here
steady_stay : {T : Type 0} (value : T) (o : Operands)
    → Steady own_column (λ r. Ok (record { value = value; rest = r; seen = o }))
steady_stay value o = record {
  alike = λ k d b q l. both_read value d (b ∷ q) o l refl refl;
  late = λ r. omega arith;
}

steady_wrong : {T : Type 0} → Steady {T = T} own_column (λ r. wrong r)
steady_wrong {T = T} = record {
  alike = λ k d b q l. same_fault (fault d kind.Word) refl refl;
  late = λ r. λ w. omega arith;
}

steady_says : {T : Type 0} (w : List ℕ) (f g : Rest → Result (Read T) LineFault) → Steady own_column f
    → Steady own_column g → Steady own_column (λ r. cond (says w r) (f r) (g r))
steady_says w f g h i = record {
  alike = λ k d b q l. reads_cond own_column k _ _ _ _ _ _ (says_same w k d b q) (h.alike k d b q l)
      (i.alike k d b q l);
  late = λ r. late_cond own_column r.column (says w r) _ _ (λ e. h.late r) (λ e. i.late r);
}

steady_then : {S T : Type 0} (f : Rest → Result (Read S) LineFault) → Steady own_column f
    → (g : S → Operands → Rest → Result (Read T) LineFault) → ((v : S) (o : Operands) → Steady own_column (g v o))
    → Steady own_column (λ r. f r >>= (λ x. g x.value x.seen x.rest))
steady_then f h g next = record {
  alike = λ k d b q l. reads_bind own_column own_column k _ _ (λ x. g x.value x.seen x.rest) (h.alike k d b q l)
      (λ v c p o i. from_here (g v o) (next v o) k c p i)
      (λ x i. late_less own_column x.rest.column k.e _ i ((next x.value x.seen).late x.rest));
  late = λ r. late_bind own_column own_column r.column _ (λ x. g x.value x.seen x.rest) (h.late r)
      (λ x i. late_less own_column x.rest.column r.column _ i ((next x.value x.seen).late x.rest));
}

-- a keyword, and what stands behind it; as a choice it has no more cases than `says`
keyword_bind : {T : Type 0} (w : List ℕ) (g : Rest → Result (Read T) LineFault) (r : Rest) → (keyword w r >>= g)
    ≡ cond (says w r) (g (behind_word r)) (wrong r)
unfolding keyword
keyword_bind {T = T} w g r = by_test (says w r)
  where
    by_test : (x : Bool) → (cond x (Ok (behind_word r)) (wrong r) >>= g) ≡ cond x (g (behind_word r)) (wrong r)
    by_test true = refl
    by_test false = refl

steady_as : {T : Type 0} (f g : Rest → Result (Read T) LineFault) → ((r : Rest) → g r ≡ f r) → Steady own_column f
    → Steady own_column g
steady_as {T = T} f g e h = record {
  alike = λ k d b q l.
      subst (λ (m : Result (Read T) LineFault). Reads own_column k m (g (at d (b ∷ q ++ k.t))))
      (sym (e (at d (b ∷ q ++ k.s))))
      (subst (λ (m : Result (Read T) LineFault). Reads own_column k (f (at d (b ∷ q ++ k.s))) m)
      (sym (e (at d (b ∷ q ++ k.t)))) (h.alike k d b q l));
  late = λ r. subst (λ (m : Result (Read T) LineFault). Late own_column r.column m) (sym (e r)) (h.late r);
}

steady_keyword : {T : Type 0} (w : List ℕ) (g : Rest → Result (Read T) LineFault) → Steady own_column g
    → Steady own_column (λ r. keyword w r >>= g)
steady_keyword w g h = steady_as (λ r. cond (says w r) (g (behind_word r)) (wrong r)) (λ r. keyword w r >>= g)
    (λ r. keyword_bind w g r) (steady_says w (λ r. g (behind_word r)) (λ r. wrong r) (steady_behind g h) steady_wrong)

-- what stands alone

stay_column : (c : ℕ) (bs : List ℕ) → ends_word bs ≡ false → skip_column (at c bs) ≡ c
stay_column c [] e = absurd (cc)
stay_column c (b ∷ bs) e = ap (λ (r : Rest). r.column) (skip_stay c b bs e)

ended_late : {T : Type 0} (e : ℕ) (x : Read T) → e ≤ skip_column x.rest → Late own_column e (ended x)
unfolding ended
ended_late e x l = late_cond own_column e (ends_word x.rest.bytes) _ _ (λ h. l)
    (λ h. λ w. let same = stay_column x.rest.column x.rest.bytes h in omega (arith, l, same))

ended_alike : {T : Type 0} (k : Two) (value : T) (c : ℕ) (q : List ℕ) (o : Operands) → c + length q ≡ k.e
    → Reads own_column k (ended (read_at value c (q ++ k.s) o)) (ended (read_at value c (q ++ k.t) o))
unfolding ended
ended_alike k value c [] o l = late_read (ended_late k.e (read_at value c k.s o)
    (let more = skip_more (at c k.s) in omega (arith, l, more)))
ended_alike {T = T} k value c (b ∷ q) o l = reads_cond own_column k (is_blank b) (is_blank b) _ _ _ _ refl
    (by_skip (skipped k c (b ∷ q) l)) (same_fault (fault c kind.Word) refl refl)
  where
    by_skip : Skipped k c (b ∷ q) → Reads own_column k
        (Ok (record { value = value; rest = skip_blanks (at c (b ∷ q ++ k.s)); seen = o }))
        (Ok (record { value = value; rest = skip_blanks (at c (b ∷ q ++ k.t)); seen = o }))
    by_skip (inside d x p i e g) = both_read value d (x ∷ p) o i
        (ap (λ (r : Rest). Ok (record { value = value; rest = r; seen = o })) e)
        (ap (λ (r : Rest). Ok (record { value = value; rest = r; seen = o })) g)
    by_skip (outside i) = late_read i

steady_ended : {T : Type 0} (f : Rest → Result (Read T) LineFault) → Steady skip_column f
    → Steady own_column (λ r. f r >>= (λ x. ended x))
steady_ended f h = record {
  alike = λ k d b q l. reads_bind skip_column own_column k _ _ (λ x. ended x) (h.alike k d b q l)
      (λ v c p o i. ended_alike k v c p o i) (λ x i. ended_late k.e x i);
  late = λ r. late_bind skip_column own_column r.column _ (λ x. ended x) (h.late r)
      (λ x i. ended_late r.column x i);
}

steady_reg : (seen : Operands) → Steady own_column (λ r. transfers.register r seen)
unfolding transfers.register
steady_reg seen = steady_ended (λ r. parts.register r seen) (steady_register seen)

steady_term : (seen : Operands) → Steady own_column (λ r. transfers.term r seen)
unfolding transfers.term
steady_term seen = steady_ended (λ r. terms.term r seen) (record {
  alike = λ k d b q l. term_alike k d (b ∷ q) seen l;
  late = λ r. term_late r.column r seen (skip_more r);
})

steady_addr : (seen : Operands) → Steady own_column (λ r. transfers.address r seen)
unfolding transfers.address
steady_addr seen = steady_ended (λ r. terms.address r seen) (steady_address seen)

steady_label : (seen : Operands) → Steady own_column (λ r. transfers.label r seen)
unfolding transfers.label parts.label
steady_label seen = steady_ended (λ r. parts.operand Label r seen) (steady_operand Label seen)

steady_sym : (seen : Operands) → Steady own_column (λ r. transfers.symbol r seen)
unfolding transfers.symbol parts.symbol
steady_sym seen = steady_ended (λ r. parts.operand Symbol r seen) (steady_operand Symbol seen)

-- transfers

steady_two : (seen : Operands) → Steady own_column (λ r. transfers.compared r seen)
unfolding transfers.compared
steady_two seen = steady_then (λ r. transfers.term r seen) (steady_term seen) _
    (λ v o. steady_keyword (codes "?") _ (steady_map own_column (λ (u : Option PatTerm). pair_of v u)
    (λ r. transfers.term r o) (steady_term o)))

steady_set : (seen : Operands) → Steady own_column (λ r. transfers.set_in r seen)
unfolding transfers.set_in
steady_set seen = steady_then (λ r. transfers.register r seen) (steady_reg seen) _
    (λ v o. steady_keyword (codes ":=") _ (steady_map own_column
    (λ (u : Option PatTerm). option_map (transfer.Set v) u) (λ r. transfers.term r o) (steady_term o)))

steady_cc : (seen : Operands) → Steady own_column (λ r. transfers.cc_in r seen)
unfolding transfers.cc_in
steady_cc seen = steady_keyword (codes "cc") _ (steady_keyword (codes ":=") _ (steady_map own_column
    (λ (p : Option Pair). option_map (λ p. transfer.Cc p.left p.right) p) (λ r. transfers.compared r seen)
    (steady_two seen)))

steady_store : (seen : Operands) → Steady own_column (λ r. transfers.store_in r seen)
unfolding transfers.store_in
steady_store seen = steady_then (λ r. transfers.address r seen) (steady_addr seen) _
    (λ v o. steady_keyword (codes ":=") _ (steady_map own_column
    (λ (u : Option PatTerm). option_map (λ p. transfer.Store p.left p.right) (pair_of v u))
    (λ r. transfers.term r o) (steady_term o)))

steady_goto : (seen : Operands) → Steady own_column (λ r. transfers.goto_in r seen)
unfolding transfers.goto_in
steady_goto seen = steady_keyword (codes "goto") (λ r. transfers.label r seen) (steady_label seen)

steady_call : (seen : Operands) → Steady own_column (λ r. transfers.call_in r seen)
unfolding transfers.call_in
steady_call seen = steady_keyword (codes "call") (λ r. transfers.symbol r seen) (steady_sym seen)

relation_found : (found : Option Rel) (seen : Operands)
    → Steady own_column (λ r. transfers.relation_with r seen found)
relation_found None seen = steady_wrong
relation_found (Some rel) seen = steady_behind (λ r. Ok (record { value = rel; rest = r; seen = seen }))
    (steady_stay rel seen)

steady_relation : (seen : Operands) → Steady own_column (λ r. transfers.relation r seen)
unfolding transfers.relation
steady_relation seen = record {
  alike = λ k d b q l.
      let word : List ℕ = take (prefix_len is_word_byte (b ∷ q)) (b ∷ q) in
      let other : List ℕ = word_here (at d (b ∷ q ++ k.t)) in
      subst (λ (w : List ℕ). Reads own_column k
      (transfers.relation_with (at d (b ∷ q ++ k.s)) seen (transfers.relation_of w))
      (transfers.relation_with (at d (b ∷ q ++ k.t)) seen (transfers.relation_of other)))
      (sym (word_same d b q k.s k.ends_s))
      (subst (λ (w : List ℕ). Reads own_column k
      (transfers.relation_with (at d (b ∷ q ++ k.s)) seen (transfers.relation_of word))
      (transfers.relation_with (at d (b ∷ q ++ k.t)) seen (transfers.relation_of w)))
      (sym (word_same d b q k.t k.ends_t)) ((relation_found (transfers.relation_of word) seen).alike k d b q l));
  late = λ r. (relation_found (transfers.relation_of (word_here r)) seen).late r;
}

steady_branch : (c : Option PatCond) (seen : Operands) → Steady own_column (λ r. transfers.branch_in c r seen)
unfolding transfers.branch_in
steady_branch c seen = steady_then (λ r. transfers.relation r seen) (steady_relation seen) _
    (λ v o. steady_map own_column (λ (j : ℕ). option_map (λ c. transfer.If c v j) c) (λ r. transfers.goto_in r o)
    (steady_goto o))

steady_if : (seen : Operands) → Steady own_column (λ r. transfers.if_in r seen)
unfolding transfers.if_in
steady_if seen = steady_keyword (codes "if") _ (steady_says (codes "cc") _ _
    (steady_behind (λ r. transfers.branch_in (Some condition.Cc) r seen) (steady_branch (Some condition.Cc) seen))
    (steady_then (λ r. transfers.compared r seen) (steady_two seen)
    (λ v o r. transfers.branch_in (option_map (λ p. condition.Two p.left p.right) v) r o)
    (λ v o. steady_branch (option_map (λ p. condition.Two p.left p.right) v) o)))

steady_memory : {T : Type 0} (f g : Rest → Result (Read T) LineFault) → Steady own_column f → Steady own_column g
    → Steady own_column (λ r. cond (transfers.begins_memory r) (f r) (g r))
steady_memory f g h i = record {
  alike = λ k d b q l. reads_cond own_column k _ _ _ _ _ _
      (ap (λ (w : List ℕ). same w (codes "M")) (name_same d b q k.s k.ends_s ∙ sym (name_same d b q k.t k.ends_t)))
      (h.alike k d b q l) (i.alike k d b q l);
  late = λ r. late_cond own_column r.column (transfers.begins_memory r) _ _ (λ e. h.late r) (λ e. i.late r);
}

steady_setting : (seen : Operands) → Steady own_column (λ r. transfers.setting_in r seen)
unfolding transfers.setting_in
steady_setting seen = steady_says (codes "cc") _ _ (steady_cc seen)
    (steady_memory _ _ (steady_store seen) (steady_set seen))

steady_transfer : (seen : Operands) → Steady own_column (λ r. transfers.transfer_in r seen)
unfolding transfers.transfer_in
steady_transfer seen = steady_says (codes "goto") _ _ (steady_map own_column (λ (j : ℕ). Some (transfer.Goto j))
    (λ r. transfers.goto_in r seen) (steady_goto seen))
    (steady_says (codes "call") _ _ (steady_map own_column (λ (j : ℕ). Some (transfer.Call j))
    (λ r. transfers.call_in r seen) (steady_call seen))
    (steady_says (codes "ret") _ _ (steady_behind (λ r. Ok (record {
      value = Some transfer.Ret;
      rest = r;
      seen = seen;
    })) (steady_stay (Some transfer.Ret) seen))
    (steady_says (codes "if") _ _ (steady_if seen) (steady_setting seen))))

-- the list

decided_late : (e column : ℕ) (before : List PatTransfer) (m : Option PatTransfer)
    → LateAny e (rules.decided column before m)
decided_late e column before None = λ w. absurd (cc (w))
decided_late e column before (Some m) = by_test (may_follow before m)
  where
    by_test : (x : Bool) → LateAny e (cond x (Ok (before ++ m ∷ [])) (Err (fault column kind.ListForm)))
    by_test true = tt
    by_test false = λ w. absurd (cc (w))

steady_decided : (before : List PatTransfer) (column : ℕ) (m : Option PatTransfer) (o : Operands)
    → Steady own_column (λ r. rules.decided column before m >>= (λ ms.
    Ok (record { value = ms; rest = r; seen = o })))
steady_decided before column m o = by_result (rules.decided column before m) (λ e. decided_late e column before m)
  where
    by_result : (x : Result (List PatTransfer) LineFault) → ((e : ℕ) → LateAny e x)
        → Steady {T = List PatTransfer} own_column (λ r. x >>= (λ ms. Ok (record { value = ms; rest = r; seen = o })))
    by_result (Ok ms) f = steady_stay ms o
    by_result (Err x) f = record { alike = λ k d b q l. same_fault x refl refl; late = λ r. f r.column }

abbrev next_at : ℕ → List PatTransfer → Operands → Rest → Result (Read (List PatTransfer)) LineFault
next_at column before seen r = transfers.transfer_in r seen >>= (λ m. rules.decided column before m.value >>= (λ ms.
    Ok (record { value = ms; rest = m.rest; seen = m.seen })))

steady_next_at : (column : ℕ) (before : List PatTransfer) (seen : Operands)
    → Steady own_column (next_at column before seen)
steady_next_at column before seen = steady_then (λ r. transfers.transfer_in r seen) (steady_transfer seen)
    (λ v o r. rules.decided column before v >>= (λ ms. Ok (record { value = ms; rest = r; seen = o })))
    (λ v o. steady_decided before column v o)

steady_next : (before : List PatTransfer) (seen : Operands) → Steady own_column (λ r. rules.with_next before r seen)
unfolding rules.with_next
steady_next before seen = record {
  alike = λ k d b q l. (steady_next_at d before seen).alike k d b q l;
  late = λ r. (steady_next_at r.column before seen).late r;
}

steady_transfers : (more : ℕ) (before : List PatTransfer) (seen : Operands)
    → Steady own_column (λ r. rules.transfers more before r seen)
unfolding rules.transfers
steady_transfers zero before seen = steady_next before seen
steady_transfers (suc more) before seen = steady_then (λ r. rules.with_next before r seen) (steady_next before seen)
    (λ v o r. cond (says (codes ";") r) (rules.transfers more v (behind_word r) o)
    (Ok (record { value = v; rest = r; seen = o })))
    (λ v o. steady_says (codes ";") _ _ (steady_behind (λ r. rules.transfers more v r o) (steady_transfers more v o))
    (steady_stay v o))

abbrev clobber_at : ℕ → List PatTransfer → Operands → Rest → Result (Read Bool) LineFault
clobber_at column pattern seen r = rules.clobber_may_stand column pattern >>= (λ allowed.
    keyword (codes "cc") (behind_word r) >>= (λ cc_word. Ok (record { value = true; rest = cc_word; seen = seen })))

abbrev allowed_by : Bool → ℕ → Result ⊤ LineFault
allowed_by x column = cond x (Err (fault column kind.NeverMatches)) (Ok tt)

steady_clobber_at : (column : ℕ) (pattern : List PatTransfer) (seen : Operands)
    → Steady own_column (clobber_at column pattern seen)
steady_clobber_at column pattern seen = by_test (list_any sets_cc pattern)
  where
    by_test : (x : Bool) → Steady {T = Bool} own_column (λ r. allowed_by x column
        >>= (λ allowed. keyword (codes "cc") (behind_word r) >>= (λ cc_word.
        Ok (record { value = true; rest = cc_word; seen = seen }))))
    by_test true = record {
      alike = λ k d b q l. same_fault (fault column kind.NeverMatches) refl refl;
      late = λ r. λ w. absurd (cc (w));
    }
    by_test false = steady_behind (λ u. keyword (codes "cc") u >>= (λ cc_word.
        Ok (record { value = true; rest = cc_word; seen = seen })))
        (steady_keyword (codes "cc") _ (steady_stay true seen))

steady_clobber : (pattern : List PatTransfer) (seen : Operands)
    → Steady own_column (λ r. rules.clobber_in pattern r seen)
unfolding rules.clobber_in
steady_clobber pattern seen = record {
  alike = λ k d b q l. (steady_says (codes "clobber") (clobber_at d pattern seen) _
      (steady_clobber_at d pattern seen) (steady_stay false seen)).alike k d b q l;
  late = λ r. (steady_says (codes "clobber") (clobber_at r.column pattern seen) _
      (steady_clobber_at r.column pattern seen) (steady_stay false seen)).late r;
}

-- the template, which goes to the line's end

-- the same fault, or no wrong word before the front's end
data Last {A : Type 0} (k : Two) (m n : Result A LineFault) : Type 0 where
  same_last : (f : LineFault) → m ≡ Err f → n ≡ Err f → Last k m n
  late_last : LateAny k.e m → Last k m n

any_bind : {A B : Type 0} (e : ℕ) (m : Result A LineFault) (g : A → Result B LineFault) → LateAny e m
    → ((x : A) → LateAny e (g x)) → LateAny e (m >>= g)
any_bind e (Ok x) g h f = f x
any_bind e (Err x) g h f = h

last_bind : {A B : Type 0} (k : Two) (m n : Result A LineFault) (g : A → Result B LineFault) → Last k m n
    → ((x : A) → LateAny k.e (g x)) → Last k (m >>= g) (n >>= g)
last_bind k m n g (same_last f e h) late = same_last f (ap (λ x. x >>= g) e) (ap (λ x. x >>= g) h)
last_bind k m n g (late_last l) late = late_last (any_bind k.e m g l late)

read_any : {S B : Type 0} (e : ℕ) (m : Result (Read S) LineFault) (g : Read S → Result B LineFault)
    → Late own_column e m → ((x : Read S) → e ≤ x.rest.column → LateAny e (g x)) → LateAny e (m >>= g)
read_any e (Ok x) g h f = f x h
read_any e (Err x) g h f = h

rest_any : {B : Type 0} (e : ℕ) (m : Result Rest LineFault) (g : Rest → Result B LineFault)
    → LateRest own_column e m → ((x : Rest) → e ≤ x.column → LateAny e (g x)) → LateAny e (m >>= g)
rest_any e (Ok x) g h f = f x h
rest_any e (Err x) g h f = h

reads_last : {S B : Type 0} (k : Two) (m n : Result (Read S) LineFault) (g : Read S → Result B LineFault)
    → Reads own_column k m n
    → ((v : S) (c : ℕ) (q : List ℕ) (o : Operands) → c + length q ≡ k.e
    → Last k (g (read_at v c (q ++ k.s) o)) (g (read_at v c (q ++ k.t) o)))
    → ((x : Read S) → k.e ≤ x.rest.column → LateAny k.e (g x)) → Last k (m >>= g) (n >>= g)
reads_last k m n g (same_fault f e h) both late = same_last f (ap (λ x. x >>= g) e) (ap (λ x. x >>= g) h)
reads_last k m n g (both_read v c q o l e h) both late =
    subst (λ x. Last k (x >>= g) (n >>= g)) (sym e)
    (subst (λ x. Last k (g (read_at v c (q ++ k.s) o)) (x >>= g)) (sym h) (both v c q o l))
reads_last k m n g (late_read l) both late = late_last (read_any k.e m g l late)

rests_last : {B : Type 0} (k : Two) (m n : Result Rest LineFault) (g : Rest → Result B LineFault)
    → Rests own_column k m n
    → ((c : ℕ) (q : List ℕ) → c + length q ≡ k.e → Last k (g (at c (q ++ k.s))) (g (at c (q ++ k.t))))
    → ((x : Rest) → k.e ≤ x.column → LateAny k.e (g x)) → Last k (m >>= g) (n >>= g)
rests_last k m n g (same_rest f e h) both late = same_last f (ap (λ x. x >>= g) e) (ap (λ x. x >>= g) h)
rests_last k m n g (both_rests c q l e h) both late =
    subst (λ x. Last k (x >>= g) (n >>= g)) (sym e)
    (subst (λ x. Last k (g (at c (q ++ k.s))) (x >>= g)) (sym h) (both c q l))
rests_last k m n g (late_rest l) both late = late_last (rest_any k.e m g l late)

step_late : (e column byte : ℕ) (seen : Operands) (pieces : List Piece) (waiting : Option Mark) → e ≤ column
    → LateAny e (template.step_with seen column pieces waiting byte)
step_late e column byte seen pieces None l = by_mark (is_mark byte)
  where
    plain_late : (x : Bool) → LateAny e (cond x (Ok (piece.Byte byte)) (Err (fault column kind.Word)))
    plain_late true = tt
    plain_late false = λ w. l

    by_mark : (x : Bool) → LateAny e (cond x
        (Ok (record { pieces = pieces; waiting = Some (record { byte = byte; column = column }) }))
        (template.plain column byte >>= (λ p. Ok (template.with_piece pieces p))))
    by_mark true = tt
    by_mark false = any_bind e (template.plain column byte) _ (plain_late (nat_le 32 byte && nat_le byte 126))
        (λ x. tt)
step_late e column byte seen pieces (Some mark) l = any_bind e (template.marked seen mark byte) _
    (by_test (byte == mark.byte)
    (is_digit byte && template.is_seen (template.kind_by mark.byte) (kind_of seen (byte - 48)))) (λ x. tt)
  where
    by_test : (x y : Bool) → LateAny e (cond x (Ok (piece.Byte byte)) (cond y
        (Ok (template.piece_by (template.kind_by mark.byte) (byte - 48)))
        (Err (fault mark.column kind.ListForm))))
    by_test true y = tt
    by_test false true = tt
    by_test false false = λ w. absurd (cc (w))

from_late : (e column : ℕ) (seen : Operands) (s : Begun) (bs : List ℕ) → e ≤ column
    → LateAny e (template.template_from seen column s bs)
unfolding template.template_from template.template_step
from_late e column seen s [] l = tt
from_late e column seen s (b ∷ bs) l = any_bind e (template.template_step seen column s b) _
    (step_late e column b seen s.pieces s.waiting l) (λ x. from_late e (column + 1) seen x bs (omega (arith, l)))

from_alike : (k : Two) (column : ℕ) (seen : Operands) (s : Begun) (q : List ℕ) → column + length q ≡ k.e
    → Last k (template.template_from seen column s (q ++ k.s)) (template.template_from seen column s (q ++ k.t))
unfolding template.template_from
from_alike k column seen s [] l = late_last (from_late k.e column seen s k.s (omega (arith, l)))
from_alike k column seen s (b ∷ q) l = go (template.template_step seen column s b)
    (λ x. from_alike k (column + 1) seen x q (omega (arith, l)))
  where
    go : (m : Result Begun LineFault) → ((x : Begun) → Last k (template.template_from seen (column + 1) x (q ++ k.s))
        (template.template_from seen (column + 1) x (q ++ k.t)))
        → Last k (m >>= (λ x. template.template_from seen (column + 1) x (q ++ k.s)))
        (m >>= (λ x. template.template_from seen (column + 1) x (q ++ k.t)))
    go (Ok x) f = f x
    go (Err x) f = same_last x refl refl

whole_late : (e : ℕ) (pieces : List Piece) (waiting : Option Mark) → LateAny e (template.whole_with pieces waiting)
whole_late e pieces None = tt
whole_late e pieces (Some mark) = λ w. absurd (cc (w))

template_late : (e : ℕ) (seen : Operands) (r : Rest) → e ≤ r.column → LateAny e (template.template_in seen r)
unfolding template.template_in
template_late e seen r l = any_bind e _ _ (from_late e r.column seen template.nothing_yet r.bytes l)
    (λ x. whole_late e x.pieces x.waiting)

template_alike : (k : Two) (c : ℕ) (q : List ℕ) (seen : Operands) → c + length q ≡ k.e
    → Last k (template.template_in seen (at c (q ++ k.s))) (template.template_in seen (at c (q ++ k.t)))
unfolding template.template_in
template_alike k c q seen l = last_bind k _ _ _ (from_alike k c seen template.nothing_yet q l)
    (λ x. whole_late k.e x.pieces x.waiting)

-- `=>`

own_mark : (byte : ℕ) (r : Rest) (e : ℕ) → e ≤ r.column → LateRest own_column e (mark byte r)
unfolding mark
own_mark byte r e l = by_test (begins byte r.bytes)
  where
    by_test : (x : Bool) → LateRest own_column e (cond x (Ok (behind 1 r)) (wrong r))
    by_test true = omega (arith, l)
    by_test false = λ w. l

mark_here : (k : Two) (byte c : ℕ) (q : List ℕ) → c + length q ≡ k.e
    → Rests own_column k (mark byte (at c (q ++ k.s))) (mark byte (at c (q ++ k.t)))
mark_here k byte c [] l = late_rest (own_mark byte (at c k.s) k.e (omega (arith, l)))
mark_here k byte c (b ∷ q) l = mark_alike own_column k byte c b q l

arrow_late : (r : Rest) (e : ℕ) → e ≤ r.column → LateRest own_column e (template.arrow r)
unfolding template.arrow
arrow_late r e l = by_test (says (codes "=>") r)
  where
    by_test : (x : Bool) → LateRest own_column e (cond x (mark 32 (after_word r)) (wrong r))
    by_test true = let more = after_late r in own_mark 32 (after_word r) e (omega (arith, l, more))
    by_test false = λ w. l

rests_cond : (k : Two) (b d : Bool) (x y z w : Result Rest LineFault) → b ≡ d → Rests own_column k x z
    → Rests own_column k y w → Rests own_column k (cond b x y) (cond d z w)
rests_cond k b d x y z w e f g = subst (λ u. Rests own_column k (cond b x y) (cond u z w)) e (by_test b)
  where
    by_test : (b : Bool) → Rests own_column k (cond b x y) (cond b z w)
    by_test true = f
    by_test false = g

arrow_alike : (k : Two) (c : ℕ) (q : List ℕ) → c + length q ≡ k.e
    → Rests own_column k (template.arrow (at c (q ++ k.s))) (template.arrow (at c (q ++ k.t)))
unfolding template.arrow
arrow_alike k c [] l = late_rest (arrow_late (at c k.s) k.e (omega (arith, l)))
arrow_alike k c (b ∷ q) l =
    let n : ℕ = prefix_len is_word_byte (b ∷ q) in
    let p : List ℕ = drop (prefix_len is_word_byte (b ∷ q)) (b ∷ q) in
    rests_cond k _ _ _ _ _ _ (says_same (codes "=>") k c b q)
    (subst (λ (u : Rest). Rests own_column k (mark 32 u) (mark 32 (after_word (at c (b ∷ q ++ k.t)))))
    (sym (word_left c b q k.s k.ends_s))
    (subst (λ (u : Rest). Rests own_column k (mark 32 (at (c + n) (p ++ k.s))) (mark 32 u))
    (sym (word_left c b q k.t k.ends_t)) (mark_here k 32 (c + n) p (word_room k c b q l))))
    (same_rest (fault c kind.Word) refl refl)

-- the line

abbrev behind_clobber : List PatTransfer → Bool → Operands → Rest → Result Entry LineFault
behind_clobber pattern clobbers seen r = template.arrow r >>= (λ start. template.template_in seen start >>= (λ pieces.
    let e : Entry = record { pattern = pattern; clobbers = clobbers; template = pieces } in Ok e))

abbrev behind_list : List PatTransfer → Operands → Rest → Result Entry LineFault
behind_list pattern seen r = rules.clobber_in pattern r seen >>= (λ x. behind_clobber pattern x.value x.seen x.rest)

abbrev behind_insn : Rest → Result Entry LineFault
behind_insn r = rules.transfers 4 [] r none_seen >>= (λ x. behind_list x.value x.seen x.rest)

clobber_rest : (e : ℕ) (pattern : List PatTransfer) (clobbers : Bool) (seen : Operands) (r : Rest) → e ≤ r.column
    → LateAny e (behind_clobber pattern clobbers seen r)
clobber_rest e pattern clobbers seen r l = rest_any e (template.arrow r) _ (arrow_late r e l)
    (λ x i. any_bind e _ _ (template_late e seen x i) (λ y. tt))

clobber_last : (k : Two) (pattern : List PatTransfer) (clobbers : Bool) (seen : Operands) (c : ℕ) (q : List ℕ)
    → c + length q ≡ k.e → Last k (behind_clobber pattern clobbers seen (at c (q ++ k.s)))
    (behind_clobber pattern clobbers seen (at c (q ++ k.t)))
clobber_last k pattern clobbers seen c q l = rests_last k _ _ _ (arrow_alike k c q l)
    (λ d p i. last_bind k _ _ _ (template_alike k d p seen i) (λ y. tt))
    (λ x i. any_bind k.e _ _ (template_late k.e seen x i) (λ y. tt))

list_rest : (e : ℕ) (pattern : List PatTransfer) (seen : Operands) (r : Rest) → e ≤ r.column
    → LateAny e (behind_list pattern seen r)
list_rest e pattern seen r l = read_any e _ _
    (late_less own_column r.column e _ l ((steady_clobber pattern seen).late r))
    (λ x i. clobber_rest e pattern x.value x.seen x.rest i)

list_last : (k : Two) (pattern : List PatTransfer) (seen : Operands) (c : ℕ) (q : List ℕ) → c + length q ≡ k.e
    → Last k (behind_list pattern seen (at c (q ++ k.s))) (behind_list pattern seen (at c (q ++ k.t)))
list_last k pattern seen c q l = reads_last k _ _ _
    (from_here (λ r. rules.clobber_in pattern r seen) (steady_clobber pattern seen) k c q l)
    (λ v d p o i. clobber_last k pattern v o d p i) (λ x i. clobber_rest k.e pattern x.value x.seen x.rest i)

insn_rest : (e : ℕ) (r : Rest) → e ≤ r.column → LateAny e (behind_insn r)
insn_rest e r l = read_any e _ _
    (late_less own_column r.column e _ l ((steady_transfers 4 [] none_seen).late r))
    (λ x i. list_rest e x.value x.seen x.rest i)

insn_last : (k : Two) (c : ℕ) (q : List ℕ) → c + length q ≡ k.e
    → Last k (behind_insn (at c (q ++ k.s))) (behind_insn (at c (q ++ k.t)))
insn_last k c q l = reads_last k _ _ _
    (from_here (λ r. rules.transfers 4 [] r none_seen) (steady_transfers 4 [] none_seen) k c q l)
    (λ v d p o i. list_last k v o d p i) (λ x i. list_rest k.e x.value x.seen x.rest i)

abbrev insn_at : Rest → Result Entry LineFault
insn_at r = keyword (codes "insn") r >>= behind_insn

keyword_late : (w : List ℕ) (r : Rest) (e : ℕ) → e ≤ r.column → LateRest own_column e (keyword w r)
unfolding keyword
keyword_late w r e l = by_test (says w r)
  where
    by_test : (x : Bool) → LateRest own_column e (cond x (Ok (behind_word r)) (wrong r))
    by_test true = let more = behind_late r in omega (arith, l, more)
    by_test false = λ w. l

keyword_alike : (w : List ℕ) (k : Two) (d b : ℕ) (q : List ℕ) → d + length (b ∷ q) ≡ k.e
    → Rests own_column k (keyword w (at d (b ∷ q ++ k.s))) (keyword w (at d (b ∷ q ++ k.t)))
unfolding keyword
keyword_alike w k d b q l =
    let n : ℕ = prefix_len is_word_byte (b ∷ q) in
    let p : List ℕ = drop (prefix_len is_word_byte (b ∷ q)) (b ∷ q) in
    rests_cond k _ _ _ _ _ _ (says_same w k d b q)
    (subst (λ (u : Rest). Rests own_column k (Ok (skip_blanks u)) (Ok (behind_word (at d (b ∷ q ++ k.t)))))
    (sym (word_left d b q k.s k.ends_s))
    (subst (λ (u : Rest). Rests own_column k (Ok (skip_blanks (at (d + n) (p ++ k.s)))) (Ok (skip_blanks u)))
    (sym (word_left d b q k.t k.ends_t)) (by_skip (d + n) p (skipped k (d + n) p (word_room k d b q l)))))
    (same_rest (fault d kind.Word) refl refl)
  where
    by_skip : (c : ℕ) (p : List ℕ) → Skipped k c p → Rests own_column k (Ok (skip_blanks (at c (p ++ k.s))))
        (Ok (skip_blanks (at c (p ++ k.t))))
    by_skip c p (inside a x v i e g) = both_rests a (x ∷ v) i (ap Ok e) (ap Ok g)
    by_skip c p (outside i) = late_rest i

line_last : (k : Two) (front : List ℕ) → 1 + length front ≡ k.e → Last k (insn_at (skip_blanks (at 1 (front ++ k.s))))
    (insn_at (skip_blanks (at 1 (front ++ k.t))))
line_last k front h = by_skip (skipped k 1 front h)
  where
    by_skip : Skipped k 1 front → Last k (insn_at (skip_blanks (at 1 (front ++ k.s))))
        (insn_at (skip_blanks (at 1 (front ++ k.t))))
    by_skip (inside d b p l e g) =
        subst (λ (u : Rest). Last k (insn_at u) (insn_at (skip_blanks (at 1 (front ++ k.t))))) (sym e)
        (subst (λ (u : Rest). Last k (insn_at (at d (b ∷ p ++ k.s))) (insn_at u)) (sym g)
        (rests_last k _ _ _ (keyword_alike (codes "insn") k d b p l) (λ c q i. insn_last k c q i)
        (λ x i. insn_rest k.e x i)))
    by_skip (outside l) = late_last (rest_any k.e _ _
        (keyword_late (codes "insn") (skip_blanks (at 1 (front ++ k.s))) k.e l) (λ x i. insn_rest k.e x i))

fault_kept : (front s t : List ℕ) (column : ℕ) (k : Two) → k.e ≡ 1 + length front → column ≤ length front
    → (m n : Result Entry LineFault) → Last k m n → m ≡ Err (fault column kind.Word)
    → n ≡ Err (fault column kind.Word)
fault_kept front s t column k e l m n (same_last f g h) w = h ∙ sym g ∙ w
fault_kept front s t column k e l m n (late_last i) w =
    let P : Result Entry LineFault → Type 0 = λ x. LateAny k.e x in
    let late : LateFault k.e (fault column kind.Word) = subst P w i in
    let far : k.e ≤ column = late refl in
    absurd (omega (arith, e, l, far))

pub word_kept : IsKept
unfolding entry_in
word_kept front s t column l ends_s ends_t e =
    let k : Two = record { s = s; t = t; ends_s = ends_s; ends_t = ends_t; e = 1 + length front } in
    fault_kept front s t column k refl l _ _ (line_last k front refl) e

column_is : (m n : ℕ) → ◌≡◌ {A = Result Entry LineFault} (Err (fault m kind.Word)) (Err (fault n kind.Word)) → m ≡ n
column_is m n h = ap (λ (f : LineFault). f.column) (err_is h)

pub word_first : IsFirst
word_first front s t column other l ends_s ends_t e f = by_place (nat_le other (length front)) refl
  where
    by_place : (x : Bool) → nat_le other (length front) ≡ x → length front < other
    by_place true h =
        let near : other ≤ length front = leb-true other (length front) h in
        let same = column_is column other (sym e ∙ word_kept front t s other near ends_t ends_s f) in
        absurd (omega (arith, l, near, same))
    by_place false h = grind (arith, nat_tests)
