-- Two lines that are the same up to an end of a word are read alike up to there: whole terms.
use Rattle.std.proofs.Common.{◌≡◌, ℕ, ◌+◌, ◌≤◌, ◌==◌, true, false, List, [], ◌∷◌, ◌++◌, length, take, drop}
use Rattle.std.proofs.Common.{codes, refl, sym, ap, ◌∙◌, subst, arith, zero, suc, Option, Some, None, Result, Ok, Err}
use Rattle.std.proofs.Common.{IfOk}
use Rattle.std.specs.Prelude.{nat_eq}
use Rattle.std.specs.List.{prefix_len}
use Rattle.std.proofs.lemmas.Bool.Decides.{nat_tests}
use Rattle.std.proofs.lemmas.List.{length-drop, drop-append-le}
use Rattle.po_word.specs.declared.operator.Bin.{Bin}
use Rattle.po_word.specs.declared.operator.Bin.TheVariants.{Add, Sub, Mul, And, Or, Xor, Shl, Sar, Shr}
use Rattle.po_text.specs.Words.{is_blank}
use Rattle.po_text.specs.declared.fault.Kind.TheVariants as kind
use Rattle.po_name.specs.Names.{is_name_byte}
use Rattle.po_termtext.specs.TermText.{bin_text}
use Rattle.po_lines.specs.declared.fault.LineFault.{LineFault}
use Rattle.po_lines.specs.Faults.{◌>>=◌, fault}
use Rattle.po_lines.specs.Leaves.{same}
use Rattle.po_model.specs.declared.machine.PatReg.{PatReg}
use Rattle.po_model.specs.declared.machine.PatTerm.{PatTerm}
use Rattle.po_model.specs.declared.machine.PatTerm.TheVariants as pat
use Rattle.po_pattern.specs.declared.operands.Operands.{Operands}
use Rattle.po_pattern.specs.declared.part.Part.{Part}
use Rattle.po_pattern.specs.declared.part.Frame.{Frame}
use Rattle.po_pattern.specs.declared.part.Frame.TheVariants as frame
use Rattle.po_pattern.specs.declared.part.Turn.{Turn}
use Rattle.po_pattern.specs.declared.part.Turn.TheVariants.{Opens, Whole}
use Rattle.po_pattern.specs.Rests.{Rest, Read, behind, skip_blanks, mark}
use Rattle.po_pattern.specs.Parts as parts
use Rattle.po_pattern.specs.Terms as terms
use Rattle.po_pattern.specs.Terms.{Reading, opening, bracket, operator_of, operator_length, step, steps, is_whole}
use Rattle.po_pattern.specs.Terms.{whole_of}
use Rattle.po_pattern.proofs.Terms.{term_ends}
use Rattle.po_pattern.proofs.Steps.{steps_whole}
use Rattle.po_entry.specs.Writing.{ends_here}
use Rattle.po_entry.proofs.AgainParts.{at}
use Rattle.po_entry.proofs.WrittenTerms.{operator_written}
use Rattle.po_entry.proofs.ReadsParts.{text_length}
use Rattle.po_entry.proofs.KeptParts.{Two, LateFault, skip_column, Late, read_at, Reads, same_fault, both_read}
use Rattle.po_entry.proofs.KeptParts.{late_read, late_bind, late_rest_bind, late_less, late_cond, reads_bind}
use Rattle.po_entry.proofs.KeptParts.{rests_bind}
use Rattle.po_entry.proofs.KeptParts.{reads_cond, skip_more, Steady, behind_skip, steady_map, mark_alike, mark_late}
use Rattle.po_entry.proofs.KeptParts.{steady_close, name_same, name_left, name_room, steady_any, steady_symbol}
use Rattle.po_entry.proofs.KeptParts.{steady_numeral, steady_fixed, steady_cond, steady_constant}

abbrev leaf_of : PatTerm → Turn
leaf_of t = Whole (Some (record { term = t; size = 1; depth = 1 }))

abbrev frame_at : Frame → Operands → Rest → Result (Read Turn) LineFault
frame_at f seen u = mark (bracket f) u >>= (λ m. Ok (record { value = Opens f; rest = m; seen = seen }))

steady_reg : (seen : Operands) → Steady skip_column (λ r. parts.fixed_register r seen >>= (λ x.
    Ok (record { value = leaf_of (pat.Reg x.value); rest = x.rest; seen = x.seen })))
steady_reg seen = steady_map skip_column (λ (x : PatReg). leaf_of (pat.Reg x)) (λ r. parts.fixed_register r seen)
    (steady_fixed seen)

named_found : (k : Two) (seen : Operands) (d b : ℕ) (q : List ℕ) (found : Option Frame) → d + length (b ∷ q) ≡ k.e
    → Reads skip_column k (terms.named_with (at d (b ∷ q ++ k.s)) seen found)
    (terms.named_with (at d (b ∷ q ++ k.t)) seen found)
named_found k seen d b q None l = (steady_reg seen).alike k d b q l
named_found k seen d b q (Some f) l =
    let n : ℕ = prefix_len is_name_byte (b ∷ q) in
    let p : List ℕ = drop (prefix_len is_name_byte (b ∷ q)) (b ∷ q) in
    let other : Rest = behind (prefix_len is_name_byte (b ∷ q ++ k.t)) (at d (b ∷ q ++ k.t)) in
    subst (λ (u : Rest). Reads skip_column k (frame_at f seen (skip_blanks u)) (frame_at f seen (skip_blanks other)))
    (sym (name_left d b q k.s k.ends_s))
    (subst (λ (u : Rest). Reads skip_column k (frame_at f seen (skip_blanks (at (d + n) (p ++ k.s))))
    (frame_at f seen (skip_blanks u))) (sym (name_left d b q k.t k.ends_t))
    (behind_skip skip_column (frame_at f seen) (steady_close (bracket f) (Opens f) seen) k (d + n) p
    (name_room k d b q l)))

named_alike : (k : Two) (seen : Operands) (d b : ℕ) (q : List ℕ) → d + length (b ∷ q) ≡ k.e
    → Reads skip_column k (terms.named (at d (b ∷ q ++ k.s)) seen) (terms.named (at d (b ∷ q ++ k.t)) seen)
unfolding terms.named
named_alike k seen d b q l =
    let name : List ℕ = take (prefix_len is_name_byte (b ∷ q)) (b ∷ q) in
    let other : List ℕ = parts.name_here (at d (b ∷ q ++ k.t)) in
    subst (λ (w : List ℕ). Reads skip_column k (terms.named_with (at d (b ∷ q ++ k.s)) seen (opening w))
    (terms.named_with (at d (b ∷ q ++ k.t)) seen (opening other))) (sym (name_same d b q k.s k.ends_s))
    (subst (λ (w : List ℕ). Reads skip_column k (terms.named_with (at d (b ∷ q ++ k.s)) seen (opening name))
    (terms.named_with (at d (b ∷ q ++ k.t)) seen (opening w))) (sym (name_same d b q k.t k.ends_t))
    (named_found k seen d b q (opening name) l))

named_late : (r : Rest) (seen : Operands) → Late skip_column r.column (terms.named r seen)
unfolding terms.named
named_late r seen = by_found (opening (parts.name_here r))
  where
    by_found : (found : Option Frame) → Late skip_column r.column (terms.named_with r seen found)
    by_found None = (steady_reg seen).late r
    by_found (Some f) =
        let u : Rest = behind (prefix_len is_name_byte r.bytes) r in
        let more = skip_more (behind (prefix_len is_name_byte r.bytes) r) in
        late_less skip_column (skip_column u) r.column _ (omega (arith, more))
        ((steady_close (bracket f) (Opens f) seen).late (skip_blanks u))

steady_marked : (byte : ℕ) (seen : Operands) → Steady skip_column (λ r. terms.marked_leaf byte r seen)
unfolding terms.marked_leaf
steady_marked byte seen =
    steady_cond skip_column (byte == 37) _ _ (steady_map skip_column (λ (x : PatReg). pat.Reg x)
    (λ r. parts.any_register r seen) (steady_any seen))
    (steady_cond skip_column (byte == 35) _ _ (steady_constant seen)
    (steady_cond skip_column (byte == 38) _ _ (steady_symbol seen) (steady_numeral seen)))

steady_leaf : (byte : ℕ) (seen : Operands) → Steady skip_column (λ r. terms.marked_leaf byte r seen >>= (λ x.
    Ok (record { value = leaf_of x.value; rest = x.rest; seen = x.seen })))
steady_leaf byte seen = steady_map skip_column leaf_of (λ r. terms.marked_leaf byte r seen) (steady_marked byte seen)

wanted_late : (r : Rest) (seen : Operands) (bs : List ℕ) → Late skip_column r.column (terms.wanted_with r seen bs)
wanted_late r seen [] = λ w. omega arith
wanted_late r seen (b ∷ bs) = late_cond skip_column r.column (b == 40) _ _
    (λ e. let more = skip_more (behind 1 r) in omega (arith, more))
    (λ e. late_cond skip_column r.column (terms.begins_leaf b) _ _ (λ g. (steady_leaf b seen).late r)
    (λ g. named_late r seen))

steady_wanted : (seen : Operands) → Steady skip_column (λ r. terms.wanted r seen)
unfolding terms.wanted
steady_wanted seen = record {
  alike = λ k d b q l. reads_cond skip_column k (b == 40) (b == 40) _ _ _ _ refl
      (both_read (Opens frame.Left) (d + 1) q seen (omega (arith, l)) refl refl)
      (reads_cond skip_column k (terms.begins_leaf b) (terms.begins_leaf b) _ _ _ _ refl
      ((steady_leaf b seen).alike k d b q l) (named_alike k seen d b q l));
  late = λ r. wanted_late r seen r.bytes;
}

-- operators

no_byte : (c x : ℕ) → is_blank x ≡ true → (c ≡ 62) → nat_eq c x ≡ false
no_byte c x e h = grind (arith, nat_tests)

no_other : (c x : ℕ) → is_blank x ≡ true → (c ≡ 60) → nat_eq c x ≡ false
no_other c x e h = grind (arith, nat_tests)

operator_is : (b : ℕ) (q z : List ℕ) → ends_here z ≡ true → operator_of (b ∷ q ++ z) ≡ operator_of (b ∷ q)
operator_is b [] [] e = refl
operator_is b [] (x ∷ xs) e =
    let one = no_byte 62 x e refl in
    let two = no_other 60 x e refl in
    rw (one, two) refl
operator_is b (y ∷ []) [] e = refl
operator_is b (y ∷ []) (x ∷ xs) e = let one = no_byte 62 x e refl in rw one refl
operator_is b (y ∷ v ∷ q) z e = refl

operator_size : (o : Bin) → length (bin_text o) ≡ operator_length o
operator_size Add = refl
operator_size Sub = refl
operator_size Mul = refl
operator_size And = refl
operator_size Or = refl
operator_size Xor = refl
operator_size Shl = refl
operator_size Sar = refl
operator_size Shr = refl

operator_fits : (bs : List ℕ) (o : Bin) → operator_of bs ≡ Some o → operator_length o ≤ length bs
operator_fits bs o e = omega (
  arith,
  text_length (bin_text o) bs (drop (operator_length o) bs)
      (operator_written bs o e),
  operator_size o,
)

operator_found : (k : Two) (left : Option Part) (seen : Operands) (d b : ℕ) (q : List ℕ) (found : Option Bin)
    → operator_of (b ∷ q) ≡ found → d + length (b ∷ q) ≡ k.e
    → Reads skip_column k (terms.operator_with left (at d (b ∷ q ++ k.s)) seen found)
    (terms.operator_with left (at d (b ∷ q ++ k.t)) seen found)
operator_found k left seen d b q None e l = same_fault (fault d kind.Word) refl refl
operator_found k left seen d b q (Some o) e l =
    let fits = operator_fits (b ∷ q) o e in
    let p : List ℕ = drop (operator_length o) (b ∷ q) in
    both_read (Opens (frame.Right o left)) (d + operator_length o) p seen
    (omega (arith, l, fits, length-drop (operator_length o) (b ∷ q)))
    (ap (λ (w : List ℕ). Ok (read_at (Opens (frame.Right o left)) (d + operator_length o) w seen))
    (drop-append-le (operator_length o) (b ∷ q) k.s fits))
    (ap (λ (w : List ℕ). Ok (read_at (Opens (frame.Right o left)) (d + operator_length o) w seen))
    (drop-append-le (operator_length o) (b ∷ q) k.t fits))

operator_late : (left : Option Part) (r : Rest) (seen : Operands) (found : Option Bin)
    → Late skip_column r.column (terms.operator_with left r seen found)
operator_late left r seen None = λ w. omega arith
operator_late left r seen (Some o) = let more = skip_more (behind (operator_length o) r) in omega (arith, more)

steady_operator : (left : Option Part) (seen : Operands) → Steady skip_column (λ r. terms.operator left r seen)
unfolding terms.operator
steady_operator left seen = record {
  alike = λ k d b q l.
      let found = operator_of (b ∷ q) in
      subst (λ (x : Option Bin). Reads skip_column k (terms.operator_with left (at d (b ∷ q ++ k.s)) seen x)
      (terms.operator_with left (at d (b ∷ q ++ k.t)) seen (operator_of (b ∷ q ++ k.t))))
      (sym (operator_is b q k.s k.ends_s))
      (subst (λ (x : Option Bin). Reads skip_column k
      (terms.operator_with left (at d (b ∷ q ++ k.s)) seen (operator_of (b ∷ q)))
      (terms.operator_with left (at d (b ∷ q ++ k.t)) seen x)) (sym (operator_is b q k.t k.ends_t))
      (operator_found k left seen d b q (operator_of (b ∷ q)) refl l));
  late = λ r. operator_late left r seen (operator_of r.bytes);
}

steady_behind : (f : Frame) (part : Option Part) (seen : Operands)
    → Steady skip_column (λ r. terms.behind_whole f part r seen)
unfolding terms.behind_whole terms.closed
steady_behind frame.Memory part seen = steady_close 93 (Whole (terms.memory_part part)) seen
steady_behind (frame.Unary o) part seen = steady_close 41 (Whole (terms.unary_part o part)) seen
steady_behind frame.Left part seen = steady_operator part seen
steady_behind (frame.Right o left) part seen = steady_close 41 (Whole (terms.binary_part o left part)) seen

-- steps

abbrev state : List Frame → Turn → ℕ → List ℕ → Operands → Reading
state frames turn c bytes seen = record { frames = frames; turn = read_at turn c bytes seen }

abbrev LateState : ℕ → Result Reading LineFault → Type 0
LateState e (Ok x) = e ≤ skip_column x.turn.rest
LateState e (Err f) = LateFault e f

data States (k : Two) (m n : Result Reading LineFault) : Type 0 where
  same_state : (f : LineFault) → m ≡ Err f → n ≡ Err f → States k m n
  both_states : (frames : List Frame) (turn : Turn) (c : ℕ) (q : List ℕ) (seen : Operands) → c + length q ≡ k.e
      → m ≡ Ok (state frames turn c (q ++ k.s) seen) → n ≡ Ok (state frames turn c (q ++ k.t) seen) → States k m n
  late_state : LateState k.e m → States k m n

abbrev framed : List Frame → Read Turn → Result Reading LineFault
framed frames turn = Ok (record { frames = frames; turn = turn })

turn_states : (k : Two) (frames : List Frame) (m n : Result (Read Turn) LineFault) → Reads skip_column k m n
    → States k (m >>= framed frames) (n >>= framed frames)
turn_states k frames m n (same_fault f e h) = same_state f (ap (λ x. x >>= framed frames) e)
    (ap (λ x. x >>= framed frames) h)
turn_states k frames m n (both_read v c q seen l e h) = both_states frames v c q seen l
    (ap (λ x. x >>= framed frames) e) (ap (λ x. x >>= framed frames) h)
turn_states k frames m n (late_read l) = late_state (turn_late m l)
  where
    turn_late : (m : Result (Read Turn) LineFault) → Late skip_column k.e m → LateState k.e (m >>= framed frames)
    turn_late (Ok x) l = l
    turn_late (Err f) l = l

turned_late : (e : ℕ) (frames : List Frame) (m : Result (Read Turn) LineFault) → Late skip_column e m
    → LateState e (m >>= framed frames)
turned_late e frames (Ok x) l = l
turned_late e frames (Err f) l = l

step_alike : (k : Two) (frames : List Frame) (turn : Turn) (c : ℕ) (q : List ℕ) (seen : Operands)
    → c + length q ≡ k.e
    → States k (step (state frames turn c (q ++ k.s) seen)) (step (state frames turn c (q ++ k.t) seen))
unfolding step
step_alike k frames (Opens f) c q seen h = turn_states k (f ∷ frames) _ _
    (behind_skip skip_column (λ r. terms.wanted r seen) (steady_wanted seen) k c q h)
step_alike k [] (Whole part) c q seen h = both_states [] (Whole part) c q seen h refl refl
step_alike k (f ∷ fs) (Whole part) c q seen h = turn_states k fs _ _
    (behind_skip skip_column (λ r. terms.behind_whole f part r seen) (steady_behind f part seen) k c q h)

step_late : (e : ℕ) (frames : List Frame) (turn : Turn) (r : Rest) (seen : Operands) → e ≤ skip_column r
    → LateState e (terms.step_with frames turn r seen)
step_late e frames (Opens f) r seen l = turned_late e (f ∷ frames) _
    (late_less skip_column (skip_column r) e _ l ((steady_wanted seen).late (skip_blanks r)))
step_late e [] (Whole part) r seen l = l
step_late e (f ∷ fs) (Whole part) r seen l = turned_late e fs _
    (late_less skip_column (skip_column r) e _ l ((steady_behind f part seen).late (skip_blanks r)))

steps_late : (n e : ℕ) (s : Reading) → e ≤ skip_column s.turn.rest → LateState e (steps n s)
unfolding steps step
steps_late zero e s l = l
steps_late (suc n) e s l = go (step s) (step_late e s.frames s.turn.value s.turn.rest s.turn.seen l)
    (λ t i. steps_late n e t i)
  where
    go : (m : Result Reading LineFault) → LateState e m → ((t : Reading) → e ≤ skip_column t.turn.rest
        → LateState e (steps n t)) → LateState e (m >>= (λ t. steps n t))
    go (Ok t) l f = f t l
    go (Err x) l f = l

states_bind : (k : Two) (n : ℕ) (m o : Result Reading LineFault) → States k m o
    → ((frames : List Frame) (turn : Turn) (c : ℕ) (q : List ℕ) (seen : Operands) → c + length q ≡ k.e
    → States k (steps n (state frames turn c (q ++ k.s) seen)) (steps n (state frames turn c (q ++ k.t) seen)))
    → States k (m >>= (λ t. steps n t)) (o >>= (λ t. steps n t))
states_bind k n m o (same_state f e h) both = same_state f (ap (λ x. x >>= (λ t. steps n t)) e)
    (ap (λ x. x >>= (λ t. steps n t)) h)
states_bind k n m o (both_states frames turn c q seen l e h) both =
    subst (λ x. States k (x >>= (λ t. steps n t)) (o >>= (λ t. steps n t))) (sym e)
    (subst (λ x. States k (steps n (state frames turn c (q ++ k.s) seen)) (x >>= (λ t. steps n t))) (sym h)
    (both frames turn c q seen l))
states_bind k n m o (late_state l) both = late_state (go m l)
  where
    go : (m : Result Reading LineFault) → LateState k.e m → LateState k.e (m >>= (λ t. steps n t))
    go (Ok t) l = steps_late n k.e t l
    go (Err x) l = l

steps_alike : (n : ℕ) (k : Two) (frames : List Frame) (turn : Turn) (c : ℕ) (q : List ℕ) (seen : Operands)
    → c + length q ≡ k.e
    → States k (steps n (state frames turn c (q ++ k.s) seen)) (steps n (state frames turn c (q ++ k.t) seen))
unfolding steps
steps_alike zero k frames turn c q seen h = both_states frames turn c q seen h refl refl
steps_alike (suc n) k frames turn c q seen h = states_bind k n _ _ (step_alike k frames turn c q seen h)
    (λ gs u a p o l. steps_alike n k gs u a p o l)

-- more steps change nothing

steps_sum : (n j : ℕ) (s : Reading) → steps (n + j) s ≡ (steps n s >>= (λ t. steps j t))
unfolding steps
steps_sum zero j s = let same : zero + j ≡ j = omega arith in ap (λ (i : ℕ). steps i s) same
steps_sum (suc n) j s =
    let same : suc n + j ≡ suc (n + j) = omega arith in
    ap (λ (i : ℕ). steps i s) same ∙ go (step s) (λ t. steps_sum n j t)
  where
    go : (m : Result Reading LineFault) → ((t : Reading) → steps (n + j) t ≡ (steps n t >>= (λ u. steps j u)))
        → (m >>= (λ t. steps (n + j) t)) ≡ ((m >>= (λ t. steps n t)) >>= (λ u. steps j u))
    go (Ok t) f = f t
    go (Err x) f = refl

more_steps : (j : ℕ) (m : Result Reading LineFault) → IfOk m (λ s. is_whole s ≡ true) → (m >>= (λ t. steps j t)) ≡ m
more_steps j (Ok s) h = steps_whole j s h
more_steps j (Err x) h = refl

abbrev ending : Reading → Result (Read (Option PatTerm)) LineFault
ending last = Ok (record { value = whole_of last.turn.value; rest = last.turn.rest; seen = last.turn.seen })

abbrev term_by : ℕ → Rest → Operands → Result (Read (Option PatTerm)) LineFault
term_by n r seen = terms.wanted (skip_blanks r) seen >>= (λ first. steps n (record { frames = []; turn = first })
    >>= ending)

term_is : (r : Rest) (seen : Operands) (j : ℕ) → terms.term r seen ≡ term_by (length r.bytes + j) r seen
unfolding terms.term
term_is r seen j = go (terms.wanted (skip_blanks r) seen) refl
  where
    go : (m : Result (Read Turn) LineFault) → terms.wanted (skip_blanks r) seen ≡ m
        → (m >>= (λ first. steps (length r.bytes) (record { frames = []; turn = first }) >>= ending))
        ≡ (m >>= (λ first. steps (length r.bytes + j) (record { frames = []; turn = first }) >>= ending))
    go (Ok first) e = ap (λ (x : Result Reading LineFault). x >>= ending)
        (sym (steps_sum (length r.bytes) j (record { frames = []; turn = first })
        ∙ more_steps j (steps (length r.bytes) (record { frames = []; turn = first })) (term_ends r seen first e)))
    go (Err x) e = refl

states_reads : (k : Two) (m n : Result Reading LineFault) → States k m n
    → Reads skip_column k (m >>= ending) (n >>= ending)
states_reads k m n (same_state f e h) = same_fault f (ap (λ x. x >>= ending) e) (ap (λ x. x >>= ending) h)
states_reads k m n (both_states frames turn c q seen l e h) = both_read (whole_of turn) c q seen l
    (ap (λ x. x >>= ending) e) (ap (λ x. x >>= ending) h)
states_reads k m n (late_state l) = late_read (ending_late k.e m l)
  where
    ending_late : (e : ℕ) (m : Result Reading LineFault) → LateState e m → Late skip_column e (m >>= ending)
    ending_late e (Ok t) l = l
    ending_late e (Err x) l = l

end_late : (e : ℕ) (m : Result Reading LineFault) → LateState e m → Late skip_column e (m >>= ending)
end_late e (Ok t) l = l
end_late e (Err x) l = l

by_late : (n e : ℕ) (r : Rest) (seen : Operands) → e ≤ skip_column r → Late skip_column e (term_by n r seen)
by_late n e r seen l = late_bind skip_column skip_column e _ _
    (late_less skip_column (skip_column r) e _ l ((steady_wanted seen).late (skip_blanks r)))
    (λ x i. end_late e (steps n (record { frames = []; turn = x })) (steps_late n e (record { frames = []; turn = x })
    i))

pub term_late : (e : ℕ) (r : Rest) (seen : Operands) → e ≤ skip_column r → Late skip_column e (terms.term r seen)
term_late e r seen l = subst (λ (m : Result (Read (Option PatTerm)) LineFault). Late skip_column e m)
    (sym (term_is r seen 0)) (by_late (length r.bytes + 0) e r seen l)

by_alike : (n : ℕ) (k : Two) (c : ℕ) (q : List ℕ) (seen : Operands) → c + length q ≡ k.e
    → Reads skip_column k (term_by n (at c (q ++ k.s)) seen) (term_by n (at c (q ++ k.t)) seen)
by_alike n k c q seen h = reads_bind skip_column skip_column k _ _ _
    (behind_skip skip_column (λ r. terms.wanted r seen) (steady_wanted seen) k c q h)
    (λ v a p o l. states_reads k _ _ (steps_alike n k [] v a p o l))
    (λ x i. end_late k.e (steps n (record { frames = []; turn = x }))
    (steps_late n k.e (record { frames = []; turn = x }) i))

pub term_alike : (k : Two) (c : ℕ) (q : List ℕ) (seen : Operands) → c + length q ≡ k.e
    → Reads skip_column k (terms.term (at c (q ++ k.s)) seen) (terms.term (at c (q ++ k.t)) seen)
term_alike k c q seen h =
    let n : ℕ = length (q ++ k.s) + length (q ++ k.t) in
    let same : length (q ++ k.t) + length (q ++ k.s) ≡ length (q ++ k.s) + length (q ++ k.t) = omega arith in
    let other : terms.term (at c (q ++ k.t)) seen ≡ term_by n (at c (q ++ k.t)) seen =
    term_is (at c (q ++ k.t)) seen (length (q ++ k.s))
    ∙ ap (λ (i : ℕ). term_by i (at c (q ++ k.t)) seen) same in
    subst (λ (m : Result (Read (Option PatTerm)) LineFault). Reads skip_column k m (terms.term (at c (q ++ k.t)) seen))
    (sym (term_is (at c (q ++ k.s)) seen (length (q ++ k.t))))
    (subst (λ (m : Result (Read (Option PatTerm)) LineFault). Reads skip_column k
    (term_by n (at c (q ++ k.s)) seen) m) (sym other) (by_alike n k c q seen h))

-- an address

abbrev address_at : Operands → Rest → Result (Read (Option PatTerm)) LineFault
address_at seen u = mark 91 u >>= (λ opened. terms.term opened seen >>= (λ t.
    mark 93 (skip_blanks t.rest) >>= (λ close.
    Ok (record { value = t.value; rest = close; seen = t.seen }))))

steady_address_at : (seen : Operands) → Steady skip_column (address_at seen)
steady_address_at seen = record {
  alike = λ k d b q l. rests_bind skip_column skip_column k _ _ _ (mark_alike skip_column k 91 d b q l)
      (λ c p i. reads_bind skip_column skip_column k _ _ _ (term_alike k c p seen i)
      (λ v a w o z. behind_skip skip_column _ (steady_close 93 v o) k a w z)
      (λ x z. late_less skip_column (skip_column x.rest) k.e _ z ((steady_close 93 x.value x.seen).late
      (skip_blanks x.rest))))
      (λ x i. late_bind skip_column skip_column k.e _ _ (term_late k.e x seen i)
      (λ y z. late_less skip_column (skip_column y.rest) k.e _ z ((steady_close 93 y.value y.seen).late
      (skip_blanks y.rest))));
  late = λ r. late_rest_bind skip_column skip_column r.column _ _ (mark_late 91 r)
      (λ x i. late_bind skip_column skip_column r.column _ _ (term_late r.column x seen i)
      (λ y z. late_less skip_column (skip_column y.rest) r.column _ z ((steady_close 93 y.value y.seen).late
      (skip_blanks y.rest))));
}

address_alike : (k : Two) (seen : Operands) (d b : ℕ) (q : List ℕ) → d + length (b ∷ q) ≡ k.e
    → Reads skip_column k (terms.address (at d (b ∷ q ++ k.s)) seen) (terms.address (at d (b ∷ q ++ k.t)) seen)
unfolding terms.address
address_alike k seen d b q l =
    let n : ℕ = prefix_len is_name_byte (b ∷ q) in
    let p : List ℕ = drop (prefix_len is_name_byte (b ∷ q)) (b ∷ q) in
    let other : Rest = behind (prefix_len is_name_byte (b ∷ q ++ k.t)) (at d (b ∷ q ++ k.t)) in
    let test : same (parts.name_here (at d (b ∷ q ++ k.s))) (codes "M")
    ≡ same (parts.name_here (at d (b ∷ q ++ k.t))) (codes "M") =
    ap (λ (w : List ℕ). same w (codes "M")) (name_same d b q k.s k.ends_s ∙ sym (name_same d b q k.t k.ends_t)) in
    reads_cond skip_column k _ _ _ _ _ _ test
    (subst (λ (u : Rest). Reads skip_column k (address_at seen (skip_blanks u)) (address_at seen (skip_blanks other)))
    (sym (name_left d b q k.s k.ends_s))
    (subst (λ (u : Rest). Reads skip_column k (address_at seen (skip_blanks (at (d + n) (p ++ k.s))))
    (address_at seen (skip_blanks u))) (sym (name_left d b q k.t k.ends_t))
    (behind_skip skip_column (address_at seen) (steady_address_at seen) k (d + n) p (name_room k d b q l))))
    (same_fault (fault d kind.Word) refl refl)

address_late : (r : Rest) (seen : Operands) → Late skip_column r.column (terms.address r seen)
unfolding terms.address
address_late r seen =
    let u : Rest = behind (prefix_len is_name_byte r.bytes) r in
    let more = skip_more (behind (prefix_len is_name_byte r.bytes) r) in
    late_cond skip_column r.column (same (parts.name_here r) (codes "M")) _ _
    (λ e. late_less skip_column (skip_column u) r.column _ (omega (arith, more))
    ((steady_address_at seen).late (skip_blanks u))) (λ e. λ w. omega arith)

pub steady_address : (seen : Operands) → Steady skip_column (λ r. terms.address r seen)
steady_address seen = record {
  alike = λ k d b q l. address_alike k seen d b q l;
  late = λ r. address_late r seen;
}
