-- The spans of a code are its intervals.
use Rattle.std.proofs.Common.{◌≡◌, ℕ, ◌+◌, ◌*◌, ◌<◌, ◌≤◌, List, [], ◌∷◌, ◌++◌, length, get_or, drop, map, refl, sym}
use Rattle.std.proofs.Common.{ap, ◌∙◌, suc, arith, max, ◌^◌, add-zero, append-nil, append_assoc, length-append, subst}
use Rattle.std.specs.List.{All}
use Rattle.std.proofs.lemmas.List.{length-map, map-append}
use Rattle.po_term.specs.declared.transfer.Transfer.{Transfer}
use Rattle.po_term.specs.declared.transfer.Instr.{Instr}
use Rattle.po_term.specs.Moves.{SetTo, CcTo, StoreTo, Ends, move_of, moves_of, instr_of, instrs_of, PlainMove}
use Rattle.po_term.specs.Moves.{PlainInstr}
use Rattle.po_term.specs.declared.term.Reg.TheVariants.{Virt, Fp, Rv, Arg}
use Rattle.po_model.specs.declared.code.Block.{Block}
use Rattle.po_model.specs.UnitCodes.{written}
use Rattle.po_model.specs.Placement.{Interval, last_read, interval_of, intervals_from, intervals}
use Rattle.po_assign.specs.declared.spans.Span.{Span}
use Rattle.po_assign.specs.Spans.{interval_from, span_at, spans_from, Rising}
use Rattle.po_assign.proofs.Lists.{next_of, behind_all, all_of, block_next}
use Rattle.po_assign.proofs.LastReads.{read_behind, read_rest, read_step}

-- what the first transfer sets, and then the others
written_next : (m : PlainMove) (ms : PlainInstr) → written (m ∷ ms) ≡ written (m ∷ []) ++ written ms
written_next (SetTo (Virt v) t) ms = refl
written_next (SetTo Fp t) ms = refl
written_next (SetTo Rv t) ms = refl
written_next (SetTo (Arg k) t) ms = refl
written_next (CcTo t u) ms = refl
written_next (StoreTo t u) ms = refl
written_next (Ends e) ms = refl

pub transfer_spans : (at : ℕ → ℕ) (start : ℕ) (xs : List Transfer) (j : ℕ) (t : Transfer) (ss ts : List Span)
    → j < length xs → t ≡ get_or xs j t →
    ts ≡ ss ++ map (span_at at start) (written (move_of t ∷ [])) →
    ts ++ map (span_at at start) (written (moves_of (drop (j + 1) xs))) ≡ ss ++ map (span_at at start)
    (written (moves_of (drop j xs)))
transfer_spans at start xs j t ss ts h e pushed =
    let f = span_at at start in
    let parts : map f (written (moves_of (drop j xs))) ≡ map f (written (move_of t ∷ []))
    ++ map f (written (moves_of (drop (j + 1) xs))) =
    rw (next_of xs j t h e, written_next (move_of t) (moves_of (drop (j + 1) xs)))
    (map-append f (written (move_of t ∷ [])) (written (moves_of (drop (j + 1) xs)))) in
    rw (parts, pushed) (append_assoc ss (map f (written (move_of t ∷ [])))
    (map f (written (moves_of (drop (j + 1) xs)))))

pub transfer_spans-end : (at : ℕ → ℕ) (start : ℕ) (xs : List Transfer) (j : ℕ) (ss : List Span) → length xs ≤ j → ss
    ++ map (span_at at start) (written (moves_of (drop j xs))) ≡ ss
transfer_spans-end at start xs j ss h = rw (behind_all xs j h) (append-nil ss)

pub instr_spans : (at : ℕ → ℕ) (first : ℕ) (xs : List Instr) (j : ℕ) (x : Instr) (ss ts : List Span) → j < length xs
    → x ≡ get_or xs j x →
    ts ≡ ss ++ map (span_at at (2 * (first + j) + 1)) (written (instr_of x)) →
    ts ++ spans_from at (first + (j + 1)) (instrs_of (drop (j + 1) xs)) ≡ ss ++ spans_from at (first + j)
    (instrs_of (drop j xs))
instr_spans at first xs j x ss ts h e pushed =
    let number : first + (j + 1) ≡ suc (first + j) = omega arith in
    rw (next_of xs j x h e, pushed, number) (append_assoc ss
    (map (span_at at (2 * (first + j) + 1)) (written (instr_of x)))
    (spans_from at (suc (first + j)) (instrs_of (drop (j + 1) xs))))

pub instr_spans-end : (at : ℕ → ℕ) (first : ℕ) (xs : List Instr) (j : ℕ) (ss : List Span) → length xs ≤ j → ss
    ++ spans_from at (first + j) (instrs_of (drop j xs)) ≡ ss
instr_spans-end at first xs j ss h = rw (behind_all xs j h) (append-nil ss)

spans_from-append : (at : ℕ → ℕ) (p : ℕ) (xs ys : List PlainInstr) → spans_from at p (xs ++ ys) ≡ spans_from at p xs
    ++ spans_from at (p + length xs) ys
spans_from-append at p [] ys = rw (add-zero p) refl
spans_from-append at p (x ∷ xs) ys =
    let number : p + length (x ∷ xs) ≡ suc p + length xs = omega arith in
    rw (number, spans_from-append at (suc p) xs ys) (sym (append_assoc (map (span_at at (2 * p + 1)) (written x))
    (spans_from at (suc p) xs) (spans_from at (suc p + length xs) ys)))

-- a block's spans are there
pub block_spans : (at : ℕ → ℕ) (bs : List Block) (j : ℕ) (b : Block) (first count : ℕ) (is : List Instr)
    (ss ts whole : List Span) → j < length bs → b ≡ get_or bs j b → is ≡ b.instrs.items →
    ts ≡ ss ++ spans_from at first (instrs_of is) → count ≡ length is → ss ++ spans_from at first (all_of (drop j bs))
    ≡ whole →
    ts ++ spans_from at (first + count) (all_of (drop (j + 1) bs)) ≡ whole
block_spans at bs j b first count is ss ts whole h e same pushed counted before =
    let rest = all_of (drop (j + 1) bs) in
    let long : length (instrs_of is) ≡ length is = length-map is instr_of in
    let parts : spans_from at first (all_of (drop j bs)) ≡ spans_from at first (instrs_of is)
    ++ spans_from at (first + length (instrs_of is)) rest =
    rw (block_next bs j b h e, same) (spans_from-append at first (instrs_of b.instrs.items) rest) in
    rw (pushed, counted, ← long) (append_assoc ss (spans_from at first (instrs_of is))
    (spans_from at (first + length (instrs_of is)) rest) ∙ ap (λ (r : List Span). ss ++ r) (sym parts) ∙ before)

pub blocks_spans-end : (at : ℕ → ℕ) (bs : List Block) (j first : ℕ) (ss : List Span) → length bs ≤ j → ss
    ++ spans_from at first (all_of (drop j bs)) ≡ ss
blocks_spans-end at bs j first ss h = rw (behind_all bs j h) (append-nil ss)

-- spans as intervals

spans_same : (at : ℕ → ℕ) (p : ℕ) (is : List PlainInstr) (ws : List ℕ)
    → ((v : ℕ) → max (2 * p + 1) (at v) ≡ last_read v (2 * p + 1) (suc p) is) →
    map interval_from (map (span_at at (2 * p + 1)) ws) ≡ map (interval_of p is) ws
spans_same at p is [] h = refl
spans_same at p is (w ∷ ws) h = rw (h w, spans_same at p is ws h) refl

intervals_same : (at : ℕ → ℕ) (p : ℕ) (is : List PlainInstr)
    → ((v : ℕ) → max (2 * p) (at v) ≡ last_read v (2 * p) p is) → map interval_from (spans_from at p is)
    ≡ intervals_from p is
intervals_same at p [] h = refl
intervals_same at p (i ∷ is) h =
    let behind : (v : ℕ) → max (2 * p) (at v) ≡ last_read v (2 * p) (suc p) is = λ v. h v ∙ read_behind v p i is in
    map-append interval_from (map (span_at at (2 * p + 1)) (written i)) (spans_from at (suc p) is) ∙
    rw (
      spans_same at p is (written i) (λ v. read_rest v p (at v) is (behind v)),
      intervals_same at (suc p) is
          (λ v. read_step v p (at v) is (behind v)),
    ) refl

pub spans_are : (at : ℕ → ℕ) (is : List PlainInstr) → ((v : ℕ) → at v ≡ last_read v 0 0 is)
    → map interval_from (spans_from at 0 is) ≡ intervals is
spans_are at is h = intervals_same at 0 is (λ v. let e = h v in omega (arith, e))

-- spans come by start, and none ends before it starts
rising_over : (at : ℕ → ℕ) (m start : ℕ) (ws : List ℕ) (rest : List Interval) → m ≤ start → Rising start rest
    → Rising m (map interval_from (map (span_at at start) ws) ++ rest)
rising_over at m start [] [] h r = tt
rising_over at m start [] (i ∷ rest) h r = (omega (arith, r.0), r.1, r.2)
rising_over at m start (w ∷ ws) rest h r = (h, omega arith, rising_over at start start ws rest (omega arith) r)

rising_from : (at : ℕ → ℕ) (p m : ℕ) (is : List PlainInstr) → m ≤ 2 * p + 1
    → Rising m (map interval_from (spans_from at p is))
rising_from at p m [] h = tt
rising_from at p m (i ∷ is) h =
    let e = map-append interval_from (map (span_at at (2 * p + 1)) (written i)) (spans_from at (suc p) is) in
    subst (Rising m) (sym e) (rising_over at m (2 * p + 1) (written i) (map interval_from (spans_from at (suc p) is))
    h (rising_from at (suc p) (2 * p + 1) is (omega arith)))

pub spans_rise : (at : ℕ → ℕ) (is : List PlainInstr) → Rising 1 (map interval_from (spans_from at 0 is))
spans_rise at is = rising_from at 0 1 is (omega arith)

-- no more registers are set than there are transfers
written_few : (ms : PlainInstr) → length (written ms) ≤ length ms
written_few [] = omega arith
written_few (SetTo (Virt v) t ∷ ms) = let h = written_few ms in omega (arith, h)
written_few (SetTo Fp t ∷ ms) = let h = written_few ms in omega (arith, h)
written_few (SetTo Rv t ∷ ms) = let h = written_few ms in omega (arith, h)
written_few (SetTo (Arg k) t ∷ ms) = let h = written_few ms in omega (arith, h)
written_few (CcTo t u ∷ ms) = let h = written_few ms in omega (arith, h)
written_few (StoreTo t u ∷ ms) = let h = written_few ms in omega (arith, h)
written_few (Ends e ∷ ms) = let h = written_few ms in omega (arith, h)

few_from : (at : ℕ → ℕ) (p : ℕ) (is : List PlainInstr) → All (λ (i : PlainInstr). length i ≤ 4) is
    → length (spans_from at p is) ≤ 4 * length is
few_from at p [] h = omega arith
few_from at p (i ∷ is) h =
    let rest = few_from at (suc p) is (λ k d l. h (suc k) d (omega arith)) in
    let both = length-append (map (span_at at (2 * p + 1)) (written i)) (spans_from at (suc p) is) in
    let here : length (map (span_at at (2 * p + 1)) (written i)) ≡ length (written i) =
    length-map (written i) (span_at at (2 * p + 1)) in
    omega (arith, rest, both, here, written_few i, h 0 i (omega arith))

pub spans_few : (at : ℕ → ℕ) (is : List PlainInstr) → length is < 2 ^ 29 → All (λ (i : PlainInstr). length i ≤ 4) is
    → length (spans_from at 0 is) < 2 ^ 31
spans_few at is h each = let few = few_from at 0 is each in omega (arith, few)
