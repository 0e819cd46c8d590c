-- A line that is read as an entry is written as that entry may be.
use Rattle.std.proofs.Common.{◌≡◌, ℕ, ◌+◌, ◌-◌, ◌≤◌, ◌==◌, ◌&&◌, ◌||◌, Bool, true, false, nat_le, List, [], ◌∷◌, ◌++◌}
use Rattle.std.proofs.Common.{codes, refl, sym, ap, ◌∙◌, subst, arith, zero, suc, Option, Some, None, Ok, ◌⊎◌}
use Rattle.std.proofs.Common.{inl, inr}
use Rattle.std.proofs.Common.{eqb-true, leb-true, append-nil, append_assoc}
use Rattle.std.specs.Prelude.{⊤, cond}
use Rattle.std.specs.Cmp.Lexicographic.{same_text}
use Rattle.std.proofs.lemmas.Bool.{and_parts}
use Rattle.std.proofs.lemmas.Fmt.{decimal_digit}
use Rattle.std.proofs.lemmas.Grind.{flat_map-append}
use Rattle.std.proofs.lemmas.List.{map-append}
use Rattle.po_name.specs.Names.{is_digit}
use Rattle.po_lines.proofs.Results.{chosen, bind_ok, ok_is, not_ok}
use Rattle.po_model.specs.declared.machine.Entry.{Entry}
use Rattle.po_model.specs.declared.machine.Piece.{Piece}
use Rattle.po_model.specs.declared.machine.PatTransfer.{PatTransfer}
use Rattle.po_model.specs.Patterns.{PatMove, pat_move_of, pat_moves_of}
use Rattle.po_pattern.specs.declared.operands.Operands.{Operands}
use Rattle.po_pattern.specs.Rests.{Rest, Read, skip_blanks, mark}
use Rattle.po_pattern.specs.Seen.{kind_of, none_seen}
use Rattle.po_entry.specs.declared.begun.Begun.{Begun}
use Rattle.po_entry.specs.declared.begun.Mark.{Mark}
use Rattle.po_entry.specs.EntryText.{operand_text, is_mark, byte_text, piece_text, template_text}
use Rattle.po_entry.specs.Words.{word_here, says, after_word, behind_word, keyword}
use Rattle.po_entry.specs.Transfers.{transfer_in}
use Rattle.po_entry.specs.ListRules.{may_follow, decided, with_next, transfers, clobber_may_stand, clobber_in}
use Rattle.po_entry.specs.Template.{arrow, kind_by, piece_by, is_seen, marked, plain, with_piece, step_with}
use Rattle.po_entry.specs.Template.{template_step, template_from, nothing_yet, whole_with, template_in}
use Rattle.po_entry.specs.Reading.{line_start, entry_in}
use Rattle.po_entry.specs.Writing as writing
use Rattle.po_entry.specs.Writing.{text, word, IsWritten}
use Rattle.po_entry.proofs.WrittenParts.{named, blanks_skipped, mark_written}
use Rattle.po_entry.proofs.WrittenMoves.{says_written, keyword_written, MoveAt, transfer_written}

-- the list

-- at least one transfer
abbrev Listed : List PatMove → List ℕ → List ℕ → Type 0
Listed [] from to = ⊥
Listed (m ∷ ms) from to = writing.pattern (m ∷ ms) from to

-- the transfers before the next one, with the `;` behind them
abbrev Before : List PatMove → List ℕ → List ℕ → Type 0
Before [] from to = from ≡ to
Before (m ∷ ms) from to = (a : List ℕ) × writing.pattern (m ∷ ms) from a × word (codes ";") a to

others_push : (ms : List PatMove) (m : PatMove) (from a b to : List ℕ) → writing.others ms from a
    → word (codes ";") a b → writing.move m b to → writing.others (ms ++ m ∷ []) from to
others_push [] m from a b to h w i = subst (λ (x : List ℕ). writing.others (m ∷ []) x to) (sym h) (b, w, (to, i, refl))
others_push (n ∷ ns) m from a b to h w i = (h.0, h.1, (h.2.0, h.2.1, others_push ns m h.2.0 a b to h.2.2 w i))

list_push : (ms : List PatMove) (m : PatMove) (from a to : List ℕ) → Before ms from a → writing.move m a to
    → Listed (ms ++ m ∷ []) from to
list_push [] m from a to h i = subst (λ (x : List ℕ). Listed (m ∷ []) x to) (sym h) (to, i, refl)
list_push (n ∷ ns) m from a to h i = (h.1.0, h.1.1, others_push ns m h.1.0 h.0 a to h.1.2 h.2 i)

before_next : (ms : List PatMove) (from a to : List ℕ) → Listed ms from a → word (codes ";") a to → Before ms from to
before_next [] from a to h w = absurd h
before_next (m ∷ ms) from a to h w = (a, h, w)

listed_whole : (ms : List PatMove) (from to : List ℕ) → Listed ms from to → writing.pattern ms from to
listed_whole [] from to h = absurd h
listed_whole (m ∷ ms) from to h = h

decided_written : (column : ℕ) (before ms : List PatTransfer) (m : Option PatTransfer) (from a to : List ℕ)
    → decided column before m ≡ Ok ms → Before (pat_moves_of before) from a → MoveAt m a to
    → Listed (pat_moves_of ms) from to
decided_written column before ms None from a to e h i = absurd (not_ok e)
decided_written column before ms (Some m) from a to e h i = elim (chosen (may_follow before m) _ _ _ e) [
  | inl (g, is) ↦ subst (λ (xs : List PatTransfer). Listed (pat_moves_of xs) from to) (ok_is is)
      (subst (λ (xs : List PatMove). Listed xs from to) (sym (map-append pat_move_of before (m ∷ [])))
      (list_push (pat_moves_of before) (pat_move_of m) from a to h i))
  | inr (g, is) ↦ absurd (not_ok is)
]

next_written : (before : List PatTransfer) (from : List ℕ) (r : Rest) (seen : Operands) (x : Read (List PatTransfer))
    → with_next before r seen ≡ Ok x → Before (pat_moves_of before) from r.bytes
    → Listed (pat_moves_of x.value) from x.rest.bytes
unfolding with_next
next_written before from r seen x e h =
    let p = bind_ok (transfer_in r seen) _ x e in
    let q = bind_ok (decided r.column before p.0.value) _ x p.2 in
    subst (λ (y : Read (List PatTransfer)). Listed (pat_moves_of y.value) from y.rest.bytes) (ok_is q.2)
    (decided_written r.column before q.0 p.0.value from r.bytes p.0.rest.bytes q.1 h
    (transfer_written r seen p.0 p.1))

transfers_written : (more : ℕ) (before : List PatTransfer) (from : List ℕ) (r : Rest) (seen : Operands)
    (x : Read (List PatTransfer)) → transfers more before r seen ≡ Ok x → Before (pat_moves_of before) from r.bytes
    → Listed (pat_moves_of x.value) from x.rest.bytes
unfolding transfers
transfers_written zero before from r seen x e h = next_written before from r seen x e h
transfers_written (suc more) before from r seen x e h =
    let p = bind_ok (with_next before r seen) _ x e in
    let next = next_written before from r seen p.0 p.1 h in
    elim (chosen (says (codes ";") p.0.rest) _ _ _ p.2) [
      | inl (g, is) ↦ transfers_written more p.0.value from (behind_word p.0.rest) p.0.seen x is
          (before_next (pat_moves_of p.0.value) from p.0.rest.bytes (behind_word p.0.rest).bytes next
          (says_written (codes ";") p.0.rest g))
      | inr (g, is) ↦ subst (λ (y : Read (List PatTransfer)). Listed (pat_moves_of y.value) from y.rest.bytes)
          (ok_is is) next
    ]

clobber_written : (ms : List PatTransfer) (r : Rest) (seen : Operands) (x : Read Bool) → clobber_in ms r seen ≡ Ok x
    → writing.clobber x.value r.bytes x.rest.bytes
unfolding clobber_in
clobber_written ms r seen x e = elim (chosen (says (codes "clobber") r) _ _ _ e) [
  | inl (h, is) ↦ (let p = bind_ok (clobber_may_stand r.column ms) _ x is in
      let q = bind_ok (keyword (codes "cc") (behind_word r)) _ x p.2 in
      subst (λ (y : Read Bool). writing.clobber y.value r.bytes y.rest.bytes) (ok_is q.2) (
        (behind_word r).bytes,
        says_written (codes "clobber") r h,
        keyword_written (codes "cc") (behind_word r) q.0 q.1,
      ))
  | inr (h, is) ↦ subst (λ (y : Read Bool). writing.clobber y.value r.bytes y.rest.bytes) (ok_is is) refl
]

-- the template

says_text : (w : List ℕ) (r : Rest) → says w r ≡ true → text w r.bytes (after_word r).bytes
unfolding word_here after_word
says_text w r e = named _ r.bytes w (same_text (word_here r) w (sym e))

arrow_written : (r s : Rest) → arrow r ≡ Ok s → text (codes "=> ") r.bytes s.bytes
unfolding arrow
arrow_written r s e = elim (chosen (says (codes "=>") r) _ _ _ e) [
  | inl (h, is) ↦ says_text (codes "=>") r h ∙ ap (λ (w : List ℕ). codes "=>" ++ w) (mark_written 32 (after_word r) s
      is)
  | inr (h, is) ↦ absurd (not_ok is)
]

or_cases : (x y : Bool) → (x || y) ≡ true → (x ≡ true) ⊎ (y ≡ true)
or_cases true y e = inl refl
or_cases false y e = inr e

abbrev PieceIs : ℕ → ℕ → Type 0
PieceIs m k = piece_text (piece_by (kind_by m) k) ≡ operand_text (m ∷ []) k

this_mark : (m n k : ℕ) → (m == n) ≡ true → PieceIs n k → PieceIs m k
this_mark m n k e h = subst (λ (x : ℕ). PieceIs x k) (sym (eqb-true m n e)) h

piece_is : (m k : ℕ) → is_mark m ≡ true → PieceIs m k
piece_is m k e = elim (or_cases ((m == 37 || m == 35) || m == 64) (m == 38) e) [
  | inl h ↦ elim (or_cases (m == 37 || m == 35) (m == 64) h) [
    | inl g ↦ elim (or_cases (m == 37) (m == 35) g) [
      | inl f ↦ this_mark m 37 k f refl
      | inr f ↦ this_mark m 35 k f refl
    ]
    | inr g ↦ this_mark m 64 k g refl
  ]
  | inr h ↦ this_mark m 38 k h refl
]

digit_is : (m d : ℕ) → is_digit d ≡ true → operand_text (m ∷ []) (d - 48) ≡ m ∷ d ∷ []
digit_is m d e =
    let bounds = and_parts (nat_le 48 d) (nat_le d 57) e in
    let low : 48 ≤ d = leb-true 48 d bounds.0 in
    let high : d ≤ 57 = leb-true d 57 bounds.1 in
    let is : 48 + (d - 48) ≡ d = omega (arith, low) in
    ap (λ (w : List ℕ). m ∷ w) (decimal_digit (d - 48) (omega (arith, high))) ∙ ap (λ (x : ℕ). m ∷ x ∷ []) is

byte_is : (b : ℕ) (x : Bool) → is_mark b ≡ x → byte_text b ≡ cond x (b ∷ b ∷ []) (b ∷ [])
byte_is b x e = rw e refl

abbrev IsWaiting : Option Mark → Type 0
IsWaiting None = ⊤
IsWaiting (Some m) = is_mark m.byte ≡ true

abbrev waiting_text : Option Mark → List ℕ
waiting_text None = []
waiting_text (Some m) = m.byte ∷ []

-- the bytes that were taken
abbrev taken : Begun → List ℕ
taken s = template_text s.pieces ++ waiting_text s.waiting

record Takes (s t : Begun) (bs : List ℕ) : Type 0 where
  pub is : taken t ≡ taken s ++ bs
  pub waiting : IsWaiting t.waiting

marked_is : (seen : Operands) (mark : Mark) (byte : ℕ) (p : Piece) → marked seen mark byte ≡ Ok p
    → is_mark mark.byte ≡ true → piece_text p ≡ mark.byte ∷ byte ∷ []
marked_is seen mark byte p e m = elim (chosen (byte == mark.byte) _ _ _ e) [
  | inl (h, is) ↦ (let same : byte ≡ mark.byte = eqb-true _ _ h in
      ap piece_text (sym (ok_is is)) ∙ byte_is byte true (ap is_mark same ∙ m)
      ∙ ap (λ (x : ℕ). x ∷ byte ∷ []) same)
  | inr (h, is) ↦ elim (chosen (is_digit byte && is_seen (kind_by mark.byte) (kind_of seen (byte - 48))) _ _ _ is) [
    | inl (g, at) ↦ (let both = and_parts (is_digit byte) (is_seen (kind_by mark.byte) (kind_of seen (byte - 48))) g
        in
        ap piece_text (sym (ok_is at)) ∙ piece_is mark.byte (byte - 48) m ∙ digit_is mark.byte byte both.0)
    | inr (g, at) ↦ absurd (not_ok at)
  ]
]

plain_is : (column byte : ℕ) (p : Piece) → plain column byte ≡ Ok p → is_mark byte ≡ false → piece_text p ≡ byte ∷ []
plain_is column byte p e m = elim (chosen (nat_le 32 byte && nat_le byte 126) _ _ _ e) [
  | inl (h, is) ↦ ap piece_text (sym (ok_is is)) ∙ byte_is byte false m
  | inr (h, is) ↦ absurd (not_ok is)
]

pushed : (pieces : List Piece) (p : Piece) → taken (with_piece pieces p) ≡ template_text pieces ++ piece_text p
pushed pieces p = append-nil (template_text (pieces ++ p ∷ [])) ∙ flat_map-append piece_text pieces (p ∷ [])
    ∙ ap (λ (w : List ℕ). template_text pieces ++ w) (append-nil (piece_text p))

step_takes : (seen : Operands) (column byte : ℕ) (pieces : List Piece) (waiting : Option Mark) (t : Begun)
    → step_with seen column pieces waiting byte ≡ Ok t → IsWaiting waiting
    → Takes (record { pieces = pieces; waiting = waiting }) t (byte ∷ [])
step_takes seen column byte pieces None t e w = elim (chosen (is_mark byte) _ _ _ e) [
  | inl (g, is) ↦ subst (λ (u : Begun). Takes (record { pieces = pieces; waiting = None }) u (byte ∷ [])) (ok_is is)
      (record {
        is = ap (λ (x : List ℕ). x ++ byte ∷ []) (sym (append-nil (template_text pieces)));
        waiting = g;
      })
  | inr (g, is) ↦ (let p = bind_ok (plain column byte) _ t is in
      subst (λ (u : Begun). Takes (record { pieces = pieces; waiting = None }) u (byte ∷ [])) (ok_is p.2)
      (record {
        is = pushed pieces p.0 ∙ ap (λ (w : List ℕ). template_text pieces ++ w) (plain_is column byte p.0 p.1 g)
            ∙ ap (λ (x : List ℕ). x ++ byte ∷ []) (sym (append-nil (template_text pieces)));
        waiting = tt;
      }))
]
step_takes seen column byte pieces (Some mark) t e w =
    let p = bind_ok (marked seen mark byte) _ t e in
    subst (λ (u : Begun). Takes (record { pieces = pieces; waiting = Some mark }) u (byte ∷ [])) (ok_is p.2)
    (record {
      is = pushed pieces p.0 ∙ ap (λ (w : List ℕ). template_text pieces ++ w) (marked_is seen mark byte p.0 p.1 w)
          ∙ sym (append_assoc (template_text pieces) (mark.byte ∷ []) (byte ∷ []));
      waiting = tt;
    })

all_takes : (seen : Operands) (column : ℕ) (s t : Begun) (bs : List ℕ) → template_from seen column s bs ≡ Ok t
    → IsWaiting s.waiting → Takes s t bs
unfolding template_from template_step
all_takes seen column s t [] e w = subst (λ (u : Begun). Takes s u []) (ok_is e)
    (record { is = sym (append-nil (taken s)); waiting = w })
all_takes seen column s t (b ∷ bs) e w =
    let p = bind_ok (template_step seen column s b) _ t e in
    let one = step_takes seen column b s.pieces s.waiting p.0 p.1 w in
    let more = all_takes seen (column + 1) p.0 t bs p.2 one.waiting in
    record {
      is = more.is ∙ ap (λ (x : List ℕ). x ++ bs) one.is ∙ append_assoc (taken s) (b ∷ []) bs;
      waiting = more.waiting;
    }

whole_takes : (pieces out : List Piece) (waiting : Option Mark) (bs : List ℕ) → whole_with pieces waiting ≡ Ok out
    → template_text pieces ++ waiting_text waiting ≡ bs → text (template_text out) bs []
whole_takes pieces out None bs e h = sym h
    ∙ ap (λ (ps : List Piece). template_text ps ++ []) (ok_is e)
whole_takes pieces out (Some mark) bs e h = absurd (not_ok e)

template_written : (seen : Operands) (r : Rest) (out : List Piece) → template_in seen r ≡ Ok out
    → text (template_text out) r.bytes []
unfolding template_in
template_written seen r out e =
    let p = bind_ok (template_from seen r.column nothing_yet r.bytes) _ out e in
    let takes = all_takes seen r.column nothing_yet p.0 r.bytes p.1 tt in
    whole_takes p.0.pieces out p.0.waiting r.bytes p.2 takes.is

-- the whole line

pub entry_written : (line : List ℕ) (e : Entry) → entry_in line ≡ Ok e → IsWritten e line
unfolding entry_in
entry_written line e h =
    let first = skip_blanks (line_start line) in
    let p = bind_ok (keyword (codes "insn") first) _ e h in
    let q = bind_ok (transfers 4 [] p.0 none_seen) _ e p.2 in
    let s = bind_ok (clobber_in q.0.value q.0.rest q.0.seen) _ e q.2 in
    let t = bind_ok (arrow s.0.rest) _ e s.2 in
    let u = bind_ok (template_in s.0.seen t.0) _ e t.2 in
    subst (λ (x : Entry). IsWritten x line) (ok_is u.2) (
      first.bytes,
      blanks_skipped (line_start line),
      (
        p.0.bytes,
        keyword_written (codes "insn") first p.0 p.1,
        (
          q.0.rest.bytes,
          listed_whole (pat_moves_of q.0.value) p.0.bytes q.0.rest.bytes
              (transfers_written 4 [] p.0.bytes p.0 none_seen q.0 q.1 refl),
          (
            s.0.rest.bytes,
            clobber_written q.0.value q.0.rest q.0.seen s.0 s.1,
            (t.0.bytes, arrow_written s.0.rest t.0 t.1, template_written s.0.seen t.0 u.0 u.1),
          ),
        ),
      ),
    )
