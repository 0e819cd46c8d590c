-- A template is read as its pieces.
use Rattle.std.proofs.Common.{◌≡◌, ◌≢◌, ℕ, ◌+◌, ◌-◌, ◌<◌, ◌≤◌, ◌==◌, Bool, true, false, nat_le, List, [], ◌∷◌, ◌++◌}
use Rattle.std.proofs.Common.{length, append_assoc, append-nil, get_or, map, All, codes, refl, sym, ap, ◌∙◌, subst}
use Rattle.std.proofs.Common.{arith, zero, suc, Some, None, Result, Ok}
use Rattle.std.specs.List.{list_any}
use Rattle.std.proofs.lemmas.Bool.Decides.{nat_tests}
use Rattle.std.proofs.lemmas.Fmt.{decimal_digit}
use Rattle.std.proofs.lemmas.List.Elements.{All-head, All-tail}
use Rattle.po_lines.specs.declared.fault.LineFault.{LineFault}
use Rattle.po_lines.specs.Faults.{◌>>=◌}
use Rattle.po_model.specs.declared.machine.Piece.{Piece}
use Rattle.po_model.specs.declared.machine.Piece.TheVariants as piece
use Rattle.po_model.specs.Patterns.{PatMove, SetsTo, Compares, Stores, Jumps, Branches, BranchesOn, Calls, Returns}
use Rattle.po_model.specs.Entries.{Sort, OfReg, OfNum, OfSym, OfLabel, Place, place, kind_of as kind_of_move, IsAmong}
use Rattle.po_model.specs.Entries.{IsPieceOf}
use Rattle.po_pattern.specs.declared.operands.Operands.{Operands}
use Rattle.po_pattern.specs.declared.operands.OperandKind.{OperandKind}
use Rattle.po_pattern.specs.declared.operands.OperandKind.TheVariants.{Register, Constant, Symbol, Label}
use Rattle.po_pattern.specs.Seen.{kind_of, same_kind}
use Rattle.po_entry.specs.declared.begun.Begun.{Begun}
use Rattle.po_entry.specs.EntryText.{is_mark, byte_text, piece_text, template_text}
use Rattle.po_entry.specs.ListRules.{sets_cc}
use Rattle.po_entry.specs.Template.{arrow, kind_by, piece_by, is_seen, template_step, template_from, nothing_yet}
use Rattle.po_entry.specs.Template.{whole_with, template_in}
use Rattle.po_pattern.proofs.Told.{sort_of, Tells}
use Rattle.po_entry.proofs.Noted.{kind_at}
use Rattle.po_entry.proofs.AgainParts.{at, mark_again, digit_here}
use Rattle.po_entry.proofs.AgainMoves.{says_again, after_is, back_move}
use Rattle.po_entry.proofs.AgainFits.{AreSmall, kind_again}

-- `clobber cc`

pub no_cc : (ms : List PatMove) → All (λ m. kind_of_move m ≢ 1) ms → list_any sets_cc (map back_move ms) ≡ false
no_cc [] h = refl
no_cc (m ∷ ms) h =
    let first : sets_cc (back_move m) ≡ false = leaves_cc m (All-head (λ m. kind_of_move m ≢ 1) m ms h) in
    let rest = no_cc ms (All-tail (λ m. kind_of_move m ≢ 1) m ms h) in
    rw (first, rest) refl
  where
    leaves_cc : (m : PatMove) → kind_of_move m ≢ 1 → sets_cc (back_move m) ≡ false
    leaves_cc (SetsTo r t) h = refl
    leaves_cc (Compares t u) h = absurd (h refl)
    leaves_cc (Stores t u) h = refl
    leaves_cc (Jumps k) h = refl
    leaves_cc (Branches r k) h = refl
    leaves_cc (BranchesOn t u r k) h = refl
    leaves_cc (Calls k) h = refl
    leaves_cc Returns h = refl

pub arrow_again : (c : ℕ) (template : List ℕ) → arrow (at c (codes "=>" ++ (32 ∷ template)))
    ≡ Ok (at (c + 2 + 1) template)
unfolding arrow
arrow_again c template =
    let yes = says_again (codes "=>") c template refl in
    let left = after_is (codes "=>") c template refl in
    let opened = mark_again 32 (c + 2) template in
    rw yes (rw left opened)

-- operands of the pattern

small_at : (ps : List Place) (i : ℕ) (d : Place) → AreSmall ps → i < length ps → (get_or ps i d).digit < 10
small_at [] i d h l = absurd (omega (arith, l))
small_at (p ∷ ps) zero d h l = h.0
small_at (p ∷ ps) (suc i) d h l = small_at ps i d h.1 (omega (arith, l))

pub small_among : (ps : List Place) (k : ℕ) (s : Sort) → AreSmall ps → IsAmong ps k s → k < 10
small_among ps k s h a =
    let p : Place = place k s a.ranged in
    subst (λ (q : Place). q.digit < 10) a.among.2 (small_at ps a.among.0 p h a.among.1)

own_kind : (o : OperandKind) → kind_at (sort_of o) ≡ o
own_kind Register = refl
own_kind Constant = refl
own_kind Symbol = refl
own_kind Label = refl

one_kind : (kind o : OperandKind) → sort_of o ≡ sort_of kind → same_kind kind o ≡ true
one_kind kind o e = subst (λ (x : OperandKind). same_kind kind x ≡ true) (ap kind_at (sym e) ∙ own_kind o)
    (kind_again kind)

seen_among : (ps : List Place) (seen : Operands) (k : ℕ) (o : OperandKind) → Tells seen ps → IsAmong ps k (sort_of o)
    → is_seen o (kind_of seen k) ≡ true
seen_among ps seen k o told a =
    let p : Place = place k (sort_of o) a.ranged in
    let there = told.known a.among.0 p a.among.1 in
    let is : kind_of seen k ≡ Some there.kind = ap (λ (q : Place). kind_of seen q.digit) (sym a.among.2) ∙ there.is in
    let sort : sort_of o ≡ sort_of there.kind = ap (λ (q : Place). q.sort) (sym a.among.2) ∙ there.sort in
    ap (is_seen o) is ∙ one_kind there.kind o sort

-- the pieces

unfoldable pub from_here : Operands → ℕ → List Piece → List ℕ → Result Begun LineFault
from_here seen c pieces bytes = template_from seen c (record { pieces = pieces; waiting = None }) bytes

one_byte : (seen : Operands) (c b : ℕ) (pieces : List Piece) (more : List ℕ) → is_mark b ≡ false → 32 ≤ b → b ≤ 126
    → from_here seen c pieces (b ∷ more) ≡ from_here seen (c + 1) (pieces ++ piece.Byte b ∷ []) more
unfolding from_here template_from template_step
one_byte seen c b pieces more unmarked low high =
    let below : nat_le 32 b ≡ true = grind (arith, nat_tests) in
    let above : nat_le b 126 ≡ true = grind (arith, nat_tests) in
    rw unmarked (rw (below, above) refl)

two_marks : (seen : Operands) (c b : ℕ) (pieces : List Piece) (more : List ℕ) → is_mark b ≡ true
    → from_here seen c pieces (b ∷ b ∷ more) ≡ from_here seen (c + 1 + 1) (pieces ++ piece.Byte b ∷ []) more
unfolding from_here template_from template_step
two_marks seen c b pieces more marks =
    let same : (b == b) ≡ true = grind (arith, nat_tests) in
    rw marks (rw same refl)

one_operand : (seen : Operands) (c byte k : ℕ) (pieces : List Piece) (more : List ℕ) → is_mark byte ≡ true
    → (48 + k == byte) ≡ false → k < 10 → is_seen (kind_by byte) (kind_of seen k) ≡ true
    → from_here seen c pieces (byte ∷ (48 + k) ∷ more) ≡ from_here seen (c + 1 + 1)
    (pieces ++ piece_by (kind_by byte) k ∷ []) more
unfolding from_here template_from template_step
one_operand seen c byte k pieces more marks differs small there =
    let back : 48 + k - 48 ≡ k = omega arith in
    let digit = digit_here k small in
    rw marks (rw (differs, back, digit, there) refl)

-- a piece's bytes, and what they leave
piece_again : (ps : List Place) (seen : Operands) (p : Piece) (c : ℕ) (pieces : List Piece) (more : List ℕ)
    → Tells seen ps → AreSmall ps → IsPieceOf ps p → (d : ℕ)
    × (from_here seen c pieces (piece_text p ++ more) ≡ from_here seen d (pieces ++ p ∷ []) more)
piece_again ps seen (piece.Byte b) c pieces more told small h = by_mark (is_mark b) refl
  where
    by_mark : (x : Bool) → is_mark b ≡ x → (d : ℕ) × (from_here seen c pieces (byte_text b ++ more) ≡ from_here seen d
        (pieces ++ piece.Byte b ∷ []) more)
    by_mark true e = (
      c + 1 + 1,
      ap (λ (w : List ℕ). from_here seen c pieces (w ++ more))
          (let two : byte_text b ≡ b ∷ b ∷ [] = rw e refl in two) ∙ two_marks seen c b pieces more e,
    )
    by_mark false e = (
      c + 1,
      ap (λ (w : List ℕ). from_here seen c pieces (w ++ more))
          (let one : byte_text b ≡ b ∷ [] = rw e refl in one) ∙ one_byte seen c b pieces more e h.0 h.1,
    )
piece_again ps seen (piece.Reg k) c pieces more told small h =
    let few = small_among ps k OfReg small h in (
      c + 1 + 1,
      ap (λ (w : List ℕ). from_here seen c pieces (codes "%" ++ w ++ more)) (decimal_digit k few)
          ∙ one_operand seen c 37 k pieces more refl (grind (arith, nat_tests)) few
          (seen_among ps seen k Register told h),
    )
piece_again ps seen (piece.Num k) c pieces more told small h =
    let few = small_among ps k OfNum small h in (
      c + 1 + 1,
      ap (λ (w : List ℕ). from_here seen c pieces (codes "#" ++ w ++ more)) (decimal_digit k few)
          ∙ one_operand seen c 35 k pieces more refl (grind (arith, nat_tests)) few
          (seen_among ps seen k Constant told h),
    )
piece_again ps seen (piece.Label k) c pieces more told small h =
    let few = small_among ps k OfLabel small h in (
      c + 1 + 1,
      ap (λ (w : List ℕ). from_here seen c pieces (codes "@" ++ w ++ more)) (decimal_digit k few)
          ∙ one_operand seen c 64 k pieces more refl (grind (arith, nat_tests)) few
          (seen_among ps seen k Label told h),
    )
piece_again ps seen (piece.Sym k) c pieces more told small h =
    let few = small_among ps k OfSym small h in (
      c + 1 + 1,
      ap (λ (w : List ℕ). from_here seen c pieces (codes "&" ++ w ++ more)) (decimal_digit k few)
          ∙ one_operand seen c 38 k pieces more refl (grind (arith, nat_tests)) few
          (seen_among ps seen k Symbol told h),
    )

-- the bytes of these pieces, and what they leave
pub pieces_again : (ps : List Place) (seen : Operands) (xs : List Piece) (c : ℕ) (pieces : List Piece)
    (more : List ℕ) → Tells seen ps → AreSmall ps → All (IsPieceOf ps) xs → (d : ℕ)
    × (from_here seen c pieces (template_text xs ++ more) ≡ from_here seen d (pieces ++ xs) more)
pieces_again ps seen [] c pieces more told small h = (
  c,
  ap (λ (x : List Piece). from_here seen c x more) (sym (append-nil pieces)),
)
pieces_again ps seen (x ∷ xs) c pieces more told small h =
    let one = piece_again ps seen x c pieces (template_text xs ++ more) told small (All-head (IsPieceOf ps) x xs h) in
    let rest = pieces_again ps seen xs one.0 (pieces ++ x ∷ []) more told small (All-tail (IsPieceOf ps) x xs h) in (
      rest.0,
      ap (λ (w : List ℕ). from_here seen c pieces w) (append_assoc (piece_text x) (template_text xs) more) ∙ one.1
          ∙ rest.1 ∙ ap (λ (y : List Piece). from_here seen rest.0 y more) (append_assoc pieces (x ∷ []) xs),
    )

pub template_again : (ps : List Place) (seen : Operands) (xs : List Piece) (c : ℕ) → Tells seen ps → AreSmall ps
    → All (IsPieceOf ps) xs → template_in seen (at c (template_text xs)) ≡ Ok xs
unfolding template_in template_from from_here
template_again ps seen xs c told small h =
    let all = pieces_again ps seen xs c [] [] told small h in
    let read : template_from seen c nothing_yet (template_text xs) ≡ Ok (record { pieces = xs; waiting = None }) =
    ap (λ (w : List ℕ). template_from seen c nothing_yet w) (sym (append-nil (template_text xs))) ∙ all.1 in
    ap (λ (r : Result Begun LineFault). r >>= (λ s. whole_with s.pieces s.waiting)) read
