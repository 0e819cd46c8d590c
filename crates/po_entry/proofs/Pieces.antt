-- The pieces that a template is read as are those of the pattern's operands.
use Rattle.std.proofs.Common.{◌≡◌, ℕ, ◌+◌, ◌-◌, ◌≤◌, ◌==◌, ◌&&◌, ◌||◌, Bool, true, false, nat_le, List, [], ◌∷◌, All}
use Rattle.std.proofs.Common.{refl, sym, ap, subst, arith, Option, Some, None, Ok, ◌⊎◌, inl, inr, eqb-true, leb-true}
use Rattle.std.specs.Prelude.{⊤}
use Rattle.std.proofs.lemmas.Bool.{and_parts}
use Rattle.std.proofs.lemmas.List.Elements.{All-push, All-nil}
use Rattle.po_name.specs.Names.{is_digit}
use Rattle.po_lines.proofs.Results.{chosen, bind_ok, ok_is, not_ok}
use Rattle.po_model.specs.declared.machine.Piece.{Piece}
use Rattle.po_model.specs.Entries.{Place, IsAmong, IsPieceOf}
use Rattle.po_pattern.specs.declared.operands.Operands.{Operands}
use Rattle.po_pattern.specs.declared.operands.OperandKind.{OperandKind}
use Rattle.po_pattern.specs.declared.operands.OperandKind.TheVariants.{Register, Constant, Symbol, Label}
use Rattle.po_pattern.specs.Rests.{Rest}
use Rattle.po_pattern.specs.Seen.{kind_of}
use Rattle.po_entry.specs.declared.begun.Begun.{Begun}
use Rattle.po_entry.specs.declared.begun.Mark.{Mark}
use Rattle.po_entry.specs.EntryText.{is_mark}
use Rattle.po_entry.specs.Template.{kind_by, piece_by, is_seen, marked, plain, with_piece, step_with, template_step}
use Rattle.po_entry.specs.Template.{template_from, nothing_yet, whole_with, template_in}
use Rattle.po_pattern.proofs.Told.{Tells, sort_of, same_is}

or_cases : (x y : Bool) → (x || y) ≡ true → (x ≡ true) ⊎ (y ≡ true)
or_cases true y e = inl refl
or_cases false y e = inr e

printed_mark : (b : ℕ) → is_mark b ≡ true → (32 ≤ b) × (b ≤ 126)
printed_mark b e = elim (or_cases ((b == 37 || b == 35) || b == 64) (b == 38) e) [
  | inl h ↦ elim (or_cases (b == 37 || b == 35) (b == 64) h) [
    | inl g ↦ elim (or_cases (b == 37) (b == 35) g) [
      | inl f ↦ (let is : b ≡ 37 = eqb-true b 37 f in (omega (arith, is), omega (arith, is)))
      | inr f ↦ (let is : b ≡ 35 = eqb-true b 35 f in (omega (arith, is), omega (arith, is)))
    ]
    | inr g ↦ (let is : b ≡ 64 = eqb-true b 64 g in (omega (arith, is), omega (arith, is)))
  ]
  | inr h ↦ (let is : b ≡ 38 = eqb-true b 38 h in (omega (arith, is), omega (arith, is)))
]

seen_is : (o : OperandKind) (known : Option OperandKind) → is_seen o known ≡ true → known ≡ Some o
seen_is o None e = absurd (cc)
seen_is o (Some p) e = ap Some (same_is p o e)

piece_of : (ps : List Place) (o : OperandKind) (k : ℕ) → IsAmong ps k (sort_of o) → IsPieceOf ps (piece_by o k)
piece_of ps Register k h = h
piece_of ps Constant k h = h
piece_of ps Symbol k h = h
piece_of ps Label k h = h

-- the mark that waits is one
abbrev pub IsWaiting : Option Mark → Type 0
IsWaiting None = ⊤
IsWaiting (Some m) = is_mark m.byte ≡ true

pub record Taken (ps : List Place) (s : Begun) : Type 0 where
  pub pieces : All (IsPieceOf ps) s.pieces
  pub waiting : IsWaiting s.waiting

marked_fine : (ps : List Place) (seen : Operands) (mark : Mark) (byte : ℕ) (p : Piece) → marked seen mark byte ≡ Ok p
    → Tells seen ps → is_mark mark.byte ≡ true → IsPieceOf ps p
marked_fine ps seen mark byte p e told m = elim (chosen (byte == mark.byte) _ _ _ e) [
  | inl (h, is) ↦ (let same : byte ≡ mark.byte = eqb-true _ _ h in
      subst (λ (q : Piece). IsPieceOf ps q) (ok_is is)
      (printed_mark byte (subst (λ (b : ℕ). is_mark b ≡ true) (sym same) m)))
  | inr (h, is) ↦ elim (chosen (is_digit byte && is_seen (kind_by mark.byte) (kind_of seen (byte - 48))) _ _ _ is) [
    | inl (g, at) ↦ (let parts = and_parts (is_digit byte) (is_seen (kind_by mark.byte) (kind_of seen (byte - 48))) g
        in
        subst (λ (q : Piece). IsPieceOf ps q) (ok_is at) (piece_of ps (kind_by mark.byte) (byte - 48)
        (told.told (byte - 48) (kind_by mark.byte) (seen_is (kind_by mark.byte) (kind_of seen (byte - 48))
        parts.1))))
    | inr (g, at) ↦ absurd (not_ok at)
  ]
]

plain_fine : (ps : List Place) (column byte : ℕ) (p : Piece) → plain column byte ≡ Ok p → IsPieceOf ps p
plain_fine ps column byte p e = elim (chosen (nat_le 32 byte && nat_le byte 126) _ _ _ e) [
  | inl (h, is) ↦ (let parts = and_parts (nat_le 32 byte) (nat_le byte 126) h in
      subst (λ (q : Piece). IsPieceOf ps q) (ok_is is) (leb-true 32 byte parts.0, leb-true byte 126 parts.1))
  | inr (h, is) ↦ absurd (not_ok is)
]

pushed : (ps : List Place) (pieces : List Piece) (p : Piece) → All (IsPieceOf ps) pieces → IsPieceOf ps p
    → Taken ps (with_piece pieces p)
pushed ps pieces p h g = record { pieces = All-push (IsPieceOf ps) pieces p h g; waiting = tt }

step_taken : (ps : List Place) (seen : Operands) (column byte : ℕ) (pieces : List Piece) (waiting : Option Mark)
    (t : Begun) → step_with seen column pieces waiting byte ≡ Ok t → Tells seen ps
    → All (IsPieceOf ps) pieces → IsWaiting waiting → Taken ps t
step_taken ps seen column byte pieces None t e told h w = elim (chosen (is_mark byte) _ _ _ e) [
  | inl (g, is) ↦ subst (λ (u : Begun). Taken ps u) (ok_is is) (record { pieces = h; waiting = g })
  | inr (g, is) ↦ (let p = bind_ok (plain column byte) _ t is in
      subst (λ (u : Begun). Taken ps u) (ok_is p.2) (pushed ps pieces p.0 h (plain_fine ps column byte p.0 p.1)))
]
step_taken ps seen column byte pieces (Some mark) t e told h w =
    let p = bind_ok (marked seen mark byte) _ t e in
    subst (λ (u : Begun). Taken ps u) (ok_is p.2) (pushed ps pieces p.0 h (marked_fine ps seen mark byte p.0 p.1 told
    w))

all_taken : (ps : List Place) (seen : Operands) (column : ℕ) (s t : Begun) (bs : List ℕ) → template_from seen column s
    bs ≡ Ok t → Tells seen ps → Taken ps s → Taken ps t
unfolding template_from template_step
all_taken ps seen column s t [] e told h = subst (λ (u : Begun). Taken ps u) (ok_is e) h
all_taken ps seen column s t (b ∷ bs) e told h =
    let p = bind_ok (template_step seen column s b) _ t e in
    all_taken ps seen (column + 1) p.0 t bs p.2 told (step_taken ps seen column b s.pieces s.waiting p.0 p.1 told
    h.pieces h.waiting)

whole_pieces : (ps : List Place) (pieces out : List Piece) (waiting : Option Mark) → whole_with pieces waiting
    ≡ Ok out → All (IsPieceOf ps) pieces → All (IsPieceOf ps) out
whole_pieces ps pieces out None e h = subst (λ (x : List Piece). All (IsPieceOf ps) x) (ok_is e) h
whole_pieces ps pieces out (Some mark) e h = absurd (not_ok e)

pub template_fine : (ps : List Place) (seen : Operands) (r : Rest) (out : List Piece) → template_in seen r ≡ Ok out
    → Tells seen ps → All (IsPieceOf ps) out
unfolding template_in
template_fine ps seen r out e told =
    let p = bind_ok (template_from seen r.column nothing_yet r.bytes) _ out e in
    let taken = all_taken ps seen r.column nothing_yet p.0 r.bytes p.1 told
    (record { pieces = All-nil (IsPieceOf ps); waiting = tt }) in
    whole_pieces ps p.0.pieces out p.0.waiting p.2 taken.pieces
