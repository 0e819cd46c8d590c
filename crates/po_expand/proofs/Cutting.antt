-- What holds of the blocks of a code that was cut.
use Rattle.std.proofs.Common.{◌≡◌, suc, ◌+◌, ◌≤◌, Bool, true, false, List, [], ◌∷◌, ◌++◌, length, refl, sym, ◌∙◌, ap}
use Rattle.std.proofs.Common.{arith, append_assoc, length-append, Option, Some, None}
use Rattle.std.specs.Prelude.{All, is_some, if◌then◌else◌}
use Rattle.std.proofs.lemmas.List.Elements.{All-nil, All-cons, All-append}
use Rattle.po_term.specs.declared.term.Label.{Label}
use Rattle.po_model.specs.Blocks.{PlainBlock}
use Rattle.po_model.specs.Naive.{Piece, Mark, Does, unless_blank, cut}
use Rattle.po_model.specs.UnitCodes.{flat}
use Rattle.po_term.specs.Moves.{PlainMove, PlainInstr}
use Rattle.po_model.specs.Parts.{ending_of}

-- the instructions of pieces
abbrev pub instrs_in : List Piece → List PlainInstr
instrs_in [] = []
instrs_in (Mark l ∷ ps) = instrs_in ps
instrs_in (Does m ∷ ps) = (m ∷ []) ∷ instrs_in ps

abbrev pub ends_block : PlainMove → Bool
ends_block m = is_some (ending_of (m ∷ []))

unless_all : (P : PlainBlock → Type 0) (named : Option Label) (is : List PlainInstr)
    → P (record { label = named; instrs = is }) → All P (unless_blank named is)
unless_all P None [] h = All-nil P
unless_all P None (i ∷ is) h = All-cons P (record { label = None; instrs = i ∷ is }) [] h (All-nil P)
unless_all P (Some l) is h = All-cons P (record { label = Some l; instrs = is }) [] h (All-nil P)

-- what a property J of the block that has begun and of the pieces to come says of all blocks
module _ (P : PlainBlock → Type 0) (J : Option Label → List PlainInstr → List Piece → Type 0)
    (now : (named : Option Label) (is : List PlainInstr) (ps : List Piece) → J named is ps
    → P (record { label = named; instrs = is }))
    (mark : (named : Option Label) (is : List PlainInstr) (l : Label) (ps : List Piece) → J named is (Mark l ∷ ps)
    → J (Some l) [] ps)
    (stop : (named : Option Label) (is : List PlainInstr) (m : PlainMove) (ps : List Piece) → J named is (Does m ∷ ps)
    → ends_block m ≡ true
    → P (record { label = named; instrs = is ++ (m ∷ []) ∷ [] }) × J None [] ps)
    (more : (named : Option Label) (is : List PlainInstr) (m : PlainMove) (ps : List Piece) → J named is (Does m ∷ ps)
    → ends_block m ≡ false → J named (is ++ (m ∷ []) ∷ []) ps) where
  pub cut_all : (named : Option Label) (is : List PlainInstr) (ps : List Piece) → J named is ps
      → All P (cut named is ps)
  cut_all named is [] j = unless_all P named is (now named is [] j)
  cut_all named is (Mark l ∷ ps) j =
      All-append P (unless_blank named is) (cut (Some l) [] ps) (unless_all P named is (now named is (Mark l ∷ ps) j))
      (cut_all (Some l) [] ps (mark named is l ps j))
  cut_all named is (Does m ∷ ps) j =
      by_test (λ k. cut_all None [] ps k) (λ k. cut_all named (is ++ (m ∷ []) ∷ []) ps k) (ends_block m) refl
    where
      by_test : (J None [] ps → All P (cut None [] ps))
          → (J named (is ++ (m ∷ []) ∷ []) ps → All P (cut named (is ++ (m ∷ []) ∷ []) ps)) → (b : Bool)
          → ends_block m ≡ b
          → All P (if b then record { label = named; instrs = is ++ (m ∷ []) ∷ [] } ∷ cut None [] ps
          else cut named (is ++ (m ∷ []) ∷ []) ps)
      by_test ended going true e =
          let s = stop named is m ps j e in
          All-cons P (record { label = named; instrs = is ++ (m ∷ []) ∷ [] }) (cut None [] ps) s.0 (ended s.1)
      by_test ended going false e = going (more named is m ps j e)

flat_unless : (named : Option Label) (is : List PlainInstr) (bs : List PlainBlock)
    → flat (unless_blank named is ++ bs) ≡ is ++ flat bs
flat_unless None [] bs = refl
flat_unless None (i ∷ is) bs = refl
flat_unless (Some l) is bs = refl

append_none : {A : Type 0} (xs : List A) → xs ++ [] ≡ xs
append_none [] = refl
append_none (x ∷ xs) = ap (λ r. x ∷ r) (append_none xs)

unless_none : (named : Option Label) (is : List PlainInstr) → unless_blank named is ++ [] ≡ unless_blank named is
unless_none named is = append_none (unless_blank named is)

-- cutting keeps the instructions and their order
pub flat_cut : (named : Option Label) (is : List PlainInstr) (ps : List Piece)
    → flat (cut named is ps) ≡ is ++ instrs_in ps
flat_cut named is [] = ap flat (sym (unless_none named is)) ∙ flat_unless named is []
flat_cut named is (Mark l ∷ ps) =
    flat_unless named is (cut (Some l) [] ps) ∙ ap (λ (xs : List PlainInstr). is ++ xs) (flat_cut (Some l) [] ps)
flat_cut named is (Does m ∷ ps) =
    by_test (flat_cut None [] ps) (flat_cut named (is ++ (m ∷ []) ∷ []) ps) (ends_block m)
  where
    by_test : flat (cut None [] ps) ≡ instrs_in ps
        → flat (cut named (is ++ (m ∷ []) ∷ []) ps) ≡ (is ++ (m ∷ []) ∷ []) ++ instrs_in ps → (b : Bool)
        → flat (if b then record { label = named; instrs = is ++ (m ∷ []) ∷ [] } ∷ cut None [] ps
        else cut named (is ++ (m ∷ []) ∷ []) ps) ≡ is ++ (m ∷ []) ∷ instrs_in ps
    by_test ended going true =
        ap (λ (xs : List PlainInstr). (is ++ (m ∷ []) ∷ []) ++ xs) ended
        ∙ append_assoc is ((m ∷ []) ∷ []) (instrs_in ps)
    by_test ended going false = going ∙ append_assoc is ((m ∷ []) ∷ []) (instrs_in ps)

unless_few : (named : Option Label) (is : List PlainInstr) → length (unless_blank named is) ≤ 1
unless_few None [] = omega arith
unless_few None (i ∷ is) = omega arith
unless_few (Some l) is = omega arith

-- there are at most as many blocks as pieces, and one
pub cut_few : (named : Option Label) (is : List PlainInstr) (ps : List Piece)
    → length (cut named is ps) ≤ length ps + 1
cut_few named is [] = omega (arith, unless_few named is)
cut_few named is (Mark l ∷ ps) =
    omega (
      arith,
      unless_few named is,
      cut_few (Some l) [] ps,
      length-append (unless_blank named is) (cut (Some l) [] ps),
    )
cut_few named is (Does m ∷ ps) = by_test (cut_few None [] ps) (cut_few named (is ++ (m ∷ []) ∷ []) ps) (ends_block m)
  where
    by_test : length (cut None [] ps) ≤ length ps + 1 → length (cut named (is ++ (m ∷ []) ∷ []) ps) ≤ length ps + 1
        → (b : Bool)
        → length (if b then record { label = named; instrs = is ++ (m ∷ []) ∷ [] } ∷ cut None [] ps
        else cut named (is ++ (m ∷ []) ∷ []) ps) ≤ suc (length ps) + 1
    by_test ended going true = omega (arith, ended)
    by_test ended going false = omega (arith, going)

pub instrs_few : (ps : List Piece) → length (instrs_in ps) ≤ length ps
instrs_few [] = omega arith
instrs_few (Mark l ∷ ps) = omega (arith, instrs_few ps)
instrs_few (Does m ∷ ps) = omega (arith, instrs_few ps)
