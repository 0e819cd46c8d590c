-- In naive code no path from the start of a block reads cc before it sets it.
use Rattle.std.proofs.Common.{◌≡◌, ℕ, zero, suc, ◌+◌, Bool, true, false, List, [], ◌∷◌, ◌++◌, refl, sym, ◌∙◌, Option}
use Rattle.std.proofs.Common.{None}
use Rattle.std.specs.Prelude.{◌||◌, if◌then◌else◌, ⊤, All}
use Rattle.std.specs.List.{list_any, flat_map, AllByRecursion}
use Rattle.std.proofs.lemmas.Bool.{false≢true}
use Rattle.std.proofs.lemmas.List.Elements.{recursion_from_All}
use Rattle.std.proofs.lemmas.List.Folds.{list_any-append}
use mathlib.Core.Logic.{inl, inr}
use Rattle.po_term.specs.declared.term.Label.{Label}
use Rattle.po_ir.specs.declared.unit.Op.{Op}
use Rattle.po_ir.specs.declared.unit.Op.TheVariants as op
use Rattle.po_ir.specs.Ops.{labels_of}
use Rattle.po_model.specs.declared.var.Var.TheVariants.{Cc}
use Rattle.po_model.specs.Blocks.{PlainBlock, instrs_at}
use Rattle.po_model.specs.LiveAfter.{Point, ReadOn, IsLive, reads, sets}
use Rattle.po_model.specs.Naive.{Text, Piece, Mark, Does, sym_in, each_once, pieces, cut, naive}
use Rattle.po_expand.specs.CcAtStarts.{CcDeadAtStarts}
use Rattle.po_expand.proofs.Cutting.{ends_block, cut_all}
use Rattle.po_term.specs.Moves.{PlainMove, PlainInstr}

-- no instruction reads cc before one that sets it
abbrev pub SetFirst : List PlainInstr → Type 0
SetFirst [] = ⊤
SetFirst (x ∷ xs) = (reads x Cc ≡ false) × (sets x Cc ≡ false → SetFirst xs)

abbrev pub sets_cc : List PlainInstr → Bool
sets_cc xs = list_any (λ x. sets x Cc) xs

module _ (code : List PlainBlock) (each : (b : ℕ) → SetFirst (instrs_at code b)) where
  -- where cc is set before it is read on the rest of the block, no path from there reads it first
  no_path : (path : List Point) (b : ℕ) (xs : List PlainInstr) → SetFirst xs
      → ReadOn code Cc (record { block = b; rest = xs }) path → ⊥
  no_path [] b [] s r = false≢true r
  no_path [] b (x ∷ xs) s r = false≢true (sym s.0 ∙ r)
  no_path (q ∷ qs) b [] s r = no_path qs q.block q.rest (rw (r.1.1) (each q.block)) r.2
  no_path (q ∷ qs) b (x ∷ xs) s r = no_path qs q.block q.rest (rw (r.1.1) (s.1 r.0)) r.2

  pub dead_at_starts : (b : ℕ) → IsLive code Cc (record { block = b; rest = instrs_at code b }) → ⊥
  dead_at_starts b (inl e) = (cc)
  dead_at_starts b (inr r) = no_path r.0 b (instrs_at code b) (each b) r.1

-- where the block that has begun has set cc or not, each reader of cc stands behind a setter in its block
abbrev pub Compared : Bool → List Piece → Type 0
Compared set [] = ⊤
Compared set (Mark l ∷ ps) = Compared false ps
Compared set (Does m ∷ ps) =
    (reads (m ∷ []) Cc ≡ true → set ≡ true) × Compared (if ends_block m then false else (set || sets (m ∷ []) Cc)) ps

set_first_push : (xs : List PlainInstr) (x : PlainInstr) → SetFirst xs → (reads x Cc ≡ true → sets_cc xs ≡ true)
    → SetFirst (xs ++ x ∷ [])
set_first_push [] x s h = (unread (reads x Cc) refl, λ e. tt)
  where
    unread : (b : Bool) → reads x Cc ≡ b → reads x Cc ≡ false
    unread true e = absurd (false≢true (h e))
    unread false e = e
set_first_push (y ∷ ys) x s h = (s.0, λ e. set_first_push ys x (s.1 e) (λ r. behind (sets y Cc) e (h r)))
  where
    behind : (b : Bool) → b ≡ false → (b || sets_cc ys) ≡ true → sets_cc ys ≡ true
    behind b e f = rw e at f

or_none : (a : Bool) → (a || false) ≡ a
or_none true = refl
or_none false = refl

sets_push : (xs : List PlainInstr) (x : PlainInstr) → sets_cc (xs ++ x ∷ []) ≡ (sets_cc xs || sets x Cc)
sets_push xs x = list_any-append (λ y. sets y Cc) xs (x ∷ []) ∙ rw (or_none (sets x Cc)) refl

abbrev Begun : Option Label → List PlainInstr → List Piece → Type 0
Begun named is ps = SetFirst is × Compared (sets_cc is) ps

abbrev SetFirstIn : PlainBlock → Type 0
SetFirstIn b = SetFirst b.instrs

ended : (named : Option Label) (is : List PlainInstr) (m : PlainMove) (ps : List Piece) → Begun named is (Does m ∷ ps)
    → ends_block m ≡ true → SetFirst (is ++ (m ∷ []) ∷ []) × Begun None [] ps
ended named is m ps g e = (set_first_push is (m ∷ []) g.0 g.1.0, (tt, rw e at (g.1.1)))

going : (named : Option Label) (is : List PlainInstr) (m : PlainMove) (ps : List Piece) → Begun named is (Does m ∷ ps)
    → ends_block m ≡ false → Begun named (is ++ (m ∷ []) ∷ []) ps
going named is m ps g e = (set_first_push is (m ∷ []) g.0 g.1.0, rw (sets_push is (m ∷ [])) (rw e at (g.1.1)))

cut_sets_first : (ps : List Piece) → Compared false ps → All SetFirstIn (cut None [] ps)
cut_sets_first ps c =
    cut_all SetFirstIn Begun (λ named is qs g. g.0) (λ named is l qs g. (tt, g.1)) ended going None [] ps (tt, c)

instrs_set_first : (code : List PlainBlock) (b : ℕ) → AllByRecursion SetFirstIn code → SetFirst (instrs_at code b)
instrs_set_first [] b h = tt
instrs_set_first (x ∷ xs) zero h = h.0
instrs_set_first (x ∷ xs) (suc b) h = instrs_set_first xs b h.1

or_set : (set : Bool) → (set || true) ≡ true
or_set true = refl
or_set false = refl

module _ (labels syms : List Text) where
  pieces_compared : (set : Bool) (k : ℕ) (stack : List ℕ) (os : List Op) → Compared set (pieces labels syms k stack os)
  pieces_compared set k stack [] = tt
  pieces_compared set k stack (op.Con n ∷ os) =
      (λ e. absurd (false≢true e), pieces_compared (set || false) (k + 1) (k ∷ stack) os)
  pieces_compared set k stack (op.Adl n ∷ os) =
      (λ e. absurd (false≢true e), pieces_compared (set || false) (k + 1) (k ∷ stack) os)
  pieces_compared set k stack (op.Adg s ∷ os) =
      (λ e. absurd (false≢true e), pieces_compared (set || false) (k + 1) (k ∷ stack) os)
  pieces_compared set k [] (op.Lod ∷ os) = tt
  pieces_compared set k (a ∷ stack) (op.Lod ∷ os) =
      (λ e. absurd (false≢true e), pieces_compared (set || false) (k + 1) (k ∷ stack) os)
  pieces_compared set k [] (op.Sto ∷ os) = tt
  pieces_compared set k (b ∷ []) (op.Sto ∷ os) = tt
  pieces_compared set k (b ∷ a ∷ stack) (op.Sto ∷ os) =
      (λ e. absurd (false≢true e), pieces_compared (set || false) k stack os)
  pieces_compared set k [] (op.Bin o ∷ os) = tt
  pieces_compared set k (b ∷ []) (op.Bin o ∷ os) = tt
  pieces_compared set k (b ∷ a ∷ stack) (op.Bin o ∷ os) =
      (λ e. absurd (false≢true e), pieces_compared (set || false) (k + 1) (k ∷ stack) os)
  pieces_compared set k [] (op.Un o ∷ os) = tt
  pieces_compared set k (a ∷ stack) (op.Un o ∷ os) =
      (λ e. absurd (false≢true e), pieces_compared (set || false) (k + 1) (k ∷ stack) os)
  pieces_compared set k [] (op.Dup ∷ os) = tt
  pieces_compared set k (a ∷ stack) (op.Dup ∷ os) = pieces_compared set k (a ∷ a ∷ stack) os
  pieces_compared set k [] (op.Pop ∷ os) = tt
  pieces_compared set k (a ∷ stack) (op.Pop ∷ os) = pieces_compared set k stack os
  pieces_compared set k stack (op.Lab l ∷ os) = pieces_compared false k stack os
  pieces_compared set k stack (op.Jmp l ∷ os) = (λ e. absurd (false≢true e), pieces_compared false k stack os)
  pieces_compared set k [] (op.Br r l ∷ os) = tt
  pieces_compared set k (b ∷ []) (op.Br r l ∷ os) = tt
  pieces_compared set k (b ∷ a ∷ stack) (op.Br r l ∷ os) =
      (λ e. absurd (false≢true e), (λ e. or_set set, pieces_compared false k stack os))
  pieces_compared set k [] (op.Arg n ∷ os) = tt
  pieces_compared set k (a ∷ stack) (op.Arg n ∷ os) =
      (λ e. absurd (false≢true e), pieces_compared (set || false) k stack os)
  pieces_compared set k stack (op.Call f n ∷ os) =
      (λ e. absurd (false≢true e), (λ e. absurd (false≢true e), pieces_compared false (k + 1) (k ∷ stack) os))
  pieces_compared set k [] (op.Ret ∷ os) = tt
  pieces_compared set k (a ∷ stack) (op.Ret ∷ os) =
      (λ e. absurd (false≢true e), (λ e. absurd (false≢true e), pieces_compared false k stack os))

pub cc_dead : CcDeadAtStarts
cc_dead u b =
    let labels = each_once (labels_of u.ops) in
    let syms = each_once (flat_map sym_in u.ops) in
    let each = recursion_from_All SetFirstIn (naive u).code
    (cut_sets_first (pieces labels syms 0 [] u.ops) (pieces_compared labels syms false 0 [] u.ops)) in
    dead_at_starts (naive u).code (λ c. instrs_set_first (naive u).code c each) b
