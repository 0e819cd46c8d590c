-- One more block to which a register is passed on, and one more block whose start is due.
use Rattle.std.proofs.Common.{◌≡◌, ℕ, zero, suc, ◌+◌, ◌<◌, Bool, true, false, List, [], ◌∷◌, length, map, take, refl}
use Rattle.std.proofs.Common.{sym, ◌∙◌, ap, arith, add-one, slice_index_or}
use Rattle.std.specs.Prelude.{◌||◌, ◌&&◌, ◌==◌, not, nat_lt}
use Rattle.std.proofs.lemmas.Bool.{eqb-true}
use Rattle.po_term.specs.declared.transfer.Instr.{Instr}
use Rattle.po_term.specs.Moves.{instrs_of}
use Rattle.po_model.specs.declared.code.Block.{Block}
use Rattle.po_model.specs.declared.var.Var.{Var}
use Rattle.po_model.specs.Blocks.{block_of, instrs_at}
use Rattle.po_live.specs.Sets.{var_eq, back, nothing}
use Rattle.po_live.specs.Due.{is_in}
use Rattle.po_live.proofs.Fuel.{eq_refl, var_eq_refl}
use Rattle.po_live.proofs.Graphs.{instrs_there, one_more}

pub in_at : (ps : List ℕ) (i : ℕ) → i < length ps → is_in ps (slice_index_or ps i 0) ≡ true
in_at [] i h = absurd (omega arith)
in_at (x ∷ xs) zero h = rw (eq_refl x) refl
in_at (x ∷ xs) (suc i) h =
    or_right (x == slice_index_or xs i 0) (is_in xs (slice_index_or xs i 0)) (in_at xs i (omega arith))
  where
    or_right : (a b : Bool) → b ≡ true → (a || b) ≡ true
    or_right true b e = refl
    or_right false b e = e

or_moved : (a b c : Bool) → (a || (b || c)) ≡ ((a || b) || c)
or_moved true b c = refl
or_moved false b c = refl

or_false : (a : Bool) → (a || false) ≡ a
or_false true = refl
or_false false = refl

in_suc : (ps : List ℕ) (i b : ℕ) → i < length ps
    → is_in (take (suc i) ps) b ≡ (is_in (take i ps) b || slice_index_or ps i 0 == b)
in_suc [] i b h = absurd (omega arith)
in_suc (x ∷ xs) zero b h = or_false (x == b)
in_suc (x ∷ xs) (suc i) b h =
    ap (λ t. x == b || t) (in_suc xs i b (omega arith))
    ∙ or_moved (x == b) (is_in (take i xs) b) (slice_index_or xs i 0 == b)

in_more : (ps : List ℕ) (i b : ℕ) → i < length ps
    → is_in (take (i + 1) ps) b ≡ (is_in (take i ps) b || slice_index_or ps i 0 == b)
in_more ps i b h = rw add-one (in_suc ps i b h)

out_test : (d e i o : Bool) → ((d && e) || ((i && e) || o)) ≡ (((i || d) && e) || o)
out_test true true true o = refl
out_test true true false o = refl
out_test true false true o = refl
out_test true false false o = refl
out_test false e true o = refl
out_test false e false o = refl

-- d: the new block is b; i: b was passed on to before; o, s: v is at the end of b already, is set there; w: b and q
-- are due
work_test : (d e i o s w : Bool)
    → ((d && e) && (not (i || o) && not s) || ((i && e) && (not o && not s) || w))
    ≡ (((i || d) && e) && (not o && not s) || w)
work_test true true true o s w = refl
work_test true true false true s w = refl
work_test true true false false true w = refl
work_test true true false false false w = refl
work_test true false true o s w = refl
work_test true false false o s w = refl
work_test false e true o s w = refl
work_test false e false o s w = refl

module _ (v : Var) (ps : List ℕ) (i : ℕ) (h : i < length ps) (out0 out1 out2 sets : ℕ → Var → Bool)
    (was : (b : ℕ) (q : Var) → out1 b q ≡ ((is_in (take i ps) b && var_eq v q) || out0 b q)) where
  pub more_out : ((b : ℕ) (q : Var) → out2 b q ≡ ((slice_index_or ps i 0 == b && var_eq v q) || out1 b q))
      → (b : ℕ) (q : Var) → out2 b q ≡ ((is_in (take (i + 1) ps) b && var_eq v q) || out0 b q)
  more_out is b q =
      is b q ∙ ap (λ t. (slice_index_or ps i 0 == b && var_eq v q) || t) (was b q)
      ∙ out_test (slice_index_or ps i 0 == b) (var_eq v q) (is_in (take i ps) b) (out0 b q)
      ∙ ap (λ t. (t && var_eq v q) || out0 b q) (sym (in_more ps i b h))

  at_place : (b : ℕ) → out1 b v ≡ (is_in (take i ps) b || out0 b v)
  at_place b = was b v ∙ ap (λ t. (is_in (take i ps) b && t) || out0 b v) (var_eq_refl v) ∙ kept (is_in (take i ps) b)
    where
      kept : (a : Bool) → ((a && true) || out0 b v) ≡ (a || out0 b v)
      kept true = refl
      kept false = refl

  pub more_work : (work0 work1 work2 : ℕ → Var → Bool)
      → ((b : ℕ) (q : Var)
      → work1 b q ≡ (((is_in (take i ps) b && var_eq v q) && (not (out0 b v) && not (sets b v))) || work0 b q))
      → ((b : ℕ) (q : Var)
      → work2 b q
      ≡ (((slice_index_or ps i 0 == b && var_eq v q)
      && (not (out1 (slice_index_or ps i 0) v) && not (sets (slice_index_or ps i 0) v))) || work1 b q))
      → (b : ℕ) (q : Var)
      → work2 b q ≡ (((is_in (take (i + 1) ps) b && var_eq v q) && (not (out0 b v) && not (sets b v))) || work0 b q)
  more_work work0 work1 work2 w1 w2 b q =
      w2 b q
      ∙ ap (λ t. ((slice_index_or ps i 0 == b && var_eq v q)
      && (not (out1 (slice_index_or ps i 0) v) && not (sets (slice_index_or ps i 0) v))) || t) (w1 b q)
      ∙ go (slice_index_or ps i 0 == b) refl
      ∙ work_test (slice_index_or ps i 0 == b) (var_eq v q) (is_in (take i ps) b) (out0 b v) (sets b v) (work0 b q)
      ∙ ap (λ t. ((t && var_eq v q) && (not (out0 b v) && not (sets b v))) || work0 b q) (sym (in_more ps i b h))
    where
      go : (d : Bool) → (slice_index_or ps i 0 == b) ≡ d
          → ((d && var_eq v q) && (not (out1 (slice_index_or ps i 0) v) && not (sets (slice_index_or ps i 0) v))
          || (((is_in (take i ps) b && var_eq v q) && (not (out0 b v) && not (sets b v))) || work0 b q))
          ≡ ((d && var_eq v q) && (not (is_in (take i ps) b || out0 b v) && not (sets b v))
          || (((is_in (take i ps) b && var_eq v q) && (not (out0 b v) && not (sets b v))) || work0 b q))
      go true e =
          let p : slice_index_or ps i 0 ≡ b = eqb-true (slice_index_or ps i 0) b e in
          ap (λ k. (var_eq v q && (not (out1 k v) && not (sets k v)))
          || (((is_in (take i ps) b && var_eq v q) && (not (out0 b v) && not (sets b v))) || work0 b q)) p
          ∙ ap (λ t. (var_eq v q && (not t && not (sets b v)))
          || (((is_in (take i ps) b && var_eq v q) && (not (out0 b v) && not (sets b v))) || work0 b q))
          (at_place b)
      go false e = refl

and_turned : (a b : Bool) → (a && b) ≡ (b && a)
and_turned true true = refl
and_turned true false = refl
and_turned false true = refl
and_turned false false = refl

-- the start of the block b
pub started : (blocks : List Block) (b : ℕ) (d : Block) (is : List Instr) (live : Var → Bool)
    (old new : ℕ → Var → Bool) → b < length blocks → is ≡ (slice_index_or blocks b d).instrs.items
    → ((q : Var) → live q ≡ back (instrs_of is) nothing q)
    → ((c : ℕ) (q : Var) → old c q ≡ (nat_lt c b && back (instrs_at (map block_of blocks) c) nothing q))
    → ((c : ℕ) (q : Var) → new c q ≡ ((b == c && live q) || old c q)) → (c : ℕ) (q : Var)
    → new c q ≡ (nat_lt c (b + 1) && back (instrs_at (map block_of blocks) c) nothing q)
started blocks b d is live old new h e l o n c q =
    n c q
    ∙ ap (λ t. t || old c q) (and_turned (b == c) (live q))
    ∙ ap (λ t. (live q && b == c) || t) (o c q)
    ∙ one_more b c (live q) (back (instrs_at (map block_of blocks) c) nothing q)
    (λ z. here ∙ ap (λ k. back (instrs_at (map block_of blocks) k) nothing q) (eqb-true b c z))
  where
    here : live q ≡ back (instrs_at (map block_of blocks) b) nothing q
    here =
        l q ∙ ap (λ (js : List Instr). back (instrs_of js) nothing q) e
        ∙ ap (λ xs. back xs nothing q) (sym (instrs_there blocks b d h))
