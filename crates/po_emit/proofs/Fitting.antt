-- Each instruction that is written fits an entry.
use Rattle.std.proofs.Common.{◌≡◌, ℕ, zero, suc, ◌+◌, ◌<◌, ◌≤◌, Bool, true, false, List, [], ◌∷◌, length, drop, get_or}
use Rattle.std.proofs.Common.{map, Option, Some, None, Result, Ok, Err, refl, sym, ◌∙◌, subst, arith, add-one}
use Rattle.std.specs.Prelude.{is_some, option_map, IfOk}
use Rattle.std.specs.Global.{Vec}
use Rattle.po_term.specs.declared.transfer.Transfer.{Transfer}
use Rattle.po_term.specs.declared.transfer.Instr.{Instr}
use Rattle.po_term.specs.Moves.{moves_of, instr_of, instrs_of, PlainInstr}
use Rattle.po_model.specs.declared.machine.Machine.{Machine}
use Rattle.po_model.specs.declared.code.Block.{Block}
use Rattle.po_model.specs.Blocks.{PlainBlock, block_of, instrs_at}
use Rattle.po_model.specs.Fit.{fit}
use Rattle.po_model.specs.Fitted.{instr_at, TellsCc, IsRecognised}
use Rattle.po_live.specs.Flags.{flag_at, flags_at}
use Rattle.po_emit.specs.Fits.{FitFrom, FitBlocksFrom}
use Rattle.po_emit.proofs.Lists.{next_of, behind_all}

pub seen : {A B : Type 0} (f : A → B) (o : Option A) (x : B) → Some x ≡ option_map f o → true ≡ is_some o
seen f None x e = cc
seen f (Some a) x e = refl

pub unseen : {A B : Type 0} (f : A → B) (o : Option A) → ◌≡◌ {A = Option B} None (option_map f o) → false ≡ is_some o
unseen f None e = refl
unseen f (Some a) e = cc

pub if_ok_more : {T E : Type 0} {P Q : T → Type 0} (r : Result T E) → ((x : T) → P x → Q x) → IfOk r P → IfOk r Q
if_ok_more (Ok x) f h = f x h
if_ok_more (Err e) f h = tt

module _ (m : Machine) where
  pub fit_turn : (lives : List Bool) (xs : List Instr) (i : ℕ) (x : Instr) (ts : List Transfer) (cc_live fits : Bool)
      → i < length xs → x ≡ get_or xs i x → ts ≡ x.xs.items → cc_live ≡ flag_at lives i
      → fits ≡ is_some (fit m cc_live (moves_of ts)) → fits ≡ true
      → (FitFrom m lives i (instrs_of (drop i xs)) → FitFrom m lives 0 (instrs_of xs))
      → FitFrom m lives (i + 1) (instrs_of (drop (i + 1) xs)) → FitFrom m lives 0 (instrs_of xs)
  fit_turn lives xs i x ts cc_live fits h e same alive told fitted before behind =
      let here : is_some (fit m (flag_at lives i) (instr_of x)) ≡ true = rw (← same, ← alive) (sym told ∙ fitted) in
      let rest : FitFrom m lives (suc i) (instrs_of (drop (i + 1) xs)) =
      subst (λ k. FitFrom m lives k (instrs_of (drop (i + 1) xs))) (add-one i) behind in
      before (subst (λ (ys : List Instr). FitFrom m lives i (instrs_of ys)) (sym (next_of xs i x h e)) (here, rest))

  pub fit_end : (lives : List Bool) (xs : List Instr) (i : ℕ) → length xs ≤ i
      → (FitFrom m lives i (instrs_of (drop i xs)) → FitFrom m lives 0 (instrs_of xs))
      → FitFrom m lives 0 (instrs_of xs)
  fit_end lives xs i h before =
      before (subst (λ (ys : List Instr). FitFrom m lives i (instrs_of ys)) (sym (behind_all xs i h)) tt)

  pub blocks_fit_turn : (lives : List (Vec Bool)) (bs : List Block) (j : ℕ) (b : Block) (flags : List Bool)
      → j < length bs → b ≡ get_or bs j b → flags ≡ flags_at lives j → FitFrom m flags 0 (instrs_of b.instrs.items)
      → (FitBlocksFrom m lives j (map block_of (drop j bs)) → FitBlocksFrom m lives 0 (map block_of bs))
      → FitBlocksFrom m lives (j + 1) (map block_of (drop (j + 1) bs)) → FitBlocksFrom m lives 0 (map block_of bs)
  blocks_fit_turn lives bs j b flags h e same fits before behind =
      let here : FitFrom m (flags_at lives j) 0 (instrs_of b.instrs.items) =
      subst (λ (fs : List Bool). FitFrom m fs 0 (instrs_of b.instrs.items)) same fits in
      let rest : FitBlocksFrom m lives (suc j) (map block_of (drop (j + 1) bs)) =
      subst (λ k. FitBlocksFrom m lives k (map block_of (drop (j + 1) bs))) (add-one j) behind in
      before (subst (λ (ys : List Block). FitBlocksFrom m lives j (map block_of ys)) (sym (next_of bs j b h e))
      (here, rest))

  pub blocks_fit_end : (lives : List (Vec Bool)) (bs : List Block) (j : ℕ) → length bs ≤ j
      → (FitBlocksFrom m lives j (map block_of (drop j bs)) → FitBlocksFrom m lives 0 (map block_of bs))
      → FitBlocksFrom m lives 0 (map block_of bs)
  blocks_fit_end lives bs j h before =
      before (subst (λ (ys : List Block). FitBlocksFrom m lives j (map block_of ys)) (sym (behind_all bs j h)) tt)

  fit_here : (lives : List Bool) (k : ℕ) (xs : List PlainInstr) → FitFrom m lives k xs → (i n : ℕ) → n ≡ k + i
      → i < length xs → is_some (fit m (flag_at lives n) (instr_at i xs)) ≡ true
  fit_here lives k [] h i n e below = absurd (omega arith)
  fit_here lives k (x ∷ xs) h zero n e below =
      let same : k ≡ n = omega (arith, e) in
      subst (λ j. is_some (fit m (flag_at lives j) x) ≡ true) same h.0
  fit_here lives k (x ∷ xs) h (suc i) n e below =
      fit_here lives (suc k) xs h.1 i n (omega (arith, e)) (omega (arith, below))

  block_fits_here : (lives : List (Vec Bool)) (k : ℕ) (code : List PlainBlock) → FitBlocksFrom m lives k code
      → (b i n : ℕ) → n ≡ k + b → i < length (instrs_at code b)
      → is_some (fit m (flag_at (flags_at lives n) i) (instr_at i (instrs_at code b))) ≡ true
  block_fits_here lives k [] h b i n e below = absurd (omega (arith, below))
  block_fits_here lives k (x ∷ xs) h zero i n e below =
      let same : k ≡ n = omega (arith, e) in
      subst (λ j. is_some (fit m (flag_at (flags_at lives j) i) (instr_at i x.instrs)) ≡ true) same
      (fit_here (flags_at lives k) 0 x.instrs h.0 i i (omega arith) below)
  block_fits_here lives k (x ∷ xs) h (suc b) i n e below =
      block_fits_here lives (suc k) xs h.1 b i n (omega (arith, e)) below

  some_is : {A : Type 0} (o : Option A) → is_some o ≡ true → (x : A) × (o ≡ Some x)
  some_is None e = absurd (grind arith)
  some_is (Some x) e = (x, refl)

  -- all blocks that are written so are recognised
  pub recognised : (lives : List (Vec Bool)) (code : List PlainBlock)
      → TellsCc code (λ b i. flag_at (flags_at lives b) i) → FitBlocksFrom m lives 0 code → IsRecognised code m
  recognised lives code tells h = (
    λ b i. flag_at (flags_at lives b) i,
    tells,
    λ b i below. some_is (fit m (flag_at (flags_at lives b) i) (instr_at i (instrs_at code b)))
        (block_fits_here lives 0 code h b i b (omega arith) below),
  )
