-- Instructions that fit, block by block.
use Rattle.std.proofs.Common.{◌≡◌, ℕ, zero, suc, ◌<◌, Bool, true, false, List, [], ◌∷◌, length, map, refl, sym, ◌∙◌}
use Rattle.std.proofs.Common.{ap, subst, arith, slice_index_or, length-append, Option, Some, None, Result, Ok, Err}
use Rattle.std.specs.Prelude.{is_some, ⊤}
use Rattle.std.specs.Global.{Vec}
use mathlib.Core.Logic.{inl, inr}
use Rattle.po_term.specs.declared.transfer.Instr.{Instr}
use Rattle.po_term.specs.Moves.{instr_of, instrs_of, PlainInstr}
use Rattle.po_model.specs.declared.code.Block.{Block}
use Rattle.po_model.specs.declared.machine.Machine.{Machine}
use Rattle.po_model.specs.Blocks.{PlainBlock, block_of, instrs_at}
use Rattle.po_model.specs.Fit.{fit}
use Rattle.po_model.specs.Fitted.{instr_at, TellsCc, FitsAt, IsBefore}
use Rattle.po_model.specs.UnitCodes.{flat}
use Rattle.po_live.specs.Flags.{flag_at, flags_at}
use Rattle.po_expand.specs.declared.refusal.CheckRefusal.{CheckRefusal}
use Rattle.po_expand.specs.declared.refusal.CheckRefusal.TheVariants.{Unrecognised, OutOfMemory}
use Rattle.po_expand.specs.Checks.{Checks, fits_in, AllFit, FirstUnfit, ChecksBlock, AllFitBefore, ChecksBlocks}

instrs_length : (is : List Instr) → length (instrs_of is) ≡ length is
instrs_length [] = refl
instrs_length (x ∷ xs) = ap suc (instrs_length xs)

instr_there : (is : List Instr) (i : ℕ) (d : Instr) → i < length is
    → instr_at i (instrs_of is) ≡ instr_of (slice_index_or is i d)
instr_there [] i d h = absurd (omega arith)
instr_there (x ∷ xs) zero d h = refl
instr_there (x ∷ xs) (suc i) d h = instr_there xs i d (omega arith)

flag_there : (fs : List Bool) (i : ℕ) (d : Bool) → i < length fs → flag_at fs i ≡ slice_index_or fs i d
flag_there [] i d h = absurd (omega arith)
flag_there (x ∷ xs) zero d h = refl
flag_there (x ∷ xs) (suc i) d h = flag_there xs i d (omega arith)

-- what was asked of the instruction i and of whether cc is live behind it
pub fits_there : (m : Machine) (lives : List Bool) (is : List Instr) (i : ℕ) (x : Instr) (d fitted : Bool)
    → i < length is → length lives ≡ length is
    → x ≡ slice_index_or is i x → fitted ≡ is_some (fit m (slice_index_or lives i d) (instr_of x))
    → fits_in m lives (instrs_of is) i ≡ fitted
fits_there m lives is i x d fitted h k e g =
    ap (λ (cc : Bool). is_some (fit m cc (instr_at i (instrs_of is)))) (flag_there lives i d (omega (arith, h, k)))
    ∙ ap (λ ms. is_some (fit m (slice_index_or lives i d) ms))
    (instr_there is i x h ∙ ap (λ (y : Instr). instr_of y) (sym e))
    ∙ sym g

pub is_there : (is : List Instr) (i : ℕ) → i < length is → i < length (instrs_of is)
is_there is i h = omega (arith, h, instrs_length is)

instrs_there : (bs : List Block) (b : ℕ) (d : Block) → b < length bs
    → instrs_at (map block_of bs) b ≡ instrs_of (slice_index_or bs b d).instrs.items
instrs_there [] b d h = absurd (omega arith)
instrs_there (x ∷ xs) zero d h = refl
instrs_there (x ∷ xs) (suc b) d h = instrs_there xs b d (omega arith)

sets_there : (ls : List (Vec Bool)) (b : ℕ) (d : Vec Bool) → b < length ls
    → flags_at ls b ≡ (slice_index_or ls b d).items
sets_there [] b d h = absurd (omega arith)
sets_there (x ∷ xs) zero d h = refl
sets_there (x ∷ xs) (suc b) d h = sets_there xs b d (omega arith)

pub block_there : (bs : List Block) (b : ℕ) (d : Block) (is : List Instr) → b < length bs
    → is ≡ (slice_index_or bs b d).instrs.items → instrs_at (map block_of bs) b ≡ instrs_of is
block_there bs b d is h e = instrs_there bs b d h ∙ ap (λ (js : List Instr). instrs_of js) (sym e)

pub lives_there : (ls : List (Vec Bool)) (b : ℕ) (d : Vec Bool) (xs : List Bool) → b < length ls → xs ≡ d.items
    → d ≡ slice_index_or ls b d → flags_at ls b ≡ xs
lives_there ls b d xs h e f = sets_there ls b d h ∙ ap (λ (x : Vec Bool). x.items) (sym f) ∙ sym e

pub lengths_here : (js : List PlainInstr) (ms ls : List Bool) (is : List Instr) → ms ≡ ls → js ≡ instrs_of is
    → length ms ≡ length js → length ls ≡ length is
lengths_here js ms ls is e f g =
    sym (ap (λ (xs : List Bool). length xs) e) ∙ g ∙ ap (λ (xs : List PlainInstr). length xs) f ∙ instrs_length is

pub few_here : (js : List PlainInstr) (is : List Instr) (n : ℕ) → js ≡ instrs_of is → length js < n → length is < n
few_here js is n f g = omega (arith, g, ap (λ (xs : List PlainInstr). length xs) f, instrs_length is)

-- the first block that doesn't fit
pub blocks_refused : (m : Machine) (lives : List (Vec Bool)) (code : List PlainBlock) (b : ℕ) (ls : List Bool)
    (is : List PlainInstr) (refusal : CheckRefusal)
    → flags_at lives b ≡ ls → instrs_at code b ≡ is → AllFitBefore m lives code b → ChecksBlock m ls is b (Err refusal)
    → ChecksBlocks m lives code (Err refusal)
blocks_refused m lives code b ls is (Unrecognised c i) e f before h =
    subst (λ d. AllFitBefore m lives code d × FirstUnfit m (flags_at lives d) (instrs_at code d) i) (sym h.0) (
      before,
      subst (λ js. FirstUnfit m (flags_at lives b) js i) (sym f) (subst (λ xs. FirstUnfit m xs is i) (sym e) h.1),
    )
blocks_refused m lives code b ls is OutOfMemory e f before h = tt

pub block_fits : (m : Machine) (lives : List (Vec Bool)) (code : List PlainBlock) (b : ℕ) (ls : List Bool)
    (is : List PlainInstr)
    → flags_at lives b ≡ ls → instrs_at code b ≡ is → AllFit m ls is → AllFit m (flags_at lives b) (instrs_at code b)
block_fits m lives code b ls is e f h =
    subst (AllFit m (flags_at lives b)) (sym f) (subst (λ xs. AllFit m xs is) (sym e) h)

-- a block has no more instructions than the code
pub block_few : (code : List PlainBlock) (b n : ℕ) → length (flat code) < n → length (instrs_at code b) < n
block_few [] b n h = omega arith
block_few (x ∷ xs) zero n h = omega (arith, h, length-append x.instrs (flat xs))
block_few (x ∷ xs) (suc b) n h = block_few xs b n (omega (arith, h, length-append x.instrs (flat xs)))

there_below : (code : List PlainBlock) (b i : ℕ) → i < length (instrs_at code b) → b < length code
there_below [] b i h = absurd (omega arith)
there_below (x ∷ xs) zero i h = omega arith
there_below (x ∷ xs) (suc b) i h = let k : b < length xs = there_below xs b i h in omega (arith, k)

some_is : {A : Type 0} (o : Option A) → is_some o ≡ true → (x : A) × (o ≡ Some x)
some_is None e = absurd (grind arith)
some_is (Some x) e = (x, refl)

none_is : {A : Type 0} (o : Option A) → is_some o ≡ false → o ≡ None
none_is None e = refl
none_is (Some x) e = absurd (grind arith)

abbrev cc_at : List (Vec Bool) → ℕ → ℕ → Bool
cc_at lives b i = flag_at (flags_at lives b) i

module _ (m : Machine) (code : List PlainBlock) (lives : List (Vec Bool)) where
  fits_from : (b i : ℕ) → fits_in m (flags_at lives b) (instrs_at code b) i ≡ true → FitsAt code m (cc_at lives) b i
  fits_from b i e = some_is (fit m (cc_at lives b i) (instr_at i (instrs_at code b))) e

  before_is : (b i : ℕ) → AllFitBefore m lives code b → FirstUnfit m (flags_at lives b) (instrs_at code b) i
      → (c j : ℕ) → j < length (instrs_at code c) → IsBefore code c j b i → FitsAt code m (cc_at lives) c j
  before_is b i all first c j h (inl k) = fits_from c j (all c k j h)
  before_is b i all first c j h (inr k) =
      fits_from c j
      (subst (λ d. fits_in m (flags_at lives d) (instrs_at code d) j ≡ true) (sym k.0) (first.before j k.1))

  pub checked : (r : Result ⊤ CheckRefusal) → TellsCc code (cc_at lives) → ChecksBlocks m lives code r
      → Checks m code r
  checked (Ok v) tells h = (cc_at lives, tells, λ b i k. fits_from b i (h b (there_below code b i k) i k))
  checked (Err (Unrecognised b i)) tells h = record {
    live = cc_at lives;
    tells = tells;
    there = h.1.there;
    unfit = none_is (fit m (cc_at lives b i) (instr_at i (instrs_at code b))) h.1.unfit;
    first = before_is b i h.0 h.1;
  }
  checked (Err OutOfMemory) tells h = tt
