-- A pass over a code makes nothing live: what is live in the code that it makes was live in the code that it began
-- with.
use Rattle.std.proofs.Common.{◌≡◌, ℕ, zero, suc, ◌<◌, ◌≤◌, Bool, true, false, List, [], ◌∷◌, length, drop, map}
use Rattle.std.proofs.Common.{reverse, refl, ◌∙◌, ap, arith}
use Rattle.std.specs.Prelude.{nat_lt, if◌then◌else◌, Option, Some, None, IsSome, All}
use Rattle.std.proofs.lemmas.Bool.{false≢true}
use Rattle.std.proofs.lemmas.List.{reverse-reverse}
use Rattle.std.proofs.lemmas.List.Elements.{All-nil, All-cons}
use mathlib.Core.Logic.{◌⊎◌, inl, inr}
use mathlib.Core.List.{reverse_aux}
use Rattle.po_term.specs.declared.term.Sym.{Sym}
use Rattle.po_term.specs.Terms.{Place}
use Rattle.po_term.specs.Moves.{Ending, GoTo, IfCc, IfTwo, CallOf, Return, PlainInstr}
use Rattle.po_term.specs.Form.{WellFormed}
use Rattle.po_model.specs.declared.machine.Machine.{Machine}
use Rattle.po_model.specs.declared.var.Var.{Var}
use Rattle.po_model.specs.declared.var.Var.TheVariants.{Cc}
use Rattle.po_model.specs.Blocks.{PlainBlock, EndsLast, instrs_at, target_by, goes_on, is_at, ending_at, target_at}
use Rattle.po_model.specs.Blocks.{next_at, leads}
use Rattle.po_model.specs.LiveAfter.{IsLive, IsLiveAt}
use Rattle.po_model.specs.Fit.{fit}
use Rattle.po_model.specs.Fitted.{instr_at}
use Rattle.po_model.specs.Machines.{IsMachine}
use Rattle.po_model.specs.Scanned.{Ahead}
use Rattle.po_recog.proofs.Clobbers.{fits_dead}
use Rattle.po_subst.proofs.Reading.{by_either, left_true, right_true}
use Rattle.po_slow.proofs.Passes.{Laws, label_of}
use Rattle.po_slow.proofs.LivenessEndings.{NoFurther, no_further_self}
use Rattle.po_slow.proofs.LivenessFlow.{Flows, NoMore, ReadBehind, live_where, live_on, flows_where}
use Rattle.po_slow.proofs.Blockwise.{instrs_in, each_block, all_blocks, same_length, label_block}
use Rattle.po_slow.proofs.LivenessPass.{AllFit, AllStay, Current, Standing, standing_start, standing_formed}
use Rattle.po_slow.proofs.LivenessPass.{standing_dropped, standing_taken, standing_gone, standing_one}
use Rattle.po_model.specs.UnitCodes.{IsFormedCode}

-- Lists of blocks

below_or_beyond : (b n : ℕ) → (b < n) ⊎ (n ≤ b)
below_or_beyond zero zero = inr (omega arith)
below_or_beyond zero (suc n) = inl (omega arith)
below_or_beyond (suc b) zero = inr (omega arith)
below_or_beyond (suc b) (suc n) = go (below_or_beyond b n)
  where
    go : (b < n) ⊎ (n ≤ b) → (suc b < suc n) ⊎ (suc n ≤ suc b)
    go (inl h) = inl (omega arith)
    go (inr h) = inr (omega arith)

instrs_beyond : (bs : List PlainBlock) (b : ℕ) → length bs ≤ b → instrs_at bs b ≡ []
instrs_beyond [] b h = refl
instrs_beyond (x ∷ xs) zero h = absurd (omega arith)
instrs_beyond (x ∷ xs) (suc b) h = instrs_beyond xs b (omega arith)

there_below : (bs : List PlainBlock) (b i : ℕ) → i < length (instrs_at bs b) → b < length bs
there_below [] b i h = absurd (omega arith)
there_below (x ∷ xs) zero i h = omega arith
there_below (x ∷ xs) (suc b) i h = let k = there_below xs b i h in omega arith

-- Edges

same_target : (xs ys : List PlainBlock) → map label_of xs ≡ map label_of ys → (e : Option (Ending ℕ Place Sym))
    → target_by xs e ≡ target_by ys e
same_target xs ys h None = refl
same_target xs ys h (Some (GoTo l)) = label_block 0 xs ys l h
same_target xs ys h (Some (IfCc r l)) = label_block 0 xs ys l h
same_target xs ys h (Some (IfTwo t u r l)) = label_block 0 xs ys l h
same_target xs ys h (Some (CallOf s n)) = refl
same_target xs ys h (Some Return) = refl

goes_if : (there new old : Bool) (n q : ℕ) → (new ≡ true → old ≡ true)
    → is_at q (if there then (if new then Some n else None) else None) ≡ true
    → is_at q (if there then (if old then Some n else None) else None) ≡ true
goes_if false new old n q h e = e
goes_if true false old n q h e = absurd (false≢true e)
goes_if true true old n q h e = rw (h refl) e

module _ (next code : List PlainBlock) (labels : map label_of next ≡ map label_of code) where
  as_many : length next ≡ length code
  as_many = same_length next code labels

  -- a block whose transfer of control leads no further
  pub leads_less : (b q : ℕ) → NoFurther (ending_at next b) (ending_at code b) → leads next b q ≡ true
      → leads code b q ≡ true
  leads_less b q h e =
      by_either (is_at q (target_at next b)) (is_at q (next_at next b)) e
      (λ i. left_true (is_at q (target_at code b)) (is_at q (next_at code b))
      (h.target code q (rw (same_target next code labels (ending_at next b)) at i)))
      (λ i. right_true (is_at q (target_at code b)) (is_at q (next_at code b))
      (goes_if (nat_lt (suc b) (length code)) (goes_on (ending_at next b)) (goes_on (ending_at code b)) (suc b) q
      h.goes (rw as_many at i)))

-- One pass

-- what was done of a block, in its order
done_in_order : (told acc : List Ahead)
    → instrs_in (reverse_aux told acc) ≡ reverse_aux (instrs_in told) (instrs_in acc)
done_in_order [] acc = refl
done_in_order (t ∷ ts) acc = done_in_order ts (t ∷ acc)

-- an instruction fits where less is live
fits_less : (m : Machine) (l c : Bool) (x : PlainInstr) → (c ≡ true → l ≡ true) → IsSome (fit m l x)
    → IsSome (fit m c x)
fits_less m true true x h i = i
fits_less m true false x h i = fits_dead m x i
fits_less m false true x h i = absurd (false≢true (h refl))
fits_less m false false x h i = i

-- what stands at a place of a block, with what was told of it
record ToldAt (m : Machine) (code : List PlainBlock) (b : ℕ) (xs : List PlainInstr) (i : ℕ) : Type 0 where
  live : Var → Bool
  told : (v : Var) → Flows (ReadBehind code b) (drop (suc i) xs) v → live v ≡ true
  fits : AllFit m code → IsSome (fit m (live Cc) (instr_at i xs))

told_at : (m : Machine) (code : List PlainBlock) (b : ℕ) (xs : List Ahead) (i : ℕ) → AllStay m code b xs
    → i < length (instrs_in xs) → ToldAt m code b (instrs_in xs) i
told_at m code b [] i s l = absurd (omega arith)
told_at m code b (x ∷ xs) zero s l = record { live = x.live; told = s.0.told; fits = s.0.fits }
told_at m code b (x ∷ xs) (suc i) s l =
    let t = told_at m code b xs i s.1 (omega arith) in record { live = t.live; told = t.told; fits = t.fits }

-- from one code to the next nothing becomes live, and what fits goes on to fit
pub record MakesNothingLive (m : Machine) (code next : List PlainBlock) : Type 0 where
  pub live : (b : ℕ) (v : Var) → IsLiveAt next b v → IsLiveAt code b v
  pub fits : AllFit m code → AllFit m next

pub nothing_on : (m : Machine) (a b c : List PlainBlock) → MakesNothingLive m a b → MakesNothingLive m b c
    → MakesNothingLive m a c
nothing_on m a b c h i = record { live = λ n v l. h.live n v (i.live n v l); fits = λ f. i.fits (h.fits f) }

module _ (m : Machine) (code next : List PlainBlock) (labels : map label_of next ≡ map label_of code)
    (stands : (b : ℕ) → b < length code → Standing m code b (reverse (instrs_at next b)) []) where
  -- a block of the next code, with what was told of its instructions
  record Done (b : ℕ) : Type 0 where
    whole : List Ahead
    same : instrs_in whole ≡ instrs_at next b
    current : Current m code b whole

  done_at : (b : ℕ) → b < length code → Done b
  done_at b l =
      let s = stands b l in
      record {
        whole = reverse_aux s.told [];
        same = done_in_order s.told [] ∙ ap reverse s.is_done ∙ reverse-reverse (instrs_at next b);
        current = s.current;
      }

  done_below : (b : ℕ) → b < length next → Done b
  done_below b l = done_at b (rw (← as_many next code labels) l)

  no_more_at : (b : ℕ) → NoMore (ReadBehind code b) (instrs_at next b) (instrs_at code b)
  no_more_at b = go (below_or_beyond b (length code))
    where
      go : (b < length code) ⊎ (length code ≤ b) → NoMore (ReadBehind code b) (instrs_at next b) (instrs_at code b)
      go (inl l) = let d = done_at b l in rw d.same at (d.current.no_more)
      go (inr l) = rw (instrs_beyond next b (rw (as_many next code labels) l), instrs_beyond code b l) (λ v f. f)

  pub ending_less : (b : ℕ) → NoFurther (ending_at next b) (ending_at code b)
  ending_less b = go (below_or_beyond b (length code))
    where
      go : (b < length code) ⊎ (length code ≤ b) → NoFurther (ending_at next b) (ending_at code b)
      go (inl l) = let d = done_at b l in rw d.same at (d.current.ending)
      go (inr l) =
          rw (instrs_beyond next b (rw (as_many next code labels) l), instrs_beyond code b l) (no_further_self None)

  -- what is live in the next code, at any place of a block, flows back from what was read behind the block
  pub flows_next : (b : ℕ) (v : Var) (xs : List PlainInstr) → IsLive next v (record { block = b; rest = xs })
      → Flows (ReadBehind code b) xs v
  flows_next =
      flows_where next (ReadBehind code)
      (λ b q v l f. live_on code b q v (leads_less next code labels b q (ending_less b) l)
      (live_where code q v (instrs_at code q) (no_more_at q v f)))

  pub nothing_live : MakesNothingLive m code next
  nothing_live = record {
    live = λ b v l. live_where code b v (instrs_at code b) (no_more_at b v (flows_next b v (instrs_at next b) l));
    fits = go;
  }
    where
      go : AllFit m code → AllFit m next
      go f b i c l tells =
          let d = done_below b (there_below next b i l) in
          let t : ToldAt m code b (instrs_at next b) i =
          rw d.same at (told_at m code b d.whole i d.current.stay (rw d.same l)) in
          fits_less m (t.live Cc) c (instr_at i (instrs_at next b))
          (λ e. t.told Cc (flows_next b Cc (drop (suc i) (instrs_at next b)) (tells.0 e))) (t.fits f)

  all_instrs : (xs : List Ahead) (b : ℕ) → AllStay m code b xs → All WellFormed (instrs_in xs)
  all_instrs [] b s = All-nil WellFormed
  all_instrs (x ∷ xs) b s = All-cons WellFormed x.instr (instrs_in xs) s.0.formed (all_instrs xs b s.1)

  pub formed_next : IsFormedCode next
  formed_next = record {
    ends_last = all_blocks EndsLast next (λ b l. let d = done_below b l in rw d.same at (d.current.last));
    formed =
        all_blocks (λ xs. All WellFormed xs) next
        (λ b l. let d = done_below b l in rw d.same at (all_instrs d.whole b d.current.stay));
  }

-- the steps of a scan within a block make nothing live, so all passes make nothing live
pub liveness_laws : (m : Machine) → IsMachine m
    → Laws m IsFormedCode (MakesNothingLive m) (λ code live b done rest. Standing m code b done rest)
liveness_laws m allowed = record {
  joins = nothing_on m;
  start =
      λ code live h t b l. standing_start m code b (live b)
      (each_block (λ xs. All WellFormed xs) (All-nil WellFormed) code b h.formed)
      (each_block EndsLast tt code b h.ends_last) (λ i v k. t b i v k);
  formed = λ code live h t b d done x xs s. standing_formed m code b d done x xs s;
  dropped = λ code live h t b done x xs s d. standing_dropped m code b done x xs s d;
  taken = λ code live h t b done x xs s. standing_taken m code b done x xs s;
  gone = λ code live h t b d done x xs s i. standing_gone m code b allowed d done x xs s i;
  one = λ code live h t b d done x xs y s i. standing_one m code b allowed d done x xs y s i;
  over = λ code live h t next labels s. (nothing_live m code next labels s, formed_next m code next labels s);
}
