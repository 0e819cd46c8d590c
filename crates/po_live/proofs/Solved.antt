-- Passing on what is due: what holds all along, and what that gives when nothing is due.
use Rattle.std.proofs.Common.{◌≡◌, ℕ, zero, suc, ◌<◌, ◌≤◌, Bool, true, false, List, [], ◌∷◌, ◌++◌, length, map, refl}
use Rattle.std.proofs.Common.{sym, ◌∙◌, ap, subst, arith, slice_index_or}
use Rattle.std.specs.Prelude.{not, ◌||◌, ◌&&◌, ◌==◌, nat_lt}
use Rattle.std.proofs.lemmas.Bool.{true≢false, false≢true, or_cases, and_parts, eqb-true}
use Rattle.std.proofs.lemmas.Bool.Decides.{nat_tests}
use mathlib.Core.Logic.{◌⊎◌, inl, inr}
use Rattle.po_model.specs.declared.var.Var.{Var}
use Rattle.po_model.specs.Blocks.{PlainBlock, block_of, instrs_at, leads}
use Rattle.po_model.specs.LiveAfter.{IsRead}
use Rattle.po_live.specs.declared.solve.Due.{Due}
use Rattle.po_live.specs.Sets.{var_eq, back, nothing, sets_any}
use Rattle.po_live.specs.Due.{is_due, is_in, is_among, vars_of}
use Rattle.po_live.specs.Flow.{pred_at}
use Rattle.po_live.proofs.Preds.{pred_get}
use Rattle.std.specs.Global.{Vec}
use Rattle.std.proofs.lemmas.List.{length-map}
use Rattle.std.proofs.lemmas.List.Folds.{list_any-append}
use Rattle.po_model.specs.declared.code.Block.{Block}
use Rattle.po_live.specs.declared.sets.LiveVars.{LiveVars}
use Rattle.po_live.specs.Sets.{holds_at}
use Rattle.po_live.proofs.Fuel.{eq_refl, var_eq_refl, var_eq_true}
use Rattle.po_live.proofs.Paths.{IsClosed, IsJustified, back_split, back_same, reached, from_end, through}

lt_true : (a b : ℕ) → nat_lt a b ≡ true → a < b
lt_true a b e = grind (arith, nat_tests)

true_lt : (a b : ℕ) → a < b → nat_lt a b ≡ true
true_lt a b h = grind (arith, nat_tests)

lt_false : (a b : ℕ) → nat_lt a b ≡ false → b ≤ a
lt_false a b e = grind (arith, nat_tests)

false_lt : (a b : ℕ) → b ≤ a → nat_lt a b ≡ false
false_lt a b h = grind (arith, nat_tests)

pub or_left : (a b : Bool) → a ≡ true → (a || b) ≡ true
or_left a b e = rw e refl

pub or_right : (a b : Bool) → b ≡ true → (a || b) ≡ true
or_right true b e = refl
or_right false b e = e

or_none : (a b : Bool) → (a || b) ≡ false → (a ≡ false) × (b ≡ false)
or_none true b e = absurd (true≢false e)
or_none false b e = (refl, e)

and_both : (a b : Bool) → a ≡ true → b ≡ true → (a && b) ≡ true
and_both a b e f = rw (e, f) refl

not_true : (a : Bool) → not a ≡ true → a ≡ false
not_true true e = absurd (false≢true e)
not_true false e = refl

not_false : (a : Bool) → a ≡ false → not a ≡ true
not_false a e = rw e refl

pub instrs_beyond : (bs : List PlainBlock) (b : ℕ) → length bs ≤ b → instrs_at bs b ≡ []
instrs_beyond [] b h = refl
instrs_beyond (x ∷ xs) zero h = absurd (omega arith)
instrs_beyond (x ∷ xs) (suc b) h = instrs_beyond xs b (omega arith)

nowhere : (code : List PlainBlock) (p q : ℕ) → length code ≤ p → leads code p q ≡ false
nowhere code p q h =
    let k : length code ≤ suc p = omega arith in rw (instrs_beyond code p h, false_lt (suc p) (length code) k) refl

pub leads_there : (code : List PlainBlock) (p q : ℕ) → leads code p q ≡ true → p < length code
leads_there code p q e = go (nat_lt p (length code)) refl
  where
    go : (b : Bool) → nat_lt p (length code) ≡ b → p < length code
    go true f = lt_true p (length code) f
    go false f = absurd (true≢false (sym e ∙ nowhere code p q (lt_false p (length code) f)))

pub among_vars : (ds : List Due) (c : ℕ) (q : Var) → is_due ds c q ≡ true → is_among (vars_of ds) q ≡ true
among_vars [] c q e = absurd (false≢true e)
among_vars (d ∷ ds) c q e = go (or_cases (d.block == c && var_eq d.var q) (is_due ds c q) e) (among_vars ds c q)
  where
    go : ((d.block == c && var_eq d.var q) ≡ true) ⊎ (is_due ds c q ≡ true)
        → (is_due ds c q ≡ true → is_among (vars_of ds) q ≡ true) → (var_eq d.var q || is_among (vars_of ds) q) ≡ true
    go (inl f) ih =
        or_left (var_eq d.var q) (is_among (vars_of ds) q) ((and_parts (d.block == c) (var_eq d.var q) f).1)
    go (inr f) ih = or_right (var_eq d.var q) (is_among (vars_of ds) q) (ih f)

-- what holds of the sets at the ends of blocks and of what is due at their starts
pub record Going (code : List PlainBlock) (us : List Var) (out due : ℕ → Var → Bool) : Type 0 where
  pub due_read : (c : ℕ) (q : Var) → due c q ≡ true → IsRead code q (record { block = c; rest = instrs_at code c })
  pub due_there : (c : ℕ) (q : Var) → due c q ≡ true → c < length code
  pub due_among : (c : ℕ) (q : Var) → due c q ≡ true → is_among us q ≡ true
  pub justified : (b : ℕ) (q : Var) → out b q ≡ true → IsRead code q (record { block = b; rest = [] })
  -- what isn't due was passed on
  pub passed : (c p : ℕ) (q : Var) → back (instrs_at code c) (out c) q ≡ true → due c q ≡ false → leads code p c ≡ true
      → out p q ≡ true

module _ (code : List PlainBlock) (us : List Var) (out due : ℕ → Var → Bool) where
  first_passed : ((c : ℕ) (q : Var) → due c q ≡ (nat_lt c (length code) && back (instrs_at code c) nothing q))
      → ((b : ℕ) (q : Var) → out b q ≡ false) → (c : ℕ) (q : Var) → back (instrs_at code c) (out c) q ≡ true
      → due c q ≡ false → ⊥
  first_passed d none c q h n =
      go (nat_lt c (length code)) refl
    where
      read : back (instrs_at code c) nothing q ≡ true
      read = sym (back_same (instrs_at code c) (out c) nothing q (none c q)) ∙ h

      go : (b : Bool) → nat_lt c (length code) ≡ b → ⊥
      go true f =
          true≢false
          (sym (and_both (nat_lt c (length code)) (back (instrs_at code c) nothing q) f read) ∙ sym (d c q) ∙ n)
      go false f =
          true≢false (sym read ∙ ap (λ xs. back xs nothing q) (instrs_beyond code c (lt_false c (length code) f)))

  pub begun : ((c : ℕ) (q : Var) → due c q ≡ (nat_lt c (length code) && back (instrs_at code c) nothing q))
      → ((c : ℕ) (q : Var) → due c q ≡ true → is_among us q ≡ true) → ((b : ℕ) (q : Var) → out b q ≡ false)
      → Going code us out due
  begun d among none = record {
    due_read =
        λ c q e. reached code (λ b. nothing) (λ b v f. absurd (false≢true f)) q c (instrs_at code c)
        ((and_parts (nat_lt c (length code)) (back (instrs_at code c) nothing q) (sym (d c q) ∙ e)).1);
    due_there =
        λ c q e. lt_true c (length code)
        ((and_parts (nat_lt c (length code)) (back (instrs_at code c) nothing q) (sym (d c q) ∙ e)).0);
    due_among = among;
    justified = λ b q e. absurd (true≢false (sym e ∙ none b q));
    passed = λ c p q h n l. absurd (first_passed d none c q h n);
  }

  pub ended : Going code us out due → ((c : ℕ) (q : Var) → due c q ≡ false) → IsClosed code out × IsJustified code out
  ended going none = (λ v b q l h. going.passed q b v h (none q v) l, going.justified)

-- v, due at the block here, is passed on; left is what else is due, preds are the blocks before
module _ (code : List PlainBlock) (us : List Var) (out due : ℕ → Var → Bool) (going : Going code us out due) (here : ℕ)
    (v : Var) (left : ℕ → Var → Bool) (popped : (c : ℕ) (q : Var) → due c q ≡ ((here == c && var_eq v q) || left c q))
    (preds : ℕ → Bool) (are_preds : (p : ℕ) → preds p ≡ (nat_lt p (length code) && leads code p here)) where
  pub this_due : due here v ≡ true
  this_due =
      popped here v
      ∙ or_left (here == here && var_eq v v) (left here v)
      (and_both (here == here) (var_eq v v) (eq_refl here) (var_eq_refl v))

  pub preds_there : (p : ℕ) → preds p ≡ true → p < length code
  preds_there p e =
      lt_true p (length code) ((and_parts (nat_lt p (length code)) (leads code p here) (sym (are_preds p) ∙ e)).0)

  preds_lead : (p : ℕ) → preds p ≡ true → leads code p here ≡ true
  preds_lead p e = (and_parts (nat_lt p (length code)) (leads code p here) (sym (are_preds p) ∙ e)).1

  module _ (sets out' due' : ℕ → Var → Bool)
      (are_sets : (c : ℕ) (q : Var) → c < length code → sets c q ≡ sets_any (instrs_at code c) q)
      (o : (b : ℕ) (q : Var) → out' b q ≡ ((preds b && var_eq v q) || out b q))
      (d : (b : ℕ) (q : Var)
      → due' b q ≡ (((preds b && var_eq v q) && (not (out b v) && not (sets b v))) || left b q)) where
    still : (b : ℕ) (q : Var) → out b q ≡ true → out' b q ≡ true
    still b q e = o b q ∙ or_right (preds b && var_eq v q) (out b q) e

    gained : (b : ℕ) (q : Var) → preds b ≡ true → var_eq v q ≡ true → out' b q ≡ true
    gained b q e f = o b q ∙ or_left (preds b && var_eq v q) (out b q) (and_both (preds b) (var_eq v q) e f)

    new_justified : (b : ℕ) (q : Var) → out' b q ≡ true → IsRead code q (record { block = b; rest = [] })
    new_justified b q e = go (or_cases (preds b && var_eq v q) (out b q) (sym (o b q) ∙ e))
      where
        go : ((preds b && var_eq v q) ≡ true) ⊎ (out b q ≡ true) → IsRead code q (record { block = b; rest = [] })
        go (inl f) =
            let parts = and_parts (preds b) (var_eq v q) f in
            subst (λ (w : Var). IsRead code w (record { block = b; rest = [] })) (var_eq_true v q parts.1)
            (from_end code b here v (preds_lead b parts.0) (going.due_read here v this_due))
        go (inr f) = going.justified b q f

    -- what is due now was due before, or is v at a block before, which doesn't set it
    new_due : (c : ℕ) (q : Var) → due' c q ≡ true
        → (due c q ≡ true) ⊎ ((preds c ≡ true) × (v ≡ q) × (sets c v ≡ false))
    new_due c q e =
        go (or_cases ((preds c && var_eq v q) && (not (out c v) && not (sets c v))) (left c q) (sym (d c q) ∙ e))
      where
        go : (((preds c && var_eq v q) && (not (out c v) && not (sets c v))) ≡ true) ⊎ (left c q ≡ true)
            → (due c q ≡ true) ⊎ ((preds c ≡ true) × (v ≡ q) × (sets c v ≡ false))
        go (inl f) =
            let two = and_parts (preds c && var_eq v q) (not (out c v) && not (sets c v)) f in
            let parts = and_parts (preds c) (var_eq v q) two.0 in
            let unset = and_parts (not (out c v)) (not (sets c v)) two.1 in
            inr (parts.0, var_eq_true v q parts.1, not_true (sets c v) unset.1)
        go (inr f) = inl (popped c q ∙ or_right (here == c && var_eq v q) (left c q) f)

    read_at : (c : ℕ) → preds c ≡ true → sets c v ≡ false
        → IsRead code v (record { block = c; rest = instrs_at code c })
    read_at c e f =
        through code c v (instrs_at code c) (sym (are_sets c v (preds_there c e)) ∙ f)
        (new_justified c v (gained c v e (var_eq_refl v)))

    new_read : (c : ℕ) (q : Var) → due' c q ≡ true → IsRead code q (record { block = c; rest = instrs_at code c })
    new_read c q e = go (new_due c q e)
      where
        go : (due c q ≡ true) ⊎ ((preds c ≡ true) × (v ≡ q) × (sets c v ≡ false))
            → IsRead code q (record { block = c; rest = instrs_at code c })
        go (inl f) = going.due_read c q f
        go (inr f) =
            subst (λ (w : Var). IsRead code w (record { block = c; rest = instrs_at code c })) f.1 (read_at c f.0 f.2)

    new_there : (c : ℕ) (q : Var) → due' c q ≡ true → c < length code
    new_there c q e = go (new_due c q e)
      where
        go : (due c q ≡ true) ⊎ ((preds c ≡ true) × (v ≡ q) × (sets c v ≡ false)) → c < length code
        go (inl f) = going.due_there c q f
        go (inr f) = preds_there c f.0

    new_among : (c : ℕ) (q : Var) → due' c q ≡ true → is_among us q ≡ true
    new_among c q e = go (new_due c q e)
      where
        go : (due c q ≡ true) ⊎ ((preds c ≡ true) × (v ≡ q) × (sets c v ≡ false)) → is_among us q ≡ true
        go (inl f) = going.due_among c q f
        go (inr f) = subst (λ (w : Var). is_among us w ≡ true) f.1 (going.due_among here v this_due)

    -- where v came to the end of c just now, and isn't due at its start, it was there, or c sets it
    was_there : (c : ℕ) (q : Var) → due' c q ≡ false → preds c ≡ true → v ≡ q → sets_any (instrs_at code c) q ≡ false
        → out c q ≡ true
    was_there c q n e f s = go (out c q) refl
      where
        unset : sets c v ≡ false
        unset = are_sets c v (preds_there c e) ∙ ap (λ w. sets_any (instrs_at code c) w) f ∙ s

        go : (b : Bool) → out c q ≡ b → out c q ≡ true
        go true g = g
        go false g =
            let absent : out c v ≡ false = ap (λ w. out c w) f ∙ g in
            let same : var_eq v q ≡ true = ap (λ w. var_eq v w) (sym f) ∙ var_eq_refl v in
            absurd (true≢false (sym (and_both (preds c && var_eq v q) (not (out c v) && not (sets c v))
            (and_both (preds c) (var_eq v q) e same)
            (and_both (not (out c v)) (not (sets c v)) (not_false (out c v) absent) (not_false (sets c v) unset)))
            ∙ (or_none ((preds c && var_eq v q) && (not (out c v) && not (sets c v))) (left c q) (sym (d c q) ∙ n)).0))

    old_back : (c : ℕ) (q : Var) → due' c q ≡ false → back (instrs_at code c) (out' c) q ≡ true
        → back (instrs_at code c) (out c) q ≡ true
    old_back c q n h =
        back_split (instrs_at code c) (out c) q
        ∙ go (or_cases (back (instrs_at code c) nothing q) (not (sets_any (instrs_at code c) q) && out' c q)
        (sym (back_split (instrs_at code c) (out' c) q) ∙ h))
      where
        behind : not (sets_any (instrs_at code c) q) ≡ true → ((preds c && var_eq v q) ≡ true) ⊎ (out c q ≡ true)
            → out c q ≡ true
        behind s (inl f) =
            let parts = and_parts (preds c) (var_eq v q) f in
            was_there c q n parts.0 (var_eq_true v q parts.1) (not_true (sets_any (instrs_at code c) q) s)
        behind s (inr f) = f

        go : (back (instrs_at code c) nothing q ≡ true) ⊎ ((not (sets_any (instrs_at code c) q) && out' c q) ≡ true)
            → (back (instrs_at code c) nothing q || (not (sets_any (instrs_at code c) q) && out c q)) ≡ true
        go (inl f) = or_left (back (instrs_at code c) nothing q) (not (sets_any (instrs_at code c) q) && out c q) f
        go (inr f) =
            let parts = and_parts (not (sets_any (instrs_at code c) q)) (out' c q) f in
            or_right (back (instrs_at code c) nothing q) (not (sets_any (instrs_at code c) q) && out c q)
            (and_both (not (sets_any (instrs_at code c) q)) (out c q) parts.0
            (behind parts.0 (or_cases (preds c && var_eq v q) (out c q) (sym (o c q) ∙ parts.1))))

    new_passed : (c p : ℕ) (q : Var) → back (instrs_at code c) (out' c) q ≡ true → due' c q ≡ false
        → leads code p c ≡ true → out' p q ≡ true
    new_passed c p q h n l = go (here == c && var_eq v q) refl
      where
        go : (b : Bool) → (here == c && var_eq v q) ≡ b → out' p q ≡ true
        go true e =
            let parts = and_parts (here == c) (var_eq v q) e in
            let led : leads code p here ≡ true = ap (λ k. leads code p k) (eqb-true here c parts.0) ∙ l in
            gained p q
            (are_preds p
            ∙ and_both (nat_lt p (length code)) (leads code p here)
            (true_lt p (length code) (leads_there code p c l)) led) parts.1
        go false e =
            let undue : due c q ≡ false = popped c q ∙ ap (λ t. t || left c q) e
            ∙ (or_none ((preds c && var_eq v q) && (not (out c v) && not (sets c v))) (left c q)
            (sym (d c q) ∙ n)).1 in
            still p q (going.passed c p q (old_back c q n h) undue l)

    pub passed_on : Going code us out' due'
    passed_on =
        record {
          due_read = new_read;
          due_there = new_there;
          due_among = new_among;
          justified = new_justified;
          passed = new_passed;
        }

or_turned : (a b : Bool) → (a || (b || false)) ≡ (b || a)
or_turned true true = refl
or_turned true false = refl
or_turned false true = refl
or_turned false false = refl

-- what was due before the last was taken
pub due_popped : (work left : List Due) (d : Due) → work ≡ left ++ d ∷ [] → (c : ℕ) (q : Var)
    → is_due work c q ≡ ((d.block == c && var_eq d.var q) || is_due left c q)
due_popped work left d e c q =
    ap (λ (ds : List Due). is_due ds c q) e
    ∙ list_any-append (λ (x : Due). x.block == c && var_eq x.var q) left (d ∷ [])
    ∙ or_turned (is_due left c q) (d.block == c && var_eq d.var q)

pub due_here : (work left : List Due) (d : Due) → work ≡ left ++ d ∷ [] → is_due work d.block d.var ≡ true
due_here work left d e =
    due_popped work left d e d.block d.var
    ∙ or_left (d.block == d.block && var_eq d.var d.var) (is_due left d.block d.var)
    (and_both (d.block == d.block) (var_eq d.var d.var) (eq_refl d.block) (var_eq_refl d.var))

pub due_none : (work : List Due) → length work ≡ 0 → (c : ℕ) (q : Var) → is_due work c q ≡ false
due_none [] e c q = refl
due_none (d ∷ ds) e c q = absurd (omega arith)

pub pred_below : (code : List PlainBlock) (here : ℕ) (preds : ℕ → Bool)
    → ((p : ℕ) → preds p ≡ (nat_lt p (length code) && leads code p here)) → (p : ℕ) → preds p ≡ true → p < length code
pred_below code here preds are p e =
    lt_true p (length code) ((and_parts (nat_lt p (length code)) (leads code p here) (sym (are p) ∙ e)).0)

module _ (blocks : List Block) where
  long : length (map block_of blocks) ≡ length blocks
  long = length-map blocks block_of

  pub begun_blocks : (work : List Due) (out : List LiveVars)
      → ((c : ℕ) (q : Var)
      → is_due work c q ≡ (nat_lt c (length blocks) && back (instrs_at (map block_of blocks) c) nothing q))
      → ((b : ℕ) (q : Var) → holds_at out b q ≡ false)
      → Going (map block_of blocks) (vars_of work) (holds_at out) (is_due work)
  begun_blocks work out d none = begun (map block_of blocks) (vars_of work) (holds_at out) (is_due work)
      (λ c q. d c q ∙ ap (λ n. nat_lt c n && back (instrs_at (map block_of blocks) c) nothing q) (sym long))
      (among_vars work) none

  -- the blocks before a block, by its list
  pub preds_are : (preds : List (Vec ℕ)) (here : ℕ) (d : Vec ℕ) (ps : List ℕ) → here < length preds
      → ps ≡ (slice_index_or preds here d).items
      → ((q p : ℕ) → pred_at preds q p ≡ (nat_lt p (length blocks) && leads (map block_of blocks) p q)) → (p : ℕ)
      → is_in ps p ≡ (nat_lt p (length (map block_of blocks)) && leads (map block_of blocks) p here)
  preds_are preds here d ps h e are p =
      ap (λ (xs : List ℕ). is_in xs p) e
      ∙ pred_get preds here d p h
      ∙ are here p
      ∙ ap (λ n. nat_lt p n && leads (map block_of blocks) p here) (sym long)
