-- What holds of each piece of a unit's naive code, and of its blocks then.
use Rattle.std.proofs.Common.{◌≡◌, ℕ, zero, suc, ◌+◌, ◌<◌, ◌≤◌, Bool, true, false, List, [], ◌∷◌, ◌++◌, length, get_or}
use Rattle.std.proofs.Common.{refl, sym, ◌∙◌, ap, subst, arith, append_assoc, Option, Some, None}
use Rattle.std.specs.Prelude.{All, AllPairs, Contains, is_some, if◌then◌else◌, ⊤, ◌≢◌}
use Rattle.std.proofs.lemmas.List.Elements.{All-nil, All-cons, All-push}
use Rattle.po_term.specs.declared.term.Reg.TheVariants.{Virt, Fp, Rv, Arg}
use Rattle.po_term.specs.declared.term.Label.{Label}
use Rattle.po_term.specs.Moves.{SetTo, CcTo, StoreTo, Ends, PlainMove, PlainInstr}
use Rattle.po_term.specs.Form.{WellFormed}
use Rattle.po_model.specs.declared.var.Var.TheVariants.{Reg}
use Rattle.po_model.specs.Blocks.{PlainBlock, EndsLast}
use Rattle.po_model.specs.LiveAfter.{reads}
use Rattle.po_model.specs.Naive.{Piece, Mark, Does, cut}
use Rattle.po_model.specs.UnitCodes.{written, all_written, ReadsBehind, NamedMove, NamedLabel, IsNamedBlock}
use Rattle.po_expand.proofs.Cutting.{instrs_in, ends_block, cut_all}
use Rattle.po_model.specs.Parts.{ending_of}

-- a move that sets a virtual register sets the register v with this number
abbrev pub SetsNext : ℕ → PlainMove → Type 0
SetsNext k (SetTo (Virt v) t) = v ≡ k
SetsNext k m = ⊤

abbrev pub next_after : ℕ → PlainMove → ℕ
next_after k (SetTo (Virt v) t) = k + 1
next_after k m = k

abbrev pub ReadsOf : List ℕ → PlainMove → Type 0
ReadsOf set m = (v : ℕ) → reads (m ∷ []) (Reg (Virt v)) ≡ true → Contains set v

-- where vk is the next register, and the block that has begun has set these
abbrev pub Sound : ℕ → ℕ → ℕ → List ℕ → List Piece → Type 0
Sound labels syms k set [] = ⊤
Sound labels syms k set (Mark l ∷ ps) = (l.0 < labels) × Sound labels syms k [] ps
Sound labels syms k set (Does m ∷ ps) = WellFormed (m ∷ []) × NamedMove labels syms m × ReadsOf set m × SetsNext k m
    × Sound labels syms (next_after k m) (if ends_block m then [] else set ++ written (m ∷ [])) ps

written_push : (is : List PlainInstr) (m : PlainMove)
    → all_written (is ++ (m ∷ []) ∷ []) ≡ all_written is ++ written (m ∷ [])
written_push [] m = append_none (written (m ∷ []))
  where
    append_none : (xs : List ℕ) → xs ++ [] ≡ xs
    append_none [] = refl
    append_none (x ∷ xs) = ap (λ (r : List ℕ). x ∷ r) (append_none xs)
written_push (i ∷ is) m =
    ap (λ (r : List ℕ). written i ++ r) (written_push is m)
    ∙ sym (append_assoc (written i) (all_written is) (written (m ∷ [])))

behind_push : (set : List ℕ) (is : List PlainInstr) (m : PlainMove) → ReadsBehind set is
    → ReadsOf (set ++ all_written is) m → ReadsBehind set (is ++ (m ∷ []) ∷ [])
behind_push set [] m h r = (λ v e. subst (λ (s : List ℕ). Contains s v) (append_none set) (r v e), tt)
  where
    append_none : (xs : List ℕ) → xs ++ [] ≡ xs
    append_none [] = refl
    append_none (x ∷ xs) = ap (λ (s : List ℕ). x ∷ s) (append_none xs)
behind_push set (i ∷ is) m h r = (
  h.0,
  behind_push (set ++ written i) is m h.1
      (λ v e. subst (λ (s : List ℕ). Contains s v) (sym (append_assoc set (written i) (all_written is))) (r v e)),
)

-- no control transfer among these instructions
abbrev pub NoEnds : List PlainInstr → Type 0
NoEnds [] = ⊤
NoEnds (i ∷ is) = (ending_of i ≡ None) × NoEnds is

ends_none : (is : List PlainInstr) → NoEnds is → EndsLast is
ends_none [] h = tt
ends_none (i ∷ []) h = tt
ends_none (i ∷ j ∷ is) h = (h.0, ends_none (j ∷ is) h.1)

ends_push : (is : List PlainInstr) (i : PlainInstr) → NoEnds is → EndsLast (is ++ i ∷ [])
ends_push [] i h = tt
ends_push (j ∷ []) i h = (h.0, tt)
ends_push (j ∷ k ∷ is) i h = (h.0, ends_push (k ∷ is) i h.1)

no_ends_push : (is : List PlainInstr) (i : PlainInstr) → NoEnds is → ending_of i ≡ None → NoEnds (is ++ i ∷ [])
no_ends_push [] i h e = (e, tt)
no_ends_push (j ∷ is) i h e = (h.0, no_ends_push is i h.1 e)

none_is : {A : Type 0} (o : Option A) → is_some o ≡ false → o ≡ None
none_is None e = refl
none_is (Some x) e = absurd (grind arith)

pub cut_ends : (ps : List Piece) → All (λ b. EndsLast b.instrs) (cut None [] ps)
cut_ends ps = cut_all (λ b. EndsLast b.instrs) (λ named is qs. NoEnds is)
    (λ named is qs h. ends_none is h) (λ named is l qs h. tt) (λ named is m qs h e. (ends_push is (m ∷ []) h, tt))
    (λ named is m qs h e. no_ends_push is (m ∷ []) h (none_is (ending_of (m ∷ [])) e)) None [] ps tt

module _ (labels syms : ℕ) where
  -- the block that has begun, and the pieces to come
  record Begun (named : Option Label) (is : List PlainInstr) (ps : List Piece) : Type 0 where
    k : ℕ
    label : NamedLabel labels named
    formed : All WellFormed is
    names : All (λ i. All (NamedMove labels syms) i) is
    behind : ReadsBehind [] is
    sound : Sound labels syms k (all_written is) ps

  pub record GoodBlock (b : PlainBlock) : Type 0 where
    pub formed : All WellFormed b.instrs
    pub named : IsNamedBlock labels syms b
    pub behind : ReadsBehind [] b.instrs

  good_now : (named : Option Label) (is : List PlainInstr) (ps : List Piece) → Begun named is ps
      → GoodBlock (record { label = named; instrs = is })
  good_now named is ps g =
      record { formed = g.formed; named = record { label = g.label; instrs = g.names }; behind = g.behind }

  fresh : (named : Option Label) (k : ℕ) (ps : List Piece) → NamedLabel labels named → Sound labels syms k [] ps
      → Begun named [] ps
  fresh named k ps l s =
      record {
        k = k;
        label = l;
        formed = All-nil WellFormed;
        names = All-nil (λ i. All (NamedMove labels syms) i);
        behind = tt;
        sound = s;
      }

  -- the block with one instruction more
  more_instrs : (named : Option Label) (is : List PlainInstr) (m : PlainMove) (ps : List Piece)
      → Begun named is (Does m ∷ ps) → GoodBlock (record { label = named; instrs = is ++ (m ∷ []) ∷ [] })
  more_instrs named is m ps g = record {
    formed = All-push WellFormed is (m ∷ []) g.formed g.sound.0;
    named = record {
      label = g.label;
      instrs =
          All-push (λ i. All (NamedMove labels syms) i) is (m ∷ []) g.names
          (All-cons (NamedMove labels syms) m [] g.sound.1 (All-nil (NamedMove labels syms)));
    };
    behind = behind_push [] is m g.behind g.sound.2;
  }

  ended : (named : Option Label) (is : List PlainInstr) (m : PlainMove) (ps : List Piece)
      → Begun named is (Does m ∷ ps) → ends_block m ≡ true
      → GoodBlock (record { label = named; instrs = is ++ (m ∷ []) ∷ [] }) × Begun None [] ps
  ended named is m ps g e = (
    more_instrs named is m ps g,
    fresh None (next_after g.k m) ps tt
        (subst
        (λ (b : Bool). Sound labels syms (next_after g.k m) (if b then [] else all_written is ++ written (m ∷ [])) ps)
        e g.sound.4),
  )

  goes_on : (named : Option Label) (is : List PlainInstr) (m : PlainMove) (ps : List Piece)
      → Begun named is (Does m ∷ ps) → ends_block m ≡ false → Begun named (is ++ (m ∷ []) ∷ []) ps
  goes_on named is m ps g e =
      let good = more_instrs named is m ps g in
      record {
        k = next_after g.k m;
        label = g.label;
        formed = good.formed;
        names = good.named.instrs;
        behind = good.behind;
        sound = subst (λ (s : List ℕ). Sound labels syms (next_after g.k m) s ps) (sym (written_push is m))
            (subst (λ (b : Bool).
            Sound labels syms (next_after g.k m) (if b then [] else all_written is ++ written (m ∷ [])) ps) e
            g.sound.4);
      }

  pub cut_good : (k : ℕ) (ps : List Piece) → Sound labels syms k [] ps → All GoodBlock (cut None [] ps)
  cut_good k ps s =
      cut_all GoodBlock Begun good_now (λ named is l qs g. fresh (Some l) g.k qs g.sound.0 g.sound.1) ended goes_on
      None [] ps (fresh None k ps tt s)

  -- registers are set in the order of their numbers
  abbrev Rising : ℕ → List ℕ → Type 0
  Rising k [] = ⊤
  Rising k (v ∷ vs) = (k ≤ v) × Rising (v + 1) vs

  sets_rise : (k : ℕ) (m : PlainMove) (vs : List ℕ) → SetsNext k m → Rising (next_after k m) vs
      → Rising k (written (m ∷ []) ++ vs)
  sets_rise k (SetTo (Virt v) t) vs e r = (omega (arith, e), subst (λ (n : ℕ). Rising (n + 1) vs) (sym e) r)
  sets_rise k (SetTo Fp t) vs e r = r
  sets_rise k (SetTo Rv t) vs e r = r
  sets_rise k (SetTo (Arg i) t) vs e r = r
  sets_rise k (CcTo t u) vs e r = r
  sets_rise k (StoreTo t u) vs e r = r
  sets_rise k (Ends c) vs e r = r

  sound_rises : (k : ℕ) (set : List ℕ) (ps : List Piece) → Sound labels syms k set ps
      → Rising k (all_written (instrs_in ps))
  sound_rises k set [] s = tt
  sound_rises k set (Mark l ∷ ps) s = sound_rises k [] ps s.1
  sound_rises k set (Does m ∷ ps) s =
      sets_rise k m (all_written (instrs_in ps)) s.3 (sound_rises (next_after k m) _ ps s.4)

  above : (k : ℕ) (vs : List ℕ) → Rising k vs → (j d : ℕ) → j < length vs → k ≤ get_or vs j d
  above k [] r j d h = absurd (omega arith)
  above k (v ∷ vs) r zero d h = r.0
  above k (v ∷ vs) r (suc j) d h =
      let a : v + 1 ≤ get_or vs j d = above (v + 1) vs r.1 j d (omega arith) in omega (arith, a, r.0)

  rising_apart : (k : ℕ) (vs : List ℕ) → Rising k vs → AllPairs (λ v w. v ≢ w) vs
  rising_apart k [] r i j d h g e = absurd (omega (arith, g))
  rising_apart k (v ∷ vs) r i zero d h g e = absurd (omega (arith, h))
  rising_apart k (v ∷ vs) r zero (suc j) d h g e =
      let a : v + 1 ≤ get_or vs j d = above (v + 1) vs r.1 j d (omega (arith, g)) in absurd (omega (arith, a, e))
  rising_apart k (v ∷ vs) r (suc i) (suc j) d h g e =
      rising_apart (v + 1) vs r.1 i j d (omega (arith, h)) (omega (arith, g)) e

  pub sets_apart : (k : ℕ) (set : List ℕ) (ps : List Piece) → Sound labels syms k set ps
      → AllPairs (λ v w. v ≢ w) (all_written (instrs_in ps))
  sets_apart k set ps s = rising_apart k (all_written (instrs_in ps)) (sound_rises k set ps s)
