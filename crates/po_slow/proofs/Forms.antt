-- Passes keep the form of a code: its instructions stay well formed, transfers of control last in their blocks, labels
-- and symbols named; the blocks keep their labels, and are as they were or have fewer instructions.
use Rattle.std.proofs.Common.{◌≡◌, ℕ, zero, suc, ◌<◌, ◌≤◌, false, List, [], ◌∷◌, length, map, reverse, Option, Some}
use Rattle.std.proofs.Common.{None, refl, sym, ◌∙◌, ap, subst, arith}
use Rattle.std.specs.Prelude.{All, is_some}
use Rattle.std.proofs.lemmas.Bool.{true≢false}
use Rattle.std.proofs.lemmas.List.Elements.{All-nil, All-cons, All-head, All-tail}
use mathlib.Core.Logic.{◌⊎◌, inl, inr}
use Rattle.po_term.specs.declared.term.Sym.{Sym}
use Rattle.po_term.specs.Terms.{Place}
use Rattle.po_term.specs.Moves.{Ending, PlainInstr}
use Rattle.po_term.specs.Form.{WellFormed}
use Rattle.po_model.specs.declared.machine.Machine.{Machine}
use Rattle.po_model.specs.Blocks.{PlainBlock, EndsLast, instrs_at}
use Rattle.po_model.specs.Machines.{IsMachine}
use Rattle.po_model.specs.Pairs.{PlainPair, WellFormedPair}
use Rattle.po_model.specs.Combined.{AsOne}
use Rattle.po_model.specs.Scanned.{Ahead, pair_with, instrs_ahead, Answers, IsScanned, AreSafe}
use Rattle.po_model.specs.UnitCodes.{NamedMove, NamedLabel, IsNamedBlock, flat, IsFormedCode}
use Rattle.po_slow.specs.KeepsEffect.{KeepsEffect}
use Rattle.po_slow.proofs.Sound.{answer_keeps}
use Rattle.po_slow.proofs.Passes.{Told, Laws, by_passes, label_of}
use Rattle.po_slow.proofs.Onto.{onto, onto_reverse, length_onto, all_onto, all_replaced}
use Rattle.po_slow.proofs.Named.{named_of_two}
use Rattle.po_slow.proofs.PairWith.{pair_formed}
use Rattle.po_slow.proofs.Blockwise.{instrs_in, whole, ahead_instrs, block_at, all_blocks, same_length, same_blocks}
use Rattle.po_model.specs.Parts.{ending_of}

-- Where transfers of control stand

abbrev IsQuiet : PlainInstr → Type 0
IsQuiet x = ending_of x ≡ None

quiet_by : (a b : PlainInstr) → (is_some (ending_of a) ≡ false → is_some (ending_of b) ≡ false) → IsQuiet a → IsQuiet b
quiet_by a b f h = none_there (ending_of b) (f (ap is_some h))
  where
    none_there : (o : Option (Ending ℕ Place Sym)) → is_some o ≡ false → o ≡ None
    none_there None e = refl
    none_there (Some x) e = absurd (true≢false e)

ends_tail : (x : PlainInstr) (xs : List PlainInstr) → EndsLast (x ∷ xs) → EndsLast xs
ends_tail x [] h = tt
ends_tail x (y ∷ ys) h = h.1

ends_cons : (x : PlainInstr) (xs : List PlainInstr) → IsQuiet x → EndsLast xs → EndsLast (x ∷ xs)
ends_cons x [] q h = tt
ends_cons x (y ∷ ys) q h = (q, h)

-- one instruction in the place of two
ends_one : (a b y : PlainInstr) (xs : List PlainInstr) → (IsQuiet b → IsQuiet y) → EndsLast (a ∷ b ∷ xs)
    → EndsLast (y ∷ xs)
ends_one a b y [] f h = tt
ends_one a b y (x ∷ xs) f h = (f h.1.0, h.1.1)

ends_done : (ds : List PlainInstr) (x : PlainInstr) (xs : List PlainInstr) → EndsLast (onto ds (x ∷ xs))
    → All IsQuiet ds × EndsLast (x ∷ xs)
ends_done [] x xs h = (All-nil IsQuiet, h)
ends_done (d ∷ ds) x xs h = let ih = ends_done ds d (x ∷ xs) h in (All-cons IsQuiet d ds ih.1.0 ih.0, ih.1.1)

ends_onto : (ds xs : List PlainInstr) → All IsQuiet ds → EndsLast xs → EndsLast (onto ds xs)
ends_onto [] xs q h = h
ends_onto (d ∷ ds) xs q h =
    ends_onto ds (d ∷ xs) (All-tail IsQuiet d ds q) (ends_cons d xs (All-head IsQuiet d ds q) h)

ends_replaced : (ds : List PlainInstr) (x : PlainInstr) (xs ys : List PlainInstr) → (EndsLast (x ∷ xs) → EndsLast ys)
    → EndsLast (onto ds (x ∷ xs)) → EndsLast (onto ds ys)
ends_replaced ds x xs ys f h = let two = ends_done ds x xs h in ends_onto ds ys two.0 (f two.1)

-- A block while it is scanned

abbrev pub IsNamedInstr : ℕ → ℕ → PlainInstr → Type 0
IsNamedInstr labels syms i = All (NamedMove labels syms) i

-- what holds of these instructions, which are made of the block b
pub record Stays (code : List PlainBlock) (b : ℕ) (xs : List PlainInstr) : Type 0 where
  pub ends : EndsLast xs
  pub formed : All WellFormed xs
  pub same_or_fewer : (xs ≡ instrs_at code b) ⊎ (length xs < length (instrs_at code b))
  pub named : (labels syms : ℕ) → All (IsNamedInstr labels syms) (instrs_at code b) → All (IsNamedInstr labels syms) xs

at_most : (xs ys : List PlainInstr) → (xs ≡ ys) ⊎ (length xs < length ys) → length xs ≤ length ys
at_most xs ys (inl e) = let l = ap length e in omega (arith, l)
at_most xs ys (inr h) = omega (arith, h)

module _ (code : List PlainBlock) (b : ℕ) where
  -- other instructions behind those that are done
  replaced : (ds : List PlainInstr) (x : PlainInstr) (xs ys : List PlainInstr) → (EndsLast (x ∷ xs) → EndsLast ys)
      → (All WellFormed (x ∷ xs) → All WellFormed ys) → length ys ≤ length xs
      → ((labels syms : ℕ) → All (IsNamedInstr labels syms) (x ∷ xs) → All (IsNamedInstr labels syms) ys)
      → Stays code b (onto ds (x ∷ xs)) → Stays code b (onto ds ys)
  replaced ds x xs ys ends formed less named h = record {
    ends = ends_replaced ds x xs ys ends h.ends;
    formed = all_replaced WellFormed ds (x ∷ xs) ys formed h.formed;
    same_or_fewer = inr (
        let before = at_most (onto ds (x ∷ xs)) (instrs_at code b) h.same_or_fewer in
        let long = length_onto ds (x ∷ xs) in
        let short = length_onto ds ys in
        omega (arith, before, long, short, less)
        );
    named =
        λ labels syms n.
        all_replaced (IsNamedInstr labels syms) ds (x ∷ xs) ys (named labels syms) (h.named labels syms n);
  }

  left_out : (ds : List PlainInstr) (x : PlainInstr) (xs : List PlainInstr) → Stays code b (onto ds (x ∷ xs))
      → Stays code b (onto ds xs)
  left_out ds x xs h =
      replaced ds x xs xs (ends_tail x xs) (All-tail WellFormed x xs) (omega arith)
      (λ labels syms. All-tail (IsNamedInstr labels syms) x xs) h

  pub stays_pair : (ds : List PlainInstr) (d : PlainInstr) (x : Ahead) (xs : List PlainInstr)
      → Stays code b (onto ds (d ∷ x.instr ∷ xs)) → WellFormedPair (pair_with d x)
  stays_pair ds d x xs h =
      let two = (all_onto WellFormed ds (d ∷ x.instr ∷ xs) h.formed).1 in
      pair_formed d x (All-head WellFormed d (x.instr ∷ xs) two)
      (All-head WellFormed x.instr xs (All-tail WellFormed d (x.instr ∷ xs) two))

  made_one : (m : Machine) → IsMachine m
      → (ds : List PlainInstr) (d : PlainInstr) (x : Ahead) (xs : List PlainInstr) (y : PlainInstr)
      → KeepsEffect m (pair_with d x) (AsOne y) → Stays code b (onto ds (d ∷ x.instr ∷ xs))
      → Stays code b (onto ds (y ∷ xs))
  made_one m allowed ds d x xs y k h =
      replaced ds d (x.instr ∷ xs) (y ∷ xs)
      (ends_one d x.instr y xs (quiet_by x.instr y k.control))
      (λ f. All-cons WellFormed y xs (k.formed allowed)
      (All-tail WellFormed x.instr xs (All-tail WellFormed d (x.instr ∷ xs) f)))
      (omega arith)
      (λ labels syms n.
      let rest = All-tail (IsNamedInstr labels syms) d (x.instr ∷ xs) n in
      All-cons (IsNamedInstr labels syms) y xs
      (named_of_two labels syms d x.instr y (All-head (IsNamedInstr labels syms) d (x.instr ∷ xs) n)
      (All-head (IsNamedInstr labels syms) x.instr xs rest) k.labels k.symbols)
      (All-tail (IsNamedInstr labels syms) x.instr xs rest))
      h

-- A whole code

-- what is kept of a code
pub record Formed (code scanned : List PlainBlock) : Type 0 where
  pub labels : map label_of scanned ≡ map label_of code
  pub same_or_fewer : (scanned ≡ code) ⊎ (length (flat scanned) < length (flat code))
  pub named : (labels syms : ℕ) → All (IsNamedBlock labels syms) code → All (IsNamedBlock labels syms) scanned

fewer_on : (a b c : List PlainBlock) → (b ≡ a) ⊎ (length (flat b) < length (flat a))
    → (c ≡ b) ⊎ (length (flat c) < length (flat b)) → (c ≡ a) ⊎ (length (flat c) < length (flat a))
fewer_on a b c (inl e) (inl f) = inl (f ∙ e)
fewer_on a b c (inl e) (inr g) = inr (let l = ap (λ (c : List PlainBlock). length (flat c)) e in omega (arith, l, g))
fewer_on a b c (inr h) (inl f) = inr (let l = ap (λ (c : List PlainBlock). length (flat c)) f in omega (arith, l, h))
fewer_on a b c (inr h) (inr g) = inr (omega (arith, h, g))

named_blocks : (labels syms : ℕ) (next code : List PlainBlock) → map label_of next ≡ map label_of code
    → ((b : ℕ) → b < length code → All (IsNamedInstr labels syms) (instrs_at code b)
    → All (IsNamedInstr labels syms) (instrs_at next b))
    → All (IsNamedBlock labels syms) code → All (IsNamedBlock labels syms) next
named_blocks labels syms [] code e f h = All-nil (IsNamedBlock labels syms)
named_blocks labels syms (x ∷ xs) [] e f h = absurd (cc)
named_blocks labels syms (x ∷ xs) (y ∷ ys) e f h =
    let first : x.label ≡ y.label = (cc) in
    let rest : map label_of xs ≡ map label_of ys = (cc) in
    let here = All-head (IsNamedBlock labels syms) y ys h in
    All-cons (IsNamedBlock labels syms) x xs
    (record {
      label = subst (λ (l : _). NamedLabel labels l) (sym first) here.label;
      instrs = f zero (omega arith) here.instrs;
    })
    (named_blocks labels syms xs ys rest (λ b lt. f (suc b) (omega arith))
    (All-tail (IsNamedBlock labels syms) y ys h))

abbrev pub StaysAt : List PlainBlock → Told → ℕ → List PlainInstr → List Ahead → Type 0
StaysAt code live b done rest = Stays code b (whole done rest)

pub stays_at_start : (code : List PlainBlock) (live : Told) → IsFormedCode code → (b : ℕ) → b < length code
    → StaysAt code live b [] (instrs_ahead (live b) 0 (instrs_at code b))
stays_at_start code live before b lt =
    subst (λ (xs : List PlainInstr). Stays code b xs) (sym (ahead_instrs (live b) 0 (instrs_at code b))) (record {
      ends = block_at EndsLast code b lt before.ends_last;
      formed = block_at (λ xs. All WellFormed xs) code b lt before.formed;
      same_or_fewer = inl refl;
      named = λ labels syms n. n;
    })

pub kept_form : (code next : List PlainBlock) → map label_of next ≡ map label_of code
    → ((b : ℕ) → b < length code → Stays code b (onto (reverse (instrs_at next b)) []))
    → Formed code next × IsFormedCode next
kept_form code next e h =
    let long = same_length next code e in (
      record {
        labels = e;
        same_or_fewer = same_blocks next code e (λ b lt. (at b lt).same_or_fewer);
        named = λ labels syms n. named_blocks labels syms next code e (λ b lt. (at b lt).named labels syms) n;
      },
      record {
        ends_last = all_blocks EndsLast next (λ b lt. (at b (omega (arith, lt, long))).ends);
        formed = all_blocks (λ xs. All WellFormed xs) next (λ b lt. (at b (omega (arith, lt, long))).formed);
      },
    )
  where
    at : (b : ℕ) → b < length code → Stays code b (instrs_at next b)
    at b lt = subst (λ (xs : List PlainInstr). Stays code b xs) (onto_reverse (instrs_at next b)) (h b lt)

module _ (m : Machine) (allowed : IsMachine m) where
  pub form_laws : Laws m IsFormedCode Formed StaysAt
  form_laws = record {
    joins = λ a b c f g. record {
      labels = g.labels ∙ f.labels;
      same_or_fewer = fewer_on a b c f.same_or_fewer g.same_or_fewer;
      named = λ labels syms n. g.named labels syms (f.named labels syms n);
    };
    start = λ code live before tells b lt. stays_at_start code live before b lt;
    formed = λ code live before tells b d done x xs h. stays_pair code b done d x (instrs_in xs) h;
    dropped = λ code live before tells b done x xs h dead. left_out code b done x.instr (instrs_in xs) h;
    taken = λ code live before tells b done x xs h. h;
    gone =
        λ code live before tells b d done x xs h e.
        left_out code b done x.instr (instrs_in xs) (left_out code b done d (x.instr ∷ instrs_in xs) h);
    one = λ code live before tells b d done x xs y h e.
        made_one code b m allowed done d x (instrs_in xs) y
        (answer_keeps m (pair_with d x) (AsOne y) (sym e) (stays_pair code b done d x (instrs_in xs) h)) h;
    over = λ code live before tells next e h. kept_form code next e h;
  }

  pub keeps_formed : (answer : Answers) → AreSafe m answer → (code scanned : List PlainBlock) (pairs : List PlainPair)
      → IsFormedCode code → IsScanned answer code pairs scanned → Formed code scanned × IsFormedCode scanned
  keeps_formed answer safe = by_passes form_laws answer safe
