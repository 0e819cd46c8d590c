-- The virtual registers that instructions set and read.
use Rattle.std.proofs.Common.{◌≡◌, ℕ, Bool, true, false, List, [], ◌∷◌, ◌++◌, refl, sym, ◌∙◌, ap, arith}
use Rattle.std.specs.Prelude.{All, AllPairs, Contains, ◌||◌, ◌==◌}
use Rattle.std.specs.List.{list_any}
use Rattle.std.proofs.lemmas.Bool.{false≢true, eqb-true}
use Rattle.std.proofs.lemmas.List.{append_assoc}
use Rattle.std.proofs.lemmas.List.Elements.{All-nil, All-cons, All-head, All-tail, Contains-append_left}
use Rattle.std.proofs.lemmas.List.Elements.{Contains-append_right, Contains-append_cases}
use mathlib.Core.Logic.{◌⊎◌, inl, inr}
use Rattle.po_term.specs.declared.term.Reg.TheVariants.{Virt, Fp, Rv, Arg}
use Rattle.po_term.specs.Tree.{Tree}
use Rattle.po_term.specs.Terms.{Place}
use Rattle.po_term.specs.Moves.{GoTo, IfCc, IfTwo, CallOf, Return, SetTo, CcTo, StoreTo, Ends, PlainInstr}
use Rattle.po_term.specs.Form.{GoesBefore}
use Rattle.po_term.proofs.FormLemmas.{pairs_more}
use Rattle.po_model.specs.declared.var.Var.{Var}
use Rattle.po_model.specs.declared.var.Var.TheVariants.{Reg}
use Rattle.po_model.specs.Blocks.{PlainBlock}
use Rattle.po_model.specs.LiveAfter.{reads, sets, IsRead}
use Rattle.po_model.specs.Scanned.{is_dead}
use Rattle.po_model.specs.UnitCodes.{written, all_written, ReadsBehind}
use Rattle.po_subst.proofs.Reading.{left_true, right_true}
use Rattle.po_slow.proofs.LivenessFlow as flow
use Rattle.po_slow.proofs.Onto.{onto}
use Rattle.po_slow.proofs.Distinct.{Differ, IsDistinct, distinct_nil, distinct_cons, contains_more, contains_cases}
use Rattle.po_slow.proofs.Distinct.{nothing_in}

abbrev pub virtual : ℕ → Var
virtual v = Reg (Virt v)

-- What an instruction sets

pub written_if_set : (ms : PlainInstr) (v : ℕ) → sets ms (virtual v) ≡ true → Contains (written ms) v
written_if_set [] v e = absurd (false≢true e)
written_if_set (SetTo (Virt w) t ∷ ms) v e = go (w == v) refl e (written_if_set ms v)
  where
    go : (c : Bool) → (w == v) ≡ c → (c || sets ms (virtual v)) ≡ true
        → (sets ms (virtual v) ≡ true → Contains (written ms) v) → Contains (w ∷ written ms) v
    go true i e ih = (0, omega arith, eqb-true w v i)
    go false i e ih = contains_more w (written ms) v (ih e)
written_if_set (SetTo Fp t ∷ ms) v e = written_if_set ms v e
written_if_set (SetTo Rv t ∷ ms) v e = written_if_set ms v e
written_if_set (SetTo (Arg k) t ∷ ms) v e = written_if_set ms v e
written_if_set (CcTo t u ∷ ms) v e = written_if_set ms v e
written_if_set (StoreTo t u ∷ ms) v e = written_if_set ms v e
written_if_set (Ends (GoTo l) ∷ ms) v e = written_if_set ms v e
written_if_set (Ends (IfCc r l) ∷ ms) v e = written_if_set ms v e
written_if_set (Ends (IfTwo t u r l) ∷ ms) v e = written_if_set ms v e
written_if_set (Ends (CallOf s n) ∷ ms) v e = written_if_set ms v e
written_if_set (Ends Return ∷ ms) v e = written_if_set ms v e

virt_self : (v : ℕ) → (v == v) ≡ true
virt_self v = grind arith

pub set_if_written : (ms : PlainInstr) (v : ℕ) → Contains (written ms) v → sets ms (virtual v) ≡ true
set_if_written [] v c = absurd (nothing_in v c)
set_if_written (SetTo (Virt w) t ∷ ms) v c = go (contains_cases w (written ms) v c) (set_if_written ms v)
  where
    go : (w ≡ v) ⊎ Contains (written ms) v → (Contains (written ms) v → sets ms (virtual v) ≡ true)
        → ((w == v) || sets ms (virtual v)) ≡ true
    go (inl e) ih = left_true (w == v) (sets ms (virtual v)) (ap (λ n. n == v) e ∙ virt_self v)
    go (inr h) ih = right_true (w == v) (sets ms (virtual v)) (ih h)
set_if_written (SetTo Fp t ∷ ms) v c = set_if_written ms v c
set_if_written (SetTo Rv t ∷ ms) v c = set_if_written ms v c
set_if_written (SetTo (Arg k) t ∷ ms) v c = set_if_written ms v c
set_if_written (CcTo t u ∷ ms) v c = set_if_written ms v c
set_if_written (StoreTo t u ∷ ms) v c = set_if_written ms v c
set_if_written (Ends (GoTo l) ∷ ms) v c = set_if_written ms v c
set_if_written (Ends (IfCc r l) ∷ ms) v c = set_if_written ms v c
set_if_written (Ends (IfTwo t u r l) ∷ ms) v c = set_if_written ms v c
set_if_written (Ends (CallOf s n) ∷ ms) v c = set_if_written ms v c
set_if_written (Ends Return ∷ ms) v c = set_if_written ms v c

-- a well-formed instruction sets no register twice
written_apart : (v : ℕ) (t : Tree ℕ Place) (ms : PlainInstr) → All (GoesBefore (SetTo (Virt v) t)) ms
    → All (Differ v) (written ms)
written_apart v t [] h = All-nil (Differ v)
written_apart v t (SetTo (Virt w) u ∷ ms) h =
    All-cons (Differ v) w (written ms)
    (λ e. (All-head (GoesBefore (SetTo (Virt v) t)) (SetTo (Virt w) u) ms h).apart (Virt v) refl (ap Virt (sym e)))
    (written_apart v t ms (All-tail (GoesBefore (SetTo (Virt v) t)) (SetTo (Virt w) u) ms h))
written_apart v t (SetTo Fp u ∷ ms) h =
    written_apart v t ms (All-tail (GoesBefore (SetTo (Virt v) t)) (SetTo Fp u) ms h)
written_apart v t (SetTo Rv u ∷ ms) h =
    written_apart v t ms (All-tail (GoesBefore (SetTo (Virt v) t)) (SetTo Rv u) ms h)
written_apart v t (SetTo (Arg k) u ∷ ms) h =
    written_apart v t ms (All-tail (GoesBefore (SetTo (Virt v) t)) (SetTo (Arg k) u) ms h)
written_apart v t (CcTo x u ∷ ms) h = written_apart v t ms (All-tail (GoesBefore (SetTo (Virt v) t)) (CcTo x u) ms h)
written_apart v t (StoreTo x u ∷ ms) h =
    written_apart v t ms (All-tail (GoesBefore (SetTo (Virt v) t)) (StoreTo x u) ms h)
written_apart v t (Ends e ∷ ms) h = written_apart v t ms (All-tail (GoesBefore (SetTo (Virt v) t)) (Ends e) ms h)

pub written_once : (ms : PlainInstr) → AllPairs GoesBefore ms → IsDistinct (written ms)
written_once [] h = distinct_nil
written_once (SetTo (Virt v) t ∷ ms) h =
    let more = (pairs_more GoesBefore (SetTo (Virt v) t) ms).0 h in
    distinct_cons v (written ms) (written_apart v t ms more.0) (written_once ms more.1)
written_once (SetTo Fp t ∷ ms) h = written_once ms ((pairs_more GoesBefore (SetTo Fp t) ms).0 h).1
written_once (SetTo Rv t ∷ ms) h = written_once ms ((pairs_more GoesBefore (SetTo Rv t) ms).0 h).1
written_once (SetTo (Arg k) t ∷ ms) h = written_once ms ((pairs_more GoesBefore (SetTo (Arg k) t) ms).0 h).1
written_once (CcTo t u ∷ ms) h = written_once ms ((pairs_more GoesBefore (CcTo t u) ms).0 h).1
written_once (StoreTo t u ∷ ms) h = written_once ms ((pairs_more GoesBefore (StoreTo t u) ms).0 h).1
written_once (Ends e ∷ ms) h = written_once ms ((pairs_more GoesBefore (Ends e) ms).0 h).1

-- what a dead instruction sets isn't live
pub dead_unset : (live : Var → Bool) (ms : PlainInstr) (v : ℕ) → is_dead live ms ≡ true → Contains (written ms) v
    → live (virtual v) ≡ true → ⊥
dead_unset live ms v e c l = false≢true (sym (flow.dead_unset live ms (virtual v) e l) ∙ set_if_written ms v c)

-- What instructions read

abbrev pub read_in : List PlainInstr → ℕ → Bool
read_in xs v = list_any (λ i. reads i (virtual v)) xs

-- what is read by instructions that don't set it, is live before them
pub read_live : (code : List PlainBlock) (b : ℕ) (xs : List PlainInstr) (v : ℕ) → read_in xs v ≡ true
    → (Contains (all_written xs) v → ⊥) → IsRead code (virtual v) (record { block = b; rest = xs })
read_live code b [] v e n = absurd (false≢true e)
read_live code b (x ∷ xs) v e n =
    go (reads x (virtual v)) refl e (sets x (virtual v)) refl
    (λ i. read_live code b xs v i (λ c. n (Contains-append_right (written x) (all_written xs) v c)))
  where
    go : (r : Bool) → reads x (virtual v) ≡ r → (r || read_in xs v) ≡ true → (s : Bool) → sets x (virtual v) ≡ s
        → (read_in xs v ≡ true → IsRead code (virtual v) (record { block = b; rest = xs }))
        → IsRead code (virtual v) (record { block = b; rest = x ∷ xs })
    go true i e s k ih = ([], i)
    go false i e true k ih = absurd (n (Contains-append_left (written x) (all_written xs) v (written_if_set x v k)))
    go false i e false k ih = let path = ih e in (record { block = b; rest = xs } ∷ path.0, (k, (refl, refl), path.1))

-- what is set before: of that, only what is read matters
pub behind_by : (xs : List PlainInstr) (before other : List ℕ) → ReadsBehind before xs
    → ((v : ℕ) → Contains before v → read_in xs v ≡ true → Contains other v) → ReadsBehind other xs
behind_by [] before other h f = tt
behind_by (x ∷ xs) before other h f = (
  (λ v e. f v (h.0 v e) (left_true (reads x (virtual v)) (read_in xs v) e)),
  behind_by xs (before ++ written x) (other ++ written x) h.1
      (λ v c e. go v e (Contains-append_cases before (written x) v c)),
)
  where
    go : (v : ℕ) → read_in xs v ≡ true → Contains before v ⊎ Contains (written x) v → Contains (other ++ written x) v
    go v e (inl c) =
        Contains-append_left other (written x) v (f v c (right_true (reads x (virtual v)) (read_in xs v) e))
    go v e (inr c) = Contains-append_right other (written x) v c

-- Instructions behind a front, the last of which stands first

-- what the front sets
abbrev pub set_by : List PlainInstr → List ℕ
set_by [] = []
set_by (d ∷ ds) = set_by ds ++ written d

pub written_onto : (ds xs : List PlainInstr) → all_written (onto ds xs) ≡ set_by ds ++ all_written xs
written_onto [] xs = refl
written_onto (d ∷ ds) xs = written_onto ds (d ∷ xs) ∙ sym (append_assoc (set_by ds) (written d) (all_written xs))

pub behind_replaced : (ds xs ys : List PlainInstr) → (ReadsBehind (set_by ds) xs → ReadsBehind (set_by ds) ys)
    → ReadsBehind [] (onto ds xs) → ReadsBehind [] (onto ds ys)
behind_replaced [] xs ys f h = f h
behind_replaced (d ∷ ds) xs ys f h = behind_replaced ds (d ∷ xs) (d ∷ ys) (λ k. (k.0, f k.1)) h
