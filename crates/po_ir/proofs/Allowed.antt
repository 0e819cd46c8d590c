-- What is read is allowed.
use Rattle.std.proofs.Common.{◌≡◌, ◌≢◌, ℕ, suc, ◌≤◌, ◌<◌, List, [], ◌∷◌, ◌++◌, Bool, true, false, Result, Ok, Err}
use Rattle.std.proofs.Common.{Option, Some, None, refl, ap, sym, ◌∙◌, subst, map, length, arith, inl, inr}
use Rattle.std.proofs.Common.{append_assoc, append-nil, length-append, All}
use Rattle.std.specs.Prelude.{AllPairs, cond, ◌==◌, ◌||◌, not, find, IfOk, IsTrue, ⊤}
use Rattle.std.specs.List.{flat_map}
use Rattle.std.proofs.lemmas.Bool.Decides.{nat_tests}
use Rattle.std.proofs.lemmas.Cmp.{nat_list_eq_equiv}
use Rattle.std.proofs.lemmas.List.Elements.{All-nil, All-cons, All-head, All-tail, All-push, All-same}
use Rattle.std.proofs.lemmas.List.Kept.{AllPairs-cons}
use Rattle.po_name.specs.Names.{is_name}
use Rattle.po_lines.specs.Lines.{Numbered}
use Rattle.po_text.specs.declared.fault.TextRefusal.{TextRefusal}
use Rattle.po_lines.specs.Faults.{Gets}
use Rattle.po_lines.specs.NameList.{has}
use Rattle.po_lines.specs.Leaves.{same}
use Rattle.po_lines.specs.Reading.{read_each}
use Rattle.po_lines.proofs.Results.{chosen, bind_ok, ok_is, not_ok}
use Rattle.po_ir.specs.declared.unit.Op.{Op}
use Rattle.po_ir.specs.declared.unit.Jump.{Jump}
use Rattle.po_ir.specs.declared.unit.Unit.{Unit as StackUnit}
use Rattle.po_ir.specs.Ops.{labels_of, target_in, ends_well}
use Rattle.po_ir.specs.Faults.{decided, misses, repeats}
use Rattle.po_ir.specs.Units.{IsOp, Follow, IsUnit, NamesDiffer}
use Rattle.po_ir.specs.Reading.{Open, Sofar, jumps_in, unit_name, step, nothing_yet, finish, units_in}
use Rattle.po_ir.proofs.OpLaws.{op_allowed}
use Rattle.po_ir.proofs.StepLaws.{not_none, Turn, quiet, begins, continues, ends, turn_of}

abbrev pub label_of : Jump → List ℕ
label_of j = j.label

-- a unit that has begun behind these units
pub record IsOpen (us : List StackUnit) (u : Open) : Type 0 where
  pub name : is_name u.name ≡ true
  pub new : has u.name (map unit_name us) ≡ false
  pub room : length us < 65536
  pub each : All IsOp u.ops
  pub follow : Follow [] u.ops
  pub few : length u.ops ≤ 65536
  pub jumps : map label_of u.jumps ≡ flat_map target_in u.ops

abbrev pub IfOpen : List StackUnit → Option Open → Type 0
IfOpen us None = ⊤
IfOpen us (Some u) = IsOpen us u

-- what was read so far is allowed
pub record IsSofar (s : Sofar) : Type 0 where
  pub each : All IsUnit s.units
  pub differ : NamesDiffer s.units
  pub few : length s.units ≤ 65536
  pub inside : IfOpen s.units s.inside

-- a fault does not depend on the column
pub any_column : (os : List Op) (o : Op) (c d : ℕ) → decided os o c ≡ None → decided os o d ≡ None
any_column os o c d h = elim (chosen (repeats (labels_of os) o) _ _ None h) [
  | inl p ↦ absurd (not_none p.1)
  | inr p ↦ rw p.0 p.1
]

follow_more : (before os : List Op) (o : Op) → Follow before os → decided (before ++ os) o 1 ≡ None
    → Follow before (os ++ o ∷ [])
follow_more before [] o f h = (subst (λ (b : List Op). decided b o 1 ≡ None) (append-nil before) h, tt)
follow_more before (p ∷ os) o f h = (
  f.0,
  follow_more (before ++ p ∷ []) os o f.1
      (subst (λ (b : List Op). decided b o 1 ≡ None) (sym (append_assoc before (p ∷ []) os)) h),
)

pub targets_next : (os : List Op) (o : Op) → flat_map target_in (os ++ o ∷ []) ≡ flat_map target_in os ++ target_in o
targets_next [] o = append-nil (target_in o)
targets_next (p ∷ os) o =
    ap (λ (r : List (List ℕ)). target_in p ++ r) (targets_next os o)
    ∙ sym (append_assoc (target_in p) (flat_map target_in os) (target_in o))

pub labels_append : (xs ys : List Jump) → map label_of (xs ++ ys) ≡ map label_of xs ++ map label_of ys
labels_append [] ys = refl
labels_append (x ∷ xs) ys = ap (λ (r : List (List ℕ)). x.label ∷ r) (labels_append xs ys)

placed_labels : (line column : ℕ) (ls : List (List ℕ))
    → map label_of (map (λ l. record { line = line; column = column; label = l }) ls) ≡ ls
placed_labels line column [] = refl
placed_labels line column (l ∷ ls) = ap (λ (r : List (List ℕ)). l ∷ r) (placed_labels line column ls)

pub jump_labels : (line column : ℕ) (o : Op) → map label_of (jumps_in line column o) ≡ target_in o
jump_labels line column o = placed_labels line column (target_in o)

found_none : (labels : List (List ℕ)) (b : Bool) (j : Jump) (js : List Jump) → has j.label labels ≡ b
    → cond (not b) (Some j) (find (misses labels) js) ≡ None
    → (has j.label labels ≡ true) × (find (misses labels) js ≡ None)
found_none labels true j js e h = (e, h)
found_none labels false j js e h = absurd (not_none h)

none_misses : (labels : List (List ℕ)) (js : List Jump) → find (misses labels) js ≡ None
    → All (λ l. IsTrue (has l labels)) (map label_of js)
none_misses labels [] h = All-nil _
none_misses labels (j ∷ js) h =
    let p = found_none labels (has j.label labels) j js refl h in
    All-cons (λ l. IsTrue (has l labels)) j.label (map label_of js) p.0 (none_misses labels js p.1)

same_self : (x : List ℕ) → same x x ≡ true
same_self x = nat_list_eq_equiv.refl x

other_name : (name : List ℕ) (b : Bool) (x : List ℕ) (xs : List (List ℕ)) → same name x ≡ b
    → (b || has name xs) ≡ false → (x ≢ name) × (has name xs ≡ false)
other_name name true x xs e h = cc
other_name name false x xs e h =
    (λ q. let s : same name x ≡ true = subst (λ (y : List ℕ). same name y ≡ true) (sym q) (same_self name) in cc, h)

others : (name : List ℕ) (us : List StackUnit) → has name (map unit_name us) ≡ false → All (λ u. u.name ≢ name) us
others name [] h = All-nil _
others name (u ∷ us) h =
    let p = other_name name (same name u.name) u.name (map unit_name us) refl h in
    All-cons (λ u. u.name ≢ name) u us p.0 (others name us p.1)

pairs_push : {X : Type 0} (R : X → X → Type 0) (xs : List X) (y : X) → AllPairs R xs → All (λ x. R x y) xs
    → AllPairs R (xs ++ y ∷ [])
pairs_push R [] y p a = AllPairs-cons R y [] (All-nil (R y)) (λ i j d h g. absurd (omega (arith, g)))
pairs_push R (x ∷ xs) y p a =
    AllPairs-cons R x (xs ++ y ∷ [])
    (All-push (R x) xs y (λ k d h. p 0 (suc k) d (omega arith) (omega arith)) (All-head (λ z. R z y) x xs a))
    (pairs_push R xs y (λ i j d h g. p (suc i) (suc j) d (omega arith) (omega arith)) (All-tail (λ z. R z y) x xs a))

room_is : (n : ℕ) → n ≤ 65536 → (n == 65536) ≡ false → n < 65536
room_is n h e = grind (arith, nat_tests)

-- the unit that ends is allowed
closed_unit : (us : List StackUnit) (u : Open) → IsOpen us u → find (misses (labels_of u.ops)) u.jumps ≡ None
    → ends_well u.ops ≡ true → IsUnit (record { name = u.name; ops = u.ops })
closed_unit us u h miss end = record {
  name = h.name;
  few = h.few;
  each = h.each;
  follow = h.follow;
  targets =
      All-same (λ l. IsTrue (has l (labels_of u.ops))) (flat_map target_in u.ops) (map label_of u.jumps) (sym h.jumps)
      (none_misses (labels_of u.ops) u.jumps miss);
  ends = end;
}

more_op : (us : List StackUnit) (u : Open) (line column : ℕ) (o : Op) → IsOpen us u → IsOp o
    → (length u.ops == 65536) ≡ false → decided u.ops o column ≡ None
    → IsOpen us (record { name = u.name; ops = u.ops ++ o ∷ []; jumps = u.jumps ++ jumps_in line column o })
more_op us u line column o h good few free =
    let room = room_is (length u.ops) h.few few in
    record {
      name = h.name;
      new = h.new;
      room = h.room;
      each = All-push IsOp u.ops o h.each good;
      follow = follow_more [] u.ops o h.follow (any_column u.ops o column 1 free);
      few = omega (arith, room, length-append u.ops (o ∷ []));
      jumps =
          labels_append u.jumps (jumps_in line column o)
          ∙ ap (λ (r : List (List ℕ)). map label_of u.jumps ++ r) (jump_labels line column o)
          ∙ ap (λ (r : List (List ℕ)). r ++ target_in o) h.jumps ∙ sym (targets_next u.ops o);
    }

inside_is : (s : Sofar) (u : Open) → IsSofar s → s.inside ≡ Some u → IsOpen s.units u
inside_is s u h e = subst (IfOpen s.units) e h.inside

-- a line keeps it
keeps : (line : ℕ) (ws : List (List ℕ)) (s t : Sofar) → IsSofar s → Turn line ws s t → IsSofar t
keeps line ws s t h (quiet _ e) = subst IsSofar (sym e) h
keeps line ws s t h (begins name out text good room new e) =
    subst IsSofar (sym e) (record {
      each = h.each;
      differ = h.differ;
      few = h.few;
      inside =
          record {
            name = good;
            new = new;
            room = room_is (length s.units) h.few room;
            each = All-nil _;
            follow = tt;
            few = omega arith;
            jumps = refl;
          };
    })
keeps line ws s t h (continues u o column at form few free e) =
    subst IsSofar (sym e) (record {
      each = h.each;
      differ = h.differ;
      few = h.few;
      inside = more_op s.units u line column o (inside_is s u h at) (op_allowed o form.0 form.1) few free;
    })
keeps line ws s t h (ends u at text miss end e) =
    let v = inside_is s u h at in
    let w : StackUnit = record { name = u.name; ops = u.ops } in
    let room = v.room in
    subst IsSofar (sym e) (record {
      each = All-push IsUnit s.units w h.each (closed_unit s.units u v miss end);
      differ = pairs_push (λ x y. x.name ≢ y.name) s.units w h.differ (others u.name s.units v.new);
      few = omega (arith, room, length-append s.units (w ∷ []));
      inside = tt;
    })

all_kept : (ls : List Numbered) (s t : Sofar) → IsSofar s → read_each step s ls ≡ Ok t → IsSofar t
unfolding read_each
all_kept [] s t h e = subst IsSofar (ok_is e) h
all_kept (l ∷ ls) s t h e =
    let b = bind_ok (step s l) (λ u. read_each step u ls) t e in
    all_kept ls b.0 t (keeps l.number _ s b.0 h (turn_of s l b.0 b.1).1) b.2

pub start_is : IsSofar nothing_yet
start_is = record { each = All-nil _; differ = λ i j d h g. absurd (omega (arith, g)); few = omega arith; inside = tt }

finished : (line : ℕ) (us vs : List StackUnit) (u : Option Open) → finish line us u ≡ Ok vs → us ≡ vs
unfolding finish
finished line us vs None e = ok_is e
finished line us vs (Some u) e = absurd (not_ok e)

-- units that the language allows, of which no two have one name, and not too many
pub record AreAllowed (us : List StackUnit) : Type 0 where
  pub each : All IsUnit us
  pub differ : NamesDiffer us
  pub few : length us ≤ 65536

-- what is read is allowed
pub units_allowed : (ls : List Numbered) (line : ℕ) (us : List StackUnit) → units_in ls line ≡ Ok us → AreAllowed us
unfolding units_in
units_allowed ls line us e =
    let b = bind_ok (read_each step nothing_yet ls) (λ s. finish line s.units s.inside) us e in
    let h = all_kept ls nothing_yet b.0 start_is b.1 in
    subst AreAllowed (finished line b.0.units us b.0.inside b.2)
    (record { each = h.each; differ = h.differ; few = h.few })

-- the same of the code's answer
pub answer_allowed : (ls : List Numbered) (line : ℕ) (r : Result (List StackUnit) TextRefusal)
    → Gets (λ us. us) r (units_in ls line) → IfOk r AreAllowed
answer_allowed ls line (Ok us) h = units_allowed ls line us h
answer_allowed ls line (Err e) h = tt

pub answer_each : (r : Result (List StackUnit) TextRefusal) → IfOk r AreAllowed → IfOk r (λ us. All IsUnit us)
answer_each (Ok us) h = h.each
answer_each (Err e) h = tt

pub answer_differ : (r : Result (List StackUnit) TextRefusal) → IfOk r AreAllowed → IfOk r (λ us. NamesDiffer us)
answer_differ (Ok us) h = h.differ
answer_differ (Err e) h = tt

pub answer_few : (r : Result (List StackUnit) TextRefusal) → IfOk r AreAllowed → IfOk r (λ us. length us ≤ 65536)
answer_few (Ok us) h = h.few
answer_few (Err e) h = tt
