-- Lines that write units are read as these units, and what is read as units is written by the lines.
use Rattle.std.proofs.Common.{◌≡◌, ◌≢◌, ℕ, zero, suc, ◌+◌, ◌≤◌, ◌<◌, List, [], ◌∷◌, ◌++◌, Bool, true, false, Result}
use Rattle.std.proofs.Common.{Ok, Err, Option, Some, None, refl, ap, sym, ◌∙◌, subst, map, length, arith, append_assoc}
use Rattle.std.proofs.Common.{append-nil, length-append, All, get_or}
use Rattle.std.specs.Prelude.{codes, ◌==◌, find, IfOk, IsTrue, ⊤}
use Rattle.std.specs.List.{AllZip, flat_map}
use Rattle.std.proofs.lemmas.Bool.Decides.{nat_tests}
use Rattle.std.proofs.lemmas.List.Elements.{All-nil, All-cons, All-head, All-tail, All-same}
use Rattle.po_lines.specs.Lines.{Numbered}
use Rattle.po_text.specs.declared.fault.TextRefusal.{TextRefusal}
use Rattle.po_lines.specs.Faults.{TextFault, Gets}
use Rattle.po_lines.specs.NameList.{has}
use Rattle.po_lines.specs.Leaves.{same}
use Rattle.po_lines.specs.Reading.{read_each}
use Rattle.po_lines.proofs.Results.{bind_ok, ok_is, not_ok}
use Rattle.po_ir.specs.declared.unit.Op.{Op}
use Rattle.po_ir.specs.declared.unit.Jump.{Jump}
use Rattle.po_ir.specs.declared.unit.Unit.{Unit as StackUnit}
use Rattle.po_ir.specs.Ops.{key_of, labels_of, target_in}
use Rattle.po_ir.specs.Faults.{misses}
use Rattle.po_ir.specs.Units.{Follow, IsUnit, NamesDiffer}
use Rattle.po_ir.specs.Grammar.{IsOpLine, texts_of, is_silent, said, AreLinesOf, IsShort, IsUnits}
use Rattle.po_ir.specs.Reading.{Open, Sofar, jumps_in, unit_name, step, nothing_yet, finish, units_in}
use Rattle.po_ir.proofs.StepLaws.{open_at, same_is, Turn, quiet, begins, continues, ends, turn_of}
use Rattle.po_ir.proofs.Allowed.{label_of, any_column, targets_next, AreAllowed, units_allowed}
use Rattle.po_ir.proofs.LineLaws.{key_facts, silent_again, op_step_again, begin_again, end_again}

said_less : (l : Numbered) (ls : List Numbered) → is_silent (texts_of l) ≡ true → said (l ∷ ls) ≡ said ls
said_less l ls e = rw e refl

said_more : (l : Numbered) (ls : List Numbered) → is_silent (texts_of l) ≡ false → said (l ∷ ls) ≡ texts_of l ∷ said ls
said_more l ls e = rw e refl

unit_speaks : (name : List ℕ) (ws : List (List ℕ)) → ws ≡ codes "unit" ∷ name ∷ [] → is_silent ws ≡ false
unit_speaks name ws e = subst (λ (x : List (List ℕ)). is_silent x ≡ false) (sym e) refl

end_speaks : (ws : List (List ℕ)) → ws ≡ codes "end" ∷ [] → is_silent ws ≡ false
end_speaks ws e = subst (λ (x : List (List ℕ)). is_silent x ≡ false) (sym e) refl

op_speaks : (o : Op) (ws : List (List ℕ)) → IsOpLine ws o → is_silent ws ≡ false
op_speaks o ws h = subst (λ (x : List (List ℕ)). is_silent x ≡ false) (sym h.2) (key_facts (key_of o)).2

-- these units are still to come, and the end of the one that has begun
abbrev pub Coming : Option Open → List (List (List ℕ)) → List StackUnit → Type 0
Coming None ws vs = AreLinesOf ws vs
Coming (Some u) ws [] = ⊥
Coming (Some u) ws (v ∷ vs) =
    (body : List (List (List ℕ))) × (rest : List (List (List ℕ))) × (os : List Op)
    × (ws ≡ body ++ (codes "end" ∷ []) ∷ rest) × AllZip IsOpLine body os
    × (v ≡ record { name = u.name; ops = u.ops ++ os }) × AreLinesOf rest vs

no_lines : {A : Type 0} (xs : List A) (y : A) (ys : List A) → [] ≡ xs ++ y ∷ ys → ⊥
no_lines [] y ys e = cc
no_lines (x ∷ xs) y ys e = cc

-- what is read of these lines has the form
record Reads (i : Option Open) (ls : List Numbered) (us : List StackUnit) (t : Sofar) : Type 0 where
  rest : List StackUnit
  units : t.units ≡ us ++ rest
  lines : Coming i (said ls) rest
  short : All IsShort ls

with_op_line : (l : Numbered) (ls : List Numbered) (name : List ℕ) (os : List Op) (js ks : List Jump) (o : Op)
    (vs : List StackUnit) → IsOpLine (texts_of l) o
    → Coming (Some (record { name = name; ops = os ++ o ∷ []; jumps = ks })) (said ls) vs
    → Coming (Some (record { name = name; ops = os; jumps = js })) (said (l ∷ ls)) vs
with_op_line l ls name os js ks o [] form h = h
with_op_line l ls name os js ks o (v ∷ vs) form (body, rest, ps, e, zip, is, more) = (
  texts_of l ∷ body,
  rest,
  o ∷ ps,
  said_more l ls (op_speaks o (texts_of l) form) ∙ ap (λ (x : List (List (List ℕ))). texts_of l ∷ x) e,
  (form, zip),
  is ∙ ap (λ (x : List Op). record { name = name; ops = x }) (append_assoc os (o ∷ []) ps),
  more,
)

with_unit_line : (l : Numbered) (ls : List Numbered) (name : List ℕ) (js : List Jump) (vs : List StackUnit)
    → texts_of l ≡ codes "unit" ∷ name ∷ []
    → Coming (Some (record { name = name; ops = []; jumps = js })) (said ls) vs → AreLinesOf (said (l ∷ ls)) vs
with_unit_line l ls name js [] text h = absurd h
with_unit_line l ls name js (v ∷ vs) text (body, rest, ps, e, zip, is, more) =
    let named : v.name ≡ name = ap unit_name is in
    let ops : v.ops ≡ ps = ap (λ (x : StackUnit). x.ops) is in (
      body,
      rest,
      said_more l ls (unit_speaks name (texts_of l) text) ∙ ap (λ (x : List (List (List ℕ))). texts_of l ∷ x) e
          ∙ ap (λ (x : List (List ℕ)). x ∷ (body ++ (codes "end" ∷ []) ∷ rest))
          (text ∙ ap (λ (x : List ℕ). codes "unit" ∷ x ∷ []) (sym named)),
      subst (AllZip IsOpLine body) (sym ops) zip,
      more,
    )

with_end_line : (l : Numbered) (ls : List Numbered) (u : Open) (vs : List StackUnit) → texts_of l ≡ codes "end" ∷ []
    → AreLinesOf (said ls) vs → Coming (Some u) (said (l ∷ ls)) (record { name = u.name; ops = u.ops } ∷ vs)
with_end_line l ls u vs text h = (
  [],
  said ls,
  [],
  said_more l ls (end_speaks (texts_of l) text) ∙ ap (λ (x : List (List ℕ)). x ∷ said ls) text,
  tt,
  ap (λ (x : List Op). record { name = u.name; ops = x }) (sym (append-nil u.ops)),
  h,
)

turn_found : (l : Numbered) (ls : List Numbered) (s u t : Sofar) → length l.bytes ≤ 4096
    → Turn l.number (texts_of l) s u → Reads u.inside ls u.units t → Reads s.inside (l ∷ ls) s.units t
turn_found l ls s u t short (quiet silent e) r = record {
  rest = r.rest;
  units = r.units ∙ ap (λ (x : Sofar). x.units ++ r.rest) e;
  lines =
      subst (λ (x : List (List (List ℕ))). Coming s.inside x r.rest) (sym (said_less l ls silent))
      (subst (λ (x : Sofar). Coming x.inside (said ls) r.rest) e r.lines);
  short = All-cons IsShort l ls short r.short;
}
turn_found l ls s u t short (begins name out text good room new e) r = record {
  rest = r.rest;
  units = r.units ∙ ap (λ (x : Sofar). x.units ++ r.rest) e;
  lines =
      subst (λ (x : Option Open). Coming x (said (l ∷ ls)) r.rest) (sym out)
      (with_unit_line l ls name [] r.rest text
      (subst (λ (x : Sofar). Coming x.inside (said ls) r.rest) e r.lines));
  short = All-cons IsShort l ls short r.short;
}
turn_found l ls s u t short (continues v o column at form few free e) r = record {
  rest = r.rest;
  units = r.units ∙ ap (λ (x : Sofar). x.units ++ r.rest) e;
  lines = subst (λ (x : Option Open). Coming x (said (l ∷ ls)) r.rest) (sym at)
      (with_op_line l ls v.name v.ops v.jumps (v.jumps ++ jumps_in l.number column o) o r.rest form
      (subst (λ (x : Sofar). Coming x.inside (said ls) r.rest) e r.lines));
  short = All-cons IsShort l ls short r.short;
}
turn_found l ls s u t short (ends v at text miss end e) r =
    let w : StackUnit = record { name = v.name; ops = v.ops } in
    record {
      rest = w ∷ r.rest;
      units = r.units ∙ ap (λ (x : Sofar). x.units ++ r.rest) e ∙ append_assoc s.units (w ∷ []) r.rest;
      lines =
          subst (λ (x : Option Open). Coming x (said (l ∷ ls)) (w ∷ r.rest)) (sym at)
          (with_end_line l ls v r.rest text (subst (λ (x : Sofar). Coming x.inside (said ls) r.rest) e r.lines));
      short = All-cons IsShort l ls short r.short;
    }

all_found : (ls : List Numbered) (s t : Sofar) → read_each step s ls ≡ Ok t → t.inside ≡ None
    → Reads s.inside ls s.units t
unfolding read_each
all_found [] s t h out =
    let same : s ≡ t = ok_is h in
    record {
      rest = [];
      units = ap (λ (x : Sofar). x.units) (sym same) ∙ sym (append-nil s.units);
      lines = subst (λ (x : Option Open). Coming x [] []) (sym out ∙ ap (λ (x : Sofar). x.inside) (sym same)) refl;
      short = All-nil _;
    }
all_found (l ∷ ls) s t h out =
    let b = bind_ok (step s l) (λ u. read_each step u ls) t h in
    let turn = turn_of s l b.0 b.1 in
    turn_found l ls s b.0 t turn.0 turn.1 (all_found ls b.0 t b.2 out)

finish_parts : (line : ℕ) (us vs : List StackUnit) (u : Option Open) → finish line us u ≡ Ok vs
    → (us ≡ vs) × (u ≡ None)
unfolding finish
finish_parts line us vs None e = (ok_is e, refl)
finish_parts line us vs (Some u) e = absurd (not_ok e)

-- what is read as units is written by the lines
pub units_found : (ls : List Numbered) (line : ℕ) (us : List StackUnit) → units_in ls line ≡ Ok us → IsUnits ls us
unfolding units_in
units_found ls line us e =
    let b = bind_ok (read_each step nothing_yet ls) (λ s. finish line s.units s.inside) us e in
    let f = finish_parts line b.0.units us b.0.inside b.2 in
    let r = all_found ls nothing_yet b.0 b.1 f.1 in
    let a = units_allowed ls line us e in
    record {
      short = r.short;
      lines = subst (AreLinesOf (said ls)) (sym r.units ∙ f.0) r.lines;
      allowed = a.each;
      differ = a.differ;
      few = a.few;
    }

-- the reverse: the jumps of the unit that has begun go to the labels of its operations
abbrev KeepsJumps : Option Open → Type 0
KeepsJumps None = ⊤
KeepsJumps (Some u) = map label_of u.jumps ≡ flat_map target_in u.ops

abbrev state : List StackUnit → Option Open → Sofar
state us i = record { units = us; inside = i }

-- lines that write the units that are still to come are read as these
abbrev ReadsAll : List Numbered → Type 0
ReadsAll ls =
    (us vs : List StackUnit) (i : Option Open) → All IsShort ls → Coming i (said ls) vs → AreAllowed (us ++ vs)
    → KeepsJumps i → read_each step (state us i) ls ≡ Ok (state (us ++ vs) None)

read_first : (s t : Sofar) (l : Numbered) (ls : List Numbered) (r : Result Sofar TextFault) → step s l ≡ Ok t
    → read_each step t ls ≡ r → read_each step s (l ∷ ls) ≡ r
unfolding read_each
read_first s t l ls r told rest = rw told rest

-- the last of these units and those before it
middle_unit : (us : List StackUnit) (v : StackUnit) (vs : List StackUnit) → All IsUnit (us ++ v ∷ vs) → IsUnit v
middle_unit [] v vs h = All-head IsUnit v vs h
middle_unit (u ∷ us) v vs h = middle_unit us v vs (All-tail IsUnit u (us ++ v ∷ vs) h)

follow_rest : (before xs ys : List Op) → Follow before (xs ++ ys) → Follow (before ++ xs) ys
follow_rest before [] ys h = subst (λ (b : List Op). Follow b ys) (sym (append-nil before)) h
follow_rest before (x ∷ xs) ys h =
    subst (λ (b : List Op). Follow b ys) (append_assoc before (x ∷ []) xs) (follow_rest (before ++ x ∷ []) xs ys h.1)

no_miss : (labels : List (List ℕ)) (js : List Jump) → All (λ l. IsTrue (has l labels)) (map label_of js)
    → find (misses labels) js ≡ None
no_miss labels [] h = refl
no_miss labels (j ∷ js) h =
    rw (All-head (λ l. IsTrue (has l labels)) j.label (map label_of js) h)
    (no_miss labels js (All-tail (λ l. IsTrue (has l labels)) j.label (map label_of js) h))

apart : (name : List ℕ) (b : Bool) (x : List ℕ) → same name x ≡ b → x ≢ name → same name x ≡ false
apart name true x e h = absurd (h (sym (same_is name x e)))
apart name false x e h = e

new_name : (name : List ℕ) (us : List StackUnit) → All (λ u. u.name ≢ name) us → has name (map unit_name us) ≡ false
new_name name [] h = refl
new_name name (u ∷ us) h =
    rw (apart name (same name u.name) u.name refl (All-head (λ u. u.name ≢ name) u us h))
    (new_name name us (All-tail (λ u. u.name ≢ name) u us h))

at_length : {A : Type 0} (xs : List A) (y : A) (ys : List A) (d : A) → get_or (xs ++ y ∷ ys) (length xs) d ≡ y
at_length [] y ys d = refl
at_length (x ∷ xs) y ys d = at_length xs y ys d

at_before : {A : Type 0} (xs ys : List A) (k : ℕ) (d : A) → k < length xs → get_or (xs ++ ys) k d ≡ get_or xs k d
at_before [] ys k d h = absurd (omega (arith, h))
at_before (x ∷ xs) ys zero d h = refl
at_before (x ∷ xs) ys (suc k) d h = at_before xs ys k d (omega (arith, h))

others_differ : (us : List StackUnit) (v : StackUnit) (vs : List StackUnit) → NamesDiffer (us ++ v ∷ vs)
    → All (λ u. u.name ≢ v.name) us
others_differ us v vs h = λ k d low.
    let long : length (us ++ v ∷ vs) ≡ length us + length (v ∷ vs) = length-append us (v ∷ vs) in
    let apart = h k (length us) d low (omega (arith, long)) in
    subst (λ (x : StackUnit). x.name ≢ v.name) (at_before us (v ∷ vs) k d low)
    (subst (λ (x : StackUnit). (get_or (us ++ v ∷ vs) k d).name ≢ x.name) (at_length us v vs d) apart)

below_limit : (n : ℕ) → n < 65536 → (n == 65536) ≡ false
below_limit n h = grind (arith, nat_tests)

room_before : {A : Type 0} (us : List A) (v : A) (vs : List A) → length (us ++ v ∷ vs) ≤ 65536
    → (length us == 65536) ≡ false
room_before us v vs h =
    let long : length (us ++ v ∷ vs) ≡ length us + length (v ∷ vs) = length-append us (v ∷ vs) in
    below_limit (length us) (omega (arith, h, long))

-- the first line of the next unit
unit_line_again : (l : Numbered) (ls : List Numbered) → ReadsAll ls → IsShort l → (us vs : List StackUnit)
    → All IsShort ls → AreLinesOf (texts_of l ∷ said ls) vs → AreAllowed (us ++ vs)
    → read_each step (state us None) (l ∷ ls) ≡ Ok (state (us ++ vs) None)
unit_line_again l ls more short us [] shorts h good = cc
unit_line_again l ls more short us (v ∷ vs) shorts (body, rest, e, zip, later) good =
    let text : texts_of l ≡ codes "unit" ∷ v.name ∷ [] = cc in
    let behind : said ls ≡ body ++ (codes "end" ∷ []) ∷ rest = cc in
    let unit = middle_unit us v vs good.each in
    read_first (state us None) (open_at us v.name [] []) l ls _
    (begin_again us v.name l short unit.name (room_before us v vs good.few)
    (new_name v.name us (others_differ us v vs good.differ)) text)
    (more us (v ∷ vs) (Some (record { name = v.name; ops = []; jumps = [] })) shorts
    (body, rest, v.ops, behind, zip, refl, later) good refl)

-- a line of the unit that has begun
open_line_again : (l : Numbered) (ls : List Numbered) → ReadsAll ls → IsShort l
    → (us : List StackUnit) (u : Open) (vs : List StackUnit) → All IsShort ls
    → Coming (Some u) (texts_of l ∷ said ls) vs → AreAllowed (us ++ vs)
    → KeepsJumps (Some u) → read_each step (state us (Some u)) (l ∷ ls) ≡ Ok (state (us ++ vs) None)
open_line_again l ls more short us u [] shorts h good jumps = absurd h
open_line_again l ls more short us u (v ∷ vs) shorts ([], rest, o ∷ os, e, zip, is, later) good jumps = absurd zip
open_line_again l ls more short us u (v ∷ vs) shorts (w ∷ ws, rest, [], e, zip, is, later) good jumps = absurd zip
open_line_again l ls more short us u (v ∷ vs) shorts ([], rest, [], e, zip, is, later) good jumps =
    let text : texts_of l ≡ codes "end" ∷ [] = cc in
    let behind : said ls ≡ rest = cc in
    let done : StackUnit = record { name = u.name; ops = u.ops } in
    let same : v ≡ done = is ∙ ap (λ (x : List Op). record { name = u.name; ops = x }) (append-nil u.ops) in
    let unit : IsUnit done = subst IsUnit same (middle_unit us v vs good.each) in
    let whole : (us ++ done ∷ []) ++ vs ≡ us ++ v ∷ vs =
    append_assoc us (done ∷ []) vs ∙ ap (λ (x : StackUnit). us ++ x ∷ vs) (sym same) in
    let miss = no_miss (labels_of u.ops) u.jumps
    (All-same (λ l. IsTrue (has l (labels_of u.ops))) (map label_of u.jumps) (flat_map target_in u.ops) jumps
    unit.targets) in
    read_first (state us (Some u)) (state (us ++ done ∷ []) None) l ls _
    (end_again us u l short miss unit.ends text)
    (more (us ++ done ∷ []) vs None shorts (subst (λ (x : List (List (List ℕ))). AreLinesOf x vs) (sym behind) later)
    (subst AreAllowed (sym whole) good) tt ∙ ap (λ (x : List StackUnit). Ok (state x None)) whole)
open_line_again l ls more short us u (v ∷ vs) shorts (w ∷ ws, rest, o ∷ os, e, zip, is, later) good jumps =
    let text : texts_of l ≡ w = cc in
    let behind : said ls ≡ ws ++ (codes "end" ∷ []) ∷ rest = cc in
    let unit = subst IsUnit is (middle_unit us v vs good.each) in
    let free = (follow_rest [] u.ops (o ∷ os) unit.follow).0 in
    let x = op_step_again us u l o short (room_before u.ops o os unit.few) (λ c. any_column u.ops o 1 c free)
    (subst (λ (t : List (List ℕ)). IsOpLine t o) (sym text) zip.0) in
    read_first (state us (Some u)) (open_at us u.name (u.ops ++ o ∷ []) x.jumps) l ls _ x.read
    (more us (v ∷ vs) (Some (record { name = u.name; ops = u.ops ++ o ∷ []; jumps = x.jumps })) shorts (
      ws,
      rest,
      os,
      behind,
      zip.1,
      is ∙ ap (λ (y : List Op). record { name = u.name; ops = y }) (sym (append_assoc u.ops (o ∷ []) os)),
      later,
    ) good
    (x.labels ∙ ap (λ (r : List (List ℕ)). r ++ target_in o) jumps ∙ sym (targets_next u.ops o)))

one_line_again : (l : Numbered) (ls : List Numbered) → ReadsAll ls → (b : Bool) → is_silent (texts_of l) ≡ b
    → (us vs : List StackUnit) (i : Option Open) → All IsShort (l ∷ ls) → Coming i (said (l ∷ ls)) vs
    → AreAllowed (us ++ vs) → KeepsJumps i
    → read_each step (state us i) (l ∷ ls) ≡ Ok (state (us ++ vs) None)
one_line_again l ls more true silent us vs i short h good jumps =
    read_first (state us i) (state us i) l ls _ (silent_again (state us i) l (All-head IsShort l ls short) silent)
    (more us vs i (All-tail IsShort l ls short)
    (subst (λ (x : List (List (List ℕ))). Coming i x vs) (said_less l ls silent) h) good jumps)
one_line_again l ls more false speaks us vs None short h good jumps =
    unit_line_again l ls more (All-head IsShort l ls short) us vs (All-tail IsShort l ls short)
    (subst (λ (x : List (List (List ℕ))). AreLinesOf x vs) (said_more l ls speaks) h) good
one_line_again l ls more false speaks us vs (Some u) short h good jumps =
    open_line_again l ls more (All-head IsShort l ls short) us u vs (All-tail IsShort l ls short)
    (subst (λ (x : List (List (List ℕ))). Coming (Some u) x vs) (said_more l ls speaks) h) good jumps

none_again : (us vs : List StackUnit) (i : Option Open) → Coming i [] vs
    → read_each step (state us i) [] ≡ Ok (state (us ++ vs) None)
unfolding read_each
none_again us [] None h = ap (λ (x : List StackUnit). Ok (state x None)) (sym (append-nil us))
none_again us (v ∷ vs) None h = let e = h.2 in cc
none_again us [] (Some u) h = absurd h
none_again us (v ∷ vs) (Some u) h = absurd (no_lines h.0 (codes "end" ∷ []) h.1 h.3)

all_again : (ls : List Numbered) → ReadsAll ls
all_again [] = λ us vs i short h good jumps. none_again us vs i h
all_again (l ∷ ls) =
    λ us vs i short h good jumps.
    one_line_again l ls (all_again ls) (is_silent (texts_of l)) refl us vs i short h good jumps

-- lines that write units that the language allows are read as these
pub units_again : (ls : List Numbered) (line : ℕ) (us : List StackUnit) → IsUnits ls us → units_in ls line ≡ Ok us
unfolding units_in finish
units_again ls line us h =
    rw (all_again ls [] us None h.short h.lines (record { each = h.allowed; differ = h.differ; few = h.few }) tt) refl

-- the same of the code's answer
pub answer_written : (ls : List Numbered) (line : ℕ) (r : Result (List StackUnit) TextRefusal)
    → Gets (λ us. us) r (units_in ls line) → IfOk r (IsUnits ls)
answer_written ls line (Ok us) h = units_found ls line us h
answer_written ls line (Err e) h = tt
