-- What one line does to what was read so far.
use Rattle.std.proofs.Common.{◌≡◌, ℕ, ◌+◌, ◌≤◌, List, [], ◌∷◌, ◌++◌, Bool, true, false, Result, Ok, Err, Option, Some}
use Rattle.std.proofs.Common.{None, refl, ap, sym, ◌∙◌, subst, map, length, arith, inl, inr}
use Rattle.std.specs.Prelude.{codes, cond, nat_eq, nat_lt, ◌==◌, find}
use Rattle.std.specs.List.{starts_with}
use Rattle.std.specs.Cmp.Lexicographic.{same_text}
use Rattle.std.proofs.lemmas.Bool.Decides.{nat_tests}
use Rattle.po_name.specs.Names.{is_name}
use Rattle.po_lines.specs.declared.fault.LineFault.{LineFault}
use Rattle.po_lines.specs.Words.{Placed, line_words, words_in}
use Rattle.po_lines.specs.Lines.{Numbered}
use Rattle.po_lines.specs.Faults.{at_line}
use Rattle.po_lines.specs.Forms.{says_nothing, no_more, name_alone}
use Rattle.po_lines.specs.Leaves.{same}
use Rattle.po_lines.specs.NameList.{has}
use Rattle.po_lines.proofs.Results.{chosen, bind_ok, ok_is, not_ok}
use Rattle.po_ir.specs.declared.unit.Op.{Op}
use Rattle.po_ir.specs.declared.unit.Jump.{Jump}
use Rattle.po_ir.specs.declared.unit.Key.{Key}
use Rattle.po_ir.specs.declared.unit.Unit.{Unit as StackUnit}
use Rattle.po_ir.specs.Keys.{key_text, keys, key_of_word}
use Rattle.po_ir.specs.Ops.{key_of, labels_of, ends_well}
use Rattle.po_ir.specs.Lines.{op_in, second_column}
use Rattle.po_ir.specs.Faults.{decided, misses, end_fault}
use Rattle.po_ir.specs.Grammar.{IsOpLine, word_bytes, texts_of, is_silent}
use Rattle.po_ir.specs.Reading.{Open, Sofar, unless, jumps_in, with_op, op_line, may_end, closed, key_line}
use Rattle.po_ir.specs.Reading.{inside_line, unit_name, begun_with, outside_line, some_line, words_line, step}
use Rattle.po_ir.proofs.OpLaws.{op_found, name_alone_found, no_more_found}

abbrev pub open_at : List StackUnit → List ℕ → List Op → List Jump → Sofar
open_at us name os js = record { units = us; inside = Some (record { name = name; ops = os; jumps = js }) }

-- a line with these words turns what was read so far into this
pub data Turn (line : ℕ) (ws : List (List ℕ)) (s t : Sofar) : Type 0 where
  quiet : is_silent ws ≡ true → t ≡ s → Turn line ws s t
  begins : (name : List ℕ) → s.inside ≡ None → ws ≡ codes "unit" ∷ name ∷ [] → is_name name ≡ true
      → (length s.units == 65536) ≡ false → has name (map unit_name s.units) ≡ false
      → t ≡ open_at s.units name [] [] → Turn line ws s t
  continues : (u : Open) (o : Op) (column : ℕ) → s.inside ≡ Some u → IsOpLine ws o → (length u.ops == 65536) ≡ false
      → decided u.ops o column ≡ None
      → t ≡ open_at s.units u.name (u.ops ++ o ∷ []) (u.jumps ++ jumps_in line column o) → Turn line ws s t
  ends : (u : Open) → s.inside ≡ Some u → ws ≡ codes "end" ∷ [] → find (misses (labels_of u.ops)) u.jumps ≡ None
      → ends_well u.ops ≡ true
      → t ≡ record { units = s.units ++ record { name = u.name; ops = u.ops } ∷ []; inside = None } → Turn line ws s t

at_line_ok : {A : Type 0} (line : ℕ) (r : Result A LineFault) (x : A) → at_line line r ≡ Ok x → r ≡ Ok x
at_line_ok line (Ok y) x e = ap Ok (ok_is e)
at_line_ok line (Err f) x e = absurd (not_ok e)

unless_ok : {A E : Type 0} (f : Option E) (x y : A) → unless f x ≡ Ok y → (f ≡ None) × (y ≡ x)
unless_ok None x y e = (refl, sym (ok_is e))
unless_ok (Some f) x y e = absurd (not_ok e)

pub same_is : (xs ys : List ℕ) → same xs ys ≡ true → xs ≡ ys
same_is xs ys e = same_text xs ys (sym e)

-- what a search finds passes
found_by : {X : Type 0} (p : X → Bool) (b : Bool) (x y : X) (xs : List X) → p x ≡ b → (find p xs ≡ Some y → p y ≡ true)
    → cond b (Some x) (find p xs) ≡ Some y → p y ≡ true
found_by p true x y xs e later h = let same : x ≡ y = cc in subst (λ z. p z ≡ true) same e
found_by p false x y xs e later h = later h

found_passes : {X : Type 0} (p : X → Bool) (xs : List X) (y : X) → find p xs ≡ Some y → p y ≡ true
found_passes p [] y e = cc
found_passes p (x ∷ xs) y e = found_by p (p x) x y xs refl (found_passes p xs y) e

key_is : (w : List ℕ) (k : Key) → key_of_word w ≡ Some k → w ≡ key_text k
unfolding key_of_word
key_is w k e = same_is w (key_text k) (found_passes (λ k. same w (key_text k)) keys k e)

pub not_none : {A : Type 0} {x : A} → ◌≡◌ {A = Option A} (Some x) None → ⊥
not_none e = cc

end_parts : (line : ℕ) (os : List Op) (js : List Jump) → end_fault line os js ≡ None
    → (find (misses (labels_of os)) js ≡ None) × (ends_well os ≡ true)
end_parts line os js e = by (find (misses (labels_of os)) js) (ends_well os) refl refl e
  where
    by : (f : Option Jump) (b : Bool) → find (misses (labels_of os)) js ≡ f → ends_well os ≡ b
        → end_fault line os js ≡ None → (find (misses (labels_of os)) js ≡ None) × (ends_well os ≡ true)
    by (Some j) b p q e = absurd (not_none (rw p at e))
    by None true p q e = (p, q)
    by None false p q e = absurd (not_none (rw (p, q) at e))

closed_turn : (line : ℕ) (ws : List (List ℕ)) (us : List StackUnit) (u : Open) (t : Sofar) → ws ≡ codes "end" ∷ []
    → closed line us u ≡ Ok t → Turn line ws (record { units = us; inside = Some u }) t
unfolding closed
closed_turn line ws us u t e h =
    let b = bind_ok (may_end line u.ops u.jumps)
    (λ nothing. Ok (record { units = us ++ record { name = u.name; ops = u.ops } ∷ []; inside = None })) t h in
    let n = unless_ok (end_fault line u.ops u.jumps) tt b.0 b.1 in
    let p = end_parts line u.ops u.jumps n.0 in
    ends u refl e p.0 p.1 (sym (ok_is b.2))

op_turn : (line : ℕ) (us : List StackUnit) (u : Open) (k : Key) (w : List ℕ) (ws : List Placed) (end : ℕ) (v : Open)
    → w ≡ key_text k → op_line line u k ws end ≡ Ok v
    → Turn line (w ∷ map word_bytes ws) (record { units = us; inside = Some u })
    (record { units = us; inside = Some v })
unfolding op_line with_op
op_turn line us u k w ws end v text h = elim (chosen (length u.ops == 65536) _ _ (Ok v) h) [
  | inl p ↦ absurd (not_ok p.1)
  | inr p ↦
      let b = bind_ok (op_in k ws end)
      (λ o. unless (decided u.ops o (second_column ws))
      (record { name = u.name; ops = u.ops ++ o ∷ []; jumps = u.jumps ++ jumps_in line (second_column ws) o }))
      v p.1 in
      let d = unless_ok (decided u.ops b.0 (second_column ws)) _ v b.2 in
      let f = op_found k ws end b.0 b.1 in
      let first : w ≡ key_text (key_of b.0) = text ∙ ap key_text (sym f.0) in
      continues u b.0 (second_column ws) refl
      (map word_bytes ws, f.1, ap (λ (x : List ℕ). x ∷ map word_bytes ws) first) p.0 d.0
      (ap (λ (x : Open). record { units = us; inside = Some x }) d.1)
]

key_turn : (line : ℕ) (us : List StackUnit) (u : Open) (k : Option Key) (w : Placed) (ws : List Placed) (end : ℕ)
    (t : Sofar) → key_of_word w.bytes ≡ k → key_line line us u k w ws end ≡ Ok t
    → Turn line (w.bytes ∷ map word_bytes ws) (record { units = us; inside = Some u }) t
unfolding key_line
key_turn line us u None w ws end t e h = absurd (not_ok h)
key_turn line us u (Some k) w ws end t e h =
    let b = bind_ok (at_line line (op_line line u k ws end)) (λ v. Ok (record { units = us; inside = Some v })) t h in
    subst (λ (x : Sofar). Turn line (w.bytes ∷ map word_bytes ws) (record { units = us; inside = Some u }) x)
    (ok_is b.2)
    (op_turn line us u k w.bytes ws end b.0 (key_is w.bytes k e) (at_line_ok line (op_line line u k ws end) b.0 b.1))

inside_turn : (line : ℕ) (us : List StackUnit) (u : Open) (w : Placed) (ws : List Placed) (end : ℕ) (t : Sofar)
    → inside_line line us u w ws end ≡ Ok t
    → Turn line (w.bytes ∷ map word_bytes ws) (record { units = us; inside = Some u }) t
unfolding inside_line
inside_turn line us u w ws end t h = elim (chosen (same w.bytes (codes "end")) _ _ (Ok t) h) [
  | inl p ↦
      let b = bind_ok (at_line line (no_more ws)) (λ nothing. closed line us u) t p.1 in
      let none = no_more_found ws b.0 (at_line_ok line (no_more ws) b.0 b.1) in
      closed_turn line _ us u t
      (ap (λ (x : List ℕ). x ∷ map word_bytes ws) (same_is w.bytes (codes "end") p.0)
      ∙ ap (λ (r : List (List ℕ)). codes "end" ∷ r) none) b.2
  | inr p ↦ key_turn line us u (key_of_word w.bytes) w ws end t refl p.1
]

begun_turn : (line : ℕ) (ws : List (List ℕ)) (us : List StackUnit) (column : ℕ) (name : List ℕ) (t : Sofar)
    → ws ≡ codes "unit" ∷ name ∷ [] → is_name name ≡ true → (length us == 65536) ≡ false
    → begun_with line us column name ≡ Ok t → Turn line ws (record { units = us; inside = None }) t
unfolding begun_with
begun_turn line ws us column name t e good room h = elim (chosen (has name (map unit_name us)) _ _ (Ok t) h) [
  | inl p ↦ absurd (not_ok p.1)
  | inr p ↦ begins name refl e good room p.0 (sym (ok_is p.1))
]

outside_turn : (line : ℕ) (us : List StackUnit) (w : Placed) (ws : List Placed) (end : ℕ) (t : Sofar)
    → outside_line line us w ws end ≡ Ok t
    → Turn line (w.bytes ∷ map word_bytes ws) (record { units = us; inside = None }) t
unfolding outside_line
outside_turn line us w ws end t h = elim (chosen (same w.bytes (codes "unit")) _ _ (Ok t) h) [
  | inl p ↦ elim (chosen (length us == 65536) _ _ (Ok t) p.1) [
    | inl q ↦ absurd (not_ok q.1)
    | inr q ↦
        let b =
        bind_ok (at_line line (name_alone ws end)) (λ name. begun_with line us (second_column ws) name) t q.1 in
        let n = name_alone_found b.0 ws end (at_line_ok line (name_alone ws end) b.0 b.1) in
        begun_turn line _ us (second_column ws) b.0 t
        (ap (λ (x : List ℕ). x ∷ map word_bytes ws) (same_is w.bytes (codes "unit") p.0)
        ∙ ap (λ (r : List (List ℕ)). codes "unit" ∷ r) n.1) n.0 q.0 b.2
  ]
  | inr p ↦ absurd (not_ok p.1)
]

some_turn : (line : ℕ) (us : List StackUnit) (u : Option Open) (w : Placed) (ws : List Placed) (end : ℕ) (t : Sofar)
    → some_line line us u w ws end ≡ Ok t
    → Turn line (w.bytes ∷ map word_bytes ws) (record { units = us; inside = u }) t
unfolding some_line
some_turn line us None w ws end t h = outside_turn line us w ws end t h
some_turn line us (Some u) w ws end t h = inside_turn line us u w ws end t h

words_turn : (line : ℕ) (s : Sofar) (ws : List Placed) (end : ℕ) (t : Sofar) → words_line line s ws end ≡ Ok t
    → Turn line (map word_bytes ws) s t
unfolding words_line says_nothing
words_turn line s [] end t h = quiet refl (sym (ok_is h))
words_turn line s (w ∷ ws) end t h = elim (chosen (starts_with nat_eq w.bytes (codes "//")) _ _ (Ok t) h) [
  | inl p ↦ quiet p.0 (sym (ok_is p.1))
  | inr p ↦ some_turn line s.units s.inside w ws end t p.1
]

short_is : (n : ℕ) → nat_lt 4096 n ≡ false → n ≤ 4096
short_is n h = grind (arith, nat_tests)

words_found : (bytes : List ℕ) (ws : List Placed) → line_words bytes ≡ Ok ws
    → (length bytes ≤ 4096) × (words_in bytes ≡ ws)
unfolding line_words
words_found bytes ws h = elim (chosen (nat_lt 4096 (length bytes)) _ _ (Ok ws) h) [
  | inl p ↦ absurd (not_ok p.1)
  | inr p ↦ (short_is (length bytes) p.0, ok_is p.1)
]

-- a line that has no fault
pub turn_of : (s : Sofar) (l : Numbered) (t : Sofar) → step s l ≡ Ok t
    → (length l.bytes ≤ 4096) × Turn l.number (texts_of l) s t
unfolding step
turn_of s l t h =
    let b =
    bind_ok (at_line l.number (line_words l.bytes)) (λ ws. words_line l.number s ws (length l.bytes + 1)) t h in
    let f = words_found l.bytes b.0 (at_line_ok l.number (line_words l.bytes) b.0 b.1) in (
      f.0,
      subst (λ (ws : List Placed). Turn l.number (map word_bytes ws) s t) (sym f.1)
          (words_turn l.number s b.0 (length l.bytes + 1) t b.2),
    )
