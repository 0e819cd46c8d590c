-- Two lines that are the same up to an end of a word are read alike up to there: the parts of a term.
use Rattle.std.proofs.Common.{◌≡◌, ℕ, ◌+◌, ◌≤◌, ◌==◌, ◌&&◌, Bool, true, false, List, [], ◌∷◌, ◌++◌}
use Rattle.std.proofs.Common.{length, take, drop, refl, sym, ap, ◌∙◌, subst, arith, Option}
use Rattle.std.proofs.Common.{Some, None}
use Rattle.std.proofs.Common.{Result, Ok, Err, ℤ, pos, negsuc}
use Rattle.std.specs.Prelude.{cond, int_le, ⊤}
use Rattle.std.specs.List.{prefix_len}
use Rattle.std.proofs.lemmas.Bool.Decides.{nat_tests}
use Rattle.std.proofs.lemmas.List.{length-drop, take-append-le, drop-append-le}
use Rattle.std.proofs.lemmas.List.Sums.{prefix_len-le-length}
use Rattle.po_word.specs.Words.{word_of}
use Rattle.po_text.specs.Words.{is_blank}
use Rattle.po_text.specs.Number.{number_of}
use Rattle.po_text.specs.declared.fault.Kind.TheVariants as kind
use Rattle.po_name.specs.Names.{is_digit, is_name_byte}
use Rattle.po_term.specs.declared.term.Reg.{Reg}
use Rattle.po_lines.specs.declared.fault.LineFault.{LineFault}
use Rattle.po_lines.specs.Faults.{◌>>=◌, fault}
use Rattle.po_lines.specs.Leaves.{bounded, number_in, signed_number_in}
use Rattle.po_model.specs.declared.machine.Bounds.{Bounds}
use Rattle.po_model.specs.declared.machine.PatReg.{PatReg}
use Rattle.po_model.specs.declared.machine.PatReg.TheVariants.{Any, Fixed}
use Rattle.po_model.specs.declared.machine.PatTerm.{PatTerm}
use Rattle.po_model.specs.declared.machine.PatTerm.TheVariants as pat
use Rattle.po_pattern.specs.declared.operands.Operands.{Operands}
use Rattle.po_pattern.specs.declared.operands.OperandKind.{OperandKind}
use Rattle.po_pattern.specs.declared.operands.OperandKind.TheVariants.{Register, Constant, Symbol}
use Rattle.po_pattern.specs.Rests.{Rest, Read, behind, skip_blanks, wrong, begins, mark}
use Rattle.po_pattern.specs.Seen.{kind_of, with_operand, may_be, is_new}
use Rattle.po_pattern.specs.Parts as parts
use Rattle.po_entry.specs.Writing.{ends_here}
use Rattle.po_entry.proofs.AgainParts.{at}
use Rattle.po_entry.proofs.WrittenParts.{drop_more}

-- what stands behind the common front of two lines, and the column behind that front
pub record Two : Type 0 where
  pub s : List ℕ
  pub t : List ℕ
  pub ends_s : ends_here s ≡ true
  pub ends_t : ends_here t ≡ true
  pub e : ℕ

-- no wrong word before this column
abbrev pub LateFault : ℕ → LineFault → Type 0
LateFault e f = f.kind ≡ kind.Word → e ≤ f.column

abbrev pub own_column : Rest → ℕ
own_column r = r.column

abbrev pub skip_column : Rest → ℕ
skip_column r = (skip_blanks r).column

abbrev pub LateAny : {A : Type 0} → ℕ → Result A LineFault → Type 0
LateAny e (Ok x) = ⊤
LateAny e (Err f) = LateFault e f

abbrev pub LateRest : (Rest → ℕ) → ℕ → Result Rest LineFault → Type 0
LateRest col e (Ok r) = e ≤ col r
LateRest col e (Err f) = LateFault e f

abbrev pub Late : {T : Type 0} → (Rest → ℕ) → ℕ → Result (Read T) LineFault → Type 0
Late col e (Ok x) = e ≤ col x.rest
Late col e (Err f) = LateFault e f

abbrev pub read_at : {T : Type 0} → T → ℕ → List ℕ → Operands → Read T
read_at value c bytes seen = record { value = value; rest = at c bytes; seen = seen }

-- the two rests are read alike: the same fault, the same value before the front's end, or nothing before it
pub data Rests (col : Rest → ℕ) (k : Two) (m n : Result Rest LineFault) : Type 0 where
  same_rest : (f : LineFault) → m ≡ Err f → n ≡ Err f → Rests col k m n
  both_rests : (c : ℕ) (q : List ℕ) → c + length q ≡ k.e → m ≡ Ok (at c (q ++ k.s)) → n ≡ Ok (at c (q ++ k.t))
      → Rests col k m n
  late_rest : LateRest col k.e m → Rests col k m n

pub data Reads {T : Type 0} (col : Rest → ℕ) (k : Two) (m n : Result (Read T) LineFault) : Type 0 where
  same_fault : (f : LineFault) → m ≡ Err f → n ≡ Err f → Reads col k m n
  both_read : (value : T) (c : ℕ) (q : List ℕ) (seen : Operands) → c + length q ≡ k.e
      → m ≡ Ok (read_at value c (q ++ k.s) seen) → n ≡ Ok (read_at value c (q ++ k.t) seen) → Reads col k m n
  late_read : Late col k.e m → Reads col k m n

-- going on

pub late_bind : {S T : Type 0} (a b : Rest → ℕ) (e : ℕ) (m : Result (Read S) LineFault)
    (g : Read S → Result (Read T) LineFault) → Late a e m → ((x : Read S) → e ≤ a x.rest → Late b e (g x))
    → Late b e (m >>= g)
late_bind a b e (Ok x) g h f = f x h
late_bind a b e (Err x) g h f = h

pub late_rest_bind : {T : Type 0} (a b : Rest → ℕ) (e : ℕ) (m : Result Rest LineFault)
    (g : Rest → Result (Read T) LineFault) → LateRest a e m → ((x : Rest) → e ≤ a x → Late b e (g x))
    → Late b e (m >>= g)
late_rest_bind a b e (Ok x) g h f = f x h
late_rest_bind a b e (Err x) g h f = h

pub late_any_bind : {A T : Type 0} (b : Rest → ℕ) (e : ℕ) (m : Result A LineFault)
    (g : A → Result (Read T) LineFault) → LateAny e m → ((x : A) → Late b e (g x)) → Late b e (m >>= g)
late_any_bind b e (Ok x) g h f = f x
late_any_bind b e (Err x) g h f = h

pub late_less : {T : Type 0} (col : Rest → ℕ) (d e : ℕ) (m : Result (Read T) LineFault) → e ≤ d → Late col d m
    → Late col e m
late_less col d e (Ok x) h l = omega (arith, h, l)
late_less col d e (Err f) h l = λ w. let far = l w in omega (arith, h, far)

pub late_cond : {T : Type 0} (col : Rest → ℕ) (e : ℕ) (b : Bool) (x y : Result (Read T) LineFault)
    → (b ≡ true → Late col e x) → (b ≡ false → Late col e y) → Late col e (cond b x y)
late_cond col e true x y f g = f refl
late_cond col e false x y f g = g refl

pub reads_bind : {S T : Type 0} (a b : Rest → ℕ) (k : Two) (m n : Result (Read S) LineFault)
    (g : Read S → Result (Read T) LineFault) → Reads a k m n
    → ((v : S) (c : ℕ) (q : List ℕ) (seen : Operands) → c + length q ≡ k.e
    → Reads b k (g (read_at v c (q ++ k.s) seen)) (g (read_at v c (q ++ k.t) seen)))
    → ((x : Read S) → k.e ≤ a x.rest → Late b k.e (g x)) → Reads b k (m >>= g) (n >>= g)
reads_bind a b k m n g (same_fault f e h) both late =
    same_fault f (ap (λ x. x >>= g) e) (ap (λ x. x >>= g) h)
reads_bind a b k m n g (both_read v c q seen l e h) both late =
    subst (λ x. Reads b k (x >>= g) (n >>= g)) (sym e)
    (subst (λ x. Reads b k (g (read_at v c (q ++ k.s) seen)) (x >>= g)) (sym h) (both v c q seen l))
reads_bind a b k m n g (late_read l) both late = late_read (late_bind a b k.e m g l late)

pub rests_bind : {T : Type 0} (a b : Rest → ℕ) (k : Two) (m n : Result Rest LineFault)
    (g : Rest → Result (Read T) LineFault) → Rests a k m n
    → ((c : ℕ) (q : List ℕ) → c + length q ≡ k.e → Reads b k (g (at c (q ++ k.s))) (g (at c (q ++ k.t))))
    → ((x : Rest) → k.e ≤ a x → Late b k.e (g x)) → Reads b k (m >>= g) (n >>= g)
rests_bind a b k m n g (same_rest f e h) both late =
    same_fault f (ap (λ x. x >>= g) e) (ap (λ x. x >>= g) h)
rests_bind a b k m n g (both_rests c q l e h) both late =
    subst (λ x. Reads b k (x >>= g) (n >>= g)) (sym e)
    (subst (λ x. Reads b k (g (at c (q ++ k.s))) (x >>= g)) (sym h) (both c q l))
rests_bind a b k m n g (late_rest l) both late = late_read (late_rest_bind a b k.e m g l late)

pub reads_cond : {T : Type 0} (col : Rest → ℕ) (k : Two) (b d : Bool) (x y z w : Result (Read T) LineFault) → b ≡ d
    → Reads col k x z → Reads col k y w → Reads col k (cond b x y) (cond d z w)
reads_cond col k b d x y z w e f g = subst (λ u. Reads col k (cond b x y) (cond u z w)) e (by_test b)
  where
    by_test : (b : Bool) → Reads col k (cond b x y) (cond b z w)
    by_test true = f
    by_test false = g

-- blanks

pub skip_more : (r : Rest) → r.column ≤ skip_column r
unfolding skip_blanks
skip_more r = omega arith

skip_next : (c b : ℕ) (bs : List ℕ) → is_blank b ≡ true → skip_blanks (at c (b ∷ bs)) ≡ skip_blanks (at (c + 1) bs)
unfolding skip_blanks
skip_next c b bs e =
    let n : ℕ = prefix_len is_blank bs in
    let long : prefix_len is_blank (b ∷ bs) ≡ 1 + prefix_len is_blank bs = rw e refl in
    let column : c + prefix_len is_blank (b ∷ bs) ≡ c + 1 + prefix_len is_blank bs = omega (arith, long) in
    ap (λ (x : ℕ). at x (drop (prefix_len is_blank (b ∷ bs)) (b ∷ bs))) column
    ∙ ap (λ (w : List ℕ). at (c + 1 + prefix_len is_blank bs) w) (drop_more is_blank b bs e)

pub skip_stay : (c b : ℕ) (bs : List ℕ) → is_blank b ≡ false → skip_blanks (at c (b ∷ bs)) ≡ at c (b ∷ bs)
unfolding skip_blanks
skip_stay c b bs e =
    let none : prefix_len is_blank (b ∷ bs) ≡ 0 = rw e refl in
    let column : c + 0 ≡ c = omega arith in
    rw none (ap (λ (x : ℕ). at x (b ∷ bs)) column)

pub data Skipped (k : Two) (c : ℕ) (q : List ℕ) : Type 0 where
  inside : (d b : ℕ) (p : List ℕ) → d + length (b ∷ p) ≡ k.e
      → skip_blanks (at c (q ++ k.s)) ≡ at d (b ∷ p ++ k.s) → skip_blanks (at c (q ++ k.t)) ≡ at d (b ∷ p ++ k.t)
      → Skipped k c q
  outside : k.e ≤ skip_column (at c (q ++ k.s)) → Skipped k c q

pub skipped : (k : Two) (c : ℕ) (q : List ℕ) → c + length q ≡ k.e → Skipped k c q
skipped k c [] h = let more = skip_more (at c k.s) in outside (omega (arith, h, more))
skipped k c (b ∷ q) h = by_first (is_blank b) refl (skipped k (c + 1) q (omega (arith, h)))
  where
    moved : is_blank b ≡ true → Skipped k (c + 1) q → Skipped k c (b ∷ q)
    moved e (inside d x p l f g) = inside d x p l (skip_next c b (q ++ k.s) e ∙ f) (skip_next c b (q ++ k.t) e ∙ g)
    moved e (outside l) = outside (subst (λ (r : Rest). k.e ≤ r.column) (sym (skip_next c b (q ++ k.s) e)) l)

    by_first : (x : Bool) → is_blank b ≡ x → Skipped k (c + 1) q → Skipped k c (b ∷ q)
    by_first true e more = moved e more
    by_first false e more = inside c b q h (skip_stay c b (q ++ k.s) e) (skip_stay c b (q ++ k.t) e)

-- a reader that reads two lines alike from one place on, which isn't the front's end
pub record Steady {T : Type 0} (col : Rest → ℕ) (f : Rest → Result (Read T) LineFault) : Type 1 where
  pub alike : (k : Two) (d b : ℕ) (q : List ℕ) → d + length (b ∷ q) ≡ k.e
      → Reads col k (f (at d (b ∷ q ++ k.s))) (f (at d (b ∷ q ++ k.t)))
  pub late : (r : Rest) → Late col r.column (f r)

pub behind_skip : {T : Type 0} (col : Rest → ℕ) (f : Rest → Result (Read T) LineFault) → Steady col f → (k : Two)
    (c : ℕ) (q : List ℕ) → c + length q ≡ k.e
    → Reads col k (f (skip_blanks (at c (q ++ k.s)))) (f (skip_blanks (at c (q ++ k.t))))
behind_skip {T = T} col f steady k c q h = by_skip (skipped k c q h)
  where
    by_skip : Skipped k c q → Reads col k (f (skip_blanks (at c (q ++ k.s)))) (f (skip_blanks (at c (q ++ k.t))))
    by_skip (inside d b p l e g) =
        subst (λ (r : Rest). Reads col k (f r) (f (skip_blanks (at c (q ++ k.t))))) (sym e)
        (subst (λ (r : Rest). Reads col k (f (at d (b ∷ p ++ k.s))) (f r)) (sym g) (steady.alike k d b p l))
    by_skip (outside l) = late_read (late_less col (skip_column (at c (q ++ k.s))) k.e
        (f (skip_blanks (at c (q ++ k.s)))) l (steady.late (skip_blanks (at c (q ++ k.s)))))

-- at once
pub from_here : {T : Type 0} (f : Rest → Result (Read T) LineFault) → Steady own_column f → (k : Two) (c : ℕ)
    (q : List ℕ) → c + length q ≡ k.e → Reads own_column k (f (at c (q ++ k.s))) (f (at c (q ++ k.t)))
from_here f steady k c [] h = late_read (late_less own_column c k.e (f (at c k.s)) (omega (arith, h))
    (steady.late (at c k.s)))
from_here f steady k c (b ∷ q) h = steady.alike k c b q h

-- combinations, each next part behind blanks

pub steady_bind : {S T : Type 0} (f : Rest → Result (Read S) LineFault) → Steady skip_column f
    → (g : S → Operands → Rest → Result (Read T) LineFault) → ((v : S) (o : Operands) → Steady skip_column (g v o))
    → Steady skip_column (λ r. f r >>= (λ x. g x.value x.seen (skip_blanks x.rest)))
steady_bind f h g next = record {
  alike = λ k d b q l. reads_bind skip_column skip_column k _ _ (λ x. g x.value x.seen (skip_blanks x.rest))
      (h.alike k d b q l) (λ v c p o i. behind_skip skip_column (g v o) (next v o) k c p i)
      (λ x i. late_less skip_column (skip_column x.rest) k.e _ i ((next x.value x.seen).late (skip_blanks x.rest)));
  late = λ r. late_bind skip_column skip_column r.column _ (λ x. g x.value x.seen (skip_blanks x.rest)) (h.late r)
      (λ x i. late_less skip_column (skip_column x.rest) r.column _ i
      ((next x.value x.seen).late (skip_blanks x.rest)));
}

-- a value made of another
pub steady_map : {S T : Type 0} (col : Rest → ℕ) (make : S → T) (f : Rest → Result (Read S) LineFault) → Steady col f
    → Steady col (λ r. f r >>= (λ x. Ok (record { value = make x.value; rest = x.rest; seen = x.seen })))
steady_map col make f h = record {
  alike = λ k d b q l. reads_bind col col k _ _ _ (h.alike k d b q l)
      (λ v c p o i. both_read (make v) c p o i refl refl) (λ x i. i);
  late = λ r. late_bind col col r.column _ _ (h.late r) (λ x i. i);
}

-- marks

pub mark_alike : (col : Rest → ℕ) (k : Two) (byte d b : ℕ) (q : List ℕ) → d + length (b ∷ q) ≡ k.e
    → Rests col k (mark byte (at d (b ∷ q ++ k.s))) (mark byte (at d (b ∷ q ++ k.t)))
unfolding mark
mark_alike col k byte d b q l = by_test (b == byte)
  where
    by_test : (x : Bool) → Rests col k (cond x (Ok (behind 1 (at d (b ∷ q ++ k.s)))) (wrong (at d (b ∷ q ++ k.s))))
        (cond x (Ok (behind 1 (at d (b ∷ q ++ k.t)))) (wrong (at d (b ∷ q ++ k.t))))
    by_test true = both_rests (d + 1) q (omega (arith, l)) refl refl
    by_test false = same_rest (fault d kind.Word) refl refl

pub mark_late : (byte : ℕ) (r : Rest) → LateRest skip_column r.column (mark byte r)
unfolding mark
mark_late byte r = by_test (begins byte r.bytes)
  where
    by_test : (x : Bool) → LateRest skip_column r.column (cond x (Ok (behind 1 r)) (wrong r))
    by_test true = let more = skip_more (behind 1 r) in omega (arith, more)
    by_test false = λ w. omega arith

pub steady_mark : {T : Type 0} (byte : ℕ) (g : Rest → Result (Read T) LineFault) → Steady skip_column g
    → Steady skip_column (λ r. mark byte r >>= (λ m. g (skip_blanks m)))
steady_mark byte g h = record {
  alike = λ k d b q l. rests_bind skip_column skip_column k _ _ (λ m. g (skip_blanks m))
      (mark_alike skip_column k byte d b q l) (λ c p i. behind_skip skip_column g h k c p i)
      (λ x i. late_less skip_column (skip_column x) k.e _ i (h.late (skip_blanks x)));
  late = λ r. late_rest_bind skip_column skip_column r.column _ (λ m. g (skip_blanks m)) (mark_late byte r)
      (λ x i. late_less skip_column (skip_column x) r.column _ i (h.late (skip_blanks x)));
}

pub steady_close : {T : Type 0} (byte : ℕ) (value : T) (o : Operands)
    → Steady skip_column (λ r. mark byte r >>= (λ m. Ok (record { value = value; rest = m; seen = o })))
steady_close byte value o = record {
  alike = λ k d b q l. rests_bind skip_column skip_column k _ _ _ (mark_alike skip_column k byte d b q l)
      (λ c p i. both_read value c p o i refl refl) (λ x i. i);
  late = λ r. late_rest_bind skip_column skip_column r.column _ _ (mark_late byte r) (λ x i. i);
}

-- how many bytes pass

pub prefix_in : (p : ℕ → Bool) (q z : List ℕ) → prefix_len p z ≡ 0 → prefix_len p (q ++ z) ≡ prefix_len p q
prefix_in p [] z e = e
prefix_in p (b ∷ q) z e = ap (λ (n : ℕ). cond (p b) (1 + n) 0) (prefix_in p q z e)

pub ends_pass : (p : ℕ → Bool) → ((b : ℕ) → is_blank b ≡ true → p b ≡ false) → (z : List ℕ) → ends_here z ≡ true
    → prefix_len p z ≡ 0
ends_pass p fails [] e = refl
ends_pass p fails (b ∷ bs) e = let none = fails b e in rw none refl

no_name : (b : ℕ) → is_blank b ≡ true → is_name_byte b ≡ false
no_name b e = grind (arith, nat_tests)

no_digit : (b : ℕ) → is_blank b ≡ true → is_digit b ≡ false
no_digit b e = grind (arith, nat_tests)

pub name_in : (q z : List ℕ) → ends_here z ≡ true → prefix_len is_name_byte (q ++ z) ≡ prefix_len is_name_byte q
name_in q z e = prefix_in is_name_byte q z (ends_pass is_name_byte no_name z e)

-- numbers

length_in : (b : ℕ) (q z : List ℕ) → ends_here z ≡ true → parts.number_length (b ∷ q ++ z)
    ≡ parts.number_length (b ∷ q)
length_in b q z e =
    let none = ends_pass is_digit no_digit z e in
    by_test (b == 45) (prefix_in is_digit q z none) (prefix_in is_digit (b ∷ q) z none)
  where
    by_test : (x : Bool) → prefix_len is_digit (q ++ z) ≡ prefix_len is_digit q → prefix_len is_digit (b ∷ q ++ z)
        ≡ prefix_len is_digit (b ∷ q)
        → cond x (1 + prefix_len is_digit (q ++ z)) (prefix_len is_digit (b ∷ q ++ z))
        ≡ cond x (1 + prefix_len is_digit q) (prefix_len is_digit (b ∷ q))
    by_test true f g = ap (λ (n : ℕ). 1 + n) f
    by_test false f g = g

length_within : (b : ℕ) (q : List ℕ) → parts.number_length (b ∷ q) ≤ length (b ∷ q)
length_within b q = by_test (b == 45) (prefix_len-le-length is_digit q) (prefix_len-le-length is_digit (b ∷ q))
  where
    by_test : (x : Bool) → prefix_len is_digit q ≤ length q → prefix_len is_digit (b ∷ q) ≤ length (b ∷ q)
        → cond x (1 + prefix_len is_digit q) (prefix_len is_digit (b ∷ q)) ≤ length (b ∷ q)
    by_test true f g = omega (arith, f)
    by_test false f g = g

number_is : (d b : ℕ) (q z : List ℕ) (seen : Operands) → ends_here z ≡ true
    → parts.number (at d (b ∷ q ++ z)) seen
    ≡ (signed_number_in (record { column = d; bytes = take (parts.number_length (b ∷ q)) (b ∷ q) })
    >>= (λ n. Ok (read_at n (d + parts.number_length (b ∷ q)) (drop (parts.number_length (b ∷ q)) (b ∷ q) ++ z) seen)))
unfolding parts.number parts.number_at
number_is d b q z seen e =
    let within = length_within b q in
    let long = length_in b q z e in
    let taken = take-append-le (parts.number_length (b ∷ q)) (b ∷ q) z within in
    let left = drop-append-le (parts.number_length (b ∷ q)) (b ∷ q) z within in
    rw (long, taken, left) refl

number_alike : (col : Rest → ℕ) (k : Two) (seen : Operands) (d b : ℕ) (q : List ℕ) → d + length (b ∷ q) ≡ k.e
    → Reads col k (parts.number (at d (b ∷ q ++ k.s)) seen) (parts.number (at d (b ∷ q ++ k.t)) seen)
number_alike col k seen d b q l =
    by_result (signed_number_in (record { column = d; bytes = take (parts.number_length (b ∷ q)) (b ∷ q) }))
    (number_is d b q k.s seen k.ends_s) (number_is d b q k.t seen k.ends_t)
  where
    room : d + parts.number_length (b ∷ q) + length (drop (parts.number_length (b ∷ q)) (b ∷ q)) ≡ k.e
    room = omega (arith, l, length-drop (parts.number_length (b ∷ q)) (b ∷ q), length_within b q)

    by_result : (x : Result ℤ LineFault) → parts.number (at d (b ∷ q ++ k.s)) seen
        ≡ (x >>= (λ n. Ok (read_at n (d + parts.number_length (b ∷ q))
        (drop (parts.number_length (b ∷ q)) (b ∷ q) ++ k.s) seen)))
        → parts.number (at d (b ∷ q ++ k.t)) seen
        ≡ (x >>= (λ n. Ok (read_at n (d + parts.number_length (b ∷ q))
        (drop (parts.number_length (b ∷ q)) (b ∷ q) ++ k.t) seen)))
        → Reads col k (parts.number (at d (b ∷ q ++ k.s)) seen) (parts.number (at d (b ∷ q ++ k.t)) seen)
    by_result (Ok n) f g = both_read n (d + parts.number_length (b ∷ q))
        (drop (parts.number_length (b ∷ q)) (b ∷ q)) seen room f g
    by_result (Err x) f g = same_fault x f g

bounded_late : (low high : ℤ) (column : ℕ) (n : Option ℤ) → LateAny column (bounded low high column n)
bounded_late low high column None = λ w. omega arith
bounded_late low high column (Some n) = by_test (int_le low n && int_le n high)
  where
    by_test : (x : Bool) → LateAny column (cond x (Ok n) (Err (fault column kind.Number)))
    by_test true = tt
    by_test false = λ w. omega arith

number_with_late : (r : Rest) (n : ℕ) (bs : List ℕ) → LateAny r.column (parts.number_with r n bs)
unfolding signed_number_in number_in
number_with_late r n [] = λ w. omega arith
number_with_late r n (b ∷ bs) = bounded_late (negsuc 2147483647) (pos 2147483647) r.column
    (number_of (take n (b ∷ bs)))

number_late : (r : Rest) (seen : Operands) → Late skip_column r.column (parts.number r seen)
unfolding parts.number parts.number_at
number_late r seen = late_any_bind skip_column r.column _ _
    (number_with_late r (parts.number_length r.bytes) r.bytes)
    (λ n. let more = skip_more (behind (parts.number_length r.bytes) r) in omega (arith, more))

pub steady_number : (seen : Operands) → Steady skip_column (λ r. parts.number r seen)
steady_number seen = record {
  alike = λ k d b q l. number_alike skip_column k seen d b q l;
  late = λ r. number_late r seen;
}

-- operands

digit_none : (byte b : ℕ) (z : List ℕ) → ends_here z ≡ true → parts.digit_behind byte (b ∷ z) ≡ None
digit_none byte b [] e = refl
digit_none byte b (x ∷ xs) e = let none = no_digit x e in rw none (either (b == byte))
  where
    either : (y : Bool) → ◌≡◌ {A = Option ℕ} (cond y None None) None
    either true = refl
    either false = refl

operand_none : (o : OperandKind) (d b : ℕ) (z : List ℕ) (seen : Operands) → ends_here z ≡ true
    → parts.operand o (at d (b ∷ z)) seen ≡ Err (fault d kind.Word)
unfolding parts.operand
operand_none o d b z seen e = let none = digit_none (parts.mark_of o) b z e in rw none refl

operand_found : (col : Rest → ℕ) (k : Two) (o : OperandKind) (d b x : ℕ) (q : List ℕ) (seen : Operands)
    (found : Option ℕ) → d + length (b ∷ x ∷ q) ≡ k.e
    → Reads col k (parts.operand_with o (at d (b ∷ x ∷ q ++ k.s)) seen found)
    (parts.operand_with o (at d (b ∷ x ∷ q ++ k.t)) seen found)
operand_found col k o d b x q seen None l = same_fault (fault d kind.Word) refl refl
operand_found col k o d b x q seen (Some j) l = by_test (may_be o (kind_of seen j))
  where
    by_test : (y : Bool) → Reads col k
        (cond y (Ok (record { value = j; rest = behind 2 (at d (b ∷ x ∷ q ++ k.s)); seen = with_operand seen o j }))
        (Err (fault d kind.ListForm)))
        (cond y (Ok (record { value = j; rest = behind 2 (at d (b ∷ x ∷ q ++ k.t)); seen = with_operand seen o j }))
        (Err (fault d kind.ListForm)))
    by_test true = both_read j (d + 2) q (with_operand seen o j) (omega (arith, l)) refl refl
    by_test false = same_fault (fault d kind.ListForm) refl refl

operand_alike : (col : Rest → ℕ) (k : Two) (o : OperandKind) (seen : Operands) (d b : ℕ) (q : List ℕ)
    → d + length (b ∷ q) ≡ k.e
    → Reads col k (parts.operand o (at d (b ∷ q ++ k.s)) seen) (parts.operand o (at d (b ∷ q ++ k.t)) seen)
unfolding parts.operand
operand_alike col k o seen d b [] l = same_fault (fault d kind.Word) (operand_none o d b k.s seen k.ends_s)
    (operand_none o d b k.t seen k.ends_t)
operand_alike col k o seen d b (x ∷ q) l = operand_found col k o d b x q seen _ l

operand_late : (o : OperandKind) (r : Rest) (seen : Operands) → Late skip_column r.column (parts.operand o r seen)
unfolding parts.operand
operand_late o r seen = by_found (parts.digit_behind (parts.mark_of o) r.bytes)
  where
    by_test : (j : ℕ) (y : Bool) → Late skip_column r.column
        (cond y (Ok (record { value = j; rest = behind 2 r; seen = with_operand seen o j }))
        (Err (fault r.column kind.ListForm)))
    by_test j true = let more = skip_more (behind 2 r) in omega (arith, more)
    by_test j false = λ w. omega arith

    by_found : (found : Option ℕ) → Late skip_column r.column (parts.operand_with o r seen found)
    by_found None = λ w. omega arith
    by_found (Some j) = by_test j (may_be o (kind_of seen j))

pub steady_operand : (o : OperandKind) (seen : Operands) → Steady skip_column (λ r. parts.operand o r seen)
steady_operand o seen = record {
  alike = λ k d b q l. operand_alike skip_column k o seen d b q l;
  late = λ r. operand_late o r seen;
}

-- names

pub name_same : (d b : ℕ) (q z : List ℕ) → ends_here z ≡ true → parts.name_here (at d (b ∷ q ++ z))
    ≡ take (prefix_len is_name_byte (b ∷ q)) (b ∷ q)
name_same d b q z e =
    let long = name_in (b ∷ q) z e in
    rw long (take-append-le (prefix_len is_name_byte (b ∷ q)) (b ∷ q) z (prefix_len-le-length is_name_byte (b ∷ q)))

pub name_left : (d b : ℕ) (q z : List ℕ) → ends_here z ≡ true
    → behind (prefix_len is_name_byte (b ∷ q ++ z)) (at d (b ∷ q ++ z))
    ≡ at (d + prefix_len is_name_byte (b ∷ q)) (drop (prefix_len is_name_byte (b ∷ q)) (b ∷ q) ++ z)
name_left d b q z e =
    let long = name_in (b ∷ q) z e in
    let left = drop-append-le (prefix_len is_name_byte (b ∷ q)) (b ∷ q) z
    (prefix_len-le-length is_name_byte (b ∷ q)) in
    rw (long, left) refl

pub name_room : (k : Two) (d b : ℕ) (q : List ℕ) → d + length (b ∷ q) ≡ k.e → d + prefix_len is_name_byte (b ∷ q)
    + length (drop (prefix_len is_name_byte (b ∷ q)) (b ∷ q)) ≡ k.e
name_room k d b q l = omega (
  arith,
  l,
  length-drop (prefix_len is_name_byte (b ∷ q)) (b ∷ q),
  prefix_len-le-length is_name_byte (b ∷ q),
)

abbrev fixed_as : ℕ → ℕ → List ℕ → Operands → Option Reg → Result (Read PatReg) LineFault
fixed_as d n bytes seen None = Err (fault d kind.Word)
fixed_as d n bytes seen (Some g) = Ok (read_at (Fixed g) (d + n) bytes seen)

fixed_is : (d b : ℕ) (q z : List ℕ) (seen : Operands) (found : Option Reg) → ends_here z ≡ true
    → parts.fixed_with (at d (b ∷ q ++ z)) seen found ≡ fixed_as d (prefix_len is_name_byte (b ∷ q))
    (drop (prefix_len is_name_byte (b ∷ q)) (b ∷ q) ++ z) seen found
fixed_is d b q z seen None e = refl
fixed_is d b q z seen (Some g) e = ap (λ (r : Rest). Ok (record { value = Fixed g; rest = r; seen = seen }))
    (name_left d b q z e)

fixed_found : (col : Rest → ℕ) (k : Two) (seen : Operands) (d b : ℕ) (q : List ℕ) (found : Option Reg)
    → d + length (b ∷ q) ≡ k.e → (m n : Result (Read PatReg) LineFault)
    → m ≡ fixed_as d (prefix_len is_name_byte (b ∷ q)) (drop (prefix_len is_name_byte (b ∷ q)) (b ∷ q) ++ k.s) seen
    found
    → n ≡ fixed_as d (prefix_len is_name_byte (b ∷ q)) (drop (prefix_len is_name_byte (b ∷ q)) (b ∷ q) ++ k.t) seen
    found → Reads col k m n
fixed_found col k seen d b q None l m n f g = same_fault (fault d kind.Word) f g
fixed_found col k seen d b q (Some x) l m n f g = both_read (Fixed x) (d + prefix_len is_name_byte (b ∷ q))
    (drop (prefix_len is_name_byte (b ∷ q)) (b ∷ q)) seen (name_room k d b q l) f g

fixed_alike : (col : Rest → ℕ) (k : Two) (seen : Operands) (d b : ℕ) (q : List ℕ) → d + length (b ∷ q) ≡ k.e
    → Reads col k (parts.fixed_register (at d (b ∷ q ++ k.s)) seen)
    (parts.fixed_register (at d (b ∷ q ++ k.t)) seen)
unfolding parts.fixed_register
fixed_alike col k seen d b q l =
    let found = parts.fixed_of (take (prefix_len is_name_byte (b ∷ q)) (b ∷ q)) in
    fixed_found col k seen d b q found l _ _
    (ap (λ (w : List ℕ). parts.fixed_with (at d (b ∷ q ++ k.s)) seen (parts.fixed_of w))
    (name_same d b q k.s k.ends_s) ∙ fixed_is d b q k.s seen found k.ends_s)
    (ap (λ (w : List ℕ). parts.fixed_with (at d (b ∷ q ++ k.t)) seen (parts.fixed_of w))
    (name_same d b q k.t k.ends_t) ∙ fixed_is d b q k.t seen found k.ends_t)

fixed_late : (r : Rest) (seen : Operands) → Late skip_column r.column (parts.fixed_register r seen)
unfolding parts.fixed_register
fixed_late r seen = by_found (parts.fixed_of (parts.name_here r))
  where
    by_found : (found : Option Reg) → Late skip_column r.column (parts.fixed_with r seen found)
    by_found None = λ w. omega arith
    by_found (Some g) = let more = skip_more (behind (prefix_len is_name_byte r.bytes) r) in omega (arith, more)

pub steady_fixed : (seen : Operands) → Steady skip_column (λ r. parts.fixed_register r seen)
steady_fixed seen = record {
  alike = λ k d b q l. fixed_alike skip_column k seen d b q l;
  late = λ r. fixed_late r seen;
}

-- leaves

pub steady_any : (seen : Operands) → Steady skip_column (λ r. parts.any_register r seen)
unfolding parts.any_register
steady_any seen = steady_map skip_column (λ (j : ℕ). Any j) (λ r. parts.operand Register r seen)
    (steady_operand Register seen)

pub steady_symbol : (seen : Operands) → Steady skip_column (λ r. parts.symbol_address r seen)
unfolding parts.symbol_address
steady_symbol seen = steady_map skip_column (λ (j : ℕ). pat.Addr j) (λ r. parts.operand Symbol r seen)
    (steady_operand Symbol seen)

pub steady_numeral : (seen : Operands) → Steady skip_column (λ r. parts.numeral r seen)
unfolding parts.numeral
steady_numeral seen = steady_map skip_column (λ (n : ℤ). pat.Num (word_of n)) (λ r. parts.number r seen)
    (steady_number seen)

pub steady_cond : {T : Type 0} (col : Rest → ℕ) (x : Bool) (f g : Rest → Result (Read T) LineFault) → Steady col f
    → Steady col g → Steady col (λ r. cond x (f r) (g r))
steady_cond col true f g h i = h
steady_cond col false f g h i = i

pub steady_register : (seen : Operands) → Steady skip_column (λ r. parts.register r seen)
unfolding parts.register
steady_register seen = record {
  alike = λ k d b q l. (steady_cond skip_column (b == 37) (λ r. parts.any_register r seen)
      (λ r. parts.fixed_register r seen) (steady_any seen) (steady_fixed seen)).alike k d b q l;
  late = λ r. late_cond skip_column r.column (begins 37 r.bytes) _ _ (λ e. (steady_any seen).late r)
      (λ e. (steady_fixed seen).late r);
}

-- ranges

abbrev after_high : ℕ → ℤ → Operands → ℤ → Rest → Result (Read (Option Bounds)) LineFault
after_high column low seen high r = parts.in_order column low high >>= (λ ordered. mark 93 r >>= (λ close.
    Ok (record { value = Some (record { lo = low; hi = high }); rest = close; seen = seen })))

abbrev after_comma : ℕ → ℤ → Operands → Rest → Result (Read (Option Bounds)) LineFault
after_comma column low seen r = parts.number r seen >>= (λ high. after_high column low seen high.value
    (skip_blanks high.rest))

abbrev after_low : ℕ → Operands → ℤ → Rest → Result (Read (Option Bounds)) LineFault
after_low column seen low r = mark 44 r >>= (λ comma. after_comma column low seen (skip_blanks comma))

abbrev after_open : ℕ → Operands → Rest → Result (Read (Option Bounds)) LineFault
after_open column seen r = parts.number r seen >>= (λ low. after_low column seen low.value (skip_blanks low.rest))

abbrev range_at : ℕ → Operands → Rest → Result (Read (Option Bounds)) LineFault
range_at column seen r = mark 91 r >>= (λ opened. after_open column seen (skip_blanks opened))

abbrev ordered_by : Bool → ℕ → Result ⊤ LineFault
ordered_by x column = cond x (Ok tt) (Err (fault column kind.Range))

steady_high : (column : ℕ) (low high : ℤ) (seen : Operands) → Steady skip_column (after_high column low seen high)
steady_high column low high seen = by_test (int_le low high)
  where
    by_test : (x : Bool) → Steady {T = Option Bounds} skip_column (λ r. ordered_by x column >>= (λ ordered.
        mark 93 r >>= (λ close.
        Ok (record { value = Some (record { lo = low; hi = high }); rest = close; seen = seen }))))
    by_test true = steady_close 93 (Some (record { lo = low; hi = high })) seen
    by_test false = record {
      alike = λ k d b q l. same_fault (fault column kind.Range) refl refl;
      late = λ r. λ w. absurd (cc (w));
    }

steady_range : (column : ℕ) (seen : Operands) → Steady skip_column (range_at column seen)
steady_range column seen = steady_mark 91 (after_open column seen)
    (steady_bind (λ r. parts.number r seen) (steady_number seen) (λ low o. after_low column seen low)
    (λ low o. steady_mark 44 (after_comma column low seen)
    (steady_bind (λ r. parts.number r seen) (steady_number seen) (λ high p. after_high column low seen high)
    (λ high p. steady_high column low high seen))))

abbrev ranged : ℕ → Bool → Rest → Operands → Rest → Result (Read (Option Bounds)) LineFault
ranged column new r seen u = cond (begins 91 u.bytes) (cond new (range_at u.column seen u)
    (Err (fault column kind.ListForm))) (Ok (record { value = None; rest = r; seen = seen }))

ranged_late : (column : ℕ) (new : Bool) (e : ℕ) (r : Rest) (seen : Operands) → e ≤ skip_column r
    → Late skip_column e (ranged column new r seen (skip_blanks r))
ranged_late column new e r seen l = late_cond skip_column e (begins 91 (skip_blanks r).bytes) _ _
    (λ h. late_cond skip_column e new _ _ (λ g. late_less skip_column (skip_column r) e _ l
    ((steady_range (skip_blanks r).column seen).late (skip_blanks r))) (λ g. λ w. absurd (cc (w)))) (λ h. l)

ranged_alike : (column : ℕ) (new : Bool) (k : Two) (c : ℕ) (q : List ℕ) (seen : Operands) → c + length q ≡ k.e
    → Reads skip_column k (ranged column new (at c (q ++ k.s)) seen (skip_blanks (at c (q ++ k.s))))
    (ranged column new (at c (q ++ k.t)) seen (skip_blanks (at c (q ++ k.t))))
ranged_alike column new k c q seen h = by_skip (skipped k c q h)
  where
    by_new : (y : Bool) (d b : ℕ) (p : List ℕ) → d + length (b ∷ p) ≡ k.e
        → Reads skip_column k (cond y (range_at d seen (at d (b ∷ p ++ k.s))) (Err (fault column kind.ListForm)))
        (cond y (range_at d seen (at d (b ∷ p ++ k.t))) (Err (fault column kind.ListForm)))
    by_new true d b p l = (steady_range d seen).alike k d b p l
    by_new false d b p l = same_fault (fault column kind.ListForm) refl refl

    here : (d b : ℕ) (p : List ℕ) → d + length (b ∷ p) ≡ k.e
        → Reads skip_column k (ranged column new (at c (q ++ k.s)) seen (at d (b ∷ p ++ k.s)))
        (ranged column new (at c (q ++ k.t)) seen (at d (b ∷ p ++ k.t)))
    here d b p l = reads_cond skip_column k (b == 91) (b == 91) _ _ _ _ refl (by_new new d b p l)
        (both_read None c q seen h refl refl)

    by_skip : Skipped k c q → Reads skip_column k
        (ranged column new (at c (q ++ k.s)) seen (skip_blanks (at c (q ++ k.s))))
        (ranged column new (at c (q ++ k.t)) seen (skip_blanks (at c (q ++ k.t))))
    by_skip (inside d b p l e g) =
        subst (λ (u : Rest). Reads skip_column k (ranged column new (at c (q ++ k.s)) seen u)
        (ranged column new (at c (q ++ k.t)) seen (skip_blanks (at c (q ++ k.t))))) (sym e)
        (subst (λ (u : Rest). Reads skip_column k (ranged column new (at c (q ++ k.s)) seen (at d (b ∷ p ++ k.s)))
        (ranged column new (at c (q ++ k.t)) seen u)) (sym g) (here d b p l))
    by_skip (outside l) = late_read (ranged_late column new k.e (at c (q ++ k.s)) seen l)

abbrev constant_at : ℕ → Operands → Rest → Result (Read PatTerm) LineFault
constant_at column seen r = parts.operand Constant r seen >>= (λ j.
    parts.range_behind column (is_new (kind_of seen j.value)) j.rest j.seen >>= (λ range.
    Ok (record { value = pat.Const j.value range.value; rest = range.rest; seen = range.seen })))

behind_late : (column : ℕ) (new : Bool) (e : ℕ) (r : Rest) (seen : Operands) → e ≤ skip_column r
    → Late skip_column e (parts.range_behind column new r seen)
unfolding parts.range_behind parts.range
behind_late column new e r seen l = ranged_late column new e r seen l

behind_alike : (column : ℕ) (new : Bool) (k : Two) (c : ℕ) (q : List ℕ) (seen : Operands) → c + length q ≡ k.e
    → Reads skip_column k (parts.range_behind column new (at c (q ++ k.s)) seen)
    (parts.range_behind column new (at c (q ++ k.t)) seen)
unfolding parts.range_behind parts.range
behind_alike column new k c q seen h = ranged_alike column new k c q seen h

steady_constant_at : (column : ℕ) (seen : Operands) → Steady skip_column (constant_at column seen)
steady_constant_at column seen = record {
  alike = λ k d b q l. reads_bind skip_column skip_column k _ _ _ ((steady_operand Constant seen).alike k d b q l)
      (λ j c p o i. reads_bind skip_column skip_column k _ _ _
      (behind_alike column (is_new (kind_of seen j)) k c p o i) (λ v a w u z. both_read (pat.Const j v) a w u z refl
      refl) (λ x z. z))
      (λ x i. late_bind skip_column skip_column k.e _ _
      (behind_late column (is_new (kind_of seen x.value)) k.e x.rest x.seen i) (λ y z. z));
  late = λ r. late_bind skip_column skip_column r.column _ _ ((steady_operand Constant seen).late r)
      (λ x i. late_bind skip_column skip_column r.column _ _
      (behind_late column (is_new (kind_of seen x.value)) r.column x.rest x.seen i) (λ y z. z));
}

pub steady_constant : (seen : Operands) → Steady skip_column (λ r. parts.constant r seen)
unfolding parts.constant
steady_constant seen = record {
  alike = λ k d b q l. (steady_constant_at d seen).alike k d b q l;
  late = λ r. (steady_constant_at r.column seen).late r;
}
