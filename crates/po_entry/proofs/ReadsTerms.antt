-- A term that stands as its form says is read.
use Rattle.std.proofs.Common.{◌≡◌, ℕ, ◌+◌, ◌-◌, ◌<◌, ◌≤◌, ◌^◌, ◌==◌, ◌⊎◌, inl, inr, true, false, List, []}
use Rattle.std.proofs.Common.{◌∷◌, ◌++◌, length, take, drop, codes, refl, sym, ap, ◌∙◌, subst, arith, Option}
use Rattle.std.proofs.Common.{Some, None, Result, Ok}
use Rattle.std.specs.Prelude.{nat_eq}
use Rattle.std.specs.List.{list_all, prefix_len}
use Rattle.std.specs.Fmt.{decimal}
use Rattle.std.proofs.lemmas.List.{length-append}
use Rattle.std.proofs.lemmas.Bool.Decides.{nat_tests}
use Rattle.std.proofs.lemmas.Bool.{and_parts}
use Rattle.std.proofs.Math.Seq.{take-append_seam, drop-append_seam}
use Rattle.po_word.specs.declared.operator.Un.{Un}
use Rattle.po_word.specs.declared.operator.Un.TheVariants.{Neg, Not}
use Rattle.po_word.specs.declared.operator.Bin.{Bin}
use Rattle.po_word.specs.declared.operator.Bin.TheVariants.{Add, Sub, Mul, And, Or, Xor, Shl, Sar, Shr}
use Rattle.po_word.specs.Words.{signed}
use Rattle.po_text.specs.Words.{is_blank}
use Rattle.po_name.specs.Names.{is_digit, is_name_byte}
use Rattle.po_lines.specs.declared.fault.LineFault.{LineFault}
use Rattle.po_lines.specs.Leaves.{same}
use Rattle.po_term.specs.declared.term.Reg.TheVariants.{Virt, Fp, Rv, Arg}
use Rattle.po_term.specs.Tree as tree
use Rattle.po_term.specs.Tree.{Const, Leaf, Unary, Binary, EachConst, EachLeaf, tree_size, tree_depth}
use Rattle.po_termtext.specs.TermText.{un_text, bin_text}
use Rattle.po_model.specs.declared.machine.Bounds.{Bounds}
use Rattle.po_model.specs.declared.machine.PatReg.TheVariants.{Any, Fixed}
use Rattle.po_model.specs.declared.machine.PatTerm.{PatTerm}
use Rattle.po_model.specs.declared.machine.PatTerm.TheVariants as pat
use Rattle.po_model.specs.Patterns.{PatTree, PatConst, Exactly, Operand, PatLeaf, InPatReg, AtSymbol}
use Rattle.po_model.specs.Entries.{IsPatConst, IsPatLeaf, IsPatTree, const_places, leaf_places, tree_places}
use Rattle.po_pattern.specs.declared.operands.Operands.{Operands}
use Rattle.po_pattern.specs.declared.part.Part.{Part}
use Rattle.po_pattern.specs.declared.part.Frame.{Frame}
use Rattle.po_pattern.specs.declared.part.Frame.TheVariants as frame
use Rattle.po_pattern.specs.declared.part.Turn.{Turn}
use Rattle.po_pattern.specs.declared.part.Turn.TheVariants.{Opens, Whole}
use Rattle.po_pattern.specs.Rests.{Read, skip_blanks, begins, mark}
use Rattle.po_pattern.specs.Parts as parts
use Rattle.po_pattern.specs.Terms as terms
use Rattle.po_pattern.specs.Terms.{Reading, wanted, marked_leaf, named, opening, bracket, leaf, step, steps}
use Rattle.po_pattern.specs.Terms.{operator_of}
use Rattle.po_pattern.specs.Terms.{operator_length, behind_whole, memory_part, unary_part, binary_part}
use Rattle.po_pattern.proofs.Steps.{steps_whole}
use Rattle.po_entry.specs.Writing as writing
use Rattle.po_entry.specs.Writing.{text, blanks}
use Rattle.po_entry.proofs.Noted.{noted, Fits, noted_more, fits_front, fits_back}
use Rattle.po_entry.proofs.Backs.{back}
use Rattle.po_entry.proofs.AgainParts.{at, Again, prefix_again, Stops}
use Rattle.po_entry.proofs.AgainTerms.{Reaches, reaches_none, reaches_one, reaches_more, turn_at, part_of, LeafAt}
use Rattle.po_entry.proofs.AgainTerms.{numeral_wanted, leaf_at, memory_again, unary_again, binary_again}
use Rattle.po_entry.proofs.ReadsParts.{blanks_length, text_length, skips, Skips, marks, Clear}
use Rattle.po_entry.proofs.ReadsParts.{clear_stops, clear_mark, number_text, constant_reads, numeral_reads}

-- how a term begins: with no blank, no `>` and no `c`
pub record Front (from : List ℕ) : Type 0 where
  pub first : ℕ
  pub others : List ℕ
  pub is : from ≡ first ∷ others
  pub solid : is_blank first ≡ false
  pub no_shift : (first == 62) ≡ false
  pub no_cc : nat_eq first 99 ≡ false

front_is : (b : ℕ) (others from : List ℕ) → from ≡ b ∷ others → is_blank b ≡ false → (b == 62) ≡ false
    → nat_eq b 99 ≡ false → Front from
front_is b others from e f g h = record {
  first = b;
  others = others;
  is = e;
  solid = f;
  no_shift = g;
  no_cc = h;
}

number_begins : (b : ℕ) → (b ≡ 45) ⊎ (is_digit b ≡ true) → (is_blank b ≡ false) × ((b == 62) ≡ false)
    × (nat_eq b 99 ≡ false)
number_begins b (inl e) = (grind (arith, nat_tests), grind (arith, nat_tests), grind (arith, nat_tests))
number_begins b (inr e) = (grind (arith, nat_tests), grind (arith, nat_tests), grind (arith, nat_tests))

pub term_front : (t : PatTree) (from to : List ℕ) → writing.term t from to → EachLeaf IsPatLeaf t → Front from
term_front (Const (Exactly n)) from to h g =
    let front = (number_text h.0 (signed n) h.1).front in
    let no = number_begins front.first front.begins in
    front_is front.first (front.others ++ to) from (h.2 ∙ ap (λ (w : List ℕ). w ++ to) front.is) no.0 no.1 no.2
term_front (Const (Operand k range)) from to h g = front_is 35 _ from h.1 refl refl refl
term_front (Leaf (InPatReg (Any k))) from to h g = front_is 37 _ from h refl refl refl
term_front (Leaf (InPatReg (Fixed (Virt n)))) from to h g = absurd g
term_front (Leaf (InPatReg (Fixed Fp))) from to h g = front_is 102 _ from h refl refl refl
term_front (Leaf (InPatReg (Fixed Rv))) from to h g = front_is 114 _ from h refl refl refl
term_front (Leaf (InPatReg (Fixed (Arg n)))) from to h g = front_is 97 _ from h refl refl refl
term_front (Leaf (AtSymbol k)) from to h g = front_is 38 _ from h refl refl refl
term_front (tree.Read a) from to h g = front_is 77 _ from h.1 refl refl refl
term_front (Unary Neg a) from to h g = front_is 110 _ from h.1 refl refl refl
term_front (Unary Not a) from to h g = front_is 110 _ from h.1 refl refl refl
term_front (Binary o a b) from to h g = front_is 40 _ from h.1 refl refl refl

pub front_solid : (from : List ℕ) → Front from → prefix_len is_blank from ≡ 0
front_solid from f = ap (prefix_len is_blank) f.is
    ∙ (let no = f.solid in let here : prefix_len is_blank (f.first ∷ f.others) ≡ 0 = rw no refl in here)

-- no `>` stands behind blanks where a term does
front_behind : (a b : List ℕ) → blanks a b → Front b → begins 62 a ≡ false
front_behind a b h f = ap (begins 62) h.2 ∙ by_blanks h.0 h.1
  where
    no_blank : (x : ℕ) → is_blank x ≡ true → (x == 62) ≡ false
    no_blank x e = grind (arith, nat_tests)

    by_blanks : (bs : List ℕ) → list_all is_blank bs ≡ true → begins 62 (bs ++ b) ≡ false
    by_blanks [] all = ap (begins 62) f.is ∙ f.no_shift
    by_blanks (x ∷ xs) all = no_blank x (and_parts (is_blank x) (list_all is_blank xs) all).0

-- a term was read from its beginning on, in fewer steps than it has bytes
pub record TermRead (frames : List Frame) (m : Result (Read Turn) LineFault) (part : Part) (from to : List ℕ)
    (seen : Operands) : Type 0 where
  pub first : Read Turn
  pub opens : m ≡ Ok first
  pub count : ℕ
  pub column : ℕ
  pub reaches : Reaches (record { frames = frames; turn = first }) (turn_at frames (Whole (Some part)) column to seen)
      count
  pub few : count + length to < length from

-- leaves

exactly_reads : (n c : ℕ) (from to : List ℕ) (seen : Operands) → writing.term (Const (Exactly n)) from to
    → n < 2 ^ 32 → Stops to → LeafAt (Const (Exactly n)) (wanted (at c from) seen) to seen
exactly_reads n c from to seen h small stops =
    let got = numeral_reads n c h.0 to seen h.1 small stops in
    let f = (number_text h.0 (signed n) h.1).front in
    record {
      column = got.column;
      is = ap (λ (w : List ℕ). wanted (at c w) seen) h.2
          ∙ subst (λ (w : List ℕ). parts.numeral (at c (w ++ to)) seen
          ≡ Ok (record { value = pat.Num n; rest = at got.column to; seen = seen })
          → wanted (at c (w ++ to)) seen ≡ Ok (leaf (record {
            value = pat.Num n;
            rest = at got.column to;
            seen = seen;
          }))) (sym f.is) (numeral_wanted f.first f.others to c seen _ f.begins) got.is;
    }

constant_first : (c : ℕ) (others : List ℕ) (seen : Operands) (x : Read PatTerm)
    → parts.constant (at c (35 ∷ others)) seen ≡ Ok x → wanted (at c (35 ∷ others)) seen ≡ Ok (leaf x)
unfolding wanted marked_leaf
constant_first c others seen x is = rw is refl

constant_wanted : (c : ℕ) (from others : List ℕ) (seen : Operands) (x : Read PatTerm) → from ≡ 35 ∷ others
    → parts.constant (at c from) seen ≡ Ok x → wanted (at c from) seen ≡ Ok (leaf x)
constant_wanted c from others seen x e is = ap (λ (w : List ℕ). wanted (at c w) seen) e
    ∙ constant_first c others seen x (sym (ap (λ (w : List ℕ). parts.constant (at c w) seen) e) ∙ is)

const_reads : (x : PatConst) (c : ℕ) (from to : List ℕ) (seen : Operands) → writing.term (Const x) from to
    → IsPatConst x → Fits seen (const_places x) → Stops to
    → LeafAt (Const x) (wanted (at c from) seen) to (noted seen (const_places x))
const_reads (Exactly n) c from to seen h g f stops = exactly_reads n c from to seen h g stops
const_reads (Operand k range) c from to seen h g f stops =
    let got = constant_reads k range c from to seen g.0 h g.1 f.0 stops in
    record { column = got.column; is = constant_wanted c from _ seen _ h.1 got.is }

leaf_reads : (l : PatLeaf) (c : ℕ) (from to : List ℕ) (seen : Operands) → writing.term (Leaf l) from to → IsPatLeaf l
    → Fits seen (leaf_places l) → Stops to
    → LeafAt (Leaf l) (wanted (at c from) seen) to (noted seen (leaf_places l))
leaf_reads l c from to seen h g f stops =
    subst (λ (w : List ℕ). LeafAt (Leaf l) (wanted (at c w) seen) to (noted seen (leaf_places l))) (sym h)
    (leaf_at l c to seen g f stops)

leaf_term : (frames : List Frame) (t : PatTree) (m : Result (Read Turn) LineFault) (from to : List ℕ)
    (seen : Operands) → part_of t ≡ record { term = back t; size = 1; depth = 1 } → length to < length from
    → LeafAt t m to seen → TermRead frames m (part_of t) from to seen
leaf_term frames t m from to seen one some l = record {
  first = leaf (record { value = back t; rest = at l.column to; seen = seen });
  opens = l.is;
  count = 0;
  column = l.column;
  reaches =
      subst (λ (p : Part). Reaches (turn_at frames (Whole (Some (record { term = back t; size = 1; depth = 1 })))
      l.column to seen) (turn_at frames (Whole (Some p)) l.column to seen) 0) (sym one)
      (reaches_none (turn_at frames (Whole (Some (record { term = back t; size = 1; depth = 1 }))) l.column to seen));
  few = omega (arith, some);
}

-- one step

opened_step : (frames : List Frame) (f : Frame) (c d : ℕ) (a b : List ℕ) (seen : Operands) (turn : Read Turn)
    → skip_blanks (at c a) ≡ at d b → wanted (at d b) seen ≡ Ok turn
    → step (turn_at frames (Opens f) c a seen) ≡ Ok (record { frames = f ∷ frames; turn = turn })
unfolding step
opened_step frames f c d a b seen turn e w = rw e (rw w refl)

memory_step : (frames : List Frame) (part whole : Part) (c d : ℕ) (a to : List ℕ) (seen : Operands)
    → mark 93 (skip_blanks (at c a)) ≡ Ok (at d to) → memory_part (Some part) ≡ Some whole
    → step (turn_at (frame.Memory ∷ frames) (Whole (Some part)) c a seen)
    ≡ Ok (turn_at frames (Whole (Some whole)) d to seen)
unfolding step behind_whole terms.closed
memory_step frames part whole c d a to seen m e =
    rw m (ap (λ (p : Option Part). Ok (turn_at frames (Whole p) d to seen)) e)

unary_step : (frames : List Frame) (o : Un) (part whole : Part) (c d : ℕ) (a to : List ℕ) (seen : Operands)
    → mark 41 (skip_blanks (at c a)) ≡ Ok (at d to) → unary_part o (Some part) ≡ Some whole
    → step (turn_at (frame.Unary o ∷ frames) (Whole (Some part)) c a seen)
    ≡ Ok (turn_at frames (Whole (Some whole)) d to seen)
unfolding step behind_whole terms.closed
unary_step frames o part whole c d a to seen m e =
    rw m (ap (λ (p : Option Part). Ok (turn_at frames (Whole p) d to seen)) e)

right_step : (frames : List Frame) (o : Bin) (left part whole : Part) (c d : ℕ) (a to : List ℕ) (seen : Operands)
    → mark 41 (skip_blanks (at c a)) ≡ Ok (at d to) → binary_part o (Some left) (Some part) ≡ Some whole
    → step (turn_at (frame.Right o (Some left) ∷ frames) (Whole (Some part)) c a seen)
    ≡ Ok (turn_at frames (Whole (Some whole)) d to seen)
unfolding step behind_whole terms.closed
right_step frames o left part whole c d a to seen m e =
    rw m (ap (λ (p : Option Part). Ok (turn_at frames (Whole p) d to seen)) e)

-- operators

operator_here : (o : Bin) (m : List ℕ) → begins 62 m ≡ false → operator_of (bin_text o ++ m) ≡ Some o
operator_here Add m e = refl
operator_here Sub m e = refl
operator_here Mul m e = refl
operator_here And m e = refl
operator_here Or m e = refl
operator_here Xor m e = refl
operator_here Shl m e = refl
operator_here Sar [] e = refl
operator_here Sar (b ∷ bs) e = let no : nat_eq 62 b ≡ false = grind (arith, nat_tests) in rw no refl
operator_here Shr m e = refl

operator_left : (o : Bin) (m : List ℕ) → drop (operator_length o) (bin_text o ++ m) ≡ m
operator_left Add m = refl
operator_left Sub m = refl
operator_left Mul m = refl
operator_left And m = refl
operator_left Or m = refl
operator_left Xor m = refl
operator_left Shl m = refl
operator_left Sar m = refl
operator_left Shr m = refl

operator_some : (o : Bin) → 0 < length (bin_text o)
operator_some Add = omega arith
operator_some Sub = omega arith
operator_some Mul = omega arith
operator_some And = omega arith
operator_some Or = omega arith
operator_some Xor = omega arith
operator_some Shl = omega arith
operator_some Sar = omega arith
operator_some Shr = omega arith

operator_clear : (o : Bin) (a m : List ℕ) → text (bin_text o) a m → Clear a
operator_clear o a m h = subst (λ (w : List ℕ). Clear w) (sym h) (here o)
  where
    here : (o : Bin) → Clear (bin_text o ++ m)
    here Add = record { solid = refl; name = refl; digit = refl; plain = refl }
    here Sub = record { solid = refl; name = refl; digit = refl; plain = refl }
    here Mul = record { solid = refl; name = refl; digit = refl; plain = refl }
    here And = record { solid = refl; name = refl; digit = refl; plain = refl }
    here Or = record { solid = refl; name = refl; digit = refl; plain = refl }
    here Xor = record { solid = refl; name = refl; digit = refl; plain = refl }
    here Shl = record { solid = refl; name = refl; digit = refl; plain = refl }
    here Sar = record { solid = refl; name = refl; digit = refl; plain = refl }
    here Shr = record { solid = refl; name = refl; digit = refl; plain = refl }

left_step : (frames : List Frame) (o : Bin) (left : Part) (c d : ℕ) (a b m : List ℕ) (seen : Operands)
    → skip_blanks (at c a) ≡ at d b → text (bin_text o) b m → begins 62 m ≡ false
    → step (turn_at (frame.Left ∷ frames) (Whole (Some left)) c a seen)
    ≡ Ok (turn_at frames (Opens (frame.Right o (Some left))) (d + operator_length o) m seen)
unfolding step behind_whole terms.operator
left_step frames o left c d a b m seen e h none =
    let found = operator_here o m none in
    let behind = operator_left o m in
    rw (e, h) (rw found (rw behind refl))

-- how a term begins

named_opens : (w : List ℕ) (f : Frame) (c d : ℕ) (m to : List ℕ) (seen : Operands) → list_all is_name_byte w ≡ true
    → opening w ≡ Some f → prefix_len is_name_byte m ≡ 0
    → mark (bracket f) (skip_blanks (at (c + length w) m)) ≡ Ok (at d to)
    → named (at c (w ++ m)) seen ≡ Ok (record { value = Opens f; rest = at d to; seen = seen })
unfolding named
named_opens w f c d m to seen all start none e =
    let long : prefix_len is_name_byte (w ++ m) ≡ length w = prefix_again is_name_byte w m all none in
    let name : take (length w) (w ++ m) ≡ w = take-append_seam w m in
    let left : drop (length w) (w ++ m) ≡ m = drop-append_seam w m in
    rw (long, name, start) (rw (long, left) (rw e refl))

-- no byte of a name stands where blanks and a bracket do
stops_bracket : (byte : ℕ) (a b to : List ℕ) → blanks a b → text (byte ∷ []) b to → is_blank byte ≡ false
    → is_name_byte byte ≡ false → prefix_len is_name_byte a ≡ 0
stops_bracket byte a b to h g e f = ap (prefix_len is_name_byte) h.2 ∙ by_blanks h.0 h.1
  where
    no_name : (x : ℕ) → is_blank x ≡ true → is_name_byte x ≡ false
    no_name x e = grind (arith, nat_tests)

    by_blanks : (bs : List ℕ) → list_all is_blank bs ≡ true → prefix_len is_name_byte (bs ++ b) ≡ 0
    by_blanks [] all = ap (prefix_len is_name_byte) g
        ∙ (let none : prefix_len is_name_byte (byte ∷ to) ≡ 0 = rw f refl in none)
    by_blanks (x ∷ xs) all = let no = no_name x (and_parts (is_blank x) (list_all is_blank xs) all).0 in rw no refl

pub record OpensAt (f : Frame) (c : ℕ) (from to : List ℕ) (seen : Operands) : Type 0 where
  pub column : ℕ
  pub is : wanted (at c from) seen ≡ Ok (record { value = Opens f; rest = at column to; seen = seen })

memory_named : (c : ℕ) (a : List ℕ) (seen : Operands) → wanted (at c (codes "M" ++ a)) seen
    ≡ named (at c (codes "M" ++ a)) seen
unfolding wanted
memory_named c a seen = refl

memory_opens : (c : ℕ) (from a b to : List ℕ) (seen : Operands) → text (codes "M") from a → blanks a b
    → text (codes "[") b to → OpensAt frame.Memory c from to seen
memory_opens c from a b to seen h i j =
    let close = marks 91 (c + 1) a b to i j refl in
    record {
      column = close.column;
      is = ap (λ (w : List ℕ). wanted (at c w) seen) h ∙ memory_named c a seen
          ∙ named_opens (codes "M") frame.Memory c close.column a to seen refl refl
          (stops_bracket 91 a b to i j refl refl) close.is;
    }

unary_named : (o : Un) (c : ℕ) (a : List ℕ) (seen : Operands) → wanted (at c (un_text o ++ a)) seen
    ≡ named (at c (un_text o ++ a)) seen
unfolding wanted
unary_named Neg c a seen = refl
unary_named Not c a seen = refl

unary_opens : (o : Un) (c : ℕ) (from a b to : List ℕ) (seen : Operands) → text (un_text o) from a → blanks a b
    → text (codes "(") b to → OpensAt (frame.Unary o) c from to seen
unary_opens o c from a b to seen h i j =
    let close = marks 40 (c + length (un_text o)) a b to i j refl in
    record {
      column = close.column;
      is = ap (λ (w : List ℕ). wanted (at c w) seen) h ∙ unary_named o c a seen
          ∙ named_opens (un_text o) (frame.Unary o) c close.column a to seen (all_name o) (opens o)
          (stops_bracket 40 a b to i j refl refl) close.is;
    }
  where
    all_name : (o : Un) → list_all is_name_byte (un_text o) ≡ true
    all_name Neg = refl
    all_name Not = refl

    opens : (o : Un) → opening (un_text o) ≡ Some (frame.Unary o)
    opens Neg = refl
    opens Not = refl

left_first : (c : ℕ) (to : List ℕ) (seen : Operands) → wanted (at c (40 ∷ to)) seen
    ≡ Ok (record { value = Opens frame.Left; rest = at (c + 1) to; seen = seen })
unfolding wanted
left_first c to seen = refl

left_opens : (c : ℕ) (from to : List ℕ) (seen : Operands) → text (codes "(") from to
    → wanted (at c from) seen ≡ Ok (record { value = Opens frame.Left; rest = at (c + 1) to; seen = seen })
left_opens c from to seen h = ap (λ (w : List ℕ). wanted (at c w) seen) h ∙ left_first c to seen

some_size : (t : PatTree) → 0 < tree_size t
some_size (Const x) = omega arith
some_size (Leaf l) = omega arith
some_size (tree.Read a) = omega arith
some_size (Unary o a) = omega arith
some_size (Binary o a b) = omega arith

range_length : (bounds : Option Bounds) (from to : List ℕ) → writing.range bounds from to → length to ≤ length from
range_length None from to h = let same = ap length h in omega (arith, same)
range_length (Some b) from to h =
    let i = h.2 in
    let j = i.2 in
    let k = j.2 in
    let l = k.2 in
    let m = l.2 in
    let n = m.2 in
    let o = n.2 in
    let p = o.2 in
    omega (
      arith,
      blanks_length from h.0 h.1,
      text_length (codes "[") h.0 i.0 i.1,
      blanks_length i.0 j.0 j.1,
      text_length k.1.0 j.0 k.0 k.1.2,
      blanks_length k.0 l.0 l.1,
      text_length (codes ",") l.0 m.0 m.1,
      blanks_length m.0 n.0 n.1,
      text_length o.1.0 n.0 o.0 o.1.2,
      blanks_length o.0 p.0 p.1,
      text_length (codes "]") p.0 to p.2,
    )

-- a part around one part
around : (frames : List Frame) (f : Frame) (part whole : Part) (c : ℕ) (from a b d to : List ℕ) (seen next : Operands)
    → (start : OpensAt f c from a seen) → length a + 1 ≤ length from → (skip : Skips start.column a b)
    → length b ≤ length a → (inner : TermRead (f ∷ frames) (wanted (at skip.column b) seen) part b d next)
    → length to + 1 ≤ length d → (close : ℕ)
    → step (turn_at (f ∷ frames) (Whole (Some part)) inner.column d next) ≡ Ok (turn_at frames (Whole (Some whole))
    close to next) → TermRead frames (wanted (at c from) seen) whole from to next
around frames f part whole c from a b d to seen next start room skip less inner more close closes =
    let few = inner.few in
    let begun : Reading = turn_at frames (Opens f) start.column a seen in
    let inside : Reading = record { frames = f ∷ frames; turn = inner.first } in
    let full : Reading = turn_at (f ∷ frames) (Whole (Some part)) inner.column d next in
    let done : Reading = turn_at frames (Whole (Some whole)) close to next in
    record {
      first = begun.turn;
      opens = start.is;
      count = 1 + inner.count + 1;
      column = close;
      reaches = reaches_more begun full done (1 + inner.count) 1
          (reaches_more begun inside full 1 inner.count
          (reaches_one begun inside (opened_step frames f start.column skip.column a b seen inner.first skip.is
          inner.opens)) inner.reaches)
          (reaches_one full done closes);
      few = omega (arith, few, room, less, more);
    }

-- a part of two parts with an operator
between : (frames : List Frame) (o : Bin) (left part whole : Part) (c : ℕ) (from m1 m2 m3 m4 m5 m6 m7 to : List ℕ)
    (seen middle next : Operands) → text (codes "(") from m1 → (skip1 : Skips (c + 1) m1 m2) → length m2 ≤ length m1
    → (first : TermRead (frame.Left ∷ frames) (wanted (at skip1.column m2) seen) left m2 m3 middle)
    → (skip2 : Skips first.column m3 m4) → length m4 ≤ length m3 → text (bin_text o) m4 m5 → begins 62 m5 ≡ false
    → (skip3 : Skips (skip2.column + operator_length o) m5 m6) → length m6 ≤ length m5
    → (second : TermRead (frame.Right o (Some left) ∷ frames) (wanted (at skip3.column m6) middle) part m6 m7 next)
    → length to + 1 ≤ length m7 → (close : ℕ)
    → step (turn_at (frame.Right o (Some left) ∷ frames) (Whole (Some part)) second.column m7 next)
    ≡ Ok (turn_at frames (Whole (Some whole)) close to next)
    → TermRead frames (wanted (at c from) seen) whole from to next
between frames o left part whole c from m1 m2 m3 m4 m5 m6 m7 to seen middle next opens skip1 less1 first skip2 less2
    sign none skip3 less3 second more close closes =
    let few_a = first.few in
    let few_b = second.few in
    let room = text_length (codes "(") from m1 opens in
    let some = text_length (bin_text o) m4 m5 sign in
    let byte = operator_some o in
    let begun : Reading = turn_at frames (Opens frame.Left) (c + 1) m1 seen in
    let inside : Reading = record { frames = frame.Left ∷ frames; turn = first.first } in
    let full : Reading = turn_at (frame.Left ∷ frames) (Whole (Some left)) first.column m3 middle in
    let again : Reading = turn_at frames (Opens (frame.Right o (Some left))) (skip2.column + operator_length o) m5
    middle in
    let within : Reading = record { frames = frame.Right o (Some left) ∷ frames; turn = second.first } in
    let last : Reading = turn_at (frame.Right o (Some left) ∷ frames) (Whole (Some part)) second.column m7 next in
    let done : Reading = turn_at frames (Whole (Some whole)) close to next in
    let one = reaches_more begun inside full 1 first.count
    (reaches_one begun inside (opened_step frames frame.Left (c + 1) skip1.column m1 m2 seen first.first skip1.is
    first.opens)) first.reaches in
    let two = reaches_more begun full again (1 + first.count) 1 one
    (reaches_one full again (left_step frames o left first.column skip2.column m3 m4 m5 middle skip2.is sign none)) in
    let three = reaches_more begun again within (1 + first.count + 1) 1 two
    (reaches_one again within (opened_step frames (frame.Right o (Some left)) (skip2.column + operator_length o)
    skip3.column m5 m6 middle second.first skip3.is second.opens)) in
    let four = reaches_more begun within last (1 + first.count + 1 + 1) second.count three second.reaches in
    let five = reaches_more begun last done (1 + first.count + 1 + 1 + second.count) 1 four
    (reaches_one last done closes) in
    record {
      first = begun.turn;
      opens = left_opens c from m1 seen opens;
      count = 1 + first.count + 1 + 1 + second.count + 1;
      column = close;
      reaches = five;
      few = omega (arith, few_a, few_b, room, some, byte, less1, less2, less3, more);
    }

leaf_shorter : (t : PatTree) (from to : List ℕ) → writing.term t from to → EachConst IsPatConst t
    → EachLeaf IsPatLeaf t → tree_size t ≡ 1 → length to < length from
leaf_shorter (Const (Exactly n)) from to h g l e =
    let front = (number_text h.0 (signed n) h.1).front in
    let long = text_length h.0 from to h.2 in
    let some = ap length front.is in
    omega (arith, long, some)
leaf_shorter (Const (Operand k range)) from to h g l e =
    let long = text_length (codes "#" ++ decimal k) from h.0 h.1 in
    let rest = range_length range h.0 to h.2 in
    let some = length-append (codes "#") (decimal k) in
    omega (arith, long, rest, some)
leaf_shorter (Leaf (InPatReg (Any k))) from to h g l e =
    let long = text_length (codes "%" ++ decimal k) from to h in
    let some = length-append (codes "%") (decimal k) in
    omega (arith, long, some)
leaf_shorter (Leaf (InPatReg (Fixed (Virt n)))) from to h g l e = absurd l
leaf_shorter (Leaf (InPatReg (Fixed Fp))) from to h g l e = let long = text_length (codes "fp") from to h in
    omega (arith, long)
leaf_shorter (Leaf (InPatReg (Fixed Rv))) from to h g l e = let long = text_length (codes "rv") from to h in
    omega (arith, long)
leaf_shorter (Leaf (InPatReg (Fixed (Arg n)))) from to h g l e =
    let long = text_length (codes "arg" ++ decimal n) from to h in
    let some = length-append (codes "arg") (decimal n) in
    omega (arith, long, some)
leaf_shorter (Leaf (AtSymbol k)) from to h g l e =
    let long = text_length (codes "&" ++ decimal k) from to h in
    let some = length-append (codes "&") (decimal k) in
    omega (arith, long, some)
leaf_shorter (tree.Read a) from to h g l e = absurd (omega (arith, e, some_size a))
leaf_shorter (Unary o a) from to h g l e = absurd (omega (arith, e, some_size a))
leaf_shorter (Binary o a b) from to h g l e = absurd (omega (arith, e, some_size a))

pub tree_reads : (t : PatTree) (frames : List Frame) (c : ℕ) (from to : List ℕ) (seen : Operands)
    → writing.term t from to → EachConst IsPatConst t → EachLeaf IsPatLeaf t → tree_size t ≤ 64 → tree_depth t ≤ 16
    → Fits seen (tree_places t) → Stops to
    → TermRead frames (wanted (at c from) seen) (part_of t) from to (noted seen (tree_places t))
tree_reads (Const x) frames c from to seen w h g few flat fits stops = leaf_term frames (Const x) _ from to
    (noted seen (const_places x)) refl (leaf_shorter (Const x) from to w h g refl)
    (const_reads x c from to seen w h fits stops)
tree_reads (Leaf l) frames c from to seen w h g few flat fits stops = leaf_term frames (Leaf l) _ from to
    (noted seen (leaf_places l)) refl (leaf_shorter (Leaf l) from to w h g refl)
    (leaf_reads l c from to seen w g fits stops)
tree_reads (tree.Read a) frames c from to seen w h g few flat fits stops =
    let next : Operands = noted seen (tree_places a) in
    let i = w.2 in
    let j = i.2 in
    let k = j.2 in
    let l = k.2 in
    let m = l.2 in
    let start = memory_opens c from w.0 i.0 j.0 seen w.1 i.1 j.1 in
    let skip = skips start.column j.0 k.0 k.1 (front_solid k.0 (term_front a k.0 l.0 l.1 g)) in
    let clear = clear_mark 93 m.0 to m.2 refl refl refl refl in
    let inner = tree_reads a (frame.Memory ∷ frames) skip.column k.0 l.0 seen l.1 h g (omega (arith, few))
    (omega (arith, flat)) fits (clear_stops l.0 m.0 m.1 clear) in
    let close = marks 93 inner.column l.0 m.0 to m.1 m.2 refl in
    let length1 = text_length (codes "M") from w.0 w.1 in
    let length2 = blanks_length w.0 i.0 i.1 in
    let length3 = text_length (codes "[") i.0 j.0 j.1 in
    let length4 = blanks_length l.0 m.0 m.1 in
    let length5 = text_length (codes "]") m.0 to m.2 in
    around frames frame.Memory (part_of a) (part_of (tree.Read a)) c from j.0 k.0 l.0 to seen next start
    (omega (arith, length1, length2, length3)) skip (blanks_length j.0 k.0 k.1) inner
    (omega (arith, length4, length5)) close.column
    (memory_step frames (part_of a) (part_of (tree.Read a)) inner.column close.column l.0 to next close.is
    (memory_again a few flat))
tree_reads (Unary o a) frames c from to seen w h g few flat fits stops =
    let next : Operands = noted seen (tree_places a) in
    let i = w.2 in
    let j = i.2 in
    let k = j.2 in
    let l = k.2 in
    let m = l.2 in
    let start = unary_opens o c from w.0 i.0 j.0 seen w.1 i.1 j.1 in
    let skip = skips start.column j.0 k.0 k.1 (front_solid k.0 (term_front a k.0 l.0 l.1 g)) in
    let clear = clear_mark 41 m.0 to m.2 refl refl refl refl in
    let inner = tree_reads a (frame.Unary o ∷ frames) skip.column k.0 l.0 seen l.1 h g (omega (arith, few))
    (omega (arith, flat)) fits (clear_stops l.0 m.0 m.1 clear) in
    let close = marks 41 inner.column l.0 m.0 to m.1 m.2 refl in
    let length1 = text_length (un_text o) from w.0 w.1 in
    let length2 = blanks_length w.0 i.0 i.1 in
    let length3 = text_length (codes "(") i.0 j.0 j.1 in
    let length4 = blanks_length l.0 m.0 m.1 in
    let length5 = text_length (codes ")") m.0 to m.2 in
    around frames (frame.Unary o) (part_of a) (part_of (Unary o a)) c from j.0 k.0 l.0 to seen next start
    (omega (arith, length1, length2, length3)) skip (blanks_length j.0 k.0 k.1) inner
    (omega (arith, length4, length5)) close.column
    (unary_step frames o (part_of a) (part_of (Unary o a)) inner.column close.column l.0 to next close.is
    (unary_again o a few flat))
tree_reads (Binary o a b) frames c from to seen w h g few flat fits stops =
    let middle : Operands = noted seen (tree_places a) in
    let next : Operands = noted middle (tree_places b) in
    let fits_b : Fits middle (tree_places b) = fits_back seen (tree_places a) (tree_places b) fits in
    let i = w.2 in
    let j = i.2 in
    let k = j.2 in
    let l = k.2 in
    let m = l.2 in
    let n = m.2 in
    let p = n.2 in
    let front_b = term_front b m.0 n.0 n.1 g.1 in
    let skip1 = skips (c + 1) w.0 i.0 i.1 (front_solid i.0 (term_front a i.0 j.0 j.1 g.0)) in
    let sign = operator_clear o k.0 l.0 l.1 in
    let first = tree_reads a (frame.Left ∷ frames) skip1.column i.0 j.0 seen j.1 h.0 g.0 (omega (arith, few))
    (omega (arith, flat)) (fits_front seen (tree_places a) (tree_places b) fits) (clear_stops j.0 k.0 k.1 sign) in
    let skip2 = skips first.column j.0 k.0 k.1 sign.solid in
    let skip3 = skips (skip2.column + operator_length o) l.0 m.0 m.1 (front_solid m.0 front_b) in
    let clear = clear_mark 41 p.0 to p.2 refl refl refl refl in
    let second = tree_reads b (frame.Right o (Some (part_of a)) ∷ frames) skip3.column m.0 n.0 middle n.1 h.1 g.1
    (omega (arith, few)) (omega (arith, flat)) fits_b (clear_stops n.0 p.0 p.1 clear) in
    let close = marks 41 second.column n.0 p.0 to p.1 p.2 refl in
    let length1 = blanks_length n.0 p.0 p.1 in
    let length2 = text_length (codes ")") p.0 to p.2 in
    let whole = between frames o (part_of a) (part_of b) (part_of (Binary o a b)) c from w.0 i.0 j.0 k.0 l.0 m.0 n.0
    to seen middle next w.1 skip1 (blanks_length w.0 i.0 i.1) first skip2 (blanks_length j.0 k.0 k.1) l.1
    (front_behind l.0 m.0 m.1 front_b) skip3 (blanks_length l.0 m.0 m.1) second (omega (arith, length1, length2))
    close.column
    (right_step frames o (part_of a) (part_of b) (part_of (Binary o a b)) second.column close.column n.0 to next
    close.is (binary_again o a b few flat)) in
    subst (λ (s : Operands). TermRead frames (wanted (at c from) seen) (part_of (Binary o a b)) from to s)
    (sym (noted_more seen (tree_places a) (tree_places b))) whole

-- a whole term

-- a term behind blanks
pub term_behind : (t : PatTree) (c : ℕ) (a from to : List ℕ) (seen : Operands) → blanks a from
    → writing.term t from to → IsPatTree t → Fits seen (tree_places t) → Stops to
    → Again (terms.term (at c a) seen) (Some (back t)) to (noted seen (tree_places t))
unfolding terms.term
term_behind t c a from to seen b w h fits stops =
    let consts = h.numbers.consts in
    let leaves = h.numbers.leaves in
    let skip = skips c a from b (front_solid from (term_front t from to w leaves)) in
    let skipped = skip.is in
    let got = tree_reads t [] skip.column from to seen w consts leaves h.size h.depth fits stops in
    let opens = got.opens in
    let few = got.few in
    let shorter = blanks_length a from b in
    let last : Reading = turn_at [] (Whole (Some (part_of t))) got.column to (noted seen (tree_places t)) in
    let all : steps (length a) (record { frames = []; turn = got.first }) ≡ Ok last =
    got.reaches.go (length a) (omega (arith, few, shorter))
    ∙ steps_whole (length a - got.count) last refl in
    record { column = got.column; is = rw (skipped, opens) (rw all refl) }

pub term_reads : (t : PatTree) (c : ℕ) (from to : List ℕ) (seen : Operands) → writing.term t from to → IsPatTree t
    → Fits seen (tree_places t) → Stops to
    → Again (terms.term (at c from) seen) (Some (back t)) to (noted seen (tree_places t))
term_reads t c from to seen w h fits stops = term_behind t c from from to seen ([], refl, refl) w h fits stops

-- the name that stands here
record NameIs (w from to : List ℕ) : Type 0 where
  long : prefix_len is_name_byte from ≡ length w
  here : take (length w) from ≡ w
  left : drop (length w) from ≡ to

name_is : (w from to : List ℕ) → text w from to → list_all is_name_byte w ≡ true → prefix_len is_name_byte to ≡ 0
    → NameIs w from to
name_is w from to h all none = subst (λ (x : List ℕ). NameIs w x to) (sym h) (record {
  long = prefix_again is_name_byte w to all none;
  here = take-append_seam w to;
  left = drop-append_seam w to;
})

-- an address
pub address_reads : (t : PatTree) (c : ℕ) (from to : List ℕ) (seen : Operands) → writing.term (tree.Read t) from to
    → IsPatTree t → Fits seen (tree_places t)
    → Again (terms.address (at c from) seen) (Some (back t)) to (noted seen (tree_places t))
unfolding terms.address
address_reads t c from to seen w h fits =
    let i = w.2 in
    let j = i.2 in
    let k = j.2 in
    let l = k.2 in
    let m = l.2 in
    let clear = clear_mark 93 m.0 to m.2 refl refl refl refl in
    let name = name_is (codes "M") from w.0 w.1 refl (stops_bracket 91 w.0 i.0 j.0 i.1 j.1 refl refl) in
    let opened = marks 91 (c + 1) w.0 i.0 j.0 i.1 j.1 refl in
    let begun = opened.is in
    let skip = skips opened.column j.0 k.0 k.1 (front_solid k.0 (term_front t k.0 l.0 l.1 h.numbers.leaves)) in
    let got = term_behind t opened.column j.0 k.0 l.0 seen k.1 l.1 h fits (clear_stops l.0 m.0 m.1 clear) in
    let is = got.is in
    let close = marks 93 got.column l.0 m.0 to m.1 m.2 refl in
    let closed = close.is in
    let long = name.long in
    let here = name.here in
    let left = name.left in
    record { column = close.column; is = rw (long, here, left) (rw (begun, is) (rw closed refl)) }

-- an address begins with the name `M`
pub memory_name : (t : PatTree) (from to : List ℕ) → writing.term (tree.Read t) from to
    → same (take (prefix_len is_name_byte from) from) (codes "M") ≡ true
memory_name t from to w =
    let name = name_is (codes "M") from w.0 w.1 refl (stops_bracket 91 w.0 w.2.0 w.2.2.0 w.2.1 w.2.2.1 refl refl) in
    let long = name.long in
    let here = name.here in
    rw (long, here) refl
