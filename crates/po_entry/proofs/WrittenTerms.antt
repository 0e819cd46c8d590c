-- What is read of a whole term stands there as its form says. From the term's first byte on the open parts stand, from
-- the outermost to the innermost, and behind them the last part; of a part beyond the limits nothing is said.
use Rattle.std.proofs.Common.{◌≡◌, ℕ, ◌+◌, ◌==◌, ◌&&◌, Bool, true, false, nat_le, max, List, [], ◌∷◌, length}
use Rattle.std.proofs.Common.{take, drop, codes, refl, sym, ap, ◌∙◌, subst, zero, suc, Option, Some, None, Ok, Result}
use Rattle.std.proofs.Common.{inl, inr, IfOk, eqb-true}
use Rattle.std.specs.Prelude.{cond, nat_eq, ⊤}
use Rattle.std.specs.List.{prefix_len, starts_with}
use Rattle.std.specs.Option.{option_map}
use Rattle.std.specs.Cmp.Lexicographic.{same_text}
use Rattle.po_word.specs.declared.operator.Un.{Un}
use Rattle.po_word.specs.declared.operator.Un.TheVariants.{Neg, Not}
use Rattle.po_word.specs.declared.operator.Bin.{Bin}
use Rattle.po_word.specs.declared.operator.Bin.TheVariants.{Add, Sub, Mul, And, Or, Xor, Shl, Sar, Shr}
use Rattle.po_name.specs.Names.{is_name_byte}
use Rattle.po_term.specs.Tree.{Read as Memory, Unary, Binary}
use Rattle.po_termtext.specs.TermText.{un_text, bin_text}
use Rattle.po_lines.specs.declared.fault.LineFault.{LineFault}
use Rattle.po_lines.specs.Leaves.{same}
use Rattle.po_lines.proofs.Results.{chosen, bind_ok, ok_is, not_ok}
use Rattle.po_model.specs.declared.machine.PatTerm.{PatTerm}
use Rattle.po_model.specs.declared.machine.PatTerm.TheVariants as pat
use Rattle.po_model.specs.Patterns.{PatTree, pattern_of}
use Rattle.po_pattern.specs.declared.operands.Operands.{Operands}
use Rattle.po_pattern.specs.declared.part.Part.{Part}
use Rattle.po_pattern.specs.declared.part.Frame.{Frame}
use Rattle.po_pattern.specs.declared.part.Frame.TheVariants as frame
use Rattle.po_pattern.specs.declared.part.Turn.{Turn}
use Rattle.po_pattern.specs.declared.part.Turn.TheVariants.{Opens, Whole}
use Rattle.po_pattern.specs.Rests.{Rest, Read, behind, skip_blanks, mark}
use Rattle.po_pattern.specs.Parts.{any_register, fixed_register, name_here}
use Rattle.po_pattern.specs.Terms.{kept, memory_part, unary_part, binary_part, marked_leaf, opening, bracket}
use Rattle.po_pattern.specs.Terms.{named_with, named, begins_leaf, wanted_with, wanted, short_operator_of, operator_of}
use Rattle.po_pattern.specs.Terms.{operator_length, operator_with, operator, closed, behind_whole, Reading, whole_with}
use Rattle.po_pattern.specs.Terms.{is_whole, step_with, step, steps, whole_of, term, address}
use Rattle.po_pattern.proofs.Terms.{term_ends}
use Rattle.po_entry.specs.Writing as writing
use Rattle.po_entry.specs.Writing.{text, blanks, nothing, ◌⨾◌}
use Rattle.po_pattern.proofs.Layers.{mem_tree, un_tree, bin_tree}
use Rattle.po_entry.proofs.WrittenParts.{blanks_skipped, mark_written, TermAt, constant_written}
use Rattle.po_entry.proofs.WrittenParts.{symbol_written, numeral_written, named as name_cut, fixed_written, reg_leaf}
use Rattle.po_entry.proofs.WrittenParts.{any_leaf}

abbrev pub PartAt : Option Part → List ℕ → List ℕ → Type 0
PartAt None from to = ⊤
PartAt (Some p) from to = TermAt p.term from to

-- `(t op`, or a part beyond the limits
abbrev RightAt : Bin → Option Part → List ℕ → List ℕ → Type 0
RightAt o None from to = ⊤
RightAt o (Some p) from to = (text (codes "(") ⨾ blanks ⨾ writing.term (pattern_of p.term) ⨾ blanks
    ⨾ text (bin_text o)) from to

abbrev pub FrameAt : Frame → List ℕ → List ℕ → Type 0
FrameAt frame.Memory from to = (text (codes "M") ⨾ blanks ⨾ text (codes "[")) from to
FrameAt (frame.Unary o) from to = (text (un_text o) ⨾ blanks ⨾ text (codes "(")) from to
FrameAt frame.Left from to = text (codes "(") from to
FrameAt (frame.Right o part) from to = RightAt o part from to

abbrev pub TurnAt : Turn → List ℕ → List ℕ → Type 0
TurnAt (Opens f) from to = FrameAt f from to
TurnAt (Whole part) from to = PartAt part from to

-- the open parts, with the blanks behind each
abbrev pub StackAt : List Frame → List ℕ → List ℕ → Type 0
StackAt [] from to = from ≡ to
StackAt (f ∷ fs) from to = (a : List ℕ) × (b : List ℕ) × StackAt fs from a × FrameAt f a b × blanks b to

-- parts

kept_at : (t : PatTerm) (u : PatTree) (size depth : ℕ) (from to : List ℕ) → pattern_of t ≡ u
    → writing.term u from to → PartAt (kept t size depth) from to
kept_at t u size depth from to e h = within (nat_le size 64 && nat_le depth 16)
  where
    within : (b : Bool) → PartAt (cond b (Some (record { term = t; size = size; depth = depth })) None) from to
    within true = subst (λ (v : PatTree). writing.term v from to) (sym e) h
    within false = tt

-- what may stand where a term is wanted

marked_written : (byte : ℕ) (r : Rest) (seen : Operands) (x : Read PatTerm) → marked_leaf byte r seen ≡ Ok x
    → TermAt x.value r.bytes x.rest.bytes
unfolding marked_leaf
marked_written byte r seen x e = elim (chosen (byte == 37) _ _ _ e) [
  | inl (h, is) ↦ (let p = bind_ok (any_register r seen) _ x is in
      subst (λ (y : Read PatTerm). TermAt y.value r.bytes y.rest.bytes) (ok_is p.2) (any_leaf r seen p.0 p.1))
  | inr (h, is) ↦ elim (chosen (byte == 35) _ _ _ is) [
    | inl (g, at) ↦ constant_written r seen x at
    | inr (g, at) ↦ elim (chosen (byte == 38) _ _ _ at) [
      | inl (f, to) ↦ symbol_written r seen x to
      | inr (f, to) ↦ numeral_written r seen x to
    ]
  ]
]

-- the name that begins this part
abbrev Fronts : List ℕ → Frame → Type 0
Fronts name frame.Memory = name ≡ codes "M"
Fronts name (frame.Unary o) = name ≡ un_text o
Fronts name frame.Left = ⊥
Fronts name (frame.Right o part) = ⊥

opened : (name : List ℕ) (f : Frame) → opening name ≡ Some f → Fronts name f
opened name f e = elim (chosen (same name (codes "M")) _ _ _ e) [
  | inl (h, is) ↦ (let here : frame.Memory ≡ f = cc in
      subst (λ (g : Frame). Fronts name g) here (same_text name (codes "M") (sym h)))
  | inr (h, is) ↦ elim (chosen (same name (codes "neg")) _ _ _ is) [
    | inl (g, at) ↦ (let here : frame.Unary Neg ≡ f = cc in
        subst (λ (g : Frame). Fronts name g) here (same_text name (codes "neg") (sym g)))
    | inr (g, at) ↦ elim (chosen (same name (codes "not")) _ _ _ at) [
      | inl (k, to) ↦ (let here : frame.Unary Not ≡ f = cc in
          subst (λ (g : Frame). Fronts name g) here (same_text name (codes "not") (sym k)))
      | inr (k, to) ↦ absurd (cc)
    ]
  ]
]

-- a name, blanks and a bracket
front_at : (f : Frame) (r : Rest) (n : ℕ) (p : Rest) → Fronts (take n r.bytes) f
    → mark (bracket f) (skip_blanks (behind n r)) ≡ Ok p → FrameAt f r.bytes p.bytes
front_at frame.Memory r n p h e = (
  drop n r.bytes,
  name_cut n r.bytes (codes "M") h,
  ((skip_blanks (behind n r)).bytes, blanks_skipped (behind n r), mark_written 91 (skip_blanks (behind n r)) p e),
)
front_at (frame.Unary o) r n p h e = (
  drop n r.bytes,
  name_cut n r.bytes (un_text o) h,
  ((skip_blanks (behind n r)).bytes, blanks_skipped (behind n r), mark_written 40 (skip_blanks (behind n r)) p e),
)
front_at frame.Left r n p h e = absurd h
front_at (frame.Right o part) r n p h e = absurd h

named_written : (r : Rest) (seen : Operands) (x : Read Turn) (found : Option Frame) → opening (name_here r) ≡ found
    → named_with r seen found ≡ Ok x → TurnAt x.value r.bytes x.rest.bytes
named_written r seen x None h e =
    let p = bind_ok (fixed_register r seen) _ x e in
    subst (λ (y : Read Turn). TurnAt y.value r.bytes y.rest.bytes) (ok_is p.2)
    (reg_leaf p.0.value r.bytes p.0.rest.bytes (fixed_written r seen p.0 p.1))
named_written r seen x (Some f) h e =
    let n = prefix_len is_name_byte r.bytes in
    let p = bind_ok (mark (bracket f) (skip_blanks (behind n r))) _ x e in
    subst (λ (y : Read Turn). TurnAt y.value r.bytes y.rest.bytes) (ok_is p.2)
    (front_at f r n p.0 (opened (name_here r) f h) p.1)

wanted_by : (r : Rest) (seen : Operands) (x : Read Turn) (bs : List ℕ) → r.bytes ≡ bs → wanted_with r seen bs ≡ Ok x
    → TurnAt x.value r.bytes x.rest.bytes
unfolding named
wanted_by r seen x [] b e = absurd (not_ok e)
wanted_by r seen x (c ∷ bs) b e = elim (chosen (c == 40) _ _ _ e) [
  | inl (h, is) ↦ (let is40 : c ≡ 40 = eqb-true c 40 h in
      let here : r.bytes ≡ 40 ∷ drop 1 r.bytes = b ∙ ap (λ (d : ℕ). d ∷ bs) is40
      ∙ ap (λ (w : List ℕ). 40 ∷ drop 1 w) (sym b) in
      subst (λ (y : Read Turn). TurnAt y.value r.bytes y.rest.bytes) (ok_is is) here)
  | inr (h, is) ↦ elim (chosen (begins_leaf c) _ _ _ is) [
    | inl (g, at) ↦ (let p = bind_ok (marked_leaf c r seen) _ x at in
        subst (λ (y : Read Turn). TurnAt y.value r.bytes y.rest.bytes) (ok_is p.2)
        (marked_written c r seen p.0 p.1))
    | inr (g, at) ↦ named_written r seen x (opening (name_here r)) refl at
  ]
]

wanted_written : (r : Rest) (seen : Operands) (x : Read Turn) → wanted r seen ≡ Ok x
    → TurnAt x.value r.bytes x.rest.bytes
unfolding wanted
wanted_written r seen x e = wanted_by r seen x r.bytes refl e

-- what may stand behind a whole part

closed_at : (byte : ℕ) (part : Option Part) (r : Rest) (seen : Operands) (x : Read Turn) (from : List ℕ)
    → closed byte part r seen ≡ Ok x → ((to : List ℕ) → text (byte ∷ []) r.bytes to → PartAt part from to)
    → TurnAt x.value from x.rest.bytes
unfolding closed
closed_at byte part r seen x from e make =
    let p = bind_ok (mark byte r) _ x e in
    subst (λ (y : Read Turn). TurnAt y.value from y.rest.bytes) (ok_is p.2)
    (make p.0.bytes (mark_written byte r p.0 p.1))

memory_at : (part : Option Part) (from a b c d to : List ℕ) → FrameAt frame.Memory from a → blanks a b
    → PartAt part b c → blanks c d → text (codes "]") d to → PartAt (memory_part part) from to
memory_at None from a b c d to f g h i j = tt
memory_at (Some p) from a b c d to f g h i j = kept_at (pat.Mem p.term) (Memory (pattern_of p.term)) (p.size + 1)
    (p.depth + 1) from to (mem_tree p.term) (f.0, f.1, (f.2.0, f.2.1, (a, f.2.2, (b, g, (c, h, (d, i, j))))))

unary_at : (o : Un) (part : Option Part) (from a b c d to : List ℕ) → FrameAt (frame.Unary o) from a → blanks a b
    → PartAt part b c → blanks c d → text (codes ")") d to → PartAt (unary_part o part) from to
unary_at o None from a b c d to f g h i j = tt
unary_at o (Some p) from a b c d to f g h i j = kept_at (pat.Un o p.term) (Unary o (pattern_of p.term)) (p.size + 1)
    (p.depth + 1) from to (un_tree o p.term) (f.0, f.1, (f.2.0, f.2.1, (a, f.2.2, (b, g, (c, h, (d, i, j))))))

binary_at : (o : Bin) (left right : Option Part) (from a b c d to : List ℕ) → FrameAt (frame.Right o left) from a
    → blanks a b → PartAt right b c → blanks c d → text (codes ")") d to → PartAt (binary_part o left right) from to
binary_at o None right from a b c d to f g h i j = tt
binary_at o (Some p) None from a b c d to f g h i j = tt
binary_at o (Some p) (Some q) from a b c d to f g h i j =
    kept_at (pat.Bin o p.term q.term) (Binary o (pattern_of p.term) (pattern_of q.term)) (p.size + (q.size + 1))
    (max p.depth q.depth + 1) from to (bin_tree o p.term q.term)
    (f.0, f.1, (f.2.0, f.2.1, (f.2.2.0, f.2.2.1, (f.2.2.2.0, f.2.2.2.1, (a, f.2.2.2.2, (b, g, (c, h, (d, i, j))))))))

-- an operator

starts : (w bs : List ℕ) → starts_with nat_eq bs w ≡ true → text w bs (drop (length w) bs)
starts w bs e = name_cut (length w) bs w (sym (same_text w (take (length w) bs) (sym e)))

one_byte : (b c : ℕ) (bs : List ℕ) → (b == c) ≡ true → b ∷ bs ≡ c ∷ bs
one_byte b c bs e = ap (λ (x : ℕ). x ∷ bs) (eqb-true b c e)

abbrev pub OperatorAt : List ℕ → Bin → Type 0
OperatorAt bs o = text (bin_text o) bs (drop (operator_length o) bs)

this_operator : (bs : List ℕ) (b : Bool) (s o : Bin) (other : Option Bin) → cond b (Some s) other ≡ Some o
    → (b ≡ true → OperatorAt bs s) → (other ≡ Some o → OperatorAt bs o) → OperatorAt bs o
this_operator bs true s o other e h k = let here : s ≡ o = cc in subst (λ (p : Bin). OperatorAt bs p) here (h refl)
this_operator bs false s o other e h k = k e

short_written : (bs : List ℕ) (o : Bin) → short_operator_of bs ≡ Some o → OperatorAt bs o
short_written [] o e = absurd (cc)
short_written (b ∷ bs) o e =
    this_operator (b ∷ bs) (b == 43) Add o _ e (one_byte b 43 bs) (λ f.
    this_operator (b ∷ bs) (b == 45) Sub o _ f (one_byte b 45 bs) (λ g.
    this_operator (b ∷ bs) (b == 42) Mul o _ g (one_byte b 42 bs) (λ h.
    this_operator (b ∷ bs) (b == 38) And o _ h (one_byte b 38 bs) (λ i.
    this_operator (b ∷ bs) (b == 124) Or o _ i (one_byte b 124 bs) (λ j.
    this_operator (b ∷ bs) (b == 94) Xor o None j (one_byte b 94 bs) (λ k. absurd (cc)))))))

pub operator_written : (bs : List ℕ) (o : Bin) → operator_of bs ≡ Some o → OperatorAt bs o
operator_written bs o e =
    this_operator bs (starts_with nat_eq bs (codes ">>>")) Shr o _ e (starts (codes ">>>") bs) (λ f.
    this_operator bs (starts_with nat_eq bs (codes ">>")) Sar o _ f (starts (codes ">>") bs) (λ g.
    this_operator bs (starts_with nat_eq bs (codes "<<")) Shl o _ g (starts (codes "<<") bs) (short_written bs o)))

right_at : (o : Bin) (left : Option Part) (from a b c d to : List ℕ) → FrameAt frame.Left from a → blanks a b
    → PartAt left b c → blanks c d → text (bin_text o) d to → FrameAt (frame.Right o left) from to
right_at o None from a b c d to f g h i j = tt
right_at o (Some p) from a b c d to f g h i j = (a, f, (b, g, (c, h, (d, i, j))))

operator_by : (left : Option Part) (r : Rest) (seen : Operands) (x : Read Turn) (found : Option Bin)
    (from a b c : List ℕ) → operator_of r.bytes ≡ found → operator_with left r seen found ≡ Ok x
    → FrameAt frame.Left from a → blanks a b → PartAt left b c → blanks c r.bytes → TurnAt x.value from x.rest.bytes
operator_by left r seen x None from a b c h e f g i j = absurd (not_ok e)
operator_by left r seen x (Some o) from a b c h e f g i j =
    subst (λ (y : Read Turn). TurnAt y.value from y.rest.bytes) (ok_is e)
    (right_at o left from a b c r.bytes (drop (operator_length o) r.bytes) f g i j (operator_written r.bytes o h))

behind_written : (f : Frame) (part : Option Part) (r : Rest) (seen : Operands) (x : Read Turn) (from a b c : List ℕ)
    → behind_whole f part r seen ≡ Ok x → FrameAt f from a → blanks a b → PartAt part b c → blanks c r.bytes
    → TurnAt x.value from x.rest.bytes
unfolding behind_whole operator
behind_written frame.Memory part r seen x from a b c e f g h i = closed_at 93 (memory_part part) r seen x from e
    (λ to t. memory_at part from a b c r.bytes to f g h i t)
behind_written (frame.Unary o) part r seen x from a b c e f g h i = closed_at 41 (unary_part o part) r seen x from e
    (λ to t. unary_at o part from a b c r.bytes to f g h i t)
behind_written frame.Left part r seen x from a b c e f g h i =
    operator_by part r seen x (operator_of r.bytes) from a b c refl e f g h i
behind_written (frame.Right o left) part r seen x from a b c e f g h i =
    closed_at 41 (binary_part o left part) r seen x from e
    (λ to t. binary_at o left part from a b c r.bytes to f g h i t)

-- one part more

pub record SoFar (from : List ℕ) (s : Reading) : Type 0 where
  pub at : List ℕ
  pub stack : StackAt s.frames from at
  pub turn : TurnAt s.turn.value at s.turn.rest.bytes

abbrev at_turn : List Frame → Turn → Rest → Operands → Reading
at_turn frames turn r seen = record { frames = frames; turn = record { value = turn; rest = r; seen = seen } }

stepped : (from : List ℕ) (frames : List Frame) (turn : Turn) (r : Rest) (seen : Operands) (t : Reading)
    → step_with frames turn r seen ≡ Ok t → SoFar from (at_turn frames turn r seen) → SoFar from t
stepped from frames (Opens f) r seen t e g =
    let p = bind_ok (wanted (skip_blanks r) seen) _ t e in
    subst (λ (u : Reading). SoFar from u) (ok_is p.2) (record {
      at = (skip_blanks r).bytes;
      stack = (g.at, r.bytes, g.stack, g.turn, blanks_skipped r);
      turn = wanted_written (skip_blanks r) seen p.0 p.1;
    })
stepped from [] (Whole part) r seen t e g = subst (λ (u : Reading). SoFar from u) (ok_is e) g
stepped from (f ∷ fs) (Whole part) r seen t e g =
    let p = bind_ok (behind_whole f part (skip_blanks r) seen) _ t e in
    let s = g.stack in
    subst (λ (u : Reading). SoFar from u) (ok_is p.2) (record {
      at = s.0;
      stack = s.2;
      turn = behind_written f part (skip_blanks r) seen p.0 s.0 s.1 g.at r.bytes p.1 s.3 s.4 g.turn
          (blanks_skipped r);
    })

steps_written : (from : List ℕ) (n : ℕ) (s t : Reading) → steps n s ≡ Ok t → SoFar from s → SoFar from t
unfolding steps step
steps_written from zero s t e g = subst (λ (u : Reading). SoFar from u) (ok_is e) g
steps_written from (suc n) s t e g =
    let p = bind_ok (step s) _ t e in
    steps_written from n p.0 t p.2 (stepped from s.frames s.turn.value s.turn.rest s.turn.seen p.0 p.1 g)

-- a whole term

abbrev pub AnyTermAt : Option PatTerm → List ℕ → List ℕ → Type 0
AnyTermAt None from to = ⊤
AnyTermAt (Some t) from to = TermAt t from to

part_term : (part : Option Part) (from to : List ℕ) → PartAt part from to
    → AnyTermAt (option_map (λ p. p.term) part) from to
part_term None from to h = tt
part_term (Some p) from to h = h

whole_at : (frames : List Frame) (turn : Turn) (from at to : List ℕ) → whole_with frames turn ≡ true
    → StackAt frames from at → TurnAt turn at to → AnyTermAt (whole_of turn) from to
whole_at frames (Opens f) from at to w s h = absurd (cc)
whole_at [] (Whole part) from at to w s h =
    subst (λ (x : List ℕ). AnyTermAt (option_map (λ p. p.term) part) x to) (sym s) (part_term part at to h)
whole_at (f ∷ fs) (Whole part) from at to w s h = absurd (cc)

is_ended : (m : Result Reading LineFault) (s : Reading) → m ≡ Ok s → IfOk m (λ s. is_whole s ≡ true)
    → is_whole s ≡ true
is_ended m s e h = let P : Result Reading LineFault → Type 0 = λ m. IfOk m (λ s. is_whole s ≡ true) in subst P e h

pub term_written : (r : Rest) (seen : Operands) (x : Read (Option PatTerm)) → term r seen ≡ Ok x
    → AnyTermAt x.value (skip_blanks r).bytes x.rest.bytes
unfolding term
term_written r seen x e =
    let p = bind_ok (wanted (skip_blanks r) seen) _ x e in
    let first : Reading = record { frames = []; turn = p.0 } in
    let q = bind_ok (steps (length r.bytes) first) _ x p.2 in
    let from = (skip_blanks r).bytes in
    let so_far = steps_written from (length r.bytes) first q.0 q.1
    (record { at = from; stack = refl; turn = wanted_written (skip_blanks r) seen p.0 p.1 }) in
    let ends = is_ended (steps (length r.bytes) first) q.0 q.1 (term_ends r seen p.0 p.1) in
    subst (λ (y : Read (Option PatTerm)). AnyTermAt y.value from y.rest.bytes) (ok_is q.2)
    (whole_at q.0.frames q.0.turn.value from so_far.at q.0.turn.rest.bytes ends so_far.stack so_far.turn)

-- an address `M[t]`
abbrev pub AddressAt : Option PatTerm → List ℕ → List ℕ → Type 0
AddressAt None from to = ⊤
AddressAt (Some t) from to = writing.term (Memory (pattern_of t)) from to

address_at : (t : Option PatTerm) (from a b c d e to : List ℕ) → text (codes "M") from a → blanks a b
    → text (codes "[") b c → blanks c d → AnyTermAt t d e → (f : List ℕ) → blanks e f → text (codes "]") f to
    → AddressAt t from to
address_at None from a b c d e to g h i j k f l m = tt
address_at (Some t) from a b c d e to g h i j k f l m = (a, g, (b, h, (c, i, (d, j, (e, k, (f, l, m))))))

pub address_written : (r : Rest) (seen : Operands) (x : Read (Option PatTerm)) → address r seen ≡ Ok x
    → AddressAt x.value r.bytes x.rest.bytes
unfolding address
address_written r seen x e = elim (chosen (same (name_here r) (codes "M")) _ _ _ e) [
  | inl (h, is) ↦ (let n = prefix_len is_name_byte r.bytes in
      let p = bind_ok (mark 91 (skip_blanks (behind n r))) _ x is in
      let q = bind_ok (term p.0 seen) _ x p.2 in
      let s = bind_ok (mark 93 (skip_blanks q.0.rest)) _ x q.2 in
      subst (λ (y : Read (Option PatTerm)). AddressAt y.value r.bytes y.rest.bytes) (ok_is s.2)
      (address_at q.0.value r.bytes (drop n r.bytes) (skip_blanks (behind n r)).bytes p.0.bytes (skip_blanks p.0).bytes
      q.0.rest.bytes s.0.bytes (name_cut n r.bytes (codes "M") (same_text (name_here r) (codes "M") (sym h)))
      (blanks_skipped (behind n r)) (mark_written 91 (skip_blanks (behind n r)) p.0 p.1) (blanks_skipped p.0)
      (term_written p.0 seen q.0 q.1) (skip_blanks q.0.rest).bytes (blanks_skipped q.0.rest)
      (mark_written 93 (skip_blanks q.0.rest) s.0 s.1)))
  | inr (h, is) ↦ absurd (not_ok is)
]
