-- What was read where a whole term stands. The parts that are open have the places that were read in them, from the
-- outermost on; a part beyond the limits has some.
use Rattle.std.proofs.Common.{◌≡◌, ℕ, ◌+◌, ◌<◌, ◌≤◌, ◌==◌, ◌&&◌, true, false, nat_le, max, List, [], ◌∷◌, ◌++◌}
use Rattle.std.proofs.Common.{length, refl, sym, ap, ◌∙◌, subst, arith, zero, suc, Option, Some, None, Ok, ◌⊎◌, inl}
use Rattle.std.proofs.Common.{inr, append_assoc, leb-true, Result, Err, IfOk}
use Rattle.std.specs.Prelude.{cond, codes, ⊤}
use Rattle.std.specs.List.{prefix_len}
use Rattle.std.specs.Option.{option_map}
use Rattle.std.proofs.lemmas.Bool.{and_parts}
use Rattle.std.proofs.lemmas.List.{length-drop}
use Rattle.po_word.specs.declared.operator.Un.{Un}
use Rattle.po_word.specs.declared.operator.Un.TheVariants.{Neg, Not}
use Rattle.po_word.specs.declared.operator.Bin.{Bin}
use Rattle.po_word.specs.declared.operator.Bin.TheVariants.{Add, Sub, Mul, And, Or, Xor, Shl, Sar, Shr}
use Rattle.po_name.specs.Names.{is_name_byte}
use Rattle.po_term.specs.Tree.{Read as Memory, Unary, Binary, tree_size, tree_depth}
use Rattle.po_lines.specs.Leaves.{same}
use Rattle.po_lines.proofs.Results.{chosen, bind_ok, ok_is, not_ok}
use Rattle.po_pattern.specs.declared.operands.Operands.{Operands}
use Rattle.po_pattern.specs.declared.part.Part.{Part}
use Rattle.po_pattern.specs.declared.part.Frame.{Frame}
use Rattle.po_pattern.specs.declared.part.Frame.TheVariants as frame
use Rattle.po_pattern.specs.declared.part.Turn.{Turn}
use Rattle.po_pattern.specs.declared.part.Turn.TheVariants.{Opens, Whole}
use Rattle.po_pattern.specs.Rests.{Rest, Read, behind, skip_blanks, mark}
use Rattle.po_pattern.specs.Parts.{any_register, fixed_register, name_here}
use Rattle.po_pattern.specs.Terms.{kept, memory_part, unary_part, binary_part, leaf, marked_leaf, opening, bracket}
use Rattle.po_pattern.specs.Terms.{named_with, named, begins_leaf, wanted_with, wanted, operator_of, operator_length}
use Rattle.po_pattern.specs.Terms.{operator_with, operator, closed, behind_whole, Reading, whole_with, is_whole}
use Rattle.po_pattern.specs.Terms.{step_with, step, steps, whole_of, term, address}
use Rattle.po_pattern.specs.Whole.{EndsInTime}
use Rattle.po_model.specs.declared.machine.PatTerm.{PatTerm}
use Rattle.po_model.specs.declared.machine.PatTerm.TheVariants as pat
use Rattle.po_model.specs.Patterns.{PatTree, pattern_of}
use Rattle.po_model.specs.Entries.{Place, tree_places, IsPatTree, HasPatNumbers}
use Rattle.po_pattern.proofs.Told.{Tells}
use Rattle.po_pattern.proofs.Leaves.{Found, Came, not_longer, mark_shorter}
use Rattle.po_pattern.proofs.Layers.{mem_tree, un_tree, bin_tree}
use Rattle.po_pattern.proofs.Parts.{IsLeafAt, constant_came, symbol_came, numeral_came, any_leaf, fixed_came}
use Rattle.po_pattern.proofs.Parts.{register_leaf, none_more}

-- a term within the limits, and its places
pub record IsTreeAt (t : PatTree) (qs : List Place) : Type 0 where
  pub is : qs ≡ tree_places t
  pub fine : IsPatTree t

pub record IsPartAt (p : Part) (qs : List Place) : Type 0 where
  pub size : p.size ≡ tree_size (pattern_of p.term)
  pub depth : p.depth ≡ tree_depth (pattern_of p.term)
  pub tree : IsTreeAt (pattern_of p.term) qs

abbrev pub PartHas : Option Part → List Place → Type 0
PartHas None qs = ⊤
PartHas (Some p) qs = IsPartAt p qs

abbrev pub FrameHas : Frame → List Place → Type 0
FrameHas frame.Memory qs = qs ≡ []
FrameHas (frame.Unary o) qs = qs ≡ []
FrameHas frame.Left qs = qs ≡ []
FrameHas (frame.Right o part) qs = PartHas part qs

abbrev pub TurnHas : Turn → List Place → Type 0
TurnHas (Opens f) qs = FrameHas f qs
TurnHas (Whole part) qs = PartHas part qs

abbrev pub StackHas : List Frame → List Place → Type 0
StackHas [] qs = qs ≡ []
StackHas (f ∷ fs) qs = (cs : List Place) × (bs : List Place) × StackHas fs cs × FrameHas f bs × (qs ≡ cs ++ bs)

-- parts

kept_has : (term : PatTerm) (u : PatTree) (size depth : ℕ) (qs : List Place) → pattern_of term ≡ u
    → qs ≡ tree_places u → size ≡ tree_size u → depth ≡ tree_depth u → HasPatNumbers u
    → PartHas (kept term size depth) qs
kept_has term u size depth qs e is s d numbers = elim (nat_le size 64 && nat_le depth 16)
    as (λ b. (nat_le size 64 && nat_le depth 16) ≡ b → PartHas
    (cond b (Some (record { term = term; size = size; depth = depth })) None) qs) [
      | true ↦ (λ h. let parts = and_parts (nat_le size 64) (nat_le depth 16) h in
          let few : size ≤ 64 = leb-true _ _ parts.0 in
          let flat : depth ≤ 16 = leb-true _ _ parts.1 in
          record {
            size = s ∙ ap tree_size (sym e);
            depth = d ∙ ap tree_depth (sym e);
            tree = subst (λ (v : PatTree). IsTreeAt v qs) (sym e)
                (record {
                  is = is;
                  fine = record {
                    size = omega (arith, s, few);
                    depth = omega (arith, d, flat);
                    numbers = numbers;
                  };
                });
          })
      | false ↦ (λ h. tt)
    ] refl

memory_has : (part : Option Part) (qs : List Place) → PartHas part qs → PartHas (memory_part part) qs
memory_has None qs h = tt
memory_has (Some p) qs h = kept_has (pat.Mem p.term) (Memory (pattern_of p.term)) (p.size + 1) (p.depth + 1) qs
    (mem_tree p.term) h.tree.is (omega (arith, h.size)) (omega (arith, h.depth))
    (record { consts = h.tree.fine.numbers.consts; leaves = h.tree.fine.numbers.leaves })

unary_has : (o : Un) (part : Option Part) (qs : List Place) → PartHas part qs → PartHas (unary_part o part) qs
unary_has o None qs h = tt
unary_has o (Some p) qs h = kept_has (pat.Un o p.term) (Unary o (pattern_of p.term)) (p.size + 1) (p.depth + 1) qs
    (un_tree o p.term) h.tree.is (omega (arith, h.size)) (omega (arith, h.depth))
    (record { consts = h.tree.fine.numbers.consts; leaves = h.tree.fine.numbers.leaves })

both_places : (cs bs : List Place) (t u : PatTree) → cs ≡ tree_places t → bs ≡ tree_places u → cs ++ bs ≡ tree_places
    t ++ tree_places u
both_places cs bs t u e h = ap (λ (x : List Place). x ++ bs) e ∙ ap (λ (x : List Place). tree_places t ++ x) h

binary_has : (o : Bin) (left right : Option Part) (cs bs : List Place) → PartHas left cs → PartHas right bs
    → PartHas (binary_part o left right) (cs ++ bs)
binary_has o None right cs bs h g = tt
binary_has o (Some p) None cs bs h g = tt
binary_has o (Some p) (Some q) cs bs h g = kept_has (pat.Bin o p.term q.term)
    (Binary o (pattern_of p.term) (pattern_of q.term)) (p.size + (q.size + 1)) (max p.depth q.depth + 1) (cs ++ bs)
    (bin_tree o p.term q.term) (both_places cs bs (pattern_of p.term) (pattern_of q.term) h.tree.is g.tree.is)
    (omega (arith, h.size, g.size)) (omega (arith, h.depth, g.depth))
    (record {
      consts = (h.tree.fine.numbers.consts, g.tree.fine.numbers.consts);
      leaves = (h.tree.fine.numbers.leaves, g.tree.fine.numbers.leaves);
    })

-- what may stand where a term is wanted

leaf_turn : (r : Rest) (seen : Operands) (x : Read PatTerm) → Came IsLeafAt r seen x → Came TurnHas r seen (leaf x)
leaf_turn r seen x came = record {
  places = came.places;
  has = record {
    size = sym came.has.size;
    depth = sym came.has.depth;
    tree = record {
      is = came.has.is;
      fine = record {
        size = omega (arith, came.has.size);
        depth = omega (arith, came.has.depth);
        numbers = came.has.numbers;
      };
    };
  };
  told = came.told;
  shorter = came.shorter;
}

marked_came : (byte : ℕ) (r : Rest) (seen : Operands) (x : Read PatTerm) → marked_leaf byte r seen ≡ Ok x
    → Came IsLeafAt r seen x
unfolding marked_leaf
marked_came byte r seen x e = elim (chosen (byte == 37) _ _ _ e) [
  | inl (h, is) ↦ (let p = bind_ok (any_register r seen) _ x is in
      subst (λ (y : Read PatTerm). Came IsLeafAt r seen y) (ok_is p.2) (any_leaf r seen p.0 p.1))
  | inr (h, is) ↦ elim (chosen (byte == 35) _ _ _ is) [
    | inl (g, at) ↦ constant_came r seen x at
    | inr (g, at) ↦ elim (chosen (byte == 38) _ _ _ at) [
      | inl (f, to) ↦ symbol_came r seen x to
      | inr (f, to) ↦ numeral_came r seen x to
    ]
  ]
]

opened_empty : (name : List ℕ) (f : Frame) → opening name ≡ Some f → FrameHas f []
opened_empty name f e = elim (chosen (same name (codes "M")) _ _ _ e) [
  | inl (h, is) ↦ (let here : frame.Memory ≡ f = cc in subst (λ (g : Frame). FrameHas g []) here refl)
  | inr (h, is) ↦ elim (chosen (same name (codes "neg")) _ _ _ is) [
    | inl (g, at) ↦ (let here : frame.Unary Neg ≡ f = cc in subst (λ (g : Frame). FrameHas g []) here refl)
    | inr (g, at) ↦ elim (chosen (same name (codes "not")) _ _ _ at) [
      | inl (k, to) ↦ (let here : frame.Unary Not ≡ f = cc in subst (λ (g : Frame). FrameHas g []) here refl)
      | inr (k, to) ↦ absurd (cc)
    ]
  ]
]

named_came : (r : Rest) (seen : Operands) (x : Read Turn) (found : Option Frame) → opening (name_here r) ≡ found
    → named_with r seen found ≡ Ok x → Came TurnHas r seen x
named_came r seen x None h e =
    let p = bind_ok (fixed_register r seen) _ x e in
    subst (λ (y : Read Turn). Came TurnHas r seen y) (ok_is p.2)
    (leaf_turn r seen _ (register_leaf r seen p.0 (fixed_came r seen p.0 p.1)))
named_came r seen x (Some f) h e =
    let n = prefix_len is_name_byte r.bytes in
    let p = bind_ok (mark (bracket f) (skip_blanks (behind n r))) _ x e in
    let shorter : length p.0.bytes < length (skip_blanks (behind n r)).bytes =
    mark_shorter (bracket f) (skip_blanks (behind n r)) p.0 p.1 in
    let within : length (behind n r).bytes ≤ length r.bytes = simp length-drop (omega arith) in
    subst (λ (y : Read Turn). Came TurnHas r seen y) (ok_is p.2) (record {
      places = [];
      has = opened_empty (name_here r) f h;
      told = none_more seen;
      shorter = omega (arith, shorter, within, not_longer (behind n r));
    })

wanted_found : (r : Rest) (seen : Operands) (x : Read Turn) (bs : List ℕ) → r.bytes ≡ bs
    → wanted_with r seen bs ≡ Ok x → Came TurnHas r seen x
unfolding named
wanted_found r seen x [] b e = absurd (not_ok e)
wanted_found r seen x (c ∷ bs) b e =
    let long : length r.bytes ≡ length (c ∷ bs) = ap length b in
    elim (chosen (c == 40) _ _ _ e) [
      | inl (h, is) ↦ subst (λ (y : Read Turn). Came TurnHas r seen y) (ok_is is)
          (record { places = []; has = refl; told = none_more seen; shorter = simp length-drop (omega (arith, long)) })
      | inr (h, is) ↦ elim (chosen (begins_leaf c) _ _ _ is) [
        | inl (g, at) ↦ (let p = bind_ok (marked_leaf c r seen) _ x at in
            subst (λ (y : Read Turn). Came TurnHas r seen y) (ok_is p.2)
            (leaf_turn r seen p.0 (marked_came c r seen p.0 p.1)))
        | inr (g, at) ↦ named_came r seen x (opening (name_here r)) refl at
      ]
    ]

wanted_came : (r : Rest) (seen : Operands) (x : Read Turn) → wanted r seen ≡ Ok x → Came TurnHas r seen x
unfolding wanted
wanted_came r seen x e = wanted_found r seen x r.bytes refl e

-- what may stand behind a whole part

pub record Behind (r : Rest) (seen : Operands) (qs : List Place) (x : Read Turn) : Type 0 where
  pub has : TurnHas x.value qs
  pub noted : x.seen ≡ seen
  pub shorter : length x.rest.bytes < length r.bytes

closed_behind : (byte : ℕ) (part : Option Part) (r : Rest) (seen : Operands) (qs : List Place) (x : Read Turn)
    → closed byte part r seen ≡ Ok x → PartHas part qs → Behind r seen qs x
unfolding closed
closed_behind byte part r seen qs x e has =
    let p = bind_ok (mark byte r) _ x e in
    subst (λ (y : Read Turn). Behind r seen qs y) (ok_is p.2)
    (record { has = has; noted = refl; shorter = mark_shorter byte r p.0 p.1 })

one_byte : (o : Bin) → 0 < operator_length o
one_byte Add = omega arith
one_byte Sub = omega arith
one_byte Mul = omega arith
one_byte And = omega arith
one_byte Or = omega arith
one_byte Xor = omega arith
one_byte Shl = omega arith
one_byte Sar = omega arith
one_byte Shr = omega arith

some_operator : (bs : List ℕ) (o : Bin) → operator_of bs ≡ Some o → 0 < length bs
some_operator [] o e = absurd (cc)
some_operator (b ∷ bs) o e = omega arith

operator_found : (left : Option Part) (r : Rest) (seen : Operands) (qs : List Place) (x : Read Turn)
    (found : Option Bin) → operator_of r.bytes ≡ found → operator_with left r seen found ≡ Ok x → PartHas left qs
    → Behind r seen qs x
operator_found left r seen qs x None h e has = absurd (not_ok e)
operator_found left r seen qs x (Some o) h e has = subst (λ (y : Read Turn). Behind r seen qs y) (ok_is e)
    (record {
      has = has;
      noted = refl;
      shorter = simp length-drop
          (omega (arith, one_byte o, some_operator r.bytes o h));
    })

behind_came : (f : Frame) (part : Option Part) (r : Rest) (seen : Operands) (x : Read Turn) (bs qs : List Place)
    → behind_whole f part r seen ≡ Ok x → FrameHas f bs → PartHas part qs → Behind r seen (bs ++ qs) x
unfolding behind_whole operator
behind_came frame.Memory part r seen x bs qs e f h = closed_behind 93 (memory_part part) r seen (bs ++ qs) x e
    (subst (λ (cs : List Place). PartHas (memory_part part) (cs ++ qs)) (sym f) (memory_has part qs h))
behind_came (frame.Unary o) part r seen x bs qs e f h = closed_behind 41 (unary_part o part) r seen (bs ++ qs) x e
    (subst (λ (cs : List Place). PartHas (unary_part o part) (cs ++ qs)) (sym f) (unary_has o part qs h))
behind_came frame.Left part r seen x bs qs e f h = operator_found part r seen (bs ++ qs) x (operator_of r.bytes) refl
    e (subst (λ (cs : List Place). PartHas part (cs ++ qs)) (sym f) h)
behind_came (frame.Right o left) part r seen x bs qs e f h = closed_behind 41 (binary_part o left part) r seen
    (bs ++ qs) x e (binary_has o left part bs qs f h)

-- one part more

-- what was read since so much was seen: the places in the parts that are open, and those of the last part
record Going (start : Operands) (s : Reading) : Type 0 where
  outer : List Place
  inner : List Place
  stack : StackHas s.frames outer
  turn : TurnHas s.turn.value inner
  told : (ps : List Place) → Tells start ps → Tells s.turn.seen (ps ++ (outer ++ inner))

record Stepped (start : Operands) (s t : Reading) : Type 0 where
  going : Going start t
  less : (is_whole s ≡ true) ⊎ (length t.turn.rest.bytes < length s.turn.rest.bytes)

abbrev at_turn : List Frame → Turn → Rest → Operands → Reading
at_turn frames turn r seen = record { frames = frames; turn = record { value = turn; rest = r; seen = seen } }

stepped : (start : Operands) (frames : List Frame) (turn : Turn) (r : Rest) (seen : Operands) (t : Reading)
    → step_with frames turn r seen ≡ Ok t → Going start (at_turn frames turn r seen)
    → Stepped start (at_turn frames turn r seen) t
stepped start frames (Opens f) r seen t e g =
    let p = bind_ok (wanted (skip_blanks r) seen) _ t e in
    let came = wanted_came (skip_blanks r) seen p.0 p.1 in
    subst (λ (u : Reading). Stepped start (at_turn frames (Opens f) r seen) u) (ok_is p.2) (record {
      going = record {
        outer = g.outer ++ g.inner;
        inner = came.places;
        stack = (g.outer, g.inner, g.stack, g.turn, refl);
        turn = came.has;
        told = λ ps h. subst (λ (qs : List Place). Tells p.0.seen qs)
            (append_assoc ps (g.outer ++ g.inner) came.places)
            (came.told (ps ++ (g.outer ++ g.inner)) (g.told ps h));
      };
      less = inr (omega (arith, came.shorter, not_longer r));
    })
stepped start [] (Whole part) r seen t e g =
    subst (λ (u : Reading). Stepped start (at_turn [] (Whole part) r seen) u) (ok_is e) (record {
      going = record { outer = g.outer; inner = g.inner; stack = g.stack; turn = g.turn; told = g.told };
      less = inl refl;
    })
stepped start (f ∷ fs) (Whole part) r seen t e g =
    let p = bind_ok (behind_whole f part (skip_blanks r) seen) _ t e in
    let cs = g.stack.0 in
    let bs = g.stack.1 in
    let came = behind_came f part (skip_blanks r) seen p.0 bs g.inner p.1 g.stack.3 g.turn in
    let same : g.outer ++ g.inner ≡ cs ++ (bs ++ g.inner) = ap (λ (x : List Place). x ++ g.inner) g.stack.4
    ∙ append_assoc cs bs g.inner in
    subst (λ (u : Reading). Stepped start (at_turn (f ∷ fs) (Whole part) r seen) u) (ok_is p.2) (record {
      going = record {
        outer = cs;
        inner = bs ++ g.inner;
        stack = g.stack.2;
        turn = came.has;
        told = λ ps h. subst (λ (s : Operands). Tells s (ps ++ (cs ++ (bs ++ g.inner)))) (sym came.noted)
            (subst (λ (x : List Place). Tells seen (ps ++ x)) same (g.told ps h));
      };
      less = inr (omega (arith, came.shorter, not_longer r));
    })

one_step : (start : Operands) (s t : Reading) → step s ≡ Ok t → Going start s → Stepped start s t
unfolding step
one_step start s t e g = stepped start s.frames s.turn.value s.turn.rest s.turn.seen t e g

record Ended (start : Operands) (t : Reading) : Type 0 where
  going : Going start t
  whole : is_whole t ≡ true

-- each part takes a byte, so the term is whole behind as many parts as bytes were left
ended_from : (start : Operands) (n : ℕ) (s t : Reading) → steps n s ≡ Ok t → (length s.turn.rest.bytes < n)
    ⊎ (is_whole s ≡ true) → Going start s → Ended start t
unfolding steps step
ended_from start zero s t e (inl h) g = absurd (omega (arith, h))
ended_from start zero s t e (inr h) g = subst (λ (u : Reading). Ended start u) (ok_is e)
    (record { going = g; whole = h })
ended_from start (suc n) s t e h g =
    let p = bind_ok (step s) _ t e in
    let next = one_step start s p.0 p.1 g in
    ended_from start n p.0 t p.2 (left_over n s p.0 h (still_whole s p.0 p.1) next.less) next.going
  where
    left_over : (n : ℕ) (s u : Reading) → (length s.turn.rest.bytes < suc n) ⊎ (is_whole s ≡ true)
        → (is_whole s ≡ true → is_whole u ≡ true)
        → (is_whole s ≡ true) ⊎ (length u.turn.rest.bytes < length s.turn.rest.bytes) → (length u.turn.rest.bytes < n)
        ⊎ (is_whole u ≡ true)
    left_over n s u h w (inl k) = inr (w k)
    left_over n s u (inr k) w (inr l) = inr (w k)
    left_over n s u (inl k) w (inr l) = inl (omega (arith, k, l))

    whole_on : (frames : List Frame) (turn : Turn) (r : Rest) (seen : Operands) (u : Reading) → step_with frames turn
        r seen ≡ Ok u → whole_with frames turn ≡ true → is_whole u ≡ true
    whole_on frames (Opens f) r seen u e h = absurd (cc)
    whole_on [] (Whole part) r seen u e h = subst (λ (v : Reading). is_whole v ≡ true) (ok_is e) refl
    whole_on (f ∷ fs) (Whole part) r seen u e h = absurd (cc)

    still_whole : (s u : Reading) → step s ≡ Ok u → is_whole s ≡ true → is_whole u ≡ true
    still_whole s u e h = whole_on s.frames s.turn.value s.turn.rest s.turn.seen u e h

-- a whole term

abbrev pub TermHas : Option PatTerm → List Place → Type 0
TermHas None qs = ⊤
TermHas (Some t) qs = IsTreeAt (pattern_of t) qs

part_term : (part : Option Part) (qs : List Place) → PartHas part qs → TermHas (option_map (λ p. p.term) part) qs
part_term None qs h = tt
part_term (Some p) qs h = h.tree

whole_at : (start : Operands) (frames : List Frame) (turn : Turn) (r : Rest) (seen : Operands)
    → whole_with frames turn ≡ true → Going start (at_turn frames turn r seen)
    → Found TermHas start (whole_of turn) seen
whole_at start frames (Opens f) r seen w g = absurd (cc)
whole_at start [] (Whole part) r seen w g = record {
  places = g.inner;
  has = part_term part g.inner g.turn;
  told = λ ps h. subst (λ (qs : List Place). Tells seen (ps ++ (qs ++ g.inner))) g.stack (g.told ps h);
}
whole_at start (f ∷ fs) (Whole part) r seen w g = absurd (cc)

-- behind the first part and as many more as bytes are left
read_whole : (r : Rest) (seen : Operands) (first : Read Turn) (t : Reading) → wanted (skip_blanks r) seen ≡ Ok first
    → steps (length r.bytes) (record { frames = []; turn = first }) ≡ Ok t → Ended seen t
read_whole r seen first t e h =
    let came = wanted_came (skip_blanks r) seen first e in
    ended_from seen (length r.bytes) (record { frames = []; turn = first }) t h
    (inl (omega (arith, came.shorter, not_longer r)))
    (record { outer = []; inner = came.places; stack = refl; turn = came.has; told = came.told })

where_ok : {A E : Type 0} (P : A → Type 0) (m : Result A E) → ((x : A) → m ≡ Ok x → P x) → IfOk m P
where_ok P (Ok x) f = f x refl
where_ok P (Err e) f = tt

pub term_ends : (r : Rest) (seen : Operands) → EndsInTime r seen
term_ends r seen first e = where_ok (λ s. is_whole s ≡ true)
    (steps (length r.bytes) (record { frames = []; turn = first })) (λ t h. (read_whole r seen first t e h).whole)

pub term_came : (r : Rest) (seen : Operands) (x : Read (Option PatTerm)) → term r seen ≡ Ok x
    → Found TermHas seen x.value x.seen
unfolding term
term_came r seen x e =
    let p = bind_ok (wanted (skip_blanks r) seen) _ x e in
    let q = bind_ok (steps (length r.bytes) (record { frames = []; turn = p.0 })) _ x p.2 in
    let ended = read_whole r seen p.0 q.0 p.1 q.1 in
    subst (λ (y : Read (Option PatTerm)). Found TermHas seen y.value y.seen) (ok_is q.2)
    (whole_at seen q.0.frames q.0.turn.value q.0.turn.rest q.0.turn.seen ended.whole ended.going)

pub address_came : (r : Rest) (seen : Operands) (x : Read (Option PatTerm)) → address r seen ≡ Ok x
    → Found TermHas seen x.value x.seen
unfolding address
address_came r seen x e = elim (chosen (same (name_here r) (codes "M")) _ _ _ e) [
  | inl (h, is) ↦ (let p = bind_ok (mark 91 (skip_blanks (behind (prefix_len is_name_byte r.bytes) r))) _ x is in
      let q = bind_ok (term p.0 seen) _ x p.2 in
      let s = bind_ok (mark 93 (skip_blanks q.0.rest)) _ x q.2 in
      subst (λ (y : Read (Option PatTerm)). Found TermHas seen y.value y.seen) (ok_is s.2)
      (term_came p.0 seen q.0 q.1))
  | inr (h, is) ↦ absurd (not_ok is)
]
