-- The shape of what a shape becomes with values put in is that shape, and these values stand at its holes.
use Rattle.std.proofs.Common.{◌≡◌, ℕ, ◌+◌, ◌<◌, Bool, true, false, List, [], ◌∷◌, ◌++◌, map, length, get_or, take}
use Rattle.std.proofs.Common.{refl, sym, ◌∙◌, ap, ap₂, subst, arith}
use Rattle.std.specs.Prelude.{if◌then◌else◌, ◌||◌, ◌&&◌, filter, All, Option, Some, None, is_some}
use Rattle.std.specs.List.{list_any, position_or_len}
use Rattle.std.specs.Option.{option_map}
use Rattle.std.proofs.lemmas.List.{length-append, length-map, get_or_append_left, get_or_default, take_all, take_more}
use Rattle.std.proofs.lemmas.List.{same_lists, get_or-map, map_push}
use Rattle.std.proofs.lemmas.List.Folds.{list_any-append, list_any_at}
use Rattle.std.proofs.lemmas.List.Elements.{All-head, All-tail, All-cons, All-weaker}
use Rattle.po_simplify.proofs.Follows.{map-append}
use Rattle.po_term.specs.declared.term.Reg.{Reg as Register}
use Rattle.po_term.specs.declared.term.Reg.TheVariants.{Virt, Fp, Rv, Arg}
use Rattle.po_term.specs.declared.term.Sym.{Sym}
use Rattle.po_term.specs.declared.term.Label.{Label}
use Rattle.po_term.specs.Tree.{Tree, Const, Leaf, Read, Unary, Binary}
use Rattle.po_term.specs.Terms.{Place, InReg, AtSym}
use Rattle.po_term.specs.Moves.{GoTo, IfCc, IfTwo, CallOf, Return, SetTo, CcTo, StoreTo, Ends, PlainMove}
use Rattle.po_term.specs.Simplified.{reg_eq}
use Rattle.po_model.specs.Parts.{sym_eq}
use Rattle.po_model.specs.Pairs.{PlainPair, is_live_after}
use Rattle.po_model.specs.Holed.{InPReg, AtSymHole, label_hole, PlainValues}
use Rattle.po_model.specs.Shape.{meet_register, meet_symbol, meet_tree, meet_move, meet_moves, nothing_met}
use Rattle.po_model.specs.Shape.{pair_values, pair_shape, shape_with, constants, move_constants, moves_constants}
use Rattle.po_model.specs.Shape.{hole_register, hole_symbol, hole_tree, hole_move, hole_moves, live_holes, settable}
use Rattle.po_model.specs.Put.{put_register, put_symbol, put_label, put_tree, put_move, label_or}
use Rattle.po_skel.specs.Values.{Belong, put_pair, Stays}
use Rattle.po_skel.proofs.Meeting.{Longer, longer_self, longer_then, register_longer, symbol_longer, moves_longer}
use Rattle.po_skel.proofs.Meeting.{after_register, after_first, after_move, before_label}
use Rattle.po_skel.proofs.Meeting.{next_of_register, next_of_tree, next_of_move}
use Rattle.po_skel.proofs.Known.{one_register, register_itself, one_symbol, symbol_itself, place_below, IsMet}
use Rattle.po_skel.proofs.Known.{IsKnown, IsSymMet, known_met, register_met, symbol_met, register_back, symbol_back}
use Rattle.po_skel.proofs.Known.{no_sym}
use Rattle.po_skel.proofs.Apart.{Proper, number_of, proper_of, pair_proper, hole_at, symbol_at, regs_known}
use Rattle.po_skel.proofs.Apart.{syms_met}
use Rattle.po_skel.proofs.Live.{settable_known}
use Rattle.po_skel.proofs.PutBack.{from_none}

-- what holds of each of a list holds of each of its front
front : {X : Type 0} (P : X → Type 0) (xs ys zs : List X) → zs ≡ xs ++ ys → All P zs → All P xs
front P xs ys zs e h k d l =
    let long = ap length e in
    let parts = length-append xs ys in
    subst P (ap (λ (l : List _). get_or l k d) e ∙ get_or_append_left xs ys d k l) (h k d (omega arith))

-- what the walk makes of a register that is virtual
meet_virtual : (y : PlainValues) (x : Register) (n : ℕ) (b : Bool) → x ≡ Virt n → list_any (reg_eq x) y.regs ≡ b
    → meet_register y x ≡ (if b then y else record y { regs = y.regs ++ x ∷ [] })
meet_virtual y x n b e f =
    subst (λ (z : Register). list_any (reg_eq z) y.regs ≡ b
    → meet_register y z ≡ (if b then y else record y { regs = y.regs ++ z ∷ [] })) (sym e)
    (λ g. ap (λ (c : Bool). if c then y else record y { regs = y.regs ++ Virt n ∷ [] }) g) f

-- one test, on both sides of a map that keeps what is one and what is two
same_tests : (b c : Bool) → (b ≡ true → c ≡ true) → (c ≡ true → b ≡ true) → b ≡ c
same_tests true true f g = refl
same_tests false false f g = refl
same_tests true false f g = sym (f refl)
same_tests false true f g = g refl

module _ (v w : PlainValues) (proper : Proper v) (other : Proper w) (belong : Belong v w) where
  abbrev new_register : Register → Register
  new_register r = put_register w (hole_register v r)

  abbrev new_symbol : Sym → Sym
  new_symbol s = put_symbol w (hole_symbol v s)

  hole_again : (r : Register) → IsMet v r → hole_register w (new_register r) ≡ hole_register v r
  hole_again (Virt n) h =
      let below = place_below (reg_eq (Virt n)) v.regs h in
      let long = belong.registers in
      hole_at w other (position_or_len (reg_eq (Virt n)) v.regs) (omega arith)
  hole_again Fp h = refl
  hole_again Rv h = refl
  hole_again (Arg n) h = refl

  symbol_again : (s : Sym) → IsSymMet v s → hole_symbol w (new_symbol s) ≡ hole_symbol v s
  symbol_again s h =
      let below = place_below (sym_eq s) v.syms h in
      let long = belong.symbols in
      symbol_at w other (position_or_len (sym_eq s) v.syms) (omega arith)

  one_as_one : (r q : Register) → IsMet v r → IsMet v q → reg_eq (new_register r) (new_register q) ≡ reg_eq r q
  one_as_one r q h i = same_tests (reg_eq (new_register r) (new_register q)) (reg_eq r q) back there
    where
      back : reg_eq (new_register r) (new_register q) ≡ true → reg_eq r q ≡ true
      back e =
          let hole : hole_register v r ≡ hole_register v q =
          sym (hole_again r h) ∙ ap (hole_register w) (one_register (new_register r) (new_register q) e)
          ∙ hole_again q i in
          let one : r ≡ q = sym (register_back v r h) ∙ ap (put_register v) hole ∙ register_back v q i in
          ap (reg_eq r) (sym one) ∙ register_itself r

      there : reg_eq r q ≡ true → reg_eq (new_register r) (new_register q) ≡ true
      there e = ap (λ x. reg_eq (new_register r) (new_register x)) (sym (one_register r q e))
          ∙ register_itself (new_register r)

  one_symbol_as_one : (s t : Sym) → IsSymMet v s → IsSymMet v t → sym_eq (new_symbol s) (new_symbol t) ≡ sym_eq s t
  one_symbol_as_one s t h i = same_tests (sym_eq (new_symbol s) (new_symbol t)) (sym_eq s t) back there
    where
      back : sym_eq (new_symbol s) (new_symbol t) ≡ true → sym_eq s t ≡ true
      back e =
          let hole : hole_symbol v s ≡ hole_symbol v t =
          sym (symbol_again s h) ∙ ap (hole_symbol w) (one_symbol (new_symbol s) (new_symbol t) e)
          ∙ symbol_again t i in
          let one : s ≡ t = sym (symbol_back v s h) ∙ ap (put_symbol v) hole ∙ symbol_back v t i in
          ap (sym_eq s) (sym one) ∙ symbol_itself s

      there : sym_eq s t ≡ true → sym_eq (new_symbol s) (new_symbol t) ≡ true
      there e = ap (λ x. sym_eq (new_symbol s) (new_symbol x)) (sym (one_symbol s t e)) ∙ symbol_itself (new_symbol s)

  any_register : (r : Register) (rs : List Register) → IsMet v r → All (IsMet v) rs
      → list_any (reg_eq (new_register r)) (map new_register rs) ≡ list_any (reg_eq r) rs
  any_register r [] h i = refl
  any_register r (q ∷ rs) h i =
      rw (
        one_as_one r q h (All-head (IsMet v) q rs i),
        any_register r rs h (All-tail (IsMet v) q rs i),
      ) refl

  any_symbol : (s : Sym) (ss : List Sym) → IsSymMet v s → All (IsSymMet v) ss
      → list_any (sym_eq (new_symbol s)) (map new_symbol ss) ≡ list_any (sym_eq s) ss
  any_symbol s [] h i = refl
  any_symbol s (t ∷ ss) h i =
      rw (
        one_symbol_as_one s t h (All-head (IsSymMet v) t ss i),
        any_symbol s ss h (All-tail (IsSymMet v) t ss i),
      ) refl

  regs_met : (u : PlainValues) → Longer u v → All (IsMet v) u.regs
  regs_met u h = front (IsMet v) u.regs h.regs v.regs h.more_regs
      (All-weaker (IsKnown v) (IsMet v) (known_met v) v.regs (regs_known v proper))

  all_syms_met : (u : PlainValues) → Longer u v → All (IsSymMet v) u.syms
  all_syms_met u h = front (IsSymMet v) u.syms h.syms v.syms h.more_syms (syms_met v)

  -- The walk through what was put meets what the walk of the pair met, with the other values

  abbrev new_values : PlainValues → PlainValues
  new_values u =
      record {
        regs = map new_register u.regs;
        syms = map new_symbol u.syms;
        label = option_map (λ l. put_label w label_hole) u.label;
        consts = take (length u.consts) w.consts;
      }

  meets_register : (u : PlainValues) (r : Register) → Longer (meet_register u r) v
      → meet_register (new_values u) (new_register r) ≡ new_values (meet_register u r)
  meets_register u (Virt n) h =
      meet_virtual (new_values u) (new_register (Virt n)) (number_of (new_register (Virt n)))
      (list_any (reg_eq (Virt n)) u.regs) virtual
      (any_register (Virt n) u.regs met (regs_met u (longer_then u (meet_register u (Virt n)) v
      (register_longer u (Virt n)) h)))
      ∙ go (list_any (reg_eq (Virt n)) u.regs)
    where
      met : IsMet v (Virt n)
      met = register_met u v (Virt n) h

      virtual : new_register (Virt n) ≡ Virt (number_of (new_register (Virt n)))
      virtual =
          let below = place_below (reg_eq (Virt n)) v.regs met in
          let long = belong.registers in
          other.virtual (position_or_len (reg_eq (Virt n)) v.regs) (omega arith)

      go : (b : Bool)
          → (if b then new_values u else record (new_values u)
          { regs = map new_register u.regs ++ new_register (Virt n) ∷ [] })
          ≡ new_values (if b then u else record u { regs = u.regs ++ Virt n ∷ [] })
      go true = refl
      go false =
          ap (λ rs. let x : PlainValues = record (new_values u) { regs = rs } in x)
          (sym (map_push new_register u.regs (Virt n)))
  meets_register u Fp h = refl
  meets_register u Rv h = refl
  meets_register u (Arg n) h = refl

  meets_symbol : (u : PlainValues) (s : Sym) → Longer (meet_symbol u s) v
      → meet_symbol (new_values u) (new_symbol s) ≡ new_values (meet_symbol u s)
  meets_symbol u s h =
      ap (λ (c : Bool). if c then new_values u else record (new_values u)
      { syms = map new_symbol u.syms ++ new_symbol s ∷ [] })
      (any_symbol s u.syms (symbol_met u v s h) (all_syms_met u (longer_then u (meet_symbol u s) v
      (symbol_longer u s) h)))
      ∙ go (list_any (sym_eq s) u.syms)
    where
      go : (b : Bool)
          → (if b then new_values u else record (new_values u)
          { syms = map new_symbol u.syms ++ new_symbol s ∷ [] })
          ≡ new_values (if b then u else record u { syms = u.syms ++ s ∷ [] })
      go true = refl
      go false =
          ap (λ ss. let x : PlainValues = record (new_values u) { syms = ss } in x)
          (sym (map_push new_symbol u.syms s))

  next_word : (u : PlainValues) (n c : ℕ) → n ≡ length u.consts
      → Longer (record u { consts = u.consts ++ c ∷ [] }) v
      → take (length u.consts) w.consts ++ get_or w.consts n 0 ∷ [] ≡ take (length (u.consts ++ c ∷ [])) w.consts
  next_word u n c e h =
      let all = ap length h.more_consts in
      let parts = length-append (u.consts ++ c ∷ []) h.consts in
      let one : length (u.consts ++ c ∷ []) ≡ length u.consts + 1 = length-append u.consts (c ∷ []) in
      let long = belong.constants in
      let there : length u.consts < length w.consts = omega arith in
      ap (λ k. take (length u.consts) w.consts ++ get_or w.consts k 0 ∷ []) e
      ∙ sym (take_more w.consts (length u.consts) 0 there)
      ∙ ap (λ k. take k w.consts) (sym one)

  meets_tree : (u : PlainValues) (n : ℕ) (t : Tree ℕ Place) → n ≡ length u.consts → Longer (meet_tree u t) v
      → meet_tree (new_values u) (put_tree w (hole_tree v n t)) ≡ new_values (meet_tree u t)
  meets_tree u n (Const c) e h =
      ap (λ cs. let x : PlainValues = record (new_values u) { consts = cs } in x) (next_word u n c e h)
  meets_tree u n (Leaf (InReg r)) e h = meets_register u r h
  meets_tree u n (Leaf (AtSym s)) e h = meets_symbol u s h
  meets_tree u n (Read t) e h = meets_tree u n t e h
  meets_tree u n (Unary o t) e h = meets_tree u n t e h
  meets_tree u n (Binary o t s) e h =
      ap (λ x. meet_tree x (put_tree w (hole_tree v (n + constants t) s)))
      (meets_tree u n t e (after_first u v t s h))
      ∙ meets_tree (meet_tree u t) (n + constants t) s (next_of_tree u n t e) h

  meets_two : (u : PlainValues) (n : ℕ) (t s : Tree ℕ Place) → n ≡ length u.consts
      → Longer (meet_tree (meet_tree u t) s) v
      → meet_tree (meet_tree (new_values u) (put_tree w (hole_tree v n t)))
      (put_tree w (hole_tree v (n + constants t) s))
      ≡ new_values (meet_tree (meet_tree u t) s)
  meets_two u n t s e h =
      ap (λ x. meet_tree x (put_tree w (hole_tree v (n + constants t) s)))
      (meets_tree u n t e (after_first u v t s h))
      ∙ meets_tree (meet_tree u t) (n + constants t) s (next_of_tree u n t e) h

  meets_move : (u : PlainValues) (n : ℕ) (m : PlainMove) → n ≡ length u.consts → Longer (meet_move u m) v
      → meet_move (new_values u) (put_move w (hole_move v n m)) ≡ new_values (meet_move u m)
  meets_move u n (SetTo r t) e h =
      ap (λ x. meet_tree x (put_tree w (hole_tree v n t))) (meets_register u r (after_register u v r t h))
      ∙ meets_tree (meet_register u r) n t (next_of_register u n r e) h
  meets_move u n (CcTo t s) e h = meets_two u n t s e h
  meets_move u n (StoreTo t s) e h = meets_two u n t s e h
  meets_move u n (Ends (GoTo l)) e h = refl
  meets_move u n (Ends (IfCc r l)) e h = refl
  meets_move u n (Ends (IfTwo t s r l)) e h =
      ap (λ (x : PlainValues). let y : PlainValues = record x { label = Some (put_label w label_hole) } in y)
      (meets_two u n t s e (before_label (meet_tree (meet_tree u t) s) v l h))
  meets_move u n (Ends (CallOf s k)) e h = meets_symbol u s h
  meets_move u n (Ends Return) e h = refl

  meets_moves : (u : PlainValues) (n : ℕ) (ms : List PlainMove) → n ≡ length u.consts → Longer (meet_moves u ms) v
      → meet_moves (new_values u) (map (put_move w) (hole_moves v n ms)) ≡ new_values (meet_moves u ms)
  meets_moves u n [] e h = refl
  meets_moves u n (m ∷ ms) e h =
      ap (λ x. meet_moves x (map (put_move w) (hole_moves v (n + move_constants m) ms)))
      (meets_move u n m e (after_move u v m ms h))
      ∙ meets_moves (meet_move u m) (n + move_constants m) ms (next_of_move u n m e) h

  -- What was met is now what was put

  all_registers : map new_register v.regs ≡ w.regs
  all_registers = same_lists (map new_register v.regs) w.regs
      (length-map v.regs new_register ∙ sym belong.registers) each
    where
      each : (k : ℕ) (d : Register) → k < length (map new_register v.regs)
          → get_or (map new_register v.regs) k d ≡ get_or w.regs k d
      each k d h =
          let long = length-map v.regs new_register in
          let low : k < length v.regs = omega arith in
          let wide = belong.registers in
          get_or-map new_register v.regs k Fp d low
          ∙ ap (put_register w) (hole_at v proper k low)
          ∙ get_or_default w.regs k Fp d (omega arith)

  all_symbols : map new_symbol v.syms ≡ w.syms
  all_symbols = same_lists (map new_symbol v.syms) w.syms
      (length-map v.syms new_symbol ∙ sym belong.symbols) each
    where
      each : (k : ℕ) (d : Sym) → k < length (map new_symbol v.syms)
          → get_or (map new_symbol v.syms) k d ≡ get_or w.syms k d
      each k d h =
          let long = length-map v.syms new_symbol in
          let low : k < length v.syms = omega arith in
          let wide = belong.symbols in
          get_or-map new_symbol v.syms k no_sym d low
          ∙ ap (put_symbol w) (symbol_at v proper k low)
          ∙ get_or_default w.syms k no_sym d (omega arith)

  one_label : (o p : Option Label) → is_some o ≡ is_some p → option_map (λ l. label_or o label_hole) p ≡ o
  one_label None None e = refl
  one_label (Some l) (Some m) e = refl
  one_label None (Some m) e = absurd (cc)
  one_label (Some l) None e = absurd (cc)

  all_words : take (length v.consts) w.consts ≡ w.consts
  all_words = let long = belong.constants in take_all (length v.consts) w.consts (omega arith)

  all_values : new_values v ≡ w
  all_values =
      rw (all_registers, all_symbols, one_label w.label v.label belong.label, all_words) refl

  -- The holes of what was put are those that it was put into

  as_many : (n : ℕ) (t : Tree ℕ Place) → constants (put_tree w (hole_tree v n t)) ≡ constants t
  as_many n (Const c) = refl
  as_many n (Leaf (InReg r)) = refl
  as_many n (Leaf (AtSym s)) = refl
  as_many n (Read t) = as_many n t
  as_many n (Unary o t) = as_many n t
  as_many n (Binary o t s) = rw (as_many n t, as_many (n + constants t) s) refl

  move_as_many : (n : ℕ) (m : PlainMove) → move_constants (put_move w (hole_move v n m)) ≡ move_constants m
  move_as_many n (SetTo r t) = as_many n t
  move_as_many n (CcTo t s) = rw (as_many n t, as_many (n + constants t) s) refl
  move_as_many n (StoreTo t s) = rw (as_many n t, as_many (n + constants t) s) refl
  move_as_many n (Ends (GoTo l)) = refl
  move_as_many n (Ends (IfCc r l)) = refl
  move_as_many n (Ends (IfTwo t s r l)) = rw (as_many n t, as_many (n + constants t) s) refl
  move_as_many n (Ends (CallOf s k)) = refl
  move_as_many n (Ends Return) = refl

  moves_as_many : (n : ℕ) (ms : List PlainMove)
      → moves_constants (map (put_move w) (hole_moves v n ms)) ≡ moves_constants ms
  moves_as_many n [] = refl
  moves_as_many n (m ∷ ms) = rw (move_as_many n m, moves_as_many (n + move_constants m) ms) refl

  tree_again : (u : PlainValues) (n : ℕ) (t : Tree ℕ Place) → Longer (meet_tree u t) v
      → hole_tree w n (put_tree w (hole_tree v n t)) ≡ hole_tree v n t
  tree_again u n (Const c) h = refl
  tree_again u n (Leaf (InReg r)) h = ap (λ q. Leaf (InPReg q)) (hole_again r (register_met u v r h))
  tree_again u n (Leaf (AtSym s)) h = ap (λ k. Leaf (AtSymHole k)) (symbol_again s (symbol_met u v s h))
  tree_again u n (Read t) h = ap (λ x. Read x) (tree_again u n t h)
  tree_again u n (Unary o t) h = ap (λ x. Unary o x) (tree_again u n t h)
  tree_again u n (Binary o t s) h =
      rw (
        as_many n t,
        tree_again u n t (after_first u v t s h),
        tree_again (meet_tree u t) (n + constants t) s h,
      ) refl

  move_again : (u : PlainValues) (n : ℕ) (m : PlainMove) → Longer (meet_move u m) v
      → hole_move w n (put_move w (hole_move v n m)) ≡ hole_move v n m
  move_again u n (SetTo r t) h =
      rw (
        hole_again r (register_met u v r (after_register u v r t h)),
        tree_again (meet_register u r) n t h,
      ) refl
  move_again u n (CcTo t s) h =
      rw (
        as_many n t,
        tree_again u n t (after_first u v t s h),
        tree_again (meet_tree u t) (n + constants t) s h,
      ) refl
  move_again u n (StoreTo t s) h =
      rw (
        as_many n t,
        tree_again u n t (after_first u v t s h),
        tree_again (meet_tree u t) (n + constants t) s h,
      ) refl
  move_again u n (Ends (GoTo l)) h = refl
  move_again u n (Ends (IfCc r l)) h = refl
  move_again u n (Ends (IfTwo t s r l)) h =
      let k = before_label (meet_tree (meet_tree u t) s) v l h in
      rw (
        as_many n t,
        tree_again u n t (after_first u v t s k),
        tree_again (meet_tree u t) (n + constants t) s k,
      ) refl
  move_again u n (Ends (CallOf s k)) h = ap (λ x. Ends (CallOf x k)) (symbol_again s (symbol_met u v s h))
  move_again u n (Ends Return) h = refl

  moves_again : (u : PlainValues) (n : ℕ) (ms : List PlainMove) → Longer (meet_moves u ms) v
      → hole_moves w n (map (put_move w) (hole_moves v n ms)) ≡ hole_moves v n ms
  moves_again u n [] h = refl
  moves_again u n (m ∷ ms) h =
      rw (
        move_again u n m (after_move u v m ms h),
        move_as_many n m,
        moves_again (meet_move u m) (n + move_constants m) ms h,
      ) refl

  -- What is live

  and_false : (b : Bool) → (b && false) ≡ false
  and_false true = refl
  and_false false = refl

  any_filter : (live : Register → Bool) (r : Register) (xs : List Register)
      → list_any (reg_eq r) (filter live xs) ≡ (list_any (reg_eq r) xs && live r)
  any_filter live r [] = refl
  any_filter live r (x ∷ xs) = go (live x) refl (reg_eq r x) refl (any_filter live r xs)
    where
      go : (b : Bool) → live x ≡ b → (c : Bool) → reg_eq r x ≡ c
          → list_any (reg_eq r) (filter live xs) ≡ (list_any (reg_eq r) xs && live r)
          → list_any (reg_eq r) (if b then x ∷ filter live xs else filter live xs)
          ≡ ((c || list_any (reg_eq r) xs) && live r)
      go true e true f ih =
          ap (λ c. c || list_any (reg_eq r) (filter live xs)) f ∙ sym (ap live (one_register r x f) ∙ e)
      go true e false f ih = ap (λ c. c || list_any (reg_eq r) (filter live xs)) f ∙ ih
      go false e true f ih =
          let dead : live r ≡ false = ap live (one_register r x f) ∙ e in
          ih ∙ ap (λ c. list_any (reg_eq r) xs && c) dead ∙ and_false (list_any (reg_eq r) xs) ∙ sym dead
      go false e false f ih = ih

  filter_met : (live : Register → Bool) (xs : List Register) → All (IsMet v) xs → All (IsMet v) (filter live xs)
  filter_met live [] h = h
  filter_met live (x ∷ xs) h = go (live x) (filter_met live xs (All-tail (IsMet v) x xs h))
    where
      go : (b : Bool) → All (IsMet v) (filter live xs)
          → All (IsMet v) (if b then x ∷ filter live xs else filter live xs)
      go true i = All-cons (IsMet v) x (filter live xs) (All-head (IsMet v) x xs h) i
      go false i = i

  same_live : (live new : Register → Bool) (rs : List Register)
      → All (λ r. IsMet v r × (new (new_register r) ≡ live r)) rs
      → live_holes w new (map new_register rs) ≡ live_holes v live rs
  same_live live new [] h = refl
  same_live live new (r ∷ rs) h =
      let one = All-head (λ r. IsMet v r × (new (new_register r) ≡ live r)) r rs h in
      rw (one.1) (go one.0 (live r) (same_live live new rs
      (All-tail (λ r. IsMet v r × (new (new_register r) ≡ live r)) r rs h)))
    where
      go : IsMet v r → (b : Bool) → live_holes w new (map new_register rs) ≡ live_holes v live rs
          → map (hole_register w)
          (if b then new_register r ∷ filter new (map new_register rs) else filter new (map new_register rs))
          ≡ map (hole_register v) (if b then r ∷ filter live rs else filter live rs)
      go met true i = rw (hole_again r met) (ap (λ qs. hole_register v r ∷ qs) i)
      go met false i = i

  fused : (xs : List Register) → map (put_register w) (map (hole_register v) xs) ≡ map new_register xs
  fused [] = refl
  fused (x ∷ xs) = ap (λ ys. new_register x ∷ ys) (fused xs)

  one_of_both : (a b c : Bool) → (a || b) ≡ true → ((a && c) || (b && c)) ≡ c
  one_of_both true b true h = refl
  one_of_both true b false h = and_false b
  one_of_both false true c h = refl
  one_of_both false false c h = absurd (cc)

  settable_met : All (IsMet v) settable
  settable_met = All-weaker (IsKnown v) (IsMet v) (known_met v) settable (settable_known v)

  module _ (live : Register → Bool) where
    -- whether a register is live after what was put
    abbrev new_live : Register → Bool
    new_live r =
        list_any (reg_eq r) (map (put_register w) (live_holes v live v.regs ++ live_holes v live settable))

    lives : (r : Register) → IsMet v r → (list_any (reg_eq r) v.regs || list_any (reg_eq r) settable) ≡ true
        → new_live (new_register r) ≡ live r
    lives r met there =
        ap (list_any (reg_eq (new_register r)))
        (map-append (put_register w) (live_holes v live v.regs) (live_holes v live settable)
        ∙ ap₂ (λ xs ys. xs ++ ys) (fused (filter live v.regs)) (fused (filter live settable)))
        ∙ list_any-append (reg_eq (new_register r)) (map new_register (filter live v.regs))
        (map new_register (filter live settable))
        ∙ ap₂ (λ b c. b || c)
        (any_register r (filter live v.regs) met (filter_met live v.regs (regs_met v (longer_self v)))
        ∙ any_filter live r v.regs)
        (any_register r (filter live settable) met (filter_met live settable settable_met)
        ∙ any_filter live r settable)
        ∙ one_of_both (list_any (reg_eq r) v.regs) (list_any (reg_eq r) settable) (live r) there

    first_live : live_holes w new_live w.regs ≡ live_holes v live v.regs
    first_live =
        ap (live_holes w new_live) (sym all_registers) ∙ same_live live new_live v.regs each
      where
        each : All (λ r. IsMet v r × (new_live (new_register r) ≡ live r)) v.regs
        each k d h =
            let r = get_or v.regs k d in
            let met = regs_met v (longer_self v) k d h in
            let there = list_any_at (reg_eq r) v.regs k d h (register_itself r) in
            (met, lives r met (ap (λ b. b || list_any (reg_eq r) settable) there))

    second_live : live_holes w new_live settable ≡ live_holes v live settable
    second_live = same_live live new_live settable each
      where
        or_true : (b c : Bool) → c ≡ true → (b || c) ≡ true
        or_true true c e = refl
        or_true false c e = e

        each : All (λ r. IsMet v r × (new_live (new_register r) ≡ live r)) settable
        each k d h =
            let r = get_or settable k d in
            let met = settable_met k d h in
            let there = list_any_at (reg_eq r) settable k d h (register_itself r) in
            (met, lives r met (or_true (list_any (reg_eq r) v.regs) (list_any (reg_eq r) settable) there))

module _ (p : PlainPair) (w : PlainValues) (belong : Belong (pair_values p) w) where
  abbrev v : PlainValues
  v = pair_values p

  abbrev q : PlainPair
  q = put_pair w (pair_shape p)

  other : Proper w
  other = proper_of w belong.differ

  after_a : Longer (meet_moves nothing_met p.a) v
  after_a = moves_longer (meet_moves nothing_met p.a) p.b

  same_values : pair_values q ≡ w
  same_values =
      ap (λ x. meet_moves x q.b) (meets_moves v w (pair_proper p) other belong nothing_met 0 p.a refl after_a)
      ∙ meets_moves v w (pair_proper p) other belong (meet_moves nothing_met p.a) (moves_constants p.a) p.b
      (from_none p.a) (longer_self v)
      ∙ all_values v w (pair_proper p) other belong

  same_shape : pair_shape q ≡ pair_shape p
  same_shape =
      ap (λ x. shape_with x q) same_values
      ∙ rw (
        moves_again v w (pair_proper p) other belong nothing_met 0 p.a after_a,
        moves_as_many v w (pair_proper p) other belong 0 p.a,
        moves_again v w (pair_proper p) other belong (meet_moves nothing_met p.a) (moves_constants p.a) p.b
            (longer_self v),
        first_live v w (pair_proper p) other belong (is_live_after p),
        second_live v w (pair_proper p) other belong (is_live_after p),
      ) refl

  pub stays : Stays p w
  stays = record { shape = same_shape; values = same_values }
