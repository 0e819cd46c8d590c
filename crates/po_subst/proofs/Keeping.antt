-- The list that two instructions come to does what they do.
use Rattle.std.proofs.Common.{◌≡◌, ℕ, Bool, true, false, List, ◌++◌, refl, sym, ◌∙◌, ap, subst, lit<}
use Rattle.std.specs.Prelude.{◌==◌, not, ◌||◌, ◌&&◌, is_some, if◌then◌else◌, Option, Some, None, filter}
use Rattle.std.specs.Option.{option_or}
use Rattle.std.proofs.Math.Path.{fun_ext}
use Rattle.std.proofs.lemmas.Bool.{false≢true}
use Rattle.po_term.specs.declared.term.Reg.{Reg as Register}
use Rattle.po_term.specs.declared.term.Alias.{Alias}
use Rattle.po_term.specs.declared.term.Alias.TheVariants.{Same, Apart, Maybe}
use Rattle.po_term.specs.Terms.{Place, State, IsState, value, PlainTerm}
use Rattle.po_term.specs.Kinds.{words}
use Rattle.po_term.specs.Actions.{MovesHaveWords}
use Rattle.po_term.specs.Form.{WellFormed}
use Rattle.po_model.specs.Parts.{code_leaves, right_at, cc_of, store_of, ending_of}
use Rattle.po_model.specs.Forward.{alias_of}
use Rattle.po_model.specs.Meets.{Meets}
use Rattle.po_model.specs.Effect.{new_word, new_memory, new_cc, after, goes, effect}
use Rattle.po_model.specs.Keeps.{live_at, matters, cc_matters, SameEffect, effect_of_both}
use Rattle.po_model.specs.Joined.{is_same, covers, is_set, is_cc, is_store, is_control, is_away, is_wanted, is_kept}
use Rattle.po_model.specs.Joined.{in_order, assembled, forward_moves, joined}
use Rattle.po_subst.specs.Order.{is_moving}
use Rattle.po_subst.specs.KeepsEffect.{OfList}
use Rattle.po_subst.proofs.Keeps.{Keeps, none_ends, same_effect}
use Rattle.po_subst.proofs.Meeting.{alias_right}
use Rattle.po_subst.proofs.Lookups.{right_append, cc_append, store_append, ending_append}
use Rattle.po_subst.proofs.Alike.{Two, TwoHasWords, LikeRight, LikeTwo, IsSingle, Alike, where_at, like_some, two_some}
use Rattle.po_subst.proofs.Alike.{simple_alike, forward_alike, store_words}
use Rattle.po_subst.proofs.Joint.{simplified, wanted, Joining, joined_where, single_of, words_of, words_append}
use Rattle.po_subst.proofs.Joint.{words_filter, none_filter, single_filter, right_wanted_at, cc_wanted_of}
use Rattle.po_subst.proofs.Joint.{store_wanted_of, ending_wanted_of, right_kept_at, cc_kept_of, store_kept_of}
use Rattle.po_subst.proofs.Joint.{ending_kept_of, single_beside, moving_word, right_listed, cc_listed, store_listed}
use Rattle.po_subst.proofs.Joint.{ending_listed}
use Rattle.po_term.specs.Moves.{PlainMove, PlainInstr}

-- the state after a list, and after one that is like it in the same state
word_alike : (s : State) (o p : Option PlainTerm) (w : ℕ) → LikeRight s s o p → new_word s p w ≡ new_word s o w
word_alike s None None w h = refl
word_alike s (Some t) (Some u) w h = h.worth
word_alike s None (Some u) w h = absurd h
word_alike s (Some t) None w h = absurd h

memory_alike : (s : State) (m n : Option Two) (c : ℕ) → LikeTwo s s m n → new_memory s n c ≡ new_memory s m c
memory_alike s None None c h = refl
memory_alike s (Some m) (Some n) c h = rw (h.left.worth, h.right.worth) refl
memory_alike s None (Some n) c h = absurd h
memory_alike s (Some m) None c h = absurd h

cc_alike : (s : State) (m n : Option Two) → LikeTwo s s m n → new_cc s n ≡ new_cc s m
cc_alike s None None h = refl
cc_alike s (Some m) (Some n) h = rw (h.left.worth, h.right.worth) refl
cc_alike s None (Some n) h = absurd h
cc_alike s (Some m) None h = absurd h

state_same : (f g : Place → ℕ) (h i : ℕ → ℕ) (x y : Option (ℕ × ℕ)) → f ≡ g → h ≡ i → x ≡ y
    → ◌≡◌ {A = State} (record { place = f; memory = h; cc = x }) (record { place = g; memory = i; cc = y })
state_same f g h i x y d e j = rw (d, e, j) refl

after_alike : (s : State) (ms ns : List PlainMove) → Alike s s ms ns → after s ns ≡ after s ms
after_alike s ms ns h =
    state_same (after s ns).place (after s ms).place (after s ns).memory (after s ms).memory (after s ns).cc
    (after s ms).cc
    (fun_ext (λ p. word_alike s (right_at code_leaves p ms) (right_at code_leaves p ns) (s.place p) (h.rights p)))
    (fun_ext (λ c. memory_alike s (store_of ms) (store_of ns) c h.stored))
    (cc_alike s (cc_of ms) (cc_of ns) h.compared)

-- a register: by what A and B set it to, and what B's set became
place_same : (s r : State) (l : Bool) (oa ob oy : Option PlainTerm) (w : ℕ) → LikeRight s r (if l then ob else None) oy
    → (l || (not (is_some oa) && not (is_some ob))) ≡ true
    → new_word r ob (new_word s oa w)
    ≡ new_word s (option_or (if l && not (is_some (if l then ob else None)) then oa else None) oy) w
place_same s r true None None None w h e = refl
place_same s r true (Some t) None None w h e = refl
place_same s r true oa (Some t) (Some u) w h e = sym h.worth
place_same s r true oa None (Some u) w h e = absurd h
place_same s r true oa (Some t) None w h e = absurd h
place_same s r false None None None w h e = refl
place_same s r false oa ob (Some u) w h e = absurd h
place_same s r false (Some t) ob None w h e = absurd (false≢true e)
place_same s r false None (Some t) None w h e = absurd (false≢true e)

cc_same : (s r : State) (l : Bool) (oa ob oy : Option Two) → r.cc ≡ new_cc s oa
    → LikeTwo s r (if l then ob else None) oy → (l || (not (is_some oa) && not (is_some ob))) ≡ true
    → new_cc r ob ≡ new_cc s (option_or (if l && not (is_some (if l then ob else None)) then oa else None) oy)
cc_same s r true None None None k h e = k
cc_same s r true (Some t) None None k h e = k
cc_same s r true oa (Some m) (Some n) k h e = rw (h.left.worth, h.right.worth) refl
cc_same s r true oa None (Some n) k h e = absurd h
cc_same s r true oa (Some m) None k h e = absurd h
cc_same s r false None None None k h e = k
cc_same s r false oa ob (Some n) k h e = absurd h
cc_same s r false (Some m) ob None k h e = absurd (false≢true e)
cc_same s r false None (Some m) None k h e = absurd (false≢true e)

-- the same store into the same memory
stored_alike : (c x y u v : ℕ) (f g : ℕ → ℕ) → y ≡ x → v ≡ u → f ≡ g
    → (if c == x then u else f c) ≡ (if c == y then v else g c)
stored_alike c x y u v f g d e m = rw (d, e, m) refl

-- a store over one at the same address
stored_over : (c x y u v old : ℕ) → x ≡ y
    → (if c == x then u else (if c == y then v else old)) ≡ (if c == x then u else old)
stored_over c x y u v old e = go (c == x) refl
  where
    go : (b : Bool) → (c == x) ≡ b → (if b then u else (if c == y then v else old)) ≡ (if b then u else old)
    go true d = refl
    go false d = rw (← e, d) refl

same_of : (e : Alias) → is_same e ≡ true → e ≡ Same
same_of Same h = refl
same_of Apart h = absurd (false≢true h)
same_of Maybe h = absurd (false≢true h)

module _ (s : State) (fits : IsState s) where
  at_one : (m n : Two) → TwoHasWords (Some m) → TwoHasWords (Some n)
      → (covers words code_leaves (Some m) (Some n)).got ≡ true → value s m.0 ≡ value s n.0
  at_one m n h i e =
      let same : (alias_of words code_leaves m.0 n.0).got ≡ Same =
      same_of (alias_of words code_leaves m.0 n.0).got e in
      let meets : Meets Same s m.0 n.0 =
      subst (λ (x : Alias). Meets x s m.0 n.0) same (alias_right s fits m.0 n.0 h.0 i.0) in
      meets

  -- memory: by what A and B store, and what B's store became
  store_same : (r : State) (oa ob oy : Option Two) → r.memory ≡ new_memory s oa → TwoHasWords oa → LikeTwo s r ob oy
      → (covers words code_leaves oa oy).got ≡ true → (c : ℕ)
      → new_memory r ob c ≡ new_memory s (option_or (if not (is_some ob) then oa else None) oy) c
  store_same r None None None e h l v c = ap (λ (f : ℕ → ℕ). f c) e
  store_same r (Some n) None None e h l v c = ap (λ (f : ℕ → ℕ). f c) e
  store_same r None (Some b) (Some m) e h l v c =
      stored_alike c (value r b.0) (value s m.0) (value r b.1) (value s m.1) r.memory s.memory l.left.worth
      l.right.worth e
  store_same r (Some n) (Some b) (Some m) e h l v c =
      stored_alike c (value r b.0) (value s m.0) (value r b.1) (value s m.1) r.memory (new_memory s (Some n))
      l.left.worth l.right.worth e
      ∙ stored_over c (value s m.0) (value s n.0) (value s m.1) (value s n.1) (s.memory c)
      (sym (at_one n m h (l.left.words, l.right.words) v))
  store_same r oa None (Some m) e h l v c = absurd l
  store_same r oa (Some b) None e h l v c = absurd l

  module _ (live : Register → Bool) (cc_live : Bool) (a b f : List PlainMove)
      (like_a : Alike s s a (simplified live cc_live a b))
      (like_b : Alike s (after s (simplified live cc_live a b)) (wanted live cc_live a b) f)
      (j : Joining live cc_live a b f) where
    abbrev simple_a : List PlainMove
    simple_a = simplified live cc_live a b

    abbrev wanted_b : List PlainMove
    wanted_b = wanted live cc_live a b

    abbrev before : State
    before = after s simple_a

    abbrev kept : List PlainMove
    kept = filter (is_kept code_leaves live cc_live wanted_b) simple_a

    abbrev list : List PlainMove
    list = assembled code_leaves live cc_live simple_a wanted_b f

    pub single_both : IsSingle (kept ++ f)
    single_both =
        single_beside live cc_live wanted_b f like_b.single
        (λ p. like_some s before (right_at code_leaves p wanted_b) (right_at code_leaves p f) (like_b.rights p))
        (two_some s before (cc_of wanted_b) (cc_of f) like_b.compared)
        (two_some s before (store_of wanted_b) (store_of f) like_b.stored)
        simple_a like_a.single

    matters_same : (p : Place)
        → (live_at live p
        || (not (is_some (right_at code_leaves p simple_a)) && not (is_some (right_at code_leaves p b))))
        ≡ matters live a b p
    matters_same p =
        rw (like_some s s (right_at code_leaves p a) (right_at code_leaves p simple_a) (like_a.rights p)) refl

    place_kept : (p : Place) → matters live a b p ≡ true
        → new_word before (right_at code_leaves p b) (before.place p)
        ≡ new_word s (right_at code_leaves p list) (s.place p)
    place_kept p e =
        let l : LikeRight s before (if live_at live p then right_at code_leaves p b else None)
        (right_at code_leaves p f) =
        subst (λ (o : Option PlainTerm). LikeRight s before o (right_at code_leaves p f))
        (right_wanted_at live cc_live p b) (like_b.rights p) in
        place_same s before (live_at live p) (right_at code_leaves p simple_a) (right_at code_leaves p b)
        (right_at code_leaves p f) (s.place p) l (matters_same p ∙ e)
        ∙ ap (λ o. new_word s
        (option_or (if live_at live p && not (is_some o) then right_at code_leaves p simple_a else None)
        (right_at code_leaves p f)) (s.place p)) (sym (right_wanted_at live cc_live p b))
        ∙ ap (λ o. new_word s (option_or o (right_at code_leaves p f)) (s.place p))
        (sym (right_kept_at live cc_live wanted_b p simple_a))
        ∙ ap (λ o. new_word s o (s.place p)) (sym (right_append p kept f))
        ∙ sym (moving_word s p (kept ++ f) single_both)
        ∙ ap (λ o. new_word s o (s.place p)) (sym (right_listed p (kept ++ f)))

    cc_kept : cc_matters cc_live a b ≡ true → new_cc before (cc_of b) ≡ new_cc s (cc_of list)
    cc_kept e =
        let l : LikeTwo s before (if cc_live then cc_of b else None) (cc_of f) =
        subst (λ (o : Option Two). LikeTwo s before o (cc_of f)) (cc_wanted_of live cc_live b) like_b.compared in
        let i : (cc_live || (not (is_some (cc_of simple_a)) && not (is_some (cc_of b)))) ≡ cc_matters cc_live a b =
        rw (two_some s s (cc_of a) (cc_of simple_a) like_a.compared) refl in
        cc_same s before cc_live (cc_of simple_a) (cc_of b) (cc_of f) refl l (i ∙ e)
        ∙ ap (λ o. new_cc s (option_or (if cc_live && not (is_some o) then cc_of simple_a else None) (cc_of f)))
        (sym (cc_wanted_of live cc_live b))
        ∙ ap (λ o. new_cc s (option_or o (cc_of f))) (sym (cc_kept_of live cc_live wanted_b simple_a))
        ∙ ap (λ o. new_cc s o) (sym (cc_append kept f))
        ∙ ap (λ o. new_cc s o) (sym (cc_listed (kept ++ f)))

    memory_kept : (c : ℕ) → new_memory before (store_of b) c ≡ new_memory s (store_of list) c
    memory_kept c =
        let l : LikeTwo s before (store_of b) (store_of f) =
        subst (λ (o : Option Two). LikeTwo s before o (store_of f)) (store_wanted_of live cc_live b) like_b.stored
        in
        store_same before (store_of simple_a) (store_of b) (store_of f) refl
        (store_words s fits simple_a like_a.fits simple_a like_a.fits) l j.covered c
        ∙ ap (λ o. new_memory s (option_or (if not (is_some o) then store_of simple_a else None) (store_of f)) c)
        (sym (store_wanted_of live cc_live b))
        ∙ ap (λ o. new_memory s (option_or o (store_of f)) c) (sym (store_kept_of live cc_live wanted_b simple_a))
        ∙ ap (λ o. new_memory s o c) (sym (store_append kept f))
        ∙ ap (λ o. new_memory s o c) (sym (store_listed (kept ++ f)))

    ending_list : ending_of list ≡ ending_of f
    ending_list =
        ending_listed (kept ++ f) ∙ ending_append kept f
        ∙ ap (λ o. option_or o (ending_of f)) (ending_kept_of live cc_live wanted_b simple_a)

    control_kept : goes before (ending_of b) ≡ goes s (ending_of list)
    control_kept =
        ap (λ e. goes before e) (sym (ending_wanted_of live cc_live b)) ∙ like_b.control
        ∙ ap (λ e. goes s e) (sym ending_list)

    stays_kept : is_some (ending_of b) ≡ false → is_some (ending_of list) ≡ false
    stays_kept e =
        ap (λ x. is_some x) ending_list ∙ like_b.stays (ap (λ x. is_some x) (ending_wanted_of live cc_live b) ∙ e)

    words_kept : MovesHaveWords list
    words_kept =
        let all = words_append kept f (words_filter (is_kept code_leaves live cc_live wanted_b) simple_a like_a.fits)
        like_b.fits in
        let ms = kept ++ f in
        words_filter is_moving (in_order ms)
        (words_append (filter is_set ms ++ filter is_cc ms ++ filter is_store ms) (filter is_control ms)
        (words_append (filter is_set ms ++ filter is_cc ms) (filter is_store ms)
        (words_append (filter is_set ms) (filter is_cc ms) (words_filter is_set ms all) (words_filter is_cc ms all))
        (words_filter is_store ms all)) (words_filter is_control ms all))

    pub list_keeps : Keeps live cc_live a b list s
    list_keeps =
        let e : before ≡ after s a = after_alike s a simple_a like_a in
        record {
          control = subst (λ (r : State). goes r (ending_of b) ≡ goes s (ending_of list)) e control_kept;
          memory =
              λ c. subst (λ (r : State). new_memory r (store_of b) c ≡ new_memory s (store_of list) c) e
              (memory_kept c);
          places =
              λ p m. subst
              (λ (r : State). new_word r (right_at code_leaves p b) (r.place p)
              ≡ new_word s (right_at code_leaves p list) (s.place p)) e (place_kept p m);
          compared = λ m. subst (λ (r : State). new_cc r (cc_of b) ≡ new_cc s (cc_of list)) e (cc_kept m);
          words = words_kept;
          stays = stays_kept;
        }

  module _ (live : Register → Bool) (cc_live : Bool) (a b f : List PlainMove) (j : Joining live cc_live a b f) where
    -- A simplified is like A, and B forwarded is like B after A
    pub like_first : WellFormed a → Alike s s a (simplified live cc_live a b)
    like_first h = simple_alike s fits a (words_of a h.each) j.no_control (single_of a h.pairs)

    pub like_second : Alike s s a (simplified live cc_live a b) → WellFormed b
        → Alike s (after s (simplified live cc_live a b)) (wanted live cc_live a b) f
    like_second l h =
        where_at (Alike s (after s (simplified live cc_live a b)) (wanted live cc_live a b))
        (forward_moves words code_leaves (simplified live cc_live a b) (wanted live cc_live a b)).got f j.made
        (forward_alike s fits (simplified live cc_live a b) l.fits (wanted live cc_live a b)
        (words_filter (is_wanted live cc_live) b (words_of b h.each))
        (none_filter is_away (is_wanted live cc_live) b j.no_away)
        (single_filter (is_wanted live cc_live) b (single_of b h.pairs)))

-- a state in which all is 0
abbrev pub zeros : State
zeros = record { place = λ p. 0; memory = λ c. 0; cc = None }

pub zeros_fit : IsState zeros
zeros_fit = record { places = λ p. lit< tt; cells = λ c. lit< tt }

pub joined_keeps : (live : Register → Bool) (cc_live : Bool) (a b : PlainInstr) → WellFormed a → WellFormed b
    → (s : State) → IsState s
    → OfList (joined words code_leaves live cc_live a b).got
    (λ j. SameEffect live cc_live a b (effect_of_both a b s) (effect j s))
joined_keeps live cc_live a b h i s fits =
    joined_where live cc_live a b (λ j. SameEffect live cc_live a b (effect_of_both a b s) (effect j s)) kept
  where
    kept : (f : PlainInstr) → Joining live cc_live a b f
        → SameEffect live cc_live a b (effect_of_both a b s)
        (effect (assembled code_leaves live cc_live (simplified live cc_live a b) (wanted live cc_live a b) f) s)
    kept f j =
        let l = like_first s fits live cc_live a b f j h in
        same_effect live cc_live a b
        (assembled code_leaves live cc_live (simplified live cc_live a b) (wanted live cc_live a b) f) s
        (none_ends a j.no_control)
        (list_keeps s fits live cc_live a b f l (like_second s fits live cc_live a b f j l i) j)
