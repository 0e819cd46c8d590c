-- A list of transfers that is worth in one state what another is worth in another: its parts are there alike, and
-- their terms have the same words. Simplifying an instruction, and forwarding one through another, make such lists.
use Rattle.std.proofs.Common.{◌≡◌, ℕ, Bool, true, false, List, [], ◌∷◌, ◌++◌, refl, sym, ◌∙◌, ap, subst, eq-eqb}
use Rattle.std.proofs.Common.{ne_eqb}
use Rattle.std.specs.Prelude.{◌||◌, is_some, if◌then◌else◌, Option, Some, None, ⊤}
use Rattle.std.specs.List.{list_any}
use Rattle.std.proofs.lemmas.Bool.{true≢false}
use Rattle.po_word.specs.declared.operator.Rel.{Rel}
use Rattle.po_word.specs.Words.{rel_value}
use Rattle.po_term.specs.declared.term.Alias.{Alias}
use Rattle.po_term.specs.declared.term.Alias.TheVariants.{Same, Apart, Maybe}
use Rattle.po_term.specs.declared.term.Label.{Label}
use Rattle.po_term.specs.Tree.{Tree, Const, Leaf, Read, Unary, Binary}
use Rattle.po_term.specs.Terms.{Place, InReg, State, IsState, value, PlainTerm}
use Rattle.po_term.specs.Moves.{GoTo, IfCc, IfTwo, CallOf, Return, SetTo, CcTo, StoreTo, Ends, PlainMove}
use Rattle.po_term.specs.Kinds.{words, Met, give}
use Rattle.po_term.specs.Simplified.{same_register, unary_of, binary_of, simple, decided, simple_move, simple_moves}
use Rattle.po_term.specs.Worth.{HasWords, IsWorth}
use Rattle.po_term.specs.Actions.{MoveHasWords, MovesHaveWords}
use Rattle.po_simplify.proofs.Worths.{unary_worth, binary_worth, simple_worth}
use Rattle.po_model.specs.Parts.{code_leaves, right_at, cc_of, store_of, ending_of}
use Rattle.po_model.specs.Forward.{with_some, and_some, some_of, alias_of, by_alias, read_after, right_or, forward}
use Rattle.po_model.specs.Meets.{Meets}
use Rattle.po_model.specs.Effect.{Control, new_word, new_memory, new_cc, after, goes, branch, by_cc}
use Rattle.po_model.specs.Joined.{is_control, is_away, forward_branch, forward_move, forward_moves}
use Rattle.po_subst.proofs.Meeting.{alias_right}

-- P of what there is, if there is something
abbrev pub Where : {A : Type 0} → Option A → (A → Type 0) → Type 0
Where None P = ⊤
Where (Some x) P = P x

pub where_at : {A : Type 0} (P : A → Type 0) (o : Option A) (x : A) → o ≡ Some x → Where o P → P x
where_at {A = A} P o x e h = let h' : Where (Some x) P = subst (λ (p : Option A). Where p P) e h in h'

-- what holds of a result, and then of what is made of it
pub some_where : {A B : Type 0} (P : A → Type 0) (Q : B → Type 0) (m : Met ℕ (Option A)) (f : A → Met ℕ (Option B))
    → Where m.got P → ((x : A) → P x → Where (f x).got Q) → Where (and_some m f).got Q
some_where {A = A} {B = B} P Q m f h k = go m.got h
  where
    go : (r : Option A) → Where r P → Where (with_some r f).got Q
    go None h = tt
    go (Some x) h = k x h

pub or_false : (a b : Bool) → (a || b) ≡ false → (a ≡ false) × (b ≡ false)
or_false true b e = absurd (true≢false e)
or_false false b e = (refl, e)

abbrev pub Two : Type 0
Two = Tree ℕ Place × Tree ℕ Place

abbrev pub TwoHasWords : Option Two → Type 0
TwoHasWords None = ⊤
TwoHasWords (Some m) = HasWords m.0 × HasWords m.1

-- u is worth in s what t is worth in r
abbrev pub LikeRight : State → State → Option PlainTerm → Option PlainTerm → Type 0
LikeRight s r None None = ⊤
LikeRight s r (Some t) (Some u) = IsWorth s u (value r t)
LikeRight s r x y = ⊥

pub record LikePair (s r : State) (m n : Two) : Type 0 where
  pub left : IsWorth s n.0 (value r m.0)
  pub right : IsWorth s n.1 (value r m.1)

abbrev pub LikeTwo : State → State → Option Two → Option Two → Type 0
LikeTwo s r None None = ⊤
LikeTwo s r (Some m) (Some n) = LikePair s r m n
LikeTwo s r x y = ⊥

-- one of each kind, but of sets one for each register
abbrev pub IsSingle : List PlainMove → Type 0
IsSingle [] = ⊤
IsSingle (SetTo r t ∷ ms) = (right_at code_leaves (InReg r) ms ≡ None) × IsSingle ms
IsSingle (CcTo t u ∷ ms) = (cc_of ms ≡ None) × IsSingle ms
IsSingle (StoreTo t u ∷ ms) = (store_of ms ≡ None) × IsSingle ms
IsSingle (Ends e ∷ ms) = (ending_of ms ≡ None) × IsSingle ms

pub single_rest : (m : PlainMove) (ms : List PlainMove) → IsSingle (m ∷ ms) → IsSingle ms
single_rest (SetTo r t) ms h = h.1
single_rest (CcTo t u) ms h = h.1
single_rest (StoreTo t u) ms h = h.1
single_rest (Ends e) ms h = h.1

-- ns in the state s is like ms in the state r
pub record Alike (s r : State) (ms ns : List PlainMove) : Type 0 where
  pub rights : (p : Place) → LikeRight s r (right_at code_leaves p ms) (right_at code_leaves p ns)
  pub compared : LikeTwo s r (cc_of ms) (cc_of ns)
  pub stored : LikeTwo s r (store_of ms) (store_of ns)
  pub control : goes r (ending_of ms) ≡ goes s (ending_of ns)
  pub stays : is_some (ending_of ms) ≡ false → is_some (ending_of ns) ≡ false
  pub fits : MovesHaveWords ns
  pub single : IsSingle ns

pub like_some : (s r : State) (o p : Option PlainTerm) → LikeRight s r o p → is_some p ≡ is_some o
like_some s r None None h = refl
like_some s r (Some t) (Some u) h = refl
like_some s r None (Some u) h = absurd h
like_some s r (Some t) None h = absurd h

pub two_some : (s r : State) (o p : Option Two) → LikeTwo s r o p → is_some p ≡ is_some o
two_some s r None None h = refl
two_some s r (Some t) (Some u) h = refl
two_some s r None (Some u) h = absurd h
two_some s r (Some t) None h = absurd h

pub none_of : {X : Type 0} (o : Option X) → is_some o ≡ false → o ≡ None
none_of None e = refl
none_of (Some x) e = absurd (true≢false e)

none_alike : {X Y : Type 0} (o : Option X) (p : Option Y) → is_some p ≡ is_some o → o ≡ None → p ≡ None
none_alike {X = X} o p e f = none_of p (e ∙ ap (λ (x : Option X). is_some x) f)

-- at most a transfer of control
abbrev pub IsEnding : List PlainMove → Type 0
IsEnding [] = ⊤
IsEnding (Ends f ∷ []) = ⊤
IsEnding ms = ⊥

pub record EndsTo (s : State) (xs : List PlainMove) (to : Option Control) : Type 0 where
  pub one : IsEnding xs
  pub control : to ≡ goes s (ending_of xs)
  pub fits : MovesHaveWords xs

-- xs in the state s is what m is in the state r
abbrev pub Becomes : State → State → PlainMove → List PlainMove → Type 0
Becomes s r (SetTo q t) xs = (u : PlainTerm) × IsWorth s u (value r t) × (xs ≡ SetTo q u ∷ [])
Becomes s r (CcTo t u) xs =
    (v : PlainTerm) × (w : PlainTerm) × IsWorth s v (value r t) × IsWorth s w (value r u) × (xs ≡ CcTo v w ∷ [])
Becomes s r (StoreTo t u) xs =
    (v : PlainTerm) × (w : PlainTerm) × IsWorth s v (value r t) × IsWorth s w (value r u) × (xs ≡ StoreTo v w ∷ [])
Becomes s r (Ends e) xs = EndsTo s xs (goes r (Some e))

module _ (s r : State) where
  like_if : (b : Bool) (t u : PlainTerm) (x y : Option PlainTerm) → IsWorth s u (value r t) → LikeRight s r x y
      → LikeRight s r (if b then Some t else x) (if b then Some u else y)
  like_if true t u x y e f = e
  like_if false t u x y e f = f

  set_more : (q : _) (t u : PlainTerm) (ms ys : List PlainMove) → IsWorth s u (value r t)
      → right_at code_leaves (InReg q) ms ≡ None → Alike s r ms ys → Alike s r (SetTo q t ∷ ms) (SetTo q u ∷ ys)
  set_more q t u ms ys w o h = record {
    rights =
        λ p. like_if (same_register p (InReg q)) t u (right_at code_leaves p ms) (right_at code_leaves p ys) w
        (h.rights p);
    compared = h.compared;
    stored = h.stored;
    control = h.control;
    stays = h.stays;
    fits = (w.words, h.fits);
    single = (
      none_alike (right_at code_leaves (InReg q) ms) (right_at code_leaves (InReg q) ys)
          (like_some s r (right_at code_leaves (InReg q) ms) (right_at code_leaves (InReg q) ys)
          (h.rights (InReg q))) o,
      h.single,
    );
  }

  cc_more : (t u v w : PlainTerm) (ms ys : List PlainMove) → IsWorth s v (value r t) → IsWorth s w (value r u)
      → cc_of ms ≡ None → Alike s r ms ys → Alike s r (CcTo t u ∷ ms) (CcTo v w ∷ ys)
  cc_more t u v w ms ys i k o h = record {
    rights = h.rights;
    compared = record { left = i; right = k };
    stored = h.stored;
    control = h.control;
    stays = h.stays;
    fits = ((i.words, k.words), h.fits);
    single = (none_alike (cc_of ms) (cc_of ys) (two_some s r (cc_of ms) (cc_of ys) h.compared) o, h.single);
  }

  store_more : (t u v w : PlainTerm) (ms ys : List PlainMove) → IsWorth s v (value r t) → IsWorth s w (value r u)
      → store_of ms ≡ None → Alike s r ms ys → Alike s r (StoreTo t u ∷ ms) (StoreTo v w ∷ ys)
  store_more t u v w ms ys i k o h = record {
    rights = h.rights;
    compared = h.compared;
    stored = record { left = i; right = k };
    control = h.control;
    stays = h.stays;
    fits = ((i.words, k.words), h.fits);
    single = (none_alike (store_of ms) (store_of ys) (two_some s r (store_of ms) (store_of ys) h.stored) o, h.single);
  }

  -- nothing more ends it
  no_ending : (ms ys : List PlainMove) → ending_of ms ≡ None → Alike s r ms ys → ending_of ys ≡ None
  no_ending ms ys o h = none_of (ending_of ys) (h.stays (ap (λ e. is_some e) o))

  ends_more : (e : _) (xs ms ys : List PlainMove) → EndsTo s xs (goes r (Some e)) → ending_of ms ≡ None
      → Alike s r ms ys → Alike s r (Ends e ∷ ms) (xs ++ ys)
  ends_more e [] ms ys d o h = record {
    rights = h.rights;
    compared = h.compared;
    stored = h.stored;
    control = d.control ∙ ap (λ x. goes s x) (sym (no_ending ms ys o h));
    stays = λ i. absurd (true≢false i);
    fits = h.fits;
    single = h.single;
  }
  ends_more e (Ends f ∷ []) ms ys d o h = record {
    rights = h.rights;
    compared = h.compared;
    stored = h.stored;
    control = d.control;
    stays = λ i. absurd (true≢false i);
    fits = (d.fits.0, h.fits);
    single = (no_ending ms ys o h, h.single);
  }
  ends_more e xs ms ys d o h = absurd d.one

  pub alike_more : (m : PlainMove) (xs ms ys : List PlainMove) → Becomes s r m xs → IsSingle (m ∷ ms) → Alike s r ms ys
      → Alike s r (m ∷ ms) (xs ++ ys)
  alike_more (SetTo q t) xs ms ys b o h =
      subst (λ (zs : List PlainMove). Alike s r (SetTo q t ∷ ms) (zs ++ ys)) (sym b.2)
      (set_more q t b.0 ms ys b.1 o.0 h)
  alike_more (CcTo t u) xs ms ys b o h =
      subst (λ (zs : List PlainMove). Alike s r (CcTo t u ∷ ms) (zs ++ ys)) (sym b.4)
      (cc_more t u b.0 b.1 ms ys b.2 b.3 o.0 h)
  alike_more (StoreTo t u) xs ms ys b o h =
      subst (λ (zs : List PlainMove). Alike s r (StoreTo t u ∷ ms) (zs ++ ys)) (sym b.4)
      (store_more t u b.0 b.1 ms ys b.2 b.3 o.0 h)
  alike_more (Ends e) xs ms ys b o h = ends_more e xs ms ys b o.0 h

  pub alike_none : Alike s r [] []
  alike_none =
      record { rights = λ p. tt; compared = tt; stored = tt; control = refl; stays = λ e. e; fits = tt; single = tt }

-- a branch on two terms goes where the relation of their words says
decided_ends : (s : State) (x y : PlainTerm) (rel : Rel) (l : Label) → HasWords x → HasWords y
    → EndsTo s (decided words same_register x y rel l).got (Some (branch (rel_value rel (value s x) (value s y)) l))
decided_ends s (Const c) (Const d) rel l h i = go (rel_value rel c d)
  where
    go : (b : Bool)
        → EndsTo s (if b then give {K = ℕ} (Ends (GoTo l) ∷ []) else give {K = ℕ} []).got (Some (branch b l))
    go true = record { one = tt; control = refl; fits = (tt, tt) }
    go false = record { one = tt; control = refl; fits = tt }
decided_ends s x y rel l h i = record { one = tt; control = refl; fits = ((h, i), tt) }

module _ (s : State) (fits : IsState s) where
  -- an instruction without a transfer of control, simplified
  simple_becomes : (m : PlainMove) → MoveHasWords m → is_control m ≡ false
      → Becomes s s m (simple_move words same_register m).got
  simple_becomes (SetTo q t) h n = ((simple words same_register t).got, simple_worth s fits t h, refl)
  simple_becomes (CcTo t u) h n = (
    (simple words same_register t).got,
    (simple words same_register u).got,
    simple_worth s fits t h.0,
    simple_worth s fits u h.1,
    refl,
  )
  simple_becomes (StoreTo t u) h n = (
    (simple words same_register t).got,
    (simple words same_register u).got,
    simple_worth s fits t h.0,
    simple_worth s fits u h.1,
    refl,
  )
  simple_becomes (Ends e) h n = absurd (true≢false n)

  pub simple_alike : (ms : List PlainMove) → MovesHaveWords ms → list_any is_control ms ≡ false → IsSingle ms
      → Alike s s ms (simple_moves words same_register ms).got
  simple_alike [] h n o = alike_none s s
  simple_alike (m ∷ ms) h n o =
      let k = or_false (is_control m) (list_any is_control ms) n in
      alike_more s s m (simple_move words same_register m).got ms (simple_moves words same_register ms).got
      (simple_becomes m h.0 k.0) o (simple_alike ms h.1 k.1 (single_rest m ms o))

  module _ (a : List PlainMove) (has : MovesHaveWords a) where
    right_words : (p : Place) (ms : List PlainMove) → MovesHaveWords ms → Where (right_at code_leaves p ms) HasWords
    right_words p [] h = tt
    right_words p (SetTo r t ∷ ms) h = go (same_register p (InReg r)) (right_words p ms h.1)
      where
        go : (b : Bool) → Where (right_at code_leaves p ms) HasWords
            → Where (if b then Some t else right_at code_leaves p ms) HasWords
        go true i = h.0
        go false i = i
    right_words p (CcTo t u ∷ ms) h = right_words p ms h.1
    right_words p (StoreTo t u ∷ ms) h = right_words p ms h.1
    right_words p (Ends e ∷ ms) h = right_words p ms h.1

    cc_words : (ms : List PlainMove) → MovesHaveWords ms → TwoHasWords (cc_of ms)
    cc_words [] h = tt
    cc_words (SetTo r t ∷ ms) h = cc_words ms h.1
    cc_words (CcTo t u ∷ ms) h = h.0
    cc_words (StoreTo t u ∷ ms) h = cc_words ms h.1
    cc_words (Ends e ∷ ms) h = cc_words ms h.1

    pub store_words : (ms : List PlainMove) → MovesHaveWords ms → TwoHasWords (store_of ms)
    store_words [] h = tt
    store_words (SetTo r t ∷ ms) h = store_words ms h.1
    store_words (CcTo t u ∷ ms) h = store_words ms h.1
    store_words (StoreTo t u ∷ ms) h = h.0
    store_words (Ends e ∷ ms) h = store_words ms h.1

    leaf_worth : (o : Option PlainTerm) (p : Place) → Where o HasWords
        → IsWorth s (right_or o p) (new_word s o (s.place p))
    leaf_worth None p h = record { words = tt; worth = refl }
    leaf_worth (Some t) p h = record { words = h; worth = refl }

    alias_worth : (e : Alias) (m : Two) (q : PlainTerm) → HasWords m.1 → HasWords q → Meets e s m.0 q
        → Where (by_alias e m.1 q) (λ u. IsWorth s u (new_memory s (Some m) (value s q)))
    alias_worth Same m q k h e = record { words = k; worth = rw (eq-eqb (value s q) (value s m.0) (sym e)) refl }
    alias_worth Apart m q k h e =
        record { words = h; worth = rw (ne_eqb (value s q) (value s m.0) (λ f. e (sym f))) refl }
    alias_worth Maybe m q k h e = tt

    read_worth : (m : Option Two) (q : PlainTerm) → TwoHasWords m → HasWords q
        → Where (read_after words code_leaves m q).got (λ u. IsWorth s u (new_memory s m (value s q)))
    read_worth None q k h = record { words = h; worth = refl }
    read_worth (Some m) q k h =
        alias_worth (alias_of words code_leaves m.0 q).got m q k.1 h (alias_right s fits m.0 q k.0 h)

    -- a forwarded term is worth before A what the term is worth after A
    pub forward_worth : (t : PlainTerm) → HasWords t
        → Where (forward words code_leaves a t).got (λ u. IsWorth s u (value (after s a) t))
    forward_worth (Const c) k = record { words = k; worth = refl }
    forward_worth (Leaf p) k = leaf_worth (right_at code_leaves p a) p (right_words p a has)
    forward_worth (Read x) k =
        some_where (λ u. IsWorth s u (value (after s a) x)) (λ u. IsWorth s u (value (after s a) (Read x)))
        (forward words code_leaves a x) (λ q. read_after words code_leaves (store_of a) q) (forward_worth x k)
        (λ q w. rw (← w.worth) (read_worth (store_of a) q (store_words a has) w.words))
    forward_worth (Unary o x) k =
        some_where (λ u. IsWorth s u (value (after s a) x)) (λ u. IsWorth s u (value (after s a) (Unary o x)))
        (forward words code_leaves a x) (λ t. some_of (unary_of words same_register o t)) (forward_worth x k)
        (λ t w. rw (← w.worth) (unary_worth s fits o t w.words))
    forward_worth (Binary o x y) k =
        some_where (λ u. IsWorth s u (value (after s a) x)) (λ u. IsWorth s u (value (after s a) (Binary o x y)))
        (forward words code_leaves a x)
        (λ t. and_some (forward words code_leaves a y) (λ u. some_of (binary_of words same_register o t u)))
        (forward_worth x k.0)
        (
        λ t w. some_where (λ u. IsWorth s u (value (after s a) y))
        (λ u. IsWorth s u (value (after s a) (Binary o x y))) (forward words code_leaves a y)
        (λ u. some_of (binary_of words same_register o t u)) (forward_worth y k.1)
        (λ u v. rw (← w.worth, ← v.worth) (binary_worth s fits o t u w.words v.words)))

    -- two terms, one after the other
    two_worth : (Q : List PlainMove → Type 0) (t u : PlainTerm)
        (f : PlainTerm → PlainTerm → Met ℕ (Option (List PlainMove))) → HasWords t → HasWords u
        → ((x y : PlainTerm) → IsWorth s x (value (after s a) t) → IsWorth s y (value (after s a) u)
        → Where (f x y).got Q)
        → Where
        (and_some (forward words code_leaves a t) (λ x. and_some (forward words code_leaves a u) (λ y. f x y))).got Q
    two_worth Q t u f h i k =
        some_where (λ x. IsWorth s x (value (after s a) t)) Q (forward words code_leaves a t)
        (λ x. and_some (forward words code_leaves a u) (λ y. f x y)) (forward_worth t h)
        (
        λ x v. some_where (λ y. IsWorth s y (value (after s a) u)) Q (forward words code_leaves a u) (λ y. f x y)
        (forward_worth u i)
        (λ y w. k x y v w))

    branch_ends : (o : Option Two) (rel : Rel) (l : Label) → TwoHasWords o
        → EndsTo s (forward_branch words code_leaves o rel l).got (by_cc (new_cc s o) rel l)
    branch_ends None rel l h = record { one = tt; control = refl; fits = (tt, tt) }
    branch_ends (Some two) rel l h = decided_ends s two.0 two.1 rel l h.0 h.1

    forward_becomes : (m : PlainMove) → MoveHasWords m → is_away m ≡ false
        → Where (forward_move words code_leaves a m).got (Becomes s (after s a) m)
    forward_becomes (SetTo q t) h n =
        some_where (λ x. IsWorth s x (value (after s a) t)) (Becomes s (after s a) (SetTo q t))
        (forward words code_leaves a t) (λ x. give (Some (SetTo q x ∷ []))) (forward_worth t h)
        (λ x w. (x, w, refl))
    forward_becomes (CcTo t u) h n =
        two_worth (Becomes s (after s a) (CcTo t u)) t u (λ x y. give (Some (CcTo x y ∷ []))) h.0 h.1
        (λ x y v w. (x, y, v, w, refl))
    forward_becomes (StoreTo t u) h n =
        two_worth (Becomes s (after s a) (StoreTo t u)) t u (λ x y. give (Some (StoreTo x y ∷ []))) h.0 h.1
        (λ x y v w. (x, y, v, w, refl))
    forward_becomes (Ends (IfTwo t u rel l)) h n =
        two_worth (Becomes s (after s a) (Ends (IfTwo t u rel l))) t u
        (λ x y. some_of (decided words same_register x y rel l)) h.0 h.1
        (λ x y v w. rw (← v.worth, ← w.worth) (decided_ends s x y rel l v.words w.words))
    forward_becomes (Ends (IfCc rel l)) h n = branch_ends (cc_of a) rel l (cc_words a has)
    forward_becomes (Ends (GoTo l)) h n = record { one = tt; control = refl; fits = (tt, tt) }
    forward_becomes (Ends (CallOf f k)) h n = absurd (true≢false n)
    forward_becomes (Ends Return) h n = absurd (true≢false n)

    -- an instruction forwarded through A is worth before A what the instruction is worth after A
    pub forward_alike : (ms : List PlainMove) → MovesHaveWords ms → list_any is_away ms ≡ false → IsSingle ms
        → Where (forward_moves words code_leaves a ms).got (Alike s (after s a) ms)
    forward_alike [] h n o = alike_none s (after s a)
    forward_alike (m ∷ ms) h n o =
        let k = or_false (is_away m) (list_any is_away ms) n in
        some_where (Becomes s (after s a) m) (Alike s (after s a) (m ∷ ms)) (forward_move words code_leaves a m)
        (λ xs. and_some (forward_moves words code_leaves a ms) (λ ys. give (Some (xs ++ ys))))
        (forward_becomes m h.0 k.0)
        (
        λ xs b. some_where (Alike s (after s a) ms) (Alike s (after s a) (m ∷ ms))
        (forward_moves words code_leaves a ms) (λ ys. give (Some (xs ++ ys)))
        (forward_alike ms h.1 k.1 (single_rest m ms o))
        (λ ys i. alike_more s (after s a) m xs ms ys b o i))
