-- Joining read over one kind of constants follows joining read over another.
use Rattle.std.proofs.Common.{◌≡◌, Bool, true, false, List, [], ◌∷◌, ◌++◌, map, refl, sym, ◌∙◌, ap}
use Rattle.std.specs.Prelude.{if◌then◌else◌, not, ◌||◌, Option, Some, None, is_some, filter}
use Rattle.std.specs.List.{list_any}
use Rattle.std.specs.Option.{option_map}
use Rattle.po_word.specs.declared.operator.Rel.{Rel}
use Rattle.po_term.specs.declared.term.Alias.{Alias}
use Rattle.po_term.specs.declared.term.Label.{Label}
use Rattle.po_term.specs.Tree.{tree_map, Tree, Const, Leaf, Read, Unary, Binary}
use Rattle.po_term.specs.Moves.{GoTo, IfCc, IfTwo, CallOf, Return, Move, SetTo, CcTo, StoreTo, Ends}
use Rattle.po_term.specs.MoveMap.{move_map}
use Rattle.po_term.specs.Kinds.{Kind, Met, give, and_then}
use Rattle.po_term.specs.Simplified.{decided, simple_moves}
use Rattle.po_simplify.proofs.Follows.{Carries, Follows, and_then-follows, map-append}
use Rattle.po_simplify.proofs.MoveFollows.{decided-follows, simple_moves-follows}
use Rattle.po_model.specs.Parts.{Leaves, cc_of, store_of, right_at}
use Rattle.po_model.specs.Forward.{and_some, some_of, alias_of, forward}
use Rattle.po_model.specs.Joined.{Joint, NotJoined, NothingLeft, AsOne, is_same, covers, is_set, is_cc, is_store}
use Rattle.po_model.specs.Joined.{is_control, is_away, in_order, is_idle, listed, is_wanted, is_kept, assembled}
use Rattle.po_model.specs.Joined.{forward_branch, forward_move, forward_moves, with_forwarded, join_simple, joined}
use Rattle.po_subst.proofs.ForwardFollows.{if-follows, and_some-follows, some_of-follows, Matches, alias_of-follows}
use Rattle.po_subst.proofs.ForwardFollows.{cc_of-map, store_of-map, right_at-map, forward-follows}

is_some-map : {A B : Type 0} (h : A → B) (o : Option A) → is_some (option_map h o) ≡ is_some o
is_some-map h None = refl
is_some-map h (Some x) = refl

-- a test that holds of the images alike
filter-map : {A B : Type 0} (h : A → B) (p : A → Bool) (q : B → Bool) → ((x : A) → q (h x) ≡ p x) → (xs : List A)
    → filter q (map h xs) ≡ map h (filter p xs)
filter-map h p q e [] = refl
filter-map {A = A} {B = B} h p q e (x ∷ xs) = rw (e x) (go (p x) (filter-map h p q e xs))
  where
    go : (b : Bool) → filter q (map h xs) ≡ map h (filter p xs)
        → (if b then h x ∷ filter q (map h xs) else filter q (map h xs))
        ≡ map h (if b then x ∷ filter p xs else filter p xs)
    go true ih = ap (λ ys. h x ∷ ys) ih
    go false ih = ih

any-map : {A B : Type 0} (h : A → B) (p : A → Bool) (q : B → Bool) → ((x : A) → q (h x) ≡ p x) → (xs : List A)
    → list_any q (map h xs) ≡ list_any p xs
any-map h p q e [] = refl
any-map h p q e (x ∷ xs) = rw (e x, any-map h p q e xs) refl

module _ {J K L M R Q S T : Type 0} (j : Kind J) (k : Kind K) (f : J → K) (g : L → M) (onto_register : R → Q)
    (onto_symbol : S → T) (onto_label : Label → Label) (leaves_j : Leaves L R S) (leaves_k : Leaves M Q T)
    (carries : Carries j k f) (matches : Matches g onto_register leaves_j leaves_k) where
  abbrev onto : Move J L R S → Move K M Q T
  onto m = move_map f g onto_register onto_symbol onto_label m

  abbrev tree : Tree J L → Tree K M
  tree t = tree_map f g t

  abbrev pair : Tree J L × Tree J L → Tree K M × Tree K M
  pair two = (tree_map f g two.0, tree_map f g two.1)

  abbrev pub joint_map : Joint J L R S → Joint K M Q T
  joint_map NotJoined = NotJoined
  joint_map NothingLeft = NothingLeft
  joint_map (AsOne ms) = AsOne (map onto ms)

  is_set-map : (m : Move J L R S) → is_set (onto m) ≡ is_set m
  is_set-map (SetTo r t) = refl
  is_set-map (CcTo t u) = refl
  is_set-map (StoreTo t u) = refl
  is_set-map (Ends e) = refl

  is_cc-map : (m : Move J L R S) → is_cc (onto m) ≡ is_cc m
  is_cc-map (SetTo r t) = refl
  is_cc-map (CcTo t u) = refl
  is_cc-map (StoreTo t u) = refl
  is_cc-map (Ends e) = refl

  is_store-map : (m : Move J L R S) → is_store (onto m) ≡ is_store m
  is_store-map (SetTo r t) = refl
  is_store-map (CcTo t u) = refl
  is_store-map (StoreTo t u) = refl
  is_store-map (Ends e) = refl

  is_control-map : (m : Move J L R S) → is_control (onto m) ≡ is_control m
  is_control-map (SetTo r t) = refl
  is_control-map (CcTo t u) = refl
  is_control-map (StoreTo t u) = refl
  is_control-map (Ends e) = refl

  is_away-map : (m : Move J L R S) → is_away (onto m) ≡ is_away m
  is_away-map (SetTo r t) = refl
  is_away-map (CcTo t u) = refl
  is_away-map (StoreTo t u) = refl
  is_away-map (Ends (GoTo l)) = refl
  is_away-map (Ends (IfCc r l)) = refl
  is_away-map (Ends (IfTwo t u r l)) = refl
  is_away-map (Ends (CallOf s n)) = refl
  is_away-map (Ends Return) = refl

  is_idle-map : (m : Move J L R S) → is_idle leaves_k (onto m) ≡ is_idle leaves_j m
  is_idle-map (SetTo r (Leaf l)) = rw (matches.in_place r) (matches.register l (leaves_j.in_register r))
  is_idle-map (SetTo r (Const c)) = refl
  is_idle-map (SetTo r (Read x)) = refl
  is_idle-map (SetTo r (Unary o x)) = refl
  is_idle-map (SetTo r (Binary o x y)) = refl
  is_idle-map (CcTo t u) = refl
  is_idle-map (StoreTo t u) = refl
  is_idle-map (Ends e) = refl

  in_order-map : (ms : List (Move J L R S)) → in_order (map onto ms) ≡ map onto (in_order ms)
  in_order-map ms =
      rw (
        filter-map onto is_set is_set is_set-map ms,
        filter-map onto is_cc is_cc is_cc-map ms,
        filter-map onto is_store is_store is_store-map ms,
        filter-map onto is_control is_control is_control-map ms,
      )
      (sym (map-append onto (filter is_set ms ++ filter is_cc ms ++ filter is_store ms) (filter is_control ms)
      ∙ ap (λ xs. xs ++ map onto (filter is_control ms)) (map-append onto (filter is_set ms ++ filter is_cc ms)
      (filter is_store ms)
      ∙ ap (λ xs. xs ++ map onto (filter is_store ms)) (map-append onto (filter is_set ms) (filter is_cc ms)))))

  listed-map : (ms : List (Move J L R S)) → listed (map onto ms) ≡ joint_map (listed ms)
  listed-map [] = refl
  listed-map (m ∷ ms) = refl

  is_same-follows : (m : Met J Alias) (n : Met K Alias) → Follows j k f (λ (e : Alias). e) m n
      → Follows j k f (λ (b : Bool). b) (and_then m (λ meets. give (is_same meets)))
      (and_then n (λ meets. give (is_same meets)))
  is_same-follows m n h =
      and_then-follows j k f (λ e. e) (λ b. b) m n (λ meets. give (is_same meets)) (λ meets. give (is_same meets)) h
      (λ e _. refl)

  covers-follows : (x y : Option (Tree J L × Tree J L))
      → Follows j k f (λ (b : Bool). b) (covers j leaves_j x y)
      (covers k leaves_k (option_map pair x) (option_map pair y))
  covers-follows (Some x) (Some y) =
      is_same-follows (alias_of j leaves_j x.0 y.0) (alias_of k leaves_k (tree x.0) (tree y.0))
      (alias_of-follows j k f g onto_register leaves_j leaves_k carries matches x.0 y.0)
  covers-follows (Some x) None = λ _. refl
  covers-follows None y = λ _. refl

  branch-follows : (o : Option (Tree J L × Tree J L)) (r : Rel) (l : Label)
      → Follows j k f (map onto) (forward_branch j leaves_j o r l)
      (forward_branch k leaves_k (option_map pair o) r (onto_label l))
  branch-follows None r l = λ _. refl
  branch-follows (Some two) r l =
      decided-follows j k f g onto_register onto_symbol onto_label leaves_j.same_register leaves_k.same_register
      carries matches.register two.0 two.1 r l

  forwarded : (a : List (Move J L R S)) (t : Tree J L)
      → Follows j k f (option_map tree) (forward j leaves_j a t) (forward k leaves_k (map onto a) (tree t))
  forwarded a t = forward-follows j k f g onto_register leaves_j leaves_k carries matches onto_symbol onto_label a t

  -- two terms forwarded, and then what m makes of them
  two-follows : (a : List (Move J L R S)) (m : Tree J L → Tree J L → Met J (Option (List (Move J L R S))))
      (n : Tree K M → Tree K M → Met K (Option (List (Move K M Q T))))
      → ((x y : Tree J L) → Follows j k f (option_map (map onto)) (m x y) (n (tree x) (tree y))) → (t u : Tree J L)
      → Follows j k f (option_map (map onto))
      (and_some (forward j leaves_j a t) (λ x. and_some (forward j leaves_j a u) (λ y. m x y)))
      (and_some (forward k leaves_k (map onto a) (tree t))
      (λ x. and_some (forward k leaves_k (map onto a) (tree u)) (λ y. n x y)))
  two-follows a m n h t u =
      and_some-follows j k f tree (map onto) (forward j leaves_j a t) (forward k leaves_k (map onto a) (tree t))
      (λ x. and_some (forward j leaves_j a u) (λ y. m x y))
      (λ x. and_some (forward k leaves_k (map onto a) (tree u)) (λ y. n x y)) (forwarded a t)
      (λ x. and_some-follows j k f tree (map onto) (forward j leaves_j a u) (forward k leaves_k (map onto a) (tree u))
      (λ y. m x y) (λ y. n (tree x) y) (forwarded a u) (λ y. h x y))

  pub forward_move-follows : (a : List (Move J L R S)) (m : Move J L R S)
      → Follows j k f (option_map (map onto)) (forward_move j leaves_j a m)
      (forward_move k leaves_k (map onto a) (onto m))
  forward_move-follows a (SetTo r t) =
      and_some-follows j k f tree (map onto) (forward j leaves_j a t) (forward k leaves_k (map onto a) (tree t))
      (λ x. give (Some (SetTo r x ∷ []))) (λ x. give (Some (SetTo (onto_register r) x ∷ []))) (forwarded a t)
      (λ x _. refl)
  forward_move-follows a (CcTo t u) =
      two-follows a (λ x y. give (Some (CcTo x y ∷ []))) (λ x y. give (Some (CcTo x y ∷ []))) (λ x y _. refl) t u
  forward_move-follows a (StoreTo t u) =
      two-follows a (λ x y. give (Some (StoreTo x y ∷ []))) (λ x y. give (Some (StoreTo x y ∷ []))) (λ x y _. refl) t u
  forward_move-follows a (Ends (IfTwo t u r l)) =
      two-follows a (λ x y. some_of (decided j leaves_j.same_register x y r l))
      (λ x y. some_of (decided k leaves_k.same_register x y r (onto_label l)))
      (λ x y. some_of-follows j k f (map onto) (decided j leaves_j.same_register x y r l)
      (decided k leaves_k.same_register (tree x) (tree y) r (onto_label l))
      (decided-follows j k f g onto_register onto_symbol onto_label leaves_j.same_register leaves_k.same_register
      carries matches.register x y r l)) t u
  forward_move-follows a (Ends (IfCc r l)) =
      rw (cc_of-map j k f g onto_register leaves_j leaves_k carries matches onto_symbol onto_label a)
      (some_of-follows j k f (map onto) (forward_branch j leaves_j (cc_of a) r l)
      (forward_branch k leaves_k (option_map pair (cc_of a)) r (onto_label l)) (branch-follows (cc_of a) r l))
  forward_move-follows a (Ends (GoTo l)) = λ _. refl
  forward_move-follows a (Ends (CallOf s n)) = λ _. refl
  forward_move-follows a (Ends Return) = λ _. refl

  both_lists : (xs ys : List (Move J L R S))
      → give {K = K} (Some (map onto xs ++ map onto ys)) ≡ give (Some (map onto (xs ++ ys)))
  both_lists xs ys = ap (λ zs. give (Some zs)) (sym (map-append onto xs ys))

  pub forward_moves-follows : (a ms : List (Move J L R S))
      → Follows j k f (option_map (map onto)) (forward_moves j leaves_j a ms)
      (forward_moves k leaves_k (map onto a) (map onto ms))
  forward_moves-follows a [] = λ _. refl
  forward_moves-follows a (m ∷ ms) =
      and_some-follows j k f (map onto) (map onto) (forward_move j leaves_j a m)
      (forward_move k leaves_k (map onto a) (onto m))
      (λ xs. and_some (forward_moves j leaves_j a ms) (λ ys. give (Some (xs ++ ys))))
      (λ xs. and_some (forward_moves k leaves_k (map onto a) (map onto ms)) (λ ys. give (Some (xs ++ ys))))
      (forward_move-follows a m)
      (λ xs. and_some-follows j k f (map onto) (map onto) (forward_moves j leaves_j a ms)
      (forward_moves k leaves_k (map onto a) (map onto ms)) (λ ys. give (Some (xs ++ ys)))
      (λ ys. give (Some (map onto xs ++ ys))) (forward_moves-follows a ms) (λ ys _. both_lists xs ys))

  module _ (live_j : R → Bool) (live_k : Q → Bool) (live : (r : R) → live_k (onto_register r) ≡ live_j r)
      (cc_live : Bool) where
    is_wanted-map : (m : Move J L R S) → is_wanted live_k cc_live (onto m) ≡ is_wanted live_j cc_live m
    is_wanted-map (SetTo r t) = live r
    is_wanted-map (CcTo t u) = refl
    is_wanted-map (StoreTo t u) = refl
    is_wanted-map (Ends e) = refl

    is_kept-map : (b : List (Move J L R S)) (m : Move J L R S)
        → is_kept leaves_k live_k cc_live (map onto b) (onto m) ≡ is_kept leaves_j live_j cc_live b m
    is_kept-map b (SetTo r t) =
        rw (
          live r,
          matches.in_place r,
          right_at-map j k f g onto_register leaves_j leaves_k carries matches onto_symbol onto_label
              (leaves_j.in_register r) b,
          is_some-map tree (right_at leaves_j (leaves_j.in_register r) b),
        ) refl
    is_kept-map b (CcTo t u) =
        rw (
          cc_of-map j k f g onto_register leaves_j leaves_k carries matches onto_symbol onto_label b,
          is_some-map pair (cc_of b),
        ) refl
    is_kept-map b (StoreTo t u) =
        rw (
          store_of-map j k f g onto_register leaves_j leaves_k carries matches onto_symbol onto_label b,
          is_some-map pair (store_of b),
        ) refl
    is_kept-map b (Ends e) = refl

    moving-map : (m : Move J L R S) → not (is_idle leaves_k (onto m)) ≡ not (is_idle leaves_j m)
    moving-map m = ap not (is_idle-map m)

    assembled-map : (a w b : List (Move J L R S))
        → assembled leaves_k live_k cc_live (map onto a) (map onto w) (map onto b)
        ≡ map onto (assembled leaves_j live_j cc_live a w b)
    assembled-map a w b =
        rw (
          filter-map onto (is_kept leaves_j live_j cc_live w) (is_kept leaves_k live_k cc_live (map onto w))
              (is_kept-map w) a,
          ← map-append onto (filter (is_kept leaves_j live_j cc_live w) a) b,
          in_order-map (filter (is_kept leaves_j live_j cc_live w) a ++ b),
        )
        (filter-map onto (λ m. not (is_idle leaves_j m)) (λ m. not (is_idle leaves_k m)) moving-map
        (in_order (filter (is_kept leaves_j live_j cc_live w) a ++ b)))

    chosen-map : (yes : Bool) (a w b : List (Move J L R S))
        → (if yes then listed (assembled leaves_k live_k cc_live (map onto a) (map onto w) (map onto b))
        else NotJoined) ≡ joint_map (if yes then listed (assembled leaves_j live_j cc_live a w b) else NotJoined)
    chosen-map true a w b = ap listed (assembled-map a w b) ∙ listed-map (assembled leaves_j live_j cc_live a w b)
    chosen-map false a w b = refl

    with_forwarded-follows : (a w : List (Move J L R S)) (b : Option (List (Move J L R S)))
        → Follows j k f joint_map (with_forwarded j leaves_j live_j cc_live a w b)
        (with_forwarded k leaves_k live_k cc_live (map onto a) (map onto w) (option_map (map onto) b))
    with_forwarded-follows a w None = λ _. refl
    with_forwarded-follows a w (Some b) =
        rw (
          store_of-map j k f g onto_register leaves_j leaves_k carries matches onto_symbol onto_label a,
          store_of-map j k f g onto_register leaves_j leaves_k carries matches onto_symbol onto_label b,
        )
        (and_then-follows j k f (λ e. e) joint_map (covers j leaves_j (store_of a) (store_of b))
        (covers k leaves_k (option_map pair (store_of a)) (option_map pair (store_of b)))
        (λ yes. give (if yes then listed (assembled leaves_j live_j cc_live a w b) else NotJoined))
        (λ yes. give (if yes then listed (assembled leaves_k live_k cc_live (map onto a) (map onto w) (map onto b))
        else NotJoined)) (covers-follows (store_of a) (store_of b))
        (λ yes _. ap give (chosen-map yes a w b)))

    join_simple-follows : (a w : List (Move J L R S))
        → Follows j k f joint_map (join_simple j leaves_j live_j cc_live a w)
        (join_simple k leaves_k live_k cc_live (map onto a) (map onto w))
    join_simple-follows a w =
        and_then-follows j k f (option_map (map onto)) joint_map (forward_moves j leaves_j a w)
        (forward_moves k leaves_k (map onto a) (map onto w)) (λ b. with_forwarded j leaves_j live_j cc_live a w b)
        (λ b. with_forwarded k leaves_k live_k cc_live (map onto a) (map onto w) b) (forward_moves-follows a w)
        (λ b. with_forwarded-follows a w b)

    pub joined-follows : (a b : List (Move J L R S))
        → Follows j k f joint_map (joined j leaves_j live_j cc_live a b)
        (joined k leaves_k live_k cc_live (map onto a) (map onto b))
    joined-follows a b =
        rw (
          any-map onto is_control is_control is_control-map a,
          any-map onto is_away is_away is_away-map b,
          filter-map onto (is_wanted live_j cc_live) (is_wanted live_k cc_live) is_wanted-map b,
        )
        (if-follows j k f joint_map (list_any is_control a || list_any is_away b) (give NotJoined)
        (and_then (simple_moves j leaves_j.same_register a)
        (λ simple_a. join_simple j leaves_j live_j cc_live simple_a (filter (is_wanted live_j cc_live) b)))
        (give NotJoined) (and_then (simple_moves k leaves_k.same_register (map onto a))
        (λ simple_a.
        join_simple k leaves_k live_k cc_live simple_a (map onto (filter (is_wanted live_j cc_live) b))))
        (λ _. refl)
        (and_then-follows j k f (map onto) joint_map (simple_moves j leaves_j.same_register a)
        (simple_moves k leaves_k.same_register (map onto a))
        (λ simple_a. join_simple j leaves_j live_j cc_live simple_a (filter (is_wanted live_j cc_live) b))
        (λ simple_a.
        join_simple k leaves_k live_k cc_live simple_a (map onto (filter (is_wanted live_j cc_live) b)))
        (simple_moves-follows j k f g onto_register onto_symbol onto_label leaves_j.same_register
        leaves_k.same_register carries matches.register a)
        (λ x. join_simple-follows x (filter (is_wanted live_j cc_live) b))))
