-- Aliasing and forwarding read over one kind of constants follow those read over another.
use Rattle.std.proofs.Common.{◌≡◌, Bool, true, false, List, [], ◌∷◌, map, refl, ◌∙◌, ap}
use Rattle.std.specs.Prelude.{if◌then◌else◌, Option, Some, None}
use Rattle.std.specs.Option.{option_map}
use Rattle.po_word.specs.declared.operator.Bin.TheVariants.{Add}
use Rattle.po_word.specs.Exprs.{Zero}
use Rattle.po_word.specs.Exprs as asked
use Rattle.po_term.specs.declared.term.Alias.{Alias}
use Rattle.po_term.specs.declared.term.Alias.TheVariants.{Same, Apart, Maybe}
use Rattle.po_term.specs.Tree.{tree_map, Tree, Const, Leaf, Read, Unary, Binary}
use Rattle.po_term.specs.Moves.{Move, SetTo, CcTo, StoreTo, Ends}
use Rattle.po_term.specs.declared.term.Label.{Label}
use Rattle.po_term.specs.MoveMap.{move_map}
use Rattle.po_term.specs.Kinds.{Kind, Met, give, and_then}
use Rattle.po_term.specs.Simplified.{unary_of, binary_of}
use Rattle.po_simplify.proofs.Follows.{Carries, Follows, ask-follows, and_then-follows, unary_of-follows}
use Rattle.po_simplify.proofs.Follows.{binary_of-follows}
use Rattle.po_model.specs.Operators.{un_eq, bin_eq}
use Rattle.po_model.specs.Parts.{Leaves, cc_of, store_of, right_at}
use Rattle.po_model.specs.Forward.{with_some, and_some, some_of, agree, base_of, offset_of, by_offsets, by_bases}
use Rattle.po_model.specs.Forward.{alias_of, by_alias, read_after, right_or, forward}

-- a choice by a test that is the same on both sides
pub if-follows : {J K A B : Type 0} (j : Kind J) (k : Kind K) (f : J → K) (h : A → B) (b : Bool) (m n : Met J A)
    (m' n' : Met K B) → Follows j k f h m m' → Follows j k f h n n'
    → Follows j k f h (if b then m else n) (if b then m' else n')
if-follows j k f h true m n m' n' u v = u
if-follows j k f h false m n m' n' u v = v

pub and_some-follows : {J K A B C D : Type 0} (j : Kind J) (k : Kind K) (f : J → K) (h : A → B) (i : C → D)
    (m : Met J (Option A)) (m' : Met K (Option B)) (g : A → Met J (Option C)) (g' : B → Met K (Option D))
    → Follows j k f (option_map h) m m' → ((x : A) → Follows j k f (option_map i) (g x) (g' (h x)))
    → Follows j k f (option_map i) (and_some m g) (and_some m' g')
and_some-follows {J = J} {K = K} {A = A} {B = B} {C = C} {D = D} j k f h i m m' g g' u v =
    and_then-follows j k f (option_map h) (option_map i) m m' (λ r. with_some r g) (λ r. with_some r g') u step
  where
    step : (r : Option A) → Follows j k f (option_map i) (with_some r g) (with_some (option_map h r) g')
    step None = λ _. refl
    step (Some x) = v x

pub some_of-follows : {J K A B : Type 0} (j : Kind J) (k : Kind K) (f : J → K) (h : A → B) (m : Met J A) (n : Met K B)
    → Follows j k f h m n → Follows j k f (option_map h) (some_of m) (some_of n)
some_of-follows j k f h m n u =
    and_then-follows j k f h (option_map h) m n (λ z. give (Some z)) (λ z. give (Some z)) u (λ z _. refl)

-- g takes what is one to what is one, and what is two to what is two
pub record Matches {L M R Q S T : Type 0} (g : L → M) (onto_register : R → Q) (leaves_j : Leaves L R S)
    (leaves_k : Leaves M Q T) : Type 0 where
  pub register : (a b : L) → leaves_k.same_register (g a) (g b) ≡ leaves_j.same_register a b
  pub leaf : (a b : L) → leaves_k.same_leaf (g a) (g b) ≡ leaves_j.same_leaf a b
  pub in_place : (r : R) → leaves_k.in_register (onto_register r) ≡ g (leaves_j.in_register r)

module _ {J K L M R Q S T : Type 0} (j : Kind J) (k : Kind K) (f : J → K) (g : L → M) (onto_register : R → Q)
    (leaves_j : Leaves L R S) (leaves_k : Leaves M Q T) (carries : Carries j k f)
    (matches : Matches g onto_register leaves_j leaves_k) where
  pub agree-follows : (a b : Tree J L)
      → Follows j k f (λ (e : Bool). e) (agree j leaves_j a b) (agree k leaves_k (tree_map f g a) (tree_map f g b))
  agree-follows (Const c) (Const d) =
      ask-follows j k f (λ e. e) (asked.Same c d) (give true) (give false) (give true) (give false) (λ _. refl)
      (λ _. refl)
  agree-follows (Leaf l) (Leaf m) = λ _. simp (matches.leaf)
  agree-follows (Read x) (Read y) = agree-follows x y
  agree-follows (Unary o x) (Unary p y) =
      if-follows j k f (λ e. e) (un_eq o p) (agree j leaves_j x y) (give false)
      (agree k leaves_k (tree_map f g x) (tree_map f g y)) (give false) (agree-follows x y) (λ _. refl)
  agree-follows (Binary o x y) (Binary p u v) =
      if-follows j k f (λ e. e) (bin_eq o p)
      (and_then (agree j leaves_j x u) (λ b. if b then agree j leaves_j y v else give false)) (give false)
      (and_then (agree k leaves_k (tree_map f g x) (tree_map f g u))
      (λ b. if b then agree k leaves_k (tree_map f g y) (tree_map f g v) else give false)) (give false)
      (and_then-follows j k f (λ e. e) (λ e. e) (agree j leaves_j x u)
      (agree k leaves_k (tree_map f g x) (tree_map f g u)) (λ b. if b then agree j leaves_j y v else give false)
      (λ b. if b then agree k leaves_k (tree_map f g y) (tree_map f g v) else give false) (agree-follows x u)
      (λ b. if-follows j k f (λ e. e) b (agree j leaves_j y v) (give false)
      (agree k leaves_k (tree_map f g y) (tree_map f g v)) (give false) (agree-follows y v) (λ _. refl)))
      (λ _. refl)
  agree-follows a b = λ _. refl

  base_of-map : (a : Tree J L) → base_of (tree_map f g a) ≡ option_map (tree_map f g) (base_of a)
  base_of-map (Const c) = refl
  base_of-map (Binary Add u (Const c)) = refl
  base_of-map a = refl

  offset_of-map : (a : Tree J L) → offset_of (tree_map f g a) ≡ option_map f (offset_of a)
  offset_of-map (Const c) = refl
  offset_of-map (Binary Add u (Const c)) = refl
  offset_of-map a = refl

  by_offsets-follows : (c d : Option J)
      → Follows j k f (λ (e : Alias). e) (by_offsets j leaves_j c d)
      (by_offsets k leaves_k (option_map f c) (option_map f d))
  by_offsets-follows (Some c) (Some d) =
      ask-follows j k f (λ e. e) (asked.Same c d) (give Same) (give Apart) (give Same) (give Apart) (λ _. refl)
      (λ _. refl)
  by_offsets-follows (Some c) None =
      ask-follows j k f (λ e. e) (Zero c) (give Same) (give Apart) (give Same) (give Apart) (λ _. refl) (λ _. refl)
  by_offsets-follows None (Some d) =
      ask-follows j k f (λ e. e) (Zero d) (give Same) (give Apart) (give Same) (give Apart) (λ _. refl) (λ _. refl)
  by_offsets-follows None None = λ _. refl

  by_bases-follows : (u v : Option (Tree J L)) (m : Met J Alias) (n : Met K Alias)
      → Follows j k f (λ (e : Alias). e) m n
      → Follows j k f (λ (e : Alias). e) (by_bases j leaves_j u v m)
      (by_bases k leaves_k (option_map (tree_map f g) u) (option_map (tree_map f g) v) n)
  by_bases-follows (Some u) (Some v) m n h =
      and_then-follows j k f (λ e. e) (λ e. e) (agree j leaves_j u v)
      (agree k leaves_k (tree_map f g u) (tree_map f g v)) (λ b. if b then m else give Maybe)
      (λ b. if b then n else give Maybe) (agree-follows u v)
      (λ b. if-follows j k f (λ e. e) b m (give Maybe) n (give Maybe) h (λ _. refl))
  by_bases-follows None None m n h = h
  by_bases-follows u v m n h = λ _. refl

  pub alias_of-follows : (p q : Tree J L)
      → Follows j k f (λ (e : Alias). e) (alias_of j leaves_j p q)
      (alias_of k leaves_k (tree_map f g p) (tree_map f g q))
  alias_of-follows p q =
      rw (base_of-map p, base_of-map q, offset_of-map p, offset_of-map q)
      (by_bases-follows (base_of p) (base_of q) (by_offsets j leaves_j (offset_of p) (offset_of q))
      (by_offsets k leaves_k (option_map f (offset_of p)) (option_map f (offset_of q)))
      (by_offsets-follows (offset_of p) (offset_of q)))

  -- two terms with their parts replaced
  abbrev pub two_map : Tree J L × Tree J L → Tree K M × Tree K M
  two_map two = (tree_map f g two.0, tree_map f g two.1)

  by_alias-map : (e : Alias) (w q : Tree J L)
      → by_alias e (tree_map f g w) (tree_map f g q) ≡ option_map (tree_map f g) (by_alias e w q)
  by_alias-map Same w q = refl
  by_alias-map Apart w q = refl
  by_alias-map Maybe w q = refl

  read_after-follows : (m : Option (Tree J L × Tree J L)) (q : Tree J L)
      → Follows j k f (option_map (tree_map f g)) (read_after j leaves_j m q)
      (read_after k leaves_k (option_map two_map m) (tree_map f g q))
  read_after-follows None q = λ _. refl
  read_after-follows (Some m) q =
      and_then-follows j k f (λ e. e) (option_map (tree_map f g)) (alias_of j leaves_j m.0 q)
      (alias_of k leaves_k (tree_map f g m.0) (tree_map f g q)) (λ meets. give (by_alias meets m.1 q))
      (λ meets. give (by_alias meets (tree_map f g m.1) (tree_map f g q))) (alias_of-follows m.0 q)
      (λ e _. ap give (by_alias-map e m.1 q))

  right_or-map : (o : Option (Tree J L)) (l : L)
      → right_or (option_map (tree_map f g) o) (g l) ≡ tree_map f g (right_or o l)
  right_or-map None l = refl
  right_or-map (Some t) l = refl

  module _ (onto_symbol : S → T) (onto_label : Label → Label) where
    abbrev pub onto : Move J L R S → Move K M Q T
    onto m = move_map f g onto_register onto_symbol onto_label m

    pub cc_of-map : (ms : List (Move J L R S)) → cc_of (map onto ms) ≡ option_map two_map (cc_of ms)
    cc_of-map [] = refl
    cc_of-map (SetTo r t ∷ ms) = cc_of-map ms
    cc_of-map (CcTo t u ∷ ms) = refl
    cc_of-map (StoreTo t u ∷ ms) = cc_of-map ms
    cc_of-map (Ends e ∷ ms) = cc_of-map ms

    pub store_of-map : (ms : List (Move J L R S)) → store_of (map onto ms) ≡ option_map two_map (store_of ms)
    store_of-map [] = refl
    store_of-map (SetTo r t ∷ ms) = store_of-map ms
    store_of-map (CcTo t u ∷ ms) = store_of-map ms
    store_of-map (StoreTo t u ∷ ms) = refl
    store_of-map (Ends e ∷ ms) = store_of-map ms

    pub right_at-map : (l : L) (ms : List (Move J L R S))
        → right_at leaves_k (g l) (map onto ms) ≡ option_map (tree_map f g) (right_at leaves_j l ms)
    right_at-map l [] = refl
    right_at-map l (SetTo r t ∷ ms) =
        rw (matches.in_place r, matches.register l (leaves_j.in_register r))
        (chosen (leaves_j.same_register l (leaves_j.in_register r)) (right_at-map l ms))
      where
        chosen : (b : Bool)
            → right_at leaves_k (g l) (map onto ms) ≡ option_map (tree_map f g) (right_at leaves_j l ms)
            → (if b then Some (tree_map f g t) else right_at leaves_k (g l) (map onto ms))
            ≡ option_map (tree_map f g) (if b then Some t else right_at leaves_j l ms)
        chosen true e = refl
        chosen false e = e
    right_at-map l (CcTo t u ∷ ms) = right_at-map l ms
    right_at-map l (StoreTo t u ∷ ms) = right_at-map l ms
    right_at-map l (Ends e ∷ ms) = right_at-map l ms

    pub forward-follows : (a : List (Move J L R S)) (t : Tree J L)
        → Follows j k f (option_map (tree_map f g)) (forward j leaves_j a t)
        (forward k leaves_k (map onto a) (tree_map f g t))
    forward-follows a (Const c) = λ _. refl
    forward-follows a (Leaf l) =
        λ _. ap (λ t. give (Some t))
        (ap (λ o. right_or o (g l)) (right_at-map l a) ∙ right_or-map (right_at leaves_j l a) l)
    forward-follows a (Read x) =
        and_some-follows j k f (tree_map f g) (tree_map f g) (forward j leaves_j a x)
        (forward k leaves_k (map onto a) (tree_map f g x)) (λ q. read_after j leaves_j (store_of a) q)
        (λ q. read_after k leaves_k (store_of (map onto a)) q) (forward-follows a x)
        (λ q. rw (store_of-map a) (read_after-follows (store_of a) q))
    forward-follows a (Unary o x) =
        and_some-follows j k f (tree_map f g) (tree_map f g) (forward j leaves_j a x)
        (forward k leaves_k (map onto a) (tree_map f g x)) (λ y. some_of (unary_of j leaves_j.same_register o y))
        (λ y. some_of (unary_of k leaves_k.same_register o y)) (forward-follows a x)
        (λ y. some_of-follows j k f (tree_map f g) (unary_of j leaves_j.same_register o y)
        (unary_of k leaves_k.same_register o (tree_map f g y))
        (unary_of-follows j k f g leaves_j.same_register leaves_k.same_register carries matches.register o y))
    forward-follows a (Binary o x y) =
        and_some-follows j k f (tree_map f g) (tree_map f g) (forward j leaves_j a x)
        (forward k leaves_k (map onto a) (tree_map f g x))
        (λ t. and_some (forward j leaves_j a y) (λ u. some_of (binary_of j leaves_j.same_register o t u)))
        (λ t. and_some (forward k leaves_k (map onto a) (tree_map f g y))
        (λ u. some_of (binary_of k leaves_k.same_register o t u))) (forward-follows a x)
        (
        λ t. and_some-follows j k f (tree_map f g) (tree_map f g) (forward j leaves_j a y)
        (forward k leaves_k (map onto a) (tree_map f g y))
        (λ u. some_of (binary_of j leaves_j.same_register o t u))
        (λ u. some_of (binary_of k leaves_k.same_register o (tree_map f g t) u)) (forward-follows a y)
        (λ u. some_of-follows j k f (tree_map f g) (binary_of j leaves_j.same_register o t u)
        (binary_of k leaves_k.same_register o (tree_map f g t) (tree_map f g u))
        (binary_of-follows j k f g leaves_j.same_register leaves_k.same_register carries matches.register o t u)))
