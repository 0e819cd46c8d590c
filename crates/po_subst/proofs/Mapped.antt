-- Facts of each part of a term or a transfer, and what they say of it with its parts replaced: maps that agree on what
-- occurs in it make one of it, and a map that leaves it as it is leaves each of its parts.
use Rattle.std.proofs.Common.{◌≡◌, List, [], ◌∷◌, map, refl, ap}
use Rattle.std.specs.Prelude.{⊤}
use Rattle.po_term.specs.declared.term.Label.{Label}
use Rattle.po_term.specs.Tree.{Tree, Const, Leaf, Read, Unary, Binary, tree_map, EachConst, EachLeaf}
use Rattle.po_term.specs.Moves.{Ending, GoTo, IfCc, IfTwo, CallOf, Return, Move, SetTo, CcTo, StoreTo, Ends}
use Rattle.po_term.specs.MoveMap.{move_map}

module _ {K L : Type 0} (C : K → Type 0) (P : L → Type 0) where
  -- a fact of each constant and each other leaf of a term
  abbrev pub EachOfTree : Tree K L → Type 0
  EachOfTree t = EachConst C t × EachLeaf P t

  module _ {R S : Type 0} (O : R → Type 0) (Y : S → Type 0) (B : Label → Type 0) where
    abbrev pub EachOfEnding : Ending K L S → Type 0
    EachOfEnding (GoTo l) = B l
    EachOfEnding (IfCc r l) = B l
    EachOfEnding (IfTwo t u r l) = EachOfTree t × EachOfTree u × B l
    EachOfEnding (CallOf s n) = Y s
    EachOfEnding Return = ⊤

    -- a fact of each constant, other leaf, register that is set, called symbol and label of a transfer
    abbrev pub EachOfMove : Move K L R S → Type 0
    EachOfMove (SetTo r t) = O r × EachOfTree t
    EachOfMove (CcTo t u) = EachOfTree t × EachOfTree u
    EachOfMove (StoreTo t u) = EachOfTree t × EachOfTree u
    EachOfMove (Ends e) = EachOfEnding e

    abbrev pub EachOf : List (Move K L R S) → Type 0
    EachOf [] = ⊤
    EachOf (m ∷ ms) = EachOfMove m × EachOf ms

-- where both maps agree on each part, they make one of it
module _ {J K L M : Type 0} (f f' : J → K) (g g' : L → M) where
  pub trees_agree : (t : Tree J L) → EachConst (λ c. f c ≡ f' c) t → EachLeaf (λ l. g l ≡ g' l) t
      → tree_map f g t ≡ tree_map f' g' t
  trees_agree (Const c) h i = ap Const h
  trees_agree (Leaf l) h i = ap Leaf i
  trees_agree (Read t) h i = ap Read (trees_agree t h i)
  trees_agree (Unary u t) h i = ap (λ x. Unary u x) (trees_agree t h i)
  trees_agree (Binary p t u) h i = rw (trees_agree t h.0 i.0, trees_agree u h.1 i.1) refl

  module _ {R Q S T : Type 0} (o o' : R → Q) (y y' : S → T) (b b' : Label → Label) where
    abbrev AgreeOnMove : Move J L R S → Type 0
    AgreeOnMove m =
        EachOfMove (λ c. f c ≡ f' c) (λ l. g l ≡ g' l) (λ r. o r ≡ o' r) (λ s. y s ≡ y' s) (λ l. b l ≡ b' l) m

    abbrev pub AgreeOn : List (Move J L R S) → Type 0
    AgreeOn ms =
        EachOf (λ c. f c ≡ f' c) (λ l. g l ≡ g' l) (λ r. o r ≡ o' r) (λ s. y s ≡ y' s) (λ l. b l ≡ b' l) ms

    move_agrees : (m : Move J L R S) → AgreeOnMove m → move_map f g o y b m ≡ move_map f' g' o' y' b' m
    move_agrees (SetTo r t) h = rw (h.0, trees_agree t h.1.0 h.1.1) refl
    move_agrees (CcTo t u) h = rw (trees_agree t h.0.0 h.0.1, trees_agree u h.1.0 h.1.1) refl
    move_agrees (StoreTo t u) h = rw (trees_agree t h.0.0 h.0.1, trees_agree u h.1.0 h.1.1) refl
    move_agrees (Ends (GoTo l)) h = rw h refl
    move_agrees (Ends (IfCc r l)) h = rw h refl
    move_agrees (Ends (IfTwo t u r l)) h = rw (trees_agree t h.0.0 h.0.1, trees_agree u h.1.0 h.1.1, h.2) refl
    move_agrees (Ends (CallOf s n)) h = rw h refl
    move_agrees (Ends Return) h = refl

    pub moves_agree : (ms : List (Move J L R S)) → AgreeOn ms
        → map (move_map f g o y b) ms ≡ map (move_map f' g' o' y' b') ms
    moves_agree [] h = refl
    moves_agree (m ∷ ms) h = rw (move_agrees m h.0, moves_agree ms h.1) refl

-- where a map leaves a term or a list as it is, it leaves each part as it is
module _ {K L : Type 0} (f : K → K) (g : L → L) where
  consts_stay : (t : Tree K L) → tree_map f g t ≡ t → EachConst (λ c. f c ≡ c) t
  consts_stay (Const c) h = cc
  consts_stay (Leaf l) h = tt
  consts_stay (Read t) h = consts_stay t (cc)
  consts_stay (Unary u t) h = consts_stay t (cc)
  consts_stay (Binary p t u) h = (consts_stay t (cc), consts_stay u (cc))

  leaves_stay : (t : Tree K L) → tree_map f g t ≡ t → EachLeaf (λ l. g l ≡ l) t
  leaves_stay (Const c) h = tt
  leaves_stay (Leaf l) h = cc
  leaves_stay (Read t) h = leaves_stay t (cc)
  leaves_stay (Unary u t) h = leaves_stay t (cc)
  leaves_stay (Binary p t u) h = (leaves_stay t (cc), leaves_stay u (cc))

  pub tree_stays : (t : Tree K L) → tree_map f g t ≡ t → EachOfTree (λ c. f c ≡ c) (λ l. g l ≡ l) t
  tree_stays t h = (consts_stay t h, leaves_stay t h)

  module _ {R S : Type 0} (o : R → R) (y : S → S) (b : Label → Label) where
    move_stays : (m : Move K L R S) → move_map f g o y b m ≡ m
        → EachOfMove (λ c. f c ≡ c) (λ l. g l ≡ l) (λ r. o r ≡ r) (λ s. y s ≡ s) (λ l. b l ≡ l) m
    move_stays (SetTo r t) h = (cc, tree_stays t (cc))
    move_stays (CcTo t u) h = (tree_stays t (cc), tree_stays u (cc))
    move_stays (StoreTo t u) h = (tree_stays t (cc), tree_stays u (cc))
    move_stays (Ends (GoTo l)) h = cc
    move_stays (Ends (IfCc r l)) h = cc
    move_stays (Ends (IfTwo t u r l)) h = (tree_stays t (cc), tree_stays u (cc), cc)
    move_stays (Ends (CallOf s n)) h = cc
    move_stays (Ends Return) h = tt

    pub moves_stay : (ms : List (Move K L R S)) → map (move_map f g o y b) ms ≡ ms
        → EachOf (λ c. f c ≡ c) (λ l. g l ≡ l) (λ r. o r ≡ r) (λ s. y s ≡ s) (λ l. b l ≡ l) ms
    moves_stay [] h = tt
    moves_stay (m ∷ ms) h = (move_stays m (cc), moves_stay ms (cc))

-- facts that follow from others, part by part
module _ {K L : Type 0} {C C' : K → Type 0} {P P' : L → Type 0}
    (c : (x : K) → C x → C' x) (p : (x : L) → P x → P' x) where
  consts_imply : (t : Tree K L) → EachConst C t → EachConst C' t
  consts_imply (Const x) h = c x h
  consts_imply (Leaf x) h = tt
  consts_imply (Read t) h = consts_imply t h
  consts_imply (Unary u t) h = consts_imply t h
  consts_imply (Binary q t u) h = (consts_imply t h.0, consts_imply u h.1)

  leaves_imply : (t : Tree K L) → EachLeaf P t → EachLeaf P' t
  leaves_imply (Const x) h = tt
  leaves_imply (Leaf x) h = p x h
  leaves_imply (Read t) h = leaves_imply t h
  leaves_imply (Unary u t) h = leaves_imply t h
  leaves_imply (Binary q t u) h = (leaves_imply t h.0, leaves_imply u h.1)

  pub tree_implies : (t : Tree K L) → EachOfTree C P t → EachOfTree C' P' t
  tree_implies t h = (consts_imply t h.0, leaves_imply t h.1)

  module _ {R S : Type 0} {O O' : R → Type 0} {Y Y' : S → Type 0} {B B' : Label → Type 0}
      (o : (x : R) → O x → O' x) (y : (x : S) → Y x → Y' x) (b : (x : Label) → B x → B' x) where
    pub move_implies : (m : Move K L R S) → EachOfMove C P O Y B m → EachOfMove C' P' O' Y' B' m
    move_implies (SetTo r t) h = (o r h.0, tree_implies t h.1)
    move_implies (CcTo t u) h = (tree_implies t h.0, tree_implies u h.1)
    move_implies (StoreTo t u) h = (tree_implies t h.0, tree_implies u h.1)
    move_implies (Ends (GoTo l)) h = b l h
    move_implies (Ends (IfCc r l)) h = b l h
    move_implies (Ends (IfTwo t u r l)) h = (tree_implies t h.0, tree_implies u h.1, b l h.2)
    move_implies (Ends (CallOf s n)) h = y s h
    move_implies (Ends Return) h = tt

    pub moves_imply : (ms : List (Move K L R S)) → EachOf C P O Y B ms → EachOf C' P' O' Y' B' ms
    moves_imply [] h = tt
    moves_imply (m ∷ ms) h = (move_implies m h.0, moves_imply ms h.1)
