-- What the test of well-formed instructions needs: facts of trees, of lists of moves, and of a move before another.
use Rattle.std.proofs.Common.{suc, ◌≡◌, ℕ, ◌+◌, ◌*◌, ◌^◌, ◌<◌, ◌≤◌, ◌↔◌, max, List, [], ◌∷◌, length, All, AllPairs}
use Rattle.std.proofs.Common.{Bool, true, false, not, IsTrue, arith, sym, subst, get_or, take, drop, ◌-◌, refl}
use Rattle.std.proofs.Common.{zero-le, lit<}
use Rattle.std.proofs.lemmas.List.{get_or-map, length-map}
use Rattle.std.proofs.lemmas.Nat.{pow-add}
use Rattle.std.proofs.lemmas.List.Elements.{All-map}
use Rattle.std.proofs.lemmas.List.Kept.{AllPairs-cons}
use Rattle.std.proofs.Math.Pow.{pow_mono}
use Rattle.std.proofs.Math.Seq.{take-length}
use Rattle.std.proofs.Math.Nat.{lt_of_lt_of_le}
use Rattle.po_term.specs.declared.term.Reg.{Reg as Register}
use Rattle.po_term.specs.declared.transfer.Transfer.{Transfer}
use Rattle.po_term.specs.Tree.{Tree, Const, Leaf, Read, Unary, Binary, tree_size, tree_depth}
use Rattle.po_term.specs.Terms.{Place}
use Rattle.po_term.specs.Moves.{SetTo, move_of, moves_of, PlainMove}
use Rattle.po_term.specs.Form.{Sets, GoesBefore, WellFormedMove, WellFormed}

pub depth_positive : {K L : Type 0} (t : Tree K L) → 1 ≤ tree_depth t
depth_positive (Const c) = omega arith
depth_positive (Leaf l) = omega arith
depth_positive (Read x) = omega arith
depth_positive (Unary o x) = omega arith
depth_positive (Binary o x y) = omega arith

one_more : (n d : ℕ) → n < 2 ^ d → 1 + n < 2 ^ (1 + d)
one_more n d h = let e : 2 ^ (1 + d) ≡ 2 * 2 ^ d = pow-add 2 1 d in omega (arith, e)

two_more : (n m d : ℕ) → n < 2 ^ d → m < 2 ^ d → 1 + n + m < 2 ^ (1 + d)
two_more n m d h k = let e : 2 ^ (1 + d) ≡ 2 * 2 ^ d = pow-add 2 1 d in omega (arith, e)

set_apart : (r : Register) (t : Tree ℕ Place) (n : PlainMove) (b : Bool) → (IsTrue b ↔ Sets r n) → IsTrue (not b)
    → GoesBefore (SetTo r t) n
set_apart r t n true h f = cc
set_apart r t n false h f = record {
  in_order = zero-le;
  once = λ e. refl;
  apart = λ q e s.
      absurd (cc (h.1 (subst (λ (z : Register). Sets z n) (sym e) s)));
}

set_differs : (r : Register) (t : Tree ℕ Place) (n : PlainMove) (b : Bool) → (IsTrue b ↔ Sets r n)
    → GoesBefore (SetTo r t) n → IsTrue (not b)
set_differs r t n true h g = absurd (g.apart r refl (h.0 refl))
set_differs r t n false h g = refl

-- a tree of depth d has fewer than 2 ^ d nodes
pub size_below : {K L : Type 0} (t : Tree K L) → tree_size t < 2 ^ tree_depth t
size_below (Const c) = lit< tt
size_below (Leaf l) = lit< tt
size_below (Read x) = one_more (tree_size x) (tree_depth x) (size_below x)
size_below (Unary o x) = one_more (tree_size x) (tree_depth x) (size_below x)
size_below (Binary o x y) =
    two_more (tree_size x) (tree_size y) (max (tree_depth x) (tree_depth y))
    (lt_of_lt_of_le (size_below x) (pow_mono (omega arith)))
    (lt_of_lt_of_le (size_below y) (pow_mono (omega arith)))

pub size_of_shallow : {K L : Type 0} (t : Tree K L) → tree_depth t ≤ 64 → tree_size t < 2 ^ 64
size_of_shallow t h = lt_of_lt_of_le (size_below t) (pow_mono h)

-- a set goes before each move that doesn't set the same register
pub set_before : (r : Register) (t : Tree ℕ Place) (n : PlainMove) (b : Bool) → (IsTrue b ↔ Sets r n)
    → (IsTrue (not b) ↔ GoesBefore (SetTo r t) n)
set_before r t n b h = (set_apart r t n b h, set_differs r t n b h)

-- a fact of each move, and of each transfer
pub all_moves : (P : PlainMove → Type 0) (xs : List Transfer) → (All P (moves_of xs) ↔ All (λ t. P (move_of t)) xs)
all_moves P xs = (
  (λ h k d lt. subst P (get_or-map move_of xs k d (move_of d) lt) (h k (move_of d) (rw (length-map xs move_of) lt))),
  All-map P move_of xs,
)

-- of each pair of a list with one more before it
pub pairs_more : {X : Type 0} (R : X → X → Type 0) (x : X) (xs : List X)
    → (AllPairs R (x ∷ xs) ↔ (All (R x) xs × AllPairs R xs))
pairs_more R x xs = (
  (λ h. (
    (λ k d lt. h 0 (suc k) d (omega arith) (omega arith)),
    (λ i j d lt within. h (suc i) (suc j) d (omega arith) (omega arith)),
  )),
  (λ h. AllPairs-cons R x xs h.0 h.1),
)

-- a fact of each pair of moves, and of each pair of transfers
pub pairs_moves : (R : PlainMove → PlainMove → Type 0) (xs : List Transfer)
    → (AllPairs R (moves_of xs) ↔ AllPairs (λ x y. R (move_of x) (move_of y)) xs)
pairs_moves R [] = ((λ h i j d lt within. absurd (omega arith)), (λ h i j d lt within. absurd (omega arith)))
pairs_moves R (x ∷ xs) =
    let below = pairs_moves R xs in
    let heads = all_moves (R (move_of x)) xs in
    let moves = pairs_more R (move_of x) (moves_of xs) in
    let items = pairs_more (λ (y z : Transfer). R (move_of y) (move_of z)) x xs in (
      (λ h. items.1 (heads.0 (moves.0 h).0, below.0 (moves.0 h).1)),
      (λ h. moves.1 (heads.1 (items.0 h).0, below.1 (items.0 h).1)),
    )

all_taken : {X : Type 0} (xs : List X) (n : ℕ) → n ≡ length xs → take n xs ≡ xs
all_taken xs n e = subst (λ (k : ℕ). take k xs ≡ xs) (sym e) (take-length xs)

-- the list that a pattern with a first element and a rest takes apart
pub first_and_rest : {X : Type 0} (xs : List X) (x : X) → 1 ≤ length xs → x ≡ get_or xs 0 x
    → xs ≡ x ∷ take (length xs - 1) (drop 1 xs)
first_and_rest [] x h e = absurd (omega arith)
first_and_rest (y ∷ xs) x h e = let r : take (suc (length xs) - 1) xs ≡ xs = all_taken xs (suc (length xs) - 1)
    (omega arith) in cc

-- a fact of each pair of a list that has a first element
pub pairs_split : {X : Type 0} (R : X → X → Type 0) (xs : List X) (x : X) → 1 ≤ length xs → x ≡ get_or xs 0 x →
    let rest = take (length xs - 1) (drop 1 xs) in
    (AllPairs R xs ↔ (All (R x) rest × AllPairs R rest))
pairs_split {X = X} R xs x h e =
    let rest = take (length xs - 1) (drop 1 xs) in
    subst (λ (ys : List X). AllPairs R ys ↔ (All (R x) rest × AllPairs R rest)) (sym (first_and_rest xs x h e))
    (pairs_more R x rest)

pub form_of_moves : (xs : List Transfer) →
    (
    ((1 ≤ length xs) × (length xs ≤ 4) × AllPairs (λ x y. GoesBefore (move_of x) (move_of y)) xs
    × All (λ t. WellFormedMove (move_of t)) xs)
    ↔ WellFormed (moves_of xs)
    )
form_of_moves xs =
    let size : length (moves_of xs) ≡ length xs = length-map xs move_of in (
      (λ h. record {
        some = omega (arith, h.0);
        few = omega (arith, h.1);
        pairs = (pairs_moves GoesBefore xs).1 h.2;
        each = (all_moves WellFormedMove xs).1 h.3;
      }),
      (λ h. (
        omega (arith, h.some),
        omega (arith, h.few),
        (pairs_moves GoesBefore xs).0 h.pairs,
        (all_moves WellFormedMove xs).0 h.each,
      )),
    )
