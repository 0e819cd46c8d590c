-- A printed term is read as it, whatever follows that ends its last word.
use Rattle.std.proofs.Common.{◌≡◌, ◌≢◌, ℕ, ◌+◌, ◌≤◌, List, [], ◌∷◌, ◌++◌, true, false, Option, Some, refl, ap, ◌∙◌}
use Rattle.std.proofs.Common.{arith, suc, zero}
use Rattle.std.specs.Prelude.{codes, ◌==◌}
use Rattle.std.specs.Option.{option_map}
use Rattle.std.proofs.lemmas.Bool.Decides.{nat_tests}
use Rattle.po_word.specs.declared.operator.Un.TheVariants.{Neg, Not}
use Rattle.po_word.specs.declared.operator.Bin.{Bin}
use Rattle.po_term.specs.Tree.{Tree, Const, Leaf, Read, Unary, Binary, tree_depth}
use Rattle.po_term.specs.Terms.{Place}
use Rattle.po_termtext.specs.TermText.{term_text, bin_text}
use Rattle.po_termtext.specs.Form.{HasNumbers}
use Rattle.po_termtext.specs.Reading.{◌>>=◌, Seen, behind, word_of, rest_of, leaf_in, leaf_seen, operator_in}
use Rattle.po_termtext.specs.Reading.{operator_seen, closed, term_by, term_in}
use Rattle.po_termtext.proofs.Words.{ends, word_again, rest_again}
use Rattle.po_termtext.proofs.Leaves.{ReadsAgain, IsFront, const_reads, place_reads, operator_again, operator_in_word}
use Rattle.po_termtext.proofs.Found.{read_text, neg_text, not_text, binary_text}

differs : (b c : ℕ) → b ≢ c → (b == c) ≡ false
differs b c h = grind (arith, nat_tests)

front_leaf : (operand : List ℕ → Option (Seen (Tree ℕ Place))) (w rest : List ℕ) → IsFront w
    → term_by operand (w ++ rest) ≡ leaf_seen (w ++ rest)
front_leaf operand [] rest h = absurd (omega (arith, h.some))
front_leaf operand (b ∷ bs) rest h =
    let bracket : (b == 40) ≡ false = differs b 40 h.bracket in
    let memory : (b == 77) ≡ false = differs b 77 h.memory in
    let word : (b == 110) ≡ false = differs b 110 h.word in
    rw (bracket, memory, word) refl

leaf_seen_again : (t : Tree ℕ Place) (rest : List ℕ) → ReadsAgain t → ends rest ≡ true
    → leaf_seen (term_text t ++ rest) ≡ Some (t, rest)
unfolding leaf_seen
leaf_seen_again t rest h e =
    let word : word_of (term_text t ++ rest) ≡ term_text t = word_again (term_text t) rest h.word e in
    let after : rest_of (term_text t ++ rest) ≡ rest = rest_again (term_text t) rest h.word e in
    ap (λ (w : List ℕ). option_map (λ (u : Tree ℕ Place). (u, rest_of (term_text t ++ rest))) (leaf_in w)) word
    ∙ ap (option_map (λ (u : Tree ℕ Place). (u, rest_of (term_text t ++ rest)))) h.read
    ∙ ap (λ (r : List ℕ). Some (t, r)) after

one_again : (operand : List ℕ → Option (Seen (Tree ℕ Place))) (t : Tree ℕ Place) (rest : List ℕ) → ReadsAgain t
    → ends rest ≡ true → term_by operand (term_text t ++ rest) ≡ Some (t, rest)
one_again operand t rest h e = front_leaf operand (term_text t) rest h.front ∙ leaf_seen_again t rest h e

operator_seen_again : (o : Bin) (rest : List ℕ) → operator_seen (32 ∷ (bin_text o ++ (32 ∷ rest))) ≡ Some (o, rest)
unfolding operator_seen
operator_seen_again o rest =
    let word : word_of (bin_text o ++ (32 ∷ rest)) ≡ bin_text o = word_again (bin_text o) (32 ∷ rest)
    (operator_in_word o) refl in
    let after : rest_of (bin_text o ++ (32 ∷ rest)) ≡ 32 ∷ rest = rest_again (bin_text o) (32 ∷ rest)
    (operator_in_word o) refl in
    let made : ℕ → List ℕ → List ℕ → Option (Seen Bin) =
    λ n w r. operator_in w >>= (λ op. behind (codes " ") r >>= (λ left. Some (op, left))) in
    ap (λ (w : List ℕ). made 0 w (rest_of (bin_text o ++ (32 ∷ rest)))) word
    ∙ ap (λ (r : List ℕ). made 0 (bin_text o) r) after
    ∙ ap (λ (op : Option Bin). op >>= (λ (x : Bin). Some (x, rest))) (operator_again o)

closed_again : (make : Tree ℕ Place → Tree ℕ Place) (mark : ℕ) (t : Tree ℕ Place) (rest : List ℕ) → (mark == mark)
    ≡ true → closed make (mark ∷ []) (t, mark ∷ rest) ≡ Some (make t, rest)
unfolding closed
closed_again make mark t rest h = rw h refl

depth_left : (n m d : ℕ) → 1 + n ≤ suc d → m ≤ n → m ≤ d
depth_left n m d h k = omega (arith, h, k)

pub term_again : (t : Tree ℕ Place) (d : ℕ) (rest : List ℕ) → HasNumbers t → tree_depth t ≤ d → ends rest ≡ true
    → term_in d (term_text t ++ rest) ≡ Some (t, rest)
unfolding term_in
term_again (Const c) zero rest n h e = absurd (omega (arith, h))
term_again (Leaf p) zero rest n h e = absurd (omega (arith, h))
term_again (Read a) zero rest n h e = absurd (omega (arith, h))
term_again (Unary o a) zero rest n h e = absurd (omega (arith, h))
term_again (Binary o a b) zero rest n h e = absurd (omega (arith, h))
term_again (Const c) (suc d) rest n h e = one_again (term_in d) (Const c) rest (const_reads c n.words) e
term_again (Leaf p) (suc d) rest n h e = one_again (term_in d) (Leaf p) rest (place_reads p n.places) e
term_again (Read a) (suc d) rest n h e =
    ap (term_by (term_in d)) (read_text a rest)
    ∙ ap (λ (r : Option (Seen (Tree ℕ Place))). r >>= closed Read (codes "]"))
    (term_again a d (93 ∷ rest) (record { words = n.words; places = n.places })
    (omega (arith, h)) refl)
    ∙ closed_again Read 93 a rest refl
term_again (Unary Neg a) (suc d) rest n h e =
    ap (term_by (term_in d)) (neg_text a rest)
    ∙ ap (λ (r : Option (Seen (Tree ℕ Place))). r >>= closed (Unary Neg) (codes ")"))
    (term_again a d (41 ∷ rest) (record { words = n.words; places = n.places })
    (omega (arith, h)) refl)
    ∙ closed_again (Unary Neg) 41 a rest refl
term_again (Unary Not a) (suc d) rest n h e =
    ap (term_by (term_in d)) (not_text a rest)
    ∙ ap (λ (r : Option (Seen (Tree ℕ Place))). r >>= closed (Unary Not) (codes ")"))
    (term_again a d (41 ∷ rest) (record { words = n.words; places = n.places })
    (omega (arith, h)) refl)
    ∙ closed_again (Unary Not) 41 a rest refl
term_again (Binary o a b) (suc d) rest n h e =
    let tail : List ℕ = term_text b ++ (41 ∷ rest) in
    let third : Seen Bin → Seen (Tree ℕ Place) → Option (Seen (Tree ℕ Place)) = λ op left. term_in d op.1 >>= closed
    (Binary op.0 left.0) (codes ")") in
    let second : Seen (Tree ℕ Place) → Option (Seen (Tree ℕ Place)) = λ left. operator_seen left.1 >>=
    (λ op. third op left) in
    ap (term_by (term_in d)) (binary_text o a b rest)
    ∙ ap (λ (r : Option (Seen (Tree ℕ Place))). r >>= second) (term_again a d (32 ∷ (bin_text o ++ (32 ∷ tail)))
    (record { words = n.words.0; places = n.places.0 }) (omega (arith, h)) refl)
    ∙ ap (λ (r : Option (Seen Bin)). r >>= (λ (op : Seen Bin). third op (a, 32 ∷ (bin_text o ++ (32 ∷ tail)))))
    (operator_seen_again o tail)
    ∙ ap (λ (r : Option (Seen (Tree ℕ Place))). r >>= closed (Binary o a) (codes ")"))
    (term_again b d (41 ∷ rest) (record { words = n.words.1; places = n.places.1 })
    (omega (arith, h)) refl)
    ∙ closed_again (Binary o a) 41 b rest refl
