-- What is read is the front of the text.
use Rattle.std.proofs.Common.{◌≡◌, ℕ, ◌≤◌, List, ◌∷◌, ◌++◌, Option, Some, None, refl, sym, ap, ◌∙◌, subst, arith, suc}
use Rattle.std.proofs.Common.{zero, append_assoc}
use Rattle.std.specs.Prelude.{codes}
use Rattle.po_word.specs.declared.operator.Un.TheVariants.{Neg, Not}
use Rattle.po_word.specs.declared.operator.Bin.{Bin}
use Rattle.po_term.specs.Tree.{Tree, Read, Unary, Binary, tree_depth}
use Rattle.po_term.specs.Terms.{Place}
use Rattle.po_termtext.specs.TermText.{term_text, bin_text}
use Rattle.po_termtext.specs.Form.{HasNumbers}
use Rattle.po_termtext.specs.Reading.{Seen, behind, word_of, rest_of, leaf_in, leaf_seen, operator_in, operator_seen}
use Rattle.po_termtext.specs.Reading.{closed, by_front, term_in}
use Rattle.po_termtext.proofs.Options.{mapped, bound}
use Rattle.po_termtext.proofs.Words.{behind_found, word_and_rest}
use Rattle.po_termtext.proofs.Leaves.{leaf_found, operator_found}

-- the facts of a term that was read at the front of a text
pub record IsRead (limit : ℕ) (s : List ℕ) (p : Seen (Tree ℕ Place)) : Type 0 where
  pub text : s ≡ term_text p.0 ++ p.1
  pub numbers : HasNumbers p.0
  pub depth : tree_depth p.0 ≤ limit

leaf_read : (d : ℕ) (s : List ℕ) (p : Seen (Tree ℕ Place)) → leaf_seen s ≡ Some p → IsRead (suc d) s p
unfolding leaf_seen
leaf_read d s p e =
    let read = mapped (λ t. (t, rest_of s)) (leaf_in (word_of s)) p e in
    let facts = leaf_found (word_of s) read.0 read.1 in
    subst (IsRead (suc d) s) read.2 (record {
      text = word_and_rest s ∙ ap (λ (w : List ℕ). w ++ rest_of s) facts.text;
      numbers = facts.numbers;
      depth = omega (arith, facts.flat);
    })

operator_read : (s : List ℕ) (p : Seen Bin) → operator_seen s ≡ Some p → s ≡ 32 ∷ (bin_text p.0 ++ (32 ∷ p.1))
unfolding operator_seen
operator_read s p e =
    let inner = bound _ (behind (codes " ") s) p e in
    let op = bound _ (operator_in (word_of inner.0)) p inner.2 in
    let rest = bound _ (behind (codes " ") (rest_of inner.0)) p op.2 in
    let made : (op.0, rest.0) ≡ p = cc in
    let word : word_of inner.0 ≡ bin_text op.0 = operator_found (word_of inner.0) op.0 op.1 in
    let after : rest_of inner.0 ≡ 32 ∷ rest.0 = behind_found (codes " ") (rest_of inner.0) rest.0 rest.1 in
    let text : inner.0 ≡ bin_text op.0 ++ (32 ∷ rest.0) = word_and_rest inner.0
    ∙ ap (λ (w : List ℕ). w ++ rest_of inner.0) word ∙ ap (λ (r : List ℕ). bin_text op.0 ++ r) after in
    subst (λ (q : Seen Bin). s ≡ 32 ∷ (bin_text q.0 ++ (32 ∷ q.1))) made (behind_found (codes " ") s inner.0 inner.1
    ∙ ap (λ (r : List ℕ). 32 ∷ r) text)

-- the facts of a term that a mark closed
record IsClosed (make : Tree ℕ Place → Tree ℕ Place) (mark : List ℕ) (x p : Seen (Tree ℕ Place)) : Type 0 where
  tree : make x.0 ≡ p.0
  rest : x.1 ≡ mark ++ p.1

closed_read : (make : Tree ℕ Place → Tree ℕ Place) (mark : List ℕ) (x p : Seen (Tree ℕ Place)) → closed make mark x
    ≡ Some p → IsClosed make mark x p
unfolding closed
closed_read make mark x p e =
    let read = mapped (λ rest. (make x.0, rest)) (behind mark x.1) p e in
    subst (IsClosed make mark x) read.2 (record { tree = refl; rest = behind_found mark x.1 read.0 read.1 })

-- texts, with what follows them, from left to right
pub read_text : (a : Tree ℕ Place) (rest : List ℕ) → term_text (Read a) ++ rest ≡ 77
    ∷ (91 ∷ (term_text a ++ (93 ∷ rest)))
read_text a rest = simp append_assoc

pub neg_text : (a : Tree ℕ Place) (rest : List ℕ) → term_text (Unary Neg a) ++ rest ≡ 110
    ∷ (101 ∷ (103 ∷ (40 ∷ (term_text a ++ (41 ∷ rest)))))
neg_text a rest = simp append_assoc

pub not_text : (a : Tree ℕ Place) (rest : List ℕ) → term_text (Unary Not a) ++ rest ≡ 110
    ∷ (111 ∷ (116 ∷ (40 ∷ (term_text a ++ (41 ∷ rest)))))
not_text a rest = simp append_assoc

pub binary_text : (o : Bin) (a b : Tree ℕ Place) (rest : List ℕ) → term_text (Binary o a b) ++ rest ≡ 40
    ∷ (term_text a ++ (32 ∷ (bin_text o ++ (32 ∷ (term_text b ++ (41 ∷ rest))))))
binary_text o a b rest = simp append_assoc

-- what an operand is read as has the facts
abbrev Reads : ℕ → (List ℕ → Option (Seen (Tree ℕ Place))) → Type 0
Reads d operand = (s : List ℕ) (p : Seen (Tree ℕ Place)) → operand s ≡ Some p → IsRead d s p

one_read : (d : ℕ) (s inner mark : List ℕ) (make : Tree ℕ Place → Tree ℕ Place) (open_text : List ℕ)
    (x p : Seen (Tree ℕ Place))
    → s ≡ open_text ++ inner → IsRead d inner x → IsClosed make mark x p
    → s ≡ open_text ++ (term_text x.0 ++ (mark ++ p.1))
one_read d s inner mark make open_text x p front operand end =
    front ∙ ap (λ (r : List ℕ). open_text ++ r) (operand.text ∙ ap (λ (r : List ℕ). term_text x.0 ++ r) end.rest)

memory_read : (d : ℕ) (s inner : List ℕ) (x p : Seen (Tree ℕ Place)) → s ≡ 77 ∷ (91 ∷ inner) → IsRead d inner x
    → IsClosed Read (codes "]") x p → IsRead (suc d) s p
memory_read d s inner x p front operand end =
    let made : (Read x.0, p.1) ≡ p = ap (λ (t : Tree ℕ Place). (t, p.1)) end.tree in
    subst (IsRead (suc d) s) made (record {
      text = one_read d s inner (codes "]") Read (codes "M[") x p front operand end ∙ sym (read_text x.0 p.1);
      numbers = record { words = operand.numbers.words; places = operand.numbers.places };
      depth = omega (arith, operand.depth);
    })

neg_read : (d : ℕ) (s inner : List ℕ) (x p : Seen (Tree ℕ Place)) → s ≡ codes "neg(" ++ inner → IsRead d inner x
    → IsClosed (Unary Neg) (codes ")") x p → IsRead (suc d) s p
neg_read d s inner x p front operand end =
    let made : (Unary Neg x.0, p.1) ≡ p = ap (λ (t : Tree ℕ Place). (t, p.1)) end.tree in
    subst (IsRead (suc d) s) made (record {
      text = one_read d s inner (codes ")") (Unary Neg) (codes "neg(") x p front operand end ∙ sym (neg_text x.0 p.1);
      numbers = record { words = operand.numbers.words; places = operand.numbers.places };
      depth = omega (arith, operand.depth);
    })

not_read : (d : ℕ) (s inner : List ℕ) (x p : Seen (Tree ℕ Place)) → s ≡ codes "not(" ++ inner → IsRead d inner x
    → IsClosed (Unary Not) (codes ")") x p → IsRead (suc d) s p
not_read d s inner x p front operand end =
    let made : (Unary Not x.0, p.1) ≡ p = ap (λ (t : Tree ℕ Place). (t, p.1)) end.tree in
    subst (IsRead (suc d) s) made (record {
      text = one_read d s inner (codes ")") (Unary Not) (codes "not(") x p front operand end ∙ sym (not_text x.0 p.1);
      numbers = record { words = operand.numbers.words; places = operand.numbers.places };
      depth = omega (arith, operand.depth);
    })

binary_read : (d : ℕ) (s inner : List ℕ) (x y p : Seen (Tree ℕ Place)) (o : Seen Bin)
    → s ≡ 40 ∷ inner → IsRead d inner x → x.1 ≡ 32 ∷ (bin_text o.0 ++ (32 ∷ o.1)) → IsRead d o.1 y
    → IsClosed (Binary o.0 x.0) (codes ")") y p → IsRead (suc d) s p
binary_read d s inner x y p o front left op right end =
    let made : (Binary o.0 x.0 y.0, p.1) ≡ p = ap (λ (t : Tree ℕ Place). (t, p.1)) end.tree in
    let tail : o.1 ≡ term_text y.0 ++ (41 ∷ p.1) = right.text ∙ ap (λ (r : List ℕ). term_text y.0 ++ r) end.rest in
    let middle : x.1 ≡ 32 ∷ (bin_text o.0 ++ (32 ∷ (term_text y.0 ++ (41 ∷ p.1)))) =
    op ∙ ap (λ (r : List ℕ). 32 ∷ (bin_text o.0 ++ (32 ∷ r))) tail in
    subst (IsRead (suc d) s) made (record {
      text = front ∙ ap (λ (r : List ℕ). 40 ∷ r) (left.text ∙ ap (λ (r : List ℕ). term_text x.0 ++ r) middle)
          ∙ sym (binary_text o.0 x.0 y.0 p.1);
      numbers = record {
        words = (left.numbers.words, right.numbers.words);
        places = (left.numbers.places, right.numbers.places);
      };
      depth = omega (arith, left.depth, right.depth);
    })

front_read : (d : ℕ) (operand : List ℕ → Option (Seen (Tree ℕ Place))) → Reads d operand
    → (s : List ℕ) (pair memory negated inverse : Option (List ℕ)) (p : Seen (Tree ℕ Place))
    → behind (codes "(") s ≡ pair → behind (codes "M[") s ≡ memory → behind (codes "neg(") s ≡ negated
    → behind (codes "not(") s ≡ inverse
    → by_front operand s pair memory negated inverse ≡ Some p → IsRead (suc d) s p
front_read d operand reads s (Some inner) memory negated inverse p pf mf nf tf e =
    let left = bound _ (operand inner) p e in
    let op = bound _ (operator_seen left.0.1) p left.2 in
    let right = bound _ (operand op.0.1) p op.2 in
    binary_read d s inner left.0 right.0 p op.0 (behind_found (codes "(") s inner pf) (reads inner left.0 left.1)
    (operator_read left.0.1 op.0 op.1) (reads op.0.1 right.0 right.1)
    (closed_read (Binary op.0.0 left.0.0) (codes ")") right.0 p right.2)
front_read d operand reads s None (Some inner) negated inverse p pf mf nf tf e =
    let x = bound _ (operand inner) p e in
    memory_read d s inner x.0 p (behind_found (codes "M[") s inner mf) (reads inner x.0 x.1)
    (closed_read Read (codes "]") x.0 p x.2)
front_read d operand reads s None None (Some inner) inverse p pf mf nf tf e =
    let x = bound _ (operand inner) p e in
    neg_read d s inner x.0 p (behind_found (codes "neg(") s inner nf) (reads inner x.0 x.1)
    (closed_read (Unary Neg) (codes ")") x.0 p x.2)
front_read d operand reads s None None None (Some inner) p pf mf nf tf e =
    let x = bound _ (operand inner) p e in
    not_read d s inner x.0 p (behind_found (codes "not(") s inner tf) (reads inner x.0 x.1)
    (closed_read (Unary Not) (codes ")") x.0 p x.2)
front_read d operand reads s None None None None p pf mf nf tf e = leaf_read d s p e

-- a term that is read is printed at the front of the text, within the depth
pub term_found : (d : ℕ) (s : List ℕ) (p : Seen (Tree ℕ Place)) → term_in d s ≡ Some p → IsRead d s p
unfolding term_in
term_found zero s p e = cc
term_found (suc d) s p e = front_read d (term_in d) (term_found d) s (behind (codes "(") s) (behind (codes "M[") s)
    (behind (codes "neg(") s) (behind (codes "not(") s) p refl refl refl refl e
