-- Two shapes with the same words are one: the first word of a part tells its kind, and where its words end the same
-- words are left of both.
use Rattle.std.proofs.Common.{◌≡◌, ℕ, ◌≤◌, Bool, true, false, List, [], ◌∷◌, ◌++◌, refl, sym, ◌∙◌, ap, ap₂, arith}
use Rattle.std.specs.Prelude.{◌==◌, if◌then◌else◌}
use Rattle.std.proofs.lemmas.Bool.{eqb-false}
use Rattle.std.proofs.lemmas.List.{append_assoc}
use Rattle.po_word.specs.declared.operator.Un.{Un}
use Rattle.po_word.specs.declared.operator.Un.TheVariants as un
use Rattle.po_word.specs.declared.operator.Bin.{Bin}
use Rattle.po_word.specs.declared.operator.Bin.TheVariants as bin
use Rattle.po_word.specs.declared.operator.Rel.{Rel}
use Rattle.po_word.specs.declared.operator.Rel.TheVariants as rel
use Rattle.po_word.specs.Exprs.{Expr, Number, AtHole, UnOf, BinOf, Log2Of}
use Rattle.po_term.specs.declared.term.Label.{Label}
use Rattle.po_term.specs.declared.term.Reg.TheVariants.{Virt, Fp, Rv, Arg}
use Rattle.po_term.specs.Tree.{Const, Leaf, Read, Unary, Binary}
use Rattle.po_term.specs.Moves.{Ending, GoTo, IfCc, IfTwo, CallOf, Return, SetTo, CcTo, StoreTo, Ends}
use Rattle.po_model.specs.declared.hole.PReg.{PReg}
use Rattle.po_model.specs.declared.hole.PReg.TheVariants.{Hole, Fixed}
use Rattle.po_model.specs.Holed.{HolePlace, InPReg, AtSymHole, HoleTree, HoleMove, PlainShape}
use Rattle.po_key.specs.ShapeWords.{bit_word, un_word, bin_word, rel_word, expr_words, register_words, tree_words}
use Rattle.po_key.specs.ShapeWords.{ending_words, move_words, moves_words, registers_words, shape_words}

-- the first word, and what is behind it
abbrev first : List ℕ → ℕ
first [] = 0
first (w ∷ ws) = w

abbrev rest : List ℕ → List ℕ
rest [] = []
rest (w ∷ ws) = ws

abbrev second : List ℕ → ℕ
second ws = first (rest ws)

abbrev third : List ℕ → ℕ
third ws = first (rest (rest ws))

-- operators and relations by their numbers

abbrev un_at : ℕ → Un
un_at n = if n == 0 then un.Neg else un.Not

abbrev bin_at : ℕ → Bin
bin_at n =
    if n == 0 then bin.Add else if n == 1 then bin.Sub else if n == 2 then bin.Mul else if n == 3 then bin.And else
    if n == 4 then bin.Or else if n == 5 then bin.Xor else if n == 6 then bin.Shl else if n == 7 then bin.Sar else
    bin.Shr

abbrev rel_at : ℕ → Rel
rel_at n =
    if n == 0 then rel.Eq else if n == 1 then rel.Ne else if n == 2 then rel.Lt else if n == 3 then rel.Le else
    if n == 4 then rel.Gt else if n == 5 then rel.Ge else if n == 6 then rel.Ltu else rel.Geu

un_back : (o : Un) → un_at (un_word o) ≡ o
un_back un.Neg = refl
un_back un.Not = refl

one_un : (o p : Un) → un_word o ≡ un_word p → o ≡ p
one_un o p e = sym (un_back o) ∙ ap un_at e ∙ un_back p

bin_back : (o : Bin) → bin_at (bin_word o) ≡ o
bin_back bin.Add = refl
bin_back bin.Sub = refl
bin_back bin.Mul = refl
bin_back bin.And = refl
bin_back bin.Or = refl
bin_back bin.Xor = refl
bin_back bin.Shl = refl
bin_back bin.Sar = refl
bin_back bin.Shr = refl

one_bin : (o p : Bin) → bin_word o ≡ bin_word p → o ≡ p
one_bin o p e = sym (bin_back o) ∙ ap bin_at e ∙ bin_back p

rel_back : (o : Rel) → rel_at (rel_word o) ≡ o
rel_back rel.Eq = refl
rel_back rel.Ne = refl
rel_back rel.Lt = refl
rel_back rel.Le = refl
rel_back rel.Gt = refl
rel_back rel.Ge = refl
rel_back rel.Ltu = refl
rel_back rel.Geu = refl

one_rel : (o p : Rel) → rel_word o ≡ rel_word p → o ≡ p
one_rel o p e = sym (rel_back o) ∙ ap rel_at e ∙ rel_back p

one_bit : (b c : Bool) → bit_word b ≡ bit_word c → b ≡ c
one_bit true true e = refl
one_bit true false e = absurd (cc)
one_bit false true e = absurd (cc)
one_bit false false e = refl

-- what two parts with the same words are: one, and the same is left
record One {T : Type 0} (t u : T) (xs ys : List ℕ) : Type 0 where
  same : t ≡ u
  left : xs ≡ ys

-- parts of different kinds
differ : {A : Type 0} (m n : ℕ) (ws vs : List ℕ) → m ∷ ws ≡ n ∷ vs → (m == n) ≡ false → A
differ m n ws vs e d = absurd (eqb-false m n d (ap first e))

-- constants

two_exprs : (t u v w : Expr) (xs ys : List ℕ)
    → ((ks ls : List ℕ) → expr_words t ++ ks ≡ expr_words v ++ ls → One t v ks ls)
    → ((ks ls : List ℕ) → expr_words u ++ ks ≡ expr_words w ++ ls → One u w ks ls)
    → (expr_words t ++ expr_words u) ++ xs ≡ (expr_words v ++ expr_words w) ++ ys
    → (t ≡ v) × (u ≡ w) × (xs ≡ ys)
two_exprs t u v w xs ys f g e =
    let a = f (expr_words u ++ xs) (expr_words w ++ ys)
    (sym (append_assoc (expr_words t) (expr_words u) xs) ∙ e ∙ append_assoc (expr_words v) (expr_words w) ys) in
    let b = g xs ys a.left in (a.same, b.same, b.left)

one_expr : (e f : Expr) (xs ys : List ℕ) → expr_words e ++ xs ≡ expr_words f ++ ys → One e f xs ys
one_expr (AtHole k) (AtHole j) xs ys E =
    record { same = ap (λ n. AtHole n) (ap second E); left = ap (λ ws. rest (rest ws)) E }
one_expr (AtHole k) (Number d) xs ys E = differ 0 1 _ _ E refl
one_expr (AtHole k) (UnOf p u) xs ys E = differ 0 2 _ _ E refl
one_expr (AtHole k) (BinOf p u v) xs ys E = differ 0 3 _ _ E refl
one_expr (AtHole k) (Log2Of u) xs ys E = differ 0 4 _ _ E refl
one_expr (Number c) (AtHole j) xs ys E = differ 1 0 _ _ E refl
one_expr (Number c) (Number d) xs ys E =
    record { same = ap (λ n. Number n) (ap second E); left = ap (λ ws. rest (rest ws)) E }
one_expr (Number c) (UnOf p u) xs ys E = differ 1 2 _ _ E refl
one_expr (Number c) (BinOf p u v) xs ys E = differ 1 3 _ _ E refl
one_expr (Number c) (Log2Of u) xs ys E = differ 1 4 _ _ E refl
one_expr (UnOf o x) (AtHole j) xs ys E = differ 2 0 _ _ E refl
one_expr (UnOf o x) (Number d) xs ys E = differ 2 1 _ _ E refl
one_expr (UnOf o x) (UnOf p u) xs ys E =
    let h = one_expr x u xs ys (ap (λ ws. rest (rest ws)) E) in
    record { same = ap₂ (λ a b. UnOf a b) (one_un o p (ap second E)) h.same; left = h.left }
one_expr (UnOf o x) (BinOf p u v) xs ys E = differ 2 3 _ _ E refl
one_expr (UnOf o x) (Log2Of u) xs ys E = differ 2 4 _ _ E refl
one_expr (BinOf o x y) (AtHole j) xs ys E = differ 3 0 _ _ E refl
one_expr (BinOf o x y) (Number d) xs ys E = differ 3 1 _ _ E refl
one_expr (BinOf o x y) (UnOf p u) xs ys E = differ 3 2 _ _ E refl
one_expr (BinOf o x y) (BinOf p u v) xs ys E =
    let h = two_exprs x y u v xs ys (one_expr x u) (one_expr y v) (ap (λ ws. rest (rest ws)) E) in
    record { same = ap₂ (λ f g. f g) (ap₂ (λ a b. BinOf a b) (one_bin o p (ap second E)) h.0) h.1; left = h.2 }
one_expr (BinOf o x y) (Log2Of u) xs ys E = differ 3 4 _ _ E refl
one_expr (Log2Of x) (AtHole j) xs ys E = differ 4 0 _ _ E refl
one_expr (Log2Of x) (Number d) xs ys E = differ 4 1 _ _ E refl
one_expr (Log2Of x) (UnOf p u) xs ys E = differ 4 2 _ _ E refl
one_expr (Log2Of x) (BinOf p u v) xs ys E = differ 4 3 _ _ E refl
one_expr (Log2Of x) (Log2Of u) xs ys E =
    let h = one_expr x u xs ys (ap rest E) in
    record { same = ap (λ a. Log2Of a) h.same; left = h.left }

-- registers

one_register : (r q : PReg) (xs ys : List ℕ) → register_words r ++ xs ≡ register_words q ++ ys → One r q xs ys
one_register (Hole k) (Hole j) xs ys E =
    record { same = ap (λ m. Hole m) (ap second E); left = ap (λ ws. rest (rest ws)) E }
one_register (Hole k) (Fixed (Virt m)) xs ys E = differ 5 6 _ _ E refl
one_register (Hole k) (Fixed Fp) xs ys E = differ 5 7 _ _ E refl
one_register (Hole k) (Fixed Rv) xs ys E = differ 5 8 _ _ E refl
one_register (Hole k) (Fixed (Arg m)) xs ys E = differ 5 9 _ _ E refl
one_register (Fixed (Virt n)) (Hole j) xs ys E = differ 6 5 _ _ E refl
one_register (Fixed (Virt n)) (Fixed (Virt m)) xs ys E =
    record { same = ap (λ m. Fixed (Virt m)) (ap second E); left = ap (λ ws. rest (rest ws)) E }
one_register (Fixed (Virt n)) (Fixed Fp) xs ys E = differ 6 7 _ _ E refl
one_register (Fixed (Virt n)) (Fixed Rv) xs ys E = differ 6 8 _ _ E refl
one_register (Fixed (Virt n)) (Fixed (Arg m)) xs ys E = differ 6 9 _ _ E refl
one_register (Fixed Fp) (Hole j) xs ys E = differ 7 5 _ _ E refl
one_register (Fixed Fp) (Fixed (Virt m)) xs ys E = differ 7 6 _ _ E refl
one_register (Fixed Fp) (Fixed Fp) xs ys E = record { same = refl; left = ap rest E }
one_register (Fixed Fp) (Fixed Rv) xs ys E = differ 7 8 _ _ E refl
one_register (Fixed Fp) (Fixed (Arg m)) xs ys E = differ 7 9 _ _ E refl
one_register (Fixed Rv) (Hole j) xs ys E = differ 8 5 _ _ E refl
one_register (Fixed Rv) (Fixed (Virt m)) xs ys E = differ 8 6 _ _ E refl
one_register (Fixed Rv) (Fixed Fp) xs ys E = differ 8 7 _ _ E refl
one_register (Fixed Rv) (Fixed Rv) xs ys E = record { same = refl; left = ap rest E }
one_register (Fixed Rv) (Fixed (Arg m)) xs ys E = differ 8 9 _ _ E refl
one_register (Fixed (Arg n)) (Hole j) xs ys E = differ 9 5 _ _ E refl
one_register (Fixed (Arg n)) (Fixed (Virt m)) xs ys E = differ 9 6 _ _ E refl
one_register (Fixed (Arg n)) (Fixed Fp) xs ys E = differ 9 7 _ _ E refl
one_register (Fixed (Arg n)) (Fixed Rv) xs ys E = differ 9 8 _ _ E refl
one_register (Fixed (Arg n)) (Fixed (Arg m)) xs ys E =
    record { same = ap (λ m. Fixed (Arg m)) (ap second E); left = ap (λ ws. rest (rest ws)) E }

-- terms

expr_first : (e : Expr) (xs : List ℕ) → first (expr_words e ++ xs) ≤ 4
expr_first (AtHole k) xs = omega arith
expr_first (Number c) xs = omega arith
expr_first (UnOf o x) xs = omega arith
expr_first (BinOf o x y) xs = omega arith
expr_first (Log2Of x) xs = omega arith

record IsOfRegister (n : ℕ) : Type 0 where
  least : 5 ≤ n
  most : n ≤ 9

register_first : (r : PReg) (xs : List ℕ) → IsOfRegister (first (register_words r ++ xs))
register_first (Hole k) xs = record { least = omega arith; most = omega arith }
register_first (Fixed (Virt n)) xs = record { least = omega arith; most = omega arith }
register_first (Fixed Fp) xs = record { least = omega arith; most = omega arith }
register_first (Fixed Rv) xs = record { least = omega arith; most = omega arith }
register_first (Fixed (Arg n)) xs = record { least = omega arith; most = omega arith }

no_expr : {A : Type 0} (e : Expr) (xs ws : List ℕ) → expr_words e ++ xs ≡ ws → 5 ≤ first ws → A
no_expr e xs ws E h = absurd (let a = expr_first e xs in let b = ap first E in omega arith)

no_register : {A : Type 0} (r : PReg) (xs ws : List ℕ) → register_words r ++ xs ≡ ws → 10 ≤ first ws → A
no_register r xs ws E h = absurd (let a = (register_first r xs).most in let b = ap first E in omega arith)

-- a term of another kind begins with another word
two_trees : (t u v w : HoleTree) (xs ys : List ℕ)
    → ((ks ls : List ℕ) → tree_words t ++ ks ≡ tree_words v ++ ls → One t v ks ls)
    → ((ks ls : List ℕ) → tree_words u ++ ks ≡ tree_words w ++ ls → One u w ks ls)
    → (tree_words t ++ tree_words u) ++ xs ≡ (tree_words v ++ tree_words w) ++ ys
    → (t ≡ v) × (u ≡ w) × (xs ≡ ys)
two_trees t u v w xs ys f g e =
    let a = f (tree_words u ++ xs) (tree_words w ++ ys)
    (sym (append_assoc (tree_words t) (tree_words u) xs) ∙ e ∙ append_assoc (tree_words v) (tree_words w) ys) in
    let b = g xs ys a.left in (a.same, b.same, b.left)

one_tree : (t u : HoleTree) (xs ys : List ℕ) → tree_words t ++ xs ≡ tree_words u ++ ys → One t u xs ys
one_tree (Const e) (Const f) xs ys E =
    let h = one_expr e f xs ys E in record { same = ap (λ a. Const a) h.same; left = h.left }
one_tree (Const e) (Leaf (InPReg q)) xs ys E = no_expr e xs _ E (register_first q ys).least
one_tree (Const e) (Leaf (AtSymHole j)) xs ys E = no_expr e xs _ E (omega arith)
one_tree (Const e) (Read v) xs ys E = no_expr e xs _ E (omega arith)
one_tree (Const e) (Unary p v) xs ys E = no_expr e xs _ E (omega arith)
one_tree (Const e) (Binary p v w) xs ys E = no_expr e xs _ E (omega arith)
one_tree (Leaf (InPReg r)) (Const f) xs ys E = no_expr f ys _ (sym E) (register_first r xs).least
one_tree (Leaf (InPReg r)) (Leaf (InPReg q)) xs ys E =
    let h = one_register r q xs ys E in record { same = ap (λ a. Leaf (InPReg a)) h.same; left = h.left }
one_tree (Leaf (InPReg r)) (Leaf (AtSymHole j)) xs ys E = no_register r xs _ E (omega arith)
one_tree (Leaf (InPReg r)) (Read v) xs ys E = no_register r xs _ E (omega arith)
one_tree (Leaf (InPReg r)) (Unary p v) xs ys E = no_register r xs _ E (omega arith)
one_tree (Leaf (InPReg r)) (Binary p v w) xs ys E = no_register r xs _ E (omega arith)
one_tree (Leaf (AtSymHole k)) (Const f) xs ys E = no_expr f ys _ (sym E) (omega arith)
one_tree (Leaf (AtSymHole k)) (Leaf (InPReg q)) xs ys E = no_register q ys _ (sym E) (omega arith)
one_tree (Leaf (AtSymHole k)) (Leaf (AtSymHole j)) xs ys E =
    record { same = ap (λ n. Leaf (AtSymHole n)) (ap second E); left = ap (λ ws. rest (rest ws)) E }
one_tree (Leaf (AtSymHole k)) (Read v) xs ys E = differ 10 11 _ _ E refl
one_tree (Leaf (AtSymHole k)) (Unary p v) xs ys E = differ 10 12 _ _ E refl
one_tree (Leaf (AtSymHole k)) (Binary p v w) xs ys E = differ 10 13 _ _ E refl
one_tree (Read t) (Const f) xs ys E = no_expr f ys _ (sym E) (omega arith)
one_tree (Read t) (Leaf (InPReg q)) xs ys E = no_register q ys _ (sym E) (omega arith)
one_tree (Read t) (Leaf (AtSymHole j)) xs ys E = differ 11 10 _ _ E refl
one_tree (Read t) (Read v) xs ys E =
    let h = one_tree t v xs ys (ap rest E) in record { same = ap (λ a. Read a) h.same; left = h.left }
one_tree (Read t) (Unary p v) xs ys E = differ 11 12 _ _ E refl
one_tree (Read t) (Binary p v w) xs ys E = differ 11 13 _ _ E refl
one_tree (Unary o t) (Const f) xs ys E = no_expr f ys _ (sym E) (omega arith)
one_tree (Unary o t) (Leaf (InPReg q)) xs ys E = no_register q ys _ (sym E) (omega arith)
one_tree (Unary o t) (Leaf (AtSymHole j)) xs ys E = differ 12 10 _ _ E refl
one_tree (Unary o t) (Read v) xs ys E = differ 12 11 _ _ E refl
one_tree (Unary o t) (Unary p v) xs ys E =
    let h = one_tree t v xs ys (ap (λ ws. rest (rest ws)) E) in
    record { same = ap₂ (λ a b. Unary a b) (one_un o p (ap second E)) h.same; left = h.left }
one_tree (Unary o t) (Binary p v w) xs ys E = differ 12 13 _ _ E refl
one_tree (Binary o t u) (Const f) xs ys E = no_expr f ys _ (sym E) (omega arith)
one_tree (Binary o t u) (Leaf (InPReg q)) xs ys E = no_register q ys _ (sym E) (omega arith)
one_tree (Binary o t u) (Leaf (AtSymHole j)) xs ys E = differ 13 10 _ _ E refl
one_tree (Binary o t u) (Read v) xs ys E = differ 13 11 _ _ E refl
one_tree (Binary o t u) (Unary p v) xs ys E = differ 13 12 _ _ E refl
one_tree (Binary o t u) (Binary p v w) xs ys E =
    let h = two_trees t u v w xs ys (one_tree t v) (one_tree u w) (ap (λ ws. rest (rest ws)) E) in
    record { same = ap₂ (λ f g. f g) (ap₂ (λ a b. Binary a b) (one_bin o p (ap second E)) h.0) h.1; left = h.2 }

-- transfers

one_label : (l m : Label) → l.0 ≡ m.0 → l ≡ m
one_label l m e = ap (λ n. let k : Label = record { 0 = n } in k) e

abbrev HoleEnding : Type 0
HoleEnding = Ending Expr HolePlace ℕ

one_ending : (e f : HoleEnding) (xs ys : List ℕ) → ending_words e ++ xs ≡ ending_words f ++ ys → One e f xs ys
one_ending (GoTo l) (GoTo m) xs ys E =
    record { same = ap (λ a. GoTo a) (one_label l m (ap second E)); left = ap (λ ws. rest (rest ws)) E }
one_ending (GoTo l) (IfCc q m) xs ys E = differ 14 15 _ _ E refl
one_ending (GoTo l) (IfTwo v w q m) xs ys E = differ 14 16 _ _ E refl
one_ending (GoTo l) (CallOf j i) xs ys E = differ 14 17 _ _ E refl
one_ending (GoTo l) Return xs ys E = differ 14 18 _ _ E refl
one_ending (IfCc r l) (GoTo m) xs ys E = differ 15 14 _ _ E refl
one_ending (IfCc r l) (IfCc q m) xs ys E =
    record {
      same = ap₂ (λ a b. IfCc a b) (one_rel r q (ap second E)) (one_label l m (ap third E));
      left = ap (λ ws. rest (rest (rest ws))) E;
    }
one_ending (IfCc r l) (IfTwo v w q m) xs ys E = differ 15 16 _ _ E refl
one_ending (IfCc r l) (CallOf j i) xs ys E = differ 15 17 _ _ E refl
one_ending (IfCc r l) Return xs ys E = differ 15 18 _ _ E refl
one_ending (IfTwo t u r l) (GoTo m) xs ys E = differ 16 14 _ _ E refl
one_ending (IfTwo t u r l) (IfCc q m) xs ys E = differ 16 15 _ _ E refl
one_ending (IfTwo t u r l) (IfTwo v w q m) xs ys E =
    let h = two_trees t u v w xs ys (one_tree t v) (one_tree u w) (ap (λ ws. rest (rest (rest ws))) E) in
    record {
      same = ap₂ (λ f g. f g) (ap₂ (λ f g. f g) (ap₂ (λ a b. IfTwo a b) h.0 h.1) (one_rel r q (ap second E)))
          (one_label l m (ap third E));
      left = h.2;
    }
one_ending (IfTwo t u r l) (CallOf j i) xs ys E = differ 16 17 _ _ E refl
one_ending (IfTwo t u r l) Return xs ys E = differ 16 18 _ _ E refl
one_ending (CallOf k n) (GoTo m) xs ys E = differ 17 14 _ _ E refl
one_ending (CallOf k n) (IfCc q m) xs ys E = differ 17 15 _ _ E refl
one_ending (CallOf k n) (IfTwo v w q m) xs ys E = differ 17 16 _ _ E refl
one_ending (CallOf k n) (CallOf j i) xs ys E =
    record {
      same = ap₂ (λ a b. CallOf a b) (ap second E) (ap third E);
      left = ap (λ ws. rest (rest (rest ws))) E;
    }
one_ending (CallOf k n) Return xs ys E = differ 17 18 _ _ E refl
one_ending Return (GoTo m) xs ys E = differ 18 14 _ _ E refl
one_ending Return (IfCc q m) xs ys E = differ 18 15 _ _ E refl
one_ending Return (IfTwo v w q m) xs ys E = differ 18 16 _ _ E refl
one_ending Return (CallOf j i) xs ys E = differ 18 17 _ _ E refl
one_ending Return Return xs ys E =
    record { same = refl; left = ap rest E }

-- an ending begins with 14 to 18
record IsOfEnding (n : ℕ) : Type 0 where
  least : 14 ≤ n
  most : n ≤ 18

ending_first : (e : HoleEnding) (xs : List ℕ) → IsOfEnding (first (ending_words e ++ xs))
ending_first (GoTo l) xs = record { least = omega arith; most = omega arith }
ending_first (IfCc r l) xs = record { least = omega arith; most = omega arith }
ending_first (IfTwo t u r l) xs = record { least = omega arith; most = omega arith }
ending_first (CallOf k n) xs = record { least = omega arith; most = omega arith }
ending_first Return xs = record { least = omega arith; most = omega arith }

set_first : (r : PReg) (t : HoleTree) (xs : List ℕ) → IsOfRegister (first (move_words (SetTo r t) ++ xs))
set_first (Hole k) t xs = record { least = omega arith; most = omega arith }
set_first (Fixed (Virt n)) t xs = record { least = omega arith; most = omega arith }
set_first (Fixed Fp) t xs = record { least = omega arith; most = omega arith }
set_first (Fixed Rv) t xs = record { least = omega arith; most = omega arith }
set_first (Fixed (Arg n)) t xs = record { least = omega arith; most = omega arith }

no_set : {A : Type 0} (r : PReg) (t : HoleTree) (xs ws : List ℕ) → move_words (SetTo r t) ++ xs ≡ ws
    → 10 ≤ first ws → A
no_set r t xs ws E h = absurd (let a = (set_first r t xs).most in let b = ap first E in omega arith)

no_ending : {A : Type 0} (e : HoleEnding) (xs ws : List ℕ) → ending_words e ++ xs ≡ ws → 19 ≤ first ws → A
no_ending e xs ws E h = absurd (let a = (ending_first e xs).most in let b = ap first E in omega arith)

above_sets : (e : HoleEnding) (xs : List ℕ) → 10 ≤ first (ending_words e ++ xs)
above_sets e xs = let a = (ending_first e xs).least in omega arith

one_move : (m n : HoleMove) (xs ys : List ℕ) → move_words m ++ xs ≡ move_words n ++ ys → One m n xs ys
one_move (SetTo r t) (SetTo q v) xs ys E =
    let a = one_register r q (tree_words t ++ xs) (tree_words v ++ ys)
    (sym (append_assoc (register_words r) (tree_words t) xs) ∙ E
    ∙ append_assoc (register_words q) (tree_words v) ys) in
    let b = one_tree t v xs ys a.left in
    record { same = ap₂ (λ c d. SetTo c d) a.same b.same; left = b.left }
one_move (SetTo r t) (CcTo v w) xs ys E = no_set r t xs _ E (omega arith)
one_move (SetTo r t) (StoreTo v w) xs ys E = no_set r t xs _ E (omega arith)
one_move (SetTo r t) (Ends f) xs ys E = no_set r t xs _ E (above_sets f ys)
one_move (CcTo t u) (SetTo q v) xs ys E = no_set q v ys _ (sym E) (omega arith)
one_move (CcTo t u) (CcTo v w) xs ys E =
    let h = two_trees t u v w xs ys (one_tree t v) (one_tree u w) (ap rest E) in
    record { same = ap₂ (λ a b. CcTo a b) h.0 h.1; left = h.2 }
one_move (CcTo t u) (StoreTo v w) xs ys E = differ 19 20 _ _ E refl
one_move (CcTo t u) (Ends f) xs ys E = no_ending f ys _ (sym E) (omega arith)
one_move (StoreTo t u) (SetTo q v) xs ys E = no_set q v ys _ (sym E) (omega arith)
one_move (StoreTo t u) (CcTo v w) xs ys E = differ 20 19 _ _ E refl
one_move (StoreTo t u) (StoreTo v w) xs ys E =
    let h = two_trees t u v w xs ys (one_tree t v) (one_tree u w) (ap rest E) in
    record { same = ap₂ (λ a b. StoreTo a b) h.0 h.1; left = h.2 }
one_move (StoreTo t u) (Ends f) xs ys E = no_ending f ys _ (sym E) (omega arith)
one_move (Ends e) (SetTo q v) xs ys E = no_set q v ys _ (sym E) (above_sets e xs)
one_move (Ends e) (CcTo v w) xs ys E = no_ending e xs _ E (omega arith)
one_move (Ends e) (StoreTo v w) xs ys E = no_ending e xs _ E (omega arith)
one_move (Ends e) (Ends f) xs ys E =
    let h = one_ending e f xs ys E in record { same = ap (λ a. Ends a) h.same; left = h.left }

-- a transfer doesn't begin as an instruction ends
move_first : (m : HoleMove) (xs : List ℕ) → first (move_words m ++ xs) ≤ 20
move_first (SetTo r t) xs = let a = (set_first r t xs).most in omega arith
move_first (CcTo t u) xs = omega arith
move_first (StoreTo t u) xs = omega arith
move_first (Ends e) xs = let a = (ending_first e xs).most in omega arith

no_move : {A : Type 0} (m : HoleMove) (ws xs ys : List ℕ) → (move_words m ++ ws) ++ xs ≡ 21 ∷ ys → A
no_move m ws xs ys E =
    let a = move_first m (ws ++ xs) in
    let b = ap first (sym (append_assoc (move_words m) ws xs) ∙ E) in
    absurd (omega arith)

one_instr : (ms ns : List HoleMove) (xs ys : List ℕ) → moves_words ms ++ xs ≡ moves_words ns ++ ys → One ms ns xs ys
one_instr [] [] xs ys E = record { same = refl; left = ap rest E }
one_instr [] (n ∷ ns) xs ys E = no_move n (moves_words ns) ys xs (sym E)
one_instr (m ∷ ms) [] xs ys E = no_move m (moves_words ms) xs ys E
one_instr (m ∷ ms) (n ∷ ns) xs ys E =
    let a = one_move m n (moves_words ms ++ xs) (moves_words ns ++ ys)
    (sym (append_assoc (move_words m) (moves_words ms) xs) ∙ E ∙ append_assoc (move_words n) (moves_words ns) ys) in
    let b = one_instr ms ns xs ys a.left in
    record { same = ap₂ (λ c d. c ∷ d) a.same b.same; left = b.left }

some_register : {A : Type 0} (r : PReg) (ws : List ℕ) → register_words r ++ ws ≡ [] → A
some_register (Hole k) ws E = absurd (cc)
some_register (Fixed (Virt n)) ws E = absurd (cc)
some_register (Fixed Fp) ws E = absurd (cc)
some_register (Fixed Rv) ws E = absurd (cc)
some_register (Fixed (Arg n)) ws E = absurd (cc)

one_list : (rs qs : List PReg) → registers_words rs ≡ registers_words qs → rs ≡ qs
one_list [] [] E = refl
one_list [] (q ∷ qs) E = some_register q (registers_words qs) (sym E)
one_list (r ∷ rs) [] E = some_register r (registers_words rs) E
one_list (r ∷ rs) (q ∷ qs) E =
    let a = one_register r q (registers_words rs) (registers_words qs) E in
    ap₂ (λ c d. c ∷ d) a.same (one_list rs qs a.left)

abbrev shape_at : List HoleMove → List HoleMove → List PReg → Bool → PlainShape
shape_at a b live bit = record { a = a; b = b; live = live; cc = bit }

-- **two shapes with the same words are one**
pub one_shape : (s t : PlainShape) → shape_words s ≡ shape_words t → s ≡ t
one_shape s t E =
    let a = one_instr s.a t.a (moves_words s.b ++ registers_words s.live) (moves_words t.b ++ registers_words t.live)
    (ap rest E) in
    let b = one_instr s.b t.b (registers_words s.live) (registers_words t.live) a.left in
    ap₂ (λ x y. shape_at x y s.live s.cc) a.same b.same
    ∙ ap₂ (λ x y. shape_at t.a t.b x y) (one_list s.live t.live b.left) (one_bit s.cc t.cc (ap first E))
