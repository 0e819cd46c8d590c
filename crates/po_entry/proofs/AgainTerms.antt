-- The steps of reading a term: leaves are read as themselves, and closed parts as their terms.
use Rattle.std.proofs.Common.{◌≡◌, ◌⊎◌, inl, inr, ℕ, ◌+◌, ◌-◌, ◌≤◌, ◌==◌, ◌||◌, max, Bool, true, false}
use Rattle.std.proofs.Common.{List, ◌∷◌, ◌++◌, length, take, codes, refl, sym}
use Rattle.std.proofs.Common.{ap, ◌∙◌, subst, arith, Some, None, Result, Ok}
use Rattle.std.specs.Prelude.{nat_le}
use Rattle.std.specs.List.{prefix_len}
use Rattle.std.proofs.lemmas.Bool.Decides.{nat_tests}
use Rattle.std.proofs.lemmas.Fmt.{decimal_digit}
use Rattle.std.proofs.Math.Seq.{take-append_seam}
use Rattle.po_word.specs.declared.operator.Un.{Un}
use Rattle.po_word.specs.declared.operator.Bin.{Bin}
use Rattle.po_name.specs.Names.{is_digit, is_name_byte}
use Rattle.po_lines.specs.declared.fault.LineFault.{LineFault}
use Rattle.po_term.specs.declared.term.Reg.{Reg}
use Rattle.po_term.specs.declared.term.Reg.TheVariants.{Virt, Fp, Rv, Arg}
use Rattle.po_term.specs.Tree as tree
use Rattle.po_term.specs.Tree.{Leaf, Unary, Binary, tree_size, tree_depth}
use Rattle.po_termtext.specs.TermText.{reg_text}
use Rattle.po_model.specs.declared.machine.PatReg.TheVariants.{Any, Fixed}
use Rattle.po_model.specs.declared.machine.PatTerm.{PatTerm}
use Rattle.po_model.specs.declared.machine.PatTerm.TheVariants as pat
use Rattle.po_model.specs.Patterns.{PatTree, PatLeaf, InPatReg, AtSymbol}
use Rattle.po_model.specs.Entries.{IsPatLeaf, leaf_places}
use Rattle.po_pattern.specs.declared.operands.Operands.{Operands}
use Rattle.po_pattern.specs.declared.operands.OperandKind.TheVariants.{Register, Symbol}
use Rattle.po_pattern.specs.declared.part.Part.{Part}
use Rattle.po_pattern.specs.declared.part.Frame.{Frame}
use Rattle.po_pattern.specs.declared.part.Turn.{Turn}
use Rattle.po_pattern.specs.Rests.{Read}
use Rattle.po_pattern.specs.Seen.{with_operand}
use Rattle.po_pattern.specs.Parts as parts
use Rattle.po_pattern.specs.Terms as terms
use Rattle.po_pattern.specs.Terms.{Reading, kept, memory_part, unary_part, binary_part, leaf, opening}
use Rattle.po_pattern.specs.Terms.{wanted, named, marked_leaf, step}
use Rattle.po_pattern.specs.Terms.{steps}
use Rattle.po_pattern.proofs.Steps.{steps_next}
use Rattle.po_entry.specs.EntryText.{pat_leaf_text}
use Rattle.po_entry.proofs.Noted.{noted, Fits}
use Rattle.po_entry.proofs.Backs.{back}
use Rattle.po_entry.proofs.AgainParts.{at, prefix_again, Stops}
use Rattle.po_entry.proofs.AgainParts.{symbol_again, any_again}
use Rattle.po_entry.proofs.AgainParts.{fixed_again, fixed_name}
use Rattle.po_term.specs.Form.{IsFixed}

-- so many steps lead from one state to another
pub record Reaches (s t : Reading) (n : ℕ) : Type 0 where
  pub go : (k : ℕ) → n ≤ k → steps k s ≡ steps (k - n) t

pub reaches_none : (s : Reading) → Reaches s s 0
reaches_none s = record { go = λ k h. let same : k ≡ k - 0 = omega arith in ap (λ (n : ℕ). steps n s) same }

pub reaches_one : (s t : Reading) → step s ≡ Ok t → Reaches s t 1
reaches_one s t e = record { go = λ k h. steps_next k s t (omega (arith, h)) e }

pub reaches_more : (s t u : Reading) (n m : ℕ) → Reaches s t n → Reaches t u m → Reaches s u (n + m)
reaches_more s t u n m f g = record {
  go = λ k h. let same : k - n - m ≡ k - (n + m) = omega arith in f.go k (omega (arith, h))
      ∙ g.go (k - n) (omega (arith, h)) ∙ ap (λ (j : ℕ). steps j u) same;
}

abbrev pub turn_at : List Frame → Turn → ℕ → List ℕ → Operands → Reading
turn_at frames turn column bytes seen = record {
  frames = frames;
  turn = record { value = turn; rest = at column bytes; seen = seen };
}

-- the part that a tree is
abbrev pub part_of : PatTree → Part
part_of t = record { term = back t; size = tree_size t; depth = tree_depth t }

-- leaves

record FrontFacts (b : ℕ) : Type 0 where
  open_no : (b == 40) ≡ false
  leaf_yes : terms.begins_leaf b ≡ true
  reg_no : (b == 37) ≡ false
  const_no : (b == 35) ≡ false
  symbol_no : (b == 38) ≡ false

front_facts : (b : ℕ) → (b ≡ 45) ⊎ (is_digit b ≡ true) → FrontFacts b
front_facts b (inl e) = subst FrontFacts (sym e) (record {
  open_no = refl;
  leaf_yes = refl;
  reg_no = refl;
  const_no = refl;
  symbol_no = refl;
})
front_facts b (inr e) = record {
  open_no = grind (arith, nat_tests);
  leaf_yes = last ((((b == 37) || (b == 35)) || (b == 38)) || (b == 45)) e;
  reg_no = grind (arith, nat_tests);
  const_no = grind (arith, nat_tests);
  symbol_no = grind (arith, nat_tests);
}
  where
    last : (x : Bool) → is_digit b ≡ true → (x || is_digit b) ≡ true
    last true e = refl
    last false e = e

pub numeral_wanted : (b : ℕ) (bs rest : List ℕ) (c : ℕ) (seen : Operands) (x : Read PatTerm) → (b ≡ 45)
    ⊎ (is_digit b ≡ true) → parts.numeral (at c ((b ∷ bs) ++ rest)) seen ≡ Ok x → wanted (at c ((b ∷ bs) ++ rest))
    seen ≡ Ok (leaf x)
unfolding wanted marked_leaf
numeral_wanted b bs rest c seen x h e =
    let f = front_facts b h in
    let open_no = f.open_no in
    let leaf_yes = f.leaf_yes in
    let reg_no = f.reg_no in
    let const_no = f.const_no in
    let symbol_no = f.symbol_no in
    rw (open_no, leaf_yes, reg_no, const_no, symbol_no) (rw e refl)

-- a leaf that was read
pub record LeafAt (t : PatTree) (m : Result (Read Turn) LineFault) (rest : List ℕ) (seen : Operands) : Type 0 where
  pub column : ℕ
  pub is : m ≡ Ok (leaf (record { value = back t; rest = at column rest; seen = seen }))

fixed_at : (x : Reg) (c : ℕ) (rest : List ℕ) (seen : Operands) → IsFixed x → Stops rest
    → LeafAt (Leaf (InPatReg (Fixed x))) (named (at c (reg_text x ++ rest)) seen) rest seen
unfolding named
fixed_at x c rest seen h stops =
    let got = fixed_again x c rest seen h stops.name in
    let is = got.is in
    let long : prefix_len is_name_byte (reg_text x ++ rest) ≡ length (reg_text x) =
    prefix_again is_name_byte (reg_text x) rest (fixed_name x h).name stops.name in
    let name : take (length (reg_text x)) (reg_text x ++ rest) ≡ reg_text x = take-append_seam (reg_text x) rest in
    let no : opening (reg_text x) ≡ None = no_opening x h in
    record { column = got.column; is = rw (long, name, no) (rw is refl) }
  where
    no_opening : (x : Reg) → IsFixed x → opening (reg_text x) ≡ None
    no_opening (Virt n) h = absurd h
    no_opening Fp h = refl
    no_opening Rv h = refl
    no_opening (Arg n) h = refl

fixed_wanted : (x : Reg) (c : ℕ) (rest : List ℕ) (seen : Operands) → IsFixed x → wanted (at c (reg_text x ++ rest))
    seen ≡ named (at c (reg_text x ++ rest)) seen
unfolding wanted
fixed_wanted (Virt n) c rest seen h = absurd h
fixed_wanted Fp c rest seen h = refl
fixed_wanted Rv c rest seen h = refl
fixed_wanted (Arg n) c rest seen h = refl

pub leaf_at : (l : PatLeaf) (c : ℕ) (rest : List ℕ) (seen : Operands) → IsPatLeaf l → Fits seen (leaf_places l)
    → Stops rest → LeafAt (Leaf l) (wanted (at c (pat_leaf_text l ++ rest)) seen) rest (noted seen (leaf_places l))
unfolding wanted marked_leaf
leaf_at (InPatReg (Any k)) c rest seen h f stops =
    let got = any_again k c rest seen h f.0 in
    let is = got.is in
    let text : pat_leaf_text (InPatReg (Any k)) ++ rest ≡ 37 ∷ (48 + k) ∷ rest =
    ap (λ (w : List ℕ). codes "%" ++ w ++ rest) (decimal_digit k h) in
    subst (λ (w : List ℕ). LeafAt (Leaf (InPatReg (Any k))) (wanted (at c w) seen) rest
    (with_operand seen Register k)) (sym text) (record { column = got.column; is = rw is refl })
leaf_at (InPatReg (Fixed x)) c rest seen h f stops =
    let got = fixed_at x c rest seen h stops in
    record { column = got.column; is = fixed_wanted x c rest seen h ∙ got.is }
leaf_at (AtSymbol k) c rest seen h f stops =
    let got = symbol_again k c rest seen h f.0 in
    let is = got.is in
    let text : pat_leaf_text (AtSymbol k) ++ rest ≡ 38 ∷ (48 + k) ∷ rest = ap (λ (w : List ℕ). codes "&" ++ w ++ rest)
    (decimal_digit k h) in
    subst (λ (w : List ℕ). LeafAt (Leaf (AtSymbol k)) (wanted (at c w) seen) rest (with_operand seen Symbol k))
    (sym text) (record { column = got.column; is = rw is refl })

-- whole parts

at_most : (n k : ℕ) → n ≤ k → nat_le n k ≡ true
at_most n k h = grind (arith, nat_tests)

kept_again : (t : PatTerm) (s d size depth : ℕ) → s ≡ size → d ≡ depth → size ≤ 64 → depth ≤ 16 → kept t s d
    ≡ Some (record { term = t; size = size; depth = depth })
kept_again t s d size depth e f few flat =
    let few_yes : nat_le size 64 ≡ true = at_most size 64 few in
    let flat_yes : nat_le depth 16 ≡ true = at_most depth 16 flat in
    let whole : kept t size depth ≡ Some (record { term = t; size = size; depth = depth }) =
    rw (few_yes, flat_yes) refl in
    ap (λ (n : ℕ). kept t n d) e ∙ ap (λ (n : ℕ). kept t size n) f ∙ whole

pub memory_again : (a : PatTree) → tree_size (tree.Read a) ≤ 64 → tree_depth (tree.Read a) ≤ 16
    → memory_part (Some (part_of a)) ≡ Some (part_of (tree.Read a))
memory_again a few flat = kept_again (pat.Mem (back a)) (tree_size a + 1) (tree_depth a + 1) (tree_size (tree.Read a))
    (tree_depth (tree.Read a)) (omega arith) (omega arith) few flat

pub unary_again : (o : Un) (a : PatTree) → tree_size (Unary o a) ≤ 64 → tree_depth (Unary o a) ≤ 16
    → unary_part o (Some (part_of a)) ≡ Some (part_of (Unary o a))
unary_again o a few flat = kept_again (pat.Un o (back a)) (tree_size a + 1) (tree_depth a + 1) (tree_size (Unary o a))
    (tree_depth (Unary o a)) (omega arith) (omega arith) few flat

pub binary_again : (o : Bin) (a b : PatTree) → tree_size (Binary o a b) ≤ 64 → tree_depth (Binary o a b) ≤ 16
    → binary_part o (Some (part_of a)) (Some (part_of b)) ≡ Some (part_of (Binary o a b))
binary_again o a b few flat =
    kept_again (pat.Bin o (back a) (back b)) (tree_size a + (tree_size b + 1)) (max (tree_depth a) (tree_depth b) + 1)
    (tree_size (Binary o a b)) (tree_depth (Binary o a b)) (omega arith) (omega arith) few flat

-- one step

-- how a term begins
