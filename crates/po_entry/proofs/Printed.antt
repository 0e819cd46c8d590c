-- The printed line of an entry is written as the entry may be, one blank where blanks may stand, or none; and none of
-- its bytes is a control character.
use Rattle.std.proofs.Common.{◌≡◌, ℕ, ◌≤◌, Bool, true, false, List, [], ◌∷◌, ◌++◌, length, map, All, append_assoc}
use Rattle.std.proofs.Common.{append-nil, codes, refl, sym, ap, ◌∙◌, subst, arith, Option, Some, None, ℤ, pos, negsuc}
use Rattle.std.specs.Prelude.{◌≤ℤ◌}
use Rattle.std.specs.List.{AllByRecursion, flat_map}
use Rattle.std.specs.Fmt.{signed_decimal}
use Rattle.std.proofs.lemmas.Int.{ints}
use Rattle.std.proofs.lemmas.List.Elements.{All-head, All-tail}
use Rattle.po_lines.proofs.NumberLaws.{printed_again}
use Rattle.po_word.specs.Words.{signed}
use Rattle.po_term.specs.Tree as tree
use Rattle.po_termtext.specs.TermText.{un_text, bin_text, rel_text}
use Rattle.po_model.specs.declared.machine.Bounds.{Bounds}
use Rattle.po_model.specs.declared.machine.Entry.{Entry}
use Rattle.po_model.specs.Patterns.{PatConst, Exactly, Operand, InPatReg, AtSymbol, PatTree, PatMove, SetsTo, Compares}
use Rattle.po_model.specs.Patterns.{Stores, Jumps, Branches, BranchesOn, Calls, Returns, pat_moves_of}
use Rattle.po_model.specs.Entries.{HasRange, IsPatConst, IsPatLeaf, IsPatTree, IsPatMove, places_of, IsEntry}
use Rattle.po_entry.specs.EntryText.{operand_text, pat_reg_text, range_text, pat_const_text, pat_term_text}
use Rattle.po_entry.specs.EntryText.{pat_move_text, pattern_text, clobber_text, template_text, entry_text}
use Rattle.po_entry.specs.Writing as writing
use Rattle.po_entry.specs.Writing.{Form, ◌⨾◌, nothing, text, blanks, number, alone, word, IsWritten}
use Rattle.po_entry.proofs.AgainParts.{IsSigned, le_from, le_through, word_signed}
use Rattle.po_entry.proofs.AgainFits.{small_moves}
use Rattle.po_entry.proofs.Plain.{plain, more, each_high, operand_plain, signed_plain, reg_plain, un_plain, bin_plain}
use Rattle.po_entry.proofs.Plain.{rel_plain, template_plain}

-- these bytes stand so, whatever stands behind them, and each is a blank or no control character
record Prints (f : Form) (bytes : List ℕ) : Type 0 where
  stands : (to : List ℕ) → f (bytes ++ to) to
  plain : plain bytes ≡ true

texts : (bytes : List ℕ) → plain bytes ≡ true → Prints (text bytes) bytes
texts bytes h = record { stands = λ to. refl; plain = h }

empty : Prints nothing []
empty = record { stands = λ to. refl; plain = refl }

follow : {f g : Form} {a b : List ℕ} → Prints f a → Prints g b → Prints (f ⨾ g) (a ++ b)
follow {f = f} {a = a} {b = b} p q = record {
  stands = λ to. (
    b ++ to,
    subst (λ (x : List ℕ). f x (b ++ to)) (sym (append_assoc a b to)) (p.stands (b ++ to)),
    q.stands to,
  );
  plain = more a b p.plain q.plain;
}

-- no blank, and one
skip : {f : Form} {a : List ℕ} → Prints f a → Prints (blanks ⨾ f) a
skip {a = a} p = record { stands = λ to. (a ++ to, ([], refl, refl), p.stands to); plain = p.plain }

gap : {f : Form} {a : List ℕ} → Prints f a → Prints (blanks ⨾ f) (32 ∷ a)
gap {a = a} p = record { stands = λ to. (a ++ to, (32 ∷ [], refl, refl), p.stands to); plain = p.plain }

lone : {f : Form} {a : List ℕ} → Prints f a → Prints (alone f) (a ++ 32 ∷ [])
lone {f = f} {a = a} p = record {
  stands = λ to. (
    32 ∷ to,
    subst (λ (x : List ℕ). f x (32 ∷ to)) (sym (append_assoc a (32 ∷ []) to)) (p.stands (32 ∷ to)),
    refl,
    (32 ∷ [], refl, refl),
  );
  plain = more a (32 ∷ []) p.plain refl;
}

words : (bytes : List ℕ) → plain bytes ≡ true → Prints (word bytes) (bytes ++ 32 ∷ [])
words bytes h = lone (texts bytes h)

same_as : {f : Form} {a : List ℕ} (b : List ℕ) → Prints f a → a ≡ b → Prints f b
same_as {f = f} b p e = subst (λ (x : List ℕ). Prints f x) e p

-- texts joined from the left, and from the right

three_texts : (a b c z : List ℕ) → a ++ b ++ c ++ z ≡ a ++ (b ++ (c ++ z))
three_texts a b c z = simp append_assoc

four_texts : (a b c d z : List ℕ) → a ++ b ++ c ++ d ++ z ≡ a ++ (b ++ (c ++ (d ++ z)))
four_texts a b c d z = simp append_assoc

-- `one, two`, each with a blank behind it
spaced : (a x : List ℕ) → a ++ 32 ∷ [] ++ x ≡ a ++ (32 ∷ x)
spaced a x = append_assoc a (32 ∷ []) x

-- numbers and constants

numbers : (z : ℤ) → IsSigned z → Prints (number z) (signed_decimal z)
numbers z h =
    let low : negsuc 2147483647 ≤ℤ z = h.low in
    let high : z ≤ℤ pos 2147483647 = h.high in
    record {
      stands = λ to. (signed_decimal z, printed_again z (omega (arith, ints)) (omega (arith, ints)), refl);
      plain = signed_plain z h;
    }

ranges : (range : Option Bounds) → HasRange range → Prints (writing.range range) (range_text range)
ranges None h = empty
ranges (Some b) h =
    let from : negsuc 2147483647 ≤ℤ b.lo = le_from (negsuc 2147483647) b.lo h.from in
    let order : b.lo ≤ℤ b.hi = le_from b.lo b.hi h.order in
    let top : b.hi ≤ℤ pos 2147483647 = le_from b.hi (pos 2147483647) h.to in
    let low : IsSigned b.lo = record { low = from; high = le_through b.lo b.hi (pos 2147483647) order top } in
    let high : IsSigned b.hi = record { low = le_through (negsuc 2147483647) b.lo b.hi from order; high = top } in
    same_as (range_text (Some b)) (skip (follow (texts (codes "[") refl) (skip (follow (numbers b.lo low)
    (skip (follow (texts (codes ",") refl) (skip (follow (numbers b.hi high) (skip (texts (codes "]") refl))))))))))
    (sym (four_texts (codes "[") (signed_decimal b.lo) (codes ",") (signed_decimal b.hi) (codes "]")))

constants : (c : PatConst) → IsPatConst c → Prints (writing.constant c) (pat_const_text c)
constants (Exactly n) h = numbers (signed n) (word_signed n h)
constants (Operand k range) h = follow (texts (operand_text (codes "#") k) (operand_plain (codes "#") k refl h.0))
    (ranges range h.1)

-- terms

trees : (t : PatTree) → tree.EachConst IsPatConst t → tree.EachLeaf IsPatLeaf t → Prints (writing.term t)
    (pat_term_text t)
trees (tree.Const c) h g = constants c h
trees (tree.Leaf (InPatReg r)) h g = texts (pat_reg_text r) (reg_plain r g)
trees (tree.Leaf (AtSymbol k)) h g = texts (operand_text (codes "&") k) (operand_plain (codes "&") k refl g)
trees (tree.Read t) h g = follow (texts (codes "M") refl) (skip (follow (texts (codes "[") refl) (skip (follow
    (trees t h g) (skip (texts (codes "]") refl))))))
trees (tree.Unary o t) h g = same_as (pat_term_text (tree.Unary o t)) (follow (texts (un_text o) (un_plain o))
    (skip (follow (texts (codes "(") refl) (skip (follow (trees t h g) (skip (texts (codes ")") refl)))))))
    (sym (three_texts (un_text o) (codes "(") (pat_term_text t) (codes ")")))
trees (tree.Binary o t u) h g = same_as (pat_term_text (tree.Binary o t u)) (follow (texts (codes "(") refl)
    (skip (follow (trees t h.0 g.0) (gap (follow (texts (bin_text o) (bin_plain o)) (gap (follow (trees u h.1 g.1)
    (skip (texts (codes ")") refl)))))))))
    (sym (binary_text (pat_term_text t) (bin_text o) (pat_term_text u)))
  where
    binary_text : (t o u : List ℕ) → codes "(" ++ t ++ codes " " ++ o ++ codes " " ++ u ++ codes ")"
        ≡ 40 ∷ (t ++ (32 ∷ (o ++ (32 ∷ (u ++ codes ")")))))
    binary_text t o u = simp append_assoc

terms : (t : PatTree) → IsPatTree t → Prints (alone (writing.term t)) (pat_term_text t ++ 32 ∷ [])
terms t h = lone (trees t h.numbers.consts h.numbers.leaves)

abbrev two_text : PatTree → PatTree → List ℕ
two_text t u = pat_term_text t ++ codes " ? " ++ pat_term_text u

twos : (t u : PatTree) → IsPatTree t → IsPatTree u → Prints (writing.two t u) (two_text t u ++ 32 ∷ [])
twos t u h g = same_as (two_text t u ++ 32 ∷ []) (follow (terms t h) (follow (words (codes "?") refl) (terms u g)))
    (spaced (pat_term_text t) (63 ∷ 32 ∷ (pat_term_text u ++ 32 ∷ []))
    ∙ sym (three_texts (pat_term_text t) (codes " ? ") (pat_term_text u) (32 ∷ [])))

abbrev jump_text : ℕ → List ℕ
jump_text k = codes "goto " ++ operand_text (codes "@") k

jumps : (k : ℕ) → plain (operand_text (codes "@") k) ≡ true → Prints (writing.jump k) (jump_text k ++ 32 ∷ [])
jumps k h = follow (words (codes "goto") refl) (words (operand_text (codes "@") k) h)

-- transfers, each with a blank behind it

moves : (m : PatMove) → IsPatMove m → Prints (writing.move m) (pat_move_text m ++ 32 ∷ [])
moves (SetsTo r t) h = same_as (pat_move_text (SetsTo r t) ++ 32 ∷ [])
    (follow (words (pat_reg_text r) (reg_plain r h.0)) (follow (words (codes ":=") refl) (terms t h.2)))
    (spaced (pat_reg_text r) (58 ∷ 61 ∷ 32 ∷ (pat_term_text t ++ 32 ∷ []))
    ∙ sym (three_texts (pat_reg_text r) (codes " := ") (pat_term_text t) (32 ∷ [])))
moves (Compares t u) h = same_as (pat_move_text (Compares t u) ++ 32 ∷ []) (follow (words (codes "cc") refl)
    (follow (words (codes ":=") refl) (twos t u h.0 h.1))) refl
moves (Stores t u) h = same_as (pat_move_text (Stores t u) ++ 32 ∷ [])
    (follow (lone (trees (tree.Read t) h.0.numbers.consts h.0.numbers.leaves)) (follow (words (codes ":=") refl)
    (terms u h.1))) (store_text (pat_term_text t) (pat_term_text u))
  where
    store_text : (t u : List ℕ) → codes "M[" ++ t ++ codes "]" ++ 32 ∷ [] ++ (58 ∷ 61 ∷ 32 ∷ (u ++ 32 ∷ []))
        ≡ codes "M[" ++ t ++ codes "] := " ++ u ++ 32 ∷ []
    store_text t u = simp append_assoc
moves (Jumps k) h = jumps k (operand_plain (codes "@") k refl h)
moves (Branches r k) h = same_as (pat_move_text (Branches r k) ++ 32 ∷ []) (follow (words (codes "if") refl)
    (follow (words (codes "cc") refl) (follow (words (rel_text r) (rel_plain r))
    (jumps k (operand_plain (codes "@") k refl h)))))
    (ap (λ (x : List ℕ). codes "if cc " ++ x) (spaced (rel_text r) (jump_text k ++ 32 ∷ []))
    ∙ sym (four_texts (codes "if cc ") (rel_text r) (codes " goto ") (operand_text (codes "@") k) (32 ∷ [])))
moves (BranchesOn t u r k) h = same_as (pat_move_text (BranchesOn t u r k) ++ 32 ∷ [])
    (follow (words (codes "if") refl) (follow (twos t u h.0 h.1) (follow (words (rel_text r) (rel_plain r))
    (jumps k (operand_plain (codes "@") k refl h.2)))))
    (branch_text (pat_term_text t) (pat_term_text u) (rel_text r) (operand_text (codes "@") k))
  where
    branch_text : (t u r k : List ℕ) → codes "if " ++ ((t ++ codes " ? " ++ u ++ 32 ∷ []) ++ ((r ++ 32 ∷ [])
        ++ (codes "goto " ++ k ++ 32 ∷ []))) ≡ codes "if " ++ t ++ codes " ? " ++ u ++ codes " " ++ r ++ codes " goto "
        ++ k ++ 32 ∷ []
    branch_text t u r k = simp append_assoc
moves (Calls k) h = follow (words (codes "call") refl) (words (operand_text (codes "&") k)
    (operand_plain (codes "&") k refl h))
moves Returns h = words (codes "ret") refl

-- the list, with a blank behind it

abbrev behind_first : List PatMove → List ℕ
behind_first ms = flat_map (λ u. codes " ; " ++ u) (map pat_move_text ms)

patterns : (m : PatMove) (ms : List PatMove) → All IsPatMove (m ∷ ms)
    → Prints (writing.pattern (m ∷ ms)) (pattern_text (m ∷ ms) ++ 32 ∷ [])
patterns m [] h = same_as (pat_move_text m ++ [] ++ 32 ∷ []) (follow (moves m (All-head IsPatMove m [] h)) empty)
    (append-nil (pat_move_text m ++ 32 ∷ []) ∙ ap (λ (x : List ℕ). x ++ 32 ∷ []) (sym (append-nil (pat_move_text m))))
patterns m (n ∷ ms) h = same_as (pattern_text (m ∷ n ∷ ms) ++ 32 ∷ [])
    (follow (moves m (All-head IsPatMove m (n ∷ ms) h)) (follow (words (codes ";") refl) (patterns n ms (All-tail IsPatMove m (n ∷ ms) h))))
    (list_text (pat_move_text m) (pat_move_text n) (behind_first ms))
  where
    list_text : (m n others : List ℕ) → (m ++ 32 ∷ []) ++ (59 ∷ 32 ∷ (n ++ others ++ 32 ∷ []))
        ≡ m ++ (codes " ; " ++ n ++ others) ++ 32 ∷ []
    list_text m n others = simp append_assoc

-- the line

abbrev clobber_bytes : Bool → List ℕ
clobber_bytes true = codes "clobber cc "
clobber_bytes false = []

clobbers : (b : Bool) → Prints (writing.clobber b) (clobber_bytes b)
clobbers true = follow (words (codes "clobber") refl) (words (codes "cc") refl)
clobbers false = empty

line_text : (b : Bool) (pattern template : List ℕ) → codes "insn " ++ ((pattern ++ 32 ∷ []) ++ (clobber_bytes b
    ++ (codes "=> " ++ template))) ≡ codes "insn " ++ pattern ++ clobber_text b ++ codes " => " ++ template
line_text true pattern template = ap (λ (x : List ℕ). codes "insn " ++ x)
    (spaced pattern (codes "clobber cc => " ++ template))
    ∙ sym (four_texts (codes "insn ") pattern (codes " clobber cc") (codes " => ") template)
line_text false pattern template = ap (λ (x : List ℕ). codes "insn " ++ x) (spaced pattern (codes "=> " ++ template))
    ∙ sym (four_texts (codes "insn ") pattern [] (codes " => ") template)

some_pattern : (ms : List PatMove) → 1 ≤ length ms → All IsPatMove ms
    → Prints (writing.pattern ms) (pattern_text ms ++ 32 ∷ [])
some_pattern [] some h = absurd (omega (arith, some))
some_pattern (m ∷ ms) some h = patterns m ms h

abbrev line_form : Entry → Form
line_form e = blanks ⨾ word (codes "insn") ⨾ writing.pattern (pat_moves_of e.pattern) ⨾ writing.clobber e.clobbers
    ⨾ text (codes "=> ") ⨾ text (template_text e.template)

lines : (e : Entry) → IsEntry e → Prints (line_form e) (entry_text e)
unfolding entry_text
lines e h =
    let ms : List PatMove = pat_moves_of e.pattern in
    same_as (codes "insn " ++ pattern_text ms ++ clobber_text e.clobbers ++ codes " => " ++ template_text e.template)
    (skip (follow (words (codes "insn") refl) (follow (some_pattern ms h.some h.each) (follow (clobbers e.clobbers)
    (follow (texts (codes "=> ") refl) (texts (template_text e.template)
    (template_plain (places_of ms) e.template (small_moves ms h.each) h.template)))))))
    (line_text e.clobbers (pattern_text ms) (template_text e.template))

pub entry_printed : (e : Entry) → IsEntry e → IsWritten e (entry_text e)
entry_printed e h = subst (λ (bytes : List ℕ). IsWritten e bytes) (append-nil (entry_text e)) ((lines e h).stands [])

pub entry_plain : (e : Entry) → IsEntry e → AllByRecursion (λ b. 32 ≤ b) (entry_text e)
entry_plain e h = each_high (entry_text e) (lines e h).plain

-- how the line of an entry begins
pub record Begins (text : List ℕ) : Type 0 where
  pub others : List ℕ
  pub is : text ≡ codes "insn" ++ (32 ∷ others)

pub entry_begins : (e : Entry) → Begins (entry_text e)
unfolding entry_text
entry_begins e =
    let pattern : List ℕ = pattern_text (pat_moves_of e.pattern) in
    record {
      others = pattern ++ (clobber_text e.clobbers ++ (codes " => " ++ template_text e.template));
      is = four_texts (codes "insn ") pattern (clobber_text e.clobbers) (codes " => ") (template_text e.template);
    }
