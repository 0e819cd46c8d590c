-- What is read of a transfer stands there as its form says.
use Rattle.std.proofs.Common.{◌≡◌, ℕ, Bool, true, false, not, List, [], ◌∷◌, drop, codes, refl, sym, ap}
use Rattle.std.proofs.Common.{◌∙◌, subst, Option, Some, None, Ok, inl, inr}
use Rattle.std.specs.Prelude.{cond, ⊤}
use Rattle.std.specs.List.{prefix_len}
use Rattle.std.specs.Option.{option_map}
use Rattle.std.specs.Cmp.Lexicographic.{same_text}
use Rattle.po_word.specs.declared.operator.Rel.{Rel}
use Rattle.po_word.specs.declared.operator.Rel.TheVariants.{Eq, Ne, Lt, Le, Gt, Ge, Ltu, Geu}
use Rattle.po_text.specs.Words.{is_blank}
use Rattle.po_termtext.specs.TermText.{rel_text}
use Rattle.po_lines.specs.Leaves.{same}
use Rattle.po_lines.proofs.Results.{chosen, bind_ok, ok_is, not_ok}
use Rattle.po_model.specs.declared.machine.PatReg.{PatReg}
use Rattle.po_model.specs.declared.machine.PatTerm.{PatTerm}
use Rattle.po_model.specs.declared.machine.PatCond.{PatCond}
use Rattle.po_model.specs.declared.machine.PatCond.TheVariants as condition
use Rattle.po_model.specs.declared.machine.PatTransfer.{PatTransfer}
use Rattle.po_model.specs.declared.machine.PatTransfer.TheVariants as transfer
use Rattle.po_model.specs.Patterns.{pattern_of, pat_move_of}
use Rattle.po_pattern.specs.declared.operands.Operands.{Operands}
use Rattle.po_pattern.specs.declared.operands.OperandKind.TheVariants.{Symbol, Label}
use Rattle.po_pattern.specs.Rests.{Rest, Read, behind, skip_blanks}
use Rattle.po_pattern.specs.Parts as parts
use Rattle.po_pattern.specs.Terms as terms
use Rattle.po_entry.specs.declared.pair.Pair.{Pair}
use Rattle.po_entry.specs.EntryText.{operand_text, pat_reg_text}
use Rattle.po_entry.specs.Words.{is_word_byte, word_here, says, after_word, behind_word, ends_word, keyword, ended}
use Rattle.po_entry.specs.Transfers.{register, term, address, label, symbol, pair_of, compared, set_in, cc_in}
use Rattle.po_entry.specs.Transfers.{store_in, goto_in, relation_of, relation_with, relation, branch_in, if_in}
use Rattle.po_entry.specs.Transfers.{call_in, begins_memory, setting_in, transfer_in}
use Rattle.po_entry.specs.Writing as writing
use Rattle.po_entry.specs.Writing.{text, blanks, ends_here, alone, word, ◌⨾◌}
use Rattle.po_entry.proofs.WrittenParts.{drop_more, drop_none, blanks_skipped, named, operand_written, RegAt}
use Rattle.po_entry.proofs.WrittenParts.{register_written}
use Rattle.po_entry.proofs.WrittenTerms.{AnyTermAt, term_written, AddressAt, address_written}

-- words

-- behind the bytes of a word a blank stands, or the line ends
stops : (bs : List ℕ) → ends_here (drop (prefix_len is_word_byte bs) bs) ≡ true
stops [] = refl
stops (b ∷ bs) = by_first (is_blank b) refl (stops bs)
  where
    by_first : (x : Bool) → is_blank b ≡ x → ends_here (drop (prefix_len is_word_byte bs) bs) ≡ true
        → ends_here (drop (prefix_len is_word_byte (b ∷ bs)) (b ∷ bs)) ≡ true
    by_first true e more = ap ends_here (drop_none is_word_byte b bs (ap not e)) ∙ e
    by_first false e more = ap ends_here (drop_more is_word_byte b bs (ap not e)) ∙ more

-- behind blanks none stands
none_first : (bs : List ℕ) → prefix_len is_blank (drop (prefix_len is_blank bs) bs) ≡ 0
none_first [] = refl
none_first (b ∷ bs) = by_first (is_blank b) refl (none_first bs)
  where
    by_first : (x : Bool) → is_blank b ≡ x → prefix_len is_blank (drop (prefix_len is_blank bs) bs) ≡ 0
        → prefix_len is_blank (drop (prefix_len is_blank (b ∷ bs)) (b ∷ bs)) ≡ 0
    by_first true e more = ap (prefix_len is_blank) (drop_more is_blank b bs e) ∙ more
    by_first false e more = ap (prefix_len is_blank) (drop_none is_blank b bs e)
        ∙ (let none : prefix_len is_blank (b ∷ bs) ≡ 0 = rw e refl in none)

-- no blank stands here
abbrev pub Solid : Rest → Type 0
Solid r = (skip_blanks r).bytes ≡ r.bytes

skipped_solid : (r : Rest) → Solid (skip_blanks r)
unfolding skip_blanks
skipped_solid r = let none = none_first r.bytes in rw none refl

pub word_is : (w : List ℕ) (r : Rest) → word_here r ≡ w → word w r.bytes (behind_word r).bytes
unfolding word_here after_word
word_is w r e =
    let n = prefix_len is_word_byte r.bytes in
    (drop n r.bytes, named n r.bytes w e, stops r.bytes, blanks_skipped (behind n r))

pub says_written : (w : List ℕ) (r : Rest) → says w r ≡ true → word w r.bytes (behind_word r).bytes
says_written w r e = word_is w r (same_text (word_here r) w (sym e))

pub keyword_written : (w : List ℕ) (r s : Rest) → keyword w r ≡ Ok s → word w r.bytes s.bytes
unfolding keyword
keyword_written w r s e = elim (chosen (says w r) _ _ _ e) [
  | inl (h, is) ↦ subst (λ (t : Rest). word w r.bytes t.bytes) (ok_is is) (says_written w r h)
  | inr (h, is) ↦ absurd (not_ok is)
]

keyword_solid : (w : List ℕ) (r s : Rest) → keyword w r ≡ Ok s → Solid s
unfolding keyword
keyword_solid w r s e = elim (chosen (says w r) _ _ _ e) [
  | inl (h, is) ↦ subst (λ (t : Rest). Solid t) (ok_is is) (skipped_solid (after_word r))
  | inr (h, is) ↦ absurd (not_ok is)
]

-- what stands alone

same_end : (bs : List ℕ) → ends_word bs ≡ true → ends_here bs ≡ true
same_end [] e = refl
same_end (b ∷ bs) e = e

ended_written : {T : Type 0} (At : T → List ℕ → List ℕ → Type 0) (from : List ℕ) (x y : Read T) → ended x ≡ Ok y
    → At x.value from x.rest.bytes → alone (At y.value) from y.rest.bytes
unfolding ended
ended_written {T = T} At from x y e h = elim (chosen (ends_word x.rest.bytes) _ _ _ e) [
  | inl (g, is) ↦ subst (λ (z : Read T). alone (At z.value) from z.rest.bytes) (ok_is is)
      (x.rest.bytes, h, same_end x.rest.bytes g, blanks_skipped x.rest)
  | inr (g, is) ↦ absurd (not_ok is)
]

register_word : (r : Rest) (seen : Operands) (x : Read PatReg) → register r seen ≡ Ok x
    → word (pat_reg_text x.value) r.bytes x.rest.bytes
unfolding register
register_word r seen x e =
    let p = bind_ok (parts.register r seen) _ x e in
    ended_written RegAt r.bytes p.0 x p.2 (register_written r seen p.0 p.1)

term_word : (r : Rest) (seen : Operands) (x : Read (Option PatTerm)) → term r seen ≡ Ok x → Solid r
    → alone (AnyTermAt x.value) r.bytes x.rest.bytes
unfolding term
term_word r seen x e solid =
    let p = bind_ok (terms.term r seen) _ x e in
    ended_written AnyTermAt r.bytes p.0 x p.2 (subst (λ (bs : List ℕ). AnyTermAt p.0.value bs p.0.rest.bytes) solid
    (term_written r seen p.0 p.1))

address_word : (r : Rest) (seen : Operands) (x : Read (Option PatTerm)) → address r seen ≡ Ok x
    → alone (AddressAt x.value) r.bytes x.rest.bytes
unfolding address
address_word r seen x e =
    let p = bind_ok (terms.address r seen) _ x e in
    ended_written AddressAt r.bytes p.0 x p.2 (address_written r seen p.0 p.1)

label_word : (r : Rest) (seen : Operands) (x : Read ℕ) → label r seen ≡ Ok x
    → word (operand_text (codes "@") x.value) r.bytes x.rest.bytes
unfolding label parts.label
label_word r seen x e =
    let p = bind_ok (parts.operand Label r seen) _ x e in
    ended_written (λ k. text (operand_text (codes "@") k)) r.bytes p.0 x p.2 (operand_written Label r seen p.0 p.1)

symbol_word : (r : Rest) (seen : Operands) (x : Read ℕ) → symbol r seen ≡ Ok x
    → word (operand_text (codes "&") x.value) r.bytes x.rest.bytes
unfolding symbol parts.symbol
symbol_word r seen x e =
    let p = bind_ok (parts.operand Symbol r seen) _ x e in
    ended_written (λ k. text (operand_text (codes "&") k)) r.bytes p.0 x p.2 (operand_written Symbol r seen p.0 p.1)

-- two terms

abbrev PairAt : Option Pair → List ℕ → List ℕ → Type 0
PairAt None from to = ⊤
PairAt (Some p) from to = writing.two (pattern_of p.left) (pattern_of p.right) from to

pair_at : (t u : Option PatTerm) (from a b to : List ℕ) → alone (AnyTermAt t) from a → word (codes "?") a b
    → alone (AnyTermAt u) b to → PairAt (pair_of t u) from to
pair_at None u from a b to h i j = tt
pair_at (Some t) None from a b to h i j = tt
pair_at (Some t) (Some u) from a b to h i j = (a, h, (b, i, j))

compared_written : (r : Rest) (seen : Operands) (x : Read (Option Pair)) → compared r seen ≡ Ok x → Solid r
    → PairAt x.value r.bytes x.rest.bytes
unfolding compared
compared_written r seen x e solid =
    let p = bind_ok (term r seen) _ x e in
    let q = bind_ok (keyword (codes "?") p.0.rest) _ x p.2 in
    let s = bind_ok (term q.0 p.0.seen) _ x q.2 in
    subst (λ (y : Read (Option Pair)). PairAt y.value r.bytes y.rest.bytes) (ok_is s.2)
    (pair_at p.0.value s.0.value r.bytes p.0.rest.bytes q.0.bytes s.0.rest.bytes (term_word r seen p.0 p.1 solid)
    (keyword_written (codes "?") p.0.rest q.0 q.1)
    (term_word q.0 p.0.seen s.0 s.1 (keyword_solid (codes "?") p.0.rest q.0 q.1)))

-- transfers

abbrev pub MoveAt : Option PatTransfer → List ℕ → List ℕ → Type 0
MoveAt None from to = ⊤
MoveAt (Some m) from to = writing.move (pat_move_of m) from to

set_at : (to : PatReg) (t : Option PatTerm) (from a b c : List ℕ) → word (pat_reg_text to) from a
    → word (codes ":=") a b → alone (AnyTermAt t) b c → MoveAt (option_map (transfer.Set to) t) from c
set_at to None from a b c h i j = tt
set_at to (Some t) from a b c h i j = (a, h, (b, i, j))

set_written : (r : Rest) (seen : Operands) (x : Read (Option PatTransfer)) → set_in r seen ≡ Ok x
    → MoveAt x.value r.bytes x.rest.bytes
unfolding set_in
set_written r seen x e =
    let p = bind_ok (register r seen) _ x e in
    let q = bind_ok (keyword (codes ":=") p.0.rest) _ x p.2 in
    let s = bind_ok (term q.0 p.0.seen) _ x q.2 in
    subst (λ (y : Read (Option PatTransfer)). MoveAt y.value r.bytes y.rest.bytes) (ok_is s.2)
    (set_at p.0.value s.0.value r.bytes p.0.rest.bytes q.0.bytes s.0.rest.bytes (register_word r seen p.0 p.1)
    (keyword_written (codes ":=") p.0.rest q.0 q.1)
    (term_word q.0 p.0.seen s.0 s.1 (keyword_solid (codes ":=") p.0.rest q.0 q.1)))

cc_at : (p : Option Pair) (from a b c : List ℕ) → word (codes "cc") from a → word (codes ":=") a b → PairAt p b c
    → MoveAt (option_map (λ p. transfer.Cc p.left p.right) p) from c
cc_at None from a b c h i j = tt
cc_at (Some p) from a b c h i j = (a, h, (b, i, j))

cc_written : (r : Rest) (seen : Operands) (x : Read (Option PatTransfer)) → cc_in r seen ≡ Ok x
    → MoveAt x.value r.bytes x.rest.bytes
unfolding cc_in
cc_written r seen x e =
    let p = bind_ok (keyword (codes "cc") r) _ x e in
    let q = bind_ok (keyword (codes ":=") p.0) _ x p.2 in
    let s = bind_ok (compared q.0 seen) _ x q.2 in
    subst (λ (y : Read (Option PatTransfer)). MoveAt y.value r.bytes y.rest.bytes) (ok_is s.2)
    (cc_at s.0.value r.bytes p.0.bytes q.0.bytes s.0.rest.bytes (keyword_written (codes "cc") r p.0 p.1)
    (keyword_written (codes ":=") p.0 q.0 q.1)
    (compared_written q.0 seen s.0 s.1 (keyword_solid (codes ":=") p.0 q.0 q.1)))

store_at : (t u : Option PatTerm) (from a b c : List ℕ) → alone (AddressAt t) from a → word (codes ":=") a b
    → alone (AnyTermAt u) b c → MoveAt (option_map (λ p. transfer.Store p.left p.right) (pair_of t u)) from c
store_at None u from a b c h i j = tt
store_at (Some t) None from a b c h i j = tt
store_at (Some t) (Some u) from a b c h i j = (a, h, (b, i, j))

store_written : (r : Rest) (seen : Operands) (x : Read (Option PatTransfer)) → store_in r seen ≡ Ok x
    → MoveAt x.value r.bytes x.rest.bytes
unfolding store_in
store_written r seen x e =
    let p = bind_ok (address r seen) _ x e in
    let q = bind_ok (keyword (codes ":=") p.0.rest) _ x p.2 in
    let s = bind_ok (term q.0 p.0.seen) _ x q.2 in
    subst (λ (y : Read (Option PatTransfer)). MoveAt y.value r.bytes y.rest.bytes) (ok_is s.2)
    (store_at p.0.value s.0.value r.bytes p.0.rest.bytes q.0.bytes s.0.rest.bytes (address_word r seen p.0 p.1)
    (keyword_written (codes ":=") p.0.rest q.0 q.1)
    (term_word q.0 p.0.seen s.0 s.1 (keyword_solid (codes ":=") p.0.rest q.0 q.1)))

goto_written : (r : Rest) (seen : Operands) (x : Read ℕ) → goto_in r seen ≡ Ok x
    → writing.jump x.value r.bytes x.rest.bytes
unfolding goto_in
goto_written r seen x e =
    let p = bind_ok (keyword (codes "goto") r) _ x e in
    (p.0.bytes, keyword_written (codes "goto") r p.0 p.1, label_word p.0 seen x p.2)

call_written : (r : Rest) (seen : Operands) (x : Read ℕ) → call_in r seen ≡ Ok x
    → (word (codes "call") ⨾ word (operand_text (codes "&") x.value)) r.bytes x.rest.bytes
unfolding call_in
call_written r seen x e =
    let p = bind_ok (keyword (codes "call") r) _ x e in
    (p.0.bytes, keyword_written (codes "call") r p.0 p.1, symbol_word p.0 seen x p.2)

this_relation : (name w : List ℕ) (s r : Rel) (other : Option Rel) → cond (same name w) (Some s) other ≡ Some r
    → w ≡ rel_text s → (other ≡ Some r → name ≡ rel_text r) → name ≡ rel_text r
this_relation name w s r other e h k = elim (chosen (same name w) _ _ _ e) [
  | inl (g, is) ↦ (let here : s ≡ r = cc in same_text name w (sym g) ∙ h ∙ ap rel_text here)
  | inr (g, is) ↦ k is
]

relation_text : (name : List ℕ) (r : Rel) → relation_of name ≡ Some r → name ≡ rel_text r
relation_text name r e =
    this_relation name (codes "eq") Eq r _ e refl (λ e.
    this_relation name (codes "ne") Ne r _ e refl (λ e.
    this_relation name (codes "lt") Lt r _ e refl (λ e.
    this_relation name (codes "le") Le r _ e refl (λ e.
    this_relation name (codes "gt") Gt r _ e refl (λ e.
    this_relation name (codes "ge") Ge r _ e refl (λ e.
    this_relation name (codes "ltu") Ltu r _ e refl (λ e.
    this_relation name (codes "geu") Geu r None e refl (λ e. absurd (cc)))))))))

relation_by : (r : Rest) (seen : Operands) (x : Read Rel) (found : Option Rel) → relation_of (word_here r) ≡ found
    → relation_with r seen found ≡ Ok x → word (rel_text x.value) r.bytes x.rest.bytes
relation_by r seen x None h e = absurd (not_ok e)
relation_by r seen x (Some rel) h e = subst (λ (y : Read Rel). word (rel_text y.value) r.bytes y.rest.bytes) (ok_is e)
    (word_is (rel_text rel) r (relation_text (word_here r) rel h))

-- `if` and what a branch compares
abbrev CondAt : Option PatCond → List ℕ → List ℕ → Type 0
CondAt None from to = ⊤
CondAt (Some condition.Cc) from to = (word (codes "if") ⨾ word (codes "cc")) from to
CondAt (Some (condition.Two t u)) from to = (word (codes "if") ⨾ writing.two (pattern_of t) (pattern_of u)) from to

branch_at : (c : Option PatCond) (rel : Rel) (k : ℕ) (from a b to : List ℕ) → CondAt c from a
    → word (rel_text rel) a b → writing.jump k b to → MoveAt (option_map (λ c. transfer.If c rel k) c) from to
branch_at None rel k from a b to h i j = tt
branch_at (Some condition.Cc) rel k from a b to h i j = (h.0, h.1, (a, h.2, (b, i, j)))
branch_at (Some (condition.Two t u)) rel k from a b to h i j = (h.0, h.1, (a, h.2, (b, i, j)))

branch_written : (c : Option PatCond) (from : List ℕ) (r : Rest) (seen : Operands) (x : Read (Option PatTransfer))
    → branch_in c r seen ≡ Ok x → CondAt c from r.bytes → MoveAt x.value from x.rest.bytes
unfolding branch_in relation
branch_written c from r seen x e h =
    let p = bind_ok (relation r seen) _ x e in
    let q = bind_ok (goto_in p.0.rest p.0.seen) _ x p.2 in
    subst (λ (y : Read (Option PatTransfer)). MoveAt y.value from y.rest.bytes) (ok_is q.2)
    (branch_at c p.0.value q.0.value from r.bytes p.0.rest.bytes q.0.rest.bytes h
    (relation_by r seen p.0 (relation_of (word_here r)) refl p.1) (goto_written p.0.rest p.0.seen q.0 q.1))

two_at : (p : Option Pair) (from a to : List ℕ) → word (codes "if") from a → PairAt p a to
    → CondAt (option_map (λ p. condition.Two p.left p.right) p) from to
two_at None from a to h i = tt
two_at (Some p) from a to h i = (a, h, i)

if_written : (r : Rest) (seen : Operands) (x : Read (Option PatTransfer)) → if_in r seen ≡ Ok x
    → MoveAt x.value r.bytes x.rest.bytes
unfolding if_in
if_written r seen x e =
    let p = bind_ok (keyword (codes "if") r) _ x e in
    let begins = keyword_written (codes "if") r p.0 p.1 in
    elim (chosen (says (codes "cc") p.0) _ _ _ p.2) [
      | inl (h, is) ↦ branch_written (Some condition.Cc) r.bytes (behind_word p.0) seen x is
          (p.0.bytes, begins, says_written (codes "cc") p.0 h)
      | inr (h, is) ↦ (let q = bind_ok (compared p.0 seen) _ x is in
          branch_written (option_map (λ p. condition.Two p.left p.right) q.0.value) r.bytes q.0.rest q.0.seen x q.2
          (two_at q.0.value r.bytes p.0.bytes q.0.rest.bytes begins
          (compared_written p.0 seen q.0 q.1 (keyword_solid (codes "if") r p.0 p.1))))
    ]

setting_written : (r : Rest) (seen : Operands) (x : Read (Option PatTransfer)) → setting_in r seen ≡ Ok x
    → MoveAt x.value r.bytes x.rest.bytes
unfolding setting_in
setting_written r seen x e = elim (chosen (says (codes "cc") r) _ _ _ e) [
  | inl (h, is) ↦ cc_written r seen x is
  | inr (h, is) ↦ elim (chosen (begins_memory r) _ _ _ is) [
    | inl (g, at) ↦ store_written r seen x at
    | inr (g, at) ↦ set_written r seen x at
  ]
]

pub transfer_written : (r : Rest) (seen : Operands) (x : Read (Option PatTransfer)) → transfer_in r seen ≡ Ok x
    → MoveAt x.value r.bytes x.rest.bytes
unfolding transfer_in
transfer_written r seen x e = elim (chosen (says (codes "goto") r) _ _ _ e) [
  | inl (h, is) ↦ (let p = bind_ok (goto_in r seen) _ x is in
      subst (λ (y : Read (Option PatTransfer)). MoveAt y.value r.bytes y.rest.bytes) (ok_is p.2)
      (goto_written r seen p.0 p.1))
  | inr (h, is) ↦ elim (chosen (says (codes "call") r) _ _ _ is) [
    | inl (g, at) ↦ (let p = bind_ok (call_in r seen) _ x at in
        subst (λ (y : Read (Option PatTransfer)). MoveAt y.value r.bytes y.rest.bytes) (ok_is p.2)
        (call_written r seen p.0 p.1))
    | inr (g, at) ↦ elim (chosen (says (codes "ret") r) _ _ _ at) [
      | inl (f, to) ↦ subst (λ (y : Read (Option PatTransfer)). MoveAt y.value r.bytes y.rest.bytes) (ok_is to)
          (says_written (codes "ret") r f)
      | inr (f, to) ↦ elim (chosen (says (codes "if") r) _ _ _ to) [
        | inl (d, by) ↦ if_written r seen x by
        | inr (d, by) ↦ setting_written r seen x by
      ]
    ]
  ]
]
