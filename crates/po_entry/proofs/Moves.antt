-- What was read where a transfer stands.
use Rattle.std.proofs.Common.{◌≡◌, ℕ, ◌<◌, List, [], ◌++◌, refl, sym, ap, ◌∙◌, subst, Option, Some, None, Ok, inl}
use Rattle.std.proofs.Common.{inr, append_assoc}
use Rattle.std.specs.Prelude.{codes, ⊤}
use Rattle.std.specs.Option.{option_map}
use Rattle.po_word.specs.declared.operator.Rel.{Rel}
use Rattle.po_lines.proofs.Results.{chosen, bind_ok, ok_is, not_ok}
use Rattle.po_model.specs.declared.machine.PatReg.{PatReg}
use Rattle.po_model.specs.declared.machine.PatTerm.{PatTerm}
use Rattle.po_model.specs.declared.machine.PatCond.{PatCond}
use Rattle.po_model.specs.declared.machine.PatCond.TheVariants as condition
use Rattle.po_model.specs.declared.machine.PatTransfer.{PatTransfer}
use Rattle.po_model.specs.declared.machine.PatTransfer.TheVariants as transfer
use Rattle.po_model.specs.Patterns.{PatTree, PatMove, SetsTo, Compares, Stores, Jumps, Branches, BranchesOn, Calls}
use Rattle.po_model.specs.Patterns.{Returns, pattern_of, pat_move_of}
use Rattle.po_model.specs.Entries.{Place, IsPatReg, IsPatTree, reg_places, tree_places, move_places}
use Rattle.po_pattern.specs.declared.operands.Operands.{Operands}
use Rattle.po_pattern.specs.declared.operands.OperandKind.TheVariants.{Symbol, Label}
use Rattle.po_pattern.specs.Rests.{Rest, Read}
use Rattle.po_pattern.specs.Parts as parts
use Rattle.po_pattern.specs.Terms as terms
use Rattle.po_entry.specs.declared.pair.Pair.{Pair}
use Rattle.po_entry.specs.Words.{word_here, says, behind_word, ends_word, keyword, ended}
use Rattle.po_entry.specs.Transfers.{register, term, address, label, symbol, pair_of, compared, set_in, cc_in}
use Rattle.po_entry.specs.Transfers.{store_in, goto_in, relation_of, relation_with, relation, branch_in, if_in}
use Rattle.po_entry.specs.Transfers.{call_in, begins_memory, setting_in, transfer_in}
use Rattle.po_pattern.proofs.Told.{Tells}
use Rattle.po_pattern.proofs.Leaves.{Found, found_of, IsDigitAt, operand_came}
use Rattle.po_pattern.proofs.Parts.{IsRegAt, register_came, none_more}
use Rattle.po_pattern.proofs.Terms.{TermHas, term_came, address_came}

ended_same : {T : Type 0} (x y : Read T) → ended x ≡ Ok y → (x.value ≡ y.value) × (x.seen ≡ y.seen)
unfolding ended
ended_same {T = T} x y e = elim (chosen (ends_word x.rest.bytes) _ _ _ e) [
  | inl (h, is) ↦ (ap (λ (z : Read T). z.value) (ok_is is), ap (λ (z : Read T). z.seen) (ok_is is))
  | inr (h, is) ↦ absurd (not_ok is)
]

found_ended : {T : Type 0} (Has : T → List Place → Type 0) (seen : Operands) (x y : Read T) → ended x ≡ Ok y
    → Found Has seen x.value x.seen → Found Has seen y.value y.seen
found_ended {T = T} Has seen x y e h = let is = ended_same x y e in
    subst (λ (v : T). Found Has seen v y.seen) is.0 (subst (λ (s : Operands). Found Has seen x.value s) is.1 h)

register_found : (r : Rest) (seen : Operands) (x : Read PatReg) → register r seen ≡ Ok x
    → Found IsRegAt seen x.value x.seen
unfolding register
register_found r seen x e =
    let p = bind_ok (parts.register r seen) _ x e in
    found_ended IsRegAt seen p.0 x p.2 (found_of (register_came r seen p.0 p.1))

term_found : (r : Rest) (seen : Operands) (x : Read (Option PatTerm)) → term r seen ≡ Ok x
    → Found TermHas seen x.value x.seen
unfolding term
term_found r seen x e =
    let p = bind_ok (terms.term r seen) _ x e in
    found_ended TermHas seen p.0 x p.2 (term_came r seen p.0 p.1)

address_found : (r : Rest) (seen : Operands) (x : Read (Option PatTerm)) → address r seen ≡ Ok x
    → Found TermHas seen x.value x.seen
unfolding address
address_found r seen x e =
    let p = bind_ok (terms.address r seen) _ x e in
    found_ended TermHas seen p.0 x p.2 (address_came r seen p.0 p.1)

label_found : (r : Rest) (seen : Operands) (x : Read ℕ) → label r seen ≡ Ok x
    → Found (IsDigitAt Label) seen x.value x.seen
unfolding label parts.label
label_found r seen x e =
    let p = bind_ok (parts.operand Label r seen) _ x e in
    found_ended (IsDigitAt Label) seen p.0 x p.2 (found_of (operand_came Label r seen p.0 p.1))

symbol_found : (r : Rest) (seen : Operands) (x : Read ℕ) → symbol r seen ≡ Ok x
    → Found (IsDigitAt Symbol) seen x.value x.seen
unfolding symbol parts.symbol
symbol_found r seen x e =
    let p = bind_ok (parts.operand Symbol r seen) _ x e in
    found_ended (IsDigitAt Symbol) seen p.0 x p.2 (found_of (operand_came Symbol r seen p.0 p.1))

-- two terms

pub record IsPairAt (t u : PatTree) (qs : List Place) : Type 0 where
  pub is : qs ≡ tree_places t ++ tree_places u
  pub left : IsPatTree t
  pub right : IsPatTree u

abbrev pub PairHas : Option Pair → List Place → Type 0
PairHas None qs = ⊤
PairHas (Some p) qs = IsPairAt (pattern_of p.left) (pattern_of p.right) qs

pair_has : (t u : Option PatTerm) (cs bs : List Place) → TermHas t cs → TermHas u bs → PairHas (pair_of t u) (cs ++ bs)
pair_has None u cs bs h g = tt
pair_has (Some t) None cs bs h g = tt
pair_has (Some t) (Some u) cs bs h g = record {
  is = ap (λ (x : List Place). x ++ bs) h.is ∙ ap (λ (x : List Place). tree_places (pattern_of t) ++ x) g.is;
  left = h.fine;
  right = g.fine;
}

-- two things, one behind the other
both_found : {S T U : Type 0} (HasS : S → List Place → Type 0) (HasT : T → List Place → Type 0)
    (HasU : U → List Place → Type 0) (seen before after : Operands) (s : S) (t : T) (u : U)
    → ((cs bs : List Place) → HasS s cs → HasT t bs → HasU u (cs ++ bs)) → Found HasS seen s before
    → Found HasT before t after → Found HasU seen u after
both_found HasS HasT HasU seen before after s t u join f g = record {
  places = f.places ++ g.places;
  has = join f.places g.places f.has g.has;
  told = λ ps h. subst (λ (qs : List Place). Tells after qs) (append_assoc ps f.places g.places)
      (g.told (ps ++ f.places) (f.told ps h));
}

compared_found : (r : Rest) (seen : Operands) (x : Read (Option Pair)) → compared r seen ≡ Ok x
    → Found PairHas seen x.value x.seen
unfolding compared
compared_found r seen x e =
    let p = bind_ok (term r seen) _ x e in
    let q = bind_ok (keyword (codes "?") p.0.rest) _ x p.2 in
    let s = bind_ok (term q.0 p.0.seen) _ x q.2 in
    subst (λ (y : Read (Option Pair)). Found PairHas seen y.value y.seen) (ok_is s.2)
    (both_found TermHas TermHas PairHas seen p.0.seen s.0.seen p.0.value s.0.value (pair_of p.0.value s.0.value)
    (pair_has p.0.value s.0.value) (term_found r seen p.0 p.1) (term_found q.0 p.0.seen s.0 s.1))

-- a transfer, but for what the list decides of it

abbrev pub IsReadMove : PatMove → Type 0
IsReadMove (SetsTo r t) = IsPatReg r × IsPatTree t
IsReadMove (Compares t u) = IsPatTree t × IsPatTree u
IsReadMove (Stores t u) = IsPatTree t × IsPatTree u
IsReadMove (Jumps k) = k < 10
IsReadMove (Branches r k) = k < 10
IsReadMove (BranchesOn t u r k) = IsPatTree t × IsPatTree u × (k < 10)
IsReadMove (Calls k) = k < 10
IsReadMove Returns = ⊤

pub record IsMoveAt (m : PatMove) (qs : List Place) : Type 0 where
  pub is : qs ≡ move_places m
  pub fine : IsReadMove m

abbrev pub MoveHas : Option PatTransfer → List Place → Type 0
MoveHas None qs = ⊤
MoveHas (Some m) qs = IsMoveAt (pat_move_of m) qs

set_has : (to : PatReg) (t : Option PatTerm) (cs bs : List Place) → IsRegAt to cs → TermHas t bs
    → MoveHas (option_map (transfer.Set to) t) (cs ++ bs)
set_has to None cs bs h g = tt
set_has to (Some t) cs bs h g = record {
  is = ap (λ (x : List Place). x ++ bs) h.is ∙ ap (λ (x : List Place). reg_places to ++ x) g.is;
  fine = (h.fine, g.fine);
}

set_found : (r : Rest) (seen : Operands) (x : Read (Option PatTransfer)) → set_in r seen ≡ Ok x
    → Found MoveHas seen x.value x.seen
unfolding set_in
set_found r seen x e =
    let p = bind_ok (register r seen) _ x e in
    let q = bind_ok (keyword (codes ":=") p.0.rest) _ x p.2 in
    let s = bind_ok (term q.0 p.0.seen) _ x q.2 in
    subst (λ (y : Read (Option PatTransfer)). Found MoveHas seen y.value y.seen) (ok_is s.2)
    (both_found IsRegAt TermHas MoveHas seen p.0.seen s.0.seen p.0.value s.0.value
    (option_map (transfer.Set p.0.value) s.0.value) (set_has p.0.value s.0.value) (register_found r seen p.0 p.1)
    (term_found q.0 p.0.seen s.0 s.1))

-- as something else of the same places
found_as : {S T : Type 0} (HasS : S → List Place → Type 0) (HasT : T → List Place → Type 0) (seen after : Operands)
    (s : S) (t : T) → ((qs : List Place) → HasS s qs → HasT t qs) → Found HasS seen s after → Found HasT seen t after
found_as HasS HasT seen after s t make f = record { places = f.places; has = make f.places f.has; told = f.told }

cc_has : (p : Option Pair) (qs : List Place) → PairHas p qs → MoveHas (option_map (λ p. transfer.Cc p.left p.right) p)
    qs
cc_has None qs h = tt
cc_has (Some p) qs h = record { is = h.is; fine = (h.left, h.right) }

store_has : (p : Option Pair) (qs : List Place) → PairHas p qs
    → MoveHas (option_map (λ p. transfer.Store p.left p.right) p) qs
store_has None qs h = tt
store_has (Some p) qs h = record { is = h.is; fine = (h.left, h.right) }

cc_found : (r : Rest) (seen : Operands) (x : Read (Option PatTransfer)) → cc_in r seen ≡ Ok x
    → Found MoveHas seen x.value x.seen
unfolding cc_in
cc_found r seen x e =
    let p = bind_ok (keyword (codes "cc") r) _ x e in
    let q = bind_ok (keyword (codes ":=") p.0) _ x p.2 in
    let s = bind_ok (compared q.0 seen) _ x q.2 in
    subst (λ (y : Read (Option PatTransfer)). Found MoveHas seen y.value y.seen) (ok_is s.2)
    (found_as PairHas MoveHas seen s.0.seen s.0.value (option_map (λ p. transfer.Cc p.left p.right) s.0.value)
    (cc_has s.0.value) (compared_found q.0 seen s.0 s.1))

store_found : (r : Rest) (seen : Operands) (x : Read (Option PatTransfer)) → store_in r seen ≡ Ok x
    → Found MoveHas seen x.value x.seen
unfolding store_in
store_found r seen x e =
    let p = bind_ok (address r seen) _ x e in
    let q = bind_ok (keyword (codes ":=") p.0.rest) _ x p.2 in
    let s = bind_ok (term q.0 p.0.seen) _ x q.2 in
    let two = pair_of p.0.value s.0.value in
    subst (λ (y : Read (Option PatTransfer)). Found MoveHas seen y.value y.seen) (ok_is s.2)
    (found_as PairHas MoveHas seen s.0.seen two (option_map (λ p. transfer.Store p.left p.right) two) (store_has two)
    (both_found TermHas TermHas PairHas seen p.0.seen s.0.seen p.0.value s.0.value two
    (pair_has p.0.value s.0.value) (address_found r seen p.0 p.1) (term_found q.0 p.0.seen s.0 s.1)))

goto_found : (r : Rest) (seen : Operands) (x : Read ℕ) → goto_in r seen ≡ Ok x
    → Found (IsDigitAt Label) seen x.value x.seen
unfolding goto_in
goto_found r seen x e = let p = bind_ok (keyword (codes "goto") r) _ x e in label_found p.0 seen x p.2

call_found : (r : Rest) (seen : Operands) (x : Read ℕ) → call_in r seen ≡ Ok x
    → Found (IsDigitAt Symbol) seen x.value x.seen
unfolding call_in
call_found r seen x e = let p = bind_ok (keyword (codes "call") r) _ x e in symbol_found p.0 seen x p.2

relation_same : (r : Rest) (seen : Operands) (x : Read Rel) (found : Option Rel) → relation_with r seen found ≡ Ok x
    → x.seen ≡ seen
relation_same r seen x None e = absurd (not_ok e)
relation_same r seen x (Some rel) e = sym (ap (λ (y : Read Rel). y.seen) (ok_is e))

-- what a branch compares
abbrev pub CondHas : Option PatCond → List Place → Type 0
CondHas None qs = ⊤
CondHas (Some condition.Cc) qs = qs ≡ []
CondHas (Some (condition.Two t u)) qs = IsPairAt (pattern_of t) (pattern_of u) qs

branch_has : (c : Option PatCond) (rel : Rel) (k : ℕ) (cs bs : List Place) → CondHas c cs → IsDigitAt Label k bs
    → MoveHas (option_map (λ c. transfer.If c rel k) c) (cs ++ bs)
branch_has None rel k cs bs h g = tt
branch_has (Some condition.Cc) rel k cs bs h g = record {
  is = ap (λ (x : List Place). x ++ bs) h ∙ g.is;
  fine = g.small;
}
branch_has (Some (condition.Two t u)) rel k cs bs h g = record {
  is = ap (λ (x : List Place). x ++ bs) h.is ∙ ap (λ (x : List Place).
      (tree_places (pattern_of t) ++ tree_places (pattern_of u)) ++ x) g.is;
  fine = (h.left, h.right, g.small);
}

branch_found : (c : Option PatCond) (r : Rest) (start seen : Operands) (x : Read (Option PatTransfer))
    → branch_in c r seen ≡ Ok x → Found CondHas start c seen → Found MoveHas start x.value x.seen
unfolding branch_in relation
branch_found c r start seen x e f =
    let p = bind_ok (relation r seen) _ x e in
    let q = bind_ok (goto_in p.0.rest p.0.seen) _ x p.2 in
    let same = relation_same r seen p.0 (relation_of (word_here r)) p.1 in
    let to = subst (λ (s : Operands). Found (IsDigitAt Label) s q.0.value q.0.seen) same
    (goto_found p.0.rest p.0.seen q.0 q.1) in
    subst (λ (y : Read (Option PatTransfer)). Found MoveHas start y.value y.seen) (ok_is q.2)
    (both_found CondHas (IsDigitAt Label) MoveHas start seen q.0.seen c q.0.value
    (option_map (λ c. transfer.If c p.0.value q.0.value) c) (branch_has c p.0.value q.0.value) f to)

two_has : (p : Option Pair) (qs : List Place) → PairHas p qs
    → CondHas (option_map (λ p. condition.Two p.left p.right) p) qs
two_has None qs h = tt
two_has (Some p) qs h = h

if_found : (r : Rest) (seen : Operands) (x : Read (Option PatTransfer)) → if_in r seen ≡ Ok x
    → Found MoveHas seen x.value x.seen
unfolding if_in
if_found r seen x e =
    let p = bind_ok (keyword (codes "if") r) _ x e in
    elim (chosen (says (codes "cc") p.0) _ _ _ p.2) [
      | inl (h, is) ↦ branch_found (Some condition.Cc) (behind_word p.0) seen seen x is
          (record { places = []; has = refl; told = none_more seen })
      | inr (h, is) ↦ (let q = bind_ok (compared p.0 seen) _ x is in
          branch_found (option_map (λ p. condition.Two p.left p.right) q.0.value) q.0.rest seen q.0.seen x q.2
          (found_as PairHas CondHas seen q.0.seen q.0.value (option_map (λ p. condition.Two p.left p.right) q.0.value)
          (two_has q.0.value) (compared_found p.0 seen q.0 q.1)))
    ]

setting_found : (r : Rest) (seen : Operands) (x : Read (Option PatTransfer)) → setting_in r seen ≡ Ok x
    → Found MoveHas seen x.value x.seen
unfolding setting_in
setting_found r seen x e = elim (chosen (says (codes "cc") r) _ _ _ e) [
  | inl (h, is) ↦ cc_found r seen x is
  | inr (h, is) ↦ elim (chosen (begins_memory r) _ _ _ is) [
    | inl (g, at) ↦ store_found r seen x at
    | inr (g, at) ↦ set_found r seen x at
  ]
]

goto_has : (k : ℕ) (qs : List Place) → IsDigitAt Label k qs → MoveHas (Some (transfer.Goto k)) qs
goto_has k qs h = record { is = h.is; fine = h.small }

call_has : (k : ℕ) (qs : List Place) → IsDigitAt Symbol k qs → MoveHas (Some (transfer.Call k)) qs
call_has k qs h = record { is = h.is; fine = h.small }

pub transfer_found : (r : Rest) (seen : Operands) (x : Read (Option PatTransfer)) → transfer_in r seen ≡ Ok x
    → Found MoveHas seen x.value x.seen
unfolding transfer_in
transfer_found r seen x e = elim (chosen (says (codes "goto") r) _ _ _ e) [
  | inl (h, is) ↦ (let p = bind_ok (goto_in r seen) _ x is in
      subst (λ (y : Read (Option PatTransfer)). Found MoveHas seen y.value y.seen) (ok_is p.2)
      (found_as (IsDigitAt Label) MoveHas seen p.0.seen p.0.value (Some (transfer.Goto p.0.value)) (goto_has p.0.value)
      (goto_found r seen p.0 p.1)))
  | inr (h, is) ↦ elim (chosen (says (codes "call") r) _ _ _ is) [
    | inl (g, at) ↦ (let p = bind_ok (call_in r seen) _ x at in
        subst (λ (y : Read (Option PatTransfer)). Found MoveHas seen y.value y.seen) (ok_is p.2)
        (found_as (IsDigitAt Symbol) MoveHas seen p.0.seen p.0.value (Some (transfer.Call p.0.value))
        (call_has p.0.value) (call_found r seen p.0 p.1)))
    | inr (g, at) ↦ elim (chosen (says (codes "ret") r) _ _ _ at) [
      | inl (f, to) ↦ subst (λ (y : Read (Option PatTransfer)). Found MoveHas seen y.value y.seen) (ok_is to)
          (record { places = []; has = record { is = refl; fine = tt }; told = none_more seen })
      | inr (f, to) ↦ elim (chosen (says (codes "if") r) _ _ _ to) [
        | inl (d, by) ↦ if_found r seen x by
        | inr (d, by) ↦ setting_found r seen x by
      ]
    ]
  ]
]
