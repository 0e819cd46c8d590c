-- The places of an entry may be read one after the other.
use Rattle.std.proofs.Common.{◌≡◌, ◌<◌, true, false, List, [], ◌∷◌, ◌++◌, length, length-append, append_assoc, get_or}
use Rattle.std.proofs.Common.{AllPairs, refl, sym, ◌∙◌, subst, arith, Option, Some, None, append-nil}
use Rattle.std.specs.Prelude.{⊤, Contains, All}
use Rattle.std.proofs.lemmas.List.Elements.{All-head, All-tail}
use Rattle.std.proofs.Math.ListN.{get_or-append}
use Rattle.std.proofs.Math.Seq.{get_or-append_seam}
use Rattle.po_term.specs.Tree as tree
use Rattle.po_model.specs.declared.machine.PatReg.{PatReg}
use Rattle.po_model.specs.declared.machine.PatReg.TheVariants.{Any, Fixed}
use Rattle.po_model.specs.Patterns.{PatTree, Exactly, Operand, InPatReg, AtSymbol, PatMove, SetsTo, Compares, Stores}
use Rattle.po_model.specs.Patterns.{Jumps, Branches, BranchesOn, Calls, Returns}
use Rattle.po_model.specs.Entries.{Sort, OfReg, OfNum, OfSym, OfLabel, Place, place, AgreesWith, IsPatReg, IsPatConst}
use Rattle.po_model.specs.Entries.{IsPatLeaf, IsPatTree, IsPatMove, reg_places, tree_places, move_places, places_of}
use Rattle.po_pattern.specs.declared.operands.Operands.{Operands}
use Rattle.po_pattern.specs.declared.operands.OperandKind.{OperandKind}
use Rattle.po_pattern.specs.declared.operands.OperandKind.TheVariants.{Register, Constant, Symbol, Label}
use Rattle.po_pattern.specs.Seen.{none_seen, kind_of, with_operand, same_kind, may_be, is_new}
use Rattle.po_pattern.proofs.Told.{sort_of, Tells, none_told, told_more}
use Rattle.po_entry.proofs.Noted.{kind_at, noted, MayStand, Fits}

-- digits are digits
abbrev pub AreSmall : List Place → Type 0
AreSmall [] = ⊤
AreSmall (p ∷ ps) = (p.digit < 10) × AreSmall ps

small_more : (ps qs : List Place) → AreSmall ps → AreSmall qs → AreSmall (ps ++ qs)
small_more [] qs h g = g
small_more (p ∷ ps) qs h g = (h.0, small_more ps qs h.1 g)

small_reg : (r : PatReg) → IsPatReg r → AreSmall (reg_places r)
small_reg (Any k) h = (h, tt)
small_reg (Fixed r) h = tt

small_tree : (t : PatTree) → tree.EachConst IsPatConst t → tree.EachLeaf IsPatLeaf t → AreSmall (tree_places t)
small_tree (tree.Const (Exactly n)) h g = tt
small_tree (tree.Const (Operand k range)) h g = (h.0, tt)
small_tree (tree.Leaf (InPatReg r)) h g = small_reg r g
small_tree (tree.Leaf (AtSymbol k)) h g = (g, tt)
small_tree (tree.Read a) h g = small_tree a h g
small_tree (tree.Unary o a) h g = small_tree a h g
small_tree (tree.Binary o a b) h g = small_more (tree_places a) (tree_places b) (small_tree a h.0 g.0)
    (small_tree b h.1 g.1)

small_term : (t : PatTree) → IsPatTree t → AreSmall (tree_places t)
small_term t h = small_tree t h.numbers.consts h.numbers.leaves

small_move : (m : PatMove) → IsPatMove m → AreSmall (move_places m)
small_move (SetsTo r t) h = small_more (reg_places r) (tree_places t) (small_reg r h.0) (small_term t h.2)
small_move (Compares t u) h = small_more (tree_places t) (tree_places u) (small_term t h.0) (small_term u h.1)
small_move (Stores t u) h = small_more (tree_places t) (tree_places u) (small_term t h.0) (small_term u h.1)
small_move (Jumps k) h = (h, tt)
small_move (Branches r k) h = (h, tt)
small_move (BranchesOn t u r k) h = small_more (tree_places t ++ tree_places u) (place k OfLabel false ∷ [])
    (small_more (tree_places t) (tree_places u) (small_term t h.0) (small_term u h.1)) (h.2, tt)
small_move (Calls k) h = (h, tt)
small_move Returns h = tt

pub small_moves : (ms : List PatMove) → All IsPatMove ms → AreSmall (places_of ms)
small_moves [] h = tt
small_moves (m ∷ ms) h = small_more (move_places m) (places_of ms) (small_move m (All-head IsPatMove m ms h))
    (small_moves ms (All-tail IsPatMove m ms h))

-- the kind of a sort, and back

sort_again : (s : Sort) → sort_of (kind_at s) ≡ s
sort_again OfReg = refl
sort_again OfNum = refl
sort_again OfSym = refl
sort_again OfLabel = refl

pub kind_again : (o : OperandKind) → same_kind o (kind_at (sort_of o)) ≡ true
kind_again Register = refl
kind_again Constant = refl
kind_again Symbol = refl
kind_again Label = refl

-- a place agrees with one before it
agree_with : (done todo : List Place) (p q : Place) → AllPairs AgreesWith (done ++ q ∷ todo) → Contains done p
    → AgreesWith p q
agree_with done todo p q pairs c =
    let long = length-append done (q ∷ todo) in
    let within = c.1 in
    let found : AgreesWith (get_or (done ++ q ∷ todo) c.0 p) (get_or (done ++ q ∷ todo) (length done) p) =
    pairs c.0 (length done) p within (omega (arith, long)) in
    let first : get_or (done ++ q ∷ todo) c.0 p ≡ p = get_or-append done (q ∷ todo) p c.0 within ∙ c.2 in
    let second : get_or (done ++ q ∷ todo) (length done) p ≡ q = get_or-append_seam done q todo p in
    subst (λ (x : Place). AgreesWith x q) first (subst (λ (x : Place). AgreesWith (get_or (done ++ q ∷ todo) c.0 p) x)
    second found)

stands : (seen : Operands) (done todo : List Place) (q : Place) → Tells seen done → AllPairs AgreesWith
    (done ++ q ∷ todo) → MayStand seen q
stands seen done todo q told pairs = record {
  may = may (kind_of seen q.digit) refl;
  new = λ r.
      fresh (kind_of seen q.digit) refl r;
}
  where
    may : (known : Option OperandKind) → kind_of seen q.digit ≡ known → may_be (kind_at q.sort) known ≡ true
    may None e = refl
    may (Some o) e =
        let a = told.told q.digit o e in
        let agree = agree_with done todo (place q.digit (sort_of o) a.ranged) q pairs a.among in
        let sorts : sort_of o ≡ q.sort = agree.one_sort refl in
        subst (λ (s : Sort). same_kind o (kind_at s) ≡ true) sorts (kind_again o)

    fresh : (known : Option OperandKind) → kind_of seen q.digit ≡ known → q.ranged ≡ true → is_new known ≡ true
    fresh None e r = refl
    fresh (Some o) e r =
        let a = told.told q.digit o e in
        let agree = agree_with done todo (place q.digit (sort_of o) a.ranged) q pairs a.among in
        let no : q.ranged ≡ false = agree.range_first refl in
        absurd (cc (sym r ∙ no))

told_next : (seen : Operands) (done : List Place) (q : Place) → q.digit < 10 → Tells seen done → MayStand seen q
    → Tells (with_operand seen (kind_at q.sort) q.digit) (done ++ q ∷ [])
told_next seen done q small told stand =
    subst (λ (s : Sort). Tells (with_operand seen (kind_at q.sort) q.digit) (done ++ place q.digit s q.ranged ∷ []))
    (sort_again q.sort) (told_more seen (kind_at q.sort) q.digit q.ranged done small stand.may stand.new told)

-- what may be read, and what it tells of
pub record Fitted (seen : Operands) (done todo : List Place) : Type 0 where
  pub fits : Fits seen todo
  pub told : Tells (noted seen todo) (done ++ todo)

pub all_fit : (todo done : List Place) (seen : Operands) → Tells seen done → AllPairs AgreesWith (done ++ todo)
    → AreSmall todo → Fitted seen done todo
all_fit [] done seen told pairs small = record {
  fits = tt;
  told = subst (λ (ps : List Place). Tells seen ps)
      (sym (append-nil done)) told;
}
all_fit (q ∷ todo) done seen told pairs small =
    let stand = stands seen done todo q told pairs in
    let same : done ++ q ∷ [] ++ todo ≡ done ++ (q ∷ todo) = append_assoc done (q ∷ []) todo in
    let rest = all_fit todo (done ++ q ∷ []) (with_operand seen (kind_at q.sort) q.digit)
    (told_next seen done q small.0 told stand) (subst (λ (ps : List Place). AllPairs AgreesWith ps) (sym same)
    pairs) small.1 in
    record {
      fits = (stand, rest.fits);
      told = subst (λ (ps : List Place). Tells (noted seen (q ∷ todo)) ps) same
          rest.told;
    }

-- the places of an entry may be read from the beginning on
pub from_none : (ps : List Place) → AllPairs AgreesWith ps → AreSmall ps → Fitted none_seen [] ps
from_none ps pairs small = all_fit ps [] none_seen none_told pairs small
