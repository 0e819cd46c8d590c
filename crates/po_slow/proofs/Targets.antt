-- The registers that instructions set and that are live, one instruction after the other.
use Rattle.std.proofs.Common.{◌≡◌, ℕ, ◌+◌, ◌<◌, Bool, true, false, List, [], ◌∷◌, ◌++◌, length, take, get_or, All}
use Rattle.std.proofs.Common.{IsTrue, Some, refl, sym, ◌∙◌, ap}
use Rattle.std.specs.Prelude.{◌||◌, is_some, if◌then◌else◌}
use Rattle.std.specs.BTreeSet.{insert_key}
use Rattle.std.proofs.lemmas.List.{map_more}
use Rattle.std.proofs.lemmas.List.Elements.{All-nil}
use Rattle.std.proofs.lemmas.Map.Views.{All-insert_key}
use Rattle.po_term.specs.contracts.term.RegOrd.TheImpl.{cmp-value}
use Rattle.po_term.specs.Tree.{Tree}
use Rattle.po_term.specs.Terms.{Place, InReg}
use Rattle.po_term.specs.Simplified.{reg_eq}
use Rattle.po_term.specs.Form.{WellFormed}
use Rattle.po_term.specs.declared.term.Reg.{Reg as Register}
use Rattle.po_term.specs.declared.transfer.Transfer.{Transfer}
use Rattle.po_term.specs.Moves.{SetTo, CcTo, StoreTo, Ends, move_of, moves_of, PlainMove, PlainInstr}
use Rattle.po_model.specs.declared.var.Var.{Var}
use Rattle.po_model.specs.declared.var.Var.TheVariants.{Reg}
use Rattle.po_model.specs.Parts.{code_leaves, right_at}
use Rattle.po_model.specs.Pairs.{WellFormedPair, is_set_in}
use Rattle.po_model.specs.Scanned.{Ahead, put_live, pair_with}
use Rattle.po_subst.proofs.Agreeing.{reg_self}

put_append : (live : Var → Bool) (xs ys : PlainInstr) (rs : List Register)
    → put_live live (xs ++ ys) rs ≡ put_live live ys (put_live live xs rs)
put_append live [] ys rs = refl
put_append live (SetTo r t ∷ xs) ys rs = put_append live xs ys _
put_append live (CcTo t u ∷ xs) ys rs = put_append live xs ys rs
put_append live (StoreTo t u ∷ xs) ys rs = put_append live xs ys rs
put_append live (Ends e ∷ xs) ys rs = put_append live xs ys rs

-- those of one transfer more
pub put_more : (live : Var → Bool) (ts : List Transfer) (i : ℕ) (t : Transfer) (rs : List Register) → i < length ts
    → t ≡ get_or ts i t
    → put_live live (moves_of (take (i + 1) ts)) rs
    ≡ put_live live (move_of t ∷ []) (put_live live (moves_of (take i ts)) rs)
put_more live ts i t rs h e =
    ap (λ ms. put_live live ms rs)
    (map_more move_of ts i t h ∙ ap (λ x. moves_of (take i ts) ++ move_of x ∷ []) (sym e))
    ∙ put_append live (moves_of (take i ts)) (move_of t ∷ []) rs

-- Each of them is set

set_here : (r : Register) (t : Tree ℕ Place) (ms : PlainInstr) → IsTrue (is_set_in (SetTo r t ∷ ms) r)
set_here r t ms = rw (reg_self r) refl

set_later : (m : PlainMove) (ms : PlainInstr) (r : Register) → IsTrue (is_set_in ms r) → IsTrue (is_set_in (m ∷ ms) r)
set_later (SetTo q t) ms r h = go (reg_eq r q)
  where
    go : (same : Bool) → IsTrue (is_some (if same then Some t else right_at code_leaves (InReg r) ms))
    go true = refl
    go false = h
set_later (CcTo t u) ms r h = h
set_later (StoreTo t u) ms r h = h
set_later (Ends e) ms r h = h

put_all : (P : Register → Type 0) (live : Var → Bool) (ms : PlainInstr) (rs : List Register) → All P rs
    → ((r : Register) → IsTrue (is_set_in ms r) → P r) → All P (put_live live ms rs)
put_all P live [] rs h f = h
put_all P live (SetTo r t ∷ ms) rs h f =
    put_all P live ms _ (go (live (Reg r))) (λ q s. f q (set_later (SetTo r t) ms q s))
  where
    go : (b : Bool) → All P (if b then insert_key cmp-value.it rs r else rs)
    go true = All-insert_key cmp-value.it r P rs h (f r (set_here r t ms))
    go false = h
put_all P live (CcTo t u ∷ ms) rs h f = put_all P live ms rs h (λ q s. f q (set_later (CcTo t u) ms q s))
put_all P live (StoreTo t u ∷ ms) rs h f = put_all P live ms rs h (λ q s. f q (set_later (StoreTo t u) ms q s))
put_all P live (Ends e ∷ ms) rs h f = put_all P live ms rs h (λ q s. f q (set_later (Ends e) ms q s))

or_left : (a b : Bool) → IsTrue a → IsTrue (a || b)
or_left true b h = refl
or_left false b h = absurd (cc)

or_right : (a b : Bool) → IsTrue b → IsTrue (a || b)
or_right true b h = refl
or_right false b h = h

-- a pair of a scan is well formed where its instructions are
pub pair_well_formed : (d : PlainInstr) (x : Ahead) → WellFormed d → WellFormed x.instr
    → WellFormedPair (pair_with d x)
pair_well_formed d x a b =
    let P : Register → Type 0 = λ r. IsTrue (is_set_in d r || is_set_in x.instr r) in
    record {
      first = a;
      second = b;
      set =
          put_all P x.live x.instr (put_live x.live d [])
          (put_all P x.live d [] (All-nil P) (λ r s. or_left (is_set_in d r) (is_set_in x.instr r) s))
          (λ r s. or_right (is_set_in d r) (is_set_in x.instr r) s);
    }
