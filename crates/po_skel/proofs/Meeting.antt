-- The walk of a pair keeps what it has met, and adds behind it.
use Rattle.std.proofs.Common.{◌≡◌, ℕ, ◌+◌, Bool, true, false, List, [], ◌∷◌, ◌++◌, length, refl, append-nil}
use Rattle.std.proofs.Common.{sym, ◌∙◌, ap, arith}
use Rattle.std.specs.Prelude.{if◌then◌else◌, Some, IsSome}
use Rattle.std.specs.List.{list_any}
use Rattle.std.proofs.lemmas.List.{length-append, append_assoc}
use Rattle.po_term.specs.declared.term.Reg.{Reg as Register}
use Rattle.po_term.specs.declared.term.Reg.TheVariants.{Virt, Fp, Rv, Arg}
use Rattle.po_term.specs.declared.term.Sym.{Sym}
use Rattle.po_term.specs.declared.term.Label.{Label}
use Rattle.po_term.specs.Tree.{Tree, Const, Leaf, Read, Unary, Binary}
use Rattle.po_term.specs.Terms.{Place, InReg, AtSym}
use Rattle.po_term.specs.Moves.{GoTo, IfCc, IfTwo, CallOf, Return, SetTo, CcTo, StoreTo, Ends, PlainMove}
use Rattle.po_term.specs.Simplified.{reg_eq}
use Rattle.po_model.specs.Holed.{PlainValues}
use Rattle.po_model.specs.Shape.{meet_register, meet_symbol, meet_tree, meet_move, meet_moves, constants}
use Rattle.po_model.specs.Shape.{move_constants, moves_constants}
use Rattle.po_model.specs.Parts.{sym_eq}

-- What one thing more keeps, the walk keeps
module _ (Q : PlainValues → Type 0) (reg : (v : PlainValues) (r : Register) → Q v → Q (meet_register v r))
    (symb : (v : PlainValues) (s : Sym) → Q v → Q (meet_symbol v s)) (const : (v : PlainValues) (c : ℕ) → Q v
    → Q (record v { consts = v.consts ++ c ∷ [] })) (label : (v : PlainValues) (l : Label) → Q v
    → Q (record v { label = Some l })) where
  pub keeps_tree : (v : PlainValues) (t : Tree ℕ Place) → Q v → Q (meet_tree v t)
  keeps_tree v (Const c) q = const v c q
  keeps_tree v (Leaf (InReg r)) q = reg v r q
  keeps_tree v (Leaf (AtSym s)) q = symb v s q
  keeps_tree v (Read t) q = keeps_tree v t q
  keeps_tree v (Unary o t) q = keeps_tree v t q
  keeps_tree v (Binary o t u) q = keeps_tree (meet_tree v t) u (keeps_tree v t q)

  pub keeps_move : (v : PlainValues) (m : PlainMove) → Q v → Q (meet_move v m)
  keeps_move v (SetTo r t) q = keeps_tree (meet_register v r) t (reg v r q)
  keeps_move v (CcTo t u) q = keeps_tree (meet_tree v t) u (keeps_tree v t q)
  keeps_move v (StoreTo t u) q = keeps_tree (meet_tree v t) u (keeps_tree v t q)
  keeps_move v (Ends (GoTo l)) q = label v l q
  keeps_move v (Ends (IfCc r l)) q = label v l q
  keeps_move v (Ends (IfTwo t u r l)) q =
      label (meet_tree (meet_tree v t) u) l (keeps_tree (meet_tree v t) u (keeps_tree v t q))
  keeps_move v (Ends (CallOf s n)) q = symb v s q
  keeps_move v (Ends Return) q = q

  pub keeps_moves : (v : PlainValues) (ms : List PlainMove) → Q v → Q (meet_moves v ms)
  keeps_moves v [] q = q
  keeps_moves v (m ∷ ms) q = keeps_moves (meet_move v m) ms (keeps_move v m q)

-- w has what v has, and more behind it; it has a label where v has one
pub record Longer (v w : PlainValues) : Type 0 where
  pub regs : List Register
  pub syms : List Sym
  pub consts : List ℕ
  pub more_regs : w.regs ≡ v.regs ++ regs
  pub more_syms : w.syms ≡ v.syms ++ syms
  pub more_consts : w.consts ≡ v.consts ++ consts
  pub label : IsSome v.label → IsSome w.label

same_list : {X : Type 0} (xs : List X) → xs ≡ xs ++ []
same_list xs = sym (append-nil xs)

pub longer_self : (v : PlainValues) → Longer v v
longer_self v =
    record {
      regs = [];
      syms = [];
      consts = [];
      more_regs = same_list v.regs;
      more_syms = same_list v.syms;
      more_consts = same_list v.consts;
      label = λ h. h;
    }

joins : {X : Type 0} (u v w xs ys : List X) → v ≡ u ++ xs → w ≡ v ++ ys → w ≡ u ++ (xs ++ ys)
joins u v w xs ys e f = f ∙ ap (λ zs. zs ++ ys) e ∙ append_assoc u xs ys

pub longer_then : (u v w : PlainValues) → Longer u v → Longer v w → Longer u w
longer_then u v w h k = record {
  regs = h.regs ++ k.regs;
  syms = h.syms ++ k.syms;
  consts = h.consts ++ k.consts;
  more_regs = joins u.regs v.regs w.regs h.regs k.regs h.more_regs k.more_regs;
  more_syms = joins u.syms v.syms w.syms h.syms k.syms h.more_syms k.more_syms;
  more_consts = joins u.consts v.consts w.consts h.consts k.consts h.more_consts k.more_consts;
  label = λ i. k.label (h.label i);
}

pub register_longer : (v : PlainValues) (r : Register) → Longer v (meet_register v r)
register_longer v (Virt n) = go (list_any (reg_eq (Virt n)) v.regs)
  where
    go : (b : Bool) → Longer v (if b then v else record v { regs = v.regs ++ Virt n ∷ [] })
    go true = longer_self v
    go false =
        record {
          regs = Virt n ∷ [];
          syms = [];
          consts = [];
          more_regs = refl;
          more_syms = same_list v.syms;
          more_consts = same_list v.consts;
          label = λ h. h;
        }
register_longer v Fp = longer_self v
register_longer v Rv = longer_self v
register_longer v (Arg n) = longer_self v

pub symbol_longer : (v : PlainValues) (s : Sym) → Longer v (meet_symbol v s)
symbol_longer v s = go (list_any (sym_eq s) v.syms)
  where
    go : (b : Bool) → Longer v (if b then v else record v { syms = v.syms ++ s ∷ [] })
    go true = longer_self v
    go false =
        record {
          regs = [];
          syms = s ∷ [];
          consts = [];
          more_regs = same_list v.regs;
          more_syms = refl;
          more_consts = same_list v.consts;
          label = λ h. h;
        }

const_longer : (v : PlainValues) (c : ℕ) → Longer v (record v { consts = v.consts ++ c ∷ [] })
const_longer v c =
    record {
      regs = [];
      syms = [];
      consts = c ∷ [];
      more_regs = same_list v.regs;
      more_syms = same_list v.syms;
      more_consts = refl;
      label = λ h. h;
    }

module _ (v : PlainValues) where
  register_after : (w : PlainValues) (r : Register) → Longer v w → Longer v (meet_register w r)
  register_after w r h = longer_then v w (meet_register w r) h (register_longer w r)

  symbol_after : (w : PlainValues) (s : Sym) → Longer v w → Longer v (meet_symbol w s)
  symbol_after w s h = longer_then v w (meet_symbol w s) h (symbol_longer w s)

  const_after : (w : PlainValues) (c : ℕ) → Longer v w → Longer v (record w { consts = w.consts ++ c ∷ [] })
  const_after w c h = longer_then v w (record w { consts = w.consts ++ c ∷ [] }) h (const_longer w c)

  label_after : (w : PlainValues) (l : Label) → Longer v w → Longer v (record w { label = Some l })
  label_after w l h =
      record {
        regs = h.regs;
        syms = h.syms;
        consts = h.consts;
        more_regs = h.more_regs;
        more_syms = h.more_syms;
        more_consts = h.more_consts;
        label = λ i. refl;
      }

  pub tree_longer : (t : Tree ℕ Place) → Longer v (meet_tree v t)
  tree_longer t = keeps_tree (Longer v) register_after symbol_after const_after label_after v t (longer_self v)

  pub move_longer : (m : PlainMove) → Longer v (meet_move v m)
  move_longer m = keeps_move (Longer v) register_after symbol_after const_after label_after v m (longer_self v)

  pub moves_longer : (ms : List PlainMove) → Longer v (meet_moves v ms)
  moves_longer ms = keeps_moves (Longer v) register_after symbol_after const_after label_after v ms (longer_self v)

-- What is longer than the end of a walk is longer than each place on it

pub after_register : (w v : PlainValues) (r : Register) (t : Tree ℕ Place) → Longer (meet_tree (meet_register w r) t) v
    → Longer (meet_register w r) v
after_register w v r t h =
    longer_then (meet_register w r) (meet_tree (meet_register w r) t) v (tree_longer (meet_register w r) t) h

pub after_first : (w v : PlainValues) (t u : Tree ℕ Place) → Longer (meet_tree (meet_tree w t) u) v
    → Longer (meet_tree w t) v
after_first w v t u h =
    longer_then (meet_tree w t) (meet_tree (meet_tree w t) u) v (tree_longer (meet_tree w t) u) h

pub after_move : (w v : PlainValues) (m : PlainMove) (ms : List PlainMove) → Longer (meet_moves (meet_move w m) ms) v
    → Longer (meet_move w m) v
after_move w v m ms h =
    longer_then (meet_move w m) (meet_moves (meet_move w m) ms) v (moves_longer (meet_move w m) ms) h

pub before_label : (w v : PlainValues) (l : Label) → Longer (record w { label = Some l }) v → Longer w v
before_label w v l h =
    record {
      regs = h.regs;
      syms = h.syms;
      consts = h.consts;
      more_regs = h.more_regs;
      more_syms = h.more_syms;
      more_consts = h.more_consts;
      label = λ i. h.label refl;
    }

-- Each constant is added

pub register_consts : (v : PlainValues) (r : Register) → (meet_register v r).consts ≡ v.consts
register_consts v (Virt n) = go (list_any (reg_eq (Virt n)) v.regs)
  where
    go : (b : Bool) → (if b then v else record v { regs = v.regs ++ Virt n ∷ [] }).consts ≡ v.consts
    go true = refl
    go false = refl
register_consts v Fp = refl
register_consts v Rv = refl
register_consts v (Arg n) = refl

symbol_consts : (v : PlainValues) (s : Sym) → (meet_symbol v s).consts ≡ v.consts
symbol_consts v s = go (list_any (sym_eq s) v.syms)
  where
    go : (b : Bool) → (if b then v else record v { syms = v.syms ++ s ∷ [] }).consts ≡ v.consts
    go true = refl
    go false = refl

tree_consts : (v : PlainValues) (t : Tree ℕ Place) → length (meet_tree v t).consts ≡ length v.consts + constants t
tree_consts v (Const c) = length-append v.consts (c ∷ [])
tree_consts v (Leaf (InReg r)) = let e = ap length (register_consts v r) in omega arith
tree_consts v (Leaf (AtSym s)) = let e = ap length (symbol_consts v s) in omega arith
tree_consts v (Read t) = tree_consts v t
tree_consts v (Unary o t) = tree_consts v t
tree_consts v (Binary o t u) = let a = tree_consts v t in let b = tree_consts (meet_tree v t) u in omega arith

two_consts : (v : PlainValues) (t u : Tree ℕ Place)
    → length (meet_tree (meet_tree v t) u).consts ≡ length v.consts + (constants t + constants u)
two_consts v t u = let a = tree_consts v t in let b = tree_consts (meet_tree v t) u in omega arith

move_consts : (v : PlainValues) (m : PlainMove) → length (meet_move v m).consts ≡ length v.consts + move_constants m
move_consts v (SetTo r t) =
    tree_consts (meet_register v r) t ∙ ap (λ n. n + constants t) (ap length (register_consts v r))
move_consts v (CcTo t u) = two_consts v t u
move_consts v (StoreTo t u) = two_consts v t u
move_consts v (Ends (GoTo l)) = omega arith
move_consts v (Ends (IfCc r l)) = omega arith
move_consts v (Ends (IfTwo t u r l)) = two_consts v t u
move_consts v (Ends (CallOf s n)) = let e = ap length (symbol_consts v s) in omega arith
move_consts v (Ends Return) = omega arith

pub moves_consts : (v : PlainValues) (ms : List PlainMove)
    → length (meet_moves v ms).consts ≡ length v.consts + moves_constants ms
moves_consts v [] = omega arith
moves_consts v (m ∷ ms) = let a = move_consts v m in let b = moves_consts (meet_move v m) ms in omega arith

-- the number of the next constant behind a term, a transfer

pub next_of_register : (w : PlainValues) (n : ℕ) (r : Register) → n ≡ length w.consts
    → n ≡ length (meet_register w r).consts
next_of_register w n r e = e ∙ sym (ap length (register_consts w r))

pub next_of_tree : (w : PlainValues) (n : ℕ) (t : Tree ℕ Place) → n ≡ length w.consts
    → n + constants t ≡ length (meet_tree w t).consts
next_of_tree w n t e = ap (λ k. k + constants t) e ∙ sym (tree_consts w t)

pub next_of_move : (w : PlainValues) (n : ℕ) (m : PlainMove) → n ≡ length w.consts
    → n + move_constants m ≡ length (meet_move w m).consts
next_of_move w n m e = ap (λ k. k + move_constants m) e ∙ sym (move_consts w m)
