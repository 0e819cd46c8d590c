-- A pair with another choice of registers, symbols and labels has the same shape.
use Rattle.std.proofs.Common.{◌≡◌, ℕ, ◌+◌, Bool, true, false, List, [], ◌∷◌, ◌++◌, map, refl, sym, ◌∙◌, ap}
use Rattle.std.specs.Prelude.{if◌then◌else◌, filter, Some}
use Rattle.std.specs.List.{list_any, position_or_len}
use Rattle.std.specs.Option.{option_map}
use Rattle.po_simplify.proofs.Follows.{map-append}
use Rattle.po_term.specs.declared.term.Reg.{Reg as Register}
use Rattle.po_term.specs.declared.term.Reg.TheVariants.{Virt, Fp, Rv, Arg}
use Rattle.po_term.specs.declared.term.Sym.{Sym}
use Rattle.po_term.specs.Tree.{Tree, Const, Leaf, Read, Unary, Binary, tree_map}
use Rattle.po_term.specs.Terms.{Place, InReg, AtSym}
use Rattle.po_term.specs.Moves.{GoTo, IfCc, IfTwo, CallOf, Return, SetTo, CcTo, StoreTo, Ends, PlainMove}
use Rattle.po_term.specs.Simplified.{reg_eq}
use Rattle.po_model.specs.declared.hole.PReg.TheVariants.{Hole}
use Rattle.po_model.specs.Pairs.{PlainPair, is_live_after}
use Rattle.po_model.specs.Holed.{InPReg, AtSymHole, PlainValues}
use Rattle.po_model.specs.Shape.{meet_register, meet_symbol, meet_tree, meet_move, meet_moves}
use Rattle.po_model.specs.Shape.{constants, move_constants, moves_constants, hole_register, hole_symbol}
use Rattle.po_model.specs.Shape.{hole_tree, hole_move, hole_moves, live_holes, settable, nothing_met, pair_values}
use Rattle.po_model.specs.Shape.{pair_shape}
use Rattle.po_skel.specs.Renaming.{Choice, IsApart, chosen_register, chosen_symbol, chosen_label, chosen_place}
use Rattle.po_skel.specs.Renaming.{chosen_move, chosen_pair}
use Rattle.po_skel.proofs.Renamed.{one_register, one_symbol}
use Rattle.po_model.specs.Parts.{sym_eq}

module _ (c : Choice) (apart : IsApart c) where
  abbrev chosen_tree : Tree ℕ Place → Tree ℕ Place
  chosen_tree t = tree_map (λ k. k) (chosen_place c) t

  abbrev pub chosen_values : PlainValues → PlainValues
  chosen_values v =
      record {
        regs = map (chosen_register c) v.regs;
        syms = map (chosen_symbol c) v.syms;
        label =
            option_map (chosen_label c) v.label;
        consts = v.consts;
      }

  any_register : (r : Register) (rs : List Register)
      → list_any (reg_eq (chosen_register c r)) (map (chosen_register c) rs) ≡ list_any (reg_eq r) rs
  any_register r [] = refl
  any_register r (q ∷ rs) = rw (one_register c apart r q, any_register r rs) refl

  any_symbol : (s : Sym) (ss : List Sym) → list_any (sym_eq (chosen_symbol c s)) (map (chosen_symbol c) ss)
      ≡ list_any (sym_eq s) ss
  any_symbol s [] = refl
  any_symbol s (t ∷ ss) = rw (one_symbol c apart s t, any_symbol s ss) refl

  meets_register : (v : PlainValues) (r : Register) → meet_register (chosen_values v) (chosen_register c r)
      ≡ chosen_values (meet_register v r)
  meets_register v (Virt n) = rw (any_register (Virt n) v.regs) (go (list_any (reg_eq (Virt n)) v.regs))
    where
      go : (b : Bool)
          → (if b then chosen_values v else record (chosen_values v)
          { regs = map (chosen_register c) v.regs ++ Virt (c.register n) ∷ [] })
          ≡ chosen_values (if b then v else record v { regs = v.regs ++ Virt n ∷ [] })
      go true = refl
      go false =
          ap (λ rs. let w : PlainValues = record (chosen_values v) { regs = rs } in w)
          (sym (map-append (chosen_register c) v.regs (Virt n ∷ [])))
  meets_register v Fp = refl
  meets_register v Rv = refl
  meets_register v (Arg n) = refl

  meets_symbol : (v : PlainValues) (s : Sym) → meet_symbol (chosen_values v) (chosen_symbol c s)
      ≡ chosen_values (meet_symbol v s)
  meets_symbol v s = rw (any_symbol s v.syms) (go (list_any (sym_eq s) v.syms))
    where
      go : (b : Bool)
          → (if b then chosen_values v else record (chosen_values v)
          { syms = map (chosen_symbol c) v.syms ++ chosen_symbol c s ∷ [] })
          ≡ chosen_values (if b then v else record v { syms = v.syms ++ s ∷ [] })
      go true = refl
      go false =
          ap (λ ss. let w : PlainValues = record (chosen_values v) { syms = ss } in w)
          (sym (map-append (chosen_symbol c) v.syms (s ∷ [])))

  meets_tree : (v : PlainValues) (t : Tree ℕ Place)
      → meet_tree (chosen_values v) (chosen_tree t) ≡ chosen_values (meet_tree v t)
  meets_tree v (Const k) = refl
  meets_tree v (Leaf (InReg r)) = meets_register v r
  meets_tree v (Leaf (AtSym s)) = meets_symbol v s
  meets_tree v (Read t) = meets_tree v t
  meets_tree v (Unary o t) = meets_tree v t
  meets_tree v (Binary o t u) = ap (λ w. meet_tree w (chosen_tree u)) (meets_tree v t) ∙ meets_tree (meet_tree v t) u

  meets_two : (v : PlainValues) (t u : Tree ℕ Place)
      → meet_tree (meet_tree (chosen_values v) (chosen_tree t)) (chosen_tree u)
      ≡ chosen_values (meet_tree (meet_tree v t) u)
  meets_two v t u = ap (λ w. meet_tree w (chosen_tree u)) (meets_tree v t) ∙ meets_tree (meet_tree v t) u

  meets_move : (v : PlainValues) (m : PlainMove)
      → meet_move (chosen_values v) (chosen_move c m) ≡ chosen_values (meet_move v m)
  meets_move v (SetTo r t) =
      ap (λ w. meet_tree w (chosen_tree t)) (meets_register v r) ∙ meets_tree (meet_register v r) t
  meets_move v (CcTo t u) = meets_two v t u
  meets_move v (StoreTo t u) = meets_two v t u
  meets_move v (Ends (GoTo l)) = refl
  meets_move v (Ends (IfCc r l)) = refl
  meets_move v (Ends (IfTwo t u r l)) =
      ap (λ (w : PlainValues). let x : PlainValues = record w { label = Some (chosen_label c l) } in x)
      (meets_two v t u)
  meets_move v (Ends (CallOf s n)) = meets_symbol v s
  meets_move v (Ends Return) = refl

  pub meets_moves : (v : PlainValues) (ms : List PlainMove) → meet_moves (chosen_values v) (map (chosen_move c) ms)
      ≡ chosen_values (meet_moves v ms)
  meets_moves v [] = refl
  meets_moves v (m ∷ ms) =
      ap (λ w. meet_moves w (map (chosen_move c) ms)) (meets_move v m) ∙ meets_moves (meet_move v m) ms

  register_place : (r : Register) (rs : List Register)
      → position_or_len (reg_eq (chosen_register c r)) (map (chosen_register c) rs) ≡ position_or_len (reg_eq r) rs
  register_place r [] = refl
  register_place r (q ∷ rs) = rw (one_register c apart r q, register_place r rs) refl

  symbol_place : (s : Sym) (ss : List Sym) → position_or_len (sym_eq (chosen_symbol c s)) (map (chosen_symbol c) ss)
      ≡ position_or_len (sym_eq s) ss
  symbol_place s [] = refl
  symbol_place s (t ∷ ss) = rw (one_symbol c apart s t, symbol_place s ss) refl

  same_register_hole : (v : PlainValues) (r : Register) → hole_register (chosen_values v) (chosen_register c r)
      ≡ hole_register v r
  same_register_hole v (Virt n) = ap Hole (register_place (Virt n) v.regs)
  same_register_hole v Fp = refl
  same_register_hole v Rv = refl
  same_register_hole v (Arg n) = refl

  same_symbol_hole : (v : PlainValues) (s : Sym) → hole_symbol (chosen_values v) (chosen_symbol c s) ≡ hole_symbol v s
  same_symbol_hole v s = symbol_place s v.syms

  as_many : (t : Tree ℕ Place) → constants (chosen_tree t) ≡ constants t
  as_many (Const k) = refl
  as_many (Leaf l) = refl
  as_many (Read t) = as_many t
  as_many (Unary o t) = as_many t
  as_many (Binary o t u) = rw (as_many t, as_many u) refl

  same_tree : (v : PlainValues) (n : ℕ) (t : Tree ℕ Place)
      → hole_tree (chosen_values v) n (chosen_tree t) ≡ hole_tree v n t
  same_tree v n (Const k) = refl
  same_tree v n (Leaf (InReg r)) = ap (λ q. Leaf (InPReg q)) (same_register_hole v r)
  same_tree v n (Leaf (AtSym s)) = ap (λ k. Leaf (AtSymHole k)) (same_symbol_hole v s)
  same_tree v n (Read t) = ap (λ x. Read x) (same_tree v n t)
  same_tree v n (Unary o t) = ap (λ x. Unary o x) (same_tree v n t)
  same_tree v n (Binary o t u) = rw (as_many t, same_tree v n t, same_tree v (n + constants t) u) refl

  same_move : (v : PlainValues) (n : ℕ) (m : PlainMove)
      → hole_move (chosen_values v) n (chosen_move c m) ≡ hole_move v n m
  same_move v n (SetTo r t) = rw (same_register_hole v r, same_tree v n t) refl
  same_move v n (CcTo t u) = rw (as_many t, same_tree v n t, same_tree v (n + constants t) u) refl
  same_move v n (StoreTo t u) = rw (as_many t, same_tree v n t, same_tree v (n + constants t) u) refl
  same_move v n (Ends (GoTo l)) = refl
  same_move v n (Ends (IfCc r l)) = refl
  same_move v n (Ends (IfTwo t u r l)) = rw (as_many t, same_tree v n t, same_tree v (n + constants t) u) refl
  same_move v n (Ends (CallOf s k)) = ap (λ x. Ends (CallOf x k)) (same_symbol_hole v s)
  same_move v n (Ends Return) = refl

  move_as_many : (m : PlainMove) → move_constants (chosen_move c m) ≡ move_constants m
  move_as_many (SetTo r t) = as_many t
  move_as_many (CcTo t u) = rw (as_many t, as_many u) refl
  move_as_many (StoreTo t u) = rw (as_many t, as_many u) refl
  move_as_many (Ends (GoTo l)) = refl
  move_as_many (Ends (IfCc r l)) = refl
  move_as_many (Ends (IfTwo t u r l)) = rw (as_many t, as_many u) refl
  move_as_many (Ends (CallOf s n)) = refl
  move_as_many (Ends Return) = refl

  moves_as_many : (ms : List PlainMove) → moves_constants (map (chosen_move c) ms) ≡ moves_constants ms
  moves_as_many [] = refl
  moves_as_many (m ∷ ms) = rw (move_as_many m, moves_as_many ms) refl

  same_moves : (v : PlainValues) (n : ℕ) (ms : List PlainMove)
      → hole_moves (chosen_values v) n (map (chosen_move c) ms) ≡ hole_moves v n ms
  same_moves v n [] = refl
  same_moves v n (m ∷ ms) = rw (same_move v n m, move_as_many m, same_moves v (n + move_constants m) ms) refl

  -- the registers of a list that are live
  same_live : (v : PlainValues) (live chosen : Register → Bool)
      → ((r : Register) → chosen (chosen_register c r) ≡ live r) → (rs : List Register)
      → live_holes (chosen_values v) chosen (map (chosen_register c) rs) ≡ live_holes v live rs
  same_live v live chosen e [] = refl
  same_live v live chosen e (r ∷ rs) = rw (e r) (go (live r) (same_live v live chosen e rs))
    where
      go : (b : Bool) → live_holes (chosen_values v) chosen (map (chosen_register c) rs) ≡ live_holes v live rs
          → map (hole_register (chosen_values v))
          (if b then chosen_register c r ∷ filter chosen (map (chosen_register c) rs) else filter chosen
          (map (chosen_register c) rs)) ≡ map (hole_register v) (if b then r ∷ filter live rs else filter live rs)
      go true h = rw (same_register_hole v r) (ap (λ qs. hole_register v r ∷ qs) h)
      go false h = h

  same_values : (p : PlainPair) → pair_values (chosen_pair c p) ≡ chosen_values (pair_values p)
  same_values p =
      ap (λ w. meet_moves w (map (chosen_move c) p.b)) (meets_moves nothing_met p.a) ∙ meets_moves
      (meet_moves nothing_met p.a) p.b

  pub same_shape : (p : PlainPair) → pair_shape (chosen_pair c p) ≡ pair_shape p
  same_shape p =
      let v = pair_values p in
      rw (
        same_values p,
        same_moves v 0 p.a,
        moves_as_many p.a,
        same_moves v (moves_constants p.a) p.b,
        same_live v (is_live_after p) (is_live_after (chosen_pair c p)) (λ r. any_register r p.regs) v.regs,
        same_live v (is_live_after p) (is_live_after (chosen_pair c p)) (λ r. any_register r p.regs) settable,
      ) refl
