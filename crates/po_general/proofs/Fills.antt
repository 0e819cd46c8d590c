-- A pair that is a shape with values put in: what becomes of the pair is what becomes of the shape, with the values
-- put in.
use Rattle.std.proofs.Common.{◌≡◌, ℕ, Bool, true, false, List, map, refl, sym, ◌∙◌, ap, subst, ◌⊎◌, inl, inr}
use Rattle.std.specs.List.{list_any}
use Rattle.std.specs.Option.{option_map}
use Rattle.po_word.specs.Exprs.{Expr, expr_value}
use Rattle.po_term.specs.declared.term.Reg.{Reg as Register}
use Rattle.po_term.specs.declared.term.Sym.{Sym}
use Rattle.po_term.specs.declared.term.Label.{Label}
use Rattle.po_term.specs.Terms.{Place}
use Rattle.po_term.specs.MoveMap.{move_map}
use Rattle.po_term.specs.Kinds.{Met, exprs, words}
use Rattle.po_term.specs.Simplified.{reg_eq}
use Rattle.po_simplify.proofs.Follows.{met_map}
use Rattle.po_simplify.proofs.Instances.{values_carry, values_alike, same_carry, same_alike, same_asks, AnswerAlike}
use Rattle.po_model.specs.declared.machine.Machine.{Machine}
use Rattle.po_model.specs.declared.hole.PReg.{PReg}
use Rattle.po_model.specs.Machines.{IsMachine}
use Rattle.po_model.specs.Parts.{code_leaves}
use Rattle.po_model.specs.Joined.{is_control, joined}
use Rattle.po_model.specs.Pairs.{PlainPair, is_live_after}
use Rattle.po_model.specs.Combined.{Combination, Kept, Gone, AsOne, combined, combination}
use Rattle.po_model.specs.Holed.{HolePlace, InPReg, AtSymHole, HoleMove, HoleCombination, PlainValues, PlainShape}
use Rattle.po_model.specs.Put.{combination_map, put_register, put_symbol, put_place, put_label, put_move, put}
use Rattle.po_model.specs.Generalised.{hole_register_eq, hole_leaves, is_live_in, reading}
use Rattle.po_maps.proofs.Renames.{Renames}
use Rattle.po_maps.proofs.CombinedFollows.{combined-follows}
use Rattle.po_subst.proofs.Mapped.{moves_agree, moves_imply}
use Rattle.po_skel.proofs.Known.{register_itself, Stands}
use Rattle.po_skel.proofs.Stand.{StandIn}
use Rattle.po_skel.proofs.Live.{one_hole}
use Rattle.po_skel.proofs.Fills.{Fills}
use Rattle.po_general.proofs.Filling.{full_register, full_symbol, full_place, full_label}
use Rattle.po_general.proofs.Filling.{full_renames, registers_apart, register_put, symbol_put, place_put, label_put}
use Rattle.po_general.proofs.Standing.{same_moves, ResultStands, result_stands}
use Rattle.po_term.specs.Moves.{PlainMove}

module _ (s : PlainShape) (v : PlainValues) (p : PlainPair) (fills : Fills s v p) where
  abbrev full_move : HoleMove → PlainMove
  full_move m = move_map (expr_value v.consts) (full_place v) (full_register v) (full_symbol v) (full_label v) m

  full_put : (ms : List HoleMove) → StandIn v ms → map full_move ms ≡ map (put_move v) ms
  full_put ms h =
      moves_agree (expr_value v.consts) (expr_value v.consts) (full_place v) (put_place v) (full_register v)
      (put_register v) (full_symbol v) (put_symbol v) (full_label v) (put_label v) ms
      (moves_imply (λ e i. refl) (place_put v fills.proper) (register_put v fills.proper) (symbol_put v fills.proper)
      (label_put v fills.proper) ms h)

  live_full : (r : PReg) → is_live_after p (full_register v r) ≡ is_live_in s r
  live_full r = go (is_live_after p (full_register v r)) (is_live_in s r) refl refl
    where
      at : Stands v r → is_live_after p (full_register v r) ≡ is_live_in s r
      at h = ap (is_live_after p) (register_put v fills.proper r h) ∙ fills.live r h

      back : (q : PReg) × Stands v q × (put_register v q ≡ full_register v r) → Stands v r
      back (q, h, e) =
          let one : full_register v q ≡ full_register v r = register_put v fills.proper q h ∙ e in
          let test : hole_register_eq q r ≡ true = sym (registers_apart v fills.proper q r)
          ∙ ap (λ x. reg_eq x (full_register v r)) one ∙ register_itself (full_register v r) in
          subst (Stands v) (one_hole q r test) h

      go : (b c : Bool) → is_live_after p (full_register v r) ≡ b → is_live_in s r ≡ c
          → is_live_after p (full_register v r) ≡ is_live_in s r
      go b true e i = at (fills.lives r i)
      go true false e i = at (back (fills.named (full_register v r) e))
      go false false e i = e ∙ sym i

  result_put : (c : HoleCombination) → ResultStands v c → combination_map full_move c ≡ put v c
  result_put Kept h = refl
  result_put Gone h = refl
  result_put (AsOne ms) h = ap AsOne (full_put ms h)

  module _ (m : Machine) (is : IsMachine m) where
    full_combination : (combined words code_leaves m (is_live_after p) s.cc (map full_move s.a)
        (map full_move s.b)).got ≡ combination_map full_move (reading m v.consts s).got
    full_combination =
        ap (λ (x : Met ℕ (Combination ℕ Place Register Sym)). x.got)
        (combined-follows (exprs v.consts) words (λ e. expr_value v.consts e) (full_place v) (full_register v)
        (full_symbol v) (full_label v) hole_leaves code_leaves (values_carry v.consts)
        (full_renames v fills.proper) m is (is_live_in s) (is_live_after p) live_full s.cc s.a s.b
        (values_alike v.consts (reading m v.consts s).asked))

    -- the values are there for all that the result has
    pub result_filled : ResultStands v (reading m v.consts s).got
    result_filled = result_stands v m is s fills.first_stands fills.second_stands fills.lives

    -- where the first instruction has a transfer of control, both stay
    kept_pair : list_any is_control p.a ≡ true → combination m p ≡ Kept
    kept_pair h = rw (combination, combined, joined, h) refl

    kept_shape : list_any is_control s.a ≡ true → (reading m v.consts s).got ≡ Kept
    kept_shape h = rw (combined, joined, h) refl

    -- what becomes of the pair is what becomes of the shape
    pub combination_put : combination m p ≡ put v (reading m v.consts s).got
    combination_put = go fills.first
      where
        go : (map (put_move v) s.a ≡ p.a) ⊎ ((list_any is_control s.a ≡ true) × (list_any is_control p.a ≡ true))
            → combination m p ≡ put v (reading m v.consts s).got
        go (inl h) =
            ap (λ (b : Bool). (combined words code_leaves m (is_live_after p) b p.a p.b).got) fills.cc
            ∙ ap (λ (x : List PlainMove). (combined words code_leaves m (is_live_after p) s.cc x p.b).got)
            (sym (full_put s.a fills.first_stands ∙ h))
            ∙ ap (λ (x : List PlainMove).
            (combined words code_leaves m (is_live_after p) s.cc (map full_move s.a) x).got)
            (sym (full_put s.b fills.second_stands ∙ fills.second))
            ∙ full_combination
            ∙ result_put (reading m v.consts s).got result_filled
        go (inr h) = kept_pair h.1 ∙ sym (ap (put v) (kept_shape h.0))

-- constants that answer the questions alike meet the same questions, and get the same result

same_renames : Renames (λ (l : HolePlace). l) (λ (r : PReg). r) (λ (k : ℕ). k) (λ (l : Label). l) hole_leaves
    hole_leaves
same_renames = record {
  same_register = λ a b. refl;
  same_leaf = λ a b. refl;
  in_register = λ r. refl;
  register = regs_at;
  symbol = syms_at;
  is_fixed = λ q h r. refl;
  register_eq = λ r q. refl;
  symbol_eq = λ j k. refl;
  same_label = λ l m. refl;
}
  where
    regs_at : (l : HolePlace) → hole_leaves.register l ≡ option_map (λ r. r) (hole_leaves.register l)
    regs_at (InPReg r) = refl
    regs_at (AtSymHole k) = refl

    syms_at : (l : HolePlace) → hole_leaves.symbol l ≡ option_map (λ k. k) (hole_leaves.symbol l)
    syms_at (InPReg r) = refl
    syms_at (AtSymHole k) = refl

abbrev same_move : HoleMove → HoleMove
same_move m = move_map (λ c. c) (λ l. l) (λ r. r) (λ k. k) (λ l. l) m

same_combination : (c : HoleCombination) → combination_map same_move c ≡ c
same_combination Kept = refl
same_combination Gone = refl
same_combination (AsOne ms) = ap AsOne (same_moves ms)

same_reading : (x : Met Expr HoleCombination) → met_map (λ e. e) (combination_map same_move) x ≡ x
same_reading x = rw (same_combination x.got) (rw (same_asks x.asked))

pub reading_alike : (m : Machine) → IsMachine m → (s : PlainShape) (ws us : List ℕ)
    → AnswerAlike ws us (reading m ws s).asked → reading m us s ≡ reading m ws s
reading_alike m is s ws us h =
    sym (ap (λ (x : List HoleMove). combined (exprs us) hole_leaves m (is_live_in s) s.cc x s.b) (same_moves s.a))
    ∙ sym (ap (λ (x : List HoleMove). combined (exprs us) hole_leaves m (is_live_in s) s.cc (map same_move s.a) x)
    (same_moves s.b))
    ∙ combined-follows (exprs ws) (exprs us) (λ e. e) (λ l. l) (λ r. r) (λ k. k) (λ l. l) hole_leaves hole_leaves
    (same_carry ws us) same_renames m is (is_live_in s) (is_live_in s) (λ r. refl) s.cc s.a s.b
    (same_alike ws us (reading m ws s).asked h)
    ∙ same_reading (reading m ws s)
