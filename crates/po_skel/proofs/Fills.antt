-- A well-formed pair fills its own shape.
use Rattle.std.proofs.Common.{◌≡◌, ℕ, ◌+◌, Bool, true, false, List, [], ◌∷◌, map, refl, sym, ◌∙◌, subst, ◌⊎◌, inl, inr}
use Rattle.std.specs.List.{list_any}
use Rattle.po_term.specs.declared.term.Reg.{Reg as Register}
use Rattle.po_term.specs.Moves.{SetTo, CcTo, StoreTo, Ends, PlainMove}
use Rattle.po_model.specs.declared.hole.PReg.{PReg}
use Rattle.po_model.specs.Joined.{is_control}
use Rattle.po_model.specs.Pairs.{PlainPair, is_live_after, WellFormedPair}
use Rattle.po_model.specs.Holed.{PlainValues, PlainShape}
use Rattle.po_model.specs.Shape.{pair_values, pair_shape, move_constants, hole_register, hole_moves}
use Rattle.po_model.specs.Put.{put_register, put_move}
use Rattle.po_model.specs.Generalised.{is_live_in}
use Rattle.po_skel.proofs.Known.{Stands, register_stands, register_back, known_met}
use Rattle.po_skel.proofs.PutBack.{first_put, second_put}
use Rattle.po_skel.proofs.OneLabel.{goes_nowhere, goes_on}
use Rattle.po_skel.proofs.Stand.{StandIn, first_stand, second_stand}
use Rattle.po_skel.proofs.Apart.{Proper, pair_proper}
use Rattle.po_skel.proofs.Live.{live_known, live_of, lives_alike}

-- the pair is the shape with the values put in; where both instructions have a label, the first one's may be another
pub record Fills (s : PlainShape) (v : PlainValues) (p : PlainPair) : Type 0 where
  pub proper : Proper v
  pub first_stands : StandIn v s.a
  pub second_stands : StandIn v s.b
  pub first : (map (put_move v) s.a ≡ p.a) ⊎ ((list_any is_control s.a ≡ true) × (list_any is_control p.a ≡ true))
  pub second : map (put_move v) s.b ≡ p.b
  -- the same registers are live
  pub lives : (r : PReg) → is_live_in s r ≡ true → Stands v r
  pub live : (r : PReg) → Stands v r → is_live_after p (put_register v r) ≡ is_live_in s r
  pub named : (x : Register) → is_live_after p x ≡ true → (r : PReg) × Stands v r × (put_register v r ≡ x)
  pub cc : p.cc ≡ s.cc

control_kept : (w : PlainValues) (n : ℕ) (ms : List PlainMove) → list_any is_control (hole_moves w n ms)
    ≡ list_any is_control ms
control_kept w n [] = refl
control_kept w n (SetTo r t ∷ ms) = control_kept w (n + move_constants (SetTo r t)) ms
control_kept w n (CcTo t u ∷ ms) = control_kept w (n + move_constants (CcTo t u)) ms
control_kept w n (StoreTo t u ∷ ms) = control_kept w (n + move_constants (StoreTo t u)) ms
control_kept w n (Ends e ∷ ms) = refl

pub fills : (p : PlainPair) → WellFormedPair p → Fills (pair_shape p) (pair_values p) p
fills p formed = record {
  proper = pair_proper p;
  first_stands = first_stand p formed;
  second_stands = second_stand p formed;
  first = go (list_any is_control p.a) refl;
  second = second_put p (goes_on p formed);
  lives = λ q h. let r = live_of p formed q h in
      subst (Stands (pair_values p)) (sym r.3) (register_stands (pair_values p) r.0 r.2);
  live = lives_alike p formed;
  named = λ x h. let k = live_known p formed x h in (
    hole_register (pair_values p) x,
    register_stands (pair_values p) x k.0,
    register_back (pair_values p) x (known_met (pair_values p) x k.0),
  );
  cc = refl;
}
  where
    go : (b : Bool) → list_any is_control p.a ≡ b
        → (map (put_move (pair_values p)) (pair_shape p).a ≡ p.a)
        ⊎ ((list_any is_control (pair_shape p).a ≡ true) × (list_any is_control p.a ≡ true))
    go true e = inr (control_kept (pair_values p) 0 p.a ∙ e, e)
    go false e = inl (first_put p (goes_nowhere (pair_values p) p.a e))
