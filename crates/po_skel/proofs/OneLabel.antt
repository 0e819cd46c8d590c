-- Two well-formed instructions, of which the first has no transfer of control, go to one label, if to any.
use Rattle.std.proofs.Common.{◌≡◌, ℕ, false, List, [], ◌∷◌, AllPairs, refl, arith}
use Rattle.std.specs.List.{list_any}
use Rattle.std.proofs.lemmas.List.Elements.{All-head}
use Rattle.po_term.specs.declared.term.Sym.{Sym}
use Rattle.po_term.specs.Terms.{Place}
use Rattle.po_term.specs.Moves.{Ending, GoTo, IfCc, IfTwo, CallOf, Return, SetTo, CcTo, StoreTo, Ends, PlainMove}
use Rattle.po_term.specs.Form.{GoesBefore}
use Rattle.po_term.proofs.FormLemmas.{pairs_more}
use Rattle.po_model.specs.Joined.{is_control}
use Rattle.po_model.specs.Pairs.{PlainPair, WellFormedPair}
use Rattle.po_model.specs.Holed.{PlainValues}
use Rattle.po_model.specs.Shape.{meet_ending, meet_move, meet_moves, nothing_met, pair_values}
use Rattle.po_skel.specs.Labels.{EndsAt, AllGoTo, HasOneLabel}

pub goes_nowhere : (v : PlainValues) (ms : List PlainMove) → list_any is_control ms ≡ false → AllGoTo v ms
goes_nowhere v [] h = tt
goes_nowhere v (SetTo r t ∷ ms) h = (tt, goes_nowhere v ms h)
goes_nowhere v (CcTo t u ∷ ms) h = (tt, goes_nowhere v ms h)
goes_nowhere v (StoreTo t u ∷ ms) h = (tt, goes_nowhere v ms h)
goes_nowhere v (Ends e ∷ ms) h = absurd (cc h)

ends_there : (w : PlainValues) (e : Ending ℕ Place Sym) → EndsAt (meet_ending w e) e
ends_there w (GoTo l) = refl
ends_there w (IfCc r l) = refl
ends_there w (IfTwo t u r l) = refl
ends_there w (CallOf s n) = tt
ends_there w Return = tt

-- a transfer of control is the last one
is_last : (e : Ending ℕ Place Sym) (n : PlainMove) → GoesBefore (Ends e) n → ⊥
is_last e (SetTo r t) h = let k = h.in_order in omega arith
is_last e (CcTo t u) h = let k = h.in_order in omega arith
is_last e (StoreTo t u) h = let k = h.in_order in omega arith
is_last e (Ends f) h = let k = h.once refl in omega arith

goes_there : (w : PlainValues) (ms : List PlainMove) → AllPairs GoesBefore ms → AllGoTo (meet_moves w ms) ms
goes_there w [] h = tt
goes_there w (SetTo r t ∷ ms) h =
    (tt, goes_there (meet_move w (SetTo r t)) ms ((pairs_more GoesBefore (SetTo r t) ms).0 h).1)
goes_there w (CcTo t u ∷ ms) h =
    (tt, goes_there (meet_move w (CcTo t u)) ms ((pairs_more GoesBefore (CcTo t u) ms).0 h).1)
goes_there w (StoreTo t u ∷ ms) h =
    (tt, goes_there (meet_move w (StoreTo t u)) ms ((pairs_more GoesBefore (StoreTo t u) ms).0 h).1)
goes_there w (Ends e ∷ []) h = (ends_there w e, tt)
goes_there w (Ends e ∷ n ∷ ms) h =
    absurd (is_last e n (All-head (GoesBefore (Ends e)) n ms ((pairs_more GoesBefore (Ends e) (n ∷ ms)).0 h).0))

-- the second instruction goes to its own label
pub goes_on : (p : PlainPair) → WellFormedPair p → AllGoTo (pair_values p) p.b
goes_on p h = goes_there (meet_moves nothing_met p.a) p.b h.second.pairs

pub one_label : (p : PlainPair) → WellFormedPair p → list_any is_control p.a ≡ false → HasOneLabel p
one_label p h none = (goes_nowhere (pair_values p) p.a none, goes_on p h)
