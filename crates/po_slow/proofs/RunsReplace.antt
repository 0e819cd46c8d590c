-- Instructions one after another: they read only what is live before them, and some may stand for others with the rest
-- of the block behind them.
use Rattle.std.proofs.Common.{◌≡◌, List, [], ◌∷◌, map, refl, sym, ◌∙◌, ap, subst}
use Rattle.std.specs.Prelude.{Option, Some, None, ⊤}
use Rattle.std.specs.Option.{option_map}
use Rattle.po_term.specs.Terms.{State, IsState}
use Rattle.po_term.specs.Form.{WellFormed}
use Rattle.po_model.specs.Blocks.{EndsLast}
use Rattle.po_model.specs.Parts.{ending_of}
use Rattle.po_model.specs.Effect.{Control, Next, Jump, Called, Returned, Effected, after, goes, effect}
use Rattle.po_model.specs.Run.{then_on, and_on, in_turn}
use Rattle.po_slow.proofs.Onto.{onto}
use Rattle.po_slow.proofs.RunsRead.{Variables, Passing, Agree, Alike, BeforeOne, instr_formed, LeavesWords, after_fits}
use Rattle.po_slow.proofs.RunsRead.{after_agree, effect_agree, effect_fits}
use Rattle.po_term.specs.Moves.{PlainInstr}

-- what these instructions do, one after another
abbrev pub doing : List PlainInstr → State → Option Effected
doing xs s = in_turn (map effect xs) s

-- what is live before these instructions, by what is live behind them
abbrev pub Back : List PlainInstr → Variables → Variables
Back [] L = L
Back (x ∷ xs) L = BeforeOne x (Back xs L)

abbrev pub AreFormed : List PlainInstr → Type 0
AreFormed [] = ⊤
AreFormed (x ∷ xs) = WellFormed x × AreFormed xs

-- none of them has a transfer of control
abbrev pub AreCalm : List PlainInstr → Type 0
AreCalm [] = ⊤
AreCalm (x ∷ xs) = (ending_of x ≡ None) × AreCalm xs

-- in each state of words they are alike behind
abbrev pub Replaces : Variables → List PlainInstr → List PlainInstr → Type 0
Replaces L xs ys = (s : State) → IsState s → Alike L (doing xs s) (doing ys s)

-- An instruction without a transfer of control

pub goes_next : (x : PlainInstr) → ending_of x ≡ None → (s : State) → goes s (ending_of x) ≡ Some Next
goes_next x n s = ap (λ e. goes s e) n

pub effect_next : (x : PlainInstr) → ending_of x ≡ None → (s : State)
    → effect x s ≡ Some (record { state = after s x; to = Next })
effect_next x n s = ap (λ o. option_map (λ c. record { state = after s x; to = c }) o) (goes_next x n s)

pub doing_next : (x : PlainInstr) → ending_of x ≡ None → (xs : List PlainInstr) (s : State)
    → doing (x ∷ xs) s ≡ doing xs (after s x)
doing_next x n xs s = ap (λ o. and_on (in_turn (map effect xs)) o) (effect_next x n s)

-- Reading

-- with nothing behind
pub alone : (o : Option Effected) → and_on (in_turn []) o ≡ o
alone None = refl
alone (Some d) = go d.to refl
  where
    go : (c : Control) → d.to ≡ c → then_on (in_turn []) d c ≡ Some d
    go Next e = ap (λ c. Some (record { state = d.state; to = c })) (sym e)
    go (Jump l) e = refl
    go (Called f ws) e = refl
    go (Returned w) e = refl

pub doing_agree : (L : Variables) (xs : List PlainInstr) (s t : State) → AreFormed xs → EndsLast xs
    → Agree (Back xs L) s t → Alike L (doing xs s) (doing xs t)
doing_agree L [] s t f k a = (refl, a)
doing_agree L (x ∷ []) s t f k a =
    rw (alone (effect x s), alone (effect x t)) (effect_agree x (instr_formed x f.0) L s t a)
doing_agree L (x ∷ y ∷ ys) s t f k a =
    rw (doing_next x k.0 (y ∷ ys) s, doing_next x k.0 (y ∷ ys) t)
    (doing_agree L (y ∷ ys) (after s x) (after t x) f.1 k.1
    (after_agree x (instr_formed x f.0) (Back (y ∷ ys) L) s t a Next (goes_next x k.0 s)))

-- the state that they leave is one of words
pub doing_fits : (xs : List PlainInstr) (s : State) → AreFormed xs → IsState s → LeavesWords (doing xs s)
doing_fits [] s f fits = fits
doing_fits (x ∷ xs) s f fits =
    go (effect x s) (effect_fits s fits x (instr_formed x f.0).0) (λ t h. doing_fits xs t f.1 h)
  where
    step : (d : Effected) (c : Control) → IsState d.state → LeavesWords (doing xs d.state)
        → LeavesWords (then_on (in_turn (map effect xs)) d c)
    step d Next g h = h
    step d (Jump l) g h = g
    step d (Called f ws) g h = g
    step d (Returned w) g h = g

    go : (o : Option Effected) → LeavesWords o → ((t : State) → IsState t → LeavesWords (doing xs t))
        → LeavesWords (and_on (in_turn (map effect xs)) o)
    go None g ih = tt
    go (Some d) g ih = step d d.to g (ih d.state g)

-- Replacement

-- control goes on, where something is behind
abbrev pub GoesOnTo : List PlainInstr → Option Effected → Type 0
GoesOnTo [] o = ⊤
GoesOnTo (r ∷ rs) None = ⊤
GoesOnTo (r ∷ rs) (Some d) = d.to ≡ Next

-- what is alike stays so with the rest of the block behind it
pub behind : (L : Variables) (rest : List PlainInstr) → AreFormed rest → EndsLast rest → (o p : Option Effected)
    → GoesOnTo rest o → Alike (Back rest L) o p
    → Alike L (and_on (in_turn (map effect rest)) o) (and_on (in_turn (map effect rest)) p)
behind L [] f k o p n a = rw (alone o, alone p) a
behind L (r ∷ rs) f k None None n a = tt
behind L (r ∷ rs) f k (Some d) (Some e) n a =
    let rest = map effect (r ∷ rs) in
    let m : e.to ≡ Next = sym a.0 ∙ n in
    let here : then_on (in_turn rest) d d.to ≡ in_turn rest d.state = ap (λ c. then_on (in_turn rest) d c) n in
    let there : then_on (in_turn rest) e e.to ≡ in_turn rest e.state = ap (λ c. then_on (in_turn rest) e c) m in
    rw (here, there) (doing_agree L (r ∷ rs) d.state e.state f k
    (subst (λ (c : Control). Agree (Passing c (Back (r ∷ rs) L)) d.state e.state) n a.1))
behind L (r ∷ rs) f k None (Some e) n a = absurd a
behind L (r ∷ rs) f k (Some d) None n a = absurd a

pub goes_on_to : (x : PlainInstr) (rest : List PlainInstr) → EndsLast (x ∷ rest) → (s : State)
    → GoesOnTo rest (effect x s)
goes_on_to x [] k s = tt
goes_on_to x (r ∷ rs) k s = rw (effect_next x k.0 s) refl

pub ends_rest : (x : PlainInstr) (xs : List PlainInstr) → EndsLast (x ∷ xs) → EndsLast xs
ends_rest x [] k = tt
ends_rest x (y ∷ ys) k = k.1

-- Behind the list of what is done, whose last comes first

pub ends_split : (ds : List PlainInstr) (x : PlainInstr) (xs : List PlainInstr) → EndsLast (onto ds (x ∷ xs))
    → AreCalm ds × EndsLast (x ∷ xs)
ends_split [] x xs k = (tt, k)
ends_split (d ∷ ds) x xs k = let ih = ends_split ds d (x ∷ xs) k in ((ih.1.0, ih.0), ih.1.1)

pub ends_onto : (ds xs : List PlainInstr) → AreCalm ds → EndsLast xs → EndsLast (onto ds xs)
ends_onto [] xs c k = k
ends_onto (d ∷ ds) xs c k = ends_onto ds (d ∷ xs) c.1 (go xs k)
  where
    go : (xs : List PlainInstr) → EndsLast xs → EndsLast (d ∷ xs)
    go [] k = tt
    go (x ∷ xs) k = (c.0, k)

pub formed_split : (ds xs : List PlainInstr) → AreFormed (onto ds xs) → AreFormed ds × AreFormed xs
formed_split [] xs f = (tt, f)
formed_split (d ∷ ds) xs f = let ih = formed_split ds (d ∷ xs) f in ((ih.1.0, ih.0), ih.1.1)

pub formed_onto : (ds xs : List PlainInstr) → AreFormed ds → AreFormed xs → AreFormed (onto ds xs)
formed_onto [] xs f g = g
formed_onto (d ∷ ds) xs f g = formed_onto ds (d ∷ xs) f.1 (f.0, g)

pub onto_replaces : (L : Variables) (ds xs ys : List PlainInstr) → AreFormed ds → AreCalm ds → Replaces L xs ys
    → Replaces L (onto ds xs) (onto ds ys)
onto_replaces L [] xs ys f c h = h
onto_replaces L (d ∷ ds) xs ys f c h =
    onto_replaces L ds (d ∷ xs) (d ∷ ys) f.1 c.1
    (λ s fits. rw (doing_next d c.0 xs s, doing_next d c.0 ys s)
    (h (after s d) (after_fits s fits d (instr_formed d f.0).0)))
