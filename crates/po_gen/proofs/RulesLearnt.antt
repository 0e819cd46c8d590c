-- A list gets the rules of pairs.
use Rattle.std.proofs.Common.{◌≡◌, ℕ, ◌+◌, ◌<◌, List, [], ◌∷◌, ◌++◌, length, get_or, take, map, All, Some}
use Rattle.std.proofs.Common.{ap, sym, ◌∙◌, subst, arith, inl, inr, append_assoc, append-nil}
use Rattle.std.specs.List.{Contains}
use Rattle.std.specs.Prelude.{slice_get}
use Rattle.std.proofs.lemmas.List.{length-map, get_or-map, map-append, take_more}
use Rattle.std.proofs.lemmas.Option.{slice_get_within, get_or_from_slice_get}
use Rattle.std.proofs.lemmas.List.Elements.{All-nil, All-get_or, All-cons, All-head, All-append, All-weaker}
use Rattle.std.proofs.lemmas.List.Elements.{All-contains, All-contains_itself, Contains-append_left}
use Rattle.std.proofs.lemmas.List.Elements.{Contains-append_right}
use Rattle.std.proofs.Math.Seq.{take-length}
use Rattle.po_model.specs.declared.machine.Machine.{Machine}
use Rattle.po_model.specs.declared.pair.Pair.{Pair}
use Rattle.po_model.specs.Generalised.{generalised}
use Rattle.po_model.specs.Holed.{PlainRule}
use Rattle.po_model.specs.Pairs.{PlainPair, pair_of, WellFormedPair}
use Rattle.po_rule.specs.Adding.{Added}
use Rattle.po_gen.specs.Learnt.{rules_for, HasRules, Learns, PutsIn}

pub rules_append : (m : Machine) (ps qs : List PlainPair) → rules_for m (ps ++ qs) ≡ rules_for m ps ++ rules_for m qs
rules_append m ps qs = map-append (generalised m) ps qs

pub learns_none : (m : Machine) (rs : List PlainRule) → Learns m rs rs []
learns_none m rs = λ ps h. subst (λ (ps : List PlainPair). HasRules m ps rs) (sym (append-nil ps)) h

pub learns_append : (m : Machine) (a b c : List PlainRule) (ps qs : List PlainPair) → Learns m a b ps → Learns m b c qs
    → Learns m a c (ps ++ qs)
learns_append m a b c ps qs f g = λ xs h.
    subst (λ (ys : List PlainPair). HasRules m ys c) (append_assoc xs ps qs) (g (xs ++ ps) (f xs h))

-- a list gets the rules of pairs where it keeps its own, has those of the pairs, and has no others
pub learns_so : (m : Machine) (rs after : List PlainRule) (qs : List PlainPair) → All (Contains after) rs
    → All (Contains after) (rules_for m qs) → All (Contains (rs ++ rules_for m qs)) after → Learns m rs after qs
learns_so m rs after qs kept more only = λ ps h.
    let P = rules_for m ps in
    let Q = rules_for m qs in
    let each : All (Contains after) (P ++ Q) = All-append (Contains after) P Q
    (All-weaker (Contains rs) (Contains after) (λ x c. All-contains (Contains after) rs x kept c) P h.each) more in
    let inside : All (Contains (P ++ Q)) (rs ++ Q) = All-append (Contains (P ++ Q)) rs Q
    (All-weaker (Contains P) (Contains (P ++ Q)) (λ x c. Contains-append_left P Q x c) rs h.only)
    (All-weaker (Contains Q) (Contains (P ++ Q)) (λ x c. Contains-append_right P Q x c) Q (All-contains_itself Q)) in
    let no_others : All (Contains (P ++ Q)) after = All-weaker (Contains (rs ++ Q)) (Contains (P ++ Q))
    (λ x c. All-contains (Contains (P ++ Q)) (rs ++ Q) x inside c) after only in
    record {
      each = subst (All (Contains after)) (sym (rules_append m ps qs)) each;
      only = subst (λ (ys : List PlainRule). All (Contains ys) after) (sym (rules_append m ps qs)) no_others;
    }

itself : (r : PlainRule) → Contains (r ∷ []) r
itself r = All-head (Contains (r ∷ [])) r [] (All-contains_itself (r ∷ []))

-- a rule that is put into a list is learned
pub learns_one : (m : Machine) (rs after : List PlainRule) (p : PlainPair) → PutsIn rs (generalised m p) after
    → Learns m rs after (p ∷ [])
learns_one m rs after p (inl (e, c)) =
    let r = generalised m p in
    let here : Learns m rs rs (p ∷ []) = learns_so m rs rs (p ∷ []) (All-contains_itself rs)
    (All-cons (Contains rs) r [] c (All-nil (Contains rs)))
    (All-weaker (Contains rs) (Contains (rs ++ r ∷ [])) (λ x d. Contains-append_left rs (r ∷ []) x d) rs
    (All-contains_itself rs)) in
    subst (λ (a : List PlainRule). Learns m rs a (p ∷ [])) (sym e) here
learns_one m rs after p (inr e) =
    let r = generalised m p in
    let all = rs ++ r ∷ [] in
    let here : Learns m rs all (p ∷ []) = learns_so m rs all (p ∷ [])
    (All-weaker (Contains rs) (Contains all) (λ x d. Contains-append_left rs (r ∷ []) x d) rs (All-contains_itself rs))
    (All-cons (Contains all) r [] (Contains-append_right rs (r ∷ []) r (itself r)) (All-nil (Contains all)))
    (All-contains_itself all) in
    subst (λ (a : List PlainRule). Learns m rs a (p ∷ [])) (sym e) here

-- one more of the pairs of a list
pub learns_next : (m n : Machine) (ps : List Pair) (i : ℕ) (p : Pair) (a b c : List PlainRule) → i < length ps
    → p ≡ get_or ps i p → n ≡ m → Learns m a b (map pair_of (take i ps)) → PutsIn b (generalised n (pair_of p)) c
    → Learns m a c (map pair_of (take (i + 1) ps))
learns_next m n ps i p a b c small is e f put =
    let one : Learns m b c (pair_of p ∷ []) =
    learns_one m b c (pair_of p) (subst (λ (k : Machine). PutsIn b (generalised k (pair_of p)) c) e put) in
    let same : map pair_of (take (i + 1) ps) ≡ map pair_of (take i ps) ++ pair_of p ∷ [] =
    ap (map pair_of) (take_more ps i p small ∙ ap (λ (q : Pair). take i ps ++ q ∷ []) (sym is))
    ∙ map-append pair_of (take i ps) (p ∷ []) in
    subst (Learns m a c) (sym same)
    (learns_append m a b c (map pair_of (take i ps)) (pair_of p ∷ []) f one)

pub learns_whole : (m : Machine) (ps : List Pair) (i : ℕ) (a b : List PlainRule) → i ≡ length ps
    → Learns m a b (map pair_of (take i ps)) → Learns m a b (map pair_of ps)
learns_whole m ps i a b e f = subst (λ (qs : List Pair). Learns m a b (map pair_of qs))
    (ap (λ (i : ℕ). take i ps) e ∙ take-length ps) f

contains_at : (rs : List PlainRule) (k : ℕ) (r : PlainRule) → slice_get rs k ≡ Some r → Contains rs r
contains_at rs k r e = (k, slice_get_within rs k r e, get_or_from_slice_get rs k r _ e)

pub pair_at : (ps : List Pair) (i : ℕ) (p : Pair) → i < length ps → p ≡ get_or ps i p
    → All WellFormedPair (map pair_of ps) → WellFormedPair (pair_of p)
pair_at ps i p h e a = subst WellFormedPair (get_or-map pair_of ps i p (pair_of p) h ∙ ap pair_of (sym e))
    (All-get_or WellFormedPair (map pair_of ps) i (pair_of p) (omega (arith, length-map ps pair_of)) a)

pub put_known : (rs after : List PlainRule) (r : PlainRule) (place : ℕ) → after ≡ rs → slice_get rs place ≡ Some r
    → PutsIn rs r after
put_known rs after r place e f = inl (e, contains_at rs place r f)

pub put_new : (m n : Machine) (rs after : List PlainRule) (r : PlainRule) → Added m rs n r after → PutsIn rs r after
put_new m n rs after r h = inr h.behind
