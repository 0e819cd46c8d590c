-- What was posted, miss after miss.
use Rattle.std.proofs.Common.{◌≡◌, ℕ, zero, suc, ◌+◌, ◌<◌, ◌≤◌, List, [], ◌∷◌, ◌++◌, length, map, take, get_or, refl}
use Rattle.std.proofs.Common.{sym, ◌∙◌, ap, subst, arith, append_assoc}
use Rattle.std.proofs.lemmas.List.{append-nil, length-append, length-map, map-append, get_or-map, take_more}
use Rattle.po_model.specs.declared.pair.Pair.{Pair}
use Rattle.std.specs.List.{All}
use Rattle.std.proofs.lemmas.List.Elements.{All-get_or}
use Rattle.po_model.specs.Pairs.{PlainPair, pair_of, WellFormedPair}
use Rattle.po_rule.specs.declared.post.Posted.{Posted}
use Rattle.po_rule.specs.declared.post.Posted.TheVariants.{Taken, Dropped}
use Rattle.po_rule.specs.Posts.{RoseBy, HasCause, with_posted}
use Rattle.po_crew.specs.declared.sent.Sent.{Sent}
use Rattle.po_crew.specs.Posted.{taken_of, drops, counted, ArePosted, IsPosted}

-- a count that rises by so many, and by more
pub rose_on : (n k a b c : ℕ) → RoseBy n a b → RoseBy k b c → RoseBy (n + k) a c
rose_on n k a b c h g = omega (arith, h, g)

pub not_risen : (a : ℕ) → RoseBy 0 a a
not_risen a = omega arith

-- what the post counts for one answer
pub full_by : (answer : Posted) (a b : ℕ) → HasCause answer a b → a ≤ b → RoseBy (drops (answer ∷ [])) a b
full_by Taken a b h le = omega arith
full_by Dropped a b h le = omega (arith, h)

pub pair_at : (ps : List Pair) (i : ℕ) (p : Pair) (q : PlainPair) → i < length ps → p ≡ get_or ps i p → q ≡ pair_of p
    → All WellFormedPair (map pair_of ps) → WellFormedPair q
pair_at ps i p q h e same a = subst WellFormedPair
    (get_or-map pair_of ps i p (pair_of p) h ∙ ap pair_of (sym e) ∙ sym same)
    (All-get_or WellFormedPair (map pair_of ps) i (pair_of p) (omega (arith, length-map ps pair_of)) a)

taken_append : (xs zs : List Posted) (ps qs : List PlainPair) → length xs ≡ length ps
    → taken_of (xs ++ zs) (ps ++ qs) ≡ taken_of xs ps ++ taken_of zs qs
taken_append [] zs [] qs e = refl
taken_append [] zs (p ∷ ps) qs e = absurd (omega (arith, e))
taken_append (a ∷ xs) zs [] qs e = absurd (omega (arith, e))
taken_append (Taken ∷ xs) zs (p ∷ ps) qs e = ap (λ rest. p ∷ rest) (taken_append xs zs ps qs (omega (arith, e)))
taken_append (Dropped ∷ xs) zs (p ∷ ps) qs e = taken_append xs zs ps qs (omega (arith, e))

drops_append : (xs zs : List Posted) → drops (xs ++ zs) ≡ drops xs + drops zs
drops_append [] zs = omega arith
drops_append (Taken ∷ xs) zs = drops_append xs zs
drops_append (Dropped ∷ xs) zs = omega (arith, drops_append xs zs)

pub posted_none : (before : List PlainPair) (fulls : ℕ) → ArePosted [] before before fulls fulls 0 0
posted_none before fulls = record {
  answers = [];
  each = refl;
  took = sym (append-nil before);
  taken_count = refl;
  dropped_count = refl;
  all = refl;
  full = not_risen fulls;
}

pub posted_append : (xs ys a b c : List PlainPair) (f g h t u d e : ℕ) → ArePosted xs a b f g t d
    → ArePosted ys b c g h u e → ArePosted (xs ++ ys) a c f h (t + u) (d + e)
posted_append xs ys a b c f g h t u d e x y =
    let taken : taken_of (x.answers ++ y.answers) (xs ++ ys) ≡ taken_of x.answers xs ++ taken_of y.answers ys =
    taken_append x.answers y.answers xs ys x.each in
    record {
      answers = x.answers ++ y.answers;
      each = omega (arith, x.each, y.each, length-append x.answers y.answers, length-append xs ys);
      took = y.took ∙ ap (λ zs. zs ++ taken_of y.answers ys) x.took
          ∙ append_assoc a (taken_of x.answers xs) (taken_of y.answers ys) ∙ ap (λ zs. a ++ zs) (sym taken);
      taken_count = omega (
        arith,
        x.taken_count,
        y.taken_count,
        ap length taken,
        length-append (taken_of x.answers xs) (taken_of y.answers ys),
      );
      dropped_count = omega (arith, x.dropped_count, y.dropped_count, drops_append x.answers y.answers);
      all = omega (arith, x.all, y.all, length-append xs ys);
      full = rose_on d e f g h x.full y.full;
    }

-- one miss, and the counts before and after it
pub record IsOne (p : PlainPair) (before after : List PlainPair) (fulls now : ℕ) (old new : Sent) : Type 0 where
  pub taken : ℕ
  pub dropped : ℕ
  pub posted : ArePosted (p ∷ []) before after fulls now taken dropped
  pub more_taken : new.taken ≡ old.taken + taken
  pub more_dropped : new.dropped ≡ old.dropped + dropped

one_by : (answer : Posted) (p : PlainPair) (a b : List PlainPair) (f g : ℕ) (old new : Sent)
    → b ≡ with_posted answer p a
    → new ≡ counted answer old → RoseBy (drops (answer ∷ [])) f g → IsOne p a b f g old new
one_by Taken p a b f g old new took counts full = record {
  taken = 1;
  dropped = 0;
  posted = record {
    answers = Taken ∷ [];
    each = refl;
    took = took;
    taken_count = refl;
    dropped_count = refl;
    all = refl;
    full = full;
  };
  more_taken = ap (λ c. c.taken) counts;
  more_dropped = ap (λ (c : Sent). c.dropped) counts ∙ omega arith;
}
one_by Dropped p a b f g old new took counts full = record {
  taken = 0;
  dropped = 1;
  posted = record {
    answers = Dropped ∷ [];
    each = refl;
    took = took ∙ sym (append-nil a);
    taken_count = refl;
    dropped_count = refl;
    all = refl;
    full = full;
  };
  more_taken = ap (λ (c : Sent). c.taken) counts ∙ omega arith;
  more_dropped = ap (λ (c : Sent). c.dropped) counts;
}

pub posted_one : (p : PlainPair) (a b : List PlainPair) (f g : ℕ) (old new : Sent) → IsPosted p a b f g old new
    → IsOne p a b f g old new
posted_one p a b f g old new h = one_by h.answer p a b f g old new h.took h.counts h.full

-- one miss of a list more
pub posted_more : (ps : List Pair) (i : ℕ) (p : Pair) (q : PlainPair) (a b c : List PlainPair) (f g h : ℕ)
    (old new : Sent)
    → i < length ps → p ≡ get_or ps i p → q ≡ pair_of p
    → ArePosted (map pair_of (take i ps)) a b f g old.taken old.dropped → IsPosted q b c g h old new
    → ArePosted (map pair_of (take (i + 1) ps)) a c f h new.taken new.dropped
posted_more ps i p q a b c f g h old new within at same before step =
    let one : IsOne q b c g h old new = posted_one q b c g h old new step in
    let list : map pair_of (take i ps) ++ q ∷ [] ≡ map pair_of (take (i + 1) ps) =
    ap (λ r. map pair_of (take i ps) ++ r ∷ []) same ∙ sym (map-append pair_of (take i ps) (p ∷ []))
    ∙ ap (map pair_of) (ap (λ y. take i ps ++ y ∷ []) at ∙ sym (take_more ps i p within)) in
    let both : ArePosted (map pair_of (take i ps) ++ q ∷ []) a c f h (old.taken + one.taken)
    (old.dropped + one.dropped) =
    posted_append (map pair_of (take i ps)) (q ∷ []) a b c f g h old.taken one.taken old.dropped one.dropped before
    one.posted in
    subst (λ (qs : List PlainPair). ArePosted qs a c f h new.taken new.dropped) list
    (subst (λ (n : ℕ). ArePosted (map pair_of (take i ps) ++ q ∷ []) a c f h n new.dropped) (sym one.more_taken)
    (subst (λ (n : ℕ). ArePosted (map pair_of (take i ps) ++ q ∷ []) a c f h (old.taken + one.taken) n)
    (sym one.more_dropped) both))
