-- Hits that are looked up once more, tally after tally.
use Rattle.std.proofs.Common.{◌≡◌, ℕ, ◌+◌, ◌⊎◌, List, [], ◌∷◌, ◌++◌, length, map, refl, sym, ◌∙◌, ap, subst, arith}
use mathlib.Core.Logic.{inl, inr}
use Rattle.std.specs.List.{All, Contains, sum_by}
use Rattle.std.proofs.lemmas.List.{length-append, map_push}
use Rattle.std.proofs.lemmas.List.Elements.{All-nil, All-head, All-tail, All-push, All-contains}
use Rattle.std.proofs.lemmas.List.Sums.{sum_by-cons, sum_by_push}
use Rattle.po_model.specs.declared.machine.Machine.{Machine}
use Rattle.po_model.specs.declared.pair.Pair.{Pair}
use Rattle.po_model.specs.Canonical.{Canonical}
use Rattle.po_model.specs.Holed.{PlainRule}
use Rattle.po_model.specs.Lookups.{AreCanonical, FitsRule}
use Rattle.po_model.specs.Pairs.{PlainPair, pair_of, WellFormedPair}
use Rattle.po_fore.specs.declared.report.Hit.{Hit}
use Rattle.po_rule.specs.Posts.{RoseBy}
use Rattle.po_crew.specs.Posted.{ArePosted, taken_of}
use Rattle.po_crew.proofs.Posting.{not_risen, rose_on}
use Rattle.po_tally.specs.declared.tally.Tally.{Tally}
use Rattle.po_tally.specs.Tallies.{count_in, total}
use Rattle.po_opt.specs.declared.relook.Relooked.{Relooked}
use Rattle.po_opt.specs.Told.{IsHit, IsTally}
use Rattle.po_opt.specs.Relooked.{HasRule, IsFound, IsLost, ArePut, IsAdded, AreRelooking, AreRelooked, AreSeen}

-- a canonical rule that is found for the pair of a hit is the hit's rule
pub found_rule : (m : Machine) (rules : List PlainRule) (h : Hit) (r : PlainRule) → AreCanonical m rules → IsHit m h
    → FitsRule rules (pair_of h.pair) r → HasRule rules h
found_rule m rules h r canonical hit fits =
    subst (Contains rules)
    (sym ((All-contains (Canonical m) rules r canonical fits.listed).rule (pair_of h.pair) hit.formed fits.instance)
    ∙ sym hit.rule) fits.listed

-- a copy of a well-formed pair behind others
pub formed_push : (old new : List Pair) (p : Pair) (q : PlainPair) → new ≡ old ++ p ∷ [] → pair_of p ≡ q
    → WellFormedPair q → All WellFormedPair (map pair_of old) → All WellFormedPair (map pair_of new)
formed_push old new p q e same formed all =
    subst (All WellFormedPair) (sym (ap (map pair_of) e ∙ map_push pair_of old p))
    (All-push WellFormedPair (map pair_of old) (pair_of p) all (subst WellFormedPair (sym same) formed))

-- Misses that were posted

pub put_posted : (misses before after : List PlainPair) (fulls now taken dropped : ℕ)
    → ArePosted misses before after fulls now taken dropped → ArePut before after fulls now taken dropped
put_posted misses before after fulls now taken dropped p = record {
  took = omega (arith, ap length p.took, length-append before (taken_of p.answers misses), p.taken_count);
  full = p.full;
}

put_on : (a b c : List PlainPair) (f g h t d u e : ℕ) → ArePut a b f g t d → ArePut b c g h u e
    → ArePut a c f h (t + u) (d + e)
put_on a b c f g h t d u e p q = record {
  took = omega (arith, p.took, q.took);
  full = rose_on d e f g h p.full q.full;
}

-- All tallies

abbrev pair_in : Tally → Pair
pair_in t = t.hit.pair

abbrev one_hit : Tally → Hit
one_hit t = t.hit

module _ (m : Machine) (rules : List PlainRule) (old : List Tally) where
  abbrev Has : Tally → Type 0
  Has t = HasRule rules t.hit

  pub relooking_begin : (rest : List Tally) (done : Relooked) (before : List PlainPair) (fulls : ℕ) → rest ≡ old
      → done.hits.items ≡ [] → done.found ≡ 0 → done.lost.items ≡ [] → done.taken ≡ 0 → done.dropped ≡ 0
      → All (IsTally m) old → AreRelooking m rules old rest done before before fulls fulls
  relooking_begin rest done before fulls all hits found lost taken dropped are = record {
    founds = [];
    losts = [];
    same = λ weight. omega (arith, ap (sum_by weight) all);
    coming = subst (All (IsTally m)) (sym all) are;
    are = All-nil (IsTally m);
    has = All-nil Has;
    hits = hits;
    lost = lost;
    found = found;
    misses = omega (arith, taken, dropped);
    put = record {
      took = omega (arith, taken);
      full = subst (λ n. RoseBy n fulls fulls) (sym dropped) (not_risen fulls);
    };
  }

  module _ (rest more : List Tally) (t : Tally) (done next : Relooked) (a b c : List PlainPair) (f g h : ℕ)
      (i : AreRelooking m rules old rest done a b f g) (e : rest ≡ t ∷ more) where
    coming : All (IsTally m) (t ∷ more)
    coming = subst (All (IsTally m)) e i.coming

    next_found : HasRule rules t.hit → IsFound t done next → c ≡ b → h ≡ g
        → AreRelooking m rules old more next a c f h
    next_found has x puts fulls = record {
      founds = i.founds ++ t ∷ [];
      losts = i.losts;
      same = λ weight. omega (
        arith,
        i.same weight,
        ap (sum_by weight) e,
        sum_by-cons weight t more,
        sum_by_push weight i.founds t,
      );
      coming = All-tail (IsTally m) t more coming;
      are = i.are;
      has = All-push Has i.founds t i.has has;
      hits = x.hits ∙ ap (λ hs. hs ++ t.hit ∷ []) i.hits ∙ sym (map_push one_hit i.founds t);
      lost = x.lost ∙ i.lost;
      found = omega (arith, x.found, i.found, sum_by_push count_in i.founds t);
      misses = omega (arith, x.taken, x.dropped, i.misses);
      put = subst (λ ps. ArePut a ps f h next.taken next.dropped) (sym puts)
          (subst (λ n. ArePut a b f n next.taken next.dropped) (sym fulls)
          (subst (λ n. ArePut a b f g n next.dropped) (sym x.taken)
          (subst (λ n. ArePut a b f g done.taken n) (sym x.dropped) i.put)));
    }

    next_lost : (taken dropped : ℕ) → IsLost t taken dropped done next → taken + dropped ≡ count_in t
        → ArePut b c g h taken dropped → AreRelooking m rules old more next a c f h
    next_lost taken dropped x sum put = record {
      founds = i.founds;
      losts = i.losts ++ t ∷ [];
      same = λ weight. omega (
        arith,
        i.same weight,
        ap (sum_by weight) e,
        sum_by-cons weight t more,
        sum_by_push weight i.losts t,
      );
      coming = All-tail (IsTally m) t more coming;
      are = All-push (IsTally m) i.losts t i.are (All-head (IsTally m) t more coming);
      has = i.has;
      hits = x.hits ∙ i.hits;
      lost = x.lost ∙ ap (λ ps. ps ++ t.hit.pair ∷ []) i.lost ∙ sym (map_push pair_in i.losts t);
      found = omega (arith, x.found, i.found);
      misses = omega (arith, x.taken_is, x.dropped_is, i.misses, sum, sum_by_push count_in i.losts t);
      put = subst (λ n. ArePut a c f h n next.dropped) (sym x.taken_is)
          (subst (λ n. ArePut a c f h (done.taken + taken) n) (sym x.dropped_is)
          (put_on a b c f g h done.taken done.dropped taken dropped i.put put));
    }

    pub relooking_next : IsAdded rules t done next b c g h → AreRelooking m rules old more next a c f h
    relooking_next (inl (has, x, puts, fulls)) = next_found has x puts fulls
    relooking_next (inr (taken, dropped, x, sum, put)) = next_lost taken dropped x sum put

  pub relooking_end : (rest : List Tally) (done : Relooked) (a b : List PlainPair) (f g : ℕ) → rest ≡ []
      → AreRelooking m rules old rest done a b f g → AreRelooked m rules old done a b f g
  relooking_end rest done a b f g e i = subst (λ (ts : List Tally). AreRelooking m rules old ts done a b f g) e i

  pub seen_again : (done : Relooked) (a b : List PlainPair) (f g : ℕ) → AreRelooked m rules old done a b f g
      → AreSeen m rules old done
  seen_again done a b f g r = record {
    founds = r.founds;
    losts = r.losts;
    same = λ weight.
        let whole : sum_by weight r.founds + sum_by weight r.losts + 0 ≡ sum_by weight old = r.same weight in
        omega (arith, whole);
    are = r.are;
    has = r.has;
    hits = r.hits;
    lost = r.lost;
    found = r.found;
    misses = r.misses;
  }
