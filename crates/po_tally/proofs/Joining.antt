-- Tallies that are put to others, one after another.
use Rattle.std.proofs.Common.{◌≡◌, ℕ, zero, suc, ◌+◌, ◌<◌, ◌⊎◌, inl, inr, List, [], ◌∷◌, ◌++◌, length, map, refl}
use Rattle.std.proofs.Common.{sym, ◌∙◌, ap, subst, arith, append_assoc, append-nil, get_or}
use Rattle.std.proofs.Math.ListN.{set}
use Rattle.std.specs.Prelude.{slice_get, Some}
use Rattle.std.specs.List.{All, Contains, sum_by}
use Rattle.std.proofs.Math.Seq.{map-set_same}
use Rattle.std.proofs.lemmas.List.{length-map, map-append, get_or-map}
use Rattle.std.proofs.lemmas.List.Sums.{sum_by_push, sum_by-append, sum_by-set}
use Rattle.std.proofs.lemmas.Option.{slice_get_within, get_or_from_slice_get}
use Rattle.po_model.specs.Holed.{PlainRule}
use Rattle.po_model.specs.Learning.{PlainHit}
use Rattle.po_fore.specs.Reports.{hit_of}
use Rattle.po_tally.specs.declared.tally.Tally.{Tally}
use Rattle.po_tally.specs.Tallies.{hit_in, rule_in, count_in, total, IsPut, AreJoined}
use Rattle.po_tally.proofs.Covers.{Covers, covers_self, covers_left, covers_right, covers_both, covers_beside}
use Rattle.po_tally.proofs.Covers.{covers_through, covers_one}

-- the rules are those of the hits
pub rules_of : (xs : List Tally) → map rule_in xs ≡ map (λ (h : PlainHit). h.rule) (map hit_in xs)
rules_of [] = refl
rules_of (x ∷ xs) = ap (λ rs. rule_in x ∷ rs) (rules_of xs)

same_rules : (xs ys : List Tally) → map hit_in xs ≡ map hit_in ys → map rule_in xs ≡ map rule_in ys
same_rules xs ys e = rules_of xs ∙ ap (map (λ (h : PlainHit). h.rule)) e ∙ sym (rules_of ys)

contains_at : (rs : List PlainRule) (k : ℕ) (r : PlainRule) → slice_get rs k ≡ Some r → Contains rs r
contains_at rs k r e = (k, slice_get_within rs k r e, get_or_from_slice_get rs k r r e)

-- what stands at a place within a list doesn't depend on what stands for a place behind it
same_at : (ts : List Tally) (k : ℕ) (d e : Tally) → k < length ts → get_or ts k d ≡ get_or ts k e
same_at [] k d e h = absurd (omega arith)
same_at (t ∷ ts) zero d e h = refl
same_at (t ∷ ts) (suc k) d e h = same_at ts k d e (omega arith)

-- the hits of a tally are counted with those at a place, where u stands, and v as it is read again
pub counted_at : (old : List Tally) (t u v : Tally) (place : ℕ) (s : Tally)
    → slice_get (map rule_in old) place ≡ Some (rule_in t) → u ≡ get_or old place u → v ≡ get_or old place v
    → s.hit ≡ v.hit → s.more ≡ u.more + t.more + 1 → IsPut old t (set old place s)
counted_at old t u v place s at here again hit more =
    let far : place < length (map rule_in old) = slice_get_within (map rule_in old) place (rule_in t) at in
    let within : place < length old = omega (arith, far, length-map old rule_in) in
    let same : u.more ≡ (get_or old place v).more =
    ap (λ (x : Tally). x.more) (here ∙ same_at old place u v within) in
    record {
      hits = inl (
        map-set_same hit_in old place s v (ap hit_of (hit ∙ ap (λ (x : Tally). x.hit) again)),
        contains_at (map rule_in old) place (rule_in t) at,
      );
      count = omega (arith, sum_by-set count_in old place s v within, more, same);
    }

pub pushed : (old new : List Tally) (t : Tally) → new ≡ old ++ t ∷ [] → IsPut old t new
pushed old new t e = record {
  hits = inr e;
  count = ap total e ∙ sum_by_push count_in old t;
}

pub joined_self : (xs : List Tally) → AreJoined xs xs
joined_self xs = record {
  each = covers_self (map hit_in xs);
  all = covers_self (map rule_in xs);
  count = refl;
}

pub joined_through : (xs ys zs : List Tally) → AreJoined xs ys → AreJoined ys zs → AreJoined xs zs
joined_through xs ys zs h k = record {
  each = covers_through (map hit_in zs) (map hit_in ys) (map hit_in xs) k.each h.each;
  all = covers_through (map rule_in xs) (map rule_in ys) (map rule_in zs) h.all k.all;
  count = k.count ∙ h.count;
}

pub joined_beside : (xs ys us vs : List Tally) → AreJoined xs us → AreJoined ys vs → AreJoined (xs ++ ys) (us ++ vs)
joined_beside xs ys us vs h k = record {
  each = subst (λ hs. Covers hs (map hit_in (xs ++ ys))) (sym (map-append hit_in us vs))
      (subst (Covers (map hit_in us ++ map hit_in vs)) (sym (map-append hit_in xs ys))
      (covers_beside (map hit_in us) (map hit_in vs) (map hit_in xs) (map hit_in ys) h.each k.each));
  all = subst (λ rs. Covers rs (map rule_in (us ++ vs))) (sym (map-append rule_in xs ys))
      (subst (Covers (map rule_in xs ++ map rule_in ys)) (sym (map-append rule_in us vs))
      (covers_beside (map rule_in xs) (map rule_in ys) (map rule_in us) (map rule_in vs) h.all k.all));
  count = omega (arith, h.count, k.count, sum_by-append count_in xs ys, sum_by-append count_in us vs);
}

-- a tally is counted in what it was put to
put_joined : (old new : List Tally) (t : Tally) → IsPut old t new → AreJoined (old ++ t ∷ []) new
put_joined old new t p = by p.hits where
  by : ((map hit_in new ≡ map hit_in old) × Contains (map rule_in old) (rule_in t)) ⊎ (new ≡ old ++ t ∷ [])
      → AreJoined (old ++ t ∷ []) new
  by (inl (same, known)) = record {
    each = subst (λ hs. Covers hs (map hit_in (old ++ t ∷ []))) (sym same)
        (subst (Covers (map hit_in old)) (sym (map-append hit_in old (t ∷ [])))
        (covers_left (map hit_in old) (map hit_in old) (hit_in t ∷ []) (covers_self (map hit_in old))));
    all = subst (λ rs. Covers (map rule_in (old ++ t ∷ [])) rs) (sym (same_rules new old same))
        (subst (λ rs. Covers rs (map rule_in old)) (sym (map-append rule_in old (t ∷ [])))
        (covers_both (map rule_in old) (rule_in t ∷ []) (map rule_in old) (covers_self (map rule_in old))
        (covers_one (rule_in t) (map rule_in old) known)));
    count = omega (arith, p.count, sum_by_push count_in old t);
  }
  by (inr e) = subst (AreJoined (old ++ t ∷ [])) (sym e) (joined_self (old ++ t ∷ []))

-- one tally more
pub joined_next : (parts old new : List Tally) (t : Tally) → AreJoined parts old → IsPut old t new
    → AreJoined (parts ++ t ∷ []) new
joined_next parts old new t h p =
    joined_through (parts ++ t ∷ []) (old ++ t ∷ []) new
    (joined_beside parts (t ∷ []) old (t ∷ []) h (joined_self (t ∷ []))) (put_joined old new t p)

-- tallies were put to others, but for those that are still to come
pub record AreJoining (all rest now : List Tally) : Type 0 where
  pub parts : List Tally
  pub whole : parts ++ rest ≡ all
  pub joined : AreJoined parts now

pub joining_begin : (first more rest : List Tally) → rest ≡ more → AreJoining (first ++ more) rest first
joining_begin first more rest e = record {
  parts = first;
  whole = ap (λ xs. first ++ xs) e;
  joined = joined_self first;
}

pub joining_next : (all rest more old new : List Tally) (t : Tally) → AreJoining all rest old → rest ≡ t ∷ more
    → IsPut old t new → AreJoining all more new
joining_next all rest more old new t j e p = record {
  parts = j.parts ++ t ∷ [];
  whole = append_assoc j.parts (t ∷ []) more ∙ ap (λ xs. j.parts ++ xs) (sym e) ∙ j.whole;
  joined = joined_next j.parts old new t j.joined p;
}

pub joining_end : (all rest now : List Tally) → rest ≡ [] → AreJoining all rest now → AreJoined all now
joining_end all rest now e j =
    subst (λ ts. AreJoined ts now) (sym (append-nil j.parts) ∙ ap (λ xs. j.parts ++ xs) (sym e) ∙ j.whole) j.joined
