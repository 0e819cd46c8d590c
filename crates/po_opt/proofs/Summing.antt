-- Briefs that are taken together, one after another.
use Rattle.std.proofs.Common.{◌≡◌, ℕ, ◌+◌, List, [], ◌∷◌, ◌++◌, refl, sym, ◌∙◌, ap, subst, arith, append_assoc, append-nil}
use Rattle.std.proofs.lemmas.Grind.{flat_map-append}
use Rattle.std.proofs.lemmas.List.{map_push}
use Rattle.std.proofs.lemmas.List.Sums.{sum_by_push}
use Rattle.po_model.specs.declared.code.UnitCode.{UnitCode}
use Rattle.po_model.specs.declared.pair.Pair.{Pair}
use Rattle.po_tally.specs.declared.brief.Brief.{Brief}
use Rattle.po_tally.specs.declared.tally.Tally.{Tally}
use Rattle.po_tally.specs.Tallies.{AreJoined}
use Rattle.po_tally.proofs.Joining.{joined_self, joined_beside, joined_through}
use Rattle.po_team.specs.Works.{taken_in, dropped_in}
use Rattle.po_opt.specs.declared.works.Told.{Told}
use Rattle.po_opt.specs.Told.{codes_in, tallies_in, misses_in}

-- what all briefs hold together
pub record IsSum (briefs : List Brief) (t : Told) : Type 0 where
  pub codes : t.codes.items ≡ codes_in briefs
  pub tallies : AreJoined (tallies_in briefs) t.tallies.items
  pub misses : t.misses.items ≡ misses_in briefs
  pub taken : t.taken ≡ taken_in briefs
  pub dropped : t.dropped ≡ dropped_in briefs

-- one brief was put to others
pub record IsAdded (b : Brief) (s t : Told) : Type 0 where
  pub codes : t.codes.items ≡ s.codes.items ++ b.unit ∷ []
  pub tallies : AreJoined (s.tallies.items ++ b.tallies.items) t.tallies.items
  pub misses : t.misses.items ≡ s.misses.items ++ b.misses.items
  pub taken : t.taken ≡ s.taken + b.taken
  pub dropped : t.dropped ≡ s.dropped + b.dropped

tallies_more : (bs : List Brief) (b : Brief) → tallies_in bs ++ b.tallies.items ≡ tallies_in (bs ++ b ∷ [])
tallies_more bs b =
    ap (λ (ts : List Tally). tallies_in bs ++ ts) (sym (append-nil b.tallies.items))
    ∙ sym (flat_map-append (λ (c : Brief). c.tallies.items) bs (b ∷ []))

misses_more : (bs : List Brief) (b : Brief) → misses_in bs ++ b.misses.items ≡ misses_in (bs ++ b ∷ [])
misses_more bs b =
    ap (λ (ps : List Pair). misses_in bs ++ ps) (sym (append-nil b.misses.items))
    ∙ sym (flat_map-append (λ (c : Brief). c.misses.items) bs (b ∷ []))

sum_next : (bs : List Brief) (b : Brief) (s t : Told) → IsSum bs s → IsAdded b s t → IsSum (bs ++ b ∷ []) t
sum_next bs b s t i x = record {
  codes = x.codes ∙ ap (λ cs. cs ++ b.unit ∷ []) i.codes ∙ sym (map_push (λ (c : Brief). c.unit) bs b);
  tallies = subst (λ (ts : List Tally). AreJoined ts t.tallies.items) (tallies_more bs b)
      (joined_through (tallies_in bs ++ b.tallies.items) (s.tallies.items ++ b.tallies.items) t.tallies.items
      (joined_beside (tallies_in bs) b.tallies.items s.tallies.items b.tallies.items i.tallies
      (joined_self b.tallies.items)) x.tallies);
  misses = x.misses ∙ ap (λ ps. ps ++ b.misses.items) i.misses ∙ misses_more bs b;
  taken = omega (arith, x.taken, i.taken, sum_by_push (λ (c : Brief). c.taken) bs b);
  dropped = omega (arith, x.dropped, i.dropped, sum_by_push (λ (c : Brief). c.dropped) bs b);
}

-- the briefs are taken together, but for those that are still to come
pub record IsSumming (all rest : List Brief) (t : Told) : Type 0 where
  pub parts : List Brief
  pub whole : parts ++ rest ≡ all
  pub sum : IsSum parts t

pub summing_begin : (all rest : List Brief) (t : Told) → rest ≡ all → t.codes.items ≡ [] → t.tallies.items ≡ []
    → t.misses.items ≡ [] → t.taken ≡ 0 → t.dropped ≡ 0 → IsSumming all rest t
summing_begin all rest t e codes tallies misses taken dropped = record {
  parts = [];
  whole = e;
  sum = record {
    codes = codes;
    tallies = subst (AreJoined []) (sym tallies) (joined_self []);
    misses = misses;
    taken = taken;
    dropped = dropped;
  };
}

pub summing_next : (all rest more : List Brief) (b : Brief) (s t : Told) → IsSumming all rest s → rest ≡ b ∷ more
    → IsAdded b s t → IsSumming all more t
summing_next all rest more b s t i e x = record {
  parts = i.parts ++ b ∷ [];
  whole = append_assoc i.parts (b ∷ []) more ∙ ap (λ xs. i.parts ++ xs) (sym e) ∙ i.whole;
  sum = sum_next i.parts b s t i.sum x;
}

pub summing_end : (all rest : List Brief) (t : Told) → rest ≡ [] → IsSumming all rest t → IsSum all t
summing_end all rest t e i =
    subst (λ bs. IsSum bs t) (sym (append-nil i.parts) ∙ ap (λ xs. i.parts ++ xs) (sym e) ∙ i.whole) i.sum
