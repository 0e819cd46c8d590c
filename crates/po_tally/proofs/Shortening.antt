-- The tries of some blocks, one block after another.
use Rattle.std.proofs.Common.{◌≡◌, List, [], ◌∷◌, ◌++◌, map, refl, sym, ◌∙◌, ap, subst, append_assoc, append-nil}
use Rattle.std.proofs.lemmas.Grind.{flat_map-append}
use Rattle.std.proofs.lemmas.List.{map-append}
use Rattle.po_model.specs.declared.pair.Pair.{Pair}
use Rattle.po_fore.specs.declared.report.Hit.{Hit}
use Rattle.po_fore.specs.declared.report.BlockReport.{BlockReport}
use Rattle.po_tally.specs.declared.tally.Tally.{Tally}
use Rattle.po_tally.specs.declared.brief.Short.{Short}
use Rattle.po_tally.specs.Tallies.{tally_of, AreJoined}
use Rattle.po_tally.specs.Briefs.{hits_in, missed_in, AreShort}
use Rattle.po_tally.proofs.Joining.{joined_self, joined_beside, joined_through}

-- the tries of these reports are told, but for those that are still to come
pub record AreShortening (all rest : List BlockReport) (s : Short) : Type 0 where
  pub parts : List BlockReport
  pub whole : parts ++ rest ≡ all
  pub short : AreShort parts s

pub shortening_begin : (all rest : List BlockReport) (s : Short) → rest ≡ all → s.tallies.items ≡ []
    → s.misses.items ≡ [] → AreShortening all rest s
shortening_begin all rest s e none no_miss = record {
  parts = [];
  whole = e;
  short = record {
    tallies = subst (AreJoined []) (sym none) (joined_self []);
    misses = no_miss;
  };
}

hits_more : (rs : List BlockReport) (r : BlockReport)
    → map tally_of (hits_in rs) ++ map tally_of r.used.items ≡ map tally_of (hits_in (rs ++ r ∷ []))
hits_more rs r =
    sym (map-append tally_of (hits_in rs) r.used.items)
    ∙ ap (λ (hs : List Hit). map tally_of (hits_in rs ++ hs)) (sym (append-nil r.used.items))
    ∙ ap (map tally_of) (sym (flat_map-append (λ (q : BlockReport). q.used.items) rs (r ∷ [])))

missed_more : (rs : List BlockReport) (r : BlockReport) → missed_in rs ++ r.misses.items ≡ missed_in (rs ++ r ∷ [])
missed_more rs r =
    ap (λ (ps : List Pair). missed_in rs ++ ps) (sym (append-nil r.misses.items))
    ∙ sym (flat_map-append (λ (q : BlockReport). q.misses.items) rs (r ∷ []))

pub shortening_next : (all rest more : List BlockReport) (r : BlockReport) (s t : Short) → AreShortening all rest s
    → rest ≡ r ∷ more → AreJoined (s.tallies.items ++ map tally_of r.used.items) t.tallies.items
    → t.misses.items ≡ s.misses.items ++ r.misses.items → AreShortening all more t
shortening_next all rest more r s t i e hits missed =
    let used = map tally_of r.used.items in
    let before = map tally_of (hits_in i.parts) in
    record {
      parts = i.parts ++ r ∷ [];
      whole = append_assoc i.parts (r ∷ []) more ∙ ap (λ xs. i.parts ++ xs) (sym e) ∙ i.whole;
      short = record {
        tallies = subst (λ (ts : List Tally). AreJoined ts t.tallies.items) (hits_more i.parts r)
            (joined_through (before ++ used) (s.tallies.items ++ used) t.tallies.items
            (joined_beside before used s.tallies.items used i.short.tallies (joined_self used)) hits);
        misses = missed ∙ ap (λ ps. ps ++ r.misses.items) i.short.misses ∙ missed_more i.parts r;
      };
    }

pub shortening_end : (all rest : List BlockReport) (s : Short) → rest ≡ [] → AreShortening all rest s
    → AreShort all s
shortening_end all rest s e i =
    subst (λ rs. AreShort rs s) (sym (append-nil i.parts) ∙ ap (λ xs. i.parts ++ xs) (sym e) ∙ i.whole) i.short
