-- Tables with one rule more.
use Rattle.std.proofs.Common.{◌≡◌, ◌≢◌, Bool, true, false, List, [], ◌∷◌, ◌++◌, map, All, refl, sym, ◌∙◌, ap, subst}
use Rattle.std.specs.Prelude.{if◌then◌else◌}
use Rattle.std.proofs.lemmas.List.Elements.{All-push}
use Rattle.std.proofs.lemmas.List.Quantifiers.{all_pairs_push}
use Rattle.std.specs.declared.alloc.Global.{Global}
use Rattle.std.specs.declared.sync.Arc.{Arc}
use Rattle.std.specs.Arc.{arc_value}
use Rattle.po_model.specs.declared.machine.Machine.{Machine}
use Rattle.po_model.specs.declared.rule.Rule.{Rule}
use Rattle.po_model.specs.Holed.{rule_of}
use Rattle.po_model.specs.Canonical.{Canonical}
use Rattle.po_model.specs.Lookups.{AreCanonical, AreDistinct}
use Rattle.po_table.specs.Tables.{shared, rules_of, IsTable}

map-append : {A B : Type 0} (f : A → B) (xs ys : List A) → map f (xs ++ ys) ≡ map f xs ++ map f ys
map-append f [] ys = refl
map-append f (x ∷ xs) ys = ap (λ zs. f x ∷ zs) (map-append f xs ys)

-- the rules that are shared
abbrev pub held : List (Arc Rule Global) → List Rule
held rs = map (λ r. arc_value r) rs

-- the rules of a table
pub shared_rules : (m : Machine) (rs : List (Arc Rule Global)) → shared rs ≡ rules_of (m, held rs)
shared_rules m [] = refl
shared_rules m (r ∷ rs) = ap (λ ss. rule_of (arc_value r) ∷ ss) (shared_rules m rs)

-- a table with one rule more
table_more : (m : Machine) (rs : List Rule) (r : Rule) → IsTable (m, rs) → Canonical m (rule_of r)
    → All (λ s. s ≢ rule_of r) (map rule_of rs) → IsTable (m, rs ++ r ∷ [])
table_more m rs r h c n =
    let e = map-append rule_of rs (r ∷ []) in
    record {
      canonical = subst (AreCanonical m) (sym e) (All-push (Canonical m) (map rule_of rs) (rule_of r) h.canonical c);
      distinct = subst AreDistinct (sym e) (all_pairs_push (λ s t. s ≢ t) (map rule_of rs) (rule_of r) h.distinct n);
    }

-- a table after a push, for which memory may be refused
pub table_put : (m : Machine) (rs ss : List (Arc Rule Global)) (r : Arc Rule Global) (ok : Bool)
    → ss ≡ (if ok then rs ++ r ∷ [] else rs) → IsTable (m, held rs) → Canonical m (rule_of (arc_value r))
    → All (λ s. s ≢ rule_of (arc_value r)) (map rule_of (held rs)) → IsTable (m, held ss)
table_put m rs ss r true e h c n =
    subst (λ xs. IsTable (m, xs)) (sym (ap held e ∙ map-append (λ r. arc_value r) rs (r ∷ [])))
    (table_more m (held rs) (arc_value r) h c n)
table_put m rs ss r false e h c n = subst (λ xs. IsTable (m, held xs)) (sym e) h
