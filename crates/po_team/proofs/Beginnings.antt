-- Beginnings of lists of rules, as plain data.
use Rattle.std.proofs.Common.{◌≡◌, ◌∙◌, List, ◌++◌, map, ap, sym}
use Rattle.std.proofs.lemmas.List.{map-append}
use mathlib.Core.List.{IsPrefix}
use Rattle.po_model.specs.declared.rule.Rule.{Rule}
use Rattle.po_model.specs.Holed.{rule_of}
use Rattle.po_store.specs.Published.{plain}

-- what begins a list begins it as plain data too
pub plain_prefix : (a b x y : List Rule) → x ≡ a → y ≡ b → IsPrefix a b → IsPrefix (plain x) (plain y)
plain_prefix a b x y d e (t, h) = (
  map rule_of t,
  ap (λ (xs : List Rule). plain xs ++ map rule_of t) d
      ∙ sym (map-append rule_of a t) ∙ ap plain h ∙ sym (ap plain e),
)
