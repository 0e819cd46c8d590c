-- The rules behind the assembly are one text.
use Rattle.std.proofs.Common.{◌≡◌, ℕ, List, [], ◌∷◌, ◌++◌, sym, ◌∙◌, ap, subst}
use Rattle.po_model.specs.declared.machine.Machine.{Machine}
use Rattle.po_model.specs.Combined.{combination}
use Rattle.po_model.specs.Pairs.{PlainPair}
use Rattle.po_model.specs.UnitCodes.{PlainUnit}
use Rattle.po_slow.proofs.OnlyOne.{make_one_code}
use Rattle.po_settle.specs.Texts.{AreSorted, rule_texts}
use Rattle.po_settle.proofs.Unique.{one_sorted}
use Rattle.po_compile.specs.declared.mode.Mode.{Mode}
use Rattle.po_compile.specs.declared.mode.Mode.TheVariants.{Naive, Slow, Opt}
use Rattle.po_settle.specs.Lines.{AreTried, rules_text}
use Rattle.po_compile.specs.Rules.{AreRulesIn}

-- all passes over units try one list of pairs
one_tried : (m : Machine) (us : List PlainUnit) (pairs others : List PlainPair) → AreTried m us pairs
    → AreTried m us others → pairs ≡ others
one_tried m [] pairs others e f = e ∙ sym f
one_tried m (u ∷ us) pairs others (p, q, v, s, t, e) (x, y, w, r, z, f) =
    e ∙ ap (λ (ps : List PlainPair). ps ++ q) (make_one_code (combination m) u.code v w p x s r).0
    ∙ ap (λ (ps : List PlainPair). x ++ ps) (one_tried m us q y t z) ∙ sym f

pub one_rules : (mode : Mode) (m : Machine) (us : List PlainUnit) (rules others : List ℕ) → AreRulesIn mode m us rules
    → AreRulesIn mode m us others → rules ≡ others
one_rules Naive m us rules others e f = e ∙ sym f
one_rules Slow m us rules others e f = e ∙ sym f
one_rules Opt m us rules others x y =
    let same : x.pairs ≡ y.pairs = one_tried m us x.pairs y.pairs x.tried y.tried in
    let sorted : AreSorted (rule_texts m x.pairs) y.texts =
    subst (λ (ps : List PlainPair). AreSorted (rule_texts m ps) y.texts) (sym same) y.sorted in
    x.text ∙ ap rules_text (one_sorted (rule_texts m x.pairs) x.texts y.texts x.sorted sorted) ∙ sym y.text
