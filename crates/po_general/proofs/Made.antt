-- A shape, what slow combination makes of it and the questions that it asks are the rule of a pair.
use Rattle.std.proofs.Common.{◌≡◌, [], sym, ◌∙◌, ap, subst}
use Rattle.po_word.specs.Exprs.{Expr}
use Rattle.po_term.specs.Kinds.{Met}
use Rattle.po_model.specs.declared.machine.Machine.{Machine}
use Rattle.po_model.specs.Machines.{IsMachine}
use Rattle.po_model.specs.Pairs.{PlainPair}
use Rattle.po_model.specs.Holed.{PlainShape, PlainValues, PlainRule, HoleCombination, Asked}
use Rattle.po_model.specs.Shape.{pair_values, pair_shape}
use Rattle.po_model.specs.Agrees.{Instance}
use Rattle.po_model.specs.Generalised.{reading, path, generalised}
use Rattle.po_model.specs.Canonical.{Canonical}
use Rattle.po_tsimp.specs.Made.{extended}
use Rattle.po_tsimp.proofs.Paths.{extended_path}
use Rattle.po_general.proofs.Rules.{own_instance, is_canonical}

abbrev rule_with : PlainShape → Asked → HoleCombination → PlainRule
rule_with s asked result = record { shape = s; asked = asked; result = result }

pub rule_made : (m : Machine) (p : PlainPair) (s : PlainShape) (v : PlainValues) (before asked : Asked)
    (result : HoleCombination)
    → s ≡ pair_shape p → v ≡ pair_values p → before ≡ [] → result ≡ (reading m v.consts s).got
    → asked ≡ extended v.consts before (reading m v.consts s).asked → rule_with s asked result ≡ generalised m p
rule_made m p s v before asked result e f b g h =
    let one : reading m v.consts s ≡ reading m (pair_values p).consts (pair_shape p) =
    ap (λ (w : PlainValues). reading m w.consts s) f
    ∙ ap (λ (t : PlainShape). reading m (pair_values p).consts t) e in
    let kept : asked ≡ (generalised m p).asked =
    h ∙ ap (λ (a : Asked). extended v.consts a (reading m v.consts s).asked) b
    ∙ extended_path v.consts [] (reading m v.consts s).asked
    ∙ ap (λ (w : PlainValues). path w.consts [] (reading m v.consts s).asked) f
    ∙ ap (λ (x : Met Expr HoleCombination). path (pair_values p).consts [] x.asked) one in
    let got : result ≡ (generalised m p).result = g ∙ ap (λ (x : Met Expr HoleCombination). x.got) one in
    ap (λ (t : PlainShape). rule_with t asked result) e ∙ ap (λ (a : Asked). rule_with (pair_shape p) a result) kept
    ∙ ap (λ (c : HoleCombination). rule_with (pair_shape p) (generalised m p).asked c) got

-- A rule that equals the rule of a pair on a machine, seen through references, is canonical, and has the pair as an
-- instance.

rule_through : (m n : Machine) (p : PlainPair) (r made : PlainRule) → r ≡ made → made ≡ generalised n p → n ≡ m
    → r ≡ generalised m p
rule_through m n p r made e f g = e ∙ f ∙ ap (λ (k : Machine). generalised k p) g

pub canonical_by : (m n : Machine) (p : PlainPair) (r made : PlainRule) → IsMachine m → r ≡ made
    → made ≡ generalised n p → n ≡ m → Canonical m r
canonical_by m n p r made is e f g =
    subst (λ (s : PlainRule). Canonical m s) (sym (rule_through m n p r made e f g))
    (is_canonical m is p)

pub instance_by : (m n : Machine) (p : PlainPair) (r made : PlainRule) → r ≡ made → made ≡ generalised n p → n ≡ m
    → Instance r p
instance_by m n p r made e f g =
    subst (λ (s : PlainRule). Instance s p) (sym (rule_through m n p r made e f g)) (own_instance m p)
