-- What is promised of the rules of pairs.
use Rattle.std.specs.Prelude.{◌≡◌, Bool, All}
use Rattle.po_word.specs.Exprs.{Expr, Ask, HasHoles, OfEach, expr_value, ask_map, is_so}
use Rattle.po_model.specs.declared.machine.Machine.{Machine}
use Rattle.po_model.specs.Machines.{IsMachine}
use Rattle.po_model.specs.Pairs.{PlainPair, WellFormedPair}
use Rattle.po_model.specs.Combined.{combination}
use Rattle.po_model.specs.Holed.{PlainRule, PlainValues, Asked}
use Rattle.po_model.specs.Put.{put, HasValues}
use Rattle.po_model.specs.Shape.{pair_values, pair_shape}
use Rattle.po_model.specs.Agrees.{Instance}
use Rattle.po_model.specs.Generalised.{generalised}
use Rattle.po_model.specs.Canonical.{Canonical}
use Rattle.po_skel.specs.Values.{Belong, put_pair}

-- a pair is an instance of its rule, and the rule says what becomes of each instance, and is the rule of each
pub record IsRuleOf (m : Machine) (p : PlainPair) (r : PlainRule) : Type 0 where
  pub instance : Instance r p
  pub canonical : Canonical m r

abbrev pub RulesAreCanonical : Type 0
RulesAreCanonical = (m : Machine) → IsMachine m → (p : PlainPair) → IsRuleOf m p (generalised m p)

-- two canonical rules of a machine with an instance in common are one
abbrev pub OneRule : Type 0
OneRule = (m : Machine) (r s : PlainRule) → Canonical m r → Canonical m s → (p : PlainPair) → WellFormedPair p
    → Instance r p → Instance s p → r ≡ s

-- each hole of a question has its word
abbrev pub HasWord : PlainValues → Ask Expr × Bool → Type 0
HasWord v qa = OfEach (λ e. HasHoles e v.consts) qa.0

-- each hole of a rule's result and questions has its value in the pair
pub record IsFilledBy (r : PlainRule) (v : PlainValues) : Type 0 where
  pub result : HasValues v r.result
  pub asked : All (HasWord v) r.asked

abbrev pub RulesAreFilled : Type 0
RulesAreFilled = (m : Machine) → IsMachine m → (p : PlainPair) → WellFormedPair p
    → IsFilledBy (generalised m p) (pair_values p)

-- the words of a pair give the questions these answers
abbrev pub AnswerThem : PlainValues → Asked → Type 0
AnswerThem v asked = All (λ qa. is_so (ask_map (expr_value v.consts) qa.0) ≡ qa.1) asked

-- whatever values belong to the shape of a pair's rule and answer its questions alike: what becomes of the pair that
-- they make of the shape is the result, with them
abbrev pub RulesCoverTheirShapes : Type 0
RulesCoverTheirShapes = (m : Machine) → IsMachine m → (p : PlainPair) (w : PlainValues) → Belong (pair_values p) w
    → WellFormedPair (put_pair w (pair_shape p)) → AnswerThem w (generalised m p).asked
    → combination m (put_pair w (pair_shape p)) ≡ put w (generalised m p).result
