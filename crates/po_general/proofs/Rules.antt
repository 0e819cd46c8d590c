-- The rule of a pair says what becomes of each of its instances, and is the rule of each.
use Rattle.std.proofs.Common.{◌≡◌, ℕ, List, [], refl, sym, ◌∙◌, ap, subst}
use Rattle.std.proofs.lemmas.List.Elements.{All-nil}
use Rattle.po_word.specs.Exprs.{Expr}
use Rattle.po_term.specs.Kinds.{Met}
use Rattle.po_simplify.proofs.Instances.{AnswerAlike}
use Rattle.po_model.specs.declared.machine.Machine.{Machine}
use Rattle.po_model.specs.Machines.{IsMachine}
use Rattle.po_model.specs.Pairs.{PlainPair, WellFormedPair}
use Rattle.po_model.specs.Combined.{combination}
use Rattle.po_model.specs.Holed.{PlainShape, PlainRule, HoleCombination, Asked, PlainValues}
use Rattle.po_model.specs.Shape.{pair_values, pair_shape}
use Rattle.po_model.specs.Put.{put}
use Rattle.po_model.specs.Agrees.{Instance}
use Rattle.po_model.specs.Generalised.{reading, path, generalised}
use Rattle.po_model.specs.Canonical.{Canonical}
use Rattle.po_skel.specs.Values.{Belong, put_pair}
use Rattle.po_skel.proofs.AfterPut.{stays}
use Rattle.po_skel.proofs.Fills.{fills}
use Rattle.po_general.specs.Laws.{AnswerThem}
use Rattle.po_general.proofs.Fills.{combination_put, reading_alike}
use Rattle.po_general.proofs.Questions.{Gives, path_gives, path_alike, path_same}

abbrev consts_of : PlainPair → List ℕ
consts_of p = (pair_values p).consts

pub own_instance : (m : Machine) (p : PlainPair) → Instance (generalised m p) p
own_instance m p =
    record {
      shape = refl;
      answers = path_gives (consts_of p) [] (reading m (consts_of p) (pair_shape p)).asked
          (All-nil (Gives (consts_of p)));
    }

module _ (m : Machine) (is : IsMachine m) (p q : PlainPair) (formed : WellFormedPair q)
    (i : Instance (generalised m p) q) where
  alike : AnswerAlike (consts_of p) (consts_of q) (reading m (consts_of p) (pair_shape p)).asked
  alike = path_alike (consts_of p) (consts_of q) [] (reading m (consts_of p) (pair_shape p)).asked
      (All-nil (Gives (consts_of p))) i.answers

  one_reading : reading m (consts_of q) (pair_shape q) ≡ reading m (consts_of p) (pair_shape p)
  one_reading = ap (λ (s : PlainShape). reading m (consts_of q) s) i.shape
      ∙ reading_alike m is (pair_shape p) (consts_of p) (consts_of q) alike

  agrees_at : combination m q ≡ put (pair_values q) (generalised m p).result
  agrees_at = combination_put (pair_shape q) (pair_values q) q (fills q formed) m is
      ∙ ap (λ (r : Met Expr HoleCombination). put (pair_values q) r.got) one_reading

  one_path : path (consts_of q) [] (reading m (consts_of q) (pair_shape q)).asked
      ≡ path (consts_of p) [] (reading m (consts_of p) (pair_shape p)).asked
  one_path = ap (λ (r : Met Expr HoleCombination). path (consts_of q) [] r.asked) one_reading
      ∙ path_same (consts_of p) (consts_of q) [] (reading m (consts_of p) (pair_shape p)).asked alike

  rule_at : generalised m q ≡ generalised m p
  rule_at =
      ap (λ (s : PlainShape). let r : PlainRule = record {
        shape = s;
        asked = (generalised m q).asked;
        result = (generalised m q).result;
      } in r) i.shape
      ∙ ap (λ (a : Asked). let r : PlainRule = record {
        shape = pair_shape p;
        asked = a;
        result = (generalised m q).result;
      } in r) one_path
      ∙ ap (λ (x : Met Expr HoleCombination). let r : PlainRule = record {
        shape = pair_shape p;
        asked = (generalised m p).asked;
        result = x.got;
      } in r) one_reading

pub is_canonical : (m : Machine) → IsMachine m → (p : PlainPair) → Canonical m (generalised m p)
is_canonical m is p = record { agrees = λ q h i. agrees_at m is p q h i; rule = λ q h i. rule_at m is p q h i }

-- two rules that are that of each instance, with one instance in common
pub one_rule : (m : Machine) (r s : PlainRule) → Canonical m r → Canonical m s → (p : PlainPair) → WellFormedPair p
    → Instance r p → Instance s p → r ≡ s
one_rule m r s cr cs p h i j = sym (cr.rule p h i) ∙ cs.rule p h j

-- the pair that values make of a shape is an instance where they answer alike
pub covers : (m : Machine) → IsMachine m → (p : PlainPair) (w : PlainValues) → Belong (pair_values p) w
    → WellFormedPair (put_pair w (pair_shape p)) → AnswerThem w (generalised m p).asked
    → combination m (put_pair w (pair_shape p)) ≡ put w (generalised m p).result
covers m is p w belong formed answers =
    let same = stays p w belong in
    let own : Instance (generalised m p) (put_pair w (pair_shape p)) = record {
      shape = same.shape;
      answers = subst (λ (v : PlainValues). AnswerThem v (generalised m p).asked) (sym same.values) answers;
    } in
    agrees_at m is p (put_pair w (pair_shape p)) formed own
    ∙ ap (λ (v : PlainValues). put v (generalised m p).result) same.values
