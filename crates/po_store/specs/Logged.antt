-- What the publisher keeps.
use Rattle.std.specs.Prelude.{◌≡◌, ℕ, ◌<◌, List, length, slice_get, Some}
use Rattle.po_model.specs.declared.pair.Pair.{Pair}
use Rattle.po_model.specs.declared.rule.Rule.{Rule}
use Rattle.po_model.specs.Pairs.{pair_of, WellFormedPair}
use Rattle.po_model.specs.Holed.{PlainRule}
use Rattle.po_model.specs.Agrees.{Instance}
use Rattle.po_store.specs.declared.publisher.Entry.{Entry}
use Rattle.po_store.specs.Published.{plain}

abbrev pub entry : Pair → ℕ → Entry
entry pair place = record { pair = pair; place = place }

-- the entry's rule stands at its place, and its pair is well formed and an instance of it
pub record IsEntry (rules : List PlainRule) (e : Entry) : Type 0 where
  pub rule : PlainRule
  pub stands : slice_get rules e.place ≡ Some rule
  pub formed : WellFormedPair (pair_of e.pair)
  pub instance : Instance rule (pair_of e.pair)

-- each entry is one of these rules; and each place of the rules stands in some entry
pub record Logged (rules : List PlainRule) (log : List Entry) : Type 0 where
  pub entries : (i : ℕ) (e : Entry) → slice_get log i ≡ Some e → IsEntry rules e
  pub places : (k : ℕ) → k < length rules → (i : ℕ) × (e : Entry) × (slice_get log i ≡ Some e) × (e.place ≡ k)

-- what contracts see of a publisher: the published rules, the log, and its own share
pub record PublisherView : Type 0 where
  pub rules : List Rule
  pub log : List Entry
  pub parts : ℕ
  pub amount : ℕ
