-- How a foreground goes on with a scan by a list of rules, what a bounded queue does, and how a rule is learned.
--
-- Each pair that stands ready is looked up. A rule that has it as an instance gives the outcome (a hit); slow
-- combination does where there is none (a miss).
use Rattle.std.specs.Prelude.{ℕ, ◌≡◌, ◌≢◌, nat_lt, if◌then◌else◌, List, [], ◌∷◌, ◌++◌, length, All, Contains, Option}
use Rattle.std.specs.Prelude.{Some, None}
use Rattle.po_model.specs.declared.machine.Machine.{Machine}
use Rattle.po_model.specs.Pairs.{PlainPair, WellFormedPair}
use Rattle.po_model.specs.Combined.{Answer, combination}
use Rattle.po_model.specs.Scanned.{Scan, ScanStep, Tried, pair_ready, after_try}
use Rattle.po_model.specs.Holed.{PlainRule}
use Rattle.po_model.specs.Lookups.{gives, NoneFits, FitsRule}

-- a try: with the rule that was used, or a miss
pub data Try : Type 0 where
  Used : PlainPair → PlainRule → Try
  Missed : PlainPair → Try

abbrev pub pair_tried : Try → PlainPair
pair_tried (Used p r) = p
pair_tried (Missed p) = p

-- what becomes of the pair
abbrev pub outcome_of : Machine → Try → Answer
outcome_of m (Used p r) = gives r p
outcome_of m (Missed p) = combination m p

-- the rules say so
abbrev pub IsLooked : List PlainRule → Try → Type 0
IsLooked rs (Used p r) = FitsRule rs p r
IsLooked rs (Missed p) = NoneFits rs p

-- one try of a scan, by these rules
pub record TriedOn (m : Machine) (rs : List PlainRule) (s : Scan) (x : Try) (t : Scan) : Type 0 where
  pub ready : pair_ready s ≡ Some (pair_tried x)
  pub formed : WellFormedPair (pair_tried x)
  pub looked : IsLooked rs x
  pub goes_on : t ≡ after_try (outcome_of m x) s

-- by these tries a scan goes from one place to another
abbrev pub GoesBy : Machine → List PlainRule → Scan → List Try → Scan → Type 0
GoesBy m rs s [] t = t ≡ s
GoesBy m rs s (x ∷ xs) t = (u : Scan) × TriedOn m rs s x u × GoesBy m rs u xs t

-- a pair and the rule that was used for it
pub record PlainHit : Type 0 where
  pub pair : PlainPair
  pub rule : PlainRule

abbrev pub hits : List Try → List PlainHit
hits [] = []
hits (Used p r ∷ xs) = record { pair = p; rule = r } ∷ hits xs
hits (Missed p ∷ xs) = hits xs

abbrev pub misses : List Try → List PlainPair
misses [] = []
misses (Used p r ∷ xs) = misses xs
misses (Missed p ∷ xs) = p ∷ misses xs

-- the steps of the scan that the tries are
abbrev pub steps_of : List Try → List ScanStep
steps_of [] = []
steps_of (x ∷ xs) = Tried (pair_tried x) ∷ steps_of xs

-- an item put at the back of a queue that may hold so many; none where it is full
abbrev pub put_to : {X : Type 0} → ℕ → List X → X → Option (List X)
put_to room queue x = if nat_lt (length queue) room then Some (queue ++ x ∷ []) else None

-- the front of a queue, and what is left behind it; none where it is empty
abbrev pub take_from : {X : Type 0} → List X → Option (X × List X)
take_from [] = None
take_from (x ∷ xs) = Some (x, xs)

-- the rules that are pending after one was learned: it stands behind them where it is neither published nor pending
pub record LearnsTo (published pending : List PlainRule) (r : PlainRule) (after : List PlainRule) : Type 0 where
  pub known : Contains (published ++ pending) r → after ≡ pending
  pub fresh : All (λ s. s ≢ r) (published ++ pending) → after ≡ pending ++ r ∷ []
