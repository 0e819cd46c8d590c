-- What is promised of all passes over a code, whatever safe answers its pairs get: the code that they make is one,
-- has the form that the code had, makes nothing live, and runs as it does.
use Rattle.std.specs.Prelude.{ℕ, ◌≤◌, ◌<◌, ◌≡◌, List, map, length, All}
use mathlib.Core.Logic.{◌⊎◌}
use Rattle.po_term.specs.Terms.{State}
use Rattle.po_model.specs.declared.machine.Machine.{Machine}
use Rattle.po_model.specs.declared.var.Var.{Var}
use Rattle.po_model.specs.Blocks.{PlainBlock}
use Rattle.po_model.specs.Fitted.{IsRecognised}
use Rattle.po_model.specs.LiveAfter.{IsLiveAt}
use Rattle.po_model.specs.Machines.{IsMachine}
use Rattle.po_model.specs.Pairs.{PlainPair}
use Rattle.po_model.specs.Scanned.{Answers, AreSafe, IsScanned, IsSlowed}
use Rattle.po_model.specs.UnitCodes.{PlainUnit, IsFormedCode, IsStraight, IsNamedBlock, flat}
use Rattle.po_model.specs.Run.{Reply, IsReply, starts, run, AlikeAtStart, SameResult}

-- the unit that all passes make of a unit is the unit with another code, and so many pairs are tried
pub record IsSlowedUnit (m : Machine) (u v : PlainUnit) (tries : ℕ) : Type 0 where
  pub same : v ≡ record u { code = v.code }
  pub pairs : List PlainPair
  pub slowed : IsSlowed m u.code pairs v.code
  pub count : tries ≡ length pairs

-- P of each formed code and of what all passes make of it by safe answers
abbrev pub AfterPasses : (Machine → List PlainBlock → List PlainBlock → Type 0) → Type 0
AfterPasses P = (m : Machine) (answer : Answers) (code scanned : List PlainBlock) (pairs : List PlainPair)
    → IsMachine m → AreSafe m answer → IsFormedCode code → IsScanned answer code pairs scanned → P m code scanned

-- the form of the code that is made of a code
pub record KeepsForm (m : Machine) (code scanned : List PlainBlock) : Type 0 where
  pub formed : IsFormedCode scanned
  -- the same blocks by their labels
  pub labels : map (λ b. b.label) scanned ≡ map (λ b. b.label) code
  pub fewer : length (flat scanned) ≤ length (flat code)
  -- it is the code as it was, or has fewer instructions
  pub same_or_fewer : (scanned ≡ code) ⊎ (length (flat scanned) < length (flat code))
  pub straight : IsStraight code → IsStraight scanned
  pub named : (labels syms : ℕ) → All (IsNamedBlock labels syms) code → All (IsNamedBlock labels syms) scanned

abbrev pub PassesKeepForm : Type 0
PassesKeepForm = AfterPasses KeepsForm

-- where each instruction of a code fits an entry, each one of the code that is made of it does
abbrev pub PassesKeepFit : Type 0
PassesKeepFit = AfterPasses (λ m code scanned. IsRecognised code m → IsRecognised scanned m)

-- what is live at the start of a block after the passes was live there before them
abbrev pub PassesMakeNothingLive : Type 0
PassesMakeNothingLive = AfterPasses (λ m code scanned. (b : ℕ) (v : Var) → IsLiveAt scanned b v → IsLiveAt code b v)

-- from starts that agree on what is live in the code after the passes, n blocks of the code before them and n blocks
-- of that code can't be told apart, whatever the calls reply
abbrev pub PassesKeepRuns : Type 0
PassesKeepRuns = AfterPasses (λ m code scanned. (n : ℕ) (s t : State) (replies : List Reply)
    → AlikeAtStart scanned (λ r. r) s t → All IsReply replies
    → SameResult scanned (λ r. r) (run code n (starts s replies)) (run scanned n (starts t replies)))

-- by any answers all passes make one code of a code and try one list of pairs, whichever function tells what is live
abbrev pub PassesMakeOneCode : Type 0
PassesMakeOneCode = (answer : Answers) (code scanned other : List PlainBlock) (pairs others : List PlainPair)
    → IsScanned answer code pairs scanned → IsScanned answer code others other → (pairs ≡ others) × (scanned ≡ other)
