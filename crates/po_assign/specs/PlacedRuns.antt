-- What is promised of placed code: it does what the code does, on the machine's registers.
use Rattle.std.specs.Prelude.{ℕ, Bool, List, length, All}
use Rattle.po_term.specs.Terms.{State}
use Rattle.po_model.specs.declared.machine.Machine.{Machine}
use Rattle.po_model.specs.Blocks.{PlainBlock}
use Rattle.po_model.specs.Fitted.{TellsCc}
use Rattle.po_model.specs.Placed.{place_of, placed_at, run_placed}
use Rattle.po_model.specs.Placement.{intervals, IsUncrowded}
use Rattle.po_model.specs.UnitCodes.{IsFormedCode, IsStraight, flat}
use Rattle.po_model.specs.Run.{Reply, IsReply, starts, run, AlikeAtStart, SameResult}

-- placed code runs as the code before placement: where no point is crowded, live tells after which instructions cc is
-- live, and two starts can't be told apart, of n blocks of the code and n blocks of the placed code neither has a
-- result, or both have one, and these can't be told apart, whatever calls reply
abbrev pub PlacedRunsAlike : Type 0
PlacedRunsAlike = (m : Machine) (code : List PlainBlock) (live : ℕ → ℕ → Bool)
    → IsFormedCode code → IsStraight code
    → IsUncrowded (length m.regs) (intervals (flat code))
    → TellsCc code live
    → (n : ℕ) (s t : State) (replies : List Reply)
    → AlikeAtStart code (place_of (placed_at m code)) s t → All IsReply replies
    → SameResult code (place_of (placed_at m code))
    (run code n (starts s replies)) (run_placed m (placed_at m code) code live n (starts t replies))
