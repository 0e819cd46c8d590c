-- What placed code does: what the code did before the passes and before placement.
use Rattle.std.specs.Prelude.{ℕ, ◌≡◌, Bool, List, length, All}
use Rattle.po_term.specs.declared.term.Reg.{Reg as Register}
use Rattle.po_term.specs.declared.term.Sym.{Sym}
use Rattle.po_term.specs.Form.{IsFixed}
use Rattle.po_term.specs.Terms.{InReg, AtSym, State, IsState}
use Rattle.po_model.specs.declared.machine.Machine.{Machine}
use Rattle.po_model.specs.declared.var.Var.TheVariants.{Cc}
use Rattle.po_model.specs.Blocks.{PlainBlock}
use Rattle.po_model.specs.Fitted.{TellsCc}
use Rattle.po_model.specs.LiveAfter.{IsLiveAt}
use Rattle.po_model.specs.Machines.{IsMachine}
use Rattle.po_model.specs.Pairs.{PlainPair}
use Rattle.po_model.specs.Placed.{place_of, placed_at, run_placed}
use Rattle.po_model.specs.Placement.{intervals, IsUncrowded}
use Rattle.po_model.specs.Run.{Reply, IsReply, starts, run, SameResult}
use Rattle.po_model.specs.Scanned.{IsSlowed}
use Rattle.po_model.specs.UnitCodes.{PlainUnit, IsFormedCode, IsStraight, flat}

-- two states of words that agree on memory, symbols and fixed registers; what the machine's other registers hold
-- doesn't matter
pub record AgreeOnFixed (s t : State) : Type 0 where
  pub first : IsState s
  pub second : IsState t
  pub memory : (a : ℕ) → s.memory a ≡ t.memory a
  pub symbols : (y : Sym) → s.place (AtSym y) ≡ t.place (AtSym y)
  pub fixed : (r : Register) → IsFixed r → s.place (InReg r) ≡ t.place (InReg r)

-- n blocks of a code from s, and n blocks of the placed code of what was made of it from t: neither has a result, or
-- both have one, and they can't be told apart; live tells after which instructions of the made code cc is live
abbrev pub RunAlike : Machine → List PlainBlock → List PlainBlock → (ℕ → ℕ → Bool) → ℕ → State → State → List Reply
    → Type 0
RunAlike m code made live n s t replies = SameResult made (place_of (placed_at m made))
    (run code n (starts s replies)) (run_placed m (placed_at m made) made live n (starts t replies))

-- the placed code of the unit v runs as the naive code of the unit u, whatever calls reply: nothing is asked of cc at
-- the start
abbrev pub RunsAsNaive : Machine → PlainUnit → PlainUnit → Type 0
RunsAsNaive m u v = (live : ℕ → ℕ → Bool) (n : ℕ) (s t : State) (replies : List Reply)
    → TellsCc v.code live
    → AgreeOnFixed s t
    → All IsReply replies
    → RunAlike m u.code v.code live n s t replies

-- placed slowed code runs as the code, for every machine and every straight code, where no point of the slowed code is
-- crowded: from states that agree, and on cc where it is live at the code's start, whatever calls reply
abbrev pub PlacedSlowedRunsAlike : Type 0
PlacedSlowedRunsAlike = (m : Machine) (code slowed : List PlainBlock) (pairs : List PlainPair) (live : ℕ → ℕ → Bool)
    → IsMachine m
    → IsFormedCode code
    → IsStraight code
    → IsSlowed m code pairs slowed
    → IsUncrowded (length m.regs) (intervals (flat slowed))
    → TellsCc slowed live
    → (n : ℕ) (s t : State) (replies : List Reply)
    → AgreeOnFixed s t
    → (IsLiveAt code 0 Cc → s.cc ≡ t.cc)
    → All IsReply replies
    → RunAlike m code slowed live n s t replies
