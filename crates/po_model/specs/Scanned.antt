-- The scan of a code: an instruction of which nothing is live is dropped, and each other one is tried with the last
-- one done.
--
-- A pass goes through the blocks of a code with what is live after each instruction at its start. Passes follow each
-- other up to and including the first that drops and combines nothing.
use Rattle.std.specs.Prelude.{ℕ, suc, ◌≡◌, ◌↔◌, ◌<◌, Bool, true, false, not, IsTrue, if◌then◌else◌, List, [], ◌∷◌}
use Rattle.std.specs.Prelude.{reverse, length, Option, Some, None}
use Rattle.std.specs.List.{list_all}
use Rattle.std.specs.BTreeSet.{insert_key}
use Rattle.po_term.specs.declared.term.Reg.{Reg as Register}
use Rattle.po_term.specs.declared.term.Label.{Label}
use Rattle.po_term.specs.contracts.term.RegOrd.TheImpl.{cmp-value}
use Rattle.po_term.specs.Moves.{SetTo, CcTo, StoreTo, Ends, PlainMove, PlainInstr}
use mathlib.Core.Logic.{◌⊎◌}
use Rattle.po_model.specs.declared.machine.Machine.{Machine}
use Rattle.po_model.specs.declared.var.Var.{Var}
use Rattle.po_model.specs.declared.var.Var.TheVariants.{Reg, Cc}
use Rattle.po_model.specs.Blocks.{PlainBlock, instrs_at}
use Rattle.po_model.specs.LiveAfter.{LiveAfter}
use Rattle.po_model.specs.Pairs.{PlainPair, WellFormedPair}
use Rattle.po_model.specs.Combined.{Answer, Kept, Gone, AsOne, combination}

-- an instruction that is to come, and what is live after it
pub record Ahead : Type 0 where
  pub instr : PlainInstr
  pub live : Var → Bool

-- Within a block

-- a transfer that sets only what isn't live
abbrev pub is_dead_move : (Var → Bool) → PlainMove → Bool
is_dead_move live (SetTo r t) = not (live (Reg r))
is_dead_move live (CcTo t u) = not (live Cc)
is_dead_move live (StoreTo t u) = false
is_dead_move live (Ends e) = false

-- an instruction that has only sets and cc, and none of its targets is live after it
abbrev pub is_dead : (Var → Bool) → PlainInstr → Bool
is_dead live x = list_all (is_dead_move live) x

-- where the scan of a block stands: what is done, the last instruction first; what is to come; and whether the pass
-- has dropped or combined anything
pub record Stand : Type 0 where
  pub done : List PlainInstr
  pub rest : List Ahead
  pub changed : Bool

-- on to the next pair, or to the end of the block: a dead instruction is dropped, and one with none before it is done
abbrev pub onward : List PlainInstr → List Ahead → Bool → Stand
onward done [] changed = record { done = done; rest = []; changed = changed }
onward [] (x ∷ xs) changed = if is_dead x.live x.instr then onward [] xs true else onward (x.instr ∷ []) xs changed
onward (d ∷ ds) (x ∷ xs) changed = if is_dead x.live x.instr then onward (d ∷ ds) xs true
    else record { done = d ∷ ds; rest = x ∷ xs; changed = changed }

-- these registers, and those that an instruction sets and that are live, in their order
abbrev pub put_live : (Var → Bool) → PlainInstr → List Register → List Register
put_live live [] rs = rs
put_live live (SetTo r t ∷ ms) rs = put_live live ms (if live (Reg r) then insert_key cmp-value.it rs r else rs)
put_live live (m ∷ ms) rs = put_live live ms rs

-- the last done instruction and the next one
abbrev pub pair_with : PlainInstr → Ahead → PlainPair
pair_with d x = record { a = d; b = x.instr; regs = put_live x.live x.instr (put_live x.live d []); cc = x.live Cc }

-- the pair that stands ready: none at the end of the block
abbrev pub ready : List PlainInstr → List Ahead → Option PlainPair
ready (d ∷ ds) (x ∷ xs) = Some (pair_with d x)
ready done rest = None

-- on from that pair: both stay; both go; or one instruction is next, and live after it is what was live after the
-- second
abbrev pub settled : Answer → List PlainInstr → List Ahead → Bool → Stand
settled Kept (d ∷ ds) (x ∷ xs) changed = onward (x.instr ∷ d ∷ ds) xs changed
settled Gone (d ∷ ds) (x ∷ xs) changed = onward ds xs true
settled (AsOne y) (d ∷ ds) (x ∷ xs) changed = onward ds (record { instr = y; live = x.live } ∷ xs) true
settled o done rest changed = record { done = done; rest = rest; changed = changed }

-- From block to block

-- a block that is to come
pub record BlockAhead : Type 0 where
  pub label : Option Label
  pub instrs : List Ahead

-- instructions from the i-th of a block on, each with what is live after it
abbrev pub instrs_ahead : (ℕ → Var → Bool) → ℕ → List PlainInstr → List Ahead
instrs_ahead live i [] = []
instrs_ahead live i (x ∷ xs) = record { instr = x; live = live i } ∷ instrs_ahead live (suc i) xs

-- blocks from the b-th of a code on
abbrev pub blocks_ahead : (ℕ → ℕ → Var → Bool) → ℕ → List PlainBlock → List BlockAhead
blocks_ahead live b [] = []
blocks_ahead live b (x ∷ xs) = record { label = x.label; instrs = instrs_ahead (live b) 0 x.instrs } ∷ blocks_ahead
    live (suc b) xs

-- the block that is scanned: its label and where its scan stands; the blocks of the pass before it, the last first;
-- and those to come
pub record InBlock : Type 0 where
  pub label : Option Label
  pub stand : Stand
  pub passed : List PlainBlock
  pub coming : List BlockAhead

-- where the scan of a code stands
pub data Scan : Type 0 where
  Within : InBlock → Scan
  Finished : List PlainBlock → Scan

-- into the first of these blocks; to the finish where there is none
abbrev pub enter : List PlainBlock → List BlockAhead → Bool → Scan
enter passed [] changed = Finished (reverse passed)
enter passed (b ∷ bs) changed = Within (record {
  label = b.label;
  stand = onward [] b.instrs changed;
  passed = passed;
  coming = bs;
})

-- live tells what is live after each instruction of a code
abbrev pub Tells : List PlainBlock → (ℕ → ℕ → Var → Bool) → Type 0
Tells code live = (b i : ℕ) (v : Var) → i < length (instrs_at code b) → IsTrue (live b i v) ↔ LiveAfter code b i v

-- the start of a pass over a code, with what is live in that code
abbrev pub IsPassStart : List PlainBlock → Scan → Type 0
IsPassStart code s = (live : ℕ → ℕ → Var → Bool) × Tells code live × (s ≡ enter [] (blocks_ahead live 0 code) false)

-- the blocks of the pass up to this one, the last first
abbrev pub passed_with : InBlock → List PlainBlock
passed_with s = record { label = s.label; instrs = reverse s.stand.done } ∷ s.passed

-- behind the last block: a pass that changed something is followed by one more
abbrev pub AfterPass : Bool → List PlainBlock → Scan → Type 0
AfterPass true code t = IsPassStart code t
AfterPass false code t = t ≡ Finished code

-- from the end of a block to the next one, to the next pass, or to the finish
abbrev pub AfterBlock : List BlockAhead → InBlock → Scan → Type 0
AfterBlock [] s t = AfterPass s.stand.changed (reverse (passed_with s)) t
AfterBlock (b ∷ bs) s t = t ≡ enter (passed_with s) (b ∷ bs) s.stand.changed

-- All of it, step by step

-- the pair that stands ready
abbrev pub pair_ready : Scan → Option PlainPair
pair_ready (Within s) = ready s.stand.done s.stand.rest
pair_ready (Finished code) = None

-- on from that pair, by what becomes of it
abbrev pub after_try : Answer → Scan → Scan
after_try o (Within s) = Within (record {
  label = s.label;
  stand = settled o s.stand.done s.stand.rest
      s.stand.changed;
  passed = s.passed;
  coming = s.coming;
})
after_try o (Finished code) = Finished code

-- the scan is at the end of a block: nothing of it is to come
abbrev pub IsAtEnd : Scan → Type 0
IsAtEnd (Within s) = s.stand.rest ≡ []
IsAtEnd (Finished code) = ⊥

-- on from the end of a block
abbrev pub AfterEnd : Scan → Scan → Type 0
AfterEnd (Within s) t = (s.stand.rest ≡ []) × AfterBlock s.coming s t
AfterEnd (Finished code) t = ⊥

-- what becomes of each pair
abbrev pub Answers : Type 0
Answers = PlainPair → Answer

-- a step of the scan: a pair was tried, or the end of a block was passed
pub data ScanStep : Type 0 where
  Tried : PlainPair → ScanStep
  Ended : ScanStep

-- by these steps the scan goes from one place to another, where this becomes of each pair
abbrev pub Goes : Answers → Scan → List ScanStep → Scan → Type 0
Goes answer s [] t = t ≡ s
Goes answer s (Tried p ∷ steps) t = (pair_ready s ≡ Some p) × Goes answer (after_try (answer p) s) steps t
Goes answer s (Ended ∷ steps) t = (u : Scan) × AfterEnd s u × Goes answer u steps t

-- the pairs that were tried
abbrev pub tried : List ScanStep → List PlainPair
tried [] = []
tried (Tried p ∷ steps) = p ∷ tried steps
tried (Ended ∷ steps) = tried steps

-- how many ends of blocks were passed
abbrev pub ends : List ScanStep → ℕ
ends [] = 0
ends (Tried p ∷ steps) = ends steps
ends (Ended ∷ steps) = suc (ends steps)

-- the scan of a code stands here after these steps
abbrev pub StandsAfter : Answers → List PlainBlock → List ScanStep → Scan → Type 0
StandsAfter answer code steps s = (start : Scan) × IsPassStart code start × Goes answer start steps s

-- the scan of a code stands here once so many pairs were tried and so many ends of blocks passed
pub record StandsAt (answer : Answers) (code : List PlainBlock) (n k : ℕ) (s : Scan) : Type 0 where
  pub steps : List ScanStep
  pub stands : StandsAfter answer code steps s
  pub tries : n ≡ length (tried steps)
  pub block_ends : k ≡ ends steps

-- what all passes over a code make of it by these answers, and the pairs that they try
abbrev pub IsScanned : Answers → List PlainBlock → List PlainPair → List PlainBlock → Type 0
IsScanned answer code pairs scanned = (steps : List ScanStep) × StandsAfter answer code steps (Finished scanned)
    × (pairs ≡ tried steps)

-- by slow combination
abbrev pub IsSlowed : Machine → List PlainBlock → List PlainPair → List PlainBlock → Type 0
IsSlowed m code pairs slowed = IsScanned (combination m) code pairs slowed

-- answers by which a scan keeps what a code does: a well-formed pair stays, or this becomes of it that slow
-- combination makes of it
abbrev pub AreSafe : Machine → Answers → Type 0
AreSafe m answer = (p : PlainPair) → WellFormedPair p → (answer p ≡ Kept) ⊎ (answer p ≡ combination m p)
