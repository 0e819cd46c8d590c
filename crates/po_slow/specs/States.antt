-- Where the scan stands that a ScanState holds, and what every ScanState has.
--
-- A block is scanned in place: its first instructions are those that are done, its last ones those that are to come,
-- and what lies between them is left over.
use Rattle.std.specs.Prelude.{ℕ, zero, suc, ◌≡◌, ◌≤◌, ◌<◌, Bool, List, [], ◌∷◌, ◌++◌, map, reverse, take, drop, length}
use Rattle.std.specs.Prelude.{All, Option, Some, None, ⊤}
use Rattle.po_term.specs.Form.{WellFormed}
use Rattle.po_model.specs.declared.machine.Machine.{Machine}
use Rattle.po_model.specs.declared.var.Var.{Var}
use Rattle.po_model.specs.Blocks.{PlainBlock, code_of, instrs_at, EndsLast}
use Rattle.po_live.specs.declared.parts.LiveList.{LiveList}
use Rattle.po_live.specs.Parts.{tells, blocks_in, parts_in, IsLiveList}
use Rattle.po_model.specs.Pairs.{PlainPair, pair_of, WellFormedPair}
use Rattle.po_model.specs.Combined.{Kept, Gone, AsOne, combination, Answer}
use Rattle.po_model.specs.Scanned.{Ahead, Stand, InBlock, Scan, Within, Finished, enter, instrs_ahead, blocks_ahead}
use Rattle.po_model.specs.Scanned.{ready, settled, pair_ready, after_try, IsAtEnd}
use Rattle.po_slow.specs.declared.block.Standing.{Standing}
use Rattle.po_slow.specs.declared.block.Stage.{Stage}
use Rattle.po_slow.specs.declared.block.Stage.TheVariants as stage
use Rattle.po_slow.specs.declared.state.Ask.{Ask}
use Rattle.po_slow.specs.declared.state.Ask.TheVariants as ask
use Rattle.po_slow.specs.declared.state.ScanState.{ScanState}
use Rattle.po_term.specs.Moves.{PlainInstr}
use Rattle.po_model.specs.Parts.{ending_of}
use Rattle.po_model.specs.UnitCodes.{IsFormedCode}

-- The place

-- where the scan of a block stands whose first instructions are done and that goes on at the place `next`
abbrev pub stand_at : List PlainInstr → (ℕ → Var → Bool) → ℕ → ℕ → Bool → Stand
stand_at xs live done next changed = record {
  done = reverse (take done xs);
  rest = instrs_ahead live next (drop next xs);
  changed = changed;
}

-- on from there
abbrev pub on : (List PlainInstr → List Ahead → Bool → Stand) → Stand → Stand
on f s = f s.done s.rest s.changed

-- the next instruction is done
abbrev pub take_next : List PlainInstr → List Ahead → Bool → Stand
take_next done [] changed = record { done = done; rest = []; changed = changed }
take_next done (x ∷ xs) changed = record { done = x.instr ∷ done; rest = xs; changed = changed }

-- where the scan of a code stands in the first of these blocks, the b-th of the code; at the finish where there is
-- none
abbrev pub place_in : (ℕ → ℕ → Var → Bool) → ℕ → ℕ → ℕ → Bool → List PlainBlock → List PlainBlock → Scan
place_in live b done next changed passed [] = Finished (reverse passed)
place_in live b done next changed passed (x ∷ xs) = Within (record {
  label = x.label;
  stand = stand_at x.instrs (live b) done next changed;
  passed = passed;
  coming = blocks_ahead live (suc b) xs;
})

-- where it stands in the b-th block
abbrev pub place_at : List PlainBlock → (ℕ → ℕ → Var → Bool) → ℕ → ℕ → ℕ → Bool → Scan
place_at code live b done next changed = place_in live b done next changed (reverse (take b code)) (drop b code)

-- where it stands in the b-th block, with what this list says is live
abbrev pub scan_by : List PlainBlock → LiveList → ℕ → Standing → Scan
scan_by code lives b at = place_at code (tells lives) b at.done at.next at.changed

-- where the scan of a ScanState stands
abbrev pub scan_of : ScanState → Scan
scan_of s = scan_by (code_of s.code) s.lives s.block s.at

-- into the b-th block of a code, or to the finish where there is none
abbrev pub enter_at : List PlainBlock → LiveList → ℕ → Bool → Scan
enter_at code lives b changed = enter (reverse (take b code)) (blocks_ahead (tells lives) b (drop b code)) changed

-- on within the block
abbrev pub within : (Stand → Stand) → Scan → Scan
within f (Within s) = Within (record { label = s.label; stand = f s.stand; passed = s.passed; coming = s.coming })
within f (Finished code) = Finished code

-- What is asked

-- the scan is at its finish
abbrev pub IsFinished : Scan → Type 0
IsFinished (Within s) = ⊥
IsFinished (Finished code) = ⊤

-- what the scan asks for: the answer for the pair that is ready, the next block, or nothing any more
abbrev pub Asks : Scan → Ask → Type 0
Asks s (ask.Pair p) = (pair_ready s ≡ Some (pair_of p)) × WellFormedPair (pair_of p)
Asks s ask.BlockEnd = IsAtEnd s
Asks s ask.Finished = IsFinished s

-- an answer may be given for the pair that is ready: one instruction is well formed, and has a control transfer only
-- where B has one
abbrev pub CanAnswer : Option PlainPair → Answer → Type 0
CanAnswer None o = ⊥
CanAnswer (Some p) Kept = ⊤
CanAnswer (Some p) Gone = ⊤
CanAnswer (Some p) (AsOne y) = WellFormed y × (ending_of p.b ≡ None → ending_of y ≡ None)

-- the answer of slow combination for the pair that is ready
abbrev pub IsAnswer : Machine → Option PlainPair → Answer → Type 0
IsAnswer m None o = ⊥
IsAnswer m (Some p) o = o ≡ combination m p

-- the pair that is ready was tried, within a block
pub record IsTriedIn (m : Machine) (s t : Stand) : Type 0 where
  pub outcome : Answer
  pub is_answer : IsAnswer m (ready s.done s.rest) outcome
  pub goes_on : t ≡ on (settled outcome) s

-- the pair that is ready was tried
pub record IsTried (m : Machine) (s t : Scan) : Type 0 where
  pub outcome : Answer
  pub is_answer : IsAnswer m (pair_ready s) outcome
  pub goes_on : t ≡ after_try outcome s

-- What every ScanState has

-- the instructions of a block that is scanned: those that are done, and those that are to come
abbrev pub instrs_in : Stand → List PlainInstr
instrs_in s = reverse s.done ++ map (λ x. x.instr) s.rest

-- the instructions of a block are well formed, and a control transfer stands only in the last one
pub record IsFormedList (xs : List PlainInstr) : Type 0 where
  pub ends_last : EndsLast xs
  pub formed : All WellFormed xs

-- that in all blocks, of those to come as they were at the start of the pass; and the block's end is reached where
-- nothing is done
pub record IsFormedBlock (s : InBlock) : Type 0 where
  pub here : IsFormedList (instrs_in s.stand)
  pub passed : All (λ b. IsFormedList b.instrs) s.passed
  pub coming : All (λ b. IsFormedList (map (λ x. x.instr) b.instrs)) s.coming
  pub onward : s.stand.done ≡ [] → s.stand.rest ≡ []

abbrev pub IsFormedScan : Scan → Type 0
IsFormedScan (Within s) = IsFormedBlock s
IsFormedScan (Finished code) = IsFormedCode code

-- the scan stands within the code, and the list has a part for each instruction of the block and of those to come
pub record IsPlaced (code : List PlainBlock) (lives : LiveList) (b : ℕ) (at : Standing) : Type 0 where
  pub blocks : b ≤ length code
  pub list : IsLiveList lives
  pub sets : blocks_in lives ≡ length code
  pub lengths : (c : ℕ) → b ≤ c → length (instrs_at code c) ≤ parts_in lives c
  pub done : at.done ≤ at.next
  pub next : at.next ≤ length (instrs_at code b)

-- a pair is ready in the b-th block
pub record HasPair (code : List PlainBlock) (b : ℕ) (at : Standing) : Type 0 where
  pub block : b < length code
  pub done : 0 < at.done
  pub next : at.next < length (instrs_at code b)

-- the block from which the scan goes on is cut to what is done
pub record IsCut (code : List PlainBlock) (b : ℕ) (at : Standing) : Type 0 where
  pub block : b < length code
  pub done : at.done ≡ length (instrs_at code b)
  pub next : at.next ≡ at.done

-- the b-th block is cut to its first instructions
abbrev pub cut : List PlainBlock → ℕ → ℕ → List PlainBlock
cut [] b n = []
cut (x ∷ xs) zero n = record { label = x.label; instrs = take n x.instrs } ∷ xs
cut (x ∷ xs) (suc b) n = x ∷ cut xs b n

-- how the scan stands: a pair is ready, a block is at its end, or all blocks are passed
abbrev pub StandsAs : List PlainBlock → LiveList → ℕ → Standing → Stage → Type 0
StandsAs code lives b at stage.Ready = HasPair code b at
StandsAs code lives b at stage.AtEnd = (b < length code) × IsAtEnd (scan_by code lives b at)
StandsAs code lives b at stage.Over = length code ≤ b

pub record IsFormedState (s : ScanState) : Type 0 where
  pub placed : IsPlaced (code_of s.code) s.lives s.block s.at
  pub formed : IsFormedScan (scan_of s)
  -- each block has its marks
  pub beside : length s.marks.items ≡ length (code_of s.code)
