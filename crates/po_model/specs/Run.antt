-- What a code does, block by block, and when two runs can't be told apart.
use Rattle.std.specs.Prelude.{ℕ, zero, suc, ◌≡◌, ◌==◌, ◌<◌, ◌^◌, nat_lt, if◌then◌else◌, List, [], ◌∷◌, ◌++◌, map}
use Rattle.std.specs.Prelude.{length, All, Option, Some, None, ⊤}
use Rattle.po_term.specs.declared.term.Reg.{Reg as Register}
use Rattle.po_term.specs.declared.term.Reg.TheVariants.{Fp, Rv}
use Rattle.po_term.specs.declared.term.Sym.{Sym}
use Rattle.po_term.specs.Terms.{InReg, AtSym, State, IsState}
use Rattle.po_term.specs.Simplified.{same_register}
use Rattle.po_model.specs.declared.var.Var.{Var}
use Rattle.po_model.specs.declared.var.Var.TheVariants.{Reg, Cc}
use Rattle.po_model.specs.Blocks.{PlainBlock, instrs_at, block_with}
use Rattle.po_model.specs.Effect.{Control, Next, Jump, Called, Returned, Effected, effect}
use Rattle.po_model.specs.LiveAfter.{IsLiveAt}

-- a word that is written to an address
pub record Write : Type 0 where
  pub address : ℕ
  pub word : ℕ

-- what comes back from a call: a word for rv, and writes to memory, in order
pub record Reply : Type 0 where
  pub word : ℕ
  pub writes : List Write

-- all of them are words
pub record IsReply (r : Reply) : Type 0 where
  pub word : r.word < 2 ^ 32
  pub writes : All (λ w. w.word < 2 ^ 32) r.writes

-- a call that was made: of what, with which words, and the memory of that moment
pub record Call : Type 0 where
  pub name : Sym
  pub words : List ℕ
  pub memory : ℕ → ℕ

-- where a run stands: before a block, or behind a return of a word
pub data Stop : Type 0 where
  Before : ℕ → Stop
  Behind : ℕ → Stop

-- a run so far: the state, where it stands, the calls that were made, and the replies that are still to come
pub record Run : Type 0 where
  pub state : State
  pub at : Stop
  pub calls : List Call
  pub replies : List Reply

-- the start of a run
abbrev pub starts : State → List Reply → Run
starts s replies = record { state = s; at = Before 0; calls = []; replies = replies }

-- what an instruction does in a state, where it has an effect there
abbrev pub Doing : Type 0
Doing = State → Option Effected

-- on from an instruction, unless it led elsewhere
abbrev pub then_on : Doing → Effected → Control → Option Effected
then_on go d Next = go d.state
then_on go d c = Some d

abbrev pub and_on : Doing → Option Effected → Option Effected
and_on go None = None
and_on go (Some d) = then_on go d d.to

-- instructions one after another
abbrev pub in_turn : List Doing → Doing
in_turn [] s = Some (record { state = s; to = Next })
in_turn (x ∷ xs) s = and_on (in_turn xs) (x s)

-- the words that these writes leave in memory
abbrev pub written : List Write → (ℕ → ℕ) → ℕ → ℕ
written [] memory = memory
written (w ∷ ws) memory = written ws (λ a. if a == w.address then w.word else memory a)

-- the state after a reply
abbrev pub replied : Reply → State → State
replied r s = record {
  place = λ p. if same_register p (InReg Rv) then r.word else s.place p;
  memory = written r.writes s.memory;
  cc = None;
}

module _ (code : List PlainBlock) where
  -- the block of this number, where it is there
  abbrev pub if_there : ℕ → Option ℕ
  if_there b = if nat_lt b (length code) then Some b else None

  abbrev pub stands_before : Option ℕ → State → List Call → List Reply → Option Run
  stands_before None s calls replies = None
  stands_before (Some b) s calls replies = Some (record { state = s; at = Before b; calls = calls; replies = replies })

  -- a call is made, and takes the next reply
  abbrev pub answered : ℕ → Sym → List ℕ → State → List Call → List Reply → Option Run
  answered b f ws s calls [] = None
  answered b f ws s calls (r ∷ rs) = stands_before (if_there (suc b)) (replied r s)
      (calls ++ record { name = f; words = ws; memory = s.memory } ∷ []) rs

  -- from the end of the block b
  abbrev pub leave : ℕ → State → Control → List Call → List Reply → Option Run
  leave b s Next calls replies = stands_before (if_there (suc b)) s calls replies
  leave b s (Jump l) calls replies = stands_before (block_with code l) s calls replies
  leave b s (Called f ws) calls replies = answered b f ws s calls replies
  leave b s (Returned w) calls replies = Some (record { state = s; at = Behind w; calls = calls; replies = replies })

  abbrev pub leave_done : ℕ → Option Effected → List Call → List Reply → Option Run
  leave_done b None calls replies = None
  leave_done b (Some d) calls replies = leave b d.state d.to calls replies

  -- what the instructions of each block do
  module _ (does : ℕ → List Doing) where
    -- one block, unless the run has returned
    abbrev pub run_block : Stop → Run → Option Run
    run_block (Before b) r = leave_done b (in_turn (does b) r.state) r.calls r.replies
    run_block (Behind w) r = Some r

    abbrev pub and_run : (Run → Option Run) → Option Run → Option Run
    and_run go None = None
    and_run go (Some r) = go r

    -- n blocks, or fewer where a return comes first; none where an effect, a reply or a block is missing
    abbrev pub run_blocks : ℕ → Run → Option Run
    run_blocks zero r = Some r
    run_blocks (suc n) r = and_run (run_blocks n) (run_block r.at r)

  -- what the code's own instructions do
  abbrev pub own_doings : ℕ → List Doing
  own_doings b = map effect (instrs_at code b)

  -- n blocks of the code
  abbrev pub run : ℕ → Run → Option Run
  run n r = run_blocks own_doings n r

  -- v is live where a run of the code stands: behind a return only fp is
  abbrev pub LiveWhere : Stop → Var → Type 0
  LiveWhere (Before b) v = IsLiveAt code b v
  LiveWhere (Behind w) v = v ≡ Reg Fp

  -- a run of the code, and one of another code for the same unit, in which each register has its place: they can't be
  -- told apart by memory, by calls, by control, or by what is live
  pub record Same (place : Register → Register) (x y : Run) : Type 0 where
    -- the same next block, or the same word returned
    pub stop : x.at ≡ y.at
    -- the same calls, with the same memory at each, and the same replies to come
    pub calls : x.calls ≡ y.calls
    pub replies : x.replies ≡ y.replies
    pub memory : (a : ℕ) → x.state.memory a ≡ y.state.memory a
    pub symbols : (s : Sym) → x.state.place (AtSym s) ≡ y.state.place (AtSym s)
    -- each register that is live there holds the word that its place holds
    pub places : (r : Register) → LiveWhere x.at (Reg r) → x.state.place (InReg r) ≡ y.state.place (InReg (place r))
    pub compared : LiveWhere x.at Cc → x.state.cc ≡ y.state.cc

  -- neither run has a result, or both have one, and they can't be told apart
  abbrev pub SameResult : (Register → Register) → Option Run → Option Run → Type 0
  SameResult place None None = ⊤
  SameResult place None (Some y) = ⊥
  SameResult place (Some x) None = ⊥
  SameResult place (Some x) (Some y) = Same place x y

  -- two states of words from which runs begin that can't be told apart
  pub record AlikeAtStart (place : Register → Register) (s t : State) : Type 0 where
    pub first : IsState s
    pub second : IsState t
    pub same : Same place (starts s []) (starts t [])
