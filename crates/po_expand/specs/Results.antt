-- A run of naive code that has a result.
use Rattle.std.specs.Prelude.{ℕ, ◌≡◌, [], ◌∷◌, Option, Some, None}
use Rattle.po_term.specs.Terms.{State}
use Rattle.po_ir.specs.declared.unit.Op.TheVariants as op
use Rattle.po_ir.specs.declared.unit.Unit.{Unit as StackUnit}
use Rattle.po_model.specs.Naive.{Text, naive}
use Rattle.po_model.specs.Run.{Call, Reply, Run, Behind, starts, written, run}

-- the unit that asks g what it answers to 7, and returns that
abbrev pub asking : Text → Text → StackUnit
asking name g = record { name = name; ops = op.Con 7 ∷ op.Arg 0 ∷ op.Call g 1 ∷ op.Ret ∷ [] }

-- a run that has returned this word: this call alone was made, no reply is left, and this is left in memory
pub record HasReturned (word : ℕ) (call : Call) (left : ℕ → ℕ) (x : Run) : Type 0 where
  pub stop : x.at ≡ Behind word
  pub calls : x.calls ≡ call ∷ []
  pub replies : x.replies ≡ []
  pub memory : x.state.memory ≡ left

-- there is a result, and it has returned
abbrev pub Returns : ℕ → Call → (ℕ → ℕ) → Option Run → Type 0
Returns word call left None = ⊥
Returns word call left (Some x) = HasReturned word call left x

-- the call of the unit's only symbol with the word 7, in this memory
abbrev pub call_with_seven : (ℕ → ℕ) → Call
call_with_seven memory = record { name = record { 0 = 0 }; words = 7 ∷ []; memory = memory }

-- in two blocks, from each state and with each reply: it calls with 7, and returns the reply's word
abbrev pub RunHasResult : Type 0
RunHasResult = (name g : Text) (s : State) (r : Reply) →
    let memory_left = written r.writes s.memory in
    Returns r.word (call_with_seven s.memory) memory_left (run (naive (asking name g)).code 2 (starts s (r ∷ [])))
