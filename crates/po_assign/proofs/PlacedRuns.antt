-- Placed code runs as the code before placement.
use Rattle.std.proofs.Common.{◌≡◌, ℕ, zero, suc, Bool, List, [], refl, sym, subst, arith}
use Rattle.std.specs.Prelude.{All, Option, Some, None}
use Rattle.po_term.specs.declared.term.Reg.{Reg as Register}
use Rattle.po_term.specs.Terms.{State}
use Rattle.po_term.specs.Form.{WellFormed}
use Rattle.po_model.specs.declared.machine.Machine.{Machine}
use Rattle.po_model.specs.declared.var.Var.{Var}
use Rattle.po_model.specs.declared.var.Var.TheVariants.{Reg, Cc}
use Rattle.po_model.specs.Blocks.{PlainBlock, instrs_at, EndsLast}
use Rattle.po_model.specs.Effect.{Next}
use Rattle.po_model.specs.LiveAfter.{IsLive}
use Rattle.po_model.specs.Placed.{place_of, placed_at, placed_doings}
use Rattle.po_model.specs.Run.{Doing, Run, Reply, Stop, Before, Behind, starts, run_block, and_run, run_blocks}
use Rattle.po_model.specs.Run.{own_doings, LiveWhere, AlikeAtStart, Same, SameResult}
use Rattle.po_model.specs.UnitCodes.{ReadsBehind}
use Rattle.po_assign.specs.PlacedRuns.{PlacedRunsAlike}
use Rattle.po_assign.proofs.Boundary.{AreBehind}
use Rattle.po_assign.proofs.PlacedReads.{Holds}
use Rattle.po_assign.proofs.PlacedSteps.{Agree, PlacesApart, KeepCc, block_ended}
use Rattle.po_assign.proofs.PlacedLeaving.{leave_ended}
use Rattle.po_assign.proofs.Clobbered.{keeps_cc}
use Rattle.po_assign.proofs.PlacedBlocks.{each_block, places_apart}

module _ (m : Machine) (at : ℕ → ℕ) (code : List PlainBlock) (live : ℕ → ℕ → Bool)
    (last : (b : ℕ) → EndsLast (instrs_at code b)) (formed : (b : ℕ) → All WellFormed (instrs_at code b))
    (behind : AreBehind code)
    (apart : (b : ℕ) → PlacesApart m at code [] (instrs_at code b)) (keeps : (b : ℕ) → KeepCc m at code b (live b) 0
    (instrs_at code b)) where
  -- two runs that can't be told apart
  abbrev Alike : Run → Run → Type 0
  Alike x y = Same code (place_of at) x y

  -- what the placed instructions of each block do
  abbrev placed : ℕ → List Doing
  placed = placed_doings m at code live

  live_alike : (b : ℕ) (x y : Run) → Alike x y → x.at ≡ Before b → (v : Var)
      → IsLive code v (record { block = b; rest = instrs_at code b }) → Holds at x.state y.state v
  live_alike b x y a e (Reg r) l = a.places r (subst (λ stop. LiveWhere code stop (Reg r)) (sym e) l)
  live_alike b x y a e Cc l = a.compared (subst (λ stop. LiveWhere code stop Cc) (sym e) l)

  agree_before : (b : ℕ) (x y : Run) → Alike x y → x.at ≡ Before b → Agree m at code Next b (instrs_at code b) x.state
      y.state
  agree_before b x y a e = record { memory = a.memory; symbols = a.symbols; live = λ v p l. live_alike b x y a e v l }

  -- one block of both
  block_alike : (stop : Stop) (x y : Run) → Alike x y → x.at ≡ stop → SameResult code (place_of at)
      (run_block code (own_doings code) stop x) (run_block code placed stop y)
  block_alike (Before b) x y a e =
      let ended = block_ended m at code behind b (live b) (instrs_at code b) 0 [] x.state y.state (last b) (formed b)
      (behind b) (apart b) (keeps b) (agree_before b x y a e) in
      rw (← a.calls, ← a.replies) (leave_ended m at code b _ _ x.calls x.replies ended)
  block_alike (Behind w) x y a e = a

  next_alike : (x y : Run) → Alike x y → SameResult code (place_of at) (run_block code (own_doings code) x.at x)
      (run_block code placed y.at y)
  next_alike x y a = subst (λ stop. SameResult code (place_of at) (run_block code (own_doings code) x.at x)
      (run_block code placed stop y)) a.stop (block_alike x.at x y a refl)

  both_alike : (go others : Run → Option Run) (o p : Option Run)
      → ((x y : Run) → Alike x y → SameResult code (place_of at) (go x) (others y)) → SameResult code (place_of at) o p
      → SameResult code (place_of at) (and_run code (own_doings code) go o) (and_run code placed others p)
  both_alike go others None None h a = tt
  both_alike go others None (Some y) h a = absurd a
  both_alike go others (Some x) None h a = absurd a
  both_alike go others (Some x) (Some y) h a = h x y a

  -- n blocks of both: either has a result exactly where the other has one
  pub runs_alike : (n : ℕ) (x y : Run) → Alike x y → SameResult code (place_of at)
      (run_blocks code (own_doings code) n x) (run_blocks code placed n y)
  runs_alike zero x y a = a
  runs_alike (suc n) x y a =
      both_alike (run_blocks code (own_doings code) n) (run_blocks code placed n)
      (run_block code (own_doings code) x.at x) (run_block code placed y.at y)
      (λ x y a. runs_alike n x y a) (next_alike x y a)

-- starts that can't be told apart with no replies to come can't be with these
start_same : (code : List PlainBlock) (place : Register → Register) (s t : State) (replies : List Reply)
    → AlikeAtStart code place s t → Same code place (starts s replies) (starts t replies)
start_same code place s t replies a = record {
  stop = refl;
  calls = refl;
  replies = refl;
  memory = a.same.memory;
  symbols = a.same.symbols;
  places = a.same.places;
  compared = a.same.compared;
}

pub placed_runs : PlacedRunsAlike
placed_runs m code live form straight un tells n s t replies a fits =
    let at = placed_at m code in
    let behind : AreBehind code = each_block (λ is. ReadsBehind [] is) tt code straight.behind in
    let last : (b : ℕ) → EndsLast (instrs_at code b) = each_block EndsLast tt code form.ends_last in
    let words : (b : ℕ) → All WellFormed (instrs_at code b) =
    each_block (All WellFormed) (λ k d l. absurd (omega arith)) code form.formed in
    runs_alike m at code live last words behind (places_apart m code un straight.once)
    (keeps_cc m at code live tells) n (starts s replies) (starts t replies)
    (start_same code (place_of at) s t replies a)
