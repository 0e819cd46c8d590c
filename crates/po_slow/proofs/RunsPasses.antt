-- All passes over a code keep its runs.
use Rattle.std.proofs.Common.{◌≡◌, ℕ, zero, suc, ◌<◌, List, [], ◌∷◌, length, reverse, map, refl, subst, arith}
use Rattle.std.specs.Prelude.{All, Option, Some, None}
use Rattle.std.proofs.lemmas.List.Elements.{All-nil, All-cons, All-head, All-tail}
use Rattle.po_term.specs.Terms.{State}
use Rattle.po_term.specs.Form.{WellFormed}
use Rattle.po_model.specs.declared.machine.Machine.{Machine}
use Rattle.po_model.specs.Blocks.{PlainBlock, instrs_at, EndsLast}
use Rattle.po_model.specs.Machines.{IsMachine}
use Rattle.po_model.specs.Pairs.{PlainPair}
use Rattle.po_model.specs.Run.{Reply, IsReply, Run, starts, run, AlikeAtStart, SameResult}
use Rattle.po_model.specs.Scanned.{Ahead, Tells, Answers, IsScanned, AreSafe}
use Rattle.po_model.specs.UnitCodes.{IsFormedCode}
use Rattle.po_slow.specs.Passes.{PassesKeepRuns}
use Rattle.po_slow.proofs.Passes.{Told, Laws, by_passes, label_of}
use Rattle.po_slow.proofs.Onto.{onto_reverse}
use Rattle.po_slow.proofs.Blockwise.{all_blocks, same_length}
use Rattle.po_slow.proofs.LivenessPass.{Standing}
use Rattle.po_slow.proofs.LivenessCode.{MakesNothingLive, liveness_laws}
use Rattle.po_slow.proofs.RunsRead.{alike_self}
use Rattle.po_slow.proofs.RunsReplace.{AreFormed, Replaces, doing, doing_fits}
use Rattle.po_slow.proofs.RunsWithin.{OutOf, Within, within_start, within_taken, within_dropped, within_gone}
use Rattle.po_slow.proofs.RunsWithin.{within_one}
use Rattle.po_slow.proofs.RunsLeave.{BothStand}
use Rattle.po_slow.proofs.Blockwise.{each_block}
use Rattle.po_slow.proofs.RunsBlocks.{RunsAs, runs_join, both_less, both_join, blocks_stand}
use Rattle.po_slow.proofs.RunsStart.{starts_together, start_together}
use Rattle.po_term.specs.Moves.{PlainInstr}

-- The blocks of a code in form

are_formed : (xs : List PlainInstr) → All WellFormed xs → AreFormed xs
are_formed [] h = tt
are_formed (x ∷ xs) h = (All-head WellFormed x xs h, are_formed xs (All-tail WellFormed x xs h))

all_formed : (xs : List PlainInstr) → AreFormed xs → All WellFormed xs
all_formed [] h = All-nil WellFormed
all_formed (x ∷ xs) h = All-cons WellFormed x xs h.0 (all_formed xs h.1)

-- a fact of each block of two codes, and of blocks that aren't there
at_all : (P : ℕ → List PlainInstr → List PlainInstr → Type 0) (xs ys : List PlainBlock) → length ys ≡ length xs
    → ((b : ℕ) → P b [] []) → ((b : ℕ) → b < length xs → P b (instrs_at xs b) (instrs_at ys b)) → (b : ℕ)
    → P b (instrs_at xs b) (instrs_at ys b)
at_all P [] [] e n h b = n b
at_all P [] (y ∷ ys) e n h b = absurd (omega (arith, e))
at_all P (x ∷ xs) [] e n h b = absurd (omega (arith, e))
at_all P (x ∷ xs) (y ∷ ys) e n h zero = h zero (omega arith)
at_all P (x ∷ xs) (y ∷ ys) e n h (suc b) =
    at_all (λ c. P (suc c)) xs ys (omega (arith, e)) (λ c. n (suc c)) (λ c l. h (suc c) (omega (arith, l))) b

-- A pass

module _ (m : Machine) (allowed : IsMachine m) where
  formed_at : (code : List PlainBlock) → IsFormedCode code → (b : ℕ) → AreFormed (instrs_at code b)
  formed_at code before b =
      are_formed (instrs_at code b) (each_block (λ xs. All WellFormed xs) (All-nil WellFormed) code b before.formed)

  ends_at : (code : List PlainBlock) → IsFormedCode code → (b : ℕ) → EndsLast (instrs_at code b)
  ends_at code before b = each_block EndsLast tt code b before.ends_last

  -- where the scan of a block stands: it does what the block did, and makes nothing live
  abbrev Holds : List PlainBlock → Told → ℕ → List PlainInstr → List Ahead → Type 0
  Holds code live b done rest = Within code b done rest × Standing m code b done rest

  shrinking : Laws m IsFormedCode (MakesNothingLive m) (λ code live b done rest. Standing m code b done rest)
  shrinking = liveness_laws m allowed

  -- what was done of a block is what it is after the pass
  done_within : (code next : List PlainBlock) (b : ℕ) → Within code b (reverse (instrs_at next b)) []
      → AreFormed (instrs_at next b) × EndsLast (instrs_at next b)
      × Replaces (OutOf code b) (instrs_at code b) (instrs_at next b)
  done_within code next b w =
      let e = onto_reverse (instrs_at next b) in (
        subst (λ (xs : List PlainInstr). AreFormed xs) e w.formed,
        subst (λ (xs : List PlainInstr). EndsLast xs) e w.ends,
        subst (λ (xs : List PlainInstr). Replaces (OutOf code b) (instrs_at code b) xs) e w.same,
      )

  over : (code : List PlainBlock) (live : Told) → IsFormedCode code → Tells code live → (next : List PlainBlock)
      → map label_of next ≡ map label_of code
      → ((b : ℕ) → b < length code → Holds code live b (reverse (instrs_at next b)) [])
      → RunsAs code next × IsFormedCode next
  over code live before tells next labels h =
      let long = same_length next code labels in
      let smaller = (shrinking.over code live before tells next labels (λ b l. (h b l).1)).0.live in
      let at = λ (b : ℕ) (l : b < length code). done_within code next b (h b l).0 in
      let same = at_all (λ b xs ys. Replaces (OutOf code b) xs ys) code next long
      (λ b s fits. alike_self (OutOf code b) (doing [] s) fits) (λ b l. (at b l).2) in (
        record {
          lives = smaller;
          runs =
              λ n x y t. both_less next code smaller (run code n x) (run next n y)
              (blocks_stand code next labels (formed_at code before) (ends_at code before) same n x y t);
        },
        record {
          ends_last = all_blocks EndsLast next (λ b l. (at b (omega (arith, l, long))).1);
          formed =
              all_blocks (λ xs. All WellFormed xs) next
              (λ b l. all_formed (instrs_at next b) (at b (omega (arith, l, long))).0);
        },
      )

  runs_laws : Laws m IsFormedCode RunsAs Holds
  runs_laws = record {
    joins = runs_join;
    start =
        λ code live before tells b l. (
          within_start code live tells b (formed_at code before b) (ends_at code before b),
          shrinking.start code live before tells b l,
        );
    formed = λ code live before tells b d done x xs h. shrinking.formed code live before tells b d done x xs h.1;
    dropped =
        λ code live before tells b done x xs h dead.
        (within_dropped code b done x xs h.0 dead, shrinking.dropped code live before tells b done x xs h.1 dead);
    taken =
        λ code live before tells b done x xs h.
        (within_taken code b done x xs h.0, shrinking.taken code live before tells b done x xs h.1);
    gone =
        λ code live before tells b d done x xs h e.
        (within_gone m code b d done x xs h.0 e, shrinking.gone code live before tells b d done x xs h.1 e);
    one =
        λ code live before tells b d done x xs y h e. (
          within_one m code b d done x xs h.0 allowed y e,
          shrinking.one code live before tells b d done x xs y h.1 e,
        );
    over = over;
  }

  -- All passes

  same_result : (scanned : List PlainBlock) (o p : Option Run) → BothStand scanned o p
      → SameResult scanned (λ r. r) o p
  same_result scanned None None t = tt
  same_result scanned (Some x) (Some y) t = record {
    stop = t.stop;
    calls = t.calls;
    replies = t.replies;
    memory = t.agree.memory;
    symbols = t.agree.symbols;
    places = t.agree.registers;
    compared = t.agree.compared;
  }
  same_result scanned None (Some y) t = absurd t
  same_result scanned (Some x) None t = absurd t

  -- from states that agree on what is live at its start, a code runs alike
  runs_alike : (code : List PlainBlock) → IsFormedCode code → (n : ℕ) (s t : State) (replies : List Reply)
      → AlikeAtStart code (λ r. r) s t
      → All IsReply replies → BothStand code (run code n (starts s replies)) (run code n (starts t replies))
  runs_alike code formed n s t replies a h =
      blocks_stand code code refl (formed_at code formed) (ends_at code formed)
      (λ b u fits. alike_self (OutOf code b) (doing (instrs_at code b) u)
      (doing_fits (instrs_at code b) u (formed_at code formed b) fits))
      n (starts s replies) (starts t replies) (starts_together code s t replies a h)

  -- the code before the passes and the code after them from one state, and then the latter from both
  scanned_runs : (answer : Answers) → AreSafe m answer → (code scanned : List PlainBlock) (pairs : List PlainPair)
      → IsFormedCode code → IsScanned answer code pairs scanned
      → (n : ℕ) (s t : State) (replies : List Reply) → AlikeAtStart scanned (λ r. r) s t → All IsReply replies
      → SameResult scanned (λ r. r) (run code n (starts s replies)) (run scanned n (starts t replies))
  scanned_runs answer safe code scanned pairs before is n s t replies a h =
      let made = by_passes runs_laws answer safe code scanned pairs before is in
      same_result scanned (run code n (starts s replies)) (run scanned n (starts t replies))
      (both_join scanned (run code n (starts s replies)) (run scanned n (starts s replies))
      (run scanned n (starts t replies))
      (made.0.runs n (starts s replies) (starts s replies) (start_together code s replies a.first h))
      (runs_alike scanned made.1 n s t replies a h))

pub passes_keep_runs : PassesKeepRuns
passes_keep_runs m answer code scanned pairs allowed safe before is n s t replies a h =
    scanned_runs m allowed answer safe code scanned pairs before is n s t replies a h
