-- The placed code of a unit runs as its naive code, and placed slowed code runs as the code.
use Rattle.std.proofs.Common.{◌≡◌, ℕ, zero, suc, Bool, List, [], ◌∷◌, All, Option, Some, None, refl, ap, sym, ◌∙◌}
use Rattle.std.proofs.Common.{subst, arith}
use Rattle.std.specs.List.{AllZip}
use Rattle.po_term.specs.declared.term.Reg.{Reg as Register}
use Rattle.po_term.specs.declared.term.Reg.TheVariants.{Virt, Fp, Rv, Arg}
use Rattle.po_term.specs.Form.{IsFixed}
use Rattle.po_term.specs.Terms.{InReg, State, IsState}
use Rattle.po_ir.specs.declared.unit.Unit.{Unit as StackUnit}
use Rattle.po_model.specs.declared.machine.Machine.{Machine}
use Rattle.po_model.specs.declared.var.Var.TheVariants.{Reg, Cc}
use Rattle.po_model.specs.Blocks.{PlainBlock}
use Rattle.po_model.specs.Combined.{combination}
use Rattle.po_model.specs.Fitted.{TellsCc}
use Rattle.po_model.specs.LiveAfter.{IsLiveAt}
use Rattle.po_model.specs.Machines.{IsMachine}
use Rattle.po_model.specs.Naive.{naive}
use Rattle.po_model.specs.Placed.{place_of, placed_at}
use Rattle.po_model.specs.Run.{Run, Reply, IsReply, LiveWhere, AlikeAtStart, Same, SameResult}
use Rattle.po_model.specs.UnitCodes.{PlainUnit, IsUnitCode, IsFormedCode, IsStraight}
use Rattle.po_slow.specs.Passes.{KeepsForm, IsSlowedUnit}
use Rattle.po_slow.proofs.KeptForm.{form_kept}
use Rattle.po_slow.proofs.LivenessPasses.{make_nothing_live}
use Rattle.po_slow.proofs.RunsPasses.{passes_keep_runs}
use Rattle.po_slow.proofs.RunsStart.{live_fixed}
use Rattle.po_assign.proofs.PlacedRuns.{placed_runs}
use Rattle.po_expand.proofs.CcAtStarts.{cc_dead}
use Rattle.po_compile.specs.declared.mode.Mode.{Mode}
use Rattle.po_compile.specs.declared.mode.Mode.TheVariants.{Naive, Slow, Opt}
use Rattle.po_compile.specs.Modes.{IsCodeIn}
use Rattle.po_compile.specs.Output.{HasRoom, naive_codes}
use Rattle.po_compile.specs.Runs.{AgreeOnFixed, RunAlike, RunsAsNaive, PlacedSlowedRunsAlike}
use Rattle.po_compile.proofs.Slowed.{combination_safe}

-- Three runs

-- what can't be told from y, which can't be told from z, can't be told from z
same_chain : (code : List PlainBlock) (at : Register → Register) (x y z : Run)
    → Same code (λ r. r) x y → Same code at y z → Same code at x z
same_chain code at x y z a b = record {
  stop = a.stop ∙ b.stop;
  calls = a.calls ∙ b.calls;
  replies = a.replies ∙ b.replies;
  memory = λ c. a.memory c ∙ b.memory c;
  symbols = λ s. a.symbols s ∙ b.symbols s;
  places = λ r live. a.places r live ∙ b.places r (subst (λ stop. LiveWhere code stop (Reg r)) a.stop live);
  compared = λ live. a.compared live ∙ b.compared (subst (λ stop. LiveWhere code stop Cc) a.stop live);
}

result_chain : (code : List PlainBlock) (at : Register → Register) (x y z : Option Run)
    → SameResult code (λ r. r) x y → SameResult code at y z → SameResult code at x z
result_chain code at None None None a b = tt
result_chain code at None None (Some z) a b = absurd b
result_chain code at None (Some y) z a b = absurd a
result_chain code at (Some x) None z a b = absurd a
result_chain code at (Some x) (Some y) None a b = absurd b
result_chain code at (Some x) (Some y) (Some z) a b = same_chain code at x y z a b

-- Where runs begin

fixed_stays : (at : ℕ → ℕ) (r : Register) → IsFixed r → place_of at r ≡ r
fixed_stays at (Virt v) f = absurd f
fixed_stays at Fp f = refl
fixed_stays at Rv f = refl
fixed_stays at (Arg n) f = refl

-- only fixed registers are live at the start of a straight code, and each of them is its own place
start_alike : (code : List PlainBlock) (at : ℕ → ℕ) (s t : State) → IsStraight code → IsFormedCode code
    → AgreeOnFixed s t → (IsLiveAt code 0 Cc → s.cc ≡ t.cc) → AlikeAtStart code (place_of at) s t
start_alike code at s t straight formed h compared = record {
  first = h.first;
  second = h.second;
  same = record {
    stop = refl;
    calls = refl;
    replies = refl;
    memory = h.memory;
    symbols = h.symbols;
    places = λ r live. let fixed : IsFixed r = live_fixed code straight formed 0 r live in
        h.fixed r fixed ∙ ap (λ (q : Register). t.place (InReg q)) (sym (fixed_stays at r fixed));
    compared = compared;
  };
}

start_self : (code : List PlainBlock) (s : State) → IsState s → AlikeAtStart code (λ r. r) s s
start_self code s h = record {
  first = h;
  second = h;
  same = record {
    stop = refl;
    calls = refl;
    replies = refl;
    memory = λ a. refl;
    symbols = λ y. refl;
    places = λ r live. refl;
    compared = λ live. refl;
  };
}

-- Placed code

-- placed code runs as the code
placed_run : (m : Machine) (u : PlainUnit) (live : ℕ → ℕ → Bool) → IsFormedCode u.code → IsStraight u.code
    → HasRoom m u
    → TellsCc u.code live → (n : ℕ) (s t : State) (replies : List Reply) → AgreeOnFixed s t
    → (IsLiveAt u.code 0 Cc → s.cc ≡ t.cc)
    → All IsReply replies → RunAlike m u.code u.code live n s t replies
placed_run m u live formed straight room tells n s t replies alike compared are =
    placed_runs m u.code live formed straight room tells n s t replies
    (start_alike u.code (placed_at m u.code) s t straight formed alike compared) are

-- what was made of a code by all passes, and then placed, runs as the code
pub slowed_run : PlacedSlowedRunsAlike
slowed_run m code slowed pairs live is formed straight passed room tells n s t replies alike compared are =
    let safe = combination_safe m in
    let kept : KeepsForm m code slowed = form_kept m (combination m) code slowed pairs is safe formed passed in
    let still = make_nothing_live m (combination m) code slowed pairs is safe formed passed 0 Cc in
    let passes = passes_keep_runs m (combination m) code slowed pairs is safe formed passed n s s replies
    (start_self slowed s alike.first) are in
    let placed = placed_runs m slowed live kept.formed (kept.straight straight) room tells n s t replies
    (start_alike slowed (placed_at m slowed) s t (kept.straight straight) kept.formed alike (λ l. compared (still l)))
    are in
    result_chain slowed (place_of (placed_at m slowed)) _ _ _ passes placed

-- Units

-- naive code at whose start cc isn't live
naive_runs : (m : Machine) (u : PlainUnit) → (IsLiveAt u.code 0 Cc → ⊥) → IsUnitCode u → HasRoom m u
    → RunsAsNaive m u u
naive_runs m u dead h room live n s t replies tells alike are =
    placed_run m u live h.placeable.form h.placeable.straight room tells n s t replies alike (λ l. absurd (dead l)) are

-- what all passes make of such a code
slowed_runs : (m : Machine) (u v : PlainUnit) (tries : ℕ) → IsMachine m → IsSlowedUnit m u v tries
    → (IsLiveAt u.code 0 Cc → ⊥) → IsUnitCode u → HasRoom m v → RunsAsNaive m u v
slowed_runs m u v tries is s dead h room = λ live n x y replies tells alike are.
    slowed_run m u.code v.code s.pairs live is h.placeable.form h.placeable.straight s.slowed room tells
    n x y replies alike (λ l. absurd (dead l)) are

-- a code that the mode makes of such a code
code_runs : (mode : Mode) (m : Machine) (u v : PlainUnit) → IsMachine m → IsCodeIn mode m u v
    → (IsLiveAt u.code 0 Cc → ⊥) → IsUnitCode u → HasRoom m v → RunsAsNaive m u v
code_runs Naive m u v is same dead h room =
    let here : HasRoom m u = subst (λ (v : PlainUnit). HasRoom m v) same room in
    subst (λ (v : PlainUnit). RunsAsNaive m u v) (sym same) (naive_runs m u dead h here)
code_runs Slow m u v is (tries, s) dead h room = slowed_runs m u v tries is s dead h room
code_runs Opt m u v is (tries, s) dead h room = slowed_runs m u v tries is s dead h room

pub codes_run : (mode : Mode) (m : Machine) (us : List StackUnit) (vs : List PlainUnit) → IsMachine m
    → AllZip (IsCodeIn mode m) (naive_codes us) vs → All IsUnitCode (naive_codes us) → All (HasRoom m) vs
    → AllZip (RunsAsNaive m) (naive_codes us) vs
codes_run mode m [] [] is z formed room = tt
codes_run mode m [] (v ∷ vs) is z formed room = absurd z
codes_run mode m (u ∷ us) [] is z formed room = absurd z
codes_run mode m (u ∷ us) (v ∷ vs) is z formed room = (
  code_runs mode m (naive u) v is z.0 (cc_dead u 0) (formed zero v (omega arith)) (room zero v (omega arith)),
  codes_run mode m us vs is z.1 (λ k d h. formed (suc k) d (omega arith)) (λ k d h. room (suc k) d (omega arith)),
)
