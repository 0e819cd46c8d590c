-- The code of a unit that asks and returns, and its run.
use Rattle.std.proofs.Common.{◌≡◌, ℕ, [], ◌∷◌, List, refl, sym, subst, arith, None, true}
use Rattle.std.specs.Cmp.Lexicographic.{bytes_decides}
use Rattle.po_term.specs.declared.term.Reg.TheVariants.{Virt, Rv, Arg}
use Rattle.po_term.specs.Tree.{Const}
use Rattle.po_term.specs.Terms.{State}
use Rattle.po_term.specs.Moves.{SetTo, Ends, CallOf, Return}
use Rattle.po_lines.specs.NameList.{has}
use Rattle.po_model.specs.Blocks.{PlainBlock}
use Rattle.po_model.specs.Naive.{Text, number_in, register, virt}
use Rattle.po_model.specs.Run.{Reply, starts, written, run}
use Rattle.po_expand.specs.Results.{Returns, call_with_seven, RunHasResult}
use Rattle.po_expand.proofs.Places.{number_below}

-- the code, where the symbol has this number
abbrev asking_code : ℕ → List PlainBlock
asking_code n = record {
  label = None;
  instrs = (SetTo (Virt 0) (Const 7) ∷ [])
      ∷ (SetTo (Arg 0) (virt 0) ∷ [])
      ∷ (Ends (CallOf (record { 0 = n }) 1) ∷ [])
      ∷ [];
} ∷ record {
  label = None;
  instrs = (SetTo (Virt 1) (register Rv) ∷ []) ∷ (SetTo Rv (virt 1) ∷ []) ∷ (Ends Return ∷ []) ∷ [];
} ∷ []

-- the only name has the number 0
only_number : (g : Text) → number_in (g ∷ []) g ≡ 0
only_number g =
    let there : has g (g ∷ []) ≡ true = rw ((bytes_decides g g).1 refl) refl in
    omega (arith, number_below (g ∷ []) g there)

-- the run of that code has returned
abbrev Answers : State → Reply → ℕ → Type 0
Answers s r n =
    let memory_left = written r.writes s.memory in
    Returns r.word (call_with_seven s.memory) memory_left (run (asking_code n) 2 (starts s (r ∷ [])))

asked : (s : State) (r : Reply) → Answers s r 0
asked s r = record { stop = refl; calls = refl; replies = refl; memory = refl }

pub has_result : RunHasResult
has_result name g s r = subst (λ (n : ℕ). Answers s r n) (sym (only_number g)) (asked s r)
