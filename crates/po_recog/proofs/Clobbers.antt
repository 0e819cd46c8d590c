-- An entry that clobbers cc fits where cc is dead or not at all.
use Rattle.std.proofs.Common.{ℕ, Bool, true, false, List, [], ◌∷◌, Option, Some, None, suc, refl}
use Rattle.std.specs.Prelude.{◌&&◌, if◌then◌else◌, IsSome}
use Rattle.po_term.specs.declared.term.Reg.{Reg as Register}
use Rattle.po_term.specs.declared.term.Sym.{Sym as Symbol}
use Rattle.po_term.specs.Moves.{PlainInstr}
use Rattle.po_term.specs.Kinds.{Met, give, words}
use Rattle.po_model.specs.declared.machine.Entry.{Entry}
use Rattle.po_model.specs.declared.machine.Machine.{Machine}
use Rattle.po_model.specs.Patterns.{pat_moves_of}
use Rattle.po_model.specs.Fit.{Found, moves_found, answered, or_later, first_fit, fit}
use Rattle.po_model.specs.Parts.{code_leaves}

abbrev Finds : Type 0
Finds = List (Found ℕ Register Symbol)

abbrev Later : Type 0
Later = Met ℕ (Option (ℕ × Finds))

-- a marked entry is passed over where cc is live, and another one is the same for both
step : (c : Bool) (n : ℕ) (found : Met ℕ (Option Finds)) (live dead : Later) → (IsSome live.got → IsSome dead.got)
    → IsSome (or_later n (if c && true then give {K = ℕ} None else found).got live).got
    → IsSome (or_later n (if c && false then give {K = ℕ} None else found).got dead).got
step true n found live dead later h = go found.got (later h)
  where
    go : (o : Option Finds) → IsSome dead.got → IsSome (or_later n o dead).got
    go None h = h
    go (Some fs) h = refl
step false n found live dead later h = go found.got h
  where
    go : (o : Option Finds) → IsSome (or_later n o live).got → IsSome (or_later n o dead).got
    go None h = later h
    go (Some fs) h = refl

first_dead : (es : List Entry) (n : ℕ) (ms : PlainInstr) → IsSome (first_fit code_leaves words true es n ms).got
    → IsSome (first_fit code_leaves words false es n ms).got
first_dead [] n ms h = h
first_dead (e ∷ es) n ms h =
    step e.clobbers n (answered code_leaves words (moves_found code_leaves (pat_moves_of e.pattern) ms))
    (first_fit code_leaves words true es (suc n) ms) (first_fit code_leaves words false es (suc n) ms)
    (first_dead es (suc n) ms) h

pub fits_dead : (m : Machine) (ms : PlainInstr) → IsSome (fit m true ms) → IsSome (fit m false ms)
fits_dead m ms h = first_dead m.entries 0 ms h
