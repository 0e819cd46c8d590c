-- No entry fits a list that is longer than each pattern.
use Rattle.std.proofs.Common.{◌≡◌, ℕ, suc, ◌<◌, Bool, true, false, List, [], ◌∷◌, Option, Some, None, length, refl, ap}
use Rattle.std.proofs.Common.{◌∙◌, arith}
use Rattle.std.specs.Prelude.{◌&&◌, if◌then◌else◌}
use Rattle.std.proofs.lemmas.List.{length-map}
use Rattle.po_term.specs.Moves.{PlainInstr}
use Rattle.po_term.specs.Kinds.{words, Met, give, and_then}
use Rattle.po_model.specs.declared.machine.Entry.{Entry}
use Rattle.po_model.specs.declared.machine.Machine.{Machine}
use Rattle.po_model.specs.Patterns.{PatMove, pat_move_of, pat_moves_of}
use Rattle.po_model.specs.Parts.{code_leaves}
use Rattle.po_model.specs.Fit.{both, or_later, move_found, moves_found, answered, entry_fit, first_fit, fit}
use Rattle.po_recog.specs.declared.index.Index.{Index}
use Rattle.po_recog.proofs.Walks.{nothing_behind}
use Rattle.po_recog.specs.Indexes.{IsIndexOf, most_transfers}

none_found : (ps : List PatMove) (ms : PlainInstr) → length ps < length ms → moves_found code_leaves ps ms ≡ None
none_found [] [] h = absurd (omega arith)
none_found [] (m ∷ ms) h = refl
none_found (p ∷ ps) [] h = absurd (omega arith)
none_found (p ∷ ps) (m ∷ ms) h =
    ap (λ found. both (move_found code_leaves p m) found) (none_found ps ms (omega arith))
    ∙ nothing_behind (move_found code_leaves p m)

entry_none : (e : Entry) (cc_live : Bool) (ms : PlainInstr)
    → moves_found code_leaves (pat_moves_of e.pattern) ms ≡ None
    → (entry_fit code_leaves words cc_live e ms).got ≡ None
entry_none e cc_live ms none = go (e.clobbers && cc_live)
  where
    go : (b : Bool)
        → (if b then give {K = ℕ} None
        else answered code_leaves words (moves_found code_leaves (pat_moves_of e.pattern) ms)).got ≡ None
    go true = refl
    go false = rw none refl

none_first : (cc_live : Bool) (es : List Entry) (n : ℕ) (ms : PlainInstr) → most_transfers es < length ms
    → (first_fit code_leaves words cc_live es n ms).got ≡ None
none_first cc_live [] n ms long = refl
none_first cc_live (e ∷ es) n ms long =
    let later = none_first cc_live es (suc n) ms (omega arith) in
    rw (entry_none e cc_live ms
    (none_found (pat_moves_of e.pattern) ms (omega (arith, length-map e.pattern pat_move_of)))) later

-- what is longer than the longest entry fits none
pub none_fits : (m : Machine) (index : Index) (cc_live : Bool) (ms : PlainInstr) → IsIndexOf m index
    → index.most < length ms → fit m cc_live ms ≡ None
none_fits m index cc_live ms of_machine long = none_first cc_live m.entries 0 ms (omega (arith, of_machine.most))
