-- What a list of transfers has that an entry fits: it is as long, and its terms are as large, as those of an
-- instruction may be.
use Rattle.std.specs.Prelude.{ℕ, ◌≤◌, Bool, length, All, IsSome, ⊤}
use Rattle.po_term.specs.Tree.{Tree, tree_size, tree_depth}
use Rattle.po_term.specs.Terms.{Place}
use Rattle.po_term.specs.Moves.{GoTo, IfCc, IfTwo, CallOf, Return, SetTo, CcTo, StoreTo, Ends, PlainMove, PlainInstr}
use Rattle.po_model.specs.declared.machine.Machine.{Machine}
use Rattle.po_model.specs.Machines.{IsMachine}
use Rattle.po_model.specs.Fit.{fit}

-- a term that has no more nodes, and is no deeper, than one of an instruction may
pub record IsSmall (t : Tree ℕ Place) : Type 0 where
  pub size : tree_size t ≤ 64
  pub depth : tree_depth t ≤ 16

-- the terms of a transfer
abbrev pub HasSmallTerms : PlainMove → Type 0
HasSmallTerms (SetTo r t) = IsSmall t
HasSmallTerms (CcTo t u) = IsSmall t × IsSmall u
HasSmallTerms (StoreTo t u) = IsSmall t × IsSmall u
HasSmallTerms (Ends (GoTo l)) = ⊤
HasSmallTerms (Ends (IfCc r l)) = ⊤
HasSmallTerms (Ends (IfTwo t u r l)) = IsSmall t × IsSmall u
HasSmallTerms (Ends (CallOf s n)) = ⊤
HasSmallTerms (Ends Return) = ⊤

pub record IsWithinLimits (ms : PlainInstr) : Type 0 where
  pub some : 1 ≤ length ms
  pub few : length ms ≤ 4
  pub terms : All HasSmallTerms ms

-- what an entry of a machine fits is within the limits
abbrev pub FitsWithinLimits : Type 0
FitsWithinLimits =
    (m : Machine) (cc_live : Bool) (ms : PlainInstr) → IsMachine m → IsSome (fit m cc_live ms) → IsWithinLimits ms
