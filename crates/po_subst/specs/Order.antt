-- Transfers by their kind.
use Rattle.std.specs.Prelude.{Bool, not, List, ◌++◌, filter}
use Rattle.po_term.specs.declared.term.Reg.{Reg as Register}
use Rattle.po_term.specs.Moves.{moves_of, PlainMove}
use Rattle.po_model.specs.Parts.{code_leaves}
use Rattle.po_model.specs.Joined.{is_set, is_cc, is_store, is_control, is_idle, is_wanted, is_kept}
use Rattle.po_subst.specs.declared.order.ByKind.{ByKind}

pub record Kinds : Type 0 where
  pub sets : List PlainMove
  pub comparisons : List PlainMove
  pub stores : List PlainMove
  pub endings : List PlainMove

-- it sets no register to itself
abbrev pub is_moving : PlainMove → Bool
is_moving m = not (is_idle code_leaves m)

-- what moves among these, by kind
abbrev pub kinds_of : List PlainMove → Kinds
kinds_of ms = record {
  sets = filter is_set (filter is_moving ms);
  comparisons = filter is_cc (filter is_moving ms);
  stores = filter is_store (filter is_moving ms);
  endings = filter is_control (filter is_moving ms);
}

-- what there is of each kind, with what of these moves is to come
abbrev pub with_rest : ByKind → List PlainMove → Kinds
with_rest k ms = record {
  sets = moves_of k.sets.items ++ (kinds_of ms).sets;
  comparisons = moves_of k.comparisons.items ++ (kinds_of ms).comparisons;
  stores = moves_of k.stores.items ++ (kinds_of ms).stores;
  endings = moves_of k.endings.items ++ (kinds_of ms).endings;
}

-- the kinds in their order
abbrev pub listing : Kinds → List PlainMove
listing k = k.sets ++ k.comparisons ++ k.stores ++ k.endings

-- A's transfers that stay beside B
abbrev pub kept_beside : (Register → Bool) → Bool → List PlainMove → List PlainMove → List PlainMove
kept_beside live cc_live b ms = filter (is_kept code_leaves live cc_live (filter (is_wanted live cc_live) b)) ms
