-- Transfers with holes by their kind.
use Rattle.std.specs.Prelude.{List, ◌++◌, filter}
use Rattle.po_model.specs.Joined.{is_set, is_cc, is_store, is_control}
use Rattle.po_model.specs.Holed.{HoleMove, hole_moves_of}
use Rattle.po_trec.specs.declared.order.ByKind.{ByKind}

pub record Kinds : Type 0 where
  pub sets : List HoleMove
  pub comparisons : List HoleMove
  pub stores : List HoleMove
  pub endings : List HoleMove

-- these moves, by kind
abbrev pub kinds_of : List HoleMove → Kinds
kinds_of ms = record {
  sets = filter is_set ms;
  comparisons = filter is_cc ms;
  stores = filter is_store ms;
  endings = filter is_control ms;
}

-- what there is of each kind, with what of these moves is to come
abbrev pub with_rest : ByKind → List HoleMove → Kinds
with_rest k ms = record {
  sets = hole_moves_of k.sets.items ++ (kinds_of ms).sets;
  comparisons = hole_moves_of k.comparisons.items ++ (kinds_of ms).comparisons;
  stores = hole_moves_of k.stores.items ++ (kinds_of ms).stores;
  endings = hole_moves_of k.endings.items ++ (kinds_of ms).endings;
}

-- the kinds in their order
abbrev pub listing : Kinds → List HoleMove
listing k = k.sets ++ k.comparisons ++ k.stores ++ k.endings
