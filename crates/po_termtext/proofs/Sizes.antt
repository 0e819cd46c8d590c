-- Sizes of trees.
use Rattle.std.proofs.Common.{◌<◌, arith}
use Rattle.po_term.specs.Tree.{Tree, Const, Leaf, Read, Unary, Binary, tree_size}

pub some_node : {K L : Type 0} (t : Tree K L) → 0 < tree_size t
some_node (Const c) = omega arith
some_node (Leaf l) = omega arith
some_node (Read a) = omega arith
some_node (Unary o a) = omega arith
some_node (Binary o a b) = omega arith
