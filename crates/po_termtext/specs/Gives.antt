-- What a part of the reader returned, seen by a view, is what reading gives, unless memory ran out.
use Rattle.std.specs.Prelude.{◌≡◌, Result, Ok, Err, Option, Some, None, ⊤, ℕ}
use Rattle.po_word.specs.declared.operator.Bin.{Bin}
use Rattle.po_term.specs.Tree.{Tree}
use Rattle.po_term.specs.Terms.{Place, tree_of}
use Rattle.po_termtext.specs.Reading.{Seen}
use Rattle.po_termtext.specs.declared.refusal.Refusal.{Refusal}
use Rattle.po_termtext.specs.declared.refusal.Refusal.TheVariants as refusal
use Rattle.po_termtext.specs.declared.read.Parsed.{Parsed}
use Rattle.po_termtext.specs.declared.read.Operator.{Operator}

abbrev pub Fails : {Y : Type 0} → Refusal → Option Y → Type 0
Fails refusal.NoTerm read = read ≡ None
Fails refusal.Memory read = ⊤

abbrev pub Gives : {X Y : Type 0} → (X → Y) → Result X Refusal → Option Y → Type 0
Gives view (Ok x) read = read ≡ Some (view x)
Gives view (Err e) read = Fails e read

abbrev pub seen : Parsed → Seen (Tree ℕ Place)
seen p = (tree_of p.term, p.rest.now)

abbrev pub operator_shown : Operator → Seen Bin
operator_shown o = (o.op, o.rest.now)
