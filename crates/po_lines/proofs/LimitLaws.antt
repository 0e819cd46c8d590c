-- A text within the limit is read by its lines.
use Rattle.std.proofs.Common.{◌≡◌, ◌≤◌, List, ℕ, length, false, refl, arith}
use Rattle.std.specs.Prelude.{nat_lt, Result}
use Rattle.std.proofs.lemmas.Bool.Decides.{nat_tests}
use Rattle.po_lines.specs.Faults.{TextFault}
use Rattle.po_lines.specs.Limit.{within_limit}

pub within_is : {A : Type 0} (text : List ℕ) (read : Result A TextFault) → length text ≤ 4194304
    → within_limit text read ≡ read
within_is text read h = let no : nat_lt 4194304 (length text) ≡ false = grind (arith, nat_tests) in rw no refl
