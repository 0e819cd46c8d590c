-- How long a text may be: a longer one is wrong at its first byte past the limit, whatever its lines say.
use Rattle.std.specs.Prelude.{ℕ, List, length, take, nat_lt, if◌then◌else◌, Result, Err}
use Rattle.po_text.specs.Place.{place_behind}
use Rattle.po_text.specs.declared.fault.Kind.TheVariants as kind
use Rattle.po_lines.specs.Faults.{TextFault, text_fault}

-- the first byte past the limit
abbrev pub past_limit : ℕ → List ℕ → TextFault
past_limit limit text =
    text_fault (place_behind (take limit text)).0 (place_behind (take limit text)).1 kind.TooMany

-- what is read of a text that has at most 4194304 bytes
abbrev pub within_limit : {A : Type 0} → List ℕ → Result A TextFault → Result A TextFault
within_limit text read = if nat_lt 4194304 (length text) then Err (past_limit 4194304 text) else read
