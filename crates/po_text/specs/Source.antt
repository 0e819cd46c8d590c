-- What a read of a source, and a read of all of it, say of the bytes to come and of the faults.
use Rattle.std.specs.Prelude.{ℕ, ◌≤◌, ◌<◌, List, [], length, take, Option, ◌≡◌, Result, Ok, Err, IfSome}
use Rattle.po_text.specs.Causes.{Rose, before_known}
use Rattle.po_text.specs.Place.{place_behind}
use Rattle.po_text.specs.declared.source.Got.{Got}
use Rattle.po_text.specs.declared.source.Got.TheVariants.{Count, End, Failed}
use Rattle.po_text.specs.declared.fault.ReadRefusal.{ReadRefusal}
use Rattle.po_text.specs.declared.fault.ReadRefusal.TheVariants.{ReadFault, TooLong, OutOfMemory}

-- what a read did to the bytes still to come
abbrev pub Reads : Option (List ℕ) → Option (List ℕ) → Got → List ℕ → Type 0
Reads old new (Count n) buffer = (0 < n) × (n ≤ length buffer) × (old ≡ before_known (take n buffer) new)
Reads old new End buffer = (new ≡ old) × IfSome old (λ bytes. bytes ≡ [])
Reads old new Failed buffer = new ≡ old

-- a fault comes only where the count rose, and where it rose there is a fault
abbrev pub GotCause : ℕ → ℕ → Got → Type 0
GotCause before now (Count n) = now ≡ before
GotCause before now End = now ≡ before
GotCause before now Failed = (before ≤ now) × Rose before now

abbrev pub ReadCause : {T : Type 0} → ℕ → ℕ → Result T ReadRefusal → Type 0
ReadCause before now (Ok _) = now ≡ before
ReadCause before now (Err ReadFault) = (before ≤ now) × Rose before now
ReadCause before now (Err (TooLong line column)) = now ≡ before
ReadCause before now (Err OutOfMemory) = now ≡ before

-- what came before a refusal: behind a fault no more than the limit, and for want of memory any number of bytes
abbrev pub OnBreakOff : {T : Type 0} → Result T ReadRefusal → ℕ → Option (List ℕ) → Option (List ℕ) → Type 0
OnBreakOff (Err ReadFault) limit old new = (bytes : List ℕ) × (length bytes ≤ limit) × (old ≡ before_known bytes new)
OnBreakOff (Err OutOfMemory) limit old new = (bytes : List ℕ) × (old ≡ before_known bytes new)
OnBreakOff result limit old new = Unit {0}

-- more than so many bytes came, and this is the place of the first one past them
abbrev pub OnTooLong : {T : Type 0} → Result T ReadRefusal → ℕ → Option (List ℕ) → Option (List ℕ) → Type 0
OnTooLong (Err (TooLong line column)) limit old new =
    (bytes : List ℕ) × (limit < length bytes) × (old ≡ before_known bytes new)
    × ((line, column) ≡ place_behind (take limit bytes))
OnTooLong result limit old new = Unit {0}
