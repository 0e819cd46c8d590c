-- The value that a reader has to give, or the first fault, and what the code's answer says of it: it is the value or
-- the fault, unless memory was refused. A definition is written as a `do` over its parts: the first fault stays.
use Rattle.std.specs.Prelude.{◌≡◌, ℕ, Result, Ok, Err, ⊤}
use Rattle.po_text.specs.declared.fault.Kind.{Kind}
use Rattle.po_text.specs.declared.fault.TextRefusal.{TextRefusal}
use Rattle.po_text.specs.declared.fault.TextRefusal.TheVariants as refusal
use Rattle.po_lines.specs.declared.fault.LineFault.{LineFault}
use Rattle.po_lines.specs.declared.fault.LineError.{LineError}
use Rattle.po_lines.specs.declared.fault.LineError.TheVariants as error

-- a later part is read where the earlier ones have no fault
infixl 10 ◌>>=◌
abbrev pub ◌>>=◌ : {A B E : Type 0} → Result A E → (A → Result B E) → Result B E
(Ok x) >>= f = f x
(Err e) >>= f = Err e

-- a fault of a line
abbrev pub fault : ℕ → Kind → LineFault
fault column kind = record { column = column; kind = kind }

-- the code's answer to a line, seen by a view, is the value or the first fault, unless memory was refused
abbrev pub Fails : {Y : Type 0} → LineError → Result Y LineFault → Type 0
Fails (error.Fault f) read = read ≡ Err f
Fails error.Memory read = ⊤

abbrev pub Gives : {X Y : Type 0} → (X → Y) → Result X LineError → Result Y LineFault → Type 0
Gives view (Ok x) read = read ≡ Ok (view x)
Gives view (Err e) read = Fails e read

-- the same of an answer that takes no memory: it is the value or the first fault
abbrev pub Tells : {X Y : Type 0} → (X → Y) → Result X LineFault → Result Y LineFault → Type 0
Tells view (Ok x) read = read ≡ Ok (view x)
Tells view (Err f) read = read ≡ Err f

-- a fault of a text
pub record TextFault : Type 0 where
  pub line : ℕ
  pub column : ℕ
  pub kind : Kind

abbrev pub text_fault : ℕ → ℕ → Kind → TextFault
text_fault line column kind = record { line = line; column = column; kind = kind }

-- what is read of the line with this number, with its fault as the fault of the text
abbrev pub at_line : {A : Type 0} → ℕ → Result A LineFault → Result A TextFault
at_line line (Ok x) = Ok x
at_line line (Err f) = Err (text_fault line f.column f.kind)

-- the same of the code's answers
abbrev pub lifted : {A : Type 0} → ℕ → Result A LineError → Result A TextRefusal
lifted line (Ok x) = Ok x
lifted line (Err (error.Fault f)) = Err (refusal.BadText line f.column f.kind)
lifted line (Err error.Memory) = Err refusal.OutOfMemory

-- the code's answer to a text, seen by a view, is the value or the first fault, unless memory was refused
abbrev pub Refuses : {Y : Type 0} → TextRefusal → Result Y TextFault → Type 0
Refuses (refusal.BadText line column kind) read = read ≡ Err (text_fault line column kind)
Refuses refusal.OutOfMemory read = ⊤

abbrev pub Gets : {X Y : Type 0} → (X → Y) → Result X TextRefusal → Result Y TextFault → Type 0
Gets view (Ok x) read = read ≡ Ok (view x)
Gets view (Err r) read = Refuses r read
