-- What is done for what the words ask for.
use Rattle.std.specs.Prelude.{◌≡◌, List, map, string_bytes, ⊤}
use Rattle.std.specs.declared.string.String.{String}
use Rattle.std.specs.declared.alloc.Global.{Global}
use Rattle.po_words.specs.declared.request.Request.{Request}
use Rattle.po_words.specs.declared.request.Request.TheVariants.{Naive, Slow, Opt, Gen}
use Rattle.po_words.specs.Requests.{AsksFor}
use Rattle.po_compile.specs.declared.mode.Mode.{Mode}
use Rattle.po_compile.specs.declared.mode.Mode.TheVariants as mode
use Rattle.po_compile.specs.declared.status.Status.{Status}
use Rattle.po_compile.specs.declared.status.Status.TheVariants as status

-- the words ask for this
abbrev pub Asks : List (String Global) → Request → Type 0
Asks words r = AsksFor (map string_bytes words) r

-- P of each request that the words ask for, which is one at most, where it is served
abbrev pub ForAsked : (Request → Type 0) → List (String Global) → (Request → Type 0) → Type 0
ForAsked Served words P = (r : Request) → Asks words r → Served r → P r

-- every request is served
abbrev pub IsAny : Request → Type 0
IsAny r = ⊤

-- one thread serves each request but `opt`
abbrev pub IsSerial : Request → Type 0
IsSerial (Opt workers learners stats) = ⊥
IsSerial r = ⊤

-- P of the mode in which a request has a text compiled
abbrev pub InMode : Request → (Mode → Type 0) → Type 0
InMode Naive P = P mode.Naive
InMode Slow P = P mode.Slow
InMode (Opt workers learners stats) P = P mode.Opt
InMode (Gen seed units) P = ⊤

abbrev pub IsUsageOrMemory : Status → Type 0
IsUsageOrMemory status.Usage = ⊤
IsUsageOrMemory status.OutOfMemory = ⊤
IsUsageOrMemory s = ⊥

-- a wrong use is told exactly where the words ask for nothing that is served, unless memory was refused
pub record OnUsage (Served : Request → Type 0) (words : List (String Global)) (s : Status) : Type 0 where
  pub wrong : s ≡ status.Usage → (r : Request) → Asks words r → Served r → ⊥
  pub told : ((r : Request) → Asks words r → Served r → ⊥) → IsUsageOrMemory s
