-- What a source over a reader of std, and a sink over a writer of std, say of that reader and writer.
use Rattle.std.specs.Prelude.{ℕ, List, [], take, Option}
use Rattle.std.specs.Io.KnownBytes.{Consumes, Appends, Keeps, IsAtEnd}
use Rattle.po_text.specs.declared.source.Got.{Got}
use Rattle.po_text.specs.declared.source.Got.TheVariants as got
use Rattle.po_text.specs.declared.sink.Put.{Put}
use Rattle.po_text.specs.declared.sink.Put.TheVariants as put

-- a source: the bytes that the reader will give, where that is known, how often it failed and how often it was called
pub record StandardSource : Type 0 where
  pub known : Option (List ℕ)
  pub faults : ℕ
  pub calls : ℕ

-- a sink: the bytes that the writer holds, where that is known, and how often it failed
pub record StandardSink : Type 0 where
  pub known : Option (List ℕ)
  pub faults : ℕ

-- a known reader gave these bytes; or it gave none and is at its end; or it is as it was
abbrev pub ReaderGave : Option (List ℕ) → Option (List ℕ) → Got → List ℕ → Type 0
ReaderGave old new (got.Count count) buffer = Consumes old new (take count buffer)
ReaderGave old new got.End buffer = Consumes old new [] × IsAtEnd new
ReaderGave old new got.Failed buffer = Keeps old new

-- a known writer took these bytes; or it is as it was
abbrev pub WriterTook : Option (List ℕ) → Option (List ℕ) → Put → List ℕ → Type 0
WriterTook old new (put.Count count) bytes = Appends old new (take count bytes)
WriterTook old new put.Failed bytes = Keeps old new
