-- A source and a sink over streams of the running system: what each tells, and how it counts errors.
use Rattle.std.specs.Prelude.{ℕ, List}
use Rattle.std.specs.declared.option.Option.{Option}
use Rattle.cpn_io.specs.Outside.{counted}
use Rattle.cpn_io.specs.declared.outside.Got.{Got}
use Rattle.cpn_io.specs.declared.outside.Got.TheVariants as got
use Rattle.cpn_io.specs.declared.outside.Put.{Put}
use Rattle.cpn_io.specs.declared.outside.Put.TheVariants as put

-- What a source over a stream has: the bytes that are left, where the stream tells them, and the count
-- of its errors.
pub record StreamSource : Type 0 where
  pub left : Option (List ℕ)
  pub faults : ℕ

-- the count after a read with this answer: an error counts as one
abbrev pub after_reading : ℕ → Got → ℕ
after_reading faults (got.Bytes n) = faults
after_reading faults got.End = faults
after_reading faults got.Failed = counted faults

-- What a sink over a stream has: the bytes that it holds, where the stream tells them, and the count of
-- its errors.
pub record StreamSink : Type 0 where
  pub held : Option (List ℕ)
  pub faults : ℕ

-- the count after a write with this answer: an error counts as one
abbrev pub after_writing : ℕ → Put → ℕ
after_writing faults (put.Took n) = faults
after_writing faults put.Failed = counted faults
