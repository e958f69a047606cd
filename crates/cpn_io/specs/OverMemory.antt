-- A source and a sink over memory: what each has, and what one call does to it. Calls are numbered
-- from 0, and a list says which of them fail.
use Rattle.std.specs.Prelude.{◌≡◌, ℕ, ◌-◌, ◌≤◌, ◌⊎◌, min, List, [], ◌++◌, length, take, drop, Contains}
use Rattle.cpn_io.specs.Outside.{counted}
use Rattle.cpn_io.specs.declared.outside.Got.{Got}
use Rattle.cpn_io.specs.declared.outside.Got.TheVariants as got
use Rattle.cpn_io.specs.declared.outside.Put.{Put}
use Rattle.cpn_io.specs.declared.outside.Put.TheVariants as put

-- What a source over memory has: the bytes that are left, the numbers of the calls that fail, the most
-- bytes that a call gives, the number of the next call, and the count of its faults.
pub record MemorySource : Type 0 where
  pub left : List ℕ
  pub fails : List ℕ
  pub piece : ℕ
  pub next_call : ℕ
  pub faults : ℕ

-- a source of these bytes before its first call
abbrev pub new_source : List ℕ → List ℕ → ℕ → MemorySource
new_source bytes fails piece = record { left = bytes; fails = fails; piece = piece; next_call = 0; faults = 0 }

-- the next call is listed as one that fails
abbrev pub ReadFails : MemorySource → Type 0
ReadFails s = Contains s.fails s.next_call

-- bytes are given as many as can be: up to the piece, the buffer's length and what is left
abbrev pub GivesMost : MemorySource → ℕ → Got → Type 0
GivesMost s room (got.Bytes n) = n ≡ min (min s.piece room) (length s.left)
GivesMost s room got.End = Unit {0}
GivesMost s room got.Failed = Unit {0}

-- the source after a call with this answer
abbrev pub after_read : MemorySource → Got → MemorySource
after_read s (got.Bytes n) = record s { left = drop n s.left; next_call = counted s.next_call }
after_read s got.End = record s { next_call = counted s.next_call }
after_read s got.Failed = record s { next_call = counted s.next_call; faults = counted s.faults }

-- the buffer after a call with this answer: it begins with the bytes given, and the rest of it stays
abbrev pub filled : MemorySource → Got → List ℕ → List ℕ
filled s (got.Bytes n) buffer = take n s.left ++ drop n buffer
filled s got.End buffer = buffer
filled s got.Failed buffer = buffer

-- What a sink over memory has: the bytes that it holds, how many it has room for in all, the numbers
-- of the calls that fail, the most bytes that a call takes, the number of the next call, and the count
-- of its faults.
pub record MemorySink : Type 0 where
  pub held : List ℕ
  pub room : ℕ
  pub fails : List ℕ
  pub piece : ℕ
  pub next_call : ℕ
  pub faults : ℕ

-- a sink before its first call, which holds nothing
abbrev pub new_sink : List ℕ → ℕ → ℕ → MemorySink
new_sink fails piece room = record { held = []; room = room; fails = fails; piece = piece; next_call = 0; faults = 0 }

-- the next call is listed as one that fails, or no room is left
abbrev pub WriteFails : MemorySink → Type 0
WriteFails s = Contains s.fails s.next_call ⊎ (s.room ≤ length s.held)

-- bytes are taken as many as can be: up to the piece, the bytes handed over and the room left
abbrev pub TakesMost : MemorySink → ℕ → Put → Type 0
TakesMost s count (put.Took n) = n ≡ min (min s.piece count) (s.room - length s.held)
TakesMost s count put.Failed = Unit {0}

-- the sink after a call with these bytes and this answer
abbrev pub after_write : MemorySink → List ℕ → Put → MemorySink
after_write s bytes (put.Took n) = record s { held = s.held ++ take n bytes; next_call = counted s.next_call }
after_write s bytes put.Failed = record s { next_call = counted s.next_call; faults = counted s.faults }
