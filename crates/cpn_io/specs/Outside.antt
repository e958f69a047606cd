-- What a read and a write do, as one call of a `Source` or a `Sink` sees it.
use Rattle.std.specs.Prelude.{ℕ, ◌+◌, ◌-◌, ◌^◌, ◌<◌, ◌≤◌, min, List, length, take}
use Rattle.std.specs.declared.option.Option.{Option}
use Rattle.std.specs.Io.KnownBytes.{Appends, Consumes, Keeps, IsAtEnd}
use Rattle.cpn_io.specs.declared.outside.Got.{Got}
use Rattle.cpn_io.specs.declared.outside.Got.TheVariants as got
use Rattle.cpn_io.specs.declared.outside.Put.{Put}
use Rattle.cpn_io.specs.declared.outside.Put.TheVariants as put

-- one more than a count, which stops at 2^64-1
abbrev pub counted : ℕ → ℕ
counted count = min (count + 1) (2 ^ 64 - 1)

-- a count of faults rose, or stands at its last value
abbrev pub Rose : ℕ → ℕ → Type 0
Rose before now = counted before ≤ now

-- What a read did to the bytes that were left, where these are told: it gave the next ones in the
-- buffer, or nothing was left, or it failed and took none.
abbrev pub ReadDoes : Option (List ℕ) → Option (List ℕ) → Got → List ℕ → Type 0
ReadDoes old new (got.Bytes n) buffer = (0 < n) × (n ≤ length buffer) × Consumes old new (take n buffer)
ReadDoes old new got.End buffer = IsAtEnd old × Keeps old new
ReadDoes old new got.Failed buffer = Keeps old new

-- What a write did to the bytes that were held, where these are told: it appended the first of the
-- bytes that it was handed, or it failed and appended none.
abbrev pub WriteDoes : Option (List ℕ) → Option (List ℕ) → Put → List ℕ → Type 0
WriteDoes old new (put.Took n) bytes = (0 < n) × (n ≤ length bytes) × Appends old new (take n bytes)
WriteDoes old new put.Failed bytes = Keeps old new

-- Of the bytes that were left at most this many were taken, from the front, where these are told.
abbrev pub TakesAtMost : Option (List ℕ) → Option (List ℕ) → ℕ → Type 0
TakesAtMost old new most = (taken : List ℕ) × (length taken ≤ most) × Consumes old new taken

-- Of the bytes to be written some were appended, from the front, and at least one was not.
abbrev pub AppendsProperPrefix : Option (List ℕ) → Option (List ℕ) → List ℕ → Type 0
AppendsProperPrefix old new bytes = (n : ℕ) × (n < length bytes) × Appends old new (take n bytes)
