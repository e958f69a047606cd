-- Entries from a clock on. Source: own choice.
use Rattle.std.specs.Prelude.{ℕ, max, List, map}
use Rattle.cpn_definitions.specs.Enabled.{PlainEntry}

-- the same element, with its time, or with the clock where that is later
abbrev pub entry_from : ℕ → PlainEntry → PlainEntry
entry_from clock x = record x { earliest = max clock x.earliest }

abbrev pub from_clock_on : ℕ → List PlainEntry → List PlainEntry
from_clock_on clock entries = map (entry_from clock) entries
