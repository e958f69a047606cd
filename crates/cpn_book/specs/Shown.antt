-- What is shown of a list of enabled elements. Source: own choice.
use Rattle.std.specs.Prelude.{ℕ, List, length}
use Rattle.cpn_definitions.specs.Enabled.{PlainEntry, ready, next_time}
use Rattle.cpn_runs.specs.Run.{Outlook}

-- the outlook of a list of enabled elements at a clock
abbrev pub outlook_at : ℕ → List PlainEntry → Outlook
outlook_at clock entries = record { ready_count = length (ready clock entries); next = next_time entries }
