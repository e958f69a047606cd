-- By computing: at what monitors look, and the sizes of a place that are kept up to when it was last looked at.
use Rattle.std.proofs.Common.{◌≡◌, [], ◌∷◌, refl}
use Rattle.std.specs.Prelude.{codes}
use Rattle.cpn_definitions.specs.Inscription.{literal}
use Rattle.cpn_definitions.specs.Value.{unit}
use Rattle.cpn_monitor.specs.Kept.{values_until}
use Rattle.cpn_monitor.specs.Looks.{at_transition, at_place, looks_at}
use Rattle.cpn_monitor.specs.MeasuredRuns.{last_marking}
use Rattle.cpn_monitor.specs.Monitors.{counts, sizes, values, stops_by_count, stops_by_size, at_least}
use Rattle.cpn_monitor.specs.MonitorValues.{PlainMonitorValue, counted, sized}
use Rattle.cpn_monitor.proofs.Rows.{run, two_tokens, none, one_token}

a_count : looks_at (counts 1) ≡ at_transition 1
a_count = refl

a_size : looks_at (sizes 1) ≡ at_place 1
a_size = refl

a_value : looks_at (values 1 (literal unit)) ≡ at_transition 1
a_value = refl

a_stop_by_count : looks_at (stops_by_count 1 5) ≡ at_transition 1
a_stop_by_count = refl

a_stop_by_size : looks_at (stops_by_size 1 at_least 5) ≡ at_place 1
a_stop_by_size = refl

-- the run ends with no token on place 0 and one on place 1; at its start two stand on place 0
where_it_ends : last_marking run ≡ none ∷ one_token ∷ []
where_it_ends = refl

where_nothing_occurs : last_marking (record run { occurrences = [] }) ≡ two_tokens ∷ none ∷ []
where_nothing_occurs = refl

-- Two tokens from 3 on, last looked at there, come to 12 at 9.
abbrev kept : PlainMonitorValue
kept = record { name = codes "m"; measured = sized 2 2 2 0 3 }

up_to_nine : values_until 9 (kept ∷ record { name = codes "n"; measured = counted 4 } ∷ []) ≡ record { name = codes "m"; measured = sized 2 2 2 12 9 } ∷ record { name = codes "n"; measured = counted 4 } ∷ []
up_to_nine = refl
