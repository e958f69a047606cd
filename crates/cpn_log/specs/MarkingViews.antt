-- The two markings that a log keeps.
use Rattle.cpn_definitions.specs.Marking.{Marking}
use Rattle.cpn_log.specs.SettledViews.{settled_beside, StandsApart}
use Rattle.cpn_log.specs.declared.markings.Markings.{Markings}

abbrev pub unclaimed_in : Markings → Marking
unclaimed_in markings = markings.unclaimed

abbrev pub settled_in : Markings → Marking
settled_in markings = settled_beside markings.unclaimed markings.settled

-- the settled marking stands apart
abbrev pub IsApart : Markings → Type 0
IsApart markings = StandsApart markings.settled
