-- The settled marking, as it is kept beside the unclaimed one.
use Rattle.std.specs.Prelude.{◌≡◌, Some}
use Rattle.cpn_definitions.specs.Marking.{Marking}
use Rattle.cpn_log.specs.Exchanges.{LeadsTo}
use Rattle.cpn_log.specs.declared.settled.Behind.{Behind}
use Rattle.cpn_log.specs.declared.markings.SettledAs.{SettledAs}
use Rattle.cpn_log.specs.declared.markings.SettledAs.TheVariants as places

-- the settled marking
abbrev pub settled_beside : Marking → SettledAs → Marking
settled_beside unclaimed (places.Unclaimed spare) = unclaimed
settled_beside unclaimed (places.Apart settled) = settled

-- where it is the unclaimed one, a marking that is behind leads to that
abbrev pub CatchesUp : Marking → SettledAs → Type 0
CatchesUp unclaimed settled = (behind : Behind) → settled ≡ places.Unclaimed (Some behind) → LeadsTo behind.exchange.needs behind.exchange.time behind.exchange.outputs behind.marking unclaimed

-- it stands apart
abbrev pub StandsApart : SettledAs → Type 0
StandsApart (places.Unclaimed spare) = ⊥
StandsApart (places.Apart settled) = Unit {0}
