-- The plain events, limits and ends that those of the program stand for.
use Rattle.cpn_core.specs.Elements.{element_view}
use Rattle.cpn_core.specs.Faults.{fault_view}
use Rattle.cpn_runs.specs.State.{PlainEvent, claim_made, claim_completed, clock_moved, cut_made, PlainEnd, dead, steps_made, until_passed, fault_end, stopped_by, wants_memory, PlainLimits}
use Rattle.cpn_runs.specs.declared.events.Event.{Event}
use Rattle.cpn_runs.specs.declared.events.Event.TheVariants as events
use Rattle.cpn_runs.specs.declared.events.End.{End}
use Rattle.cpn_runs.specs.declared.events.End.TheVariants as ends
use Rattle.cpn_runs.specs.declared.events.Limits.{Limits}

abbrev pub event_view : Event → PlainEvent
event_view (events.Claim seat number) = claim_made seat number
event_view (events.Done seat number) = claim_completed seat number
event_view (events.Move time) = clock_moved time
event_view (events.Cut number) = cut_made number

abbrev pub end_view : End → PlainEnd
end_view ends.Dead = dead
end_view ends.Steps = steps_made
end_view (ends.Until time) = until_passed time
end_view (ends.Stop monitor) = stopped_by monitor
end_view ends.Memory = wants_memory
end_view (ends.Fault element fault) = fault_end (element_view element) (fault_view fault)

abbrev pub limits_view : Limits → PlainLimits
limits_view limits = record { steps = limits.steps; until = limits.until; seats = limits.seats }
