-- Which claims of a run are committed, and where a monitor stops it. Source: own choice.
use Rattle.std.specs.Prelude.{ℕ, suc, ◌-◌, if◌then◌else◌, List, [], ◌∷◌, ◌++◌, length, Option}
use Rattle.std.specs.Option.{is_some}
use Rattle.cpn_definitions.specs.Legal.{TimedElement}
use Rattle.cpn_definitions.specs.Marking.{Marking}
use Rattle.cpn_monitor.specs.MeasuredRuns.{MarkedOccurrence}
use Rattle.cpn_monitor.specs.Monitors.{PlainMonitor}
use Rattle.cpn_monitor.specs.Stops.{stop_after}
use Rattle.cpn_runs.specs.HoleRun.{PlainClaim, after_claim, is_done}

-- what a claim is in an occurrence sequence
abbrev pub timed_claim : PlainClaim → TimedElement
timed_claim claim = record { element = claim.element; time = claim.time }

-- the occurrence of a claim that finds a marking, with the marking that it leaves
abbrev pub marked_claim : Marking → PlainClaim → MarkedOccurrence
marked_claim m claim = record { occurrence = timed_claim claim; after = after_claim claim m }

-- claims, from a marking on, as occurrences with the marking that each leaves
abbrev pub marked_from : Marking → List PlainClaim → List MarkedOccurrence
marked_from m [] = []
marked_from m (claim ∷ claims) = marked_claim m claim ∷ marked_from (after_claim claim m) claims

-- the first of the monitors that stops the run after the last of the occurrences, if one does
abbrev pub stop_at_last : List PlainMonitor → List MarkedOccurrence → Option ℕ
stop_at_last monitors occurrences = stop_after monitors occurrences (length occurrences - 1)

-- How many claims are committed, after occurrences that left a marking: those of the longest prefix in which each is done without fault, and no
-- monitor stops the run after any but the last.
abbrev pub committed_from : List PlainMonitor → List MarkedOccurrence → Marking → List PlainClaim → ℕ
committed_from monitors before m [] = 0
committed_from monitors before m (claim ∷ claims) =
    if is_done claim.status
    then suc (if is_some (stop_at_last monitors (before ++ marked_claim m claim ∷ [])) then 0 else committed_from monitors (before ++ marked_claim m claim ∷ []) (after_claim claim m) claims)
    else 0
