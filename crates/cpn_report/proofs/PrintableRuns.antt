-- A run of a printable net can be printed: what occurs is covered, and so a binding element, what is left is a marking, and the monitor
-- that stops the run is one of its setup, each of which has a value.
use Rattle.std.proofs.Common.{◌≡◌, ◌≢◌, sym, subst, ℕ, ◌<◌, ◌-◌, true, List, [], ◌∷◌, length, map, take, Option, Some, None, slice_get, suc, refl}
use Rattle.std.specs.List.{AllByRecursion, list_all}
use Rattle.std.proofs.lemmas.Bool.{and_from}
use Rattle.std.proofs.lemmas.List.{length-map}
use Rattle.std.proofs.lemmas.List.Quantifiers.{position-Some}
use Rattle.cpn_definitions.specs.Marking.{Marking}
use Rattle.cpn_definitions.specs.Net.{PlainNet}
use Rattle.cpn_definitions.specs.Legal.{TimedElement, PlainOccurrence, timed}
use Rattle.cpn_definitions.proofs.LegalSequences.{IsBound, covered_is_bound, legal_marking, legal_bound}
use Rattle.cpn_monitor.specs.MeasuredRuns.{MarkedOccurrence}
use Rattle.cpn_monitor.specs.Monitors.{PlainMonitor, counts}
use Rattle.cpn_monitor.specs.Stops.{stops_after, first_stop}
use Rattle.cpn_runs.specs.Commits.{marked_from}
use Rattle.cpn_runs.specs.MeasuredStates.{values_in}
use Rattle.cpn_runs.specs.State.{PlainSetup, PlainState, PlainEnd, dead, steps_made, until_passed, fault_end, stopped_by, wants_memory, committed_claims}
use Rattle.cpn_runs.specs.Run.{IsTrueFault, IsTrueStop}
use Rattle.cpn_report.specs.Printable.{is_occurrence, IsCause, RunsArePrintableInPart, RunsArePrintable}

all_bound : (n : PlainNet) (os : List PlainOccurrence) → AllByRecursion (λ (o : TimedElement). IsBound n o.element) (map timed os) → list_all (is_occurrence n) os ≡ true
all_bound n [] all = refl
all_bound n (o ∷ os) all = and_from _ _ all.0 (all_bound n os all.1)

-- the first monitor that stops a run is one of them
stop_known : (monitors : List PlainMonitor) (occurrences : List MarkedOccurrence) (last : Option MarkedOccurrence) (k : ℕ) → first_stop monitors occurrences last ≡ Some k → k < length monitors
stop_known monitors occurrences None k is = cc
stop_known monitors occurrences (Some marked) k is = (position-Some (λ (monitor : PlainMonitor). stops_after marked occurrences monitor.measure) monitors k (record { name = []; measure = counts 0 }) is).0

-- the element of a fault is covered, and so a binding element; a stop is that of a monitor
cause_bound
    : (setup : PlainSetup) (state : PlainState) (m : Marking) (clock : ℕ) (cause : PlainEnd)
    → IsTrueFault setup.net m clock cause
    → IsTrueStop setup state cause
    → cause ≢ wants_memory
    → IsCause setup.net (values_in setup state) cause
cause_bound setup state m clock dead is stops other = tt
cause_bound setup state m clock steps_made is stops other = tt
cause_bound setup state m clock (until_passed time) is stops other = tt
cause_bound setup state m clock (stopped_by monitor) is stops other =
    let occurrences = marked_from setup.start (committed_claims setup state) in
    let i = length occurrences - 1 in
    let known = stop_known setup.monitors (take (suc i) occurrences) (slice_get occurrences i) monitor stops in
    subst (λ (k : ℕ). monitor < k) (sym (length-map setup.monitors _)) known
cause_bound setup state m clock (fault_end e fault) is stops other = covered_is_bound setup.net m clock e is.0
cause_bound setup state m clock wants_memory is stops other = absurd (other refl)

pub is_printable_in_part : RunsArePrintableInPart
is_printable_in_part setup run net marking is = record {
  occurrences = all_bound setup.net run.occurrences (legal_bound setup.net setup.start setup.clock (map timed run.occurrences) run.marking run.clock is.legal);
  marking = legal_marking setup.net setup.start setup.clock (map timed run.occurrences) run.marking run.clock net.sound marking is.legal;
}

pub is_printable : RunsArePrintable
is_printable setup run net marking is other = record {
  net = net;
  parts = is_printable_in_part setup run net marking is;
  cause = subst (λ values. IsCause setup.net values run.cause) (sym is.values_are) (cause_bound setup is.state run.marking run.clock run.cause is.true_fault is.true_stop other);
}
