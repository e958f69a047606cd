-- Each number and time of a journal is one of 64 bits: the limits of a run are.
use Rattle.std.proofs.Common.{◌<◌, ◌≤◌, ◌^◌, inl, inr, List, [], ◌∷◌, length, arith}
use Rattle.cpn_definitions.proofs.ListItems.{place_known}
use Rattle.cpn_runs.specs.Playable.{IsPlayable}
use Rattle.cpn_runs.specs.Run.{PlainFinished, IsRun}
use Rattle.cpn_runs.specs.State.{PlainSetup, PlainEvent, claim_made, claim_completed, clock_moved, cut_made, PlainState, first_state, IsDue, Happens, Leads}
use Rattle.cpn_runs.specs.WithoutSeats.{without_seat, AreNumbered}
use Rattle.cpn_runs.proofs.BoundedStates.{IsWithin, first_within, event_within}
use Rattle.cpn_runs.proofs.Cuts.{no_more_committed, owed_number}

event_numbered : (setup : PlainSetup) (old : PlainState) (event : PlainEvent) (new : PlainState) → IsPlayable setup → IsWithin setup old → Happens setup old event new → (without_seat event).1 < 2 ^ 64
event_numbered setup old (claim_made seat number) new playable within may =
    let below = may.below_limit in
    let steps = playable.steps in
    omega (arith, below, steps)
event_numbered setup old (claim_completed seat number) new playable within may =
    let known : number < length old.claims = place_known old.claims number may.held_claim may.claim_is in
    let few = within.few_claims in
    let steps = playable.steps in
    omega (arith, known, few, steps)
event_numbered setup old (clock_moved time) new playable within may =
    let in_time = may.in_time in
    let until = playable.until in
    omega (arith, in_time, until)
event_numbered setup old (cut_made number) new playable within may =
    let number_is = may.number_is in
    let known = up_to_claims may.due in
    let few = within.few_claims in
    let steps = playable.steps in
    omega (arith, number_is, known, few, steps)
  where
    up_to_claims : IsDue setup old may.cut → may.cut.number ≤ length old.claims
    up_to_claims (inl owed) =
        let few = no_more_committed setup.monitors [] setup.start old.claims in
        let is = owed_number setup old may.cut owed in
        omega (arith, few, is)
    up_to_claims (inr back) = let known = place_known old.claims may.cut.number back.claim back.claim_is in omega (arith, known)

events_numbered : (setup : PlainSetup) (old : PlainState) (events : List PlainEvent) (state : PlainState) → IsPlayable setup → IsWithin setup old → Leads setup old events state → AreNumbered events
events_numbered setup old [] state playable within leads = tt
events_numbered setup old (event ∷ events) state playable within leads =
    (event_numbered setup old event leads.0 playable within leads.1, events_numbered setup leads.0 events state playable (event_within setup old event leads.0 within leads.1) leads.2)

-- the journal of a run has numbers and times of 64 bits
pub run_is_numbered : (setup : PlainSetup) (run : PlainFinished) → IsPlayable setup → IsRun setup run → AreNumbered run.journal
run_is_numbered setup run playable is = events_numbered setup (first_state setup) run.journal is.state playable (first_within setup) is.reached
