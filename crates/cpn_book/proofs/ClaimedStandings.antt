-- Where a run stands after a claim.
use Rattle.std.proofs.Common.{◌≡◌, ℕ, ◌+◌, ◌<◌, ◌≤◌, List, [], ◌∷◌, ◌++◌, length, map, take, Some, None, sym, ap, ◌∙◌, subst, arith, slice_get, slice_set, length-append}
use Rattle.std.specs.Option.{option_map}
use Rattle.std.proofs.lemmas.List.{map-append, take-append-le}
use Rattle.cpn_definitions.specs.Enabled.{PlainEntry, Enabled, ready}
use Rattle.cpn_definitions.specs.Outcome.{gives}
use Rattle.cpn_definitions.specs.Occurrence.{Needed, needs_of}
use Rattle.cpn_draw.specs.Draw.{generator}
use Rattle.cpn_jobs.specs.Views.{job_view}
use Rattle.cpn_jobs.specs.Work.{PlainJob}
use Rattle.cpn_log.specs.Kept.{IsKept}
use Rattle.cpn_log.specs.Logs.{head_of, claims_made, opened}
use Rattle.cpn_log.specs.LogViews.{log_view, jobs_in}
use Rattle.cpn_definitions.proofs.RisingLists.{each_appended}
use Rattle.cpn_monitor.specs.Views.{measuring_view}
use Rattle.cpn_runs.specs.Commits.{marked_from, stop_at_last}
use Rattle.cpn_runs.proofs.Cuts.{owes_none}
use Rattle.cpn_runs.specs.HoleRun.{PlainClaim}
use Rattle.cpn_runs.specs.State.{PlainSetup, PlainState, claim_made, IsDrawn, given_needs, new_claim, numbered}
use Rattle.cpn_runs.specs.GivingBack.{OnlyGivenBack}
use Rattle.cpn_book.specs.Held.{held_from}
use Rattle.cpn_book.specs.StandingRuns.{NoneStops, StandsAt}
use Rattle.cpn_book.proofs.MadeClaims.{IsNextClaim, stands_claimed}
use Rattle.cpn_book.specs.Standings.{IsToldAt, IsAt, committed_of, job_for, cut_view, events_in, occurrences_in}
use Rattle.cpn_book.specs.declared.standings.Standing.{Standing}
use Rattle.cpn_book.proofs.CountedClaims.{claims_counted}
use Rattle.cpn_book.proofs.MeasuredStandings.{measured_alike, WereMadeAt, made_at_same}

-- where a run stands between two events
pub stands_at : (setup : PlainSetup) (s : Standing) (is : IsAt setup s) → StandsAt setup (events_in s) is.at.state (log_view s.log) s.held.items
stands_at setup s is = record { told = is.at.told; all_committed = is.all_committed; none_owed = is.none_owed }

-- no cut stands in the state where the program has none
pub uncut_in : (setup : PlainSetup) (s : Standing) (at : IsToldAt setup s) → s.cut ≡ None → at.state.cut ≡ None
uncut_in setup s at none = sym at.cut ∙ ap (option_map cut_view) none

-- no monitor stops the run there after the last committed claim
pub goes_on_at : (setup : PlainSetup) (s : Standing) (is : IsAt setup s) → OnlyGivenBack (option_map cut_view s.cut) → NoneStops setup is.at.state (log_view s.log)
goes_on_at setup s is only =
    ap (λ k. stop_at_last setup.monitors (marked_from setup.start (take k is.at.state.claims))) (sym is.all_committed)
    ∙ (owes_none setup is.at.state (subst OnlyGivenBack is.at.cut only) is.none_owed).0

-- the claims of the state are those that the log counts
pub counted : (setup : PlainSetup) (s : Standing) (at : IsToldAt setup s) → length at.state.claims ≡ claims_made (log_view s.log)
counted setup s at = claims_counted setup.start at.state.claims (log_view s.log) at.told.has

-- What the code of a claim does: of a seat that holds none, on the drawn one of the ready elements.
pub record HasClaimed (setup : PlainSetup) (old new : Standing) (seat : ℕ) : Type 0 where
  pub uncut : old.cut ≡ None
  pub below : claims_made (log_view old.log) < setup.limits.steps
  pub known : seat < setup.limits.seats
  pub free : slice_get old.held.items seat ≡ Some None
  pub entries : List PlainEntry
  pub enabled : Enabled setup.net (log_view old.log).unclaimed old.clock entries
  pub drawn : PlainEntry
  pub drawn_is : IsDrawn setup.seed (claims_made (log_view old.log)) (ready old.clock entries) drawn
  pub needs : List Needed
  pub needs_are : needs_of setup.net drawn.element ≡ gives needs
  pub job : PlainJob
  pub job_is : job ≡ job_for setup.net (record { seat = seat; element = drawn.element; time = old.clock })
  pub clock : new.clock ≡ old.clock
  pub cut : new.cut ≡ old.cut
  pub occurrences : new.occurrences ≡ old.occurrences
  pub measuring : new.measuring ≡ old.measuring
  pub claims : (log_view new.log).claims ≡ (log_view old.log).claims ++ opened seat drawn.element old.clock needs ∷ []
  pub committed : (log_view new.log).committed ≡ (log_view old.log).committed
  pub settled : (log_view new.log).settled ≡ (log_view old.log).settled
  pub kept : IsKept (log_view new.log)
  pub jobs : map job_view (jobs_in new.log) ≡ map job_view (jobs_in old.log) ++ job ∷ []
  pub held : new.held.items ≡ slice_set old.held.items seat (Some (claims_made (log_view old.log)))
  pub draw : new.draw ≡ generator setup.seed (claims_made (log_view old.log) + 1)
  pub events : events_in new ≡ events_in old ++ claim_made seat (claims_made (log_view old.log)) ∷ []

-- the claim that the state has next, of a seat that holds none
module _ (setup : PlainSetup) (old : Standing) (is : IsAt setup old) (uncut : old.cut ≡ None) (below : claims_made (log_view old.log) < setup.limits.steps) (seat : ℕ) (known : seat < setup.limits.seats) (free : slice_get old.held.items seat ≡ Some None)
    (entries : List PlainEntry) (enabled : Enabled setup.net (log_view old.log).unclaimed old.clock entries) (drawn : PlainEntry) (drawn_is : IsDrawn setup.seed (claims_made (log_view old.log)) (ready old.clock entries) drawn) where
  number_was : length is.at.state.claims ≡ claims_made (log_view old.log)
  number_was = counted setup old is.at

  had_none : held_from 0 seat is.at.state.claims ≡ None
  had_none = let e : Some (held_from 0 seat is.at.state.claims) ≡ Some None = sym (is.at.told.holds.numbers seat known) ∙ free in cc

  pub next_claim : IsNextClaim setup is.at.state (log_view old.log) seat drawn
  next_claim = record {
    no_cut = uncut_in setup old is.at uncut;
    below_limit = subst (λ (k : ℕ). k < setup.limits.steps) (sym number_was) below;
    known = known;
    had_none = had_none;
    entries = entries;
    enabled = subst (λ (t : ℕ). Enabled setup.net (log_view old.log).unclaimed t entries) is.at.clock enabled;
    drawn_is =
        subst (λ (t : ℕ). IsDrawn setup.seed (length is.at.state.claims) (ready t entries) drawn) is.at.clock
        (subst (λ (k : ℕ). IsDrawn setup.seed k (ready old.clock entries) drawn) (sym number_was) drawn_is);
  }

module _ (setup : PlainSetup) (old new : Standing) (seat : ℕ) (is : IsAt setup old) (did : HasClaimed setup old new seat) where
  number_is : length is.at.state.claims ≡ claims_made (log_view old.log)
  number_is = counted setup old is.at

  next : IsNextClaim setup is.at.state (log_view old.log) seat did.drawn
  next = next_claim setup old is did.uncut did.below seat did.known did.free did.entries did.enabled did.drawn did.drawn_is

  abbrev made : PlainClaim
  made = new_claim setup.net seat is.at.state.clock did.drawn.element

  made_is : opened seat did.drawn.element old.clock did.needs ≡ made
  made_is =
      ap (λ t. opened seat did.drawn.element t did.needs) is.at.clock
      ∙ ap (opened seat did.drawn.element is.at.state.clock) (sym (ap given_needs did.needs_are))

  abbrev after : PlainState
  after = record is.at.state { claims = is.at.state.claims ++ made ∷ [] }

  claims_are : (log_view new.log).claims ≡ (log_view old.log).claims ++ made ∷ []
  claims_are = did.claims ∙ ap (λ c. (log_view old.log).claims ++ c ∷ []) made_is

  stands : StandsAt setup (events_in new) after (log_view new.log) new.held.items
  stands =
      let first = stands_claimed setup (events_in old) is.at.state (log_view old.log) (log_view new.log) old.held.items (stands_at setup old is) seat did.drawn next claims_are did.committed did.settled did.kept in
      let events : events_in old ++ claim_made seat (length is.at.state.claims) ∷ [] ≡ events_in new = ap (λ k. events_in old ++ claim_made seat k ∷ []) number_is ∙ sym did.events in
      let held : slice_set old.held.items seat (Some (length is.at.state.claims)) ≡ new.held.items = ap (λ k. slice_set old.held.items seat (Some k)) number_is ∙ sym did.held in
      subst (λ es. StandsAt setup es after (log_view new.log) new.held.items) events
      (subst (λ hs. StandsAt setup (events_in old ++ claim_made seat (length is.at.state.claims) ∷ []) after (log_view new.log) hs) held first)

  job_is : did.job ≡ job_for setup.net (head_of made)
  job_is = did.job_is ∙ ap (λ t. job_for setup.net (record { seat = seat; element = did.drawn.element; time = t })) is.at.clock

  first_few : length (log_view old.log).committed ≤ length is.at.state.claims
  first_few = let n = number_is in omega arith

  -- it stands with one claim more
  pub claimed : IsAt setup new
  claimed = record {
    at = record {
      state = after;
      told = stands.told;
      clock = did.clock ∙ is.at.clock;
      cut = ap (option_map cut_view) did.cut ∙ is.at.cut;
      jobs =
          did.jobs ∙ ap (λ js. js ++ did.job ∷ []) is.at.jobs
          ∙ ap (λ j. map (job_for setup.net) (map head_of (log_view old.log).claims) ++ j ∷ []) job_is
          ∙ sym (map-append (job_for setup.net) (map head_of (log_view old.log).claims) (head_of made ∷ []))
          ∙ ap (map (job_for setup.net)) (sym (ap (map head_of) claims_are ∙ map-append head_of (log_view old.log).claims (made ∷ [])));
      occurrences =
          ap (λ v. occurrences_in (record new { occurrences = v })) did.occurrences ∙ is.at.occurrences
          ∙ ap (numbered 0) (sym (take-append-le (length (log_view old.log).committed) is.at.state.claims (made ∷ []) first_few))
          ∙ ap (λ hs. numbered 0 (take (length hs) (is.at.state.claims ++ made ∷ []))) (sym did.committed);
      measured =
          measured_alike setup old.clock new.clock (committed_of is.at.state old) (committed_of after new) (measuring_view old.measuring) (measuring_view new.measuring) did.clock
          (ap (λ hs. take (length hs) (is.at.state.claims ++ made ∷ [])) did.committed ∙ take-append-le (length (log_view old.log).committed) is.at.state.claims (made ∷ []) first_few)
          (ap measuring_view did.measuring) is.at.measured;
      made_now =
          subst (WereMadeAt new.clock) (sym claims_are)
          (made_at_same old.clock new.clock ((log_view old.log).claims ++ made ∷ []) did.clock
          (each_appended (λ k. k.time ≡ old.clock) (log_view old.log).claims (made ∷ []) is.at.made_now (sym is.at.clock, tt)));
      draw = λ none. did.draw ∙ ap (generator setup.seed) (let n = number_is in let more = length-append is.at.state.claims (made ∷ []) in omega (arith, n, more));
    };
    all_committed = stands.all_committed;
    none_owed = stands.none_owed;
  }
