-- Where a run stands when what can be committed is committed, and when a cut is made.
use Rattle.std.proofs.Common.{◌≡◌, ℕ, suc, ◌+◌, ◌≤◌, ◌⊎◌, inl, inr, true, List, [], ◌∷◌, ◌++◌, length, map, take, Option, Some, None, refl, sym, ap, ◌∙◌, subst, arith, slice_get, length-append, append_assoc, ◌-◌, drop}
use Rattle.std.specs.List.{AllByRecursion}
use Rattle.std.specs.Option.{option_map}
use Rattle.std.proofs.lemmas.List.{append-nil, take-map, drop-map, take-append-drop}
use Rattle.std.proofs.Math.Seq.{take-append_seam}
use Rattle.cpn_definitions.specs.Occurrence.{outputs_of}
use Rattle.cpn_definitions.proofs.ListItems.{all_parts}
use Rattle.cpn_jobs.specs.Views.{job_view}
use Rattle.cpn_log.specs.Kept.{IsKept}
use Rattle.cpn_log.specs.Logs.{PlainLog, head_of, with_committed}
use Rattle.cpn_log.specs.LogViews.{log_view, jobs_in}
use Rattle.cpn_monitor.specs.Kept.{AreKept, KeepsNext, FindsStop, values_until}
use Rattle.cpn_monitor.specs.MonitorValues.{values_of}
use Rattle.cpn_monitor.specs.MeasuredRuns.{MarkedOccurrence, MeasuredRun, with_occurrence}
use Rattle.cpn_monitor.specs.Stops.{stop_after}
use Rattle.cpn_monitor.specs.Views.{measuring_view}
use Rattle.cpn_runs.specs.HoleRun.{PlainClaim, Status, open_claim, done_with, faulted_with, is_done, is_open}
use Rattle.cpn_runs.specs.MeasuredStates.{run_of, values_in}
use Rattle.cpn_runs.specs.Playable.{IsPlayable}
use Rattle.cpn_runs.specs.Commits.{marked_claim, marked_from, stop_at_last}
use Rattle.cpn_runs.specs.State.{PlainSetup, PlainState, cut_made, status_after, numbered, committed, owed_cut, committed_occurrences, PlainCut}
use Rattle.cpn_runs.specs.Views.{event_view}
use Rattle.cpn_runs.proofs.States.{IsClaimOf, every_state}
use Rattle.cpn_runs.proofs.GivenBackClaims.{left_after, first_of_first}
use Rattle.cpn_book.specs.StandingRuns.{IsTold, stop_behind, NoneStops, StandsAt}
use Rattle.cpn_book.proofs.CompletedClaims.{told_committed, stands_cut, cut_behind}
use Rattle.cpn_book.specs.Standings.{IsToldAt, IsAt, committed_of, IsDoneClaim, HasCommitted, StillCommitted, job_for, cut_view, events_in, occurrences_in}
use Rattle.cpn_book.specs.declared.standings.Standing.{Standing}
use Rattle.cpn_book.proofs.MeasuredStandings.{measured_alike, made_at_same, now, noted_measured, stop_noted}
use Rattle.cpn_book.proofs.CountedClaims.{as_many, first_are}
use Rattle.cpn_book.specs.Committing.{IsDueAt}
use Rattle.cpn_book.specs.Held.{held_below}

-- ---- what is committed

-- claims as occurrences, with one claim more
pub numbered_more : (j : ℕ) (claims : List PlainClaim) (claim : PlainClaim) → numbered j (claims ++ claim ∷ []) ≡ numbered j claims ++ record { number = j + length claims; time = claim.time; element = claim.element } ∷ []
numbered_more j [] claim = ap (λ (k : ℕ). record { number = k; time = claim.time; element = claim.element } ∷ []) (let e : j ≡ j + 0 = omega arith in e)
numbered_more j (c ∷ claims) claim =
    ap (λ os. record { number = j; time = c.time; element = c.element } ∷ os)
    (numbered_more (suc j) claims claim ∙ ap (λ (k : ℕ). numbered (suc j) claims ++ record { number = k; time = claim.time; element = claim.element } ∷ []) (let e : suc j + length claims ≡ j + suc (length claims) = omega arith in e))

-- claims of a run that are done are so with their outputs
done_claims : (setup : PlainSetup) (claims : List PlainClaim) → AllByRecursion (IsClaimOf setup) claims → AllByRecursion (λ claim. is_done claim.status ≡ true) claims → AllByRecursion (IsDoneClaim setup) claims
done_claims setup [] each done = tt
done_claims setup (claim ∷ claims) each done = (record { done = done.0; needs = each.0.needs_are; outputs = evaluated claim.status done.0 each.0.status_is }, done_claims setup claims each.1 done.1)
  where
    evaluated : (status : Status) → is_done status ≡ true → (is_open status ≡ true) ⊎ (status_after (outputs_of setup.net claim.element claim.time) ≡ Some status) → status_after (outputs_of setup.net claim.element claim.time) ≡ Some status
    evaluated open_claim is (inl opened) = absurd cc
    evaluated (done_with outputs) is (inl opened) = absurd cc
    evaluated (faulted_with fault) is (inl opened) = absurd cc
    evaluated status is (inr after) = after

has_committed : (setup : PlainSetup) (s : Standing) (state : PlainState) → IsTold setup (events_in s) state (log_view s.log) s.held.items → occurrences_in s ≡ numbered 0 (committed_of state s) → HasCommitted setup s
has_committed setup s state told occurrences = record {
  claims = told.has.committed;
  each = done_claims setup told.has.committed (all_parts (IsClaimOf setup) told.has.committed (log_view s.log).claims (subst (AllByRecursion (IsClaimOf setup)) told.has.claims_are (every_state setup (events_in s) state told.reached).claims_are)).0 told.has.done;
  heads_are = told.has.heads;
  left = told.has.left;
  occurrences = occurrences ∙ ap (numbered 0) (first_are setup.start state.claims (log_view s.log) told.has);
}

pub has_committed_at : (setup : PlainSetup) (s : Standing) → IsToldAt setup s → HasCommitted setup s
has_committed_at setup s at = has_committed setup s at.state at.told at.occurrences

-- where the committed part and its occurrences are as they were, they still stand
pub still_same : (setup : PlainSetup) (old new : Standing) → HasCommitted setup old → (log_view new.log).committed ≡ (log_view old.log).committed → (log_view new.log).settled ≡ (log_view old.log).settled → occurrences_in new ≡ occurrences_in old → StillCommitted setup old new
still_same setup old new has heads_same settled_same same = record {
  committed = record { claims = has.claims; each = has.each; heads_are = has.heads_are ∙ sym heads_same; left = has.left ∙ ap Some (sym settled_same); occurrences = same ∙ has.occurrences };
  more = [];
  occurrences = same ∙ sym (append-nil (occurrences_in old));
}

-- so it is where a run is told
pub still_at : (setup : PlainSetup) (old new : Standing) → IsToldAt setup old → (log_view new.log).committed ≡ (log_view old.log).committed → (log_view new.log).settled ≡ (log_view old.log).settled → occurrences_in new ≡ occurrences_in old → StillCommitted setup old new
still_at setup old new at heads_same settled_same same = still_same setup old new (has_committed_at setup old at) heads_same settled_same same

pub still_through : (setup : PlainSetup) (old mid new : Standing) → StillCommitted setup old mid → StillCommitted setup mid new → StillCommitted setup old new
still_through setup old mid new first second = record {
  committed = second.committed;
  more = first.more ++ second.more;
  occurrences = second.occurrences ∙ ap (λ os. os ++ second.more) first.occurrences ∙ append_assoc (occurrences_in old) first.more second.more;
}

-- ---- the next claim is committed

module _ (setup : PlainSetup) (old new : Standing) (claim : PlainClaim) (rest : List PlainClaim) (first : (log_view old.log).claims ≡ claim ∷ rest) (done : is_done claim.status ≡ true)
    (log_is : log_view new.log ≡ with_committed (log_view old.log) claim rest) (kept : IsKept (log_view new.log)) (jobs_left : jobs_in new.log ≡ drop 1 (jobs_in old.log))
    (others : new ≡ record old { log = new.log; occurrences = new.occurrences; measuring = new.measuring })
    (occurrences : occurrences_in new ≡ occurrences_in old ++ record { number = length (log_view old.log).committed; time = claim.time; element = claim.element } ∷ []) where
  module _ (at : IsToldAt setup old) (goes_on : NoneStops setup at.state (log_view old.log)) where
    pub told : IsTold setup (events_in new) at.state (log_view new.log) new.held.items
    told =
        let first_told = told_committed setup (events_in old) at.state (log_view old.log) old.held.items claim rest at.told goes_on first done (subst IsKept log_is kept) in
        subst (λ l. IsTold setup (events_in new) at.state l new.held.items) (sym log_is)
        (subst (λ es. IsTold setup es at.state (with_committed (log_view old.log) claim rest) new.held.items) (sym (ap events_in others))
        (subst (λ hs. IsTold setup (events_in old) at.state (with_committed (log_view old.log) claim rest) hs) (sym (ap (λ (s : Standing). s.held.items) others)) first_told))

    claims_are : at.state.claims ≡ at.told.has.committed ++ claim ∷ rest
    claims_are = at.told.has.claims_are ∙ ap (λ cs. at.told.has.committed ++ cs) first

    abbrev front : List PlainClaim
    front = at.told.has.committed

    many : length front ≡ length (log_view old.log).committed
    many = as_many setup.start at.state.claims (log_view old.log) at.told.has

    pub one_more : take (length (log_view new.log).committed) at.state.claims ≡ front ++ claim ∷ []
    one_more =
        first_are setup.start at.state.claims (log_view new.log) told.has ∙ by
      where
        by : told.has.committed ≡ front ++ claim ∷ []
        by =
            let long : length (log_view new.log).committed ≡ length (front ++ claim ∷ []) = ap (λ (l : PlainLog). length l.committed) log_is ∙ length-append (log_view old.log).committed (head_of claim ∷ []) ∙ ap (λ (k : ℕ). k + 1) (sym many) ∙ sym (length-append front (claim ∷ [])) in
            sym (first_are setup.start at.state.claims (log_view new.log) told.has) ∙ ap (λ k. take k at.state.claims) long ∙ ap (take (length (front ++ claim ∷ []))) (claims_are ∙ sym (append_assoc front (claim ∷ []) rest)) ∙ take-append_seam (front ++ claim ∷ []) rest

    pub occurrences_more : occurrences_in new ≡ numbered 0 (committed_of at.state new)
    occurrences_more =
        occurrences
        ∙ ap (λ os. os ++ record { number = length (log_view old.log).committed; time = claim.time; element = claim.element } ∷ []) (at.occurrences ∙ ap (numbered 0) (first_are setup.start at.state.claims (log_view old.log) at.told.has))
        ∙ ap (λ (k : ℕ). numbered 0 front ++ record { number = k; time = claim.time; element = claim.element } ∷ []) (sym many ∙ (let e : length front ≡ 0 + length front = omega arith in e))
        ∙ sym (numbered_more 0 front claim)
        ∙ ap (numbered 0) (sym one_more)

    -- what was committed stands, with it
    pub committed_still : StillCommitted setup old new
    committed_still = record {
      committed = has_committed setup new at.state told occurrences_more;
      more = record { number = length (log_view old.log).committed; time = claim.time; element = claim.element } ∷ [];
      occurrences = occurrences;
    }

    module _ (playable : IsPlayable setup) (marked : MarkedOccurrence) (marked_so : marked ≡ marked_claim (log_view old.log).settled claim)
        (noted : KeepsNext setup.net setup.functions setup.monitors marked (measuring_view old.measuring) (measuring_view new.measuring)) where
      -- where monitors have noted it, the run is told there still
      abbrev pub committed_told : IsToldAt setup new
      committed_told = record {
        state = at.state;
        told = told;
        clock = ap (λ (s : Standing). s.clock) others ∙ at.clock;
        cut = ap (λ (s : Standing). option_map cut_view s.cut) others ∙ at.cut;
        jobs =
            ap (map job_view) jobs_left ∙ sym (drop-map job_view 1 (jobs_in old.log)) ∙ ap (drop 1) at.jobs
            ∙ ap (λ cs. drop 1 (map (job_for setup.net) (map head_of cs))) first ∙ ap (λ (l : PlainLog). map (job_for setup.net) (map head_of l.claims)) (sym log_is);
        occurrences = occurrences_more;
        measured =
            measured_alike setup old.clock new.clock (front ++ claim ∷ []) (committed_of at.state new) (measuring_view new.measuring) (measuring_view new.measuring) (ap (λ (s : Standing). s.clock) others) one_more refl
            (noted_measured setup old at claim rest first playable marked (measuring_view new.measuring) marked_so noted);
        made_now =
            subst (λ (l : PlainLog). AllByRecursion (λ (k : PlainClaim). k.time ≡ new.clock) l.claims) (sym log_is)
            (made_at_same old.clock new.clock rest (ap (λ (s : Standing). s.clock) others) (now setup old at claim rest first).1);
        draw = λ none. ap (λ (s : Standing). s.draw) others ∙ at.draw none;
      }

      -- the monitor that stops the run after it, if one does, is the one that they tell
      pub stop_is
          : (stop : Option ℕ)
          → (FindsStop setup.net setup.functions setup.monitors marked (measuring_view old.measuring) stop)
          → stop ≡ stop_behind setup at.state (log_view new.log)
      stop_is stop is = stop_noted setup old at claim rest first playable marked marked_so stop is ∙ ap (λ cs. stop_at_last setup.monitors (marked_from setup.start cs)) (sym one_more)

-- ---- nothing more can be committed

module _ (setup : PlainSetup) (old : Standing) (at : IsToldAt setup old) (all : committed setup at.state ≡ length (log_view old.log).committed) where
  -- where no cut is owed, the run stands there
  pub stands_so : owed_cut setup at.state ≡ None → IsAt setup old
  stands_so none = record { at = at; all_committed = all; none_owed = none }

-- ---- claims are cut off

module _ (setup : PlainSetup) (old : Standing) (cut : PlainCut) (may : IsDueAt setup old cut) (new : Standing)
    (log_cut : (log_view new.log).claims ≡ take (cut.number - length (log_view old.log).committed) (log_view old.log).claims)
    (jobs_cut : jobs_in new.log ≡ take (cut.number - length (log_view old.log).committed) (jobs_in old.log))
    (heads_same : (log_view new.log).committed ≡ (log_view old.log).committed)
    (settled_same : (log_view new.log).settled ≡ (log_view old.log).settled)
    (kept : IsKept (log_view new.log))
    (long : length new.held.items ≡ length old.held.items)
    (freed : (s : ℕ) → slice_get new.held.items s ≡ option_map (held_below cut.number) (slice_get old.held.items s))
    (cut_is : option_map cut_view new.cut ≡ Some cut)
    (events : events_in new ≡ events_in old ++ cut_made cut.number ∷ [])
    (rest : new ≡ record old { log = new.log; held = new.held; journal = new.journal; cut = new.cut }) where
  abbrev state : PlainState
  state = may.told.state

  abbrev committed_many : ℕ
  committed_many = length (log_view old.log).committed

  abbrev place : ℕ
  place = cut.number - committed_many

  behind : committed_many ≤ cut.number
  behind = cut_behind setup (events_in old) state (log_view old.log) (log_view new.log) old.held.items may.told.told cut may.all_committed may.due

  where_is : cut.number ≡ committed_many + place
  where_is = let b = behind in omega (arith, b)

  stands : StandsAt setup (events_in new) (left_after state cut) (log_view new.log) new.held.items
  stands =
      let first = stands_cut setup (events_in old) state (log_view old.log) (log_view new.log) old.held.items may.told.told cut may.all_committed may.due place where_is log_cut heads_same settled_same kept new.held.items long freed in
      subst (λ es. StandsAt setup es (left_after state cut) (log_view new.log) new.held.items) (sym events) first

  committed_same : committed_of (left_after state cut) new ≡ committed_of state old
  committed_same = ap (λ hs. take (length hs) (take cut.number state.claims)) heads_same ∙ first_of_first committed_many cut.number state.claims behind

  -- the run stands there
  pub cut_stands : IsAt setup new
  cut_stands = record {
    at = record {
      state = left_after state cut;
      told = stands.told;
      clock = ap (λ (s : Standing). s.clock) rest ∙ may.told.clock;
      cut = cut_is;
      jobs =
          ap (map job_view) jobs_cut ∙ sym (take-map job_view place (jobs_in old.log)) ∙ ap (take place) may.told.jobs
          ∙ take-map (job_for setup.net) place (map head_of (log_view old.log).claims)
          ∙ ap (map (job_for setup.net)) (take-map head_of place (log_view old.log).claims ∙ ap (map head_of) (sym log_cut));
      occurrences = ap occurrences_in rest ∙ may.told.occurrences ∙ ap (numbered 0) (sym committed_same);
      measured =
          measured_alike setup old.clock new.clock (committed_of state old) (committed_of (left_after state cut) new) (measuring_view old.measuring) (measuring_view new.measuring) (ap (λ (s : Standing). s.clock) rest) committed_same
          (ap (λ (s : Standing). measuring_view s.measuring) rest) may.told.measured;
      made_now =
          subst (AllByRecursion (λ (k : PlainClaim). k.time ≡ new.clock)) (sym log_cut)
          (made_at_same old.clock new.clock (take place (log_view old.log).claims) (ap (λ (s : Standing). s.clock) rest)
          (all_parts (λ (k : PlainClaim). k.time ≡ old.clock) (take place (log_view old.log).claims) (drop place (log_view old.log).claims) (subst (AllByRecursion (λ (k : PlainClaim). k.time ≡ old.clock)) (sym (take-append-drop place (log_view old.log).claims)) may.told.made_now)).0);
      draw = λ none. let clash : Some cut ≡ None = none in cc;
    };
    all_committed = stands.all_committed;
    none_owed = stands.none_owed;
  }

-- the values are those of the state
pub values_are_in : (setup : PlainSetup) (s : Standing) (is : IsAt setup s) → IsPlayable setup → values_until s.clock (measuring_view s.measuring).values ≡ values_in setup is.at.state
values_are_in setup s is playable =
    is.at.measured.values_are
    ∙ ap (λ funs. values_of funs setup.monitors (run_of setup s.clock (committed_of is.at.state s))) playable.monitors.functions_are
    ∙ ap (λ t. values_of setup.net.functions setup.monitors (run_of setup t (committed_of is.at.state s))) is.at.clock
    ∙ ap (λ k. values_of setup.net.functions setup.monitors (run_of setup is.at.state.clock (take k is.at.state.claims))) (sym is.all_committed)

-- the occurrences of a state are those that are committed
pub committed_are : (setup : PlainSetup) (s : Standing) (is : IsAt setup s) → occurrences_in s ≡ committed_occurrences setup is.at.state
committed_are setup s is = is.at.occurrences ∙ ap (λ k. numbered 0 (take k is.at.state.claims)) (sym is.all_committed)

-- a journal with more room holds the same events
abbrev pub told_but_journal : (setup : PlainSetup) (old new : Standing) → IsToldAt setup old → new ≡ record old { journal = new.journal } → new.journal.items ≡ old.journal.items → IsToldAt setup new
told_but_journal setup old new at same items = record {
  state = at.state;
  told = subst (λ (s : Standing). IsTold setup (events_in new) at.state (log_view s.log) s.held.items) (sym same) (subst (λ es. IsTold setup es at.state (log_view old.log) old.held.items) (sym (ap (map event_view) items)) at.told);
  clock = ap (λ (s : Standing). s.clock) same ∙ at.clock;
  cut = ap (λ (s : Standing). option_map cut_view s.cut) same ∙ at.cut;
  jobs = (let P : Standing → Type 0 = λ s. map job_view (jobs_in s.log) ≡ map (job_for setup.net) (map head_of (log_view s.log).claims) in subst P (sym same) at.jobs);
  occurrences = (let P : Standing → Type 0 = λ s. occurrences_in s ≡ numbered 0 (take (length (log_view s.log).committed) at.state.claims) in subst P (sym same) at.occurrences);
  measured = (let P : Standing → Type 0 = λ s. AreKept setup.net setup.functions setup.monitors (run_of setup s.clock (committed_of at.state s)) (measuring_view s.measuring) in subst P (sym same) at.measured);
  made_now = (let P : Standing → Type 0 = λ s. AllByRecursion (λ (k : PlainClaim). k.time ≡ s.clock) (log_view s.log).claims in subst P (sym same) at.made_now);
  draw = λ none. ap (λ (s : Standing). s.draw) same ∙ at.draw none;
}

pub same_but_journal : (setup : PlainSetup) (old new : Standing) → IsAt setup old → new ≡ record old { journal = new.journal } → new.journal.items ≡ old.journal.items → IsAt setup new
same_but_journal setup old new is same items = record {
  at = told_but_journal setup old new is.at same items;
  all_committed = is.all_committed ∙ sym (ap (λ (s : Standing). length (log_view s.log).committed) same);
  none_owed = is.none_owed;
}

pub still_due : (setup : PlainSetup) (old new : Standing) (cut : PlainCut) → IsDueAt setup old cut → new ≡ record old { journal = new.journal } → new.journal.items ≡ old.journal.items → IsDueAt setup new cut
still_due setup old new cut may same items = record {
  told = told_but_journal setup old new may.told same items;
  all_committed = may.all_committed ∙ sym (ap (λ (s : Standing). length (log_view s.log).committed) same);
  due = may.due;
}
