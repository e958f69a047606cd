-- The element that is drawn for the next claim: it is covered at the clock, so its needs are, and its outputs have a meaning.
use Rattle.std.proofs.Common.{◌≡◌, ℕ, ◌<◌, ◌≤◌, ◌%◌, ◌==◌, true, List, length, Some, None, sym, ap, ◌∙◌, subst, slice_get, nat_lt, arith, eqb-true, ltb-true}
use Rattle.std.proofs.lemmas.Bool.{and_parts}
use Rattle.cpn_definitions.specs.Enabled.{PlainEntry, Enabled, ready}
use Rattle.cpn_definitions.specs.Marking.{Marking}
use Rattle.cpn_definitions.specs.Net.{PlainNet}
use Rattle.cpn_definitions.specs.Outcome.{Outcome, gives, HasMeaning}
use Rattle.cpn_definitions.specs.Occurrence.{PlainElement, Needed, Made, threshold, threshold_in, are_covered, may_occur, needs_of, covered, outputs_of}
use Rattle.cpn_definitions.specs.Times.{last_time}
use Rattle.cpn_definitions.proofs.LegalSequences.{covered_is_bound}
use Rattle.cpn_definitions.proofs.Outcomes.{gives_and_parts}
use Rattle.cpn_definitions.proofs.RisingLists.{in_filter_from, contains_from_in}
use Rattle.cpn_definitions.proofs.SoundElements.{outputs_mean}
use Rattle.cpn_definitions.proofs.UntimedPlaces.{covered_alike, marking_stamped}
use Rattle.cpn_definitions.proofs.ListItems.{in_from_get}
use Rattle.cpn_draw.specs.Draw.{generator, word}
use Rattle.cpn_jobs.specs.OutputsByWork.{work_makes}
use Rattle.cpn_log.specs.Logs.{PlainHead, claims_made}
use Rattle.cpn_log.specs.LogViews.{log_view}
use Rattle.cpn_runs.specs.Playable.{IsPlayable}
use Rattle.cpn_runs.specs.State.{PlainSetup, IsDrawn}
use Rattle.cpn_runs.proofs.BoundedStates.{every_state_has_bounds}
use Rattle.cpn_book.proofs.LoggedClaims.{unclaimed_left}
use Rattle.cpn_book.specs.Evaluations.{IsReadyToEvaluate}
use Rattle.cpn_book.specs.Standings.{IsAt, job_for, events_in}
use Rattle.cpn_book.specs.declared.standings.Standing.{Standing}
use Rattle.cpn_book.proofs.ClaimedStandings.{uncut_in, counted}

-- what is drawn from the ready elements is covered at the clock
pub drawn_covered : (n : PlainNet) (m : Marking) (clock : ℕ) (entries : List PlainEntry) (i : ℕ) (x : PlainEntry) → Enabled n m clock entries → slice_get (ready clock entries) i ≡ Some x → covered n m clock x.element ≡ true
drawn_covered n m clock entries i x enabled is =
    let kept = in_filter_from (λ (y : PlainEntry). y.earliest == clock) entries x (in_from_get (ready clock entries) i x is) in
    let now : x.earliest ≡ clock = eqb-true x.earliest clock kept.1 in
    subst (λ (t : ℕ). covered n m t x.element ≡ true) now ((enabled.exact x).0 (contains_from_in entries x kept.0)).is_covered

-- what is covered has needs, which are covered
pub record HasNeeds (n : PlainNet) (m : Marking) (time : ℕ) (e : PlainElement) : Type 0 where
  pub needs : List Needed
  pub are : needs_of n e ≡ gives needs
  pub covers : are_covered (threshold_in n time) m needs ≡ true

pub covered_has_needs : (n : PlainNet) (m : Marking) (time : ℕ) (e : PlainElement) → covered n m time e ≡ true → HasNeeds n m time e
unfolding covered
covered_has_needs n m time e is =
    let needs = gives_and_parts (needs_of n e) (are_covered (threshold_in n time) m) (and_parts (may_occur n e) _ is).1 in
    record { needs = needs.0; are = needs.1; covers = needs.2 }

-- the work of the transition of a claimed element makes its outputs, which have a meaning
pub ready_to_evaluate : (n : PlainNet) (head : PlainHead) → head.time ≤ last_time → HasMeaning (outputs_of n head.element head.time) → IsReadyToEvaluate (job_for n head)
ready_to_evaluate n head early means = record { in_time = early; meaning = subst (λ (o : Outcome (List Made)). HasMeaning o) (sym (work_makes n head.element head.time)) means }

module _ (setup : PlainSetup) (s : Standing) (is : IsAt setup s) (playable : IsPlayable setup) where
  pub clock_is_early : s.clock ≤ last_time
  clock_is_early =
      let bounds = every_state_has_bounds setup (events_in s) is.at.state playable is.at.told.reached in
      let c = bounds.clock in
      let same = is.at.clock in
      let until = playable.until in
      omega (arith, c, same, until)

  -- the words of the next claim
  pub draw_is : s.cut ≡ None → s.draw ≡ generator setup.seed (claims_made (log_view s.log))
  draw_is uncut = is.at.draw (uncut_in setup s is.at uncut) ∙ ap (generator setup.seed) (counted setup s is.at)

  module _ (entries : List PlainEntry) (enabled : Enabled setup.net (log_view s.log).unclaimed s.clock entries) (k : ℕ) (x : PlainEntry) (drawn : IsDrawn setup.seed k (ready s.clock entries) x) where
    pub is_covered : covered setup.net (log_view s.log).unclaimed s.clock x.element ≡ true
    is_covered = drawn_covered setup.net (log_view s.log).unclaimed s.clock entries (word setup.seed k % length (ready s.clock entries)) x enabled drawn

    pub transition_known : x.element.transition < length setup.net.transitions
    transition_known = ltb-true x.element.transition (length setup.net.transitions) (and_parts (nat_lt x.element.transition (length setup.net.transitions)) _ (covered_is_bound setup.net (log_view s.log).unclaimed s.clock x.element is_covered)).0

    pub needs_covered : (needs : List Needed) → needs_of setup.net x.element ≡ gives needs → are_covered (threshold s.clock) (log_view s.log).unclaimed needs ≡ true
    needs_covered needs are =
        let has = covered_has_needs setup.net (log_view s.log).unclaimed s.clock x.element is_covered in
        let same : has.needs ≡ needs = (let both : gives has.needs ≡ gives needs = sym has.are ∙ are in cc) in
        let bounds = every_state_has_bounds setup (events_in s) is.at.state playable is.at.told.reached in
        let left = unclaimed_left setup.start is.at.state.claims (log_view s.log) (log_view s.log) is.at.told.has is.at.told.kept in
        let stamped = marking_stamped setup.net (log_view s.log).unclaimed (bounds.marking (log_view s.log).unclaimed left) in
        covered_alike setup.net (log_view s.log).unclaimed s.clock needs stamped ∙ ap (are_covered (threshold_in setup.net s.clock) (log_view s.log).unclaimed) (sym same) ∙ has.covers

    pub ready_job : (seat : ℕ) → IsReadyToEvaluate (job_for setup.net (record { seat = seat; element = x.element; time = s.clock }))
    ready_job seat =
        ready_to_evaluate setup.net (record { seat = seat; element = x.element; time = s.clock }) clock_is_early
        (outputs_mean setup.net x.element s.clock playable.sound (covered_is_bound setup.net (log_view s.log).unclaimed s.clock x.element is_covered) clock_is_early)
