-- The bounds of a run, for any number of seats: what each state keeps of its clock, of its claims and of the marking that they
-- leave; and what the outputs of a claim keep.
use Rattle.std.proofs.Common.{◌≡◌, ℕ, zero, suc, ◌+◌, ◌*◌, ◌<◌, ◌≤◌, List, [], ◌∷◌, ◌++◌, length, replicate, take, drop, Some, refl, sym, ap, subst, ◌∙◌, arith, length-append}
use Rattle.std.specs.List.{flat_map, AllByRecursion}
use Rattle.std.proofs.lemmas.Bool.{and_parts}
use Rattle.std.proofs.lemmas.List.{take-append-drop, length-take}
use Rattle.std.proofs.lemmas.Option.{same_Some}
use Rattle.cpn_definitions.specs.Bounds.{most_made, IsBounded}
use Rattle.cpn_definitions.specs.Lists.{in_order}
use Rattle.cpn_definitions.specs.Marking.{Marking}
use Rattle.cpn_definitions.specs.Meaning.{PlainBinding}
use Rattle.cpn_definitions.specs.Net.{PlainArc, PlainTransition, PlainNet, Coloured, transition_at}
use Rattle.cpn_definitions.specs.Occurrence.{PlainElement, Made, made_cmp, gather, threshold, made_by, stamp_on, transition_delay, outputs_of, subtract, add_made}
use Rattle.cpn_definitions.specs.Outcome.{gives}
use Rattle.cpn_definitions.specs.Sound.{IsSoundArc, IsSoundTransition, IsSound, IsMarking}
use Rattle.cpn_definitions.specs.Terms.{PlainTerm, terms_of}
use Rattle.cpn_definitions.specs.Times.{last_time}
use Rattle.cpn_definitions.proofs.BoundedMarkings.{bounded_by, taken_in_time, made_bounded, made_in_time}
use Rattle.cpn_definitions.proofs.LegalSequences.{covered_is_bound}
use Rattle.cpn_definitions.proofs.Markings.{MayBeHeld, subtracted_marking, outputs_sound_at, outputs_held, occurred_marking}
use Rattle.cpn_definitions.proofs.OrderedLists.{each_with_items}
use Rattle.cpn_definitions.proofs.Outcomes.{bound_parts, same_given}
use Rattle.cpn_definitions.proofs.PlaceCounts.{outputs_are_few, taken_up_to}
use Rattle.cpn_definitions.proofs.RisingLists.{each_in, each_implied, each_appended, each_flat}
use Rattle.cpn_definitions.proofs.SoundElements.{sound_transition}
use Rattle.cpn_definitions.proofs.ListItems.{split_at, all_parts}
use Rattle.cpn_runs.specs.Bounds.{HasGrown}
use Rattle.cpn_runs.specs.HoleRun.{PlainClaim, Status, open_claim, done_with, faulted_with, added, after_claim, marking_left}
use Rattle.cpn_runs.specs.Playable.{IsPlayable}
use Rattle.cpn_runs.specs.State.{PlainSetup, PlainEvent, claim_made, claim_completed, clock_moved, cut_made, PlainState, first_state, unclaimed_in, settled_in, committed, new_claim, MayClaim, MayComplete, MayMove, MayCut, Happens, Leads, IsState}
use Rattle.cpn_runs.proofs.Cuts.{as_many_are_committed}
use Rattle.cpn_runs.proofs.Journals.{outputs_are}
use Rattle.cpn_runs.proofs.Sequences.{left_parts}
use Rattle.cpn_runs.proofs.States.{IsClaimOf, every_state}

-- ---- the places of outputs

-- the place of a made token is one of the net
abbrev pub IsOnPlace : PlainNet → Made → Type 0
IsOnPlace n made = made.place < length n.places

replicated : (n : PlainNet) (k : ℕ) (made : Made) → IsOnPlace n made → AllByRecursion (IsOnPlace n) (replicate k made)
replicated n zero made on = tt
replicated n (suc k) made on = (on, replicated n k made on)

arc_on_place : (n : PlainNet) (b : PlainBinding) (time delay : ℕ) (arc : PlainArc) (made : List Made) → arc.place < length n.places → made_by n b time delay arc ≡ gives made → AllByRecursion (IsOnPlace n) made
arc_on_place n b time delay arc made known is =
    let terms = bound_parts (terms_of n.functions arc.expr arc.colour b time) _ made is in
    let each = λ (term : PlainTerm). replicate term.count (record { place = arc.place; value = term.value; stamp = stamp_on n arc.place (time + delay + term.delay) }) in
    subst (AllByRecursion (IsOnPlace n)) (same_given (flat_map each terms.0) made terms.2)
    (each_flat (IsOnPlace n) each terms.0 (each_in (λ term. AllByRecursion (IsOnPlace n) (each term)) terms.0 (λ term _. replicated n term.count (record { place = arc.place; value = term.value; stamp = stamp_on n arc.place (time + delay + term.delay) }) known)))

arcs_on_places : (n : PlainNet) (t : PlainTransition) (b : PlainBinding) (time delay : ℕ) (arcs : List PlainArc) (made : List Made) → AllByRecursion (IsSoundArc n t) arcs → gather (made_by n b time delay) arcs ≡ gives made → AllByRecursion (IsOnPlace n) made
arcs_on_places n t b time delay [] made sound is = subst (AllByRecursion (IsOnPlace n)) (same_given [] made is) tt
arcs_on_places n t b time delay (arc ∷ arcs) made sound is =
    let first = bound_parts (made_by n b time delay arc) _ made is in
    let rest = bound_parts (gather (made_by n b time delay) arcs) _ made first.2 in
    subst (AllByRecursion (IsOnPlace n)) (same_given (first.0 ++ rest.0) made rest.2)
    (each_appended (IsOnPlace n) first.0 rest.0 (arc_on_place n b time delay arc first.0 sound.0.place_known first.1) (arcs_on_places n t b time delay arcs rest.0 sound.1 rest.1))

-- the outputs of an element of a sound net are on places of the net
pub outputs_on_places : (n : PlainNet) (e : PlainElement) (time : ℕ) (outputs : List Made) → IsSound n → outputs_of n e time ≡ gives outputs → AllByRecursion (IsOnPlace n) outputs
unfolding outputs_of
outputs_on_places n e time outputs sound is =
    let t = transition_at n e.transition in
    let delay = bound_parts (transition_delay n.functions t.delay e.binding time) _ outputs is in
    let made = bound_parts (gather (made_by n e.binding time delay.0) t.outputs) _ outputs delay.2 in
    subst (AllByRecursion (IsOnPlace n)) (same_given (in_order made_cmp made.0) outputs made.2)
    (each_with_items made_cmp (IsOnPlace n) made.0 [] (arcs_on_places n t e.binding time delay.0 t.outputs made.0 (outputs_sound_at n n.transitions e.transition sound.transitions_sound) made.1) tt)

-- ---- the outputs of a claim

-- the transition of a claim is a sound one
claim_is_sound : (setup : PlainSetup) (claim : PlainClaim) → IsPlayable setup → IsClaimOf setup claim → IsSoundTransition setup.net (transition_at setup.net claim.element.transition)
claim_is_sound setup claim playable is = sound_transition setup.net claim.element.transition playable.sound (and_parts _ _ (covered_is_bound setup.net is.marking claim.time claim.element is.was_covered)).0

-- What the outputs of a claim keep: they are few, on places of the net, each of which may hold its own.
pub record HasFewOutputs (setup : PlainSetup) (outputs : List Made) : Type 0 where
  pub few : length outputs ≤ most_made
  pub on_places : AllByRecursion (λ made. made.place < length setup.net.places) outputs
  pub held : AllByRecursion (MayBeHeld setup.net.places) outputs

-- the outputs of a claim of a run are few, on places of the net, each of which may hold its own
pub claim_has_few_outputs : (setup : PlainSetup) (claim : PlainClaim) (outputs : List Made) → IsPlayable setup → IsClaimOf setup claim → outputs_of setup.net claim.element claim.time ≡ gives outputs → HasFewOutputs setup outputs
claim_has_few_outputs setup claim outputs playable is made = record {
  few = outputs_are_few setup.net claim.element claim.time outputs (claim_is_sound setup claim playable is) made;
  on_places = outputs_on_places setup.net claim.element claim.time outputs playable.sound made;
  held = outputs_held setup.net claim.element claim.time outputs playable.sound made;
}

-- ---- the marking that claims leave

-- what no occurrence leaves is what there was
pub none_grown : (places : List Coloured) (m : Marking) → HasGrown places m 0 m
none_grown places m = record { marking = λ is. is; few = λ number is p. (let own = is p in omega (arith, own)); in_time = λ is. is }

-- a marking has grown by what some occurrences leave, and by what others leave of that
pub grown_on : (places : List Coloured) (start mid last : Marking) (i j : ℕ) → HasGrown places start i mid → HasGrown places mid j last → HasGrown places start (i + j) last
grown_on places start mid last i j first second = record {
  marking = λ is. second.marking (first.marking is);
  few = λ number is p. (let all = second.few (number + i * most_made) (first.few number is) p in omega (arith, all));
  in_time = λ is. second.in_time (first.in_time is);
}

-- and it has not grown by more than by what more occurrences leave
pub grown_by : (places : List Coloured) (start last : Marking) (i j : ℕ) → i ≤ j → HasGrown places start i last → HasGrown places start j last
grown_by places start last i j le grown = record {
  marking = grown.marking;
  few = λ number is p. (let all = grown.few number is p in omega (arith, all, le));
  in_time = grown.in_time;
}

-- a claim leaves what one occurrence leaves
claim_grows : (setup : PlainSetup) (claim : PlainClaim) (m : Marking) → IsPlayable setup → IsClaimOf setup claim → claim.time ≤ last_time → HasGrown setup.net.places m 1 (after_claim claim m)
claim_grows setup claim m playable is early = split claim.status refl
  where
    left : Marking
    left = subtract (threshold claim.time) claim.needs m

    left_bounded : (number : ℕ) → IsBounded number m → IsBounded number left
    left_bounded number up_to = taken_up_to (threshold claim.time) claim.needs m number up_to

    none_added : HasGrown setup.net.places m 1 left
    none_added = record {
      marking = subtracted_marking setup.net.places (threshold claim.time) claim.needs m;
      few = λ number up_to. bounded_by number (number + 1 * most_made) left (omega arith) (left_bounded number up_to);
      in_time = taken_in_time (threshold claim.time) claim.needs m;
    }

    split : (status : Status) → claim.status ≡ status → HasGrown setup.net.places m 1 (add_made (added status) (subtract (threshold claim.time) claim.needs m))
    split open_claim e = none_added
    split (done_with made) e =
        let outputs : outputs_of setup.net claim.element claim.time ≡ gives made = outputs_are setup claim made is e in
        record {
          marking = occurred_marking setup.net (threshold claim.time) claim.needs claim.element claim.time made m playable.sound outputs;
          few = λ number up_to. bounded_by (number + most_made) (number + 1 * most_made) (add_made made left) (omega arith)
              (made_bounded setup.net claim.element claim.time made outputs (claim_is_sound setup claim playable is) left number (left_bounded number up_to));
          in_time = λ stamped. made_in_time setup.net claim.element claim.time made outputs early left (taken_in_time (threshold claim.time) claim.needs m stamped);
        }
    split (faulted_with fault) e = none_added

-- claims leave what as many occurrences leave
pub claims_grow : (setup : PlainSetup) (claims : List PlainClaim) (m last : Marking) → IsPlayable setup → AllByRecursion (IsClaimOf setup) claims → AllByRecursion (λ claim. claim.time ≤ last_time) claims
    → marking_left m claims ≡ Some last → HasGrown setup.net.places m (length claims) last
claims_grow setup [] m last playable each early is = subst (HasGrown setup.net.places m 0) (same_Some m last is) (none_grown setup.net.places m)
claims_grow setup (claim ∷ claims) m last playable each early is =
    let one : 1 + length claims ≡ suc (length claims) = omega arith in
    subst (λ (k : ℕ). HasGrown setup.net.places m k last) one
    (grown_on setup.net.places m (after_claim claim m) last 1 (length claims) (claim_grows setup claim m playable each.0 early.0) (claims_grow setup claims (after_claim claim m) last playable each.1 early.1 (left_parts m claim claims last is).1))

-- ---- how many claims there are, and when they were made

-- Within the limits: there are no more claims than may be, each made at a time up to the clock.
pub record IsWithin (setup : PlainSetup) (state : PlainState) : Type 0 where
  pub few_claims : length state.claims ≤ setup.limits.steps
  pub in_time : AllByRecursion (λ claim. claim.time ≤ state.clock) state.claims

-- it is so at the start
pub first_within : (setup : PlainSetup) → IsWithin setup (first_state setup)
first_within setup = record { few_claims = omega arith; in_time = tt }

claim_within : (setup : PlainSetup) (old : PlainState) (seat number : ℕ) (new : PlainState) → IsWithin setup old → MayClaim setup old seat number new → IsWithin setup new
claim_within setup old seat number new within c =
    let claim = new_claim setup.net seat old.clock c.drawn.element in
    let longer = length-append old.claims (claim ∷ []) in
    let same : old.clock ≤ old.clock = omega arith in
    let number_is = c.next_number in
    let below = c.below_limit in
    subst (IsWithin setup) (sym c.new_is) (record {
      few_claims = omega (arith, longer, number_is, below);
      in_time = each_appended (λ k. k.time ≤ old.clock) old.claims (claim ∷ []) within.in_time (same, tt);
    })

completion_within : (setup : PlainSetup) (old : PlainState) (seat number : ℕ) (new : PlainState) → IsWithin setup old → MayComplete setup old seat number new → IsWithin setup new
completion_within setup old seat number new within c =
    let claim = c.held_claim in
    let completed : PlainClaim = record c.held_claim { status = c.status } in
    let parts = split_at old.claims number claim c.claim_is in
    let before = ap (λ (cs : List PlainClaim). length cs) parts.is ∙ length-append parts.before (claim ∷ parts.later) in
    let after = length-append parts.before (completed ∷ parts.later) in
    let few = within.few_claims in
    let each = all_parts (λ k. k.time ≤ old.clock) parts.before (claim ∷ parts.later) (subst (AllByRecursion (λ k. k.time ≤ old.clock)) parts.is within.in_time) in
    subst (IsWithin setup) (sym (c.new_is ∙ ap (λ cs. record old { claims = cs }) (parts.changed completed))) (record {
      few_claims = omega (arith, before, after, few);
      in_time = each_appended (λ k. k.time ≤ old.clock) parts.before (completed ∷ parts.later) each.0 (each.1.0, each.1.1);
    })

move_within : (setup : PlainSetup) (old : PlainState) (time : ℕ) (new : PlainState) → IsWithin setup old → MayMove setup old time new → IsWithin setup new
move_within setup old time new within c =
    let later = c.least.not_before in
    subst (IsWithin setup) (sym c.new_is) (record {
      few_claims = within.few_claims;
      in_time = each_implied (λ k. k.time ≤ old.clock) (λ k. k.time ≤ time) old.claims (λ k up_to. omega (arith, up_to, later)) within.in_time;
    })

cut_within : (setup : PlainSetup) (old : PlainState) (number : ℕ) (new : PlainState) → IsWithin setup old → MayCut setup old number new → IsWithin setup new
cut_within setup old number new within c =
    let fewer = length-take number old.claims in
    let few = within.few_claims in
    let whole = subst (AllByRecursion (λ k. k.time ≤ old.clock)) (sym (take-append-drop number old.claims)) within.in_time in
    subst (IsWithin setup) (sym c.new_is) (record {
      few_claims = omega (arith, fewer, few);
      in_time = (all_parts (λ k. k.time ≤ old.clock) (take number old.claims) (drop number old.claims) whole).0;
    })

pub event_within : (setup : PlainSetup) (old : PlainState) (event : PlainEvent) (new : PlainState) → IsWithin setup old → Happens setup old event new → IsWithin setup new
event_within setup old (claim_made seat number) new within happens = claim_within setup old seat number new within happens
event_within setup old (claim_completed seat number) new within happens = completion_within setup old seat number new within happens
event_within setup old (clock_moved time) new within happens = move_within setup old time new within happens
event_within setup old (cut_made number) new within happens = cut_within setup old number new within happens

events_within : (setup : PlainSetup) (old : PlainState) (events : List PlainEvent) (state : PlainState) → IsWithin setup old → Leads setup old events state → IsWithin setup state
events_within setup old [] state within leads = subst (IsWithin setup) (sym leads) within
events_within setup old (event ∷ events) state within leads = events_within setup leads.0 events state (event_within setup old event leads.0 within leads.1) leads.2

-- ---- every state

-- What holds in every state that a journal leads to: the clock is one that the run may reach, no more claims were made than may
-- be, each claim was made at a time up to the clock, and the marking that the claims leave is one of the net's places, and what as many
-- occurrences leave of the start; so is the one that the committed claims leave.
pub record HasBounds (setup : PlainSetup) (state : PlainState) : Type 0 where
  pub clock : state.clock ≤ setup.limits.until
  pub few_claims : length state.claims ≤ setup.limits.steps
  pub claims_in_time : AllByRecursion (λ claim. claim.time ≤ state.clock) state.claims
  pub marking : (m : Marking) → unclaimed_in setup state ≡ Some m → IsMarking setup.net.places m
  pub grown : (m : Marking) → unclaimed_in setup state ≡ Some m → HasGrown setup.net.places setup.start (length state.claims) m
  pub settled : (m : Marking) → settled_in setup state ≡ Some m → HasGrown setup.net.places setup.start (committed setup state) m

-- each state that a journal leads to has its bounds, for any number of seats
pub every_state_has_bounds : (setup : PlainSetup) (journal : List PlainEvent) (state : PlainState) → IsPlayable setup → IsState setup journal state → HasBounds setup state
every_state_has_bounds setup journal state playable reached = record {
  clock = clock;
  few_claims = within.few_claims;
  claims_in_time = within.in_time;
  marking = λ m is. (grown m is).marking playable.marking;
  grown = grown;
  settled = settled;
}
  where
    within : IsWithin setup state
    within = events_within setup (first_state setup) journal state (first_within setup) reached

    clock : state.clock ≤ setup.limits.until
    clock = (every_state setup journal state reached).clock_in_time playable.clock

    claims_are : AllByRecursion (IsClaimOf setup) state.claims
    claims_are = (every_state setup journal state reached).claims_are

    early : AllByRecursion (λ (claim : PlainClaim). claim.time ≤ last_time) state.claims
    early =
        let until = playable.until in
        each_implied (λ k. k.time ≤ state.clock) (λ k. k.time ≤ last_time) state.claims (λ k up_to. omega (arith, up_to, clock, until)) within.in_time

    grown : (m : Marking) → unclaimed_in setup state ≡ Some m → HasGrown setup.net.places setup.start (length state.claims) m
    grown m is = claims_grow setup state.claims setup.start m playable claims_are early is

    settled : (m : Marking) → settled_in setup state ≡ Some m → HasGrown setup.net.places setup.start (committed setup state) m
    settled m is =
        let k = committed setup state in
        let whole : state.claims ≡ take k state.claims ++ drop k state.claims = sym (take-append-drop k state.claims) in
        let front : (P : PlainClaim → Type 0) → AllByRecursion P state.claims → AllByRecursion P (take k state.claims) = λ P each. (all_parts P (take k state.claims) (drop k state.claims) (subst (AllByRecursion P) whole each)).0 in
        subst (λ (number : ℕ). HasGrown setup.net.places setup.start number m) (as_many_are_committed setup.monitors [] setup.start state.claims)
        (claims_grow setup (take k state.claims) setup.start m playable (front (IsClaimOf setup) claims_are) (front (λ claim. claim.time ≤ last_time) early) is)
