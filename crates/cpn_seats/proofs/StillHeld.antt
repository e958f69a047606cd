-- What a seat holds it holds after its calls, but for the claim that it completes.
use Rattle.std.proofs.Common.{◌≡◌, ◌≢◌, ℕ, zero, suc, ne_eqb, ◌||◌, Bool, true, false, cond, List, [], ◌∷◌, ◌++◌, Option, Some, None, refl, sym, ap, ◌∙◌, subst, ⊎_elim, append_assoc}
use Rattle.std.specs.Prelude.{slice_get}
use Rattle.std.specs.List.{list_any}
use Rattle.std.proofs.lemmas.List.Elements.{filter-append}
use native.Mathlib.Decide.{ℕ_discrete}
use Rattle.cpn_jobs.specs.Work.{PlainJob}
use Rattle.cpn_runs.specs.HeldClaims.{IsOpenAt, IsCutAt}
use Rattle.cpn_runs.specs.SeatEvents.{is_among, is_by, events_by}
use Rattle.cpn_runs.specs.State.{PlainSetup, PlainState, PlainCut, PlainEvent, claim_made, claim_completed, owed_cut, is_held_by, IsState, first_state}
use Rattle.cpn_book.specs.Answers.{IsTicket, claim_events, AnswersCompletion, AnswersGivingBack, move_events}
use Rattle.cpn_book.specs.States.{cut_events}
use Rattle.cpn_book.specs.Tickets.{number_of, evaluated_number}
use Rattle.cpn_book.specs.declared.answers.Advanced.{Advanced}
use Rattle.cpn_book.specs.declared.answers.Advanced.TheVariants as moves
use Rattle.cpn_book.specs.declared.answers.Claimed.TheVariants as claims
use Rattle.cpn_book.specs.declared.answers.Completed.{Completed}
use Rattle.cpn_book.specs.declared.answers.Completed.TheVariants as completions
use Rattle.cpn_book.specs.declared.answers.GivenBack.{GivenBack}
use Rattle.cpn_book.specs.declared.answers.GivenBack.TheVariants as returns
use Rattle.cpn_book.specs.declared.tickets.Evaluated.{Evaluated}
use Rattle.cpn_book.specs.declared.tickets.Ticket.{Ticket}
use Rattle.cpn_book.specs.Seen.{Seen, SeesCall, ClaimsAt}
use Rattle.cpn_seats.specs.HeldClaims.{Holds, IsHeld, IsNotDone}
use Rattle.cpn_seats.specs.StillHeld.{ClaimsKeepHeld, CompletionsKeepOthersHeld, RefusedCompletionsKeepHeld, GivingBackKeepsHeld, MovesKeepHeld, LooksKeepHeld, WantsOfMemoryKeepHeld}
use Rattle.cpn_seats.proofs.HeldClaims.{leads_first, held_further, held_by_seat}

-- a call whose own events are by others than the number under which a claim is held
through : (numbers : List ℕ) (own : List PlainEvent) (old new : Seen) (seat number : ℕ) (job : PlainJob) → SeesCall numbers own old new → is_among seat numbers ≡ true → events_by seat own ≡ [] → IsHeld old seat number job → IsHeld new seat number job
through numbers own old new seat number job c among none held =
    held_further old new seat number job (c.others ++ own) c.setup (c.journal ∙ ap (λ es. es ++ own) c.at_is ∙ append_assoc old.journal c.others own)
    (filter-append (is_by seat) c.others own ∙ ap (λ l. l ++ events_by seat own) (c.apart seat among) ∙ none)
    held

-- the state at which a call was made
pub at_call : (numbers : List ℕ) (own : List PlainEvent) (old new : Seen) (state : PlainState) (c : SeesCall numbers own old new) → IsState new.setup new.journal state → (mid : PlainState) × IsState old.setup c.at mid
at_call numbers own old new state c is =
    let here : IsState old.setup (c.at ++ own) state = subst (λ (events : List PlainEvent). IsState old.setup events state) c.journal (subst (λ (s : PlainSetup). IsState s new.journal state) c.setup is) in
    let first = leads_first old.setup (first_state old.setup) c.at own state here in
    (first.0, first.1)

-- ---- a claim

made_none : (seat number other : ℕ) → other ≢ seat → events_by other (claim_made seat number ∷ []) ≡ []
made_none seat number other ne = ap (λ b. cond b (claim_made seat number ∷ []) []) (ne_eqb seat other (λ e. ne (sym e)))

true_either : (a b : Bool) → a ≡ true → (a || b) ≡ true
true_either true b h = refl
true_either false b h = absurd (cc)

true_later : (a b : Bool) → b ≡ true → (a || b) ≡ true
true_later true b h = refl
true_later false b h = h

some_value : {A : Type 0} (x y : A) → Some x ≡ Some y → x ≡ y
some_value x y e = cc

any_there : {A : Type 0} (p : A → Bool) (xs : List A) (i : ℕ) (x : A) → slice_get xs i ≡ Some x → p x ≡ true → list_any p xs ≡ true
any_there p [] i x e h = absurd (cc)
any_there p (y ∷ xs) zero x e h = true_either (p y) (list_any p xs) (ap p (some_value y x e) ∙ h)
any_there p (y ∷ xs) (suc i) x e h = true_later (p y) (list_any p xs) (any_there p xs i x e h)

not_both : false ≡ true → ⊥
not_both e = cc

not_none : {A : Type 0} (x : A) → None ≡ Some x → ⊥
not_none x e = cc

-- a seat that holds a claim gets no ticket
no_ticket : (setup : PlainSetup) (state : PlainState) (seat number : ℕ) (job : PlainJob) (ticket : Ticket) (spent : Bool) (journal : List PlainEvent) → IsState setup journal state
    → IsHeld (record { setup = setup; journal = journal; spent = spent }) seat number job → IsTicket setup state seat ticket → ⊥
no_ticket setup state seat number job ticket spent journal at held t =
    let h = held state at in
    ⊎_elim
    (λ (o : IsOpenAt state number h.claim). not_both (sym t.may.seat_free ∙ any_there (is_held_by seat) state.claims number h.claim o.claim_is (held_by_seat seat h.claim o.still_open h.by_seat)))
    (λ (c : IsCutAt state number). not_none c.cut (sym t.may.no_cut ∙ c.cut_is))
    h.open_or_cut

ticket_keeps : (numbers : List ℕ) (seat : ℕ) (ticket : Ticket) (old new : Seen) → ClaimsAt numbers seat (claims.Ticket ticket) old new → (other number : ℕ) (job : PlainJob) → is_among other numbers ≡ true → IsHeld old other number job
    → IsHeld new other number job
ticket_keeps numbers seat ticket old new c other number job among held state at = by_number (ℕ_discrete other seat)
  where
    own : List PlainEvent
    own = claim_events seat (claims.Ticket ticket)

    mid : (m : PlainState) × IsState old.setup c.call.at m
    mid = at_call numbers own old new state c.call at

    by_number : Dec (other ≡ seat) → Holds new state other number job
    by_number (no ne) = through numbers own old new other number job c.call among (made_none seat (number_of ticket) other ne) held state at
    by_number (yes e) =
        let there = held_further old (record { setup = old.setup; journal = c.call.at; spent = old.spent }) other number job c.call.others refl c.call.at_is (c.call.apart other among) held in
        let mine = subst (λ (n : ℕ). IsHeld (record { setup = old.setup; journal = c.call.at; spent = old.spent }) n number job) e there in
        absurd (no_ticket old.setup mid.0 seat number job ticket old.spent c.call.at mid.1 mine (c.answer_is mid.0 mid.1))

pub claims_keep_held : ClaimsKeepHeld
claims_keep_held numbers seat (claims.Ticket ticket) old new c = ticket_keeps numbers seat ticket old new c
claims_keep_held numbers seat (claims.Nothing held) old new c = λ other number job among h. through numbers [] old new other number job c.call among refl h
claims_keep_held numbers seat (claims.Busy held) old new c = λ other number job among h. through numbers [] old new other number job c.call among refl h
claims_keep_held numbers seat claims.StepLimit old new c = λ other number job among h. through numbers [] old new other number job c.call among refl h
claims_keep_held numbers seat claims.Over old new c = λ other number job among h. through numbers [] old new other number job c.call among refl h

-- ---- a completion

cut_none : (cut : Option PlainCut) (other : ℕ) → events_by other (cut_events cut) ≡ []
cut_none None other = refl
cut_none (Some cut) other = refl

completed_none : (seat number other : ℕ) (cut : Option PlainCut) → other ≢ seat → events_by other (claim_completed seat number ∷ cut_events cut) ≡ []
completed_none seat number other cut ne = ap (λ b. cond b (claim_completed seat number ∷ events_by other (cut_events cut)) (events_by other (cut_events cut))) (ne_eqb seat other (λ e. ne (sym e))) ∙ cut_none cut other

completion_none : (seat : ℕ) (done : Evaluated) (setup : PlainSetup) (state : PlainState) (events : List PlainEvent) (answer : Completed) (other : ℕ) → AnswersCompletion setup state seat done events answer → other ≢ seat → events_by other events ≡ []
completion_none seat done setup state events (completions.Void number) other a ne = ap (events_by other) a.0
completion_none seat done setup state events (completions.Stranger kept brought) other a ne = ap (events_by other) a.0
completion_none seat done setup state events completions.Done other a ne = ap (events_by other) a.1.events_are ∙ completed_none seat (evaluated_number done) other (owed_cut setup a.1.after) ne

pub completions_keep_others_held : CompletionsKeepOthersHeld
completions_keep_others_held numbers seat done answer old new c = λ other number job among ne held state at.
    let mid = at_call numbers c.own old new state c.call at in
    through numbers c.own old new other number job c.call among (completion_none seat done old.setup mid.0 c.own answer other (c.answer_is mid.0 mid.1) ne) held state at

-- a completion that isn't made makes no event
refused_none : (seat : ℕ) (done : Evaluated) (setup : PlainSetup) (state : PlainState) (events : List PlainEvent) (answer : Completed) (other : ℕ) → AnswersCompletion setup state seat done events answer → IsNotDone answer → events_by other events ≡ []
refused_none seat done setup state events (completions.Void number) other a refused = ap (events_by other) a.0
refused_none seat done setup state events (completions.Stranger kept brought) other a refused = ap (events_by other) a.0
refused_none seat done setup state events completions.Done other a refused = absurd refused

pub refused_completions_keep_held : RefusedCompletionsKeepHeld
refused_completions_keep_held numbers seat done answer old new c refused = λ other number job among held state at.
    let mid = at_call numbers c.own old new state c.call at in
    through numbers c.own old new other number job c.call among (refused_none seat done old.setup mid.0 c.own answer other (c.answer_is mid.0 mid.1) refused) held state at

-- ---- a ticket that is given back

giving_back_none : (seat : ℕ) (ticket : Ticket) (setup : PlainSetup) (state : PlainState) (events : List PlainEvent) (answer : GivenBack) (other : ℕ) → AnswersGivingBack setup state seat ticket events answer → events_by other events ≡ []
giving_back_none seat ticket setup state events (returns.Void number) other a = ap (events_by other) a.0
giving_back_none seat ticket setup state events (returns.Stranger kept brought) other a = ap (events_by other) a.0
giving_back_none seat ticket setup state events returns.Cut other a = ap (events_by other) a.1.events_are

pub giving_back_keeps_held : GivingBackKeepsHeld
giving_back_keeps_held numbers seat ticket answer old new c = λ other number job among held state at.
    let mid = at_call numbers c.own old new state c.call at in
    through numbers c.own old new other number job c.call among (giving_back_none seat ticket old.setup mid.0 c.own answer other (c.answer_is mid.0 mid.1)) held state at

-- ---- calls that make no claim and no completion

move_none : (answer : Advanced) (other : ℕ) → events_by other (move_events answer) ≡ []
move_none (moves.Moved time) other = refl
move_none (moves.Until time) other = refl
move_none moves.Dead other = refl
move_none (moves.Open number) other = refl
move_none moves.Ready other = refl
move_none moves.StepLimit other = refl
move_none moves.Over other = refl
move_none moves.Spent other = refl

pub moves_keep_held : MovesKeepHeld
moves_keep_held numbers answer old new c = λ other number job among held. through numbers (move_events answer) old new other number job c.call among (move_none answer other) held

pub looks_keep_held : LooksKeepHeld
looks_keep_held numbers old new c = λ other number job among held. through numbers [] old new other number job c among refl held

pub wants_of_memory_keep_held : WantsOfMemoryKeepHeld
wants_of_memory_keep_held numbers old new c = looks_keep_held numbers old new c.call
