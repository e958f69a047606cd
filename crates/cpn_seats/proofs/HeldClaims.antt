-- A claim that is held stays while others act.
use Rattle.std.proofs.Common.{◌≡◌, ℕ, zero, suc, ◌≤◌, ◌==◌, ◌&&◌, eq-eqb, true, List, [], ◌∷◌, ◌++◌, length, take, Option, Some, None, Result, Ok, Err, IfOk, refl, sym, ap, ◌∙◌, subst, inl, inr, ⊎_elim, arith}
use Rattle.std.specs.Prelude.{slice_get, slice_set}
use Rattle.std.proofs.lemmas.Option.{slice_get_within}
use Rattle.cpn_runs.specs.HeldClaims.{IsOpenAt, IsCutAt, StaysOrCut}
use Rattle.cpn_runs.specs.HoleRun.{PlainClaim, is_open}
use Rattle.cpn_runs.specs.State.{PlainSetup, PlainState, PlainCut, PlainEvent, claim_made, claim_completed, clock_moved, cut_made, is_held_by, new_claim, IsDue, IsState, first_state, Happens, Leads}
use Rattle.cpn_runs.proofs.Cuts.{no_more_committed, owed_number}
use Rattle.cpn_runs.proofs.HeldClaims.{held_claims_stay}
use Rattle.cpn_jobs.specs.Work.{PlainJob}
use Rattle.cpn_book.specs.Answers.{IsNotCut, HasOpenClaim, AnswersCompletion, AnswersGivingBack}
use Rattle.cpn_book.specs.Tickets.{number_of, job_of, evaluated_number, evaluated_job}
use Rattle.cpn_book.specs.States.{claimed_job}
use Rattle.cpn_book.specs.declared.books.Book.{Book}
use Rattle.cpn_book.specs.declared.answers.Claimed.{Claimed}
use Rattle.cpn_book.specs.declared.answers.Claimed.TheVariants as claims
use Rattle.cpn_book.specs.declared.answers.Completed.{Completed}
use Rattle.cpn_runs.proofs.States.{claim_is_unique}
use Rattle.cpn_book.specs.declared.answers.Completed.TheVariants as completions
use Rattle.cpn_book.specs.declared.answers.GivenBack.{GivenBack}
use Rattle.cpn_book.specs.declared.answers.GivenBack.TheVariants as returns
use Rattle.cpn_book.specs.declared.tickets.Ticket.{Ticket}
use Rattle.cpn_book.specs.declared.tickets.Evaluated.{Evaluated}
use Rattle.cpn_runs.specs.SeatEvents.{is_among, events_by}
use Rattle.cpn_book.specs.Seen.{Seen, seen_in, IfSeen, ClaimsAt}
use Rattle.cpn_book.proofs.SeatCalls.{Comes, MakesBy, completion_answers, giving_back_answers}
use Rattle.cpn_memory.specs.declared.memory_wanted.Memory.{Memory}
use Rattle.cpn_runs.specs.FinishedViews.{setup_view}
use Rattle.cpn_runs.specs.declared.runs.Setup.{Setup}
use Rattle.std.specs.Option.{option_map}
use Rattle.cpn_seats.specs.declared.views.View.{View}
use Rattle.cpn_seats.specs.SeenViews.{seen_by}
use Rattle.cpn_seats.specs.Turns.{journal_told, GoesOnFrom, Finds}
use Rattle.cpn_seats.specs.HeldClaims.{Holds, IsHeld, KeepsHeld, IsNoStranger, IsNoStrangersTicket, HoldsIfTicket}

-- ---- lists

set_length : {A : Type 0} (xs : List A) (i : ℕ) (x : A) → length (slice_set xs i x) ≡ length xs
set_length [] i x = refl
set_length (y ∷ xs) zero x = refl
set_length (y ∷ xs) (suc i) x = ap suc (set_length xs i x)

take_length : {A : Type 0} (k : ℕ) (xs : List A) → (length (take k xs) ≤ k) × (length (take k xs) ≤ length xs)
take_length zero xs = (omega arith, omega arith)
take_length (suc k) [] = (omega arith, omega arith)
take_length (suc k) (x ∷ xs) = let r = take_length k xs in let a = r.0 in let b = r.1 in (omega arith, omega arith)

the_same : {A : Type 0} (x y : A) → Some x ≡ Some y → x ≡ y
the_same x y e = cc

-- ---- a cut stays

-- a cut that is due is at most at the number after the last claim
due_within : (setup : PlainSetup) (state : PlainState) (cut : PlainCut) → IsDue setup state cut → cut.number ≤ length state.claims
due_within setup state cut (inl owed) = let is = owed_number setup state cut owed in let le = no_more_committed setup.monitors [] setup.start state.claims in omega arith
due_within setup state cut (inr back) = let lt = slice_get_within state.claims cut.number back.claim back.claim_is in omega arith

-- after a cut there are no further claims, and a later cut lies at or below it
still_cut : (setup : PlainSetup) (old new : PlainState) (event : PlainEvent) (number : ℕ) → Happens setup old event new → IsCutAt old number → IsCutAt new number
still_cut setup old new (claim_made seat n) number m c = let e : Some c.cut ≡ None = sym c.cut_is ∙ m.no_cut in absurd (cc)
still_cut setup old new (claim_completed seat n) number m c =
    let long = ap (λ (s : PlainState). length s.claims) m.new_is ∙ set_length old.claims n _ in
    let gone = c.gone in
    record { cut = c.cut; cut_is = ap (λ (s : PlainState). s.cut) m.new_is ∙ c.cut_is; at_or_below = c.at_or_below; gone = omega arith }
still_cut setup old new (clock_moved time) number m c = let e : Some c.cut ≡ None = sym c.cut_is ∙ m.no_cut in absurd (cc)
still_cut setup old new (cut_made k) number m c =
    let at = m.number_is in
    let within = due_within setup old m.cut m.due in
    let gone = c.gone in
    let short = (take_length k old.claims).1 in
    let long = ap (λ (s : PlainState). length s.claims) m.new_is in
    record { cut = m.cut; cut_is = ap (λ (s : PlainState). s.cut) m.new_is; at_or_below = omega arith; gone = omega arith }

cuts_stay : (setup : PlainSetup) (old new : PlainState) (events : List PlainEvent) (number : ℕ) → Leads setup old events new → IsCutAt old number → IsCutAt new number
cuts_stay setup old new [] number leads c = subst (λ s. IsCutAt s number) (sym leads) c
cuts_stay setup old new (event ∷ events) number leads c = cuts_stay setup leads.0 new events number leads.2 (still_cut setup old leads.0 event number leads.1 c)

-- a claim that is open or cut off stays so, while its seat makes no event
stays : (setup : PlainSetup) (old new : PlainState) (others : List PlainEvent) (number : ℕ) (claim : PlainClaim) → events_by claim.seat others ≡ [] → Leads setup old others new → StaysOrCut old number claim → StaysOrCut new number claim
stays setup old new others number claim apart leads h =
    ⊎_elim (λ (o : IsOpenAt old number claim). held_claims_stay setup old new others number claim o apart leads)
    (λ (c : IsCutAt old number). inr (cuts_stay setup old new others number leads c))
    h

-- ---- a seat that holds a claim

-- where events and then more events lead, the first lead
abbrev pub leads_first : (setup : PlainSetup) (old : PlainState) (events more : List PlainEvent) (new : PlainState) → Leads setup old (events ++ more) new → (mid : PlainState) × Leads setup old events mid × Leads setup mid more new
leads_first setup old [] more new leads = (old, refl, leads)
leads_first setup old (event ∷ events) more new leads =
    let rest = leads_first setup leads.0 events more new leads.2 in
    (rest.0, (leads.0, leads.1, rest.1), rest.2)

-- a claim that is held is held where more was seen, none of it by its seat
pub held_further : (old new : Seen) (seat number : ℕ) (job : PlainJob) (more : List PlainEvent) → new.setup ≡ old.setup → new.journal ≡ old.journal ++ more → events_by seat more ≡ [] → IsHeld old seat number job
    → IsHeld new seat number job
held_further old new seat number job more setup journal none held state at =
    let here : IsState old.setup (old.journal ++ more) state = subst (λ (events : List PlainEvent). IsState old.setup events state) journal (subst (λ (s : PlainSetup). IsState s new.journal state) setup at) in
    let first = leads_first old.setup (first_state old.setup) old.journal more state here in
    let h = held first.0 first.1 in
    let apart : events_by h.claim.seat more ≡ [] = ap (λ s. events_by s more) h.by_seat ∙ none in
    record {
      claim = h.claim;
      by_seat = h.by_seat;
      job_is = ap (λ (s : PlainSetup). claimed_job s h.claim) setup ∙ h.job_is;
      open_or_cut = stays old.setup first.0 state more number h.claim apart first.2 h.open_or_cut;
    }

-- of a seat and a view of the same run that has seen more
pub kept_by : (v w : View) (numbers : List ℕ) → option_map setup_view w.setup ≡ option_map setup_view v.setup → GoesOnFrom (journal_told v.seen) numbers (journal_told w.seen) → IfSeen (seen_by v) (seen_by w) (KeepsHeld numbers)
kept_by v w numbers same goes = by_setups v.setup w.setup same
  where
    before : Setup → Seen
    before s = record { setup = setup_view s; journal = journal_told v.seen; spent = v.spent }

    after : Setup → Seen
    after s = record { setup = setup_view s; journal = journal_told w.seen; spent = w.spent }

    not_none : (x : PlainSetup) → None ≡ Some x → ⊥
    not_none x e = cc

    by_setups : (o p : Option Setup) → option_map setup_view p ≡ option_map setup_view o → IfSeen (option_map before o) (option_map after p) (KeepsHeld numbers)
    by_setups None p e = tt
    by_setups (Some s) None e = absurd (not_none (setup_view s) e)
    by_setups (Some s) (Some t) e = (
      after t,
      refl,
      λ seat number job own held. held_further (before s) (after t) seat number job goes.0 (the_same (setup_view t) (setup_view s) e) goes.1 (goes.2 seat own) held,
    )

pub held_by_seat : (seat : ℕ) (claim : PlainClaim) → is_open claim.status ≡ true → claim.seat ≡ seat → is_held_by seat claim ≡ true
held_by_seat seat claim opened by = ap (λ b. b && (claim.seat == seat)) opened ∙ eq-eqb claim.seat seat by

-- so the seat isn't told that it holds no such claim
no_stranger : (seen : Seen) (state : PlainState) (seat number : ℕ) (job : PlainJob) → Holds seen state seat number job → IsNotCut state number → (HasOpenClaim seen.setup state seat number job → ⊥) → ⊥
no_stranger seen state seat number job h uncut none =
    ⊎_elim
    (λ (o : IsOpenAt state number h.claim). none (h.claim, o.claim_is, held_by_seat seat h.claim o.still_open h.by_seat, h.job_is))
    (λ (c : IsCutAt state number). let above = uncut c.cut c.cut_is in let below = c.at_or_below in absurd (omega arith))
    h.open_or_cut

completion_no_stranger : (seen : Seen) (state : PlainState) (seat : ℕ) (done : Evaluated) (events : List PlainEvent) (answer : Completed) → Holds seen state seat (evaluated_number done) (evaluated_job done)
    → AnswersCompletion seen.setup state seat done events answer → IsNoStranger answer
completion_no_stranger seen state seat done events completions.Done h a = tt
completion_no_stranger seen state seat done events (completions.Void number) h a = tt
completion_no_stranger seen state seat done events (completions.Stranger kept brought) h a = no_stranger seen state seat (evaluated_number done) (evaluated_job done) h a.2.0 a.2.1

ticket_no_stranger : (seen : Seen) (state : PlainState) (seat : ℕ) (ticket : Ticket) (events : List PlainEvent) (answer : GivenBack) → Holds seen state seat (number_of ticket) (job_of ticket)
    → AnswersGivingBack seen.setup state seat ticket events answer → IsNoStrangersTicket answer
ticket_no_stranger seen state seat ticket events returns.Cut h a = tt
ticket_no_stranger seen state seat ticket events (returns.Void number) h a = tt
ticket_no_stranger seen state seat ticket events (returns.Stranger kept brought) h a = no_stranger seen state seat (number_of ticket) (job_of ticket) h a.2.0 a.2.1

-- what a seat finds in the slot goes on from what it has seen
comes_as : (v : View) (y : Book) (seen : Seen) → Finds v y → seen_by v ≡ Some seen → Comes v.numbers seen y
comes_as v y seen f is = by_setup v.setup refl is
  where
    before : Setup → Seen
    before s = record { setup = setup_view s; journal = journal_told v.seen; spent = v.spent }

    not_seen : (t : Seen) → None ≡ Some t → ⊥
    not_seen t e = cc

    by_setup : (o : Option Setup) → v.setup ≡ o → option_map before o ≡ Some seen → Comes v.numbers seen y
    by_setup None at e = absurd (not_seen seen e)
    by_setup (Some s) at e = subst (λ (t : Seen). Comes v.numbers t y) (the_same (before s) seen e) (record { others = f.behind.0; apart = f.behind.2; journal = f.behind.1; setup = f.setup_is s at; spent = f.spent })

pub completes_held : (v : View) (y b : Book) (number : ℕ) (done : Evaluated) (r : Result Completed Memory) → Finds v y → is_among number v.numbers ≡ true → MakesBy Completed Memory (completion_answers number done) number y b r
    → IfOk r (λ answer. (seen : Seen) → seen_by v ≡ Some seen → IsHeld seen number (evaluated_number done) (evaluated_job done) → IsNoStranger answer)
completes_held v y b number done (Ok a) f own made = λ seen is held.
    let c = comes_as v y seen f is in
    let state = f.is_book.state in
    let h = held_further seen (seen_in y) number (evaluated_number done) (evaluated_job done) c.others c.setup c.journal (c.apart number own) held state f.is_book.reached in
    completion_no_stranger (seen_in y) state number done made.own a h (made.answer state f.is_book.reached)
completes_held v y b number done (Err e) f own made = tt

pub gives_back_held : (v : View) (y b : Book) (number : ℕ) (ticket : Ticket) (r : Result GivenBack Memory) → Finds v y → is_among number v.numbers ≡ true → MakesBy GivenBack Memory (giving_back_answers number ticket) number y b r
    → IfOk r (λ answer. (seen : Seen) → seen_by v ≡ Some seen → IsHeld seen number (number_of ticket) (job_of ticket) → IsNoStrangersTicket answer)
gives_back_held v y b number ticket (Ok a) f own made = λ seen is held.
    let c = comes_as v y seen f is in
    let state = f.is_book.state in
    let h = held_further seen (seen_in y) number (number_of ticket) (job_of ticket) c.others c.setup c.journal (c.apart number own) held state f.is_book.reached in
    ticket_no_stranger (seen_in y) state number ticket made.own a h (made.answer state f.is_book.reached)
gives_back_held v y b number ticket (Err e) f own made = tt

-- ---- a seat that has made a claim

get_last : {A : Type 0} (xs : List A) (x : A) → slice_get (xs ++ x ∷ []) (length xs) ≡ Some x
get_last [] x = refl
get_last (y ∷ xs) x = get_last xs x

ticket_held : (numbers : List ℕ) (seat : ℕ) (ticket : Ticket) (old new : Seen) → ClaimsAt numbers seat (claims.Ticket ticket) old new → IsHeld new seat (number_of ticket) (job_of ticket)
ticket_held numbers seat ticket old new c state at =
    let n = number_of ticket in
    let here : IsState old.setup (c.call.at ++ claim_made seat n ∷ []) state = subst (λ (events : List PlainEvent). IsState old.setup events state) c.call.journal (subst (λ (s : PlainSetup). IsState s new.journal state) c.call.setup at) in
    let first = leads_first old.setup (first_state old.setup) c.call.at (claim_made seat n ∷ []) state here in
    let t = c.answer_is first.0 first.1 in
    let made : state ≡ t.after = first.2.2 ∙ claim_is_unique old.setup first.0 seat n first.2.0 t.after first.2.1 t.may in
    let x = new_claim old.setup.net seat first.0.clock t.may.drawn.element in
    let last : slice_get t.after.claims n ≡ Some x = ap (λ (s : PlainState). slice_get s.claims n) t.may.new_is ∙ ap (λ (i : ℕ). slice_get (first.0.claims ++ x ∷ []) i) t.may.next_number ∙ get_last first.0.claims x in
    let same : x ≡ t.claim = the_same x t.claim (sym last ∙ t.claim_is) in
    record {
      claim = t.claim;
      by_seat = ap (λ (k : PlainClaim). k.seat) (sym same);
      job_is = ap (λ (s : PlainSetup). claimed_job s t.claim) c.call.setup ∙ sym t.job_is;
      open_or_cut = inl (record { claim_is = ap (λ (s : PlainState). slice_get s.claims n) made ∙ t.claim_is; still_open = ap (λ (k : PlainClaim). is_open k.status) (sym same) });
    }

claimed_held : (numbers : List ℕ) (seat : ℕ) (answer : Claimed) (old new : Seen) → ClaimsAt numbers seat answer old new → HoldsIfTicket new seat answer
claimed_held numbers seat (claims.Ticket ticket) old new c = ticket_held numbers seat ticket old new c
claimed_held numbers seat (claims.Nothing held) old new c = tt
claimed_held numbers seat (claims.Busy number) old new c = tt
claimed_held numbers seat claims.StepLimit old new c = tt
claimed_held numbers seat claims.Over old new c = tt

both_held : (numbers : List ℕ) (seat : ℕ) (answer : Claimed) (a b : Option Seen) → IfSeen a b (ClaimsAt numbers seat answer) → IfSeen a b (λ old new. HoldsIfTicket new seat answer)
both_held numbers seat answer None b h = tt
both_held numbers seat answer (Some old) b h = (h.0, h.1, claimed_held numbers seat answer old h.0 h.2)

pub claims_held : (numbers : List ℕ) (seat : ℕ) (a b : Option Seen) (r : Result Claimed Memory) → IfOk r (λ answer. IfSeen a b (ClaimsAt numbers seat answer)) → IfOk r (λ answer. IfSeen a b (λ old new. HoldsIfTicket new seat answer))
claims_held numbers seat a b (Ok answer) h = both_held numbers seat answer a b h
claims_held numbers seat a b (Err e) h = tt
