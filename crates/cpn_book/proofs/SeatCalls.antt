-- What a call on a book tells a seat that had seen a part of its journal.
use Rattle.std.proofs.Common.{◌≡◌, ℕ, ne_eqb, Bool, true, false, cond, List, [], ◌∷◌, ◌++◌, Option, Some, None, Result, Ok, Err, IfOk, OnOk, OnErr, refl, sym, ap, ◌∙◌, subst, append_assoc, append-nil}
use Rattle.cpn_runs.specs.State.{PlainSetup, PlainEvent, PlainState, PlainCut, claim_made, claim_completed, owed_cut, IsState}
use Rattle.cpn_book.specs.States.{cut_events}
use Rattle.cpn_book.specs.Tickets.{number_of, evaluated_number}
use Rattle.cpn_book.specs.Answers.{AnswersClaim, claim_events, AnswersCompletion, AnswersEvaluation, AnswersGivingBack, AnswersTicket, AnswersAdvance, move_events}
use Rattle.cpn_book.specs.Books.{setup_in, journal_in, is_spent_in, InState, IsBook}
use Rattle.cpn_book.specs.declared.books.Book.{Book}
use Rattle.cpn_book.specs.declared.answers.Claimed.{Claimed}
use Rattle.cpn_book.specs.declared.answers.Claimed.TheVariants as claims
use Rattle.cpn_book.specs.declared.answers.Completed.{Completed}
use Rattle.cpn_book.specs.declared.answers.Completed.TheVariants as completions
use Rattle.cpn_book.specs.declared.answers.GivenBack.{GivenBack}
use Rattle.cpn_book.specs.declared.answers.GivenBack.TheVariants as returns
use Rattle.cpn_book.specs.declared.answers.Advanced.{Advanced}
use Rattle.cpn_book.specs.declared.answers.Advanced.TheVariants as moves
use Rattle.cpn_book.specs.declared.tickets.Ticket.{Ticket}
use Rattle.cpn_book.specs.declared.tickets.Evaluated.{Evaluated}
use Rattle.cpn_runs.specs.SeatEvents.{events_by, NoneBy, AllBy}
use Rattle.cpn_book.specs.Seen.{Seen, seen_in, IsLater, IfSeen, SeesCall, ClaimsAt, CompletesAt, GivesBackAt, AdvancesAt, WantsMemoryAt, Makes}

-- A book that a seat finds: it goes on from what the seat had seen, by events that are none of its.
pub record Comes (numbers : List ℕ) (seen : Seen) (old : Book) : Type 0 where
  pub others : List PlainEvent
  pub apart : NoneBy numbers others
  pub journal : journal_in old ≡ seen.journal ++ others
  pub setup : setup_in old ≡ seen.setup
  pub spent : seen.spent ≡ true → is_spent_in old ≡ true

pub comes_itself : (numbers : List ℕ) (book : Book) → Comes numbers (seen_in book) book
comes_itself numbers book = record { others = []; apart = λ n is. refl; journal = sym (append-nil (journal_in book)); setup = refl; spent = λ e. e }

abbrev pub sees_call : (numbers : List ℕ) (seat : ℕ) (seen : Seen) (old new : Book) (own : List PlainEvent) → Comes numbers seen old → Makes seat old new own → SeesCall numbers own seen (seen_in new)
sees_call numbers seat seen old new own c m = record {
  others = c.others;
  apart = c.apart;
  at = journal_in old;
  at_is = c.journal;
  setup = m.setup ∙ c.setup;
  journal = m.journal;
  state = m.is_book.state;
  reached = m.is_book.reached;
  spent = λ e. m.spent (c.spent e);
}

-- who rests and waits for none sees what was seen
pub looks_itself : (numbers : List ℕ) (book : Book) → IsBook book → SeesCall numbers [] (seen_in book) (seen_in book)
looks_itself numbers book is = record {
  others = [];
  apart = λ n among. refl;
  at = journal_in book;
  at_is = sym (append-nil (journal_in book));
  setup = refl;
  journal = sym (append-nil (journal_in book));
  state = is.state;
  reached = is.reached;
  spent = λ e. e;
}

pub is_later : (numbers : List ℕ) (old new : Seen) (own : List PlainEvent) → SeesCall numbers own old new → IsLater old new
is_later numbers old new own m = record {
  setup = m.setup;
  more = m.others ++ own;
  journal = m.journal ∙ ap (λ events. events ++ own) m.at_is ∙ append_assoc old.journal m.others own;
  spent = m.spent;
}

false_true : {A : Type 0} (b : Bool) → b ≡ false → b ≡ true → A
false_true b e f = absurd (cc)

unspent_before : (seen : Seen) (b : Bool) → (seen.spent ≡ true → b ≡ true) → b ≡ false → seen.spent ≡ false
unspent_before seen b f e = by_mark seen.spent refl
  where
    by_mark : (s : Bool) → seen.spent ≡ s → seen.spent ≡ false
    by_mark true is = false_true b e (f is)
    by_mark false is = is

none_by : (seat : ℕ) → AllBy seat []
none_by seat = λ n ne. refl

-- a call whose answer is no event
makes_none : (seat : ℕ) (old new : Book) → IsBook new → setup_in new ≡ setup_in old → journal_in new ≡ journal_in old → (is_spent_in old ≡ true → new ≡ old) → Makes seat old new []
makes_none seat old new is setup stay same = record { is_book = is; setup = setup; journal = stay ∙ sym (append-nil (journal_in old)); own_all = none_by seat; spent = λ s. ap is_spent_in (same s) ∙ s }

-- ---- a claim

one_claim : (seat number : ℕ) → AllBy seat (claim_made seat number ∷ [])
one_claim seat number n ne = ap (λ b. cond b (claim_made seat number ∷ []) []) (ne_eqb seat n (λ e. ne (sym e)))

claim_own : (seat : ℕ) (answer : Claimed) → AllBy seat (claim_events seat answer)
claim_own seat claims.Over = none_by seat
claim_own seat claims.StepLimit = none_by seat
claim_own seat (claims.Busy number) = none_by seat
claim_own seat (claims.Nothing held) = none_by seat
claim_own seat (claims.Ticket ticket) = one_claim seat (number_of ticket)

-- the events that a claim appends, none where memory was wanted
abbrev pub claim_own_of : {E : Type 0} → ℕ → Result Claimed E → List PlainEvent
claim_own_of seat (Ok answer) = claim_events seat answer
claim_own_of seat (Err e) = []

pub claim_makes : {E : Type 0} (seat : ℕ) (old new : Book) (r : Result Claimed E) → IsBook new → setup_in new ≡ setup_in old
    → IfOk r (λ answer. journal_in new ≡ journal_in old ++ claim_events seat answer) → OnErr r (journal_in new ≡ journal_in old) → (is_spent_in old ≡ true → new ≡ old)
    → Makes seat old new (claim_own_of seat r)
claim_makes seat old new (Ok a) is setup events stay same = record { is_book = is; setup = setup; journal = events; own_all = claim_own seat a; spent = λ e. ap is_spent_in (same e) ∙ e }
claim_makes seat old new (Err e) is setup events stay same = makes_none seat old new is setup stay same

pub claims_at : {E : Type 0} (numbers : List ℕ) (seat : ℕ) (seen : Seen) (old new : Book) (r : Result Claimed E) → Comes numbers seen old → Makes seat old new (claim_own_of seat r)
    → IfOk r (λ answer. InState old (λ state. AnswersClaim (setup_in old) state seat answer)) → OnOk r (is_spent_in old ≡ false) → OnOk r (is_spent_in new ≡ false)
    → IfOk r (λ answer. ClaimsAt numbers seat answer seen (seen_in new))
claims_at numbers seat seen old new (Ok a) c m answer unspent still = record {
  call = sees_call numbers seat seen old new (claim_events seat a) c m;
  answer_is = subst (λ (s : PlainSetup). (state : PlainState) → IsState s (journal_in old) state → AnswersClaim s state seat a) c.setup answer;
  unspent = unspent_before seen (is_spent_in old) c.spent unspent;
  unspent_still = still;
}
claims_at numbers seat seen old new (Err e) c m answer unspent still = tt

pub claim_fails : {E : Type 0} (numbers : List ℕ) (seat : ℕ) (seen : Seen) (old new : Book) (r : Result Claimed E) → Comes numbers seen old → Makes seat old new (claim_own_of seat r)
    → OnErr r (is_spent_in new ≡ true) → OnErr r (WantsMemoryAt numbers seen (seen_in new))
claim_fails numbers seat seen old new (Ok a) c m spent = tt
claim_fails numbers seat seen old new (Err e) c m spent = record { call = sees_call numbers seat seen old new [] c m; spent = spent }

-- ---- a call whose answer tells its events

same_rest : (xs ys zs : List PlainEvent) → xs ++ ys ≡ xs ++ zs → ys ≡ zs
same_rest [] ys zs e = e
same_rest (x ∷ xs) ys zs e = same_rest xs ys zs (the_tail _ _ _ _ e)
  where
    the_tail : (a b : PlainEvent) (l m : List PlainEvent) → (a ∷ l) ≡ (b ∷ m) → l ≡ m
    the_tail a b l m h = cc

-- What such a call made, with the events that it appended: in each state its answer is by these.
pub record MakesBy (A E : Type 0) (Answers : PlainSetup → PlainState → List PlainEvent → A → Type 0) (seat : ℕ) (old new : Book) (r : Result A E) : Type 0 where
  pub own : List PlainEvent
  pub makes : Makes seat old new own
  pub answer : IfOk r (λ answer. InState old (λ state. Answers (setup_in old) state own answer))
  pub none : OnErr r (own ≡ [])

pub makes_by : {E : Type 0} (A : Type 0) (Answers : PlainSetup → PlainState → List PlainEvent → A → Type 0) (seat : ℕ) (old new : Book) (r : Result A E)
    → ((setup : PlainSetup) (state : PlainState) (events : List PlainEvent) (answer : A) → Answers setup state events answer → AllBy seat events)
    → IsBook old → IsBook new → setup_in new ≡ setup_in old
    → IfOk r (λ answer. InState old (λ state. (events : List PlainEvent) × (journal_in new ≡ journal_in old ++ events) × Answers (setup_in old) state events answer))
    → OnErr r (journal_in new ≡ journal_in old) → (is_spent_in old ≡ true → new ≡ old)
    → MakesBy A E Answers seat old new r
makes_by A Answers seat old new (Ok a) owns was is setup answer stay same =
    let here = answer was.state was.reached in record {
      own = here.0;
      makes = record { is_book = is; setup = setup; journal = here.1; own_all = owns (setup_in old) was.state here.0 a here.2; spent = λ e. ap is_spent_in (same e) ∙ e };
      answer = λ state at.
          let there = answer state at in
          subst (λ events. Answers (setup_in old) state events a) (same_rest (journal_in old) there.0 here.0 (sym there.1 ∙ here.1)) there.2;
      none = tt;
    }
makes_by A Answers seat old new (Err e) owns was is setup answer stay same = record { own = []; makes = makes_none seat old new is setup stay same; answer = tt; none = refl }

pub wants_memory_by : {E : Type 0} (A : Type 0) (Answers : PlainSetup → PlainState → List PlainEvent → A → Type 0) (numbers : List ℕ) (seat : ℕ) (seen : Seen) (old new : Book) (r : Result A E)
    → Comes numbers seen old → MakesBy A E Answers seat old new r → OnErr r (is_spent_in new ≡ true) → OnErr r (WantsMemoryAt numbers seen (seen_in new))
wants_memory_by A Answers numbers seat seen old new (Ok a) c m spent = tt
wants_memory_by A Answers numbers seat seen old new (Err e) c m spent = record {
  call = sees_call numbers seat seen old new [] c (subst (λ events. Makes seat old new events) m.none m.makes);
  spent = spent;
}

-- ---- a completion

cut_own : (seat : ℕ) (cut : Option PlainCut) → AllBy seat (cut_events cut)
cut_own seat None = none_by seat
cut_own seat (Some cut) = λ n ne. refl

completed_own : (seat number : ℕ) (cut : Option PlainCut) → AllBy seat (claim_completed seat number ∷ cut_events cut)
completed_own seat number cut n ne = ap (λ b. cond b (claim_completed seat number ∷ events_by n (cut_events cut)) (events_by n (cut_events cut))) (ne_eqb seat n (λ e. ne (sym e))) ∙ cut_own seat cut n ne

-- what a seat's completion answers, by its events
abbrev pub completion_answers : ℕ → Evaluated → PlainSetup → PlainState → List PlainEvent → Completed → Type 0
completion_answers seat done setup state events answer = AnswersCompletion setup state seat done events answer

completion_own : (seat : ℕ) (done : Evaluated) (setup : PlainSetup) (state : PlainState) (events : List PlainEvent) (answer : Completed) → completion_answers seat done setup state events answer → AllBy seat events
completion_own seat done setup state events (completions.Void number) a = subst (λ es. AllBy seat es) (sym a.0) (none_by seat)
completion_own seat done setup state events (completions.Stranger kept brought) a = subst (λ es. AllBy seat es) (sym a.0) (none_by seat)
completion_own seat done setup state events completions.Done a = subst (λ es. AllBy seat es) (sym a.1.events_are) (completed_own seat (evaluated_number done) (owed_cut setup a.1.after))

pub complete_makes : {E : Type 0} (seat : ℕ) (old new : Book) (done : Evaluated) (r : Result Completed E) → IsBook old → IsBook new → setup_in new ≡ setup_in old
    → IfOk r (λ answer. AnswersEvaluation old new seat done answer) → OnErr r (journal_in new ≡ journal_in old) → (is_spent_in old ≡ true → new ≡ old)
    → MakesBy Completed E (completion_answers seat done) seat old new r
complete_makes seat old new done r was is setup answer stay same = makes_by Completed (completion_answers seat done) seat old new r (completion_own seat done) was is setup answer stay same

pub completes_at : {E : Type 0} (numbers : List ℕ) (seat : ℕ) (seen : Seen) (old new : Book) (done : Evaluated) (r : Result Completed E) → Comes numbers seen old
    → MakesBy Completed E (completion_answers seat done) seat old new r → OnOk r (is_spent_in old ≡ false) → OnOk r (is_spent_in new ≡ false)
    → IfOk r (λ answer. CompletesAt numbers seat done answer seen (seen_in new))
completes_at numbers seat seen old new done (Ok a) c m unspent still = record {
  own = m.own;
  call = sees_call numbers seat seen old new m.own c m.makes;
  answer_is = subst (λ (s : PlainSetup). (state : PlainState) → IsState s (journal_in old) state → AnswersCompletion s state seat done m.own a) c.setup m.answer;
  unspent = unspent_before seen (is_spent_in old) c.spent unspent;
  unspent_still = still;
}
completes_at numbers seat seen old new done (Err e) c m unspent still = tt

-- ---- a ticket that is given back

-- what a seat is answered that gives a ticket back, by its events
abbrev pub giving_back_answers : ℕ → Ticket → PlainSetup → PlainState → List PlainEvent → GivenBack → Type 0
giving_back_answers seat ticket setup state events answer = AnswersGivingBack setup state seat ticket events answer

giving_back_own : (seat : ℕ) (ticket : Ticket) (setup : PlainSetup) (state : PlainState) (events : List PlainEvent) (answer : GivenBack) → giving_back_answers seat ticket setup state events answer → AllBy seat events
giving_back_own seat ticket setup state events (returns.Void number) a = subst (λ es. AllBy seat es) (sym a.0) (none_by seat)
giving_back_own seat ticket setup state events (returns.Stranger kept brought) a = subst (λ es. AllBy seat es) (sym a.0) (none_by seat)
giving_back_own seat ticket setup state events returns.Cut a = subst (λ es. AllBy seat es) (sym a.1.events_are) (λ n ne. refl)

pub give_back_makes : {E : Type 0} (seat : ℕ) (old new : Book) (ticket : Ticket) (r : Result GivenBack E) → IsBook old → IsBook new → setup_in new ≡ setup_in old
    → IfOk r (λ answer. AnswersTicket old new seat ticket answer) → OnErr r (journal_in new ≡ journal_in old) → (is_spent_in old ≡ true → new ≡ old)
    → MakesBy GivenBack E (giving_back_answers seat ticket) seat old new r
give_back_makes seat old new ticket r was is setup answer stay same = makes_by GivenBack (giving_back_answers seat ticket) seat old new r (giving_back_own seat ticket) was is setup answer stay same

pub gives_back_at : {E : Type 0} (numbers : List ℕ) (seat : ℕ) (seen : Seen) (old new : Book) (ticket : Ticket) (r : Result GivenBack E) → Comes numbers seen old
    → MakesBy GivenBack E (giving_back_answers seat ticket) seat old new r → OnOk r (is_spent_in old ≡ false) → OnOk r (is_spent_in new ≡ false)
    → IfOk r (λ answer. GivesBackAt numbers seat ticket answer seen (seen_in new))
gives_back_at numbers seat seen old new ticket (Ok a) c m unspent still = record {
  own = m.own;
  call = sees_call numbers seat seen old new m.own c m.makes;
  answer_is = subst (λ (s : PlainSetup). (state : PlainState) → IsState s (journal_in old) state → AnswersGivingBack s state seat ticket m.own a) c.setup m.answer;
  unspent = unspent_before seen (is_spent_in old) c.spent unspent;
  unspent_still = still;
}
gives_back_at numbers seat seen old new ticket (Err e) c m unspent still = tt

-- ---- a move of the clock

move_own : (seat : ℕ) (answer : Advanced) → AllBy seat (move_events answer)
move_own seat (moves.Moved time) = λ n ne. refl
move_own seat (moves.Until time) = none_by seat
move_own seat moves.Dead = none_by seat
move_own seat (moves.Open number) = none_by seat
move_own seat moves.Ready = none_by seat
move_own seat moves.StepLimit = none_by seat
move_own seat moves.Over = none_by seat
move_own seat moves.Spent = none_by seat

pub advance_makes : (seat : ℕ) (old new : Book) (answer : Advanced) → IsBook new → setup_in new ≡ setup_in old → journal_in new ≡ journal_in old ++ move_events answer → is_spent_in new ≡ is_spent_in old
    → Makes seat old new (move_events answer)
advance_makes seat old new answer is setup events spent = record { is_book = is; setup = setup; journal = events; own_all = move_own seat answer; spent = λ e. spent ∙ e }

not_spent : (setup : PlainSetup) (state : PlainState) (answer : Advanced) → answer ≡ moves.Spent → AnswersAdvance setup state answer → ⊥
not_spent setup state answer e a = subst (λ (x : Advanced). AnswersAdvance setup state x) e a

pub advances_at : (numbers : List ℕ) (seat : ℕ) (seen : Seen) (old new : Book) (answer : Advanced) → IsBook old → Comes numbers seen old → Makes seat old new (move_events answer)
    → (is_spent_in old ≡ false → InState old (λ state. AnswersAdvance (setup_in old) state answer)) → (is_spent_in old ≡ true → answer ≡ moves.Spent) → is_spent_in new ≡ is_spent_in old
    → AdvancesAt numbers answer seen (seen_in new)
advances_at numbers seat seen old new answer was c m answers spent still = record {
  call = sees_call numbers seat seen old new (move_events answer) c m;
  answer_is = λ unspent. subst (λ (s : PlainSetup). (state : PlainState) → IsState s (journal_in old) state → AnswersAdvance s state answer) c.setup (answers (sym still ∙ unspent));
  spent = λ e. spent (sym still ∙ e);
  only_spent = λ e. by_mark (is_spent_in old) refl e;
}
  where
    by_mark : (b : Bool) → is_spent_in old ≡ b → answer ≡ moves.Spent → is_spent_in new ≡ true
    by_mark true is e = still ∙ is
    by_mark false is e = absurd (not_spent (setup_in old) was.state answer e (answers is was.state was.reached))

-- ---- the same of a desk that tells what it sees

pub answers_seen : {E : Type 0} (A : Type 0) (Fact : A → Seen → Seen → Type 0) (old new : Seen) (r : Result A E) → IfOk r (λ a. Fact a old new) → IfOk r (λ a. IfSeen (Some old) (Some new) (Fact a))
answers_seen A Fact old new (Ok a) h = (new, refl, h)
answers_seen A Fact old new (Err e) h = tt

pub wants_memory_seen : {E : Type 0} (A : Type 0) (numbers : List ℕ) (old new : Seen) (r : Result A E) → OnErr r (WantsMemoryAt numbers old new) → OnErr r (IfSeen (Some old) (Some new) (WantsMemoryAt numbers))
wants_memory_seen A numbers old new (Ok a) h = tt
wants_memory_seen A numbers old new (Err e) h = (new, refl, h)
