-- A book has one state, and a call on it one answer in that state: so each answer comes exactly where what it says holds.
use Rattle.std.proofs.Common.{◌≡◌, ℕ, ◌<◌, ◌%◌, true, false, List, [], ◌∷◌, length, Option, Some, None, refl, sym, ap, ◌∙◌, subst, slice_get, arith}
use Rattle.std.proofs.lemmas.Option.{same_Some}
use Rattle.cpn_definitions.specs.Enabled.{PlainEntry, Enabled, ready, IsDead}
use Rattle.cpn_definitions.specs.Legal.{LeastTime}
use Rattle.cpn_definitions.specs.Marking.{Marking}
use Rattle.cpn_definitions.specs.Occurrence.{covered}
use Rattle.cpn_definitions.proofs.OneEnabledList.{enabled_is_unique}
use Rattle.cpn_definitions.proofs.ListItems.{place_known}
use Rattle.cpn_draw.specs.Draw.{word}
use Rattle.cpn_runs.specs.HoleRun.{PlainClaim}
use Rattle.cpn_runs.specs.State.{PlainSetup, PlainState, unclaimed_in, PlainCut, PlainEvent, IsState, owed_cut, claim_completed, MayClaim, MayMove}
use Rattle.cpn_runs.specs.declared.runs.Finished.{Finished}
use Rattle.cpn_runs.specs.FinishedViews.{finished_view}
use Rattle.cpn_runs.proofs.OneRun.{run_of_journal}
use Rattle.cpn_runs.proofs.States.{one_state, claim_is_unique, completion_is_unique, least_is_unique, move_is_unique}
use Rattle.cpn_book.specs.Held.{held_from}
use Rattle.cpn_book.proofs.HeldClaims.{held_none}
use Rattle.cpn_book.proofs.OpenClaims.{some_counted}
use Rattle.cpn_book.specs.States.{open_claims, IsFull, IsIndex, AreReady, claimed_job, cut_events}
use Rattle.cpn_book.specs.Tickets.{number_of, evaluated_number}
use Rattle.cpn_book.specs.Answers.{AnswersClaim, IsNotCut, IsCutBelow, AnswersCompletion, AnswersGivingBack, AnswersAdvance, AnswersFinish}
use Rattle.cpn_book.specs.Books.{setup_in, journal_in, is_spent_in}
use Rattle.cpn_book.specs.OneAnswers.{BooksHaveOneState, IsSameClaimed, IsSameCompleted, IsSameGivenBack, IsSameFinish, ClaimsHaveOneAnswer, CompletionsHaveOneAnswer, GivingBackHasOneAnswer, MovesHaveOneAnswer, FinishesHaveOneAnswer}
use Rattle.cpn_book.specs.declared.answers.Claimed.{Claimed}
use Rattle.cpn_book.specs.declared.answers.Claimed.TheVariants as claims
use Rattle.cpn_book.specs.declared.tickets.Evaluated.{Evaluated}
use Rattle.cpn_book.specs.declared.answers.Completed.{Completed}
use Rattle.cpn_book.specs.declared.answers.Completed.TheVariants as completions
use Rattle.cpn_book.specs.declared.tickets.Ticket.{Ticket}
use Rattle.cpn_book.specs.declared.answers.GivenBack.{GivenBack}
use Rattle.cpn_book.specs.declared.answers.GivenBack.TheVariants as returns
use Rattle.cpn_book.specs.declared.answers.Advanced.{Advanced}
use Rattle.cpn_book.specs.declared.answers.Advanced.TheVariants as moves
use Rattle.cpn_book.specs.declared.answers.Finish.{Finish}
use Rattle.cpn_book.specs.declared.answers.Finish.TheVariants as finishes
use Rattle.cpn_book.specs.declared.books.Book.{Book}
use Rattle.cpn_book.proofs.DrawnElements.{drawn_covered}

-- ---- one index

-- a state has one index
pub one_index : (setup : PlainSetup) (state : PlainState) (xs ys : List PlainEntry) → IsIndex setup state xs → IsIndex setup state ys → xs ≡ ys
one_index setup state xs ys a b =
    let markings : a.marking ≡ b.marking = same_Some a.marking b.marking (sym a.marking_is ∙ b.marking_is) in
    let P : Marking → Type 0 = λ m. Enabled setup.net m state.clock xs in
    enabled_is_unique setup.net b.marking state.clock xs ys (subst P markings a.enabled) b.enabled

-- so the number of ready elements is one
pub one_ready_count : (setup : PlainSetup) (state : PlainState) (n m : ℕ) → AreReady setup state n → AreReady setup state m → n ≡ m
one_ready_count setup state n m a b = a.2 ∙ ap (λ xs. length (ready state.clock xs)) (one_index setup state a.0 b.0 a.1 b.1) ∙ sym b.2

none_or_some : (setup : PlainSetup) (state : PlainState) (n : ℕ) → AreReady setup state 0 → AreReady setup state n → 0 < n → ⊥
none_or_some setup state n none are some = let same : 0 ≡ n = one_ready_count setup state 0 n none are in omega (arith, same, some)

-- ---- a claim

-- a claim that may be made is below the limit
not_full : (setup : PlainSetup) (state : PlainState) (seat number : ℕ) (after : PlainState) → MayClaim setup state seat number after → IsFull setup state → ⊥
not_full setup state seat number after may full =
    let next = may.next_number in
    let below = may.below_limit in
    omega (arith, next, below, full)

-- its seat holds none
not_busy : (setup : PlainSetup) (state : PlainState) (seat number held : ℕ) (after : PlainState) → MayClaim setup state seat number after → held_from 0 seat state.claims ≡ Some held → ⊥
not_busy setup state seat number held after may busy = let e : None ≡ Some held = sym (held_none 0 seat state.claims may.seat_free) ∙ busy in cc

-- and its element is ready
some_ready : (setup : PlainSetup) (state : PlainState) (seat number : ℕ) (after : PlainState) → MayClaim setup state seat number after → AreReady setup state 0 → ⊥
some_ready setup state seat number after may none =
    let index : IsIndex setup state may.entries = record { marking = may.marking; marking_is = may.marking_is; enabled = may.enabled } in
    none_or_some setup state (length (ready state.clock may.entries)) none (may.entries, index, refl)
    (from_place (place_known (ready state.clock may.entries) (word setup.seed number % length (ready state.clock may.entries)) may.drawn may.drawn_is))
  where
    from_place : {i n : ℕ} → i < n → 0 < n
    from_place {i} {n} lt = omega arith

busy_or_free : (o : Option ℕ) (number : ℕ) → o ≡ Some number → o ≡ None → ⊥
busy_or_free o number busy free = let e : Some number ≡ None = sym busy ∙ free in cc

-- tickets of one state and seat have the same number and job
module _ (setup : PlainSetup) (state : PlainState) (seat : ℕ) where
  same_jobs
      : (number number' : ℕ) (after after' : PlainState) (claim claim' : PlainClaim)
      → number ≡ number'
      → MayClaim setup state seat number after
      → MayClaim setup state seat number' after'
      → slice_get after.claims number ≡ Some claim
      → slice_get after'.claims number' ≡ Some claim'
      → claimed_job setup claim ≡ claimed_job setup claim'
  same_jobs number number' after after' claim claim' same may may' is is' =
      let P : ℕ → Type 0 = λ n. MayClaim setup state seat n after in
      let states : after ≡ after' = claim_is_unique setup state seat number' after after' (subst P same may) may' in
      let moved : slice_get after'.claims number' ≡ Some claim = ap (λ (s : PlainState). slice_get s.claims number') (sym states) ∙ ap (λ (n : ℕ). slice_get after.claims n) (sym same) ∙ is in
      ap (claimed_job setup) (same_Some claim claim' (sym moved ∙ is'))

  -- a claim has one answer in a state
  one_claim_answer : (a b : Claimed) → AnswersClaim setup state seat a → AnswersClaim setup state seat b → IsSameClaimed a b
  one_claim_answer claims.Over claims.Over x y = tt
  one_claim_answer claims.Over claims.StepLimit x y = absurd (x y.0)
  one_claim_answer claims.Over (claims.Busy number) x y = absurd (x y.0)
  one_claim_answer claims.Over (claims.Nothing held) x y = absurd (x y.0)
  one_claim_answer claims.Over (claims.Ticket ticket) x y = absurd (x y.may.no_cut)
  one_claim_answer claims.StepLimit claims.Over x y = absurd (y x.0)
  one_claim_answer claims.StepLimit claims.StepLimit x y = tt
  one_claim_answer claims.StepLimit (claims.Busy number) x y = absurd (y.1 x.1)
  one_claim_answer claims.StepLimit (claims.Nothing held) x y = absurd (y.1 x.1)
  one_claim_answer claims.StepLimit (claims.Ticket ticket) x y = absurd (not_full setup state seat (number_of ticket) y.after y.may x.1)
  one_claim_answer (claims.Busy number) claims.Over x y = absurd (y x.0)
  one_claim_answer (claims.Busy number) claims.StepLimit x y = absurd (x.1 y.1)
  one_claim_answer (claims.Busy number) (claims.Busy number') x y = same_Some number number' (sym x.2 ∙ y.2)
  one_claim_answer (claims.Busy number) (claims.Nothing held) x y = absurd (busy_or_free (held_from 0 seat state.claims) number x.2 y.2)
  one_claim_answer (claims.Busy number) (claims.Ticket ticket) x y = absurd (not_busy setup state seat (number_of ticket) number y.after y.may x.2)
  one_claim_answer (claims.Nothing held) claims.Over x y = absurd (y x.0)
  one_claim_answer (claims.Nothing held) claims.StepLimit x y = absurd (x.1 y.1)
  one_claim_answer (claims.Nothing held) (claims.Busy number) x y = absurd (busy_or_free (held_from 0 seat state.claims) number y.2 x.2)
  one_claim_answer (claims.Nothing held) (claims.Nothing held') x y = x.4 ∙ sym y.4
  one_claim_answer (claims.Nothing held) (claims.Ticket ticket) x y = absurd (some_ready setup state seat (number_of ticket) y.after y.may x.3)
  one_claim_answer (claims.Ticket ticket) claims.Over x y = absurd (y x.may.no_cut)
  one_claim_answer (claims.Ticket ticket) claims.StepLimit x y = absurd (not_full setup state seat (number_of ticket) x.after x.may y.1)
  one_claim_answer (claims.Ticket ticket) (claims.Busy number) x y = absurd (not_busy setup state seat (number_of ticket) number x.after x.may y.2)
  one_claim_answer (claims.Ticket ticket) (claims.Nothing held) x y = absurd (some_ready setup state seat (number_of ticket) x.after x.may y.3)
  one_claim_answer (claims.Ticket ticket) (claims.Ticket ticket') x y =
      let numbers : number_of ticket ≡ number_of ticket' = x.may.next_number ∙ sym y.may.next_number in
      (numbers, x.job_is ∙ same_jobs (number_of ticket) (number_of ticket') x.after y.after x.claim y.claim numbers x.may y.may x.claim_is y.claim_is ∙ sym y.job_is)

-- ---- a completion

-- a cut stands at or below the number, or none does
cut_or_not : (state : PlainState) (number at : ℕ) → IsCutBelow state number at → IsNotCut state number → ⊥
cut_or_not state number at below not_cut =
    let upto = below.3 in
    let above : number < below.0.number = not_cut below.0 below.1 in
    omega (arith, upto, above)

-- one cut stands
one_cut_below : (state : PlainState) (number at at' : ℕ) → IsCutBelow state number at → IsCutBelow state number at' → at ≡ at'
one_cut_below state number at at' x y =
    let cuts : x.0 ≡ y.0 = same_Some x.0 y.0 (sym x.1 ∙ y.1) in
    x.2 ∙ ap (λ (cut : PlainCut). cut.number) cuts ∙ sym y.2

module _ (setup : PlainSetup) (state : PlainState) (seat : ℕ) (done : Evaluated) where
  -- a completion has one answer in a state
  one_completion_answer
      : (events events' : List PlainEvent) (a b : Completed)
      → AnswersCompletion setup state seat done events a
      → AnswersCompletion setup state seat done events' b
      → IsSameCompleted a b
  one_completion_answer events events' completions.Done completions.Done x y = tt
  one_completion_answer events events' completions.Done (completions.Void number) x y = absurd (cut_or_not state (evaluated_number done) number y.1 x.0)
  one_completion_answer events events' completions.Done (completions.Stranger kept brought) x y = absurd (y.2.1 x.1.open_claim)
  one_completion_answer events events' (completions.Void number) completions.Done x y = absurd (cut_or_not state (evaluated_number done) number x.1 y.0)
  one_completion_answer events events' (completions.Void number) (completions.Void number') x y = one_cut_below state (evaluated_number done) number number' x.1 y.1
  one_completion_answer events events' (completions.Void number) (completions.Stranger kept brought) x y = absurd (cut_or_not state (evaluated_number done) number x.1 y.2.0)
  one_completion_answer events events' (completions.Stranger kept brought) completions.Done x y = absurd (x.2.1 y.1.open_claim)
  one_completion_answer events events' (completions.Stranger kept brought) (completions.Void number) x y = absurd (cut_or_not state (evaluated_number done) number y.1 x.2.0)
  one_completion_answer events events' (completions.Stranger kept brought) (completions.Stranger kept' brought') x y = (x.2.2 ∙ sym y.2.2, x.1 ∙ sym y.1)

  -- and it appends the same events
  one_completion_journal
      : (events events' : List PlainEvent) (a b : Completed)
      → AnswersCompletion setup state seat done events a
      → AnswersCompletion setup state seat done events' b
      → events ≡ events'
  one_completion_journal events events' completions.Done completions.Done x y =
      let states : x.1.after ≡ y.1.after = completion_is_unique setup state seat (evaluated_number done) x.1.after y.1.after x.1.may y.1.may in
      x.1.events_are ∙ ap (λ (s : PlainState). claim_completed seat (evaluated_number done) ∷ cut_events (owed_cut setup s)) states ∙ sym y.1.events_are
  one_completion_journal events events' completions.Done (completions.Void number) x y = absurd (cut_or_not state (evaluated_number done) number y.1 x.0)
  one_completion_journal events events' completions.Done (completions.Stranger kept brought) x y = absurd (y.2.1 x.1.open_claim)
  one_completion_journal events events' (completions.Void number) completions.Done x y = absurd (cut_or_not state (evaluated_number done) number x.1 y.0)
  one_completion_journal events events' (completions.Void number) (completions.Void number') x y = x.0 ∙ sym y.0
  one_completion_journal events events' (completions.Void number) (completions.Stranger kept brought) x y = x.0 ∙ sym y.0
  one_completion_journal events events' (completions.Stranger kept brought) completions.Done x y = absurd (x.2.1 y.1.open_claim)
  one_completion_journal events events' (completions.Stranger kept brought) (completions.Void number) x y = x.0 ∙ sym y.0
  one_completion_journal events events' (completions.Stranger kept brought) (completions.Stranger kept' brought') x y = x.0 ∙ sym y.0

-- ---- a claim that is given back

module _ (setup : PlainSetup) (state : PlainState) (seat : ℕ) (ticket : Ticket) where
  -- a ticket that is given back has one answer in a state
  one_ticket_answer
      : (events events' : List PlainEvent) (a b : GivenBack)
      → AnswersGivingBack setup state seat ticket events a
      → AnswersGivingBack setup state seat ticket events' b
      → IsSameGivenBack a b × (events ≡ events')
  one_ticket_answer events events' returns.Cut returns.Cut x y = (tt, x.1.events_are ∙ sym y.1.events_are)
  one_ticket_answer events events' returns.Cut (returns.Void number) x y = absurd (cut_or_not state (number_of ticket) number y.1 x.0)
  one_ticket_answer events events' returns.Cut (returns.Stranger kept brought) x y = absurd (y.2.1 x.1.open_claim)
  one_ticket_answer events events' (returns.Void number) returns.Cut x y = absurd (cut_or_not state (number_of ticket) number x.1 y.0)
  one_ticket_answer events events' (returns.Void number) (returns.Void number') x y = (one_cut_below state (number_of ticket) number number' x.1 y.1, x.0 ∙ sym y.0)
  one_ticket_answer events events' (returns.Void number) (returns.Stranger kept brought) x y = absurd (cut_or_not state (number_of ticket) number x.1 y.2.0)
  one_ticket_answer events events' (returns.Stranger kept brought) returns.Cut x y = absurd (x.2.1 y.1.open_claim)
  one_ticket_answer events events' (returns.Stranger kept brought) (returns.Void number) x y = absurd (cut_or_not state (number_of ticket) number y.1 x.2.0)
  one_ticket_answer events events' (returns.Stranger kept brought) (returns.Stranger kept' brought') x y = ((x.2.2 ∙ sym y.2.2, x.1 ∙ sym y.1), x.0 ∙ sym y.0)

-- ---- a move of the clock

-- a marking has one least time
one_least : (setup : PlainSetup) (state : PlainState) (m m' : Marking) (time time' : ℕ) → unclaimed_in setup state ≡ Some m → unclaimed_in setup state ≡ Some m' → LeastTime setup.net m state.clock time → LeastTime setup.net m' state.clock time' → time ≡ time'
one_least setup state m m' time time' is is' least least' =
    let P : Marking → Type 0 = λ k. LeastTime setup.net k state.clock time in
    least_is_unique setup.net m' state.clock time time' (subst P (same_Some m m' (sym is ∙ is')) least) least'

-- where something is covered at some time the marking is not dead
dead_or_covered : (setup : PlainSetup) (state : PlainState) (m m' : Marking) (time : ℕ) → unclaimed_in setup state ≡ Some m → unclaimed_in setup state ≡ Some m' → IsDead setup.net m → LeastTime setup.net m' state.clock time → ⊥
dead_or_covered setup state m m' time is is' dies least =
    let P : Marking → Type 0 = λ k. IsDead setup.net k in
    let none = (subst P (same_Some m m' (sym is ∙ is')) dies) time least.some.0 in
    let e : true ≡ false = sym least.some.1 ∙ none in
    cc

-- the clock moves to no time above the last one
late_or_in_time
    : (setup : PlainSetup) (state : PlainState) (m : Marking) (late time : ℕ) (after : PlainState)
    → unclaimed_in setup state ≡ Some m
    → LeastTime setup.net m state.clock late
    → setup.limits.until < late
    → MayMove setup state time after
    → ⊥
late_or_in_time setup state m late time after is least above may =
    let same : late ≡ time = one_least setup state m may.marking late time is may.marking_is least may.least in
    let within = may.in_time in
    omega (arith, same, above, within)

not_full_at_move : (setup : PlainSetup) (state : PlainState) (time : ℕ) (after : PlainState) → MayMove setup state time after → IsFull setup state → ⊥
not_full_at_move setup state time after may full = let below = may.below_limit in omega (arith, below, full)

-- nor does it move where an element is ready
first_of_some : {A : Type 0} (xs : List A) → 0 < length xs → (x : A) × (slice_get xs 0 ≡ Some x)
first_of_some [] some = absurd (omega arith)
first_of_some (x ∷ xs) some = (x, refl)

none_ready_at_move : (setup : PlainSetup) (state : PlainState) (time number : ℕ) (after : PlainState) → MayMove setup state time after → AreReady setup state number → 0 < number → ⊥
none_ready_at_move setup state time number after may are some =
    let long = are.2 in
    let first = first_of_some (ready state.clock are.0) (omega (arith, long, some)) in
    let covers : covered setup.net are.1.marking state.clock first.0.element ≡ true = drawn_covered setup.net are.1.marking state.clock are.0 0 first.0 are.1.enabled first.1 in
    let P : Marking → Type 0 = λ m. covered setup.net m state.clock first.0.element ≡ true in
    let moved = subst P (same_Some are.1.marking may.marking (sym are.1.marking_is ∙ may.marking_is)) covers in
    let e : true ≡ false = sym moved ∙ may.none_ready first.0.element in
    cc

-- nor where a claim is open
none_open_at_move : (setup : PlainSetup) (state : PlainState) (time number : ℕ) (after : PlainState) → MayMove setup state time after → number ≡ open_claims state → 0 < number → ⊥
none_open_at_move setup state time number after may are some =
    let e : true ≡ false = sym (some_counted state.claims (omega (arith, are, some))) ∙ may.none_open in cc

none_or_some_open : (setup : PlainSetup) (state : PlainState) (number : ℕ) → number ≡ open_claims state → 0 < number → open_claims state ≡ 0 → ⊥
none_or_some_open setup state number are some none = omega (arith, are, some, none)

-- a move of the clock has one answer in a state
one_advance_answer : (setup : PlainSetup) (state : PlainState) (a b : Advanced) → AnswersAdvance setup state a → AnswersAdvance setup state b → a ≡ b
one_advance_answer setup state moves.Over moves.Over x y = refl
one_advance_answer setup state moves.Over moves.StepLimit x y = absurd (x y.0)
one_advance_answer setup state moves.Over moves.Ready x y = absurd (x y.0.0)
one_advance_answer setup state moves.Over (moves.Open number) x y = absurd (x y.0.0)
one_advance_answer setup state moves.Over moves.Dead x y = absurd (x y.0.0)
one_advance_answer setup state moves.Over (moves.Until time) x y = absurd (x y.0.0)
one_advance_answer setup state moves.Over (moves.Moved time) x y = absurd (x y.1.no_cut)
one_advance_answer setup state moves.StepLimit moves.Over x y = absurd (y x.0)
one_advance_answer setup state moves.StepLimit moves.StepLimit x y = refl
one_advance_answer setup state moves.StepLimit moves.Ready x y = absurd (y.0.1 x.1)
one_advance_answer setup state moves.StepLimit (moves.Open number) x y = absurd (y.0.1 x.1)
one_advance_answer setup state moves.StepLimit moves.Dead x y = absurd (y.0.1 x.1)
one_advance_answer setup state moves.StepLimit (moves.Until time) x y = absurd (y.0.1 x.1)
one_advance_answer setup state moves.StepLimit (moves.Moved time) x y = absurd (not_full_at_move setup state time y.0 y.1 x.1)
one_advance_answer setup state moves.Ready moves.Over x y = absurd (y x.0.0)
one_advance_answer setup state moves.Ready moves.StepLimit x y = absurd (x.0.1 y.1)
one_advance_answer setup state moves.Ready moves.Ready x y = refl
one_advance_answer setup state moves.Ready (moves.Open number) x y = absurd (none_or_some setup state x.1.0 y.1 x.1.1 x.1.2)
one_advance_answer setup state moves.Ready moves.Dead x y = absurd (none_or_some setup state x.1.0 y.1.0 x.1.1 x.1.2)
one_advance_answer setup state moves.Ready (moves.Until time) x y = absurd (none_or_some setup state x.1.0 y.1.0 x.1.1 x.1.2)
one_advance_answer setup state moves.Ready (moves.Moved time) x y = absurd (none_ready_at_move setup state time x.1.0 y.0 y.1 x.1.1 x.1.2)
one_advance_answer setup state (moves.Open number) moves.Over x y = absurd (y x.0.0)
one_advance_answer setup state (moves.Open number) moves.StepLimit x y = absurd (x.0.1 y.1)
one_advance_answer setup state (moves.Open number) moves.Ready x y = absurd (none_or_some setup state y.1.0 x.1 y.1.1 y.1.2)
one_advance_answer setup state (moves.Open number) (moves.Open number') x y = ap (λ (n : ℕ). moves.Open n) (x.2 ∙ sym y.2)
one_advance_answer setup state (moves.Open number) moves.Dead x y = absurd (none_or_some_open setup state number x.2 x.3 y.1.1)
one_advance_answer setup state (moves.Open number) (moves.Until time) x y = absurd (none_or_some_open setup state number x.2 x.3 y.1.1)
one_advance_answer setup state (moves.Open number) (moves.Moved time) x y = absurd (none_open_at_move setup state time number y.0 y.1 x.2 x.3)
one_advance_answer setup state moves.Dead moves.Over x y = absurd (y x.0.0)
one_advance_answer setup state moves.Dead moves.StepLimit x y = absurd (x.0.1 y.1)
one_advance_answer setup state moves.Dead moves.Ready x y = absurd (none_or_some setup state y.1.0 x.1.0 y.1.1 y.1.2)
one_advance_answer setup state moves.Dead (moves.Open number) x y = absurd (none_or_some_open setup state number y.2 y.3 x.1.1)
one_advance_answer setup state moves.Dead moves.Dead x y = refl
one_advance_answer setup state moves.Dead (moves.Until time) x y = absurd (dead_or_covered setup state x.2.0 y.2.0 time x.2.1 y.2.1 x.2.2 y.2.2)
one_advance_answer setup state moves.Dead (moves.Moved time) x y = absurd (dead_or_covered setup state x.2.0 y.1.marking time x.2.1 y.1.marking_is x.2.2 y.1.least)
one_advance_answer setup state (moves.Until time) moves.Over x y = absurd (y x.0.0)
one_advance_answer setup state (moves.Until time) moves.StepLimit x y = absurd (x.0.1 y.1)
one_advance_answer setup state (moves.Until time) moves.Ready x y = absurd (none_or_some setup state y.1.0 x.1.0 y.1.1 y.1.2)
one_advance_answer setup state (moves.Until time) (moves.Open number) x y = absurd (none_or_some_open setup state number y.2 y.3 x.1.1)
one_advance_answer setup state (moves.Until time) moves.Dead x y = absurd (dead_or_covered setup state y.2.0 x.2.0 time y.2.1 x.2.1 y.2.2 x.2.2)
one_advance_answer setup state (moves.Until time) (moves.Until time') x y = ap (λ (t : ℕ). moves.Until t) (one_least setup state x.2.0 y.2.0 time time' x.2.1 y.2.1 x.2.2 y.2.2)
one_advance_answer setup state (moves.Until time) (moves.Moved time') x y = absurd (late_or_in_time setup state x.2.0 time time' y.0 x.2.1 x.2.2 x.3 y.1)
one_advance_answer setup state (moves.Moved time) moves.Over x y = absurd (y x.1.no_cut)
one_advance_answer setup state (moves.Moved time) moves.StepLimit x y = absurd (not_full_at_move setup state time x.0 x.1 y.1)
one_advance_answer setup state (moves.Moved time) moves.Ready x y = absurd (none_ready_at_move setup state time y.1.0 x.0 x.1 y.1.1 y.1.2)
one_advance_answer setup state (moves.Moved time) (moves.Open number) x y = absurd (none_open_at_move setup state time number x.0 x.1 y.2 y.3)
one_advance_answer setup state (moves.Moved time) moves.Dead x y = absurd (dead_or_covered setup state y.2.0 x.1.marking time y.2.1 x.1.marking_is y.2.2 x.1.least)
one_advance_answer setup state (moves.Moved time) (moves.Until time') x y = absurd (late_or_in_time setup state y.2.0 time' time x.0 y.2.1 y.2.2 y.3 x.1)
one_advance_answer setup state (moves.Moved time) (moves.Moved time') x y = ap (λ (t : ℕ). moves.Moved t) (move_is_unique setup state time time' x.0 y.0 x.1 y.1).0
one_advance_answer setup state moves.Spent b x y = absurd x
one_advance_answer setup state moves.Over moves.Spent x y = absurd y
one_advance_answer setup state moves.StepLimit moves.Spent x y = absurd y
one_advance_answer setup state moves.Ready moves.Spent x y = absurd y
one_advance_answer setup state (moves.Open number) moves.Spent x y = absurd y
one_advance_answer setup state moves.Dead moves.Spent x y = absurd y
one_advance_answer setup state (moves.Until time) moves.Spent x y = absurd y
one_advance_answer setup state (moves.Moved time) moves.Spent x y = absurd y

-- ---- the end

-- a book is spent or not
spent_or_not : (book : Book) → is_spent_in book ≡ true → is_spent_in book ≡ false → ⊥
spent_or_not book spent not_spent = let e : true ≡ false = sym spent ∙ not_spent in cc

-- a run that is shown has an end in the book's state, and a book that is running has none
running_or_ended : (book : Book) (same : Book) (finished : Finished) → AnswersFinish book (finishes.Running same) → AnswersFinish book (finishes.Ended finished) → ⊥
running_or_ended book same finished running ended =
    let P : List PlainEvent → Type 0 = λ events. IsState (setup_in book) events ended.1.state in
    running.2 ended.1.state (subst P ended.2 ended.1.reached) (finished_view finished).cause ended.1.ends

one_finish_answer : (book : Book) (a b : Finish) → AnswersFinish book a → AnswersFinish book b → IsSameFinish a b
one_finish_answer book finishes.Spent finishes.Spent x y = tt
one_finish_answer book finishes.Spent (finishes.Running same) x y = absurd (spent_or_not book x y.0)
one_finish_answer book finishes.Spent (finishes.Ended finished) x y = absurd (spent_or_not book x y.0)
one_finish_answer book (finishes.Running same) finishes.Spent x y = absurd (spent_or_not book y x.0)
one_finish_answer book (finishes.Running same) (finishes.Running same') x y = x.1 ∙ sym y.1
one_finish_answer book (finishes.Running same) (finishes.Ended finished) x y = absurd (running_or_ended book same finished x y)
one_finish_answer book (finishes.Ended finished) finishes.Spent x y = absurd (spent_or_not book y x.0)
one_finish_answer book (finishes.Ended finished) (finishes.Running same) x y = absurd (running_or_ended book same finished y x)
one_finish_answer book (finishes.Ended finished) (finishes.Ended finished') x y = (x.3 ∙ sym y.3, run_of_journal (setup_in book) (finished_view finished) (finished_view finished') (x.2 ∙ sym y.2) x.1 y.1)

-- ---- the laws

pub books_have_one_state : BooksHaveOneState
books_have_one_state book is = record {
  state = is.state;
  reached = is.reached;
  only = λ other at. one_state (setup_in book) (journal_in book) other is.state at is.reached;
}

pub claims_have_one_answer : ClaimsHaveOneAnswer
claims_have_one_answer setup state seat a b x y = one_claim_answer setup state seat a b x y

pub completions_have_one_answer : CompletionsHaveOneAnswer
completions_have_one_answer setup state seat done events events' a b x y =
    (one_completion_answer setup state seat done events events' a b x y, one_completion_journal setup state seat done events events' a b x y)

pub giving_back_has_one_answer : GivingBackHasOneAnswer
giving_back_has_one_answer setup state seat ticket events events' a b x y = one_ticket_answer setup state seat ticket events events' a b x y

pub moves_have_one_answer : MovesHaveOneAnswer
moves_have_one_answer setup state a b x y = one_advance_answer setup state a b x y

pub finishes_have_one_answer : FinishesHaveOneAnswer
finishes_have_one_answer book a b x y = one_finish_answer book a b x y
