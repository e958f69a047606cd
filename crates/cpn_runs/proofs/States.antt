-- The states of a run, for any number of seats: a journal leads to one state; what holds in each state that a journal allows;
-- and where nothing happens and nothing ends.
use Rattle.std.proofs.Common.{◌≡◌, ℕ, suc, ◌+◌, ◌<◌, ◌≤◌, ◌==◌, ◌⊎◌, Bool, true, false, ◌&&◌, ◌||◌, cond, List, [], ◌∷◌, ◌++◌, length, map, take, drop, append_assoc, length-append, Some, None, Option, refl, sym, ap, ◌∙◌, subst, inl, inr, arith, slice_get, slice_set, eqb-true, count_by, add-zero}
use Rattle.std.specs.List.{list_any, AllByRecursion}
use Rattle.std.specs.Option.{MatchOption}
use Rattle.std.proofs.Math.Path.{ap₂}
use Rattle.std.proofs.lemmas.Bool.{and_parts, cases_lt}
use Rattle.std.proofs.lemmas.Option.{same_Some}
use Rattle.std.proofs.lemmas.List.{take-append-drop, length-take-le}
use Rattle.std.proofs.lemmas.List.Sums.{sum_by-cons, sum_by-append}
use Rattle.cpn_definitions.specs.Marking.{Marking}
use Rattle.cpn_definitions.specs.Outcome.{Outcome, gives, faults, no_meaning}
use Rattle.cpn_definitions.specs.Net.{PlainNet}
use Rattle.cpn_definitions.specs.Occurrence.{PlainElement, Made, covered, needs_of, outputs_of}
use Rattle.cpn_definitions.specs.Legal.{LeastTime}
use Rattle.cpn_definitions.specs.Enabled.{PlainEntry, Enabled, ready}
use Rattle.cpn_definitions.proofs.RisingLists.{in_filter_from, contains_from_in, each_appended}
use Rattle.cpn_definitions.proofs.OneEnabledList.{enabled_is_unique}
use Rattle.cpn_definitions.proofs.ListItems.{IsSplit, split_at, in_from_get, map_more, all_parts, place_known}
use Rattle.cpn_runs.specs.HoleRun.{PlainClaim, Status, done_with, faulted_with, is_open}
use Rattle.cpn_runs.specs.State.{PlainSetup, PlainEvent, claim_made, claim_completed, clock_moved, cut_made, PlainEnd, dead, steps_made, until_passed, fault_end, stopped_by, wants_memory, PlainCut, PlainState, first_state, committed, stop_in, owed_cut, IsDue, is_held_by, given_needs, new_claim, status_after, IsDrawn, MayClaim, MayComplete, MayMove, MayCut, Happens, Leads, IsState, HasCause, EndsBy}
use Rattle.cpn_runs.specs.GivingBack.{OnlyGivenBack}
use Rattle.cpn_runs.proofs.Cuts.{AreDone, committed_are_done, as_many_are_committed, done_is_not_open, done_at, fewer_first, IsForFault, IsOwed, owed_is, left_by, left_all, left_stop, left_owes_none, no_more_committed, owed_number}
use Rattle.cpn_runs.proofs.GivenBackClaims.{left_after, still_committed, committed_stay, still_owes_none}

some_is_not_none : {A : Type 0} (o : Option A) (x : A) → o ≡ Some x → o ≡ None → ⊥
some_is_not_none o x some none = let e : Some x ≡ None = sym some ∙ none in cc

-- ---- one state

drawn_is_unique : (seed k : ℕ) (xs ys : List PlainEntry) (x y : PlainEntry) → xs ≡ ys → IsDrawn seed k xs x → IsDrawn seed k ys y → x ≡ y
drawn_is_unique seed k xs ys x y same first second =
    let P : List PlainEntry → Type 0 = λ zs. IsDrawn seed k zs x in
    let moved : IsDrawn seed k ys x = subst P same first in
    same_Some x y (sym moved ∙ second)

-- a claim of a seat leads to one state
pub claim_is_unique : (setup : PlainSetup) (old : PlainState) (seat number : ℕ) (new new' : PlainState) → MayClaim setup old seat number new → MayClaim setup old seat number new' → new ≡ new'
claim_is_unique setup old seat number new new' a b =
    let markings : a.marking ≡ b.marking = same_Some a.marking b.marking (sym a.marking_is ∙ b.marking_is) in
    let P : Marking → Type 0 = λ m. Enabled setup.net m old.clock a.entries in
    let lists : a.entries ≡ b.entries = enabled_is_unique setup.net b.marking old.clock a.entries b.entries (subst P markings a.enabled) b.enabled in
    let drawn : a.drawn ≡ b.drawn = drawn_is_unique setup.seed number (ready old.clock a.entries) (ready old.clock b.entries) a.drawn b.drawn (ap (ready old.clock) lists) a.drawn_is b.drawn_is in
    a.new_is ∙ ap (λ x. record old { claims = old.claims ++ new_claim setup.net seat old.clock x.element ∷ [] }) drawn ∙ sym b.new_is

-- a completion leads to one state
pub completion_is_unique : (setup : PlainSetup) (old : PlainState) (seat number : ℕ) (new new' : PlainState) → MayComplete setup old seat number new → MayComplete setup old seat number new' → new ≡ new'
completion_is_unique setup old seat number new new' a b =
    let claims : a.held_claim ≡ b.held_claim = same_Some a.held_claim b.held_claim (sym a.claim_is ∙ b.claim_is) in
    let P : PlainClaim → Type 0 = λ k. status_after (outputs_of setup.net k.element k.time) ≡ Some a.status in
    let statuses : a.status ≡ b.status = same_Some a.status b.status (sym (subst P claims a.status_is) ∙ b.status_is) in
    a.new_is ∙ ap₂ (λ claim status. record old { claims = slice_set old.claims number (record claim { status = status }) }) claims statuses ∙ sym b.new_is

-- the least time is one
pub least_is_unique : (n : PlainNet) (m : Marking) (clock time time' : ℕ) → LeastTime n m clock time → LeastTime n m clock time' → time ≡ time'
least_is_unique n m clock time time' a b = by (cases_lt time time') (cases_lt time' time)
  where
    clash : (s : ℕ) (e : PlainElement) → covered n m s e ≡ true → covered n m s e ≡ false → ⊥
    clash s e is is_not = cc

    by : (time < time') ⊎ (time' ≤ time) → (time' < time) ⊎ (time ≤ time') → time ≡ time'
    by (inl sooner) second = absurd (clash time a.some.0 a.some.1 (b.none_earlier time a.some.0 a.not_before sooner))
    by (inr upto) (inl sooner) = absurd (clash time' b.some.0 b.some.1 (a.none_earlier time' b.some.0 b.not_before sooner))
    by (inr upto) (inr from) = omega arith

-- a move leads to one state, at one time
pub move_is_unique : (setup : PlainSetup) (old : PlainState) (time time' : ℕ) (new new' : PlainState) → MayMove setup old time new → MayMove setup old time' new' → (time ≡ time') × (new ≡ new')
move_is_unique setup old time time' new new' a b =
    let markings : a.marking ≡ b.marking = same_Some a.marking b.marking (sym a.marking_is ∙ b.marking_is) in
    let P : Marking → Type 0 = λ m. LeastTime setup.net m old.clock time in
    let times : time ≡ time' = least_is_unique setup.net b.marking old.clock time time' (subst P markings a.least) b.least in
    (times, a.new_is ∙ ap (λ (t : ℕ). record old { clock = t }) times ∙ sym b.new_is)

-- of one number one cut is due
due_is_unique : (setup : PlainSetup) (old : PlainState) (a b : PlainCut) → a.number ≡ b.number → IsDue setup old a → IsDue setup old b → a ≡ b
due_is_unique setup old a b numbers (inl owed) (inl owed') = same_Some a b (sym owed ∙ owed')
due_is_unique setup old a b numbers (inl owed) (inr back') = absurd (some_is_not_none (owed_cut setup old) a owed back'.none_owed)
due_is_unique setup old a b numbers (inr back) (inl owed') = absurd (some_is_not_none (owed_cut setup old) b owed' back.none_owed)
due_is_unique setup old a b numbers (inr back) (inr back') = ap₂ (λ number cause. record { number = number; cause = cause }) numbers (back.cause_is ∙ sym back'.cause_is)

-- a cut leads to one state
pub cut_is_unique : (setup : PlainSetup) (old : PlainState) (number : ℕ) (new new' : PlainState) → MayCut setup old number new → MayCut setup old number new' → new ≡ new'
cut_is_unique setup old number new new' a b =
    let cuts : a.cut ≡ b.cut = due_is_unique setup old a.cut b.cut (sym a.number_is ∙ b.number_is) a.due b.due in
    a.new_is ∙ ap (λ (cut : PlainCut). record old { claims = take number old.claims; cut = Some cut }) cuts ∙ sym b.new_is

pub event_is_unique : (setup : PlainSetup) (old : PlainState) (event : PlainEvent) (new new' : PlainState) → Happens setup old event new → Happens setup old event new' → new ≡ new'
event_is_unique setup old (claim_made seat number) new new' a b = claim_is_unique setup old seat number new new' a b
event_is_unique setup old (claim_completed seat number) new new' a b = completion_is_unique setup old seat number new new' a b
event_is_unique setup old (clock_moved time) new new' a b = (move_is_unique setup old time time new new' a b).1
event_is_unique setup old (cut_made number) new new' a b = cut_is_unique setup old number new new' a b

lead_to_one : (setup : PlainSetup) (old : PlainState) (journal : List PlainEvent) (s s' : PlainState) → Leads setup old journal s → Leads setup old journal s' → s ≡ s'
lead_to_one setup old [] s s' a b = a ∙ sym b
lead_to_one setup old (event ∷ journal) s s' a b =
    let P : PlainState → Type 0 = λ mid. Leads setup mid journal s' in
    lead_to_one setup a.0 journal s s' a.2 (subst P (sym (event_is_unique setup old event a.0 b.0 a.1 b.1)) b.2)

-- For any number of seats the state is a function of setup and journal.
pub one_state : (setup : PlainSetup) (journal : List PlainEvent) (s s' : PlainState) → IsState setup journal s → IsState setup journal s' → s ≡ s'
one_state setup journal s s' a b = lead_to_one setup (first_state setup) journal s s' a b

-- events go on from where other events led
pub leads_more
    : (setup : PlainSetup) (old : PlainState) (events more : List PlainEvent) (mid new : PlainState)
    → Leads setup old events mid
    → Leads setup mid more new
    → Leads setup old (events ++ more) new
leads_more setup old [] more mid new first second = let P : PlainState → Type 0 = λ s. Leads setup s more new in subst P first second
leads_more setup old (event ∷ events) more mid new first second = (first.0, first.1, leads_more setup first.0 events more mid new first.2 second)

-- ---- where nothing happens and nothing ends

-- where a cut is owed just that cut happens
pub cut_happens_where_owed : (setup : PlainSetup) (old : PlainState) (cut : PlainCut) (event : PlainEvent) (new : PlainState) → owed_cut setup old ≡ Some cut → Happens setup old event new → event ≡ cut_made cut.number
cut_happens_where_owed setup old cut (claim_made seat number) new owed happens = absurd (some_is_not_none (owed_cut setup old) cut owed happens.none_owed)
cut_happens_where_owed setup old cut (claim_completed seat number) new owed happens = absurd (some_is_not_none (owed_cut setup old) cut owed happens.none_owed)
cut_happens_where_owed setup old cut (clock_moved time) new owed happens = absurd (some_is_not_none (owed_cut setup old) cut owed happens.none_owed)
cut_happens_where_owed setup old cut (cut_made number) new owed happens = ap cut_made (happens.number_is ∙ number_of happens.due)
  where
    number_of : IsDue setup old happens.cut → happens.cut.number ≡ cut.number
    number_of (inl is) = ap (λ (c : PlainCut). c.number) (same_Some happens.cut cut (sym is ∙ owed))
    number_of (inr back) = absurd (some_is_not_none (owed_cut setup old) cut owed back.none_owed)

-- no claim is made after a cut
pub no_claim_after_a_cut : (setup : PlainSetup) (old : PlainState) (cut : PlainCut) (seat number : ℕ) (new : PlainState) → old.cut ≡ Some cut → MayClaim setup old seat number new → ⊥
no_claim_after_a_cut setup old cut seat number new stands c = some_is_not_none old.cut cut stands c.no_cut

-- a run ends with no cut owed and no claim open
pub no_end_where_owed : (setup : PlainSetup) (state : PlainState) (cut : PlainCut) (cause : PlainEnd) → owed_cut setup state ≡ Some cut → EndsBy setup state cause → ⊥
no_end_where_owed setup state cut cause owed ends = some_is_not_none (owed_cut setup state) cut owed ends.none_owed

pub no_end_with_an_open_claim : (setup : PlainSetup) (state : PlainState) (cause : PlainEnd) → list_any (λ claim. is_open claim.status) state.claims ≡ true → EndsBy setup state cause → ⊥
no_end_with_an_open_claim setup state cause opened ends = let e : true ≡ false = sym opened ∙ ends.none_open in cc

-- after a cut a run ends by the cause of the cut
pub ends_by_its_cut : (setup : PlainSetup) (state : PlainState) (cut : PlainCut) (cause : PlainEnd) → state.cut ≡ Some cut → EndsBy setup state cause → cause ≡ cut.cause
ends_by_its_cut setup state cut cause stands ends =
    let P : Option PlainCut → Type 0 = λ c. MatchOption c (HasCause setup state cause) (λ k. cause ≡ k.cause) in
    subst P stands ends.has_cause

-- ---- what a journal says of its seats

-- the numbers of the claims that a journal makes
abbrev pub claim_numbers : List PlainEvent → List ℕ
claim_numbers [] = []
claim_numbers (claim_made seat number ∷ events) = number ∷ claim_numbers events
claim_numbers (claim_completed seat number ∷ events) = claim_numbers events
claim_numbers (clock_moved time ∷ events) = claim_numbers events
claim_numbers (cut_made number ∷ events) = claim_numbers events

-- the seats of the claims that a journal makes
abbrev pub claim_seats : List PlainEvent → List ℕ
claim_seats [] = []
claim_seats (claim_made seat number ∷ events) = seat ∷ claim_seats events
claim_seats (claim_completed seat number ∷ events) = claim_seats events
claim_seats (clock_moved time ∷ events) = claim_seats events
claim_seats (cut_made number ∷ events) = claim_seats events

-- whether an event is a claim of the seat, and whether it is a completion of the seat
abbrev pub is_claim_by : ℕ → PlainEvent → Bool
is_claim_by seat (claim_made by number) = by == seat
is_claim_by seat (claim_completed by number) = false
is_claim_by seat (clock_moved time) = false
is_claim_by seat (cut_made number) = false

abbrev pub is_completion_by : ℕ → PlainEvent → Bool
is_completion_by seat (claim_made by number) = false
is_completion_by seat (claim_completed by number) = by == seat
is_completion_by seat (clock_moved time) = false
is_completion_by seat (cut_made number) = false

-- the numbers count up from k
abbrev pub AreCounted : ℕ → List ℕ → Type 0
AreCounted k [] = Unit {0}
AreCounted k (x ∷ xs) = (x ≡ k) × AreCounted (suc k) xs

-- A claim of a run: its seat is one of the run's, its needs are those of its element, which was covered in some marking at its
-- time; and it is open, or is done with what its outputs are.
pub record IsClaimOf (setup : PlainSetup) (claim : PlainClaim) : Type 0 where
  pub seat_known : claim.seat < setup.limits.seats
  pub needs_are : claim.needs ≡ given_needs (needs_of setup.net claim.element)
  pub marking : Marking
  pub was_covered : covered setup.net marking claim.time claim.element ≡ true
  pub status_is : (is_open claim.status ≡ true) ⊎ (status_after (outputs_of setup.net claim.element claim.time) ≡ Some claim.status)

-- What holds before a cut: each claim that the journal makes stands, and is of the seat that its event names; and of the
-- claims that a seat made those are open that it has not completed.
pub record IsUncut (journal : List PlainEvent) (state : PlainState) : Type 0 where
  pub as_many : length (claim_numbers journal) ≡ length state.claims
  pub claimed_by : map (λ (claim : PlainClaim). claim.seat) state.claims ≡ claim_seats journal
  pub balance : (seat : ℕ) → count_by (is_held_by seat) state.claims + count_by (is_completion_by seat) journal ≡ count_by (is_claim_by seat) journal

-- What a cut leaves that was owed: claims that are all done and committed, and no other cut is owed.
pub record IsSettled (setup : PlainSetup) (state : PlainState) : Type 0 where
  pub all_done : AreDone state.claims
  pub all_committed : committed setup state ≡ length state.claims
  pub none_owed : owed_cut setup state ≡ None

-- What a cut was made for: a claim of the run that was done with a fault, where no monitor stops the run after the last claim; the first
-- monitor that does; or want of memory, after which claims may be open.
abbrev pub IsCutFor : PlainSetup → PlainState → PlainEnd → Type 0
IsCutFor setup state dead = ⊥
IsCutFor setup state steps_made = ⊥
IsCutFor setup state (until_passed time) = ⊥
IsCutFor setup state (fault_end e fault) = IsSettled setup state × ((removed : PlainClaim) × IsClaimOf setup removed × (removed.status ≡ faulted_with fault) × (removed.element ≡ e) × (stop_in setup state ≡ None))
IsCutFor setup state (stopped_by monitor) = IsSettled setup state × (stop_in setup state ≡ Some monitor)
IsCutFor setup state wants_memory = Unit {0}

-- What a cut leaves: just the claims ahead of its number.
pub record IsCutOff (setup : PlainSetup) (state : PlainState) (cut : PlainCut) : Type 0 where
  pub number_is : cut.number ≡ length state.claims
  pub made_for : IsCutFor setup state cut.cause

-- a cut that stands was owed, and settles all, or was for want of memory
settled_or_given_back : (setup : PlainSetup) (state : PlainState) (cause : PlainEnd) → IsCutFor setup state cause → IsSettled setup state ⊎ (cause ≡ wants_memory)
settled_or_given_back setup state dead made_for = absurd made_for
settled_or_given_back setup state steps_made made_for = absurd made_for
settled_or_given_back setup state (until_passed time) made_for = absurd made_for
settled_or_given_back setup state (fault_end e fault) made_for = inl made_for.0
settled_or_given_back setup state (stopped_by monitor) made_for = inl made_for.0
settled_or_given_back setup state wants_memory made_for = inr refl

-- What holds in each state that a journal allows: the clock did not go back, and is one that the run may reach; at most as many claims were made as may be,
-- numbered from 0; each that stands is one of the run; no seat has two open claims; and what holds before a cut and after it.
pub record IsReached (setup : PlainSetup) (journal : List PlainEvent) (state : PlainState) : Type 0 where
  pub clock_goes_on : setup.clock ≤ state.clock
  pub clock_in_time : setup.clock ≤ setup.limits.until → state.clock ≤ setup.limits.until
  pub few_claims : length (claim_numbers journal) ≤ setup.limits.steps
  pub numbers : AreCounted 0 (claim_numbers journal)
  pub claims_are : AllByRecursion (IsClaimOf setup) state.claims
  pub one_each : (seat : ℕ) → count_by (is_held_by seat) state.claims ≤ 1
  pub uncut : state.cut ≡ None → IsUncut journal state
  pub cut_off : (cut : PlainCut) → state.cut ≡ Some cut → IsCutOff setup state cut

-- so where a claim is open no cut stands, unless for want of memory; and so it is where one is owed
given_back_unless : (setup : PlainSetup) (journal : List PlainEvent) (state : PlainState) → IsReached setup journal state → (IsSettled setup state → ⊥) → OnlyGivenBack state.cut
given_back_unless setup journal state r unsettled = by state.cut refl
  where
    because : (cut : PlainCut) → IsSettled setup state ⊎ (cut.cause ≡ wants_memory) → OnlyGivenBack (Some cut)
    because cut (inl settled) = absurd (unsettled settled)
    because cut (inr memory) = memory

    by : (stands : Option PlainCut) → state.cut ≡ stands → OnlyGivenBack stands
    by None is = tt
    by (Some cut) is = because cut (settled_or_given_back setup state cut.cause (r.cut_off cut is).made_for)

pub given_back_where_open
    : (setup : PlainSetup) (journal : List PlainEvent) (state : PlainState) (i : ℕ) (claim : PlainClaim)
    → IsReached setup journal state
    → slice_get state.claims i ≡ Some claim
    → is_open claim.status ≡ true
    → OnlyGivenBack state.cut
given_back_where_open setup journal state i claim r is opened = given_back_unless setup journal state r (λ settled.
    let e : true ≡ false = sym opened ∙ done_is_not_open claim.status (done_at state.claims i claim settled.all_done is) in
    cc)

pub given_back_where_owed : (setup : PlainSetup) (journal : List PlainEvent) (state : PlainState) (cut : PlainCut) → IsReached setup journal state → owed_cut setup state ≡ Some cut → OnlyGivenBack state.cut
given_back_where_owed setup journal state cut r owed = given_back_unless setup journal state r (λ settled. some_is_not_none (owed_cut setup state) cut owed settled.none_owed)

-- ---- counting

count_one : {A : Type 0} (p : A → Bool) (x : A) → count_by p (x ∷ []) ≡ cond (p x) 1 0
count_one p x = sum_by-cons (λ y. cond (p y) 1 0) x [] ∙ add-zero (cond (p x) 1 0)

count_last : {A : Type 0} (p : A → Bool) (xs : List A) (x : A) → count_by p (xs ++ x ∷ []) ≡ count_by p xs + cond (p x) 1 0
count_last p xs x = sum_by-append (λ y. cond (p y) 1 0) xs (x ∷ []) ∙ ap (λ (k : ℕ). count_by p xs + k) (count_one p x)

count_split : {A : Type 0} (p : A → Bool) (before : List A) (x : A) (later : List A) → count_by p (before ++ x ∷ later) ≡ count_by p before + (cond (p x) 1 0 + count_by p later)
count_split p before x later = sum_by-append (λ y. cond (p y) 1 0) before (x ∷ later) ∙ ap (λ (k : ℕ). count_by p before + k) (sum_by-cons (λ y. cond (p y) 1 0) x later)

count_none : {A : Type 0} (p : A → Bool) (xs : List A) → list_any p xs ≡ false → count_by p xs ≡ 0
count_none p [] none = refl
count_none p (x ∷ xs) none = split (λ h. count_none p xs h) (p x) refl none
  where
    plus : (k : ℕ) → k ≡ 0 → 0 + k ≡ 0
    plus k e = omega arith

    split : (list_any p xs ≡ false → count_by p xs ≡ 0) → (b : Bool) → p x ≡ b → (b || list_any p xs) ≡ false → count_by p (x ∷ xs) ≡ 0
    split rest true is h = cc
    split rest false is h = sum_by-cons (λ y. cond (p y) 1 0) x xs ∙ ap (λ b. cond b 1 0 + count_by p xs) is ∙ plus (count_by p xs) (rest h)

counted_more : (k : ℕ) (xs : List ℕ) (x : ℕ) → AreCounted k xs → x ≡ k + length xs → AreCounted k (xs ++ x ∷ [])
counted_more k [] x counted is = (omega arith, tt)
counted_more k (y ∷ ys) x counted is = (counted.0, counted_more (suc k) ys x counted.1 (omega arith))

numbers_joined : (events more : List PlainEvent) → claim_numbers (events ++ more) ≡ claim_numbers events ++ claim_numbers more
numbers_joined [] more = refl
numbers_joined (claim_made seat number ∷ events) more = ap (λ xs. number ∷ xs) (numbers_joined events more)
numbers_joined (claim_completed seat number ∷ events) more = numbers_joined events more
numbers_joined (clock_moved time ∷ events) more = numbers_joined events more
numbers_joined (cut_made number ∷ events) more = numbers_joined events more

seats_joined : (events more : List PlainEvent) → claim_seats (events ++ more) ≡ claim_seats events ++ claim_seats more
seats_joined [] more = refl
seats_joined (claim_made seat number ∷ events) more = ap (λ xs. seat ∷ xs) (seats_joined events more)
seats_joined (claim_completed seat number ∷ events) more = seats_joined events more
seats_joined (clock_moved time ∷ events) more = seats_joined events more
seats_joined (cut_made number ∷ events) more = seats_joined events more

no_more : {A : Type 0} (xs : List A) → xs ++ [] ≡ xs
no_more [] = refl
no_more (x ∷ xs) = ap (λ ys. x ∷ ys) (no_more xs)

-- ---- a claim

-- what is drawn is covered at the clock
pub drawn_now : (setup : PlainSetup) (old : PlainState) (seat number : ℕ) (new : PlainState) (c : MayClaim setup old seat number new) → covered setup.net c.marking old.clock c.drawn.element ≡ true
drawn_now setup old seat number new c =
    let kept = in_filter_from (λ (x : PlainEntry). x.earliest == old.clock) c.entries c.drawn (in_from_get (ready old.clock c.entries) _ c.drawn c.drawn_is) in
    let now : c.drawn.earliest ≡ old.clock = eqb-true c.drawn.earliest old.clock kept.1 in
    subst (λ t. covered setup.net c.marking t c.drawn.element ≡ true) now ((c.enabled.exact c.drawn).0 (contains_from_in c.entries c.drawn kept.0)).is_covered

claim_of : (setup : PlainSetup) (old : PlainState) (seat number : ℕ) (new : PlainState) (c : MayClaim setup old seat number new) → IsClaimOf setup (new_claim setup.net seat old.clock c.drawn.element)
claim_of setup old seat number new c = record {
  seat_known = c.seat_known;
  needs_are = refl;
  marking = c.marking;
  was_covered = drawn_now setup old seat number new c;
  status_is = inl refl;
}

-- how the counts of a seat go on
balanced_by_a_claim : (h h' c c' k k' x : ℕ) → h' ≡ h + x → c' ≡ c + 0 → k' ≡ k + x → h + c ≡ k → h' + c' ≡ k'
balanced_by_a_claim h h' c c' k k' x a b d e = omega arith

balanced_by_a_completion : (h h' c c' k k' x : ℕ) → h' + x ≡ h → c' ≡ c + x → k' ≡ k + 0 → h + c ≡ k → h' + c' ≡ k'
balanced_by_a_completion h h' c c' k k' x a b d e = omega arith

few_more : (all made before number limit : ℕ) → all ≡ made + 1 → made ≡ before → number ≡ before → number < limit → all ≤ limit
few_more all made before number limit a b c d = omega arith

claim_reaches : (setup : PlainSetup) (journal : List PlainEvent) (old : PlainState) (seat number : ℕ) (new : PlainState) → IsReached setup journal old → MayClaim setup old seat number new → IsReached setup (journal ++ claim_made seat number ∷ []) new
claim_reaches setup journal old seat number new r c =
    let numbers_are = numbers_joined journal (claim_made seat number ∷ []) in
    let made : length (claim_numbers (journal ++ claim_made seat number ∷ [])) ≡ length (claim_numbers journal) + 1 = ap (λ (xs : List ℕ). length xs) numbers_are ∙ length-append (claim_numbers journal) (number ∷ []) in
    let before = r.uncut c.no_cut in
    subst (IsReached setup (journal ++ claim_made seat number ∷ [])) (sym c.new_is) (record {
      clock_goes_on = r.clock_goes_on;
      clock_in_time = r.clock_in_time;
      few_claims = few_more _ (length (claim_numbers journal)) (length old.claims) number setup.limits.steps made before.as_many c.next_number c.below_limit;
      numbers = subst (AreCounted 0) (sym numbers_are) (counted_more 0 (claim_numbers journal) number r.numbers (next c.next_number before.as_many));
      claims_are = each_appended (IsClaimOf setup) old.claims (claim ∷ []) r.claims_are (claim_of setup old seat number new c, tt);
      one_each = λ s. one s (seat == s) refl;
      uncut = λ none. record {
        as_many = made ∙ ap (λ (k : ℕ). k + 1) before.as_many ∙ sym joined;
        claimed_by = map_more (λ (k : PlainClaim). k.seat) old.claims claim ∙ ap (λ xs. xs ++ seat ∷ []) before.claimed_by ∙ sym (seats_joined journal (claim_made seat number ∷ []));
        balance =
            λ s. balanced_by_a_claim _ _ _ _ _ _ (cond (seat == s) 1 0) (count_last (is_held_by s) old.claims claim) (count_last (is_completion_by s) journal (claim_made seat number)) (count_last (is_claim_by s) journal (claim_made seat number))
            (before.balance s);
      };
      cut_off = λ cut is. absurd (some_is_not_none old.cut cut is c.no_cut);
    })
  where
    claim : PlainClaim
    claim = new_claim setup.net seat old.clock c.drawn.element

    joined : length (old.claims ++ claim ∷ []) ≡ length old.claims + 1
    joined = length-append old.claims (claim ∷ [])

    next : number ≡ length old.claims → length (claim_numbers journal) ≡ length old.claims → number ≡ 0 + length (claim_numbers journal)
    next is many = omega arith

    one : (s : ℕ) (b : Bool) → (seat == s) ≡ b → count_by (is_held_by s) (old.claims ++ claim ∷ []) ≤ 1
    one s true is =
        let counted : count_by (is_held_by s) (old.claims ++ claim ∷ []) ≡ count_by (is_held_by s) old.claims + 1 = count_last (is_held_by s) old.claims claim ∙ ap (λ b. count_by (is_held_by s) old.claims + cond b 1 0) is in
        let free : list_any (is_held_by s) old.claims ≡ false = subst (λ k. list_any (is_held_by k) old.claims ≡ false) (eqb-true seat s is) c.seat_free in
        let none : count_by (is_held_by s) old.claims ≡ 0 = count_none (is_held_by s) old.claims free in
        omega arith
    one s false is =
        let counted : count_by (is_held_by s) (old.claims ++ claim ∷ []) ≡ count_by (is_held_by s) old.claims + 0 = count_last (is_held_by s) old.claims claim ∙ ap (λ b. count_by (is_held_by s) old.claims + cond b 1 0) is in
        let before : count_by (is_held_by s) old.claims ≤ 1 = r.one_each s in
        omega arith

-- ---- a completion

-- what became of a claim when its outputs are known is not open
pub closed_status : (o : Outcome (List Made)) (status : Status) → status_after o ≡ Some status → is_open status ≡ false
closed_status (gives outputs) status is = let same : done_with outputs ≡ status = cc in let P : Status → Type 0 = λ s. is_open s ≡ false in subst P same refl
closed_status (faults fault) status is = let same : faulted_with fault ≡ status = cc in let P : Status → Type 0 = λ s. is_open s ≡ false in subst P same refl
closed_status no_meaning status is = cc

-- a completed claim is held by no seat, and was held by its own
count_completed : (s : ℕ) (claim : PlainClaim) (status : Status) (before later : List PlainClaim) → is_open status ≡ false
    → count_by (is_held_by s) (before ++ record claim { status = status } ∷ later) + cond (is_held_by s claim) 1 0 ≡ count_by (is_held_by s) (before ++ claim ∷ later)
count_completed s claim status before later closed =
    sums (cond (is_held_by s claim) 1 0) _ _ _ _ (count_split (is_held_by s) before (record claim { status = status }) later ∙ ap (λ b. count_by (is_held_by s) before + (cond (b && (claim.seat == s)) 1 0 + count_by (is_held_by s) later)) closed) (count_split (is_held_by s) before claim later)
  where
    sums : (x b l new old : ℕ) → new ≡ b + (0 + l) → old ≡ b + (x + l) → new + x ≡ old
    sums x b l new old first second = omega arith

-- a claim is completed after no cut, unless one for want of memory
pub completes_after : (setup : PlainSetup) (journal : List PlainEvent) (old : PlainState) (seat number : ℕ) (new : PlainState) → IsReached setup journal old → MayComplete setup old seat number new → OnlyGivenBack old.cut
completes_after setup journal old seat number new r c =
    given_back_where_open setup journal old number c.held_claim r c.claim_is (and_parts (is_open c.held_claim.status) (c.held_claim.seat == seat) c.held).0

-- a cut that stands, where none does unless for want of memory, is for that
pub is_for_memory : (stands : Option PlainCut) (cut : PlainCut) → OnlyGivenBack stands → stands ≡ Some cut → cut.cause ≡ wants_memory
is_for_memory stands cut only is = subst OnlyGivenBack is only

for_memory : (setup : PlainSetup) (state : PlainState) (cause : PlainEnd) → cause ≡ wants_memory → IsCutFor setup state cause
for_memory setup state cause is = subst (IsCutFor setup state) (sym is) tt

completion_reaches : (setup : PlainSetup) (journal : List PlainEvent) (old : PlainState) (seat number : ℕ) (new : PlainState) → IsReached setup journal old → MayComplete setup old seat number new → IsReached setup (journal ++ claim_completed seat number ∷ []) new
completion_reaches setup journal old seat number new r c =
    let numbers_are = numbers_joined journal (claim_completed seat number ∷ []) ∙ no_more (claim_numbers journal) in
    let seats_are = seats_joined journal (claim_completed seat number ∷ []) ∙ no_more (claim_seats journal) in
    subst (IsReached setup (journal ++ claim_completed seat number ∷ [])) (sym (c.new_is ∙ ap (λ cs. record old { claims = cs }) (parts.changed completed))) (record {
      clock_goes_on = r.clock_goes_on;
      clock_in_time = r.clock_in_time;
      few_claims = subst (λ (xs : List ℕ). length xs ≤ setup.limits.steps) (sym numbers_are) r.few_claims;
      numbers = subst (AreCounted 0) (sym numbers_are) r.numbers;
      claims_are = each_appended (IsClaimOf setup) parts.before (completed ∷ parts.later) each.0 (now, each.1.1);
      one_each = λ s. at_most _ (cond (is_held_by s c.held_claim) 1 0) _ (count s) (r.one_each s);
      uncut = λ none. let whole = r.uncut none in record {
        as_many = ap (λ (xs : List ℕ). length xs) numbers_are ∙ whole.as_many ∙ sym lengths;
        claimed_by = seats_of ∙ whole.claimed_by ∙ sym seats_are;
        balance =
            λ s. balanced_by_a_completion _ _ _ _ _ _ (cond (seat == s) 1 0) (ap (λ b. count_by (is_held_by s) (parts.before ++ completed ∷ parts.later) + cond b 1 0) (sym (held_by s)) ∙ count s)
            (count_last (is_completion_by s) journal (claim_completed seat number)) (count_last (is_claim_by s) journal (claim_completed seat number)) (whole.balance s);
      };
      cut_off = λ cut is. record {
        number_is = (r.cut_off cut is).number_is ∙ sym lengths;
        made_for = for_memory setup (record old { claims = parts.before ++ completed ∷ parts.later }) cut.cause (is_for_memory old.cut cut (completes_after setup journal old seat number new r c) is);
      };
    })
  where
    claim : PlainClaim
    claim = c.held_claim

    completed : PlainClaim
    completed = record c.held_claim { status = c.status }

    parts : IsSplit old.claims number c.held_claim
    parts = split_at old.claims number c.held_claim c.claim_is

    lengths : length (parts.before ++ completed ∷ parts.later) ≡ length old.claims
    lengths = length-append parts.before (completed ∷ parts.later) ∙ sym (length-append parts.before (claim ∷ parts.later)) ∙ ap (λ (cs : List PlainClaim). length cs) (sym parts.is)

    seats_joined_claims : (xs ys : List PlainClaim) → map (λ (k : PlainClaim). k.seat) (xs ++ ys) ≡ map (λ (k : PlainClaim). k.seat) xs ++ map (λ (k : PlainClaim). k.seat) ys
    seats_joined_claims [] ys = refl
    seats_joined_claims (x ∷ xs) ys = ap (λ zs. x.seat ∷ zs) (seats_joined_claims xs ys)

    seats_of : map (λ (k : PlainClaim). k.seat) (parts.before ++ completed ∷ parts.later) ≡ map (λ (k : PlainClaim). k.seat) old.claims
    seats_of = seats_joined_claims parts.before (completed ∷ parts.later) ∙ sym (seats_joined_claims parts.before (claim ∷ parts.later)) ∙ ap (map (λ (k : PlainClaim). k.seat)) (sym parts.is)

    each : AllByRecursion (IsClaimOf setup) parts.before × AllByRecursion (IsClaimOf setup) (c.held_claim ∷ parts.later)
    each = all_parts (IsClaimOf setup) parts.before (claim ∷ parts.later) (subst (AllByRecursion (IsClaimOf setup)) parts.is r.claims_are)

    now : IsClaimOf setup (record c.held_claim { status = c.status })
    now = record {
      seat_known = each.1.0.seat_known;
      needs_are = each.1.0.needs_are;
      marking = each.1.0.marking;
      was_covered = each.1.0.was_covered;
      status_is = inr c.status_is;
    }

    count : (s : ℕ) → count_by (is_held_by s) (parts.before ++ completed ∷ parts.later) + cond (is_held_by s c.held_claim) 1 0 ≡ count_by (is_held_by s) old.claims
    count s = count_completed s claim c.status parts.before parts.later (closed_status (outputs_of setup.net claim.element claim.time) c.status c.status_is) ∙ ap (count_by (is_held_by s)) (sym parts.is)

    at_most : (a x b : ℕ) → a + x ≡ b → b ≤ 1 → a ≤ 1
    at_most a x b e h = omega arith

    held_by : (s : ℕ) → is_held_by s c.held_claim ≡ (seat == s)
    held_by s =
        let held = and_parts (is_open c.held_claim.status) (c.held_claim.seat == seat) c.held in
        ap (λ b. b && (c.held_claim.seat == s)) held.0 ∙ ap (λ (k : ℕ). k == s) (eqb-true c.held_claim.seat seat held.1)

-- ---- a move

move_reaches : (setup : PlainSetup) (journal : List PlainEvent) (old : PlainState) (time : ℕ) (new : PlainState) → IsReached setup journal old → MayMove setup old time new → IsReached setup (journal ++ clock_moved time ∷ []) new
move_reaches setup journal old time new r c =
    let numbers_are = numbers_joined journal (clock_moved time ∷ []) ∙ no_more (claim_numbers journal) in
    let seats_are = seats_joined journal (clock_moved time ∷ []) ∙ no_more (claim_seats journal) in
    let before = r.uncut c.no_cut in
    subst (IsReached setup (journal ++ clock_moved time ∷ [])) (sym c.new_is) (record {
      clock_goes_on = later r.clock_goes_on c.least.not_before;
      clock_in_time = λ _. c.in_time;
      few_claims = subst (λ (xs : List ℕ). length xs ≤ setup.limits.steps) (sym numbers_are) r.few_claims;
      numbers = subst (AreCounted 0) (sym numbers_are) r.numbers;
      claims_are = r.claims_are;
      one_each = r.one_each;
      uncut = λ none. record {
        as_many = ap (λ (xs : List ℕ). length xs) numbers_are ∙ before.as_many;
        claimed_by = before.claimed_by ∙ sym seats_are;
        balance = λ s. unchanged _ _ _ _ _ (count_last (is_completion_by s) journal (clock_moved time)) (count_last (is_claim_by s) journal (clock_moved time)) (before.balance s);
      };
      cut_off = λ cut is. absurd (some_is_not_none old.cut cut is c.no_cut);
    })
  where
    later : {a b d : ℕ} → a ≤ b → b ≤ d → a ≤ d
    later {a} {b} {d} h k = omega arith

    unchanged : (h c c' k k' : ℕ) → c' ≡ c + 0 → k' ≡ k + 0 → h + c ≡ k → h + c' ≡ k'
    unchanged h c c' k k' a b d = omega arith

-- ---- a cut

-- what is left by a cut that is owed
left_by_a_cut : (setup : PlainSetup) (journal : List PlainEvent) (old : PlainState) (cut : PlainCut) → IsReached setup journal old → IsOwed setup old cut → IsCutOff setup (left_by setup old cut) cut
left_by_a_cut setup journal old cut r owed = record {
  number_is = owed.number_is ∙ sym (as_many_are_committed setup.monitors [] setup.start old.claims);
  made_for = for_it owed.cause;
}
  where
    settled : IsSettled setup (left_by setup old cut)
    settled = record { all_done = committed_are_done setup.monitors [] setup.start old.claims; all_committed = left_all setup old cut; none_owed = left_owes_none setup old cut owed }

    for_it : ((monitor : ℕ) × (stop_in setup old ≡ Some monitor) × (cut.cause ≡ stopped_by monitor)) ⊎ ((stop_in setup old ≡ None) × IsForFault old.claims (committed setup old) cut) → IsCutFor setup (left_by setup old cut) cut.cause
    for_it (inl (monitor, stop, cause)) = subst (IsCutFor setup (left_by setup old cut)) (sym cause) (settled, left_stop setup old cut ∙ stop)
    for_it (inr (goes_on, fault)) =
        let parts = split_at old.claims (committed setup old) fault.faulted fault.claim_is in
        let removed_is : IsClaimOf setup fault.faulted = (all_parts (IsClaimOf setup) parts.before (fault.faulted ∷ parts.later) (subst (AllByRecursion (IsClaimOf setup)) parts.is r.claims_are)).1.0 in
        subst (IsCutFor setup (left_by setup old cut)) (sym fault.cause_is) (settled, (fault.faulted, removed_is, fault.fault_is, refl, left_stop setup old cut ∙ goes_on))

-- What a cut that may be made leaves: its number is from that of the first claim that is not committed up to that of the next claim; as many
-- claims are committed as before, and no cut is owed.
pub record LeavesCommitted (setup : PlainSetup) (old : PlainState) (cut : PlainCut) : Type 0 where
  pub least : committed setup old ≤ cut.number
  pub most : cut.number ≤ length old.claims
  pub as_many : committed setup (left_after old cut) ≡ committed setup old
  pub none_owed : owed_cut setup (left_after old cut) ≡ None

pub cut_leaves_committed : (setup : PlainSetup) (journal : List PlainEvent) (old : PlainState) (cut : PlainCut) → IsReached setup journal old → IsDue setup old cut → LeavesCommitted setup old cut
cut_leaves_committed setup journal old cut r (inl owed) =
    let is = owed_is setup old cut (given_back_where_owed setup journal old cut r owed) owed in
    let at = is.number_is in
    let few = no_more_committed setup.monitors [] setup.start old.claims in
    let same : left_after old cut ≡ left_by setup old cut = ap (λ k. record old { claims = take k old.claims; cut = Some cut }) at in
    record {
      least = omega (arith, at);
      most = omega (arith, at, few);
      as_many = ap (committed setup) same ∙ left_all setup old cut ∙ as_many_are_committed setup.monitors [] setup.start old.claims;
      none_owed = ap (owed_cut setup) same ∙ left_owes_none setup old cut is;
    }
cut_leaves_committed setup journal old cut r (inr back) =
    let known = place_known old.claims cut.number back.claim back.claim_is in
    record {
      least = committed_stay setup old cut back;
      most = omega (arith, known);
      as_many = still_committed setup old cut back;
      none_owed = still_owes_none setup old cut back (given_back_where_open setup journal old cut.number back.claim r back.claim_is back.opened);
    }

cut_reaches : (setup : PlainSetup) (journal : List PlainEvent) (old : PlainState) (number : ℕ) (new : PlainState) → IsReached setup journal old → MayCut setup old number new → IsReached setup (journal ++ cut_made number ∷ []) new
cut_reaches setup journal old number new r c =
    let numbers_are = numbers_joined journal (cut_made number ∷ []) ∙ no_more (claim_numbers journal) in
    subst (IsReached setup (journal ++ cut_made number ∷ [])) (sym c.new_is) (record {
      clock_goes_on = r.clock_goes_on;
      clock_in_time = r.clock_in_time;
      few_claims = subst (λ (xs : List ℕ). length xs ≤ setup.limits.steps) (sym numbers_are) r.few_claims;
      numbers = subst (AreCounted 0) (sym numbers_are) r.numbers;
      claims_are = (all_parts (IsClaimOf setup) (take number old.claims) (drop number old.claims) whole).0;
      one_each = λ s. fewer (fewer_first (is_held_by s) number old.claims) (r.one_each s);
      uncut = λ none. absurd (some_is_not_none (Some c.cut) c.cut refl none);
      cut_off = λ cut is. subst (IsCutOff setup (record old { claims = take number old.claims; cut = Some c.cut })) (same_Some c.cut cut is) (off c.due);
    })
  where
    off : IsDue setup old c.cut → IsCutOff setup (record old { claims = take number old.claims; cut = Some c.cut }) c.cut
    off (inl owed) =
        let is = owed_is setup old c.cut (given_back_where_owed setup journal old c.cut r owed) owed in
        subst (λ k. IsCutOff setup (record old { claims = take k old.claims; cut = Some c.cut }) c.cut) (sym (c.number_is ∙ is.number_is)) (left_by_a_cut setup journal old c.cut r is)
    off (inr back) = subst (λ k. IsCutOff setup (record old { claims = take k old.claims; cut = Some c.cut }) c.cut) (sym c.number_is) (record {
      number_is = let known = place_known old.claims c.cut.number back.claim back.claim_is in sym (length-take-le c.cut.number old.claims (omega (arith, known)));
      made_for = for_memory setup (left_after old c.cut) c.cut.cause back.cause_is;
    })

    whole : AllByRecursion (IsClaimOf setup) (take number old.claims ++ drop number old.claims)
    whole = subst (AllByRecursion (IsClaimOf setup)) (sym (take-append-drop number old.claims)) r.claims_are

    fewer : {a b : ℕ} → a ≤ b → b ≤ 1 → a ≤ 1
    fewer {a} {b} h k = omega arith

-- ---- every journal

pub event_reaches : (setup : PlainSetup) (journal : List PlainEvent) (old : PlainState) (event : PlainEvent) (new : PlainState) → IsReached setup journal old → Happens setup old event new → IsReached setup (journal ++ event ∷ []) new
event_reaches setup journal old (claim_made seat number) new r happens = claim_reaches setup journal old seat number new r happens
event_reaches setup journal old (claim_completed seat number) new r happens = completion_reaches setup journal old seat number new r happens
event_reaches setup journal old (clock_moved time) new r happens = move_reaches setup journal old time new r happens
event_reaches setup journal old (cut_made number) new r happens = cut_reaches setup journal old number new r happens

events_reach : (setup : PlainSetup) (journal : List PlainEvent) (old : PlainState) (events : List PlainEvent) (state : PlainState) → IsReached setup journal old → Leads setup old events state → IsReached setup (journal ++ events) state
events_reach setup journal old [] state r leads = subst (IsReached setup (journal ++ [])) (sym leads) (subst (λ J. IsReached setup J old) (sym (no_more journal)) r)
events_reach setup journal old (event ∷ events) state r leads =
    subst (λ J. IsReached setup J state) (append_assoc journal (event ∷ []) events)
    (events_reach setup (journal ++ event ∷ []) leads.0 events state (event_reaches setup journal old event leads.0 r leads.1) leads.2)

-- what holds in each state that a journal allows, for any number of seats
pub every_state : (setup : PlainSetup) (journal : List PlainEvent) (state : PlainState) → IsState setup journal state → IsReached setup journal state
every_state setup journal state reached =
    let first : IsReached setup [] (first_state setup) = record {
      clock_goes_on = omega arith;
      clock_in_time = λ in_time. in_time;
      few_claims = omega arith;
      numbers = tt;
      claims_are = tt;
      one_each = λ s. at_most_one;
      uncut = λ none. record { as_many = refl; claimed_by = refl; balance = λ s. refl };
      cut_off = λ cut is. absurd (some_is_not_none None cut is refl);
    } in
    events_reach setup [] (first_state setup) journal state first reached
  where
    at_most_one : 0 ≤ 1
    at_most_one = omega arith

-- What may follow a cut: completions of claims ahead of its number, and cuts of no greater number.
abbrev pub MayFollow : PlainCut → PlainEvent → Type 0
MayFollow cut (claim_made seat number) = ⊥
MayFollow cut (claim_completed seat number) = number < cut.number
MayFollow cut (clock_moved time) = ⊥
MayFollow cut (cut_made number) = number ≤ cut.number

-- After a cut no claim is made, the clock does not move, and no claim from its number on is completed or given back; and after one that was owed
-- nothing happens.
pub follows_a_cut
    : (setup : PlainSetup) (journal : List PlainEvent) (old : PlainState) (cut : PlainCut) (event : PlainEvent) (new : PlainState)
    → IsReached setup journal old
    → old.cut ≡ Some cut
    → Happens setup old event new
    → MayFollow cut event × (cut.cause ≡ wants_memory)
follows_a_cut setup journal old cut (claim_made seat number) new r stands happens = absurd (no_claim_after_a_cut setup old cut seat number new stands happens)
follows_a_cut setup journal old cut (claim_completed seat number) new r stands happens =
    let known = place_known old.claims number happens.held_claim happens.claim_is in
    let all = (r.cut_off cut stands).number_is in
    (omega (arith, known, all), is_for_memory old.cut cut (completes_after setup journal old seat number new r happens) stands)
follows_a_cut setup journal old cut (clock_moved time) new r stands happens = absurd (some_is_not_none old.cut cut stands happens.no_cut)
follows_a_cut setup journal old cut (cut_made number) new r stands happens = by happens.due
  where
    all : cut.number ≡ length old.claims
    all = (r.cut_off cut stands).number_is

    at : number ≡ happens.cut.number
    at = happens.number_is

    by : IsDue setup old happens.cut → (number ≤ cut.number) × (cut.cause ≡ wants_memory)
    by (inl owed) =
        let few = no_more_committed setup.monitors [] setup.start old.claims in
        let is = owed_number setup old happens.cut owed in
        (omega (arith, few, is, at, all), is_for_memory old.cut cut (given_back_where_owed setup journal old happens.cut r owed) stands)
    by (inr back) =
        let known = place_known old.claims happens.cut.number back.claim back.claim_is in
        (omega (arith, known, at, all), is_for_memory old.cut cut (given_back_where_open setup journal old happens.cut.number back.claim r back.claim_is back.opened) stands)
