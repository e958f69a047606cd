-- Want of memory stays: a seat has seen a run, and in that the mark of a spent book stays.
use Rattle.std.proofs.Common.{◌≡◌, Bool, true, false, Option, Some, None, Ok, Err, refl, sym, ap, ◌∙◌}
use Rattle.std.specs.Option.{is_some, option_map}
use Rattle.cpn_runs.specs.FinishedViews.{setup_view}
use Rattle.cpn_runs.specs.declared.runs.Setup.{Setup}
use Rattle.cpn_book.specs.Seen.{Seen, IfSeen, SeesCall, ClaimsAt, CompletesAt, GivesBackAt, AdvancesAt, WantsMemoryAt}
use Rattle.cpn_seats.specs.declared.seats.Seat.{Seat}
use Rattle.cpn_seats.specs.declared.views.View.{View}
use Rattle.cpn_seats.specs.Seats.{numbers_of, number_of_seat, seen_of, spent_of}
use Rattle.cpn_seats.specs.SeenViews.{seen_by}
use Rattle.cpn_seats.specs.Turns.{journal_told}
use Rattle.cpn_seats.specs.WantsOfMemory.{WantsOfMemoryAreSeen, SpentStaysSeen, SplitSeatsSeeSpent, SpentWantsMemory, SpentClaims, SpentCompletions, SpentGivingBack, SpentMoves}

-- what a view tells of the mark
mark_of : (v : View) (seen : Seen) → seen_by v ≡ Some seen → seen.spent ≡ v.spent
mark_of v seen is = by_setup v.setup is
  where
    before : Setup → Seen
    before s = record { setup = setup_view s; journal = journal_told v.seen; spent = v.spent }

    not_seen : (t : Seen) → None ≡ Some t → ⊥
    not_seen t e = cc

    same_seen : (s t : Seen) → Some s ≡ Some t → s ≡ t
    same_seen s t e = cc

    by_setup : (o : Option Setup) → option_map before o ≡ Some seen → seen.spent ≡ v.spent
    by_setup None e = absurd (not_seen seen e)
    by_setup (Some s) e = sym (ap (λ (t : Seen). t.spent) (same_seen (before s) seen e))

-- what a seat has seen before and after a call: it has seen a run
record Saw (old new : Seat) (Fact : Seen → Seen → Type 0) : Type 0 where
  pub was : Seen
  pub was_is : was.spent ≡ spent_of old
  pub now : Seen
  pub now_is : now.spent ≡ spent_of new
  pub fact : Fact was now

saw : (old new : Seat) (Fact : Seen → Seen → Type 0) → IfSeen (seen_of old) (seen_of new) Fact → Saw old new Fact
saw old new Fact told = by_seen (seen_of old) refl told
  where
    has_seen : (o : Option Setup) (f : Setup → Seen) → is_some o ≡ true → option_map f o ≡ None → ⊥
    has_seen None f here none = cc
    has_seen (Some s) f here none = cc

    by_seen : (o : Option Seen) → seen_of old ≡ o → IfSeen o (seen_of new) Fact → Saw old new Fact
    by_seen None is t = absurd (has_seen old.token.me.0.setup _ old.at_rest.here is)
    by_seen (Some seen) is t = record { was = seen; was_is = mark_of old.token.me.0 seen is; now = t.0; now_is = mark_of new.token.me.0 t.0 t.1; fact = t.2 }

pub wants_of_memory_are_seen : WantsOfMemoryAreSeen
wants_of_memory_are_seen numbers old new told =
    let s = saw old new (WantsMemoryAt numbers) told in
    sym s.now_is ∙ s.fact.spent

pub spent_stays_seen : SpentStaysSeen
spent_stays_seen numbers own old new told spent =
    let s = saw old new (SeesCall numbers own) told in
    sym s.now_is ∙ s.fact.spent (s.was_is ∙ spent)

pub split_seats_see_spent : SplitSeatsSeeSpent
split_seats_see_spent seat other split spent = split.spent ∙ spent

not_both : (b : Bool) → b ≡ true → b ≡ false → ⊥
not_both b is isnt = cc

-- a call that has an answer only where the book wasn't spent
wants_memory : (A : Type 0) (Fact : Seat → A → Seen → Seen → Type 0) → ((seat : Seat) (answer : A) (old new : Seen) → Fact seat answer old new → old.spent ≡ false) → SpentWantsMemory A Fact
wants_memory A Fact unspent old new (Ok answer) told spent =
    let s = saw old new (Fact old answer) told in
    absurd (not_both s.was.spent (s.was_is ∙ spent) (unspent old answer s.was s.now s.fact))
wants_memory A Fact unspent old new (Err e) told spent = refl

pub spent_claims : SpentClaims
spent_claims = wants_memory _ (λ seat answer. ClaimsAt (numbers_of seat) (number_of_seat seat) answer) (λ seat answer old new fact. fact.unspent)

pub spent_completions : SpentCompletions
spent_completions done = wants_memory _ (λ seat answer. CompletesAt (numbers_of seat) (number_of_seat seat) done answer) (λ seat answer old new fact. fact.unspent)

pub spent_giving_back : SpentGivingBack
spent_giving_back ticket = wants_memory _ (λ seat answer. GivesBackAt (numbers_of seat) (number_of_seat seat) ticket answer) (λ seat answer old new fact. fact.unspent)

pub spent_moves : SpentMoves
spent_moves old new answer told spent =
    let s = saw old new (AdvancesAt (numbers_of old) answer) told in
    s.fact.spent (s.fact.call.spent (s.was_is ∙ spent))
