-- How a run goes on that is taken to its end alone. Source: own choice.
use Rattle.std.specs.Prelude.{◌≡◌, ℕ, suc, ◌≤◌, List, [], ◌∷◌, ◌++◌}
use Rattle.cpn_runs.specs.State.{PlainSetup, PlainState, IsState, PlainEvent, claim_made, claim_completed, clock_moved, cut_made}
use Rattle.cpn_runs.specs.GivingBack.{NoneIsGivenBack}

-- Completions of claims by rising numbers, from a least one to below a limit; a cut may stand between them.
abbrev pub AreCompletions : ℕ → ℕ → List PlainEvent → Type 0
AreCompletions least limit [] = least ≤ limit
AreCompletions least limit (claim_completed seat number ∷ events) = (least ≤ number) × AreCompletions (suc number) limit events
AreCompletions least limit (cut_made number ∷ events) = AreCompletions least limit events
AreCompletions least limit (claim_made seat number ∷ events) = ⊥
AreCompletions least limit (clock_moved time ∷ events) = ⊥

-- Rounds of seat 0: behind each claim stands its completion; between them the clock moves, and a cut may stand.
abbrev pub AreRounds : List PlainEvent → Type 0
AreRounds [] = Unit {0}
AreRounds (claim_made seat number ∷ []) = ⊥
AreRounds (claim_made seat number ∷ event ∷ events) = (seat ≡ 0) × (event ≡ claim_completed 0 number) × AreRounds events
AreRounds (claim_completed seat number ∷ events) = ⊥
AreRounds (clock_moved time ∷ events) = AreRounds events
AreRounds (cut_made number ∷ events) = AreRounds events

-- The run goes on alone: first the open claims are completed in order of number, then seat 0 plays rounds.
pub record GoesOnAlone (events : List PlainEvent) : Type 0 where
  pub completions : List PlainEvent
  pub rounds : List PlainEvent
  pub are : events ≡ completions ++ rounds
  pub limit : ℕ
  pub in_order : AreCompletions 0 limit completions
  pub alone : AreRounds rounds

-- None of the events by which a journal goes on gives a claim back.
abbrev pub GivesNoneBack : PlainSetup → List PlainEvent → List PlainEvent → Type 0
GivesNoneBack setup journal more = (state : PlainState) → IsState setup journal state → NoneIsGivenBack setup state more

-- How a journal goes on alone to a whole one: by the completions of the open claims, then by rounds of seat 0, and no claim is given back.
pub record GoesOnAloneTo (setup : PlainSetup) (journal whole : List PlainEvent) : Type 0 where
  pub more : List PlainEvent
  pub whole_is : whole ≡ journal ++ more
  pub alone : GoesOnAlone more
  pub gives_none_back : GivesNoneBack setup journal more
