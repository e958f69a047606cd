-- Runs one after another, each of which starts at an initial marking or where the one before it ended. Source: own choice.
use Rattle.std.specs.Prelude.{◌≡◌, ℕ, ◌-◌, ◌<◌, ◌≤◌, ◌⊎◌, List, [], ◌∷◌, length, sum_by}
use Rattle.cpn_definitions.specs.Bounds.{IsBounded}
use Rattle.cpn_definitions.specs.Marking.{Marking}
use Rattle.cpn_definitions.specs.Net.{Coloured}
use Rattle.cpn_definitions.specs.Sound.{IsSound, IsMarking}
use Rattle.cpn_definitions.specs.Terms.{most_tokens}
use Rattle.cpn_definitions.specs.Times.{last_time}
use Rattle.cpn_monitor.specs.Fitting.{FitNet}
use Rattle.cpn_runs.specs.Bounds.{most_steps}
use Rattle.cpn_runs.specs.Playable.{IsPlayable}
use Rattle.cpn_runs.specs.Run.{PlainFinished, IsRun}
use Rattle.cpn_runs.specs.State.{PlainSetup}

-- A phase: a setup, and its run.
pub record PlainPhase : Type 0 where
  pub setup : PlainSetup
  pub run : PlainFinished

-- how many occurrences phases had together
abbrev pub occurrences_of : List PlainPhase → ℕ
occurrences_of phases = sum_by (λ phase. length phase.run.occurrences) phases

-- An initial start: a marking of the places with at most 65,536 tokens on each, at clock 0. Each phase may have one of its own.
pub record IsInitialStart (places : List Coloured) (start : Marking) (clock : ℕ) : Type 0 where
  pub marking : IsMarking places start
  pub few : IsBounded most_tokens start
  pub clock_is : clock ≡ 0

-- the marking and the clock at which the latest phase ended
abbrev pub IsWhereLatestEnded : List PlainPhase → Marking → ℕ → Type 0
IsWhereLatestEnded [] start clock = ⊥
IsWhereLatestEnded (latest ∷ earlier) start clock = (start ≡ latest.run.marking) × (clock ≡ latest.run.clock)

-- Where the next phase may start after earlier ones, the latest of them first: at an initial start, or where the latest ended.
abbrev pub IsNextStart : List Coloured → List PlainPhase → Marking → ℕ → Type 0
IsNextStart places earlier start clock = IsInitialStart places start clock ⊎ IsWhereLatestEnded earlier start clock

-- A setup of the next phase: a sound net with these places, whatever its guards are; a next start; the last time of all phases; no more
-- claims than 1,000,000 less the earlier occurrences; monitors that fit the net; and 1 to 64 seats.
pub record IsNextSetup (places : List Coloured) (until : ℕ) (earlier : List PlainPhase) (setup : PlainSetup) : Type 0 where
  pub sound : IsSound setup.net
  pub places_are : setup.net.places ≡ places
  pub start : IsNextStart places earlier setup.start setup.clock
  pub until_is : setup.limits.until ≡ until
  pub steps : setup.limits.steps ≤ most_steps - occurrences_of earlier
  pub monitors : FitNet setup.net setup.functions setup.monitors
  pub some_seat : 0 < setup.limits.seats
  pub few_seats : setup.limits.seats ≤ 64

-- A phase after earlier ones: a run of a setup of the next phase.
pub record IsPhase (places : List Coloured) (until : ℕ) (earlier : List PlainPhase) (phase : PlainPhase) : Type 0 where
  pub setup : IsNextSetup places until earlier phase.setup
  pub is_run : IsRun phase.setup phase.run

-- phases one after another, the latest first
abbrev pub ArePhases : List Coloured → ℕ → List PlainPhase → Type 0
ArePhases places until [] = Unit {0}
ArePhases places until (latest ∷ earlier) = IsPhase places until earlier latest × ArePhases places until earlier

-- The law of phases: after any phases, up to a last time of at most 2^62, a run may start from each setup of the next.
abbrev pub PhasesGoOn : Type 0
PhasesGoOn = (places : List Coloured) (until : ℕ) (earlier : List PlainPhase) (setup : PlainSetup) → until ≤ last_time → ArePhases places until earlier → IsNextSetup places until earlier setup → IsPlayable setup
