-- A run as monitors see it: its occurrences, with the marking after each. Source: own choice.
use Rattle.std.specs.Prelude.{ℕ, ◌≤◌, ◌==◌, Bool, List, [], ◌∷◌, ◌++◌, map, length}
use Rattle.std.specs.List.{filter}
use Rattle.cpn_definitions.specs.Legal.{TimedElement}
use Rattle.cpn_definitions.specs.Marking.{Marking, tokens_at}
use Rattle.cpn_definitions.specs.Meaning.{PlainBinding}

-- A marked occurrence: an occurrence with its time, and the marking after it.
pub record MarkedOccurrence : Type 0 where
  pub occurrence : TimedElement
  pub after : Marking

-- A measured run: the marking and the clock at its start, its occurrences in their order, each with the marking after it, and its last clock.
pub record MeasuredRun : Type 0 where
  pub start : Marking
  pub clock : ℕ
  pub occurrences : List MarkedOccurrence
  pub last_clock : ℕ

-- whether it is an occurrence of a transition
abbrev pub is_of : ℕ → MarkedOccurrence → Bool
is_of t marked = t == marked.occurrence.element.transition

-- those of a transition among occurrences
abbrev pub occurrences_of : ℕ → List MarkedOccurrence → List MarkedOccurrence
occurrences_of t occurrences = filter (is_of t) occurrences

-- the binding with which its transition occurs
abbrev pub binding_in : MarkedOccurrence → PlainBinding
binding_in marked = marked.occurrence.element.binding

-- the number of tokens on a place
abbrev pub size_on : ℕ → Marking → ℕ
size_on p m = length (tokens_at m p)

-- So many tokens from a time on.
pub record TimedSize : Type 0 where
  pub time : ℕ
  pub size : ℕ

-- the size of a place after an occurrence, from its time on
abbrev pub size_after : ℕ → MarkedOccurrence → TimedSize
size_after p marked = record { time = marked.occurrence.time; size = size_on p marked.after }

-- Sizes over time: the number of tokens on a place, from the start's clock on, and from each occurrence on.
abbrev pub sizes_over_time : ℕ → MeasuredRun → List TimedSize
sizes_over_time p run = record { time = run.clock; size = size_on p run.start } ∷ map (size_after p) run.occurrences

-- a run that has begun: nothing has occurred, and the clock is that of the start
abbrev pub begun : Marking → ℕ → MeasuredRun
begun start clock = record { start = start; clock = clock; occurrences = []; last_clock = clock }

-- one occurrence more: it is the last one, and the clock is at its time
abbrev pub with_occurrence : MarkedOccurrence → MeasuredRun → MeasuredRun
with_occurrence marked run = record run { occurrences = run.occurrences ++ marked ∷ []; last_clock = marked.occurrence.time }

-- the same run at another clock
abbrev pub at_clock : ℕ → MeasuredRun → MeasuredRun
at_clock clock run = record run { last_clock = clock }

-- the marking after the last of occurrences, or the one before them
abbrev pub marking_after : Marking → List MarkedOccurrence → Marking
marking_after m [] = m
marking_after m (marked ∷ occurrences) = marking_after marked.after occurrences

-- the marking to which a run has come
abbrev pub last_marking : MeasuredRun → Marking
last_marking run = marking_after run.start run.occurrences

-- the time of the last of occurrences, or the clock before them
abbrev pub last_time_of : ℕ → List MarkedOccurrence → ℕ
last_time_of clock [] = clock
last_time_of clock (marked ∷ occurrences) = last_time_of marked.occurrence.time occurrences

-- Timely: the clock of a run is not before its last occurrence, or its start where nothing has occurred.
abbrev pub IsTimely : MeasuredRun → Type 0
IsTimely run = last_time_of run.clock run.occurrences ≤ run.last_clock
