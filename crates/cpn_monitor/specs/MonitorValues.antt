-- What monitors measure of a run, as functions of its start, its occurrences with the marking after each, and its last clock.
-- Source: own choice.
use Rattle.std.specs.Prelude.{ℕ, ◌+◌, ◌*◌, ◌-◌, min, max, ℤ, pos, ◌+ℤ◌, Bool, true, false, List, [], ◌∷◌, map, length, Option, Some, None}
use Rattle.std.specs.List.{filter_map, fold, count_by, reduce}
use Rattle.std.specs.Int.{int_min, int_max}
use Rattle.std.specs.Option.{unwrap_or}
use Rattle.cpn_definitions.specs.Inscription.{PlainExpr, Functions}
use Rattle.cpn_definitions.specs.Meaning.{meaning}
use Rattle.cpn_definitions.specs.Outcome.{Outcome, gives, faults, no_meaning}
use Rattle.cpn_definitions.specs.Value.{PlainValue, unit, boolean, int, constant, text, tuple, bare, applied, list}
use Rattle.cpn_monitor.specs.Monitors.{PlainMonitor, PlainMeasure, counts, sizes, values, stops_by_count, stops_by_size}
use Rattle.cpn_monitor.specs.MeasuredRuns.{MarkedOccurrence, MeasuredRun, occurrences_of, binding_in, TimedSize, sizes_over_time}

-- What a monitor measured: how often; the least, the greatest and the last size, with the sum over time and the time up to which it counts; how many values with their sum,
-- the least and the greatest of them, and how many faults; how often, until it stopped; the last size.
pub data PlainMeasured : Type 0 where
  counted : ℕ → PlainMeasured
  sized : ℕ → ℕ → ℕ → ℕ → ℕ → PlainMeasured
  valued : ℕ → ℤ → Option ℤ → Option ℤ → ℕ → PlainMeasured
  counted_to_stop : ℕ → PlainMeasured
  sized_to_stop : ℕ → PlainMeasured

-- ---- occurrences

-- Count: how often a transition occurs.
abbrev pub count_of : ℕ → List MarkedOccurrence → ℕ
count_of t occurrences = length (occurrences_of t occurrences)

-- ---- sizes

abbrev pub size_list : ℕ → MeasuredRun → List ℕ
size_list p run = map (λ s. s.size) (sizes_over_time p run)

-- the least and the greatest of sizes
abbrev pub least_of : List ℕ → ℕ
least_of ns = unwrap_or (reduce min ns) 0

abbrev pub greatest_of : List ℕ → ℕ
greatest_of ns = unwrap_or (reduce max ns) 0

-- the last of them
abbrev pub last_of : List ℕ → ℕ
last_of [] = 0
last_of (n ∷ []) = n
last_of (n ∷ next ∷ more) = last_of (next ∷ more)

-- The sum over time: each size times the time that passed until the next one, and the last size times the time until the end.
abbrev pub sum_until : ℕ → List TimedSize → ℕ
sum_until end [] = 0
sum_until end (s ∷ []) = s.size * (end - s.time)
sum_until end (s ∷ next ∷ more) = s.size * (next.time - s.time) + sum_until end (next ∷ more)

-- ---- values

-- what an inscription means at an occurrence: under its binding, at its time
abbrev pub meaning_at : Functions → PlainExpr → MarkedOccurrence → Outcome PlainValue
meaning_at funs e marked = meaning funs e (binding_in marked) marked.occurrence.time

-- Outcomes: what an inscription means at each of the occurrences of a transition.
abbrev pub outcomes_of : Functions → ℕ → PlainExpr → List MarkedOccurrence → List (Outcome PlainValue)
outcomes_of funs t e occurrences = map (meaning_at funs e) (occurrences_of t occurrences)

-- the integer that an outcome gives, if it does
abbrev pub integer_given : Outcome PlainValue → Option ℤ
integer_given (gives (int z)) = Some z
integer_given (gives unit) = None
integer_given (gives (boolean b)) = None
integer_given (gives (constant k)) = None
integer_given (gives (text bytes)) = None
integer_given (gives (tuple vs)) = None
integer_given (gives (bare k)) = None
integer_given (gives (applied k v)) = None
integer_given (gives (list vs)) = None
integer_given (faults fault) = None
integer_given no_meaning = None

abbrev pub is_fault : Outcome PlainValue → Bool
is_fault (gives v) = false
is_fault (faults fault) = true
is_fault no_meaning = false

-- the integers among outcomes, and how many of these are faults
abbrev pub integers_in : List (Outcome PlainValue) → List ℤ
integers_in outcomes = filter_map integer_given outcomes

abbrev pub faults_in : List (Outcome PlainValue) → ℕ
faults_in outcomes = count_by is_fault outcomes

-- how many integers there are, their sum, the least and the greatest of them; and how many faults
abbrev pub values_among : List (Outcome PlainValue) → PlainMeasured
values_among outcomes =
    valued (length (integers_in outcomes)) (fold ◌+ℤ◌ (pos 0) (integers_in outcomes)) (reduce int_min (integers_in outcomes)) (reduce int_max (integers_in outcomes)) (faults_in outcomes)

-- ---- monitors

-- What a monitor measures of a run, where its inscription may call the functions.
abbrev pub measured : Functions → MeasuredRun → PlainMeasure → PlainMeasured
measured funs run (counts t) = counted (count_of t run.occurrences)
measured funs run (sizes p) = sized (least_of (size_list p run)) (greatest_of (size_list p run)) (last_of (size_list p run)) (sum_until run.last_clock (sizes_over_time p run)) run.last_clock
measured funs run (values t e) = values_among (outcomes_of funs t e run.occurrences)
measured funs run (stops_by_count t n) = counted_to_stop (count_of t run.occurrences)
measured funs run (stops_by_size p bound n) = sized_to_stop (last_of (size_list p run))

-- What the monitor of a name measured.
pub record PlainMonitorValue : Type 0 where
  pub name : List ℕ
  pub measured : PlainMeasured

-- The values of monitors, in their order, each under its name.
abbrev pub values_of : Functions → List PlainMonitor → MeasuredRun → List PlainMonitorValue
values_of funs monitors run = map (λ monitor. record { name = monitor.name; measured = measured funs run monitor.measure }) monitors
