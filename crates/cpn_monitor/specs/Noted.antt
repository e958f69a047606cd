-- What one occurrence more adds to what a monitor measured, and what a later clock does, as the code goes about it: what it comes to is `measured`.
-- Source: own choice.
use Rattle.std.specs.Prelude.{◌≡◌, ℕ, zero, suc, ◌==◌, ◌&&◌, List, [], ◌∷◌, ◌+◌, ◌*◌, ◌-◌, ◌<◌, ◌≤◌, ◌^◌, length, min, max, ℤ, ◌+ℤ◌, Bool, true, false, if◌then◌else◌, Option, Some, None, MatchOption, Contains, slice_get}
use Rattle.std.specs.List.{AllByRecursion}
use Rattle.std.specs.Int.{int_min, int_max}
use Rattle.cpn_definitions.specs.Inscription.{Functions}
use Rattle.cpn_definitions.specs.Marking.{Marking}
use Rattle.cpn_definitions.specs.Times.{last_time}
use Rattle.cpn_monitor.specs.Fitting.{MeansInteger, most_told}
use Rattle.cpn_monitor.specs.Monitors.{PlainMonitor, PlainMeasure, counts, sizes, values, stops_by_count, stops_by_size}
use Rattle.cpn_monitor.specs.Stops.{is_within}
use Rattle.cpn_monitor.specs.MeasuredRuns.{MarkedOccurrence, is_of, size_on}
use Rattle.cpn_monitor.specs.MonitorValues.{PlainMonitorValue, PlainMeasured, counted, sized, valued, counted_to_stop, sized_to_stop, integer_given, is_fault, meaning_at}

-- one, where it is so
abbrev pub one_if : Bool → ℕ
one_if b = if b then 1 else 0

-- the least and the greatest with one integer more
abbrev pub least_with : ℤ → Option ℤ → Option ℤ
least_with z None = Some z
least_with z (Some y) = Some (int_min y z)

abbrev pub greatest_with : ℤ → Option ℤ → Option ℤ
greatest_with z None = Some z
greatest_with z (Some y) = Some (int_max y z)

-- the values with one integer more, and with none
abbrev pub with_integer : Option ℤ → PlainMeasured → PlainMeasured
with_integer (Some z) (valued count sum least greatest faulted) = valued (count + 1) (sum +ℤ z) (least_with z least) (greatest_with z greatest) faulted
with_integer (Some z) m = m
with_integer None m = m

-- the values with a fault more, where there is one
abbrev pub with_fault : Bool → PlainMeasured → PlainMeasured
with_fault fault (valued count sum least greatest faulted) = valued count sum least greatest (faulted + one_if fault)
with_fault fault m = m

-- an inscription's value more, or its fault where it has none
abbrev pub with_value : Option ℤ → PlainMeasured → PlainMeasured
with_value (Some z) m = with_integer (Some z) m
with_value None m = with_fault true m

-- Later: the last size stands until a later clock; nothing else depends on the clock.
abbrev pub measured_until : ℕ → PlainMeasured → PlainMeasured
measured_until clock (sized least greatest last sum until) = sized least greatest last (sum + last * (clock - until)) clock
measured_until clock (counted n) = counted n
measured_until clock (valued count sum least greatest faulted) = valued count sum least greatest faulted
measured_until clock (counted_to_stop n) = counted_to_stop n
measured_until clock (sized_to_stop last) = sized_to_stop last

-- a size more, from now on
abbrev pub with_size : ℕ → PlainMeasured → PlainMeasured
with_size size (sized least greatest last sum until) = sized (min least size) (max greatest size) size sum until
with_size size m = m

-- the occurrences with as many more
abbrev pub with_more : ℕ → PlainMeasured → PlainMeasured
with_more more (counted n) = counted (n + more)
with_more more (counted_to_stop n) = counted_to_stop (n + more)
with_more more m = m

-- Noted: what a monitor has measured with one occurrence more.
abbrev pub noted : Functions → MarkedOccurrence → PlainMeasure → PlainMeasured → PlainMeasured
noted funs marked (counts t) m = with_more (one_if (is_of t marked)) m
noted funs marked (sizes p) m = with_size (size_on p marked.after) (measured_until marked.occurrence.time m)
noted funs marked (values t e) m = if is_of t marked then with_fault (is_fault (meaning_at funs e marked)) (with_integer (integer_given (meaning_at funs e marked)) m) else m
noted funs marked (stops_by_count t n) m = with_more (one_if (is_of t marked)) m
noted funs marked (stops_by_size p bound n) m = sized_to_stop (size_on p marked.after)

-- What was measured is a number of occurrences, fewer than the most; sizes, up to a time; so many values and faults, fewer than the most.
abbrev pub IsCounted : PlainMeasured → Type 0
IsCounted (counted n) = n < most_told
IsCounted m = ⊥

abbrev pub IsCountedToStop : PlainMeasured → Type 0
IsCountedToStop (counted_to_stop n) = n < most_told
IsCountedToStop m = ⊥

abbrev pub IsSizedUpTo : ℕ → PlainMeasured → Type 0
IsSizedUpTo time (sized least greatest last sum until) = until ≤ time
IsSizedUpTo time m = ⊥

-- sizes count up to no later time than this; nothing else does
abbrev pub IsUpTo : ℕ → PlainMeasured → Type 0
IsUpTo time (sized least greatest last sum until) = until ≤ time
IsUpTo time m = Unit {0}

abbrev pub IsValued : PlainMeasured → Type 0
IsValued (valued count sum least greatest faulted) = count + faulted < most_told
IsValued m = ⊥

-- a place of a marking with fewer than 2^48 tokens
pub record IsSeen (p : ℕ) (m : Marking) : Type 0 where
  pub there : p < length m
  pub few : size_on p m < 2 ^ 48

-- An occurrence may be noted by a monitor, after what it has measured, which is of its kind: the place at which it looks is there, or its
-- inscription means an integer or a fault.
abbrev pub MayBeNoted : Functions → MarkedOccurrence → PlainMeasure → PlainMeasured → Type 0
MayBeNoted funs marked (counts t) m = IsCounted m
MayBeNoted funs marked (sizes p) m = IsSizedUpTo marked.occurrence.time m × (marked.occurrence.time ≤ last_time) × IsSeen p marked.after
MayBeNoted funs marked (values t e) m = IsValued m × (marked.occurrence.time ≤ last_time) × (is_of t marked ≡ true → MeansInteger (meaning_at funs e marked))
MayBeNoted funs marked (stops_by_count t n) m = IsCountedToStop m
MayBeNoted funs marked (stops_by_size p bound n) m = IsSeen p marked.after

-- the place at which a monitor looks in a marking is there
abbrev pub MayLook : Marking → PlainMeasure → Type 0
MayLook m (counts t) = Unit {0}
MayLook m (sizes p) = IsSeen p m
MayLook m (values t e) = Unit {0}
MayLook m (stops_by_count t n) = Unit {0}
MayLook m (stops_by_size p bound n) = IsSeen p m

-- ---- some of the monitors

-- what the monitor of a number has measured
pub record PlainNoted : Type 0 where
  pub number : ℕ
  pub measured : PlainMeasured

-- The monitor of a number has a value, and may note the occurrence.
pub record MayNoteAt (funs : Functions) (marked : MarkedOccurrence) (monitors : List PlainMonitor) (vs : List PlainMonitorValue) (number : ℕ)
    : Type 0 where
  pub monitor : PlainMonitor
  pub monitor_is : slice_get monitors number ≡ Some monitor
  pub value : PlainMonitorValue
  pub value_is : slice_get vs number ≡ Some value
  pub may : MayBeNoted funs marked monitor.measure value.measured

-- It is what the monitor of its number has measured with the occurrence.
pub record IsNoted (funs : Functions) (marked : MarkedOccurrence) (monitors : List PlainMonitor) (vs : List PlainMonitorValue) (x : PlainNoted)
    : Type 0 where
  pub monitor : PlainMonitor
  pub monitor_is : slice_get monitors x.number ≡ Some monitor
  pub value : PlainMonitorValue
  pub value_is : slice_get vs x.number ≡ Some value
  pub measured_is : x.measured ≡ noted funs marked monitor.measure value.measured

-- the values, where the one of a number has measured this
abbrev pub with_measured : ℕ → PlainMeasured → List PlainMonitorValue → List PlainMonitorValue
with_measured number m [] = []
with_measured zero m (v ∷ vs) = record v { measured = m } ∷ vs
with_measured (suc number) m (v ∷ vs) = v ∷ with_measured number m vs

abbrev pub with_noted : List PlainNoted → List PlainMonitorValue → List PlainMonitorValue
with_noted [] vs = vs
with_noted (x ∷ xs) vs = with_noted xs (with_measured x.number x.measured vs)

-- ---- stops

-- whether a monitor that has measured so much, with the occurrence, stops the run after it
abbrev pub stops_at : MarkedOccurrence → PlainMeasure → PlainMeasured → Bool
stops_at marked (stops_by_count t n) (counted_to_stop k) = is_of t marked && (k == n)
stops_at marked (stops_by_size p bound n) (sized_to_stop last) = is_within bound n last
stops_at marked measure m = false

-- whether the monitor of a number does
abbrev pub stops_so : MarkedOccurrence → Option PlainMonitor → Option PlainMonitorValue → Bool
stops_so marked (Some monitor) (Some v) = stops_at marked monitor.measure v.measured
stops_so marked monitor v = false

abbrev pub stops_number : MarkedOccurrence → List PlainMonitor → List PlainMonitorValue → ℕ → Bool
stops_number marked monitors vs number = stops_so marked (slice_get monitors number) (slice_get vs number)

-- the least of some numbers that passes a test; none where none of them does
abbrev pub IsLeastOf : (ℕ → Bool) → List ℕ → Option ℕ → Type 0
IsLeastOf passes numbers found =
    MatchOption found (AllByRecursion (λ k. passes k ≡ false) numbers)
    (λ least. Contains numbers least × (passes least ≡ true) × AllByRecursion (λ k. passes k ≡ true → least ≤ k) numbers)

-- the lesser of two, of which the first may be none
abbrev pub IsLesser : Option ℕ → ℕ → ℕ → Type 0
IsLesser None k least = least ≡ k
IsLesser (Some first) k least = least ≡ min first k
