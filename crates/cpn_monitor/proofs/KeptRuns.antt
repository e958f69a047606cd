-- What is kept of a run up to when an occurrence last concerned a monitor goes on: with an occurrence that concerns it, with one that does not, and at a later clock.
use Rattle.std.proofs.Common.{◌≡◌, ◌∙◌, refl, sym, ap, subst, add_assoc, add-zero, ℕ, ◌+◌, ◌*◌, ◌-◌, ◌≤◌, ◌==◌, min, max, Bool, true, false, List, [], ◌∷◌, ◌++◌, map, arith, if◌then◌else◌}
use Rattle.std.specs.List.{fold}
use Rattle.std.proofs.lemmas.Bool.Decides.{nat_tests}
use Rattle.std.proofs.lemmas.List.{append-nil}
use Rattle.std.proofs.Math.Nat.{mul-add, mul-zero}
use Rattle.cpn_definitions.specs.Inscription.{Functions}
use Rattle.cpn_definitions.specs.Marking.{Marking}
use Rattle.cpn_definitions.specs.Net.{PlainNet}
use Rattle.cpn_monitor.specs.Fitting.{IsNext}
use Rattle.cpn_monitor.specs.Looks.{PlainLook, at_transition, at_place, looks_at, is_beside, IsConcerned}
use Rattle.cpn_monitor.specs.MeasuredRuns.{MarkedOccurrence, MeasuredRun, is_of, size_on, size_after, sizes_over_time, marking_after, with_occurrence, at_clock, IsTimely}
use Rattle.cpn_monitor.specs.Monitors.{PlainMeasure, counts, sizes, values, stops_by_count, stops_by_size}
use Rattle.cpn_monitor.specs.MonitorValues.{PlainMeasured, counted, sized, valued, counted_to_stop, sized_to_stop, count_of, size_list, least_of, greatest_of, last_of, sum_until, values_among, outcomes_of, meaning_at, measured}
use Rattle.cpn_monitor.specs.Noted.{measured_until, with_size, noted, IsUpTo}
use Rattle.cpn_monitor.proofs.NotedRuns.{count_more, outcomes_more, last_with, measured_more, measured_later}

-- ---- up to a time

-- up to a time, and then up to a later one
until_twice : (s t : ℕ) (m : PlainMeasured) → IsUpTo s m → s ≤ t → measured_until t (measured_until s m) ≡ measured_until t m
until_twice s t (counted n) up to = refl
until_twice s t (sized least greatest last sum until) up to =
    let apart : (s - until) + (t - s) ≡ t - until = omega (arith, up, to) in
    ap (λ n. sized least greatest last n t) (add_assoc sum (last * (s - until)) (last * (t - s)) ∙ ap (λ n. sum + n) (sym (mul-add last (s - until) (t - s)) ∙ ap (λ n. last * n) apart))
until_twice s t (valued count sum least greatest faulted) up to = refl
until_twice s t (counted_to_stop n) up to = refl
until_twice s t (sized_to_stop last) up to = refl

pub later_up_to : (s t : ℕ) (m : PlainMeasured) → IsUpTo s m → s ≤ t → IsUpTo t m
later_up_to s t (counted n) up to = tt
later_up_to s t (sized least greatest last sum until) up to = omega (arith, up, to)
later_up_to s t (valued count sum least greatest faulted) up to = tt
later_up_to s t (counted_to_stop n) up to = tt
later_up_to s t (sized_to_stop last) up to = tt

-- what is measured of a run counts up to its clock
measured_up_to : (funs : Functions) (run : MeasuredRun) (measure : PlainMeasure) → IsUpTo run.last_clock (measured funs run measure)
measured_up_to funs run (counts t) = tt
measured_up_to funs run (sizes p) = omega arith
measured_up_to funs run (values t e) = tt
measured_up_to funs run (stops_by_count t n) = tt
measured_up_to funs run (stops_by_size p bound n) = tt

until_its_clock : (funs : Functions) (run : MeasuredRun) (measure : PlainMeasure) → measured_until run.last_clock (measured funs run measure) ≡ measured funs run measure
until_its_clock funs run (counts t) = refl
until_its_clock funs run (sizes p) =
    let none : run.last_clock - run.last_clock ≡ 0 = omega arith in
    let last : ℕ = last_of (size_list p run) in
    ap (λ n. sized (least_of (size_list p run)) (greatest_of (size_list p run)) last n run.last_clock) (ap (λ n. sum_until run.last_clock (sizes_over_time p run) + last * n) none ∙ omega (arith, mul-zero last))
until_its_clock funs run (values t e) = refl
until_its_clock funs run (stops_by_count t n) = refl
until_its_clock funs run (stops_by_size p bound n) = refl

-- ---- what is kept

-- Kept: up to the clock of the run, it is what the monitor measures of it.
pub record IsKept (funs : Functions) (run : MeasuredRun) (measure : PlainMeasure) (m : PlainMeasured) : Type 0 where
  pub up_to : IsUpTo run.last_clock m
  pub is : measured_until run.last_clock m ≡ measured funs run measure

-- what is measured is kept
pub measured_is_kept : (funs : Functions) (run : MeasuredRun) (measure : PlainMeasure) (m : PlainMeasured) → m ≡ measured funs run measure → IsKept funs run measure m
measured_is_kept funs run measure m is = subst (IsKept funs run measure) (sym is) (record { up_to = measured_up_to funs run measure; is = until_its_clock funs run measure })

-- sizes are not what is measured
abbrev IsNoSize : PlainMeasured → Type 0
IsNoSize (counted n) = Unit {0}
IsNoSize (sized least greatest last sum until) = ⊥
IsNoSize (valued count sum least greatest faulted) = Unit {0}
IsNoSize (counted_to_stop n) = Unit {0}
IsNoSize (sized_to_stop last) = Unit {0}

-- what is no size is the same at each clock
pub no_size : (clock : ℕ) (m x : PlainMeasured) → measured_until clock m ≡ x → IsNoSize x → m ≡ x
no_size clock (counted n) x is none = is
no_size clock (sized least greatest last sum until) x is none = absurd (subst IsNoSize (sym is) none)
no_size clock (valued count sum least greatest faulted) x is none = is
no_size clock (counted_to_stop n) x is none = is
no_size clock (sized_to_stop last) x is none = is

-- at a later clock
pub kept_later : (funs : Functions) (run : MeasuredRun) (clock : ℕ) (measure : PlainMeasure) (m : PlainMeasured) → IsTimely run → run.last_clock ≤ clock → IsKept funs run measure m → IsKept funs (at_clock clock run) measure m
kept_later funs run clock measure m timely to kept = record {
  up_to = later_up_to run.last_clock clock m kept.up_to to;
  is = sym (until_twice run.last_clock clock m kept.up_to to) ∙ ap (measured_until clock) kept.is ∙ sym (measured_later funs run clock measure timely to);
}

-- ---- an occurrence that concerns the monitor

module _ (funs : Functions) (run : MeasuredRun) (marked : MarkedOccurrence) (timely : IsTimely run) (to : run.last_clock ≤ marked.occurrence.time) where
  abbrev time : ℕ
  time = marked.occurrence.time

  by_no_size : (measure : PlainMeasure) (m : PlainMeasured) → IsKept funs run measure m → IsNoSize (measured funs run measure) → noted funs marked measure m ≡ measured funs (with_occurrence marked run) measure
  by_no_size measure m kept none = ap (noted funs marked measure) (no_size run.last_clock m (measured funs run measure) kept.is none) ∙ sym (measured_more funs run marked measure timely to)

  pub noted_kept : (measure : PlainMeasure) (m : PlainMeasured) → IsKept funs run measure m → noted funs marked measure m ≡ measured funs (with_occurrence marked run) measure
  noted_kept (counts t) m kept = by_no_size (counts t) m kept tt
  noted_kept (sizes p) m kept =
      ap (with_size (size_on p marked.after)) (sym (until_twice run.last_clock time m kept.up_to to) ∙ ap (measured_until time) kept.is)
      ∙ sym (measured_more funs run marked (sizes p) timely to)
  noted_kept (values t e) m kept = by_no_size (values t e) m kept tt
  noted_kept (stops_by_count t n) m kept = by_no_size (stops_by_count t n) m kept tt
  noted_kept (stops_by_size p bound n) m kept = by_no_size (stops_by_size p bound n) m kept tt

-- ---- one that does not

-- the last of sizes is among their bounds
least_below : (n : ℕ) (ns : List ℕ) → fold min n ns ≤ last_of (n ∷ ns)
least_below n [] = omega arith
least_below n (k ∷ []) = omega arith
least_below n (k ∷ next ∷ more) = least_below (min n k) (next ∷ more)

greatest_above : (n : ℕ) (ns : List ℕ) → last_of (n ∷ ns) ≤ fold max n ns
greatest_above n [] = omega arith
greatest_above n (k ∷ []) = omega arith
greatest_above n (k ∷ next ∷ more) = greatest_above (max n k) (next ∷ more)

-- the last of the sizes of a place is its size in the marking to which the run has come
last_size : (p : ℕ) (m : Marking) (occurrences : List MarkedOccurrence) → last_of (size_on p m ∷ map (λ s. s.size) (map (size_after p) occurrences)) ≡ size_on p (marking_after m occurrences)
last_size p m [] = refl
last_size p m (marked ∷ occurrences) = last_size p marked.after occurrences

-- Elsewhere: the occurrence does not concern what the monitor looks at.
abbrev IsElsewhere : PlainNet → MarkedOccurrence → PlainLook → Type 0
IsElsewhere n marked look = IsConcerned n marked.occurrence.element.transition look → ⊥

pub other_transition : (t : ℕ) (marked : MarkedOccurrence) → (t ≡ marked.occurrence.element.transition → ⊥) → is_of t marked ≡ false
other_transition t marked other = apart t marked.occurrence.element.transition other
  where
    apart : (a b : ℕ) → (a ≡ b → ⊥) → (a == b) ≡ false
    apart a b other = grind (arith, nat_tests)

pub not_beside : (n : PlainNet) (t p : ℕ) → (is_beside n t p ≡ true → ⊥) → is_beside n t p ≡ false
not_beside n t p other = by (is_beside n t p) refl
  where
    by : (b : Bool) → is_beside n t p ≡ b → is_beside n t p ≡ false
    by true is = absurd (other is)
    by false is = is

module _ (n : PlainNet) (funs : Functions) (run : MeasuredRun) (marked : MarkedOccurrence) (timely : IsTimely run) (next : IsNext n run marked) where
  same_size : (p : ℕ) → IsElsewhere n marked (at_place p) → size_on p marked.after ≡ last_of (size_list p run)
  same_size p other = next.elsewhere p (not_beside n marked.occurrence.element.transition p other) ∙ sym (last_size p run.start run.occurrences)

  no_more : (t : ℕ) → IsElsewhere n marked (at_transition t) → count_of t (run.occurrences ++ marked ∷ []) ≡ count_of t run.occurrences
  no_more t other = count_more t run.occurrences marked ∙ ap (λ b. count_of t run.occurrences + (if b then 1 else 0)) (other_transition t marked other) ∙ add-zero (count_of t run.occurrences)

  -- what is measured of such a run is what was measured, up to the time of the occurrence
  skipped : (measure : PlainMeasure) → IsElsewhere n marked (looks_at measure) → measured funs (with_occurrence marked run) measure ≡ measured_until marked.occurrence.time (measured funs run measure)
  skipped (counts t) other = ap counted (no_more t other)
  skipped (sizes p) other =
      measured_more funs run marked (sizes p) timely next.in_order
      ∙ as_before (least_of (size_list p run)) (greatest_of (size_list p run)) (last_of (size_list p run)) (sum_until run.last_clock (sizes_over_time p run) + last_of (size_list p run) * (marked.occurrence.time - run.last_clock)) marked.occurrence.time (size_on p marked.after) (same_size p other)
      (least_below (size_on p run.start) (map (λ s. s.size) (map (size_after p) run.occurrences))) (greatest_above (size_on p run.start) (map (λ s. s.size) (map (size_after p) run.occurrences)))
    where
      as_before : (least greatest last sum until size : ℕ) → size ≡ last → least ≤ last → last ≤ greatest → with_size size (sized least greatest last sum until) ≡ sized least greatest last sum until
      as_before least greatest last sum until size is low high =
          let down : min least size ≡ least = omega (arith, is, low) in
          let up : max greatest size ≡ greatest = omega (arith, is, high) in
          cc
  skipped (values t e) other =
      ap values_among (outcomes_more funs t e run.occurrences marked ∙ ap (λ b. outcomes_of funs t e run.occurrences ++ (if b then meaning_at funs e marked ∷ [] else [])) (other_transition t marked other) ∙ append-nil (outcomes_of funs t e run.occurrences))
  skipped (stops_by_count t k) other = ap counted_to_stop (no_more t other)
  skipped (stops_by_size p bound k) other = ap sized_to_stop (last_with p run marked ∙ same_size p other)

  pub kept_elsewhere : (measure : PlainMeasure) (m : PlainMeasured) → IsElsewhere n marked (looks_at measure) → IsKept funs run measure m → IsKept funs (with_occurrence marked run) measure m
  kept_elsewhere measure m other kept = record {
    up_to = later_up_to run.last_clock marked.occurrence.time m kept.up_to next.in_order;
    is = sym (until_twice run.last_clock marked.occurrence.time m kept.up_to next.in_order) ∙ ap (measured_until marked.occurrence.time) kept.is ∙ sym (skipped measure other);
  }
