-- Monitors that are told a run, occurrence by occurrence, keep its values: those that the next one concerns may note it, and the first that stops the
-- run after it is found.
use Rattle.std.proofs.Common.{◌≡◌, ◌∙◌, refl, sym, ap, ap₂, subst, inl, inr, ◌⊎◌, add-zero, ℕ, zero, suc, ◌+◌, ◌-◌, ◌<◌, ◌≤◌, ◌^◌, ◌==◌, ℤ, Bool, true, false, cond, not, ◌&&◌, nat_lt, if◌then◌else◌, List, [], ◌∷◌, ◌++◌, length, map, take, drop, get_or, Option, Some, None, slice_get, eqb-true, arith, ◌↔◌}
use Rattle.std.specs.Prelude.{Contains}
use Rattle.std.specs.Option.{is_none}
use Rattle.std.specs.List.{AllByRecursion, filter, prefix_len, cons_option}
use Rattle.std.proofs.lemmas.Bool.{lt-ltb, eqb-false}
use Rattle.std.proofs.lemmas.Bool.Decides.{nat_tests}
use Rattle.std.proofs.lemmas.List.Elements.{All-contains, All-contains_itself, All-from_recursion, All-weaker, recursion_from_All, Contains-append_right, Contains-append_cases, Contains-push_cases}
use Rattle.std.proofs.lemmas.List.Sums.{sum_by-cons}
use Rattle.std.proofs.lemmas.Option.{same_Some, slice_get_within}
use Rattle.cpn_definitions.specs.Inscription.{PlainExpr, Functions}
use Rattle.cpn_definitions.specs.Marking.{Marking}
use Rattle.cpn_definitions.specs.Net.{PlainNet, transition_at}
use Rattle.cpn_definitions.specs.Occurrence.{binds}
use Rattle.cpn_definitions.specs.Outcome.{Outcome, gives, faults, no_meaning}
use Rattle.cpn_definitions.specs.Value.{PlainValue, int, unit, boolean, constant, text, tuple, bare, applied, list}
use Rattle.cpn_monitor.specs.Fitting.{MeansInteger, IsIntegerOver, IsMeasurable, IsNext}
use Rattle.cpn_monitor.specs.Kept.{PlainMeasuring, IsAmongConcerned, values_until, IsUnmet, AreKept, MayNote}
use Rattle.cpn_monitor.specs.Looks.{PlainLook, at_transition, at_place, looks_at, IsLooking, IsConcerned}
use Rattle.cpn_monitor.specs.Monitors.{PlainMonitor, PlainMeasure, counts, sizes, values, stops_by_count, stops_by_size}
use Rattle.cpn_monitor.specs.MonitorValues.{PlainMeasured, PlainMonitorValue, counted, sized, valued, counted_to_stop, sized_to_stop, count_of, meaning_at, outcomes_of, integer_given, is_fault, integers_in, faults_in, measured, values_of}
use Rattle.cpn_monitor.specs.Noted.{measured_until, noted, IsSeen, MayBeNoted, IsCounted, IsCountedToStop, IsValued, IsSizedUpTo, IsUpTo, PlainNoted, MayNoteAt, IsNoted, with_measured, with_noted, stops_at, stops_so, stops_number, IsLeastOf}
use Rattle.cpn_monitor.specs.MeasuredRuns.{MarkedOccurrence, MeasuredRun, is_of, occurrences_of, size_on, marking_after, last_marking, with_occurrence, at_clock, last_time_of}
use Rattle.cpn_monitor.specs.Stops.{stops_after, first_stop, stop_after, is_within}
use Rattle.cpn_monitor.specs.Watched.{AreWatched, AreBeside}
use Rattle.cpn_monitor.proofs.KeptRuns.{IsKept, measured_is_kept, no_size, later_up_to, kept_later, noted_kept, kept_elsewhere, other_transition, not_beside}
use Rattle.cpn_monitor.proofs.NotedRuns.{last_with}

-- ---- how many

kept_few : {A : Type 0} (test : A → Bool) (xs : List A) → length (filter test xs) ≤ length xs
kept_few test [] = omega arith
kept_few test (x ∷ xs) = by (test x) (kept_few test xs)
  where
    by : (b : Bool) → length (filter test xs) ≤ length xs → length (cond b (x ∷ filter test xs) (filter test xs)) ≤ suc (length xs)
    by true few = omega (arith, few)
    by false few = omega (arith, few)

few_occurrences : (t : ℕ) (occurrences : List MarkedOccurrence) → count_of t occurrences ≤ length occurrences
few_occurrences t occurrences = kept_few (is_of t) occurrences

as_many : {A B : Type 0} (f : A → B) (xs : List A) → length (map f xs) ≡ length xs
as_many f [] = refl
as_many f (x ∷ xs) = ap (λ (n : ℕ). suc n) (as_many f xs)

-- an outcome is an integer, a fault or neither
one_or_none : (o : Outcome PlainValue) (zs : List ℤ) → length (cons_option (integer_given o) zs) + cond (is_fault o) 1 0 ≤ suc (length zs)
one_or_none (gives (int z)) zs = omega arith
one_or_none (gives unit) zs = omega arith
one_or_none (gives (boolean b)) zs = omega arith
one_or_none (gives (constant k)) zs = omega arith
one_or_none (gives (text bytes)) zs = omega arith
one_or_none (gives (tuple vs)) zs = omega arith
one_or_none (gives (bare k)) zs = omega arith
one_or_none (gives (applied k v)) zs = omega arith
one_or_none (gives (list vs)) zs = omega arith
one_or_none (faults fault) zs = omega arith
one_or_none no_meaning zs = omega arith

few_values : (outcomes : List (Outcome PlainValue)) → length (integers_in outcomes) + faults_in outcomes ≤ length outcomes
few_values [] = omega arith
few_values (o ∷ outcomes) =
    let first = one_or_none o (integers_in outcomes) in
    let later = few_values outcomes in
    let faults_are : faults_in (o ∷ outcomes) ≡ cond (is_fault o) 1 0 + faults_in outcomes = sum_by-cons (λ x. cond (is_fault x) 1 0) o outcomes in
    omega (arith, first, later, faults_are)

few_outcomes : (funs : Functions) (t : ℕ) (e : PlainExpr) (occurrences : List MarkedOccurrence) → length (integers_in (outcomes_of funs t e occurrences)) + faults_in (outcomes_of funs t e occurrences) ≤ length occurrences
few_outcomes funs t e occurrences =
    let some = few_values (outcomes_of funs t e occurrences) in
    let all : length (outcomes_of funs t e occurrences) ≡ count_of t occurrences = as_many (meaning_at funs e) (occurrences_of t occurrences) in
    let those = few_occurrences t occurrences in
    omega (arith, some, all, those)

-- ---- each may note the next occurrence

module _ (n : PlainNet) (run : MeasuredRun) (marked : MarkedOccurrence) (next : IsNext n run marked) where
  seen : (p : ℕ) → p < length n.places → IsSeen p marked.after
  seen p known =
      let few : size_on p marked.after ≤ 2 ^ 48 - 1 = next.after.few p in
      record { there = subst (λ k. p < k) (sym next.after.entries) known; few = omega (arith, few) }

  integer : (t : ℕ) (e : PlainExpr) → IsIntegerOver n (transition_at n t) e → is_of t marked ≡ true → MeansInteger (meaning_at n.functions e marked)
  integer t e over is =
      let same : t ≡ marked.occurrence.element.transition = eqb-true t marked.occurrence.element.transition is in
      over marked.occurrence.element.binding marked.occurrence.time (subst (λ k. binds n (transition_at n k).vars marked.occurrence.element.binding ≡ true) (sym same) next.bound) next.in_time

  -- a monitor that is kept of the run may note it
  one_may : (measure : PlainMeasure) (m : PlainMeasured) → IsMeasurable n measure → IsKept n.functions run measure m → MayBeNoted n.functions marked measure m
  one_may (counts t) m is kept =
      let few = few_occurrences t run.occurrences in
      let all = next.few in
      subst IsCounted (sym (no_size run.last_clock m _ kept.is tt)) (omega (arith, few, all))
  one_may (sizes p) m is kept = (sized_up_to m kept.is (later_up_to run.last_clock marked.occurrence.time m kept.up_to next.in_order), next.in_time, seen p is)
    where
      sized_up_to : (m : PlainMeasured) → measured_until run.last_clock m ≡ measured n.functions run (sizes p) → IsUpTo marked.occurrence.time m → IsSizedUpTo marked.occurrence.time m
      sized_up_to (counted k) e up = cc
      sized_up_to (sized least greatest last sum until) e up = up
      sized_up_to (valued count sum least greatest faulted) e up = cc
      sized_up_to (counted_to_stop k) e up = cc
      sized_up_to (sized_to_stop last) e up = cc
  one_may (values t e) m is kept =
      let few = few_outcomes n.functions t e run.occurrences in
      let all = next.few in
      (subst IsValued (sym (no_size run.last_clock m _ kept.is tt)) (omega (arith, few, all)), next.in_time, integer t e is.1)
  one_may (stops_by_count t k) m is kept =
      let few = few_occurrences t run.occurrences in
      let all = next.few in
      subst IsCountedToStop (sym (no_size run.last_clock m _ kept.is tt)) (omega (arith, few, all))
  one_may (stops_by_size p bound k) m is kept = seen p is

-- ---- numbers in lists

first_or_later : (first : ℕ) (ks : List ℕ) (k : ℕ) → Contains (first ∷ ks) k → (first ≡ k) ⊎ Contains ks k
first_or_later first ks k h = elim (Contains-append_cases (first ∷ []) ks k h) [
  | inl is_first ↦ elim (Contains-push_cases [] first k is_first) [ inl none ↦ absurd (omega (arith, none.1)) | inr same ↦ inl same ]
  | inr later ↦ inr later
]

contains_or_not : (ks : List ℕ) (k : ℕ) → Contains ks k ⊎ (Contains ks k → ⊥)
contains_or_not [] k = inr (λ h. omega (arith, h.1))
contains_or_not (first ∷ ks) k = elim (contains_or_not ks k) [ inl later ↦ inl (Contains-append_right (first ∷ []) ks k later) | inr not_later ↦ by (first == k) refl not_later ]
  where
    by : (b : Bool) → (first == k) ≡ b → (Contains ks k → ⊥) → Contains (first ∷ ks) k ⊎ (Contains (first ∷ ks) k → ⊥)
    by true e not_later = inl (0, omega arith, eqb-true first k e)
    by false e not_later = inr (λ h. elim (first_or_later first ks k h) [ inl same ↦ eqb-false first k e same | inr later ↦ not_later later ])

-- ---- item by item

-- Kept at a number: of the monitor and the value there.
pub record IsKeptAt (funs : Functions) (monitors : List PlainMonitor) (run : MeasuredRun) (vs : List PlainMonitorValue) (number : ℕ) : Type 0 where
  pub each : (monitor : PlainMonitor) (v : PlainMonitorValue) → slice_get monitors number ≡ Some monitor → slice_get vs number ≡ Some v → (v.name ≡ monitor.name) × IsKept funs run monitor.measure v.measured

pub same_length : (funs : Functions) (monitors : List PlainMonitor) (run : MeasuredRun) (vs : List PlainMonitorValue) → values_until run.last_clock vs ≡ values_of funs monitors run → length vs ≡ length monitors
same_length funs monitors run vs are = sym (as_many _ vs) ∙ ap (λ (xs : List PlainMonitorValue). length xs) are ∙ as_many _ monitors

pub each_kept : (funs : Functions) (monitors : List PlainMonitor) (run : MeasuredRun) (vs : List PlainMonitorValue) → values_until run.last_clock vs ≡ values_of funs monitors run
    → AllByRecursion (λ (v : PlainMonitorValue). IsUpTo run.last_clock v.measured) vs → (number : ℕ) → IsKeptAt funs monitors run vs number
each_kept funs [] run vs are up number = record { each = λ monitor v m_is v_is. cc }
each_kept funs (m ∷ ms) run [] are up number = record { each = λ monitor v m_is v_is. cc }
each_kept funs (m ∷ ms) run (w ∷ ws) are up zero = record {
  each = λ monitor v m_is v_is.
      (let same_m : m ≡ monitor = same_Some m monitor m_is in
      let same_v : w ≡ v = same_Some w v v_is in
      let first : (λ (x : PlainMonitorValue). record x { measured = measured_until run.last_clock x.measured }) w ≡ record { name = m.name; measured = measured funs run m.measure } = ap (λ (xs : List PlainMonitorValue). get_or xs 0 w) are in
      subst (λ (x : PlainMonitorValue). (x.name ≡ monitor.name) × IsKept funs run monitor.measure x.measured) same_v
      (subst (λ (q : PlainMonitor). (w.name ≡ q.name) × IsKept funs run q.measure w.measured) same_m
      (ap (λ (x : PlainMonitorValue). x.name) first, record { up_to = up.0; is = ap (λ (x : PlainMonitorValue). x.measured) first })));
}
each_kept funs (m ∷ ms) run (w ∷ ws) are up (suc number) = record { each = (each_kept funs ms run ws (ap (λ (xs : List PlainMonitorValue). drop 1 xs) are) up.1 number).each }

-- kept at each number
pub record AllKept (funs : Functions) (monitors : List PlainMonitor) (run : MeasuredRun) (vs : List PlainMonitorValue) : Type 0 where
  pub up_to : AllByRecursion (λ (v : PlainMonitorValue). IsUpTo run.last_clock v.measured) vs
  pub values_are : values_until run.last_clock vs ≡ values_of funs monitors run

pub all_kept : (funs : Functions) (monitors : List PlainMonitor) (run : MeasuredRun) (vs : List PlainMonitorValue) → length vs ≡ length monitors → ((number : ℕ) → IsKeptAt funs monitors run vs number) → AllKept funs monitors run vs
all_kept funs [] run [] long each = record { up_to = tt; values_are = refl }
all_kept funs [] run (v ∷ vs) long each = absurd (omega (arith, long))
all_kept funs (m ∷ ms) run [] long each = absurd (omega (arith, long))
all_kept funs (m ∷ ms) run (v ∷ vs) long each =
    let first = (each 0).each m v refl refl in
    let others = all_kept funs ms run vs (omega (arith, long)) (λ number. record { each = (each (suc number)).each }) in
    record {
      up_to = (first.1.up_to, others.up_to);
      values_are = ap₂ (λ (x : PlainMonitorValue) (xs : List PlainMonitorValue). x ∷ xs) (ap₂ (λ (name : List ℕ) (m : PlainMeasured). record { name = name; measured = m }) first.0 first.1.is) others.values_are;
    }

-- ---- each of some may note the occurrence

pub number_known : {A : Type 0} (xs : List A) (number : ℕ) → number < length xs → (x : A) × (slice_get xs number ≡ Some x)
number_known [] number lt = absurd (omega arith)
number_known (x ∷ xs) zero lt = (x, refl)
number_known (x ∷ xs) (suc number) lt = number_known xs number (omega arith)

pub may_note_at : (funs : Functions) (monitors : List PlainMonitor) (kept : PlainMeasuring) (marked : MarkedOccurrence) → MayNote funs monitors kept marked → (number : ℕ) → number < length monitors → MayNoteAt funs marked monitors kept.values number
may_note_at funs monitors kept marked may number lt =
    let k = may.is_kept in
    let m = number_known monitors number lt in
    let v = number_known kept.values number (subst (λ long. number < long) (sym (same_length funs monitors may.run kept.values k.values_are)) lt) in
    let is = (each_kept funs monitors may.run kept.values k.values_are k.up_to number).each m.0 v.0 m.1 v.1 in
    let measurable = all_there (λ (x : PlainMonitor). IsMeasurable may.net x.measure) monitors number m.0 may.fit.measurable m.1 in
    record {
      monitor = m.0;
      monitor_is = m.1;
      value = v.0;
      value_is = v.1;
      may = subst (λ fs. MayBeNoted fs marked m.0.measure v.0.measured) (sym may.fit.functions_are)
          (one_may may.net may.run marked may.next m.0.measure v.0.measured measurable (subst (λ fs. IsKept fs may.run m.0.measure v.0.measured) may.fit.functions_are is.1));
    }
  where
    all_there : (P : PlainMonitor → Type 0) (ms : List PlainMonitor) (number : ℕ) (m : PlainMonitor) → AllByRecursion P ms → slice_get ms number ≡ Some m → P m
    all_there P [] number m all is = cc
    all_there P (x ∷ ms) zero m all is = subst P (same_Some x m is) all.0
    all_there P (x ∷ ms) (suc number) m all is = all_there P ms number m all.1 is

-- ---- what is noted

pub as_long : (number : ℕ) (m : PlainMeasured) (vs : List PlainMonitorValue) → length (with_measured number m vs) ≡ length vs
as_long number m [] = refl
as_long zero m (v ∷ vs) = refl
as_long (suc number) m (v ∷ vs) = ap (λ (n : ℕ). suc n) (as_long number m vs)

pub noted_long : (xs : List PlainNoted) (vs : List PlainMonitorValue) → length (with_noted xs vs) ≡ length vs
noted_long [] vs = refl
noted_long (x ∷ xs) vs = noted_long xs (with_measured x.number x.measured vs) ∙ as_long x.number x.measured vs

-- the value at the number is new, and each other is as it was
at_number : (number : ℕ) (m : PlainMeasured) (vs : List PlainMonitorValue) (v : PlainMonitorValue) → slice_get (with_measured number m vs) number ≡ Some v → (w : PlainMonitorValue) × (slice_get vs number ≡ Some w) × (v ≡ record w { measured = m })
at_number number m [] v is = cc
at_number zero m (w ∷ vs) v is = (w, refl, sym (same_Some _ v is))
at_number (suc number) m (w ∷ vs) v is = at_number number m vs v is

at_another : (number other : ℕ) (m : PlainMeasured) (vs : List PlainMonitorValue) → (other ≡ number → ⊥) → slice_get (with_measured number m vs) other ≡ slice_get vs other
at_another number other m [] differ = refl
at_another zero zero m (w ∷ vs) differ = absurd (differ refl)
at_another zero (suc other) m (w ∷ vs) differ = refl
at_another (suc number) zero m (w ∷ vs) differ = refl
at_another (suc number) (suc other) m (w ∷ vs) differ = at_another number other m vs (λ e. differ (ap (λ (k : ℕ). suc k) e))

abbrev pub numbers_of : List PlainNoted → List ℕ
numbers_of xs = map (λ (x : PlainNoted). x.number) xs

-- Where all that is noted is kept of a run, and so is each value whose monitor notes nothing, all is kept of it.
module _ (funs : Functions) (monitors : List PlainMonitor) (run : MeasuredRun) where
  abbrev IsFine : PlainNoted → Type 0
  IsFine x = (monitor : PlainMonitor) → slice_get monitors x.number ≡ Some monitor → IsKept funs run monitor.measure x.measured

  -- the names are those of the monitors
  abbrev AreNamed : List PlainMonitorValue → Type 0
  AreNamed vs = (number : ℕ) (monitor : PlainMonitor) (v : PlainMonitorValue) → slice_get monitors number ≡ Some monitor → slice_get vs number ≡ Some v → v.name ≡ monitor.name

  named_still : (x : PlainNoted) (vs : List PlainMonitorValue) → AreNamed vs → AreNamed (with_measured x.number x.measured vs)
  named_still x vs named number monitor v m_is v_is = by (number == x.number) refl
    where
      by : (b : Bool) → (number == x.number) ≡ b → v.name ≡ monitor.name
      by true e =
          let at = eqb-true number x.number e in
          let was = at_number x.number x.measured vs v (subst (λ k. slice_get (with_measured x.number x.measured vs) k ≡ Some v) at v_is) in
          ap (λ (w : PlainMonitorValue). w.name) was.2 ∙ named x.number monitor was.0 (subst (λ k. slice_get monitors k ≡ Some monitor) at m_is) was.1
      by false e = named number monitor v m_is (sym (at_another x.number number x.measured vs (eqb-false number x.number e)) ∙ v_is)

  pub fine_kept : (xs : List PlainNoted) (vs : List PlainMonitorValue) → AllByRecursion IsFine xs → AreNamed vs → ((number : ℕ) → (Contains (numbers_of xs) number → ⊥) → IsKeptAt funs monitors run vs number)
      → (number : ℕ) → IsKeptAt funs monitors run (with_noted xs vs) number
  fine_kept [] vs fine named others number = others number (λ h. omega (arith, h.1))
  fine_kept (x ∷ xs) vs fine named others number =
      fine_kept xs (with_measured x.number x.measured vs) fine.1 (named_still x vs named) (λ k out. record { each = λ monitor v m_is v_is. by k out monitor v m_is v_is (k == x.number) refl }) number
    where
      by : (k : ℕ) → (Contains (numbers_of xs) k → ⊥) → (monitor : PlainMonitor) (v : PlainMonitorValue) → slice_get monitors k ≡ Some monitor → slice_get (with_measured x.number x.measured vs) k ≡ Some v
          → (b : Bool) → (k == x.number) ≡ b → (v.name ≡ monitor.name) × IsKept funs run monitor.measure v.measured
      by k out monitor v m_is v_is true e =
          let at = eqb-true k x.number e in
          let there = subst (λ i. slice_get monitors i ≡ Some monitor) at m_is in
          let was = at_number x.number x.measured vs v (subst (λ i. slice_get (with_measured x.number x.measured vs) i ≡ Some v) at v_is) in (
            named_still x vs named k monitor v m_is v_is,
            subst (λ (w : PlainMonitorValue). IsKept funs run monitor.measure w.measured) (sym was.2) (fine.0 monitor there),
          )
      by k out monitor v m_is v_is false e =
          let differ = eqb-false k x.number e in
          (others k (λ h. elim (first_or_later x.number (numbers_of xs) k h) [ inl same ↦ differ (sym same) | inr later ↦ out later ])).each monitor v m_is (sym (at_another x.number k x.measured vs differ) ∙ v_is)

-- ---- the first that stops

stops_the_same : (funs : Functions) (run : MeasuredRun) (marked : MarkedOccurrence) (measure : PlainMeasure) → stops_at marked measure (measured funs (with_occurrence marked run) measure) ≡ stops_after marked (run.occurrences ++ marked ∷ []) measure
stops_the_same funs run marked (counts t) = refl
stops_the_same funs run marked (sizes p) = refl
stops_the_same funs run marked (values t e) = refl
stops_the_same funs run marked (stops_by_count t k) = refl
stops_the_same funs run marked (stops_by_size p bound k) = ap (is_within bound k) (last_with p run marked)

-- the position of the first that passes, counted from a number on
abbrev first_from : (PlainMonitor → Bool) → ℕ → List PlainMonitor → Option ℕ
first_from passes k monitors = cond (nat_lt (prefix_len (λ x. not (passes x)) monitors) (length monitors)) (Some (k + prefix_len (λ x. not (passes x)) monitors)) None

from_the_next : (passes : PlainMonitor → Bool) (k : ℕ) (monitor : PlainMonitor) (monitors : List PlainMonitor) (b : Bool) → passes monitor ≡ b → first_from passes k (monitor ∷ monitors) ≡ (if b then Some k else first_from passes (suc k) monitors)
from_the_next passes k monitor monitors b is = ap (λ b. at (cond (not b) (1 + later) 0)) is ∙ by b
  where
    later : ℕ
    later = prefix_len (λ x. not (passes x)) monitors

    at : ℕ → Option ℕ
    at p = cond (nat_lt p (suc (length monitors))) (Some (k + p)) None

    next : (p l : ℕ) → nat_lt (1 + p) (suc l) ≡ nat_lt p l
    next p l = grind (arith, nat_tests)

    by : (b : Bool) → at (cond (not b) (1 + later) 0) ≡ (if b then Some k else first_from passes (suc k) monitors)
    by true = ap (λ t. cond t (Some (k + 0)) None) (lt-ltb 0 (suc (length monitors)) (omega arith)) ∙ ap Some (omega arith)
    by false = ap (λ t. cond t (Some (k + (1 + later))) None) (next later (length monitors)) ∙ ap (λ (j : ℕ). cond (nat_lt later (length monitors)) (Some j) None) (omega arith)

-- First: the monitor of a number passes, and none of a lower number does; or no monitor passes.
abbrev IsFirst : (PlainMonitor → Bool) → List PlainMonitor → Option ℕ → Type 0
IsFirst passes monitors None = (k : ℕ) (monitor : PlainMonitor) → slice_get monitors k ≡ Some monitor → passes monitor ≡ false
IsFirst passes monitors (Some first) = (m : PlainMonitor) × (slice_get monitors first ≡ Some m) × (passes m ≡ true) × ((k : ℕ) (monitor : PlainMonitor) → slice_get monitors k ≡ Some monitor → passes monitor ≡ true → first ≤ k)

counted_from : ℕ → Option ℕ → Option ℕ
counted_from k None = None
counted_from k (Some first) = Some (k + first)

first_is : (passes : PlainMonitor → Bool) (k : ℕ) (monitors : List PlainMonitor) (found : Option ℕ) → IsFirst passes monitors found → counted_from k found ≡ first_from passes k monitors
unfolding counted_from
first_is passes k [] None is = refl
first_is passes k [] (Some first) is = cc
first_is passes k (monitor ∷ monitors) None is =
    first_is passes (suc k) monitors None (λ j m m_is. is (suc j) m m_is) ∙ sym (from_the_next passes k monitor monitors false (is 0 monitor refl))
first_is passes k (monitor ∷ monitors) (Some zero) is =
    ap (λ (j : ℕ). Some j) (add-zero k) ∙ sym (from_the_next passes k monitor monitors true (ap passes (same_Some monitor is.0 is.1) ∙ is.2))
first_is passes k (monitor ∷ monitors) (Some (suc first)) is =
    let later : IsFirst passes monitors (Some first) = (is.0, is.1, is.2, (λ j m m_is passed. (let low = is.3 (suc j) m m_is passed in omega (arith, low)))) in
    ap (λ (j : ℕ). Some j) (omega arith) ∙ first_is passes (suc k) monitors (Some first) later ∙ sym (from_the_next passes k monitor monitors false (not_first (passes monitor) refl))
  where
    not_first : (b : Bool) → passes monitor ≡ b → passes monitor ≡ false
    not_first true passed = let low = is.3 0 monitor refl passed in absurd (omega (arith, low))
    not_first false is_not = is_not

first_of_more : {A : Type 0} (xs : List A) (x : A) → take (suc (length xs)) (xs ++ x ∷ []) ≡ xs ++ x ∷ []
first_of_more [] x = refl
first_of_more (y ∷ xs) x = ap (λ ys. y ∷ ys) (first_of_more xs x)

last_of_more : {A : Type 0} (xs : List A) (x : A) → slice_get (xs ++ x ∷ []) (length xs) ≡ Some x
last_of_more [] x = refl
last_of_more (y ∷ xs) x = last_of_more xs x

-- which monitor stops the run after its last occurrence
stops_last : (run : MeasuredRun) (marked : MarkedOccurrence) → PlainMonitor → Bool
stops_last run marked monitor = stops_after marked (run.occurrences ++ marked ∷ []) monitor.measure

-- What is looked at after an occurrence: all monitors, or where the run is quiet those that the occurrence concerns.
pub record AreLookedAt (n : PlainNet) (monitors : List PlainMonitor) (kept : PlainMeasuring) (t : ℕ) (numbers : List ℕ) : Type 0 where
  pub known : AllByRecursion (λ k. k < length monitors) numbers
  pub all : (k : ℕ) (monitor : PlainMonitor) → slice_get monitors k ≡ Some monitor → (kept.is_quiet ≡ true → IsConcerned n t (looks_at monitor.measure)) → Contains numbers k

module _ (n : PlainNet) (funs : Functions) (monitors : List PlainMonitor) (run : MeasuredRun) (kept : PlainMeasuring) (marked : MarkedOccurrence) (is : AreKept n funs monitors run kept) (next : IsNext n run marked)
    (numbers : List ℕ) (looked : AreLookedAt n monitors kept marked.occurrence.element.transition numbers) where
  abbrev t : ℕ
  t = marked.occurrence.element.transition

  abbrev run_after : MeasuredRun
  run_after = with_occurrence marked run

  -- a monitor that is not looked at is not concerned, and the run is quiet
  not_looked_at : (k : ℕ) (monitor : PlainMonitor) → slice_get monitors k ≡ Some monitor → (Contains numbers k → ⊥) → (kept.is_quiet ≡ true) × (IsConcerned n t (looks_at monitor.measure) → ⊥)
  not_looked_at k monitor there out = by kept.is_quiet refl
    where
      by : (b : Bool) → kept.is_quiet ≡ b → (kept.is_quiet ≡ true) × (IsConcerned n t (looks_at monitor.measure) → ⊥)
      by true quiet = (quiet, λ concerned. out (looked.all k monitor there (λ _. concerned)))
      by false loud = absurd (out (looked.all k monitor there (λ quiet. cc)))

  -- ---- the values

  module _ (xs : List PlainNoted) (are : AllByRecursion (IsNoted funs marked monitors kept.values) xs) (numbers_are : numbers_of xs ≡ numbers) where
    one_fine : (x : PlainNoted) → IsNoted funs marked monitors kept.values x → IsFine funs monitors run_after x
    one_fine x noted monitor there =
        let same : noted.monitor ≡ monitor = same_Some noted.monitor monitor (sym noted.monitor_is ∙ there) in
        let kept_here = ((each_kept funs monitors run kept.values is.values_are is.up_to x.number).each noted.monitor noted.value noted.monitor_is noted.value_is).1 in
        subst (λ (m : PlainMonitor). IsKept funs run_after m.measure x.measured) same
        (measured_is_kept funs run_after noted.monitor.measure x.measured (noted.measured_is ∙ noted_kept funs run marked is.timely next.in_order noted.monitor.measure noted.value.measured kept_here))

    all_fine : (ys : List PlainNoted) → AllByRecursion (IsNoted funs marked monitors kept.values) ys → AllByRecursion (IsFine funs monitors run_after) ys
    all_fine [] all = tt
    all_fine (y ∷ ys) all = (one_fine y all.0, all_fine ys all.1)

    kept_at : (number : ℕ) → IsKeptAt funs monitors run_after (with_noted xs kept.values) number
    kept_at = fine_kept funs monitors run_after xs kept.values (all_fine xs are)
        (λ k monitor v m_is v_is. ((each_kept funs monitors run kept.values is.values_are is.up_to k).each monitor v m_is v_is).0)
        (λ k out. record {
          each = λ monitor v m_is v_is.
              (let there = (each_kept funs monitors run kept.values is.values_are is.up_to k).each monitor v m_is v_is in
              let other = (not_looked_at k monitor m_is (λ h. out (subst (λ ks. Contains ks k) (sym numbers_are) h))).1 in
              (there.0, kept_elsewhere n funs run marked is.timely next monitor.measure v.measured other there.1));
        })

    pub noted_is_kept : AllKept funs monitors run_after (with_noted xs kept.values)
    noted_is_kept = all_kept funs monitors run_after (with_noted xs kept.values) (noted_long xs kept.values ∙ same_length funs monitors run kept.values is.values_are) kept_at

  -- ---- the first that stops

  module _ (vs : List PlainMonitorValue) (are : AllKept funs monitors run_after vs) (found : Option ℕ) (least : IsLeastOf (stops_number marked monitors vs) numbers found) where
    -- a monitor that is looked at stops the run where its number does
    looked_at_stops : (k : ℕ) (monitor : PlainMonitor) → slice_get monitors k ≡ Some monitor → stops_number marked monitors vs k ≡ stops_last run marked monitor
    unfolding stops_last
    looked_at_stops k monitor there =
        let v = number_known vs k (subst (λ long. k < long) (sym (same_length funs monitors run_after vs are.values_are)) (slice_get_within monitors k monitor there)) in
        let kept_here = ((each_kept funs monitors run_after vs are.values_are are.up_to k).each monitor v.0 there v.1).1 in
        ap₂ (stops_so marked) there v.1 ∙ by monitor.measure v.0.measured kept_here ∙ stops_the_same funs run marked monitor.measure
      where
        -- what is kept of a stop is what is measured
        by : (measure : PlainMeasure) (m : PlainMeasured) → IsKept funs run_after measure m → stops_at marked measure m ≡ stops_at marked measure (measured funs run_after measure)
        by (counts u) m k = refl
        by (sizes p) m k = refl
        by (values u e) m k = refl
        by (stops_by_count u b) m k = ap (stops_at marked (stops_by_count u b)) (no_size run_after.last_clock m _ k.is tt)
        by (stops_by_size p bound b) m k = ap (stops_at marked (stops_by_size p bound b)) (no_size run_after.last_clock m _ k.is tt)

    -- and one that is not does not stop it
    others_stop_nothing : (k : ℕ) (monitor : PlainMonitor) → slice_get monitors k ≡ Some monitor → (Contains numbers k → ⊥) → stops_last run marked monitor ≡ false
    unfolding stops_last
    others_stop_nothing k monitor there out =
        let not = not_looked_at k monitor there out in
        by monitor.measure not.1 (all_there monitors k monitor (is.quiet not.0) there)
      where
        all_there : (ms : List PlainMonitor) (k : ℕ) (m : PlainMonitor) → AllByRecursion (λ x. IsUnmet (last_marking run) x.measure) ms → slice_get ms k ≡ Some m → IsUnmet (last_marking run) m.measure
        all_there [] k m all there = cc
        all_there (x ∷ ms) zero m all there = subst (λ (y : PlainMonitor). IsUnmet (last_marking run) y.measure) (same_Some x m there) all.0
        all_there (x ∷ ms) (suc k) m all there = all_there ms k m all.1 there

        by : (measure : PlainMeasure) → (IsConcerned n t (looks_at measure) → ⊥) → IsUnmet (last_marking run) measure → stops_after marked (run.occurrences ++ marked ∷ []) measure ≡ false
        by (counts u) other unmet = refl
        by (sizes p) other unmet = refl
        by (values u e) other unmet = refl
        by (stops_by_count u b) other unmet = ap (λ c. c && (count_of u (run.occurrences ++ marked ∷ []) == b)) (other_transition u marked other)
        by (stops_by_size p bound b) other unmet = ap (is_within bound b) (next.elsewhere p (not_beside n t p other)) ∙ unmet

    passes_not : (ks : List ℕ) (k : ℕ) → AllByRecursion (λ j. stops_number marked monitors vs j ≡ false) ks → Contains ks k → stops_number marked monitors vs k ≡ false
    passes_not ks k all h = All-contains (λ j. stops_number marked monitors vs j ≡ false) ks k (All-from_recursion _ ks all) h

    known_there : (ks : List ℕ) (k : ℕ) → AllByRecursion (λ j. j < length monitors) ks → Contains ks k → k < length monitors
    known_there ks k all h = All-contains (λ j. j < length monitors) ks k (All-from_recursion _ ks all) h

    low_there : (first : ℕ) (ks : List ℕ) (k : ℕ) → AllByRecursion (λ j. stops_number marked monitors vs j ≡ true → first ≤ j) ks → Contains ks k → stops_number marked monitors vs k ≡ true → first ≤ k
    low_there first ks k all h = All-contains (λ j. stops_number marked monitors vs j ≡ true → first ≤ j) ks k (All-from_recursion _ ks all) h

    first_stops : IsFirst (stops_last run marked) monitors found
    first_stops = by found least
      where
        by : (found : Option ℕ) → IsLeastOf (stops_number marked monitors vs) numbers found → IsFirst (stops_last run marked) monitors found
        by None none = λ k monitor there. elim (contains_or_not numbers k) [
          | inl in_it ↦ sym (looked_at_stops k monitor there) ∙ passes_not numbers k none in_it
          | inr out ↦ others_stop_nothing k monitor there out
        ]
        by (Some first) is_first =
            let m = number_known monitors first (known_there numbers first looked.known is_first.0) in (
              m.0,
              m.1,
              sym (looked_at_stops first m.0 m.1) ∙ is_first.1,
              λ k monitor there stops. elim (contains_or_not numbers k) [
                | inl in_it ↦ low_there first numbers k is_first.2 in_it (looked_at_stops k monitor there ∙ stops)
                | inr out ↦ absurd_bool (sym (others_stop_nothing k monitor there out) ∙ stops)
              ],
            )
          where
            absurd_bool : {A : Type 0} → false ≡ true → A
            absurd_bool e = cc

    -- the first that stops the run after its last occurrence
    pub found_stops : found ≡ stop_after monitors (run.occurrences ++ marked ∷ []) (length run.occurrences)
    unfolding stops_last counted_from
    found_stops =
        from_zero found ∙ first_is (stops_last run marked) 0 monitors found first_stops ∙ from_none (prefix_len (λ m. not (stops_last run marked m)) monitors)
        ∙ sym (ap₂ (first_stop monitors) (first_of_more run.occurrences marked) (last_of_more run.occurrences marked))
      where
        from_zero : (o : Option ℕ) → o ≡ counted_from 0 o
        from_zero None = refl
        from_zero (Some k) = ap (λ (j : ℕ). Some j) (omega arith)

        from_none : (k : ℕ) → cond (nat_lt k (length monitors)) (Some (0 + k)) None ≡ cond (nat_lt k (length monitors)) (Some k) None
        from_none k = ap (λ (j : ℕ). cond (nat_lt k (length monitors)) (Some j) None) (omega arith)

    -- Where none stops it, none that stops by a size is met.
    pub quiet_after : found ≡ None → AllByRecursion (λ monitor. IsUnmet marked.after monitor.measure) monitors
    unfolding stops_last
    quiet_after none = each monitors (λ k m there. subst (IsFirst (stops_last run marked) monitors) none first_stops k m there)
      where
        by : (measure : PlainMeasure) → stops_after marked (run.occurrences ++ marked ∷ []) measure ≡ false → IsUnmet marked.after measure
        by (counts u) is_not = tt
        by (sizes p) is_not = tt
        by (values u e) is_not = tt
        by (stops_by_count u b) is_not = tt
        by (stops_by_size p bound b) is_not = is_not

        each : (ms : List PlainMonitor) → ((k : ℕ) (m : PlainMonitor) → slice_get ms k ≡ Some m → stops_last run marked m ≡ false) → AllByRecursion (λ monitor. IsUnmet marked.after monitor.measure) ms
        each [] none = tt
        each (m ∷ ms) none = (by m.measure (none 0 m refl), each ms (λ k. none (suc k)))

-- the marking to which a run has come is that after its last occurrence
pub last_marking_more : (m : Marking) (occurrences : List MarkedOccurrence) (marked : MarkedOccurrence) → marking_after m (occurrences ++ marked ∷ []) ≡ marked.after
last_marking_more m [] marked = refl
last_marking_more m (first ∷ occurrences) marked = last_marking_more first.after occurrences marked

last_time_more : (clock : ℕ) (occurrences : List MarkedOccurrence) (marked : MarkedOccurrence) → last_time_of clock (occurrences ++ marked ∷ []) ≡ marked.occurrence.time
last_time_more clock [] marked = refl
last_time_more clock (first ∷ occurrences) marked = last_time_more first.occurrence.time occurrences marked

-- What is kept once an occurrence has been noted: the values with what was noted, quiet where none stops the run.
pub kept_with_occurrence : (n : PlainNet) (funs : Functions) (monitors : List PlainMonitor) (run : MeasuredRun) (old new : PlainMeasuring) (marked : MarkedOccurrence) (numbers : List ℕ) (xs : List PlainNoted) (found : Option ℕ)
    → AreKept n funs monitors run old → IsNext n run marked → AreLookedAt n monitors old marked.occurrence.element.transition numbers → AllByRecursion (IsNoted funs marked monitors old.values) xs → numbers_of xs ≡ numbers
    → IsLeastOf (stops_number marked monitors new.values) numbers found → new ≡ record old { values = with_noted xs old.values; is_quiet = is_none found }
    → AreKept n funs monitors (with_occurrence marked run) new
kept_with_occurrence n funs monitors run old new marked numbers xs found is next looked are numbers_are least new_is =
    let values_are : new.values ≡ with_noted xs old.values = ap (λ (k : PlainMeasuring). k.values) new_is in
    let all : AllKept funs monitors (with_occurrence marked run) new.values = subst (AllKept funs monitors (with_occurrence marked run)) (sym values_are) (noted_is_kept n funs monitors run old marked is next numbers looked xs are numbers_are) in
    record {
      timely = (let last = last_time_more run.clock run.occurrences marked in omega (arith, last));
      up_to = all.up_to;
      values_are = all.values_are;
      watched = subst (AreWatched monitors) (sym (ap (λ (k : PlainMeasuring). k.watched) new_is)) is.watched;
      beside = subst (λ (k : PlainMeasuring). AreBeside n k.watched k.beside) (sym new_is) is.beside;
      quiet = λ quiet. subst (λ m. AllByRecursion (λ monitor. IsUnmet m monitor.measure) monitors) (sym (last_marking_more run.start run.occurrences marked))
          (quiet_after n funs monitors run old marked is next numbers looked new.values all found least (none_from found (sym (ap (λ (k : PlainMeasuring). k.is_quiet) new_is) ∙ quiet)));
    }
  where
    none_from : (o : Option ℕ) → is_none o ≡ true → o ≡ None
    none_from None e = refl
    none_from (Some k) e = cc

-- ---- at which monitors it is looked

module _ (n : PlainNet) (funs : Functions) (monitors : List PlainMonitor) (run : MeasuredRun) (kept : PlainMeasuring) (is : AreKept n funs monitors run kept) (t : ℕ) (numbers : List ℕ)
    (concerned : kept.is_quiet ≡ true → (k : ℕ) → Contains numbers k ↔ IsAmongConcerned kept t k) (all : kept.is_quiet ≡ false → (k : ℕ) → Contains numbers k ↔ (k < length kept.values)) where
  as_many_values : length kept.values ≡ length monitors
  as_many_values = same_length funs monitors run kept.values is.values_are

  known_number : (k : ℕ) → Contains numbers k → k < length monitors
  known_number k h = by kept.is_quiet refl
    where
      looking : (look : PlainLook) → IsLooking monitors look k → k < length monitors
      looking look there = slice_get_within monitors k there.monitor there.is

      by : (b : Bool) → kept.is_quiet ≡ b → k < length monitors
      by true quiet = elim ((concerned quiet k).0 h) [
        | inl at ↦ looking (at_transition t) ((is.watched.of_transition t k).0 at)
        | inr beside ↦ looking (at_place beside.0) ((is.watched.of_place beside.0 k).0 beside.2)
      ]
      by false loud = let long = as_many_values in let lt = (all loud k).0 h in omega (arith, long, lt)

  each_looked_at : (k : ℕ) (monitor : PlainMonitor) → slice_get monitors k ≡ Some monitor → (kept.is_quiet ≡ true → IsConcerned n t (looks_at monitor.measure)) → Contains numbers k
  each_looked_at k monitor there may = by kept.is_quiet refl
    where
      concerns : (look : PlainLook) → looks_at monitor.measure ≡ look → IsConcerned n t look → IsAmongConcerned kept t k
      concerns (at_transition u) at is_t = inl ((is.watched.of_transition t k).1 (record { monitor = monitor; is = there; looks = at ∙ ap (λ (v : ℕ). at_transition v) is_t }))
      concerns (at_place p) at beside =
          let looked = (is.watched.of_place p k).1 (record { monitor = monitor; is = there; looks = at }) in
          inr (p, is.beside.each t p k beside looked, looked)

      by : (b : Bool) → kept.is_quiet ≡ b → Contains numbers k
      by true quiet = (concerned quiet k).1 (concerns (looks_at monitor.measure) refl (may quiet))
      by false loud = (all loud k).1 (let long = as_many_values in let lt = slice_get_within monitors k monitor there in omega (arith, long, lt))

  pub looked_at_so : AreLookedAt n monitors kept t numbers
  looked_at_so = record {
    known = recursion_from_All (λ k. k < length monitors) numbers (All-weaker (Contains numbers) (λ k. k < length monitors) known_number numbers (All-contains_itself numbers));
    all = each_looked_at;
  }

-- ---- a later clock

-- what is kept of a run is kept of it at a later clock
pub kept_at_clock : (n : PlainNet) (funs : Functions) (monitors : List PlainMonitor) (run : MeasuredRun) (clock : ℕ) (kept : PlainMeasuring) → AreKept n funs monitors run kept → run.last_clock ≤ clock → AreKept n funs monitors (at_clock clock run) kept
kept_at_clock n funs monitors run clock kept is to =
    let all = all_kept funs monitors (at_clock clock run) kept.values (same_length funs monitors run kept.values is.values_are)
    (λ number. record {
      each = λ monitor v m_is v_is. (let there = (each_kept funs monitors run kept.values is.values_are is.up_to number).each monitor v m_is v_is in (there.0, kept_later funs run clock monitor.measure v.measured is.timely to there.1));
    }) in
    record {
      timely = (let timely = is.timely in omega (arith, timely, to));
      up_to = all.up_to;
      values_are = all.values_are;
      watched = is.watched;
      beside = is.beside;
      quiet = is.quiet;
    }

-- closed, they are its values
pub closed_values : (n : PlainNet) (funs : Functions) (monitors : List PlainMonitor) (run : MeasuredRun) (clock : ℕ) (kept : PlainMeasuring) → AreKept n funs monitors run kept → run.last_clock ≤ clock → values_until clock kept.values ≡ values_of funs monitors (at_clock clock run)
closed_values n funs monitors run clock kept is to = (kept_at_clock n funs monitors run clock kept is to).values_are

-- ---- the start

pub kept_at_start : (funs : Functions) (monitors : List PlainMonitor) (run : MeasuredRun) (vs : List PlainMonitorValue) → vs ≡ values_of funs monitors run → AllKept funs monitors run vs
kept_at_start funs monitors run vs are = subst (AllKept funs monitors run) (sym are) (each monitors)
  where
    each : (ms : List PlainMonitor) → AllKept funs ms run (values_of funs ms run)
    each [] = record { up_to = tt; values_are = refl }
    each (m ∷ ms) =
        let first = measured_is_kept funs run m.measure (measured funs run m.measure) refl in
        let others = each ms in
        record {
          up_to = (first.up_to, others.up_to);
          values_are = ap₂ (λ (x : PlainMeasured) (xs : List PlainMonitorValue). record { name = m.name; measured = x } ∷ xs) first.is others.values_are;
        }
