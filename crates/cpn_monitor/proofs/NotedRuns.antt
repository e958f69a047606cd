-- What monitors measure of a run with one occurrence more, and at a later clock, is what was measured before with what that adds.
use Rattle.std.proofs.Common.{◌≡◌, ◌∙◌, refl, sym, ap, subst, add_assoc, add-zero, ℕ, ◌+◌, ◌*◌, ◌-◌, ◌≤◌, min, max, ℤ, pos, ◌+ℤ◌, Bool, true, false, cond, if◌then◌else◌, List, [], ◌∷◌, ◌++◌, length, map, Option, Some, None, arith}
use Rattle.std.specs.List.{fold, reduce, cons_option}
use Rattle.std.specs.Int.{int_min, int_max}
use Rattle.std.specs.Option.{unwrap_or, option_to_list}
use Rattle.std.proofs.lemmas.List.{length-append, map-append, append-nil}
use Rattle.std.proofs.Math.Nat.{mul-add, mul-zero}
use Rattle.std.proofs.lemmas.List.Elements.{filter-append, filter_map-append}
use Rattle.std.proofs.lemmas.List.Sums.{fold-append, sum_by-append}
use Rattle.cpn_definitions.specs.Inscription.{PlainExpr, Functions}
use Rattle.cpn_definitions.specs.Outcome.{Outcome, gives, faults, no_meaning}
use Rattle.cpn_definitions.specs.Value.{PlainValue, unit, boolean, int, constant, text, tuple, bare, applied, list}
use Rattle.cpn_monitor.specs.Fitting.{MeansInteger}
use Rattle.cpn_monitor.specs.Monitors.{PlainMeasure, counts, sizes, values, stops_by_count, stops_by_size}
use Rattle.cpn_monitor.specs.MeasuredRuns.{MarkedOccurrence, MeasuredRun, is_of, occurrences_of, size_on, TimedSize, size_after, sizes_over_time, with_occurrence, at_clock, last_time_of, IsTimely}
use Rattle.cpn_monitor.specs.MonitorValues.{PlainMeasured, counted, sized, valued, counted_to_stop, sized_to_stop, count_of, size_list, least_of, greatest_of, last_of, sum_until, integer_given, is_fault, integers_in, faults_in, outcomes_of, values_among, meaning_at, measured}
use Rattle.cpn_monitor.specs.Noted.{one_if, least_with, greatest_with, with_integer, with_fault, with_value, measured_until, noted}

-- ---- occurrences

occurrences_more : (t : ℕ) (occurrences : List MarkedOccurrence) (marked : MarkedOccurrence) → occurrences_of t (occurrences ++ marked ∷ []) ≡ occurrences_of t occurrences ++ (if is_of t marked then marked ∷ [] else [])
occurrences_more t occurrences marked = filter-append (is_of t) occurrences (marked ∷ [])

pub count_more : (t : ℕ) (occurrences : List MarkedOccurrence) (marked : MarkedOccurrence) → count_of t (occurrences ++ marked ∷ []) ≡ count_of t occurrences + one_if (is_of t marked)
count_more t occurrences marked = ap length (occurrences_more t occurrences marked) ∙ length-append (occurrences_of t occurrences) _ ∙ ap (λ n. count_of t occurrences + n) (by (is_of t marked))
  where
    by : (b : Bool) → length (if b then marked ∷ [] else []) ≡ one_if b
    by true = refl
    by false = refl

-- ---- sizes

-- the time of the last of sizes, or one before them
last_timed : ℕ → List TimedSize → ℕ
last_timed time [] = time
last_timed time (s ∷ ss) = last_timed s.time ss

timed_as_occurrences : (p time : ℕ) (occurrences : List MarkedOccurrence) → last_timed time (map (size_after p) occurrences) ≡ last_time_of time occurrences
unfolding last_timed
timed_as_occurrences p time [] = refl
timed_as_occurrences p time (marked ∷ occurrences) = timed_as_occurrences p marked.occurrence.time occurrences

sum_more : (end : ℕ) (s : TimedSize) (ss : List TimedSize) (x : TimedSize) → sum_until end (s ∷ (ss ++ x ∷ [])) ≡ sum_until x.time (s ∷ ss) + x.size * (end - x.time)
sum_more end s [] x = refl
sum_more end s (next ∷ more) x =
    ap (λ n. s.size * (next.time - s.time) + n) (sum_more end next more x) ∙ sym (add_assoc (s.size * (next.time - s.time)) (sum_until x.time (next ∷ more)) (x.size * (end - x.time)))

sum_later : (end later : ℕ) (s : TimedSize) (ss : List TimedSize) → last_timed s.time ss ≤ end → end ≤ later
    → sum_until later (s ∷ ss) ≡ sum_until end (s ∷ ss) + last_of (map (λ x. x.size) (s ∷ ss)) * (later - end)
unfolding last_timed
sum_later end later s [] from to =
    let apart : later - s.time ≡ (end - s.time) + (later - end) = omega (arith, from, to) in
    ap (λ n. s.size * n) apart ∙ mul-add s.size (end - s.time) (later - end)
sum_later end later s (next ∷ more) from to =
    ap (λ n. s.size * (next.time - s.time) + n) (sum_later end later next more from to)
    ∙ sym (add_assoc (s.size * (next.time - s.time)) (sum_until end (next ∷ more)) (last_of (map (λ x. x.size) (next ∷ more)) * (later - end)))

last_more : (n : ℕ) (ns : List ℕ) (x : ℕ) → last_of (n ∷ (ns ++ x ∷ [])) ≡ x
last_more n [] x = refl
last_more n (next ∷ more) x = last_more next more x

all_sizes : (time a b c d e f g h : ℕ) → a ≡ b → c ≡ d → e ≡ f → g ≡ h → sized a c e g time ≡ sized b d f h time
all_sizes time a b c d e f g h x y z w = cc

module _ (p : ℕ) (run : MeasuredRun) where
  abbrev first : TimedSize
  first = record { time = run.clock; size = size_on p run.start }

  abbrev others : List TimedSize
  others = map (size_after p) run.occurrences

  abbrev other_sizes : List ℕ
  other_sizes = map (λ (s : TimedSize). s.size) others

  others_more : (marked : MarkedOccurrence) → map (size_after p) (run.occurrences ++ marked ∷ []) ≡ others ++ size_after p marked ∷ []
  others_more marked = map-append (size_after p) run.occurrences (marked ∷ [])

  other_sizes_more : (marked : MarkedOccurrence) → map (λ (s : TimedSize). s.size) (map (size_after p) (run.occurrences ++ marked ∷ [])) ≡ other_sizes ++ size_on p marked.after ∷ []
  other_sizes_more marked = ap (map (λ (s : TimedSize). s.size)) (others_more marked) ∙ map-append (λ (s : TimedSize). s.size) others (size_after p marked ∷ [])

  reduced_more : (f : ℕ → ℕ → ℕ) (marked : MarkedOccurrence) → unwrap_or (reduce f (size_list p (with_occurrence marked run))) 0 ≡ f (unwrap_or (reduce f (size_list p run)) 0) (size_on p marked.after)
  reduced_more f marked = ap (fold f first.size) (other_sizes_more marked) ∙ fold-append f first.size other_sizes (size_on p marked.after ∷ [])

  pub last_with : (marked : MarkedOccurrence) → last_of (size_list p (with_occurrence marked run)) ≡ size_on p marked.after
  last_with marked = ap (λ ns. last_of (first.size ∷ ns)) (other_sizes_more marked) ∙ last_more first.size other_sizes (size_on p marked.after)

  in_time : IsTimely run → last_timed run.clock others ≤ run.last_clock
  in_time timely = subst (λ n. n ≤ run.last_clock) (sym (timed_as_occurrences p run.clock run.occurrences)) timely

  sum_at : (later : ℕ) → IsTimely run → run.last_clock ≤ later
      → sum_until later (sizes_over_time p run) ≡ sum_until run.last_clock (sizes_over_time p run) + last_of (size_list p run) * (later - run.last_clock)
  sum_at later timely to = sum_later run.last_clock later first others (in_time timely) to

  sum_with : (marked : MarkedOccurrence) → IsTimely run → run.last_clock ≤ marked.occurrence.time
      → sum_until marked.occurrence.time (sizes_over_time p (with_occurrence marked run)) ≡ sum_until run.last_clock (sizes_over_time p run) + last_of (size_list p run) * (marked.occurrence.time - run.last_clock)
  sum_with marked timely to =
      ap (λ ss. sum_until marked.occurrence.time (first ∷ ss)) (others_more marked) ∙ sum_more marked.occurrence.time first others (size_after p marked)
      ∙ none_after (size_on p marked.after) marked.occurrence.time (sum_until marked.occurrence.time (sizes_over_time p run)) ∙ sum_at marked.occurrence.time timely to
    where
      none_after : (size time sum : ℕ) → sum + size * (time - time) ≡ sum
      none_after size time sum =
          let no : time - time ≡ 0 = omega arith in
          ap (λ n. sum + size * n) no ∙ omega (arith, mul-zero size)

  sizes_more : (marked : MarkedOccurrence) → IsTimely run → run.last_clock ≤ marked.occurrence.time → (funs : Functions) → measured funs (with_occurrence marked run) (sizes p) ≡ noted funs marked (sizes p) (measured funs run (sizes p))
  sizes_more marked timely to funs =
      all_sizes marked.occurrence.time _ _ _ _ _ _ _ _ (reduced_more min marked) (reduced_more max marked) (last_with marked) (sum_with marked timely to)

  sizes_later : (later : ℕ) → IsTimely run → run.last_clock ≤ later → (funs : Functions) → measured funs (at_clock later run) (sizes p) ≡ measured_until later (measured funs run (sizes p))
  sizes_later later timely to funs = ap (λ n. sized (least_of (size_list p run)) (greatest_of (size_list p run)) (last_of (size_list p run)) n later) (sum_at later timely to)

-- ---- values

reduced_with : (f : ℤ → ℤ → ℤ) (with_one : Option ℤ → Option ℤ) (z : ℤ) → with_one None ≡ Some z → ((y : ℤ) → with_one (Some y) ≡ Some (f y z)) → (xs : List ℤ) → reduce f (xs ++ z ∷ []) ≡ with_one (reduce f xs)
reduced_with f with_one z none some [] = sym none
reduced_with f with_one z none some (x ∷ xs) = ap Some (fold-append f x xs (z ∷ [])) ∙ sym (some (fold f x xs))

integer_more : (outcomes : List (Outcome PlainValue)) (o : Outcome PlainValue) (given : Option ℤ) → integer_given o ≡ given → integers_in (outcomes ++ o ∷ []) ≡ integers_in outcomes ++ option_to_list given
integer_more outcomes o given is = filter_map-append integer_given outcomes (o ∷ []) ∙ ap (λ xs. integers_in outcomes ++ xs) (by (integer_given o) given is)
  where
    by : (g given : Option ℤ) → g ≡ given → cons_option g [] ≡ option_to_list given
    by None given e = ap option_to_list e
    by (Some z) given e = ap option_to_list e

faults_more : (outcomes : List (Outcome PlainValue)) (o : Outcome PlainValue) → faults_in (outcomes ++ o ∷ []) ≡ faults_in outcomes + one_if (is_fault o)
faults_more outcomes o = sum_by-append (λ x. cond (is_fault x) 1 0) outcomes (o ∷ []) ∙ ap (λ n. faults_in outcomes + n) (by (is_fault o))
  where
    by : (b : Bool) → 0 + cond b 1 0 ≡ one_if b
    by true = refl
    by false = refl

all_five : (a b : ℕ) (c d : ℤ) (e f g h : Option ℤ) (i j : ℕ) → a ≡ b → c ≡ d → e ≡ f → g ≡ h → i ≡ j → valued a c e g i ≡ valued b d f h j
all_five a b c d e f g h i j x y z w v = cc

-- the values among outcomes with one more
values_more : (outcomes : List (Outcome PlainValue)) (o : Outcome PlainValue) → values_among (outcomes ++ o ∷ []) ≡ with_fault (is_fault o) (with_integer (integer_given o) (values_among outcomes))
values_more outcomes o = by (integer_given o) (integer_more outcomes o (integer_given o) refl)
  where
    by : (given : Option ℤ) → integers_in (outcomes ++ o ∷ []) ≡ integers_in outcomes ++ option_to_list given
        → values_among (outcomes ++ o ∷ []) ≡ with_fault (is_fault o) (with_integer given (values_among outcomes))
    by None is =
        let same = is ∙ append-nil (integers_in outcomes) in
        ap (λ xs. valued (length xs) (fold ◌+ℤ◌ (pos 0) xs) (reduce int_min xs) (reduce int_max xs) (faults_in (outcomes ++ o ∷ []))) same
        ∙ ap (λ n. valued (length (integers_in outcomes)) (fold ◌+ℤ◌ (pos 0) (integers_in outcomes)) (reduce int_min (integers_in outcomes)) (reduce int_max (integers_in outcomes)) n) (faults_more outcomes o)
    by (Some z) is =
        let zs = integers_in outcomes in
        ap (λ xs. valued (length xs) (fold ◌+ℤ◌ (pos 0) xs) (reduce int_min xs) (reduce int_max xs) (faults_in (outcomes ++ o ∷ []))) is
        ∙ all_five _ _ _ _ _ _ _ _ _ _ (length-append zs (z ∷ [])) (fold-append ◌+ℤ◌ (pos 0) zs (z ∷ [])) (reduced_with int_min (least_with z) z refl (λ y. refl) zs) (reduced_with int_max (greatest_with z) z refl (λ y. refl) zs) (faults_more outcomes o)

pub outcomes_more : (funs : Functions) (t : ℕ) (e : PlainExpr) (occurrences : List MarkedOccurrence) (marked : MarkedOccurrence) → outcomes_of funs t e (occurrences ++ marked ∷ []) ≡ outcomes_of funs t e occurrences ++ (if is_of t marked then meaning_at funs e marked ∷ [] else [])
outcomes_more funs t e occurrences marked = ap (map (meaning_at funs e)) (occurrences_more t occurrences marked) ∙ map-append (meaning_at funs e) (occurrences_of t occurrences) _ ∙ ap (λ os. outcomes_of funs t e occurrences ++ os) (by (is_of t marked))
  where
    by : (b : Bool) → map (meaning_at funs e) (if b then marked ∷ [] else []) ≡ (if b then meaning_at funs e marked ∷ [] else [])
    by true = refl
    by false = refl

values_with : (funs : Functions) (t : ℕ) (e : PlainExpr) (occurrences : List MarkedOccurrence) (marked : MarkedOccurrence) (b : Bool)
    → values_among (outcomes_of funs t e occurrences ++ (if b then meaning_at funs e marked ∷ [] else []))
    ≡ (if b then with_fault (is_fault (meaning_at funs e marked)) (with_integer (integer_given (meaning_at funs e marked)) (values_among (outcomes_of funs t e occurrences))) else values_among (outcomes_of funs t e occurrences))
values_with funs t e occurrences marked true = values_more (outcomes_of funs t e occurrences) (meaning_at funs e marked)
values_with funs t e occurrences marked false = ap values_among (append-nil (outcomes_of funs t e occurrences))

-- ---- an integer, or a fault

no_fault : (m : PlainMeasured) → with_fault false m ≡ m
no_fault (counted n) = refl
no_fault (sized least greatest last sum until) = refl
no_fault (valued count sum least greatest faulted) = ap (λ (n : ℕ). valued count sum least greatest n) (add-zero faulted)
no_fault (counted_to_stop n) = refl
no_fault (sized_to_stop last) = refl

-- An integer more is noted, or a fault.
pub noted_value : (funs : Functions) (marked : MarkedOccurrence) (t : ℕ) (e : PlainExpr) (m : PlainMeasured) (value : Option ℤ) → is_of t marked ≡ true → MeansInteger (meaning_at funs e marked) → value ≡ integer_given (meaning_at funs e marked)
    → with_value value m ≡ noted funs marked (values t e) m
noted_value funs marked t e m value occurs means is = ap (λ v. with_value v m) is ∙ by (meaning_at funs e marked) means ∙ sym (ap (λ b. if b then with_fault (is_fault (meaning_at funs e marked)) (with_integer (integer_given (meaning_at funs e marked)) m) else m) occurs)
  where
    by : (o : Outcome PlainValue) → MeansInteger o → with_value (integer_given o) m ≡ with_fault (is_fault o) (with_integer (integer_given o) m)
    by (gives (int z)) h = sym (no_fault (with_integer (Some z) m))
    by (gives unit) h = absurd h
    by (gives (boolean b)) h = absurd h
    by (gives (constant k)) h = absurd h
    by (gives (text bytes)) h = absurd h
    by (gives (tuple vs)) h = absurd h
    by (gives (bare k)) h = absurd h
    by (gives (applied k v)) h = absurd h
    by (gives (list vs)) h = absurd h
    by (faults fault) h = ap (with_fault true) (same m)
      where
        same : (m' : PlainMeasured) → m' ≡ with_integer None m'
        same (counted n) = refl
        same (sized least greatest last sum until) = refl
        same (valued count sum least greatest faulted) = refl
        same (counted_to_stop n) = refl
        same (sized_to_stop last) = refl
    by no_meaning h = absurd h

-- ---- monitors

-- One occurrence more adds what is noted of it.
pub measured_more : (funs : Functions) (run : MeasuredRun) (marked : MarkedOccurrence) (measure : PlainMeasure) → IsTimely run → run.last_clock ≤ marked.occurrence.time
    → measured funs (with_occurrence marked run) measure ≡ noted funs marked measure (measured funs run measure)
measured_more funs run marked (counts t) timely to = ap counted (count_more t run.occurrences marked)
measured_more funs run marked (sizes p) timely to = sizes_more p run marked timely to funs
measured_more funs run marked (values t e) timely to = ap values_among (outcomes_more funs t e run.occurrences marked) ∙ values_with funs t e run.occurrences marked (is_of t marked)
measured_more funs run marked (stops_by_count t n) timely to = ap counted_to_stop (count_more t run.occurrences marked)
measured_more funs run marked (stops_by_size p bound n) timely to = ap sized_to_stop (last_with p run marked)

-- At a later clock the last sizes have stood until then.
pub measured_later : (funs : Functions) (run : MeasuredRun) (later : ℕ) (measure : PlainMeasure) → IsTimely run → run.last_clock ≤ later
    → measured funs (at_clock later run) measure ≡ measured_until later (measured funs run measure)
measured_later funs run later (counts t) timely to = refl
measured_later funs run later (sizes p) timely to = sizes_later p run later timely to funs
measured_later funs run later (values t e) timely to = refl
measured_later funs run later (stops_by_count t n) timely to = refl
measured_later funs run later (stops_by_size p bound n) timely to = refl
