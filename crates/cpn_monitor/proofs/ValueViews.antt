-- The plain values of lists of monitors and of what they measured, item by item.
use Rattle.std.proofs.Common.{◌≡◌, ◌∙◌, refl, sym, ap, subst, ℕ, zero, suc, ◌+◌, ◌<◌, List, [], ◌∷◌, ◌++◌, length, map, take, drop, get_or, set, ap₂, Some, slice_get, arith}
use Rattle.std.specs.List.{AllByRecursion}
use Rattle.std.proofs.lemmas.List.{map-set, length-map}
use Rattle.std.proofs.lemmas.Option.{slice_get_within}
use Rattle.std.proofs.lemmas.List.Edits.{map_over_more}
use Rattle.cpn_monitor.specs.Kept.{values_until}
use Rattle.cpn_monitor.specs.MeasuredRuns.{MarkedOccurrence}
use Rattle.cpn_monitor.specs.Monitors.{PlainMonitor}
use Rattle.cpn_monitor.specs.MonitorValues.{PlainMeasured, PlainMonitorValue}
use Rattle.cpn_monitor.specs.Noted.{measured_until, IsUpTo, PlainNoted, with_measured, with_noted, stops_at, stops_so, stops_number}
use Rattle.cpn_monitor.specs.Views.{monitor_view, measure_view, measured_view, value_view, noted_view}
use Rattle.cpn_monitor.specs.declared.monitors.Monitor.{Monitor}
use Rattle.cpn_monitor.specs.declared.noting.Noted.{Noted}
use Rattle.cpn_monitor.specs.declared.values.Measured.{Measured}
use Rattle.cpn_monitor.specs.declared.values.MonitorValue.{MonitorValue}

-- what an item of a list is seen as is the item of what the list is seen as
pub view_at : {A B : Type 0} (view : A → B) (xs : List A) (i : ℕ) (x : A) → x ≡ get_or xs i x → view x ≡ get_or (map view xs) i (view x)
view_at view [] i x is = refl
view_at view (y ∷ xs) zero x is = ap view is
view_at view (y ∷ xs) (suc i) x is = view_at view xs i x is

-- what holds of each item holds of one
pub all_at : {A : Type 0} (P : A → Type 0) (xs : List A) (i : ℕ) (d : A) → AllByRecursion P xs → i < length xs → P (get_or xs i d)
all_at P [] i d all lt = absurd (omega arith)
all_at P (x ∷ xs) zero d all lt = all.0
all_at P (x ∷ xs) (suc i) d all lt = all_at P xs i d all.1 (omega (arith, lt))

pub seen_here : (P : PlainMonitor → Type 0) (monitors : List Monitor) (i : ℕ) (m : Monitor) → AllByRecursion P (map monitor_view monitors) → i < length monitors → m ≡ get_or monitors i m → P (monitor_view m)
seen_here P monitors i m all lt is = subst P (sym (view_at monitor_view monitors i m is)) (all_at P (map monitor_view monitors) i (monitor_view m) all (subst (λ n. i < n) (sym (length-map monitors monitor_view)) lt))

-- an item that is read is what stands at the number
pub read_view : {A B : Type 0} (view : A → B) (xs : List A) (i : ℕ) (x : A) → i < length xs → x ≡ get_or xs i x → slice_get (map view xs) i ≡ Some (view x)
read_view view [] i x lt is = absurd (omega arith)
read_view view (y ∷ xs) zero x lt is = ap (λ z. Some (view z)) (sym is)
read_view view (y ∷ xs) (suc i) x lt is = read_view view xs i x (omega arith) is

pub within_view : {A B : Type 0} (view : A → B) (xs : List A) (i : ℕ) (y : B) → slice_get (map view xs) i ≡ Some y → i < length xs
within_view view xs i y is = let lt = slice_get_within (map view xs) i y is in let long = length-map xs view in omega (arith, lt, long)

-- whether the monitor of a number stops the run
pub stops_here : (marked : MarkedOccurrence) (monitors : List Monitor) (values : List MonitorValue) (k : ℕ) (m : Monitor) (v : MonitorValue) → k < length monitors → length values ≡ length monitors → m ≡ get_or monitors k m → v ≡ get_or values k v
    → stops_number marked (map monitor_view monitors) (map value_view values) k ≡ stops_at marked (measure_view m.measure) (measured_view v.measured)
stops_here marked monitors values k m v lt many m_is v_is = ap₂ (stops_so marked) (read_view monitor_view monitors k m lt m_is) (read_view value_view values k v (omega (arith, lt, many)) v_is)

-- ---- what is noted

-- one more of what was noted
pub noted_more : (xs : List PlainNoted) (x : PlainNoted) (vs : List PlainMonitorValue) → with_noted (xs ++ x ∷ []) vs ≡ with_measured x.number x.measured (with_noted xs vs)
noted_more [] x vs = refl
noted_more (y ∷ xs) x vs = noted_more xs x (with_measured y.number y.measured vs)

-- a number is put into its value
pub put_at : (now : List MonitorValue) (i : ℕ) (v : MonitorValue) (m : Measured) → v ≡ get_or now i v → map value_view (set now i (record v { measured = m })) ≡ with_measured i (measured_view m) (map value_view now)
put_at [] i v m is = refl
put_at (w ∷ ws) zero v m is = ap (λ (u : MonitorValue). value_view (record u { measured = m }) ∷ map value_view ws) is
put_at (w ∷ ws) (suc i) v m is = ap (λ vs. value_view w ∷ vs) (put_at ws i v m is)

-- ---- a later clock

-- an item that was not changed yet
unchanged_yet : {A : Type 0} (f : A → A) (xs : List A) (i : ℕ) (x : A) → i < length xs → x ≡ get_or (map f (take i xs) ++ drop i xs) i x → x ≡ get_or xs i x
unchanged_yet f [] i x lt is = absurd (omega arith)
unchanged_yet f (y ∷ xs) zero x lt is = is
unchanged_yet f (y ∷ xs) (suc i) x lt is = unchanged_yet f xs i x (omega arith) is

abbrev until_clock : ℕ → PlainMonitorValue → PlainMonitorValue
until_clock clock v = record v { measured = measured_until clock v.measured }

-- what was measured before the clock
pub up_to_here : (clock : ℕ) (old now : List MonitorValue) (i : ℕ) (v : MonitorValue)
    → AllByRecursion (λ value. IsUpTo clock value.measured) (map value_view old)
    → map value_view now ≡ values_until clock (take i (map value_view old)) ++ drop i (map value_view old)
    → v ≡ get_or now i v → i < length old → IsUpTo clock (measured_view v.measured)
up_to_here clock old now i v all so_far is lt =
    let long : i < length (map value_view old) = subst (λ n. i < n) (sym (length-map old value_view)) lt in
    let here : value_view v ≡ get_or (map value_view old) i (value_view v) = unchanged_yet (until_clock clock) (map value_view old) i (value_view v) long (view_at value_view now i v is ∙ ap (λ vs. get_or vs i (value_view v)) so_far) in
    subst (λ (w : PlainMonitorValue). IsUpTo clock w.measured) (sym here) (all_at (λ value. IsUpTo clock value.measured) (map value_view old) i (value_view v) all long)

-- as many as before
as_many_yet : {A : Type 0} (f : A → A) (xs : List A) (i : ℕ) → length (map f (take i xs) ++ drop i xs) ≡ length xs
as_many_yet f [] zero = refl
as_many_yet f [] (suc i) = refl
as_many_yet f (x ∷ xs) zero = refl
as_many_yet f (x ∷ xs) (suc i) = ap (λ (n : ℕ). suc n) (as_many_yet f xs i)

-- an item that is read twice is the same
read_twice : {A : Type 0} (xs : List A) (i : ℕ) (v w : A) → i < length xs → v ≡ get_or xs i v → w ≡ get_or xs i w → v ≡ w
read_twice [] i v w lt v_is w_is = absurd (omega arith)
read_twice (x ∷ xs) zero v w lt v_is w_is = v_is ∙ sym w_is
read_twice (x ∷ xs) (suc i) v w lt v_is w_is = read_twice xs i v w (omega arith) v_is w_is

pub until_at : (clock : ℕ) (old now : List MonitorValue) (i : ℕ) (v w : MonitorValue) (m : Measured)
    → map value_view now ≡ values_until clock (take i (map value_view old)) ++ drop i (map value_view old)
    → v ≡ get_or now i v → w ≡ get_or now i w → measured_view m ≡ measured_until clock (measured_view w.measured) → i < length old
    → map value_view (set now i (record v { measured = m })) ≡ values_until clock (take (i + 1) (map value_view old)) ++ drop (i + 1) (map value_view old)
until_at clock old now i v w m so_far v_is w_is m_is lt =
    let long : i < length (map value_view old) = subst (λ n. i < n) (sym (length-map old value_view)) lt in
    let many = sym (length-map now value_view) ∙ ap (λ (vs : List PlainMonitorValue). length vs) so_far ∙ as_many_yet (until_clock clock) (map value_view old) i in
    let within : i < length now = omega (arith, long, many) in
    let same : v ≡ w = read_twice now i v w within v_is w_is in
    map-set value_view now i (record v { measured = m })
    ∙ ap (λ (x : PlainMeasured). set (map value_view now) i (record (value_view v) { measured = x })) (m_is ∙ ap (λ (x : MonitorValue). measured_until clock (measured_view x.measured)) (sym same))
    ∙ map_over_more (until_clock clock) (map value_view old) (map value_view now) i (value_view v) long so_far (view_at value_view now i v v_is)

-- ---- the numbers of what was noted

pub numbers_same : (xs : List Noted) → map (λ (x : PlainNoted). x.number) (map noted_view xs) ≡ map (λ (x : Noted). x.number) xs
numbers_same [] = refl
numbers_same (x ∷ xs) = ap (λ ks. x.number ∷ ks) (numbers_same xs)

pub numbers_all : (P : ℕ → Type 0) (xs : List Noted) → AllByRecursion P (map (λ (x : Noted). x.number) xs) → AllByRecursion (λ (x : Noted). P x.number) xs
numbers_all P [] all = tt
numbers_all P (x ∷ xs) all = (all.0, numbers_all P xs all.1)
