-- Monitors that are read are accepted, and those that are accepted fit the net: what each measures is in it.
use Rattle.std.proofs.Common.{◌≡◌, ◌<◌, ℕ, suc, List, [], ◌∷◌, length, Option, Some, None, refl, sym, ap, subst}
use Rattle.std.proofs.lemmas.List.{length-map}
use Rattle.cpn_definitions.specs.DistinctNames.{place_names, transition_names}
use Rattle.cpn_definitions.specs.Inscription.{PlainExpr}
use Rattle.cpn_definitions.specs.Net.{PlainNet, PlainTransition, Coloured, transition_at}
use Rattle.cpn_document.specs.Monitors.{RawMonitorKind, RawMonitor, count, size, value, stop_count, stop_size}
use Rattle.cpn_module_trees.specs.Parsing.{Parsing, IsInscription}
use Rattle.cpn_monitor.specs.Fitting.{IsMeasurable, FitNet}
use Rattle.cpn_monitor.specs.Monitors.{PlainMonitor, PlainMeasure, counts, sizes, values, stops_by_count, stops_by_size}
use Rattle.cpn_readings.specs.Relations.{just, such_that}
use Rattle.cpn_readings.proofs.Readings.{same_read, steps}
use Rattle.cpn_readings.proofs.RelatedLists.{AreRead, each_read}
use Rattle.cpn_readings.proofs.RelatedReadings.{step_parts}
use Rattle.cpn_trees.specs.Trees.{PlainAst}
use Rattle.cpn_typing.specs.Consistency.{IsConsistent}
use Rattle.cpn_typing.specs.DeclaresFor.{DeclaresFor}
use Rattle.cpn_typing.specs.Names.{Declared, Checked, ok}
use Rattle.cpn_typing.specs.Names as checks
use Rattle.cpn_definitions.proofs.RisingLists.{each_implied}
use Rattle.cpn_monitor_texts.specs.Accepted.{IsAcceptedMeasure, AreAcceptedMonitors}
use Rattle.cpn_monitor_texts.specs.Checked.{bound_of, inscription_so, measure_so, monitor_so, monitors_so}
use Rattle.cpn_monitor_texts.specs.Named.{transition_named, place_named, known}
use Rattle.cpn_monitor_texts.specs.Reading.{read}
use Rattle.cpn_monitor_texts.specs.Texts.{tree_of, accepted_of, inscription_of}
use Rattle.cpn_monitor_texts.specs.Variables.{value_over}
use Rattle.cpn_names.proofs.FirstOfNames.{number_below}
use Rattle.cpn_monitor_texts.proofs.ValuesOver.{over_is_integer}

-- ---- steps

-- what is named was found
found : (i : ℕ) (o : Option ℕ) (k : ℕ) → known i o ≡ read k → o ≡ Some k
found i None k h = cc
found i (Some j) k h = ap Some (same_read j k h)

accepted : {A : Type 0} (i : ℕ) (c : Checked A) (x : A) → accepted_of i c ≡ read x → c ≡ ok x
accepted i (ok y) x h = ap ok (same_read y x h)
accepted i (checks.refused r) x h = cc

-- a text that is read is over the variables
text_over : (ds : Declared) (i : ℕ) (vars : List ℕ) (parsing : Parsing PlainAst) (e : PlainExpr) → inscription_of ds i vars parsing ≡ read e → (tree : PlainAst) × (value_over ds vars tree ≡ ok e)
unfolding inscription_of
text_over ds i vars parsing e h = let tree = steps _ (tree_of i parsing) e h in (tree.0, accepted i (value_over ds vars tree.0) e tree.2)

so_over : (ds : Declared) (i : ℕ) (vars text : List ℕ) (e : PlainExpr) → inscription_so ds i vars text (read e) → (tree : PlainAst) × (value_over ds vars tree ≡ ok e)
unfolding inscription_so
so_over ds i vars text e h = let parsing = step_parts (such_that (IsInscription text)) _ e h in text_over ds i vars parsing.0 e (sym parsing.2)

pub transition_there : (n : PlainNet) (i : ℕ) (name : List ℕ) (t : ℕ) → known i (transition_named n name) ≡ read t → t < length n.transitions
transition_there n i name t h =
    let below = number_below name (transition_names n) t (found i (transition_named n name) t h) in
    subst (λ (k : ℕ). t < k) (length-map n.transitions (λ (x : PlainTransition). x.name)) below

place_there : (n : PlainNet) (i : ℕ) (name : List ℕ) (p : ℕ) → known i (place_named n name) ≡ read p → p < length n.places
place_there n i name p h =
    let below = number_below name (place_names n) p (found i (place_named n name) p h) in
    subst (λ (k : ℕ). p < k) (length-map n.places (λ (x : Coloured). x.name)) below

module _ (ds : Declared) (n : PlainNet) where
  -- what a monitor measures is in the net, by a text that is accepted
  measure_accepted : (i : ℕ) (kind : RawMonitorKind) (m : PlainMeasure) → measure_so ds n i kind (read m) → IsAcceptedMeasure ds n m
  unfolding measure_so
  measure_accepted i (count name) m h =
      let t = step_parts (just (known i (transition_named n name))) _ m h in
      subst (IsAcceptedMeasure ds n) (sym (same_read m (counts t.0) t.2)) (transition_there n i name t.0 (sym t.1))
  measure_accepted i (size name) m h =
      let p = step_parts (just (known i (place_named n name))) _ m h in
      subst (IsAcceptedMeasure ds n) (sym (same_read m (sizes p.0) p.2)) (place_there n i name p.0 (sym p.1))
  measure_accepted i (value name text) m h =
      let t = step_parts (just (known i (transition_named n name))) _ m h in
      let e = step_parts (inscription_so ds i (transition_at n t.0).vars text) _ m t.2 in
      subst (IsAcceptedMeasure ds n) (sym (same_read m (values t.0 e.0) e.2)) (transition_there n i name t.0 (sym t.1), so_over ds i (transition_at n t.0).vars text e.0 e.1)
  measure_accepted i (stop_count name number) m h =
      let t = step_parts (just (known i (transition_named n name))) _ m h in
      subst (IsAcceptedMeasure ds n) (sym (same_read m (stops_by_count t.0 number) t.2)) (transition_there n i name t.0 (sym t.1))
  measure_accepted i (stop_size name bound number) m h =
      let p = step_parts (just (known i (place_named n name))) _ m h in
      subst (IsAcceptedMeasure ds n) (sym (same_read m (stops_by_size p.0 (bound_of bound) number) p.2)) (place_there n i name p.0 (sym p.1))

  monitor_accepted : (i : ℕ) (raw : RawMonitor) (monitor : PlainMonitor) → monitor_so ds n i raw (read monitor) → IsAcceptedMeasure ds n monitor.measure
  unfolding monitor_so
  monitor_accepted i raw monitor h =
      let measure = step_parts (measure_so ds n i raw.kind) _ monitor h in
      subst (λ (m : PlainMonitor). IsAcceptedMeasure ds n m.measure) (sym (same_read monitor (record { name = raw.name; measure = measure.0 }) measure.2)) (measure_accepted i raw.kind measure.0 measure.1)

  all_accepted : (i : ℕ) (raws : List RawMonitor) (monitors : List PlainMonitor) → AreRead (monitor_so ds n) i raws monitors → AreAcceptedMonitors ds n monitors
  all_accepted i [] [] are = tt
  all_accepted i (raw ∷ raws) (m ∷ monitors) are = (monitor_accepted i raw m are.0, all_accepted (suc i) raws monitors are.1)
  all_accepted i [] (m ∷ monitors) are = absurd are
  all_accepted i (raw ∷ raws) [] are = absurd are

  -- monitors that are read are accepted
  pub monitors_accepted : (raws : List RawMonitor) (monitors : List PlainMonitor) → monitors_so ds n raws (read monitors) → AreAcceptedMonitors ds n monitors
  monitors_accepted raws monitors h = all_accepted 0 raws monitors (each_read (monitor_so ds n) 0 raws monitors h)

  module _ (good : IsConsistent ds) (declares : DeclaresFor ds n) where
    measure_fits : (m : PlainMeasure) → IsAcceptedMeasure ds n m → IsMeasurable n m
    measure_fits (counts t) is = is
    measure_fits (sizes p) is = is
    measure_fits (values t e) is = (is.0, over_is_integer ds good n (record { functions_are = declares.functions; variables_are = declares.variables }) (transition_at n t) is.1.0 e is.1.1)
    measure_fits (stops_by_count t number) is = is
    measure_fits (stops_by_size p bound number) is = is

    -- The law: those that are accepted fit it.
    pub accepted_fit : (monitors : List PlainMonitor) → AreAcceptedMonitors ds n monitors → FitNet n n.functions monitors
    accepted_fit monitors all = record {
      functions_are = refl;
      measurable = each_implied (λ (m : PlainMonitor). IsAcceptedMeasure ds n m.measure) (λ (m : PlainMonitor). IsMeasurable n m.measure) monitors (λ m. measure_fits m.measure) all;
    }
