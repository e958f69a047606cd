-- What a text, a measure and a monitor are, given what their parts are; and which refusal of a part refuses them.
use Rattle.std.proofs.Common.{◌≡◌, ℕ, List, refl, sym}
use Rattle.std.specs.Prelude.{Option, Some, None, option_map, Result, Ok, Err}
use Rattle.cpn_definitions.specs.Inscription.{PlainExpr}
use Rattle.cpn_definitions.specs.Net.{PlainNet, transition_at}
use Rattle.cpn_document.specs.Monitors.{RawMonitor, count, size, value, stop_count, stop_size}
use Rattle.cpn_document.specs.declared.document.Bound.{Bound}
use Rattle.cpn_text_refusals.specs.Refusals.{typing}
use Rattle.cpn_module_trees.specs.Parsing.{Parsing, parsed, IsInscription}
use Rattle.cpn_monitor.specs.Monitors.{PlainMeasure, counts, sizes, values, stops_by_count, stops_by_size}
use Rattle.cpn_readings.specs.Reading.{Refuses}
use Rattle.cpn_readings.specs.Relations.{just, such_that, RefusesBy}
use Rattle.cpn_readings.proofs.RelatedReadings.{then_read, refused_first, refused_next, just_refused}
use Rattle.cpn_trees.specs.Trees.{PlainAst}
use Rattle.cpn_typing.specs.Answers.{Refuses as Forbids}
use Rattle.cpn_typing.specs.Names.{Declared, Checked, Refusal as TypeRefusal}
use Rattle.cpn_monitor_texts.specs.Answers.{monitor_refusal_of, Checks, ChecksBy}
use Rattle.cpn_monitor_texts.specs.Checked.{bound_of, inscription_so, measure_so, monitor_so}
use Rattle.cpn_monitor_texts.specs.Named.{transition_named, place_named, known}
use Rattle.cpn_monitor_texts.specs.Reading.{MonitorRefusal, bad_text, read}
use Rattle.cpn_monitor_texts.specs.Texts.{accepted_of, inscription_of}
use Rattle.cpn_monitor_texts.specs.Variables.{value_over}
use Rattle.cpn_monitor_texts.specs.declared.refusals.MonitorError.{MonitorError}

-- ---- texts

-- what the rules refuse is refused where it stands
pub refused_of : {A : Type 0} (i : ℕ) (checked : Checked A) (o : Option TypeRefusal) (q : Option MonitorRefusal) → q ≡ option_map (λ r. bad_text i (typing r)) o → Forbids o checked → Refuses q (accepted_of i checked)
refused_of i checked None q is h = rw is tt
refused_of i checked (Some r) q is h = rw (is, h) refl

pub tree_refused : (ds : Declared) (i : ℕ) (vars : List ℕ) (tree : PlainAst) (o : Option TypeRefusal) (q : Option MonitorRefusal) → q ≡ option_map (λ r. bad_text i (typing r)) o → Forbids o (value_over ds vars tree) → Refuses q (inscription_of ds i vars (parsed tree))
unfolding inscription_of
tree_refused ds i vars tree o q is h = refused_of i (value_over ds vars tree) o q is h

module _ (ds : Declared) (i : ℕ) (vars text : List ℕ) (parsing : Parsing PlainAst) (is : IsInscription text parsing) where
  pub text_read : (e : PlainExpr) → inscription_of ds i vars parsing ≡ read e → inscription_so ds i vars text (read e)
  unfolding inscription_so
  text_read e h = then_read (such_that (IsInscription text)) _ parsing (read e) (parsing, is, refl) (sym h)

  pub text_refused : (o : Option MonitorRefusal) → Refuses o (inscription_of ds i vars parsing) → RefusesBy (inscription_so ds i vars text) o
  unfolding inscription_so
  text_refused o h = refused_next (such_that (IsInscription text)) _ parsing o (parsing, is, refl) (just_refused (inscription_of ds i vars parsing) o h)

  -- whatever a call answers of the tree
  pub text_answered : {X : Type 0} (view : X → PlainExpr) (result : Result X MonitorError) → Checks view result (inscription_of ds i vars parsing) → ChecksBy view result (inscription_so ds i vars text)
  text_answered view (Ok x) h = text_read (view x) h
  text_answered view (Err e) h = text_refused (monitor_refusal_of e) h

-- ---- measures

module _ (ds : Declared) (n : PlainNet) (i : ℕ) where
  pub count_read : (name : List ℕ) (t : ℕ) → known i (transition_named n name) ≡ read t → measure_so ds n i (count name) (read (counts t))
  unfolding measure_so
  count_read name t h = then_read (just (known i (transition_named n name))) _ t (read (counts t)) (sym h) refl

  pub count_refused : (name : List ℕ) (o : Option MonitorRefusal) → Refuses o (known i (transition_named n name)) → RefusesBy (measure_so ds n i (count name)) o
  unfolding measure_so
  count_refused name o h = refused_first (just (known i (transition_named n name))) _ o (just_refused (known i (transition_named n name)) o h)

  pub size_read : (name : List ℕ) (p : ℕ) → known i (place_named n name) ≡ read p → measure_so ds n i (size name) (read (sizes p))
  unfolding measure_so
  size_read name p h = then_read (just (known i (place_named n name))) _ p (read (sizes p)) (sym h) refl

  pub size_refused : (name : List ℕ) (o : Option MonitorRefusal) → Refuses o (known i (place_named n name)) → RefusesBy (measure_so ds n i (size name)) o
  unfolding measure_so
  size_refused name o h = refused_first (just (known i (place_named n name))) _ o (just_refused (known i (place_named n name)) o h)

  pub stop_count_read : (name : List ℕ) (number t : ℕ) → known i (transition_named n name) ≡ read t → measure_so ds n i (stop_count name number) (read (stops_by_count t number))
  unfolding measure_so
  stop_count_read name number t h = then_read (just (known i (transition_named n name))) _ t (read (stops_by_count t number)) (sym h) refl

  pub stop_count_refused : (name : List ℕ) (number : ℕ) (o : Option MonitorRefusal) → Refuses o (known i (transition_named n name)) → RefusesBy (measure_so ds n i (stop_count name number)) o
  unfolding measure_so
  stop_count_refused name number o h = refused_first (just (known i (transition_named n name))) _ o (just_refused (known i (transition_named n name)) o h)

  pub stop_size_read : (name : List ℕ) (bound : Bound) (number p : ℕ) → known i (place_named n name) ≡ read p → measure_so ds n i (stop_size name bound number) (read (stops_by_size p (bound_of bound) number))
  unfolding measure_so
  stop_size_read name bound number p h = then_read (just (known i (place_named n name))) _ p (read (stops_by_size p (bound_of bound) number)) (sym h) refl

  pub stop_size_refused : (name : List ℕ) (bound : Bound) (number : ℕ) (o : Option MonitorRefusal) → Refuses o (known i (place_named n name)) → RefusesBy (measure_so ds n i (stop_size name bound number)) o
  unfolding measure_so
  stop_size_refused name bound number o h = refused_first (just (known i (place_named n name))) _ o (just_refused (known i (place_named n name)) o h)

  pub value_unknown : (name text : List ℕ) (o : Option MonitorRefusal) → Refuses o (known i (transition_named n name)) → RefusesBy (measure_so ds n i (value name text)) o
  unfolding measure_so
  value_unknown name text o h = refused_first (just (known i (transition_named n name))) _ o (just_refused (known i (transition_named n name)) o h)

  module _ (name text : List ℕ) (t : ℕ) (there : known i (transition_named n name) ≡ read t) where
    pub value_read : (e : PlainExpr) → inscription_so ds i (transition_at n t).vars text (read e) → measure_so ds n i (value name text) (read (values t e))
    unfolding measure_so
    value_read e h = then_read (just (known i (transition_named n name))) _ t (read (values t e)) (sym there) (then_read (inscription_so ds i (transition_at n t).vars text) _ e (read (values t e)) h refl)

    pub value_refused : (o : Option MonitorRefusal) → RefusesBy (inscription_so ds i (transition_at n t).vars text) o → RefusesBy (measure_so ds n i (value name text)) o
    unfolding measure_so
    value_refused o h = refused_next (just (known i (transition_named n name))) _ t o (sym there) (refused_first (inscription_so ds i (transition_at n t).vars text) _ o h)

  -- ---- monitors

  pub monitor_read : (raw : RawMonitor) (measure : PlainMeasure) → measure_so ds n i raw.kind (read measure) → monitor_so ds n i raw (read (record { name = raw.name; measure = measure }))
  unfolding monitor_so
  monitor_read raw measure h = then_read (measure_so ds n i raw.kind) _ measure (read (record { name = raw.name; measure = measure })) h refl

  pub monitor_refused : (raw : RawMonitor) (o : Option MonitorRefusal) → RefusesBy (measure_so ds n i raw.kind) o → RefusesBy (monitor_so ds n i raw) o
  unfolding monitor_so
  monitor_refused raw o h = refused_first (measure_so ds n i raw.kind) _ o h
