-- Monitors are at most one thing in a net.
use Rattle.std.proofs.Common.{ℕ, List}
use Rattle.cpn_definitions.specs.Net.{PlainNet, transition_at}
use Rattle.cpn_document.specs.Monitors.{RawMonitorKind, RawMonitor, count, size, value, stop_count, stop_size}
use Rattle.cpn_module_trees.specs.Parsing.{IsInscription}
use Rattle.cpn_readings.specs.Relations.{just, such_that, HasOne}
use Rattle.cpn_readings.proofs.RelatedReadings.{IsOne, just_one, such_one, then_one, each_so_one}
use Rattle.cpn_typing.specs.Names.{Declared}
use Rattle.cpn_monitor_texts.specs.Checked.{inscription_so, measure_so, monitor_so, monitors_so}
use Rattle.cpn_monitor_texts.specs.Named.{transition_named, place_named, known}

-- a text is parsed as one thing
one_parsing : (text : List ℕ) → IsOne (IsInscription text)
one_parsing text p q h k = k.only p h.comes

module _ (ds : Declared) (n : PlainNet) (i : ℕ) where
  text_one : (vars text : List ℕ) → HasOne (inscription_so ds i vars text)
  unfolding inscription_so
  text_one vars text = then_one (such_that (IsInscription text)) _ (such_one (IsInscription text) (one_parsing text)) (λ parsing. just_one _)

  measure_one : (kind : RawMonitorKind) → HasOne (measure_so ds n i kind)
  unfolding measure_so
  measure_one (count name) = then_one (just (known i (transition_named n name))) _ (just_one _) (λ t. just_one _)
  measure_one (size name) = then_one (just (known i (place_named n name))) _ (just_one _) (λ p. just_one _)
  measure_one (value name text) =
      then_one (just (known i (transition_named n name))) _ (just_one _) (λ t. then_one (inscription_so ds i (transition_at n t).vars text) _ (text_one (transition_at n t).vars text) (λ e. just_one _))
  measure_one (stop_count name number) = then_one (just (known i (transition_named n name))) _ (just_one _) (λ t. just_one _)
  measure_one (stop_size name bound number) = then_one (just (known i (place_named n name))) _ (just_one _) (λ p. just_one _)

  monitor_one : (raw : RawMonitor) → HasOne (monitor_so ds n i raw)
  unfolding monitor_so
  monitor_one raw = then_one (measure_so ds n i raw.kind) _ (measure_one raw.kind) (λ measure. just_one _)

-- The law.
pub monitors_one : (ds : Declared) (n : PlainNet) (raws : List RawMonitor) → HasOne (monitors_so ds n raws)
monitors_one ds n raws = each_so_one (monitor_so ds n) (monitor_one ds n) 0 raws
