-- How a call answers what the monitors of a document are.
use Rattle.std.specs.Prelude.{◌≡◌, Option, Some, None, option_map, Result, Ok, Err}
use Rattle.cpn_text_refusals.specs.Answers.{text_refusal_of}
use Rattle.cpn_readings.specs.Reading.{Refuses}
use Rattle.cpn_readings.specs.Relations.{RefusesBy}
use Rattle.cpn_monitor_texts.specs.Reading.{MonitorRefusal, unknown_name, bad_text, Reading, read}
use Rattle.cpn_monitor_texts.specs.declared.refusals.MonitorError.{MonitorError}
use Rattle.cpn_monitor_texts.specs.declared.refusals.MonitorError.TheVariants as errors

-- the refusal of monitors that an error is; want of memory is none
abbrev pub monitor_refusal_of : MonitorError → Option MonitorRefusal
monitor_refusal_of errors.Memory = None
monitor_refusal_of (errors.UnknownName i) = Some (unknown_name i)
monitor_refusal_of (errors.Bad i e) = option_map (bad_text i) (text_refusal_of e)

-- an answer gives the value that was to be read, as it is seen, or its refusal
abbrev pub Checks : {X Y : Type 0} → (X → Y) → Result X MonitorError → Reading Y → Type 0
Checks view (Ok x) reading = reading ≡ read (view x)
Checks view (Err e) reading = Refuses (monitor_refusal_of e) reading

-- the same of what relates to readings
abbrev pub ChecksBy : {X Y : Type 0} → (X → Y) → Result X MonitorError → (Reading Y → Type 0) → Type 0
ChecksBy view (Ok x) Reads = Reads (read (view x))
ChecksBy view (Err e) Reads = RefusesBy Reads (monitor_refusal_of e)
