-- What the texts of a report tell apart: two of them are the same only where what they tell is. Source: own choice.
use Rattle.std.specs.Prelude.{◌≡◌, ℕ, ◌==◌, ◌<◌, ◌^◌, ℤ, unsigned_abs, Bool, true, not, List, map, IfSome}
use Rattle.std.specs.List.{AllByRecursion, list_all, flat_map}
use Rattle.cpn_definitions.specs.Value.{PlainValue}
use Rattle.cpn_definitions.specs.Colour.{PlainColour, admits}
use Rattle.cpn_definitions.specs.DistinctNames.{is_path, HasDistinctNames, HasWellSpelledNames}
use Rattle.cpn_definitions.specs.Integers.{has_short_integers, HasShortIntegers}
use Rattle.cpn_definitions.specs.Named.{has_names}
use Rattle.cpn_definitions.specs.Net.{PlainNet}
use Rattle.cpn_definitions.specs.Occurrence.{PlainElement}
use Rattle.cpn_monitor.specs.MonitorValues.{PlainMeasured, counted, sized, valued, counted_to_stop, sized_to_stop, PlainMonitorValue}
use Rattle.cpn_monitor.specs.Monitors.{PlainMonitor}
use Rattle.cpn_runs.specs.Playable.{IsPlayable}
use Rattle.cpn_runs.specs.Run.{IsRun}
use Rattle.cpn_runs.specs.WithoutSeats.{Kind, without_seats}
use Rattle.cpn_report.specs.Lines.{element_text, ended}
use Rattle.cpn_report.specs.MonitorText.{monitor_text}
use Rattle.cpn_report.specs.Printable.{IsPrintableNet, is_binding_element, IsPrintable}
use Rattle.cpn_report.specs.Report.{ToldRun, report_texts, report_text}
use Rattle.cpn_report.specs.ValueText.{value_text}
use Rattle.cpn_report.specs.declared.traces.Trace.{Trace}
use Rattle.cpn_report.specs.declared.traces.Trace.TheVariants as traces

-- ---- values and elements

-- A net whose texts tell all apart: it can be printed, its names are distinct and well spelled, and its integers are short.
pub record IsTelling (n : PlainNet) : Type 0 where
  pub printable : IsPrintableNet n
  pub distinct : HasDistinctNames n
  pub spelled : HasWellSpelledNames n
  pub short : HasShortIntegers n

-- Two values of a colour set that differ have different texts.
abbrev pub ValuesDiffer : Type 0
ValuesDiffer =
    (n : PlainNet) (colour : PlainColour) (v w : PlainValue) → HasDistinctNames n → HasWellSpelledNames n → has_names n colour.shape ≡ true
    → has_short_integers colour.shape ≡ true → admits colour v ≡ true → admits colour w ≡ true → value_text n colour v ≡ value_text n colour w → v ≡ w

-- Two binding elements of a net that differ have different texts.
abbrev pub ElementsDiffer : Type 0
ElementsDiffer =
    (n : PlainNet) (e f : PlainElement) → IsTelling n → is_binding_element n e ≡ true → is_binding_element n f ≡ true
    → element_text n e ≡ element_text n f → e ≡ f

-- ---- what monitors measured

-- what the line of a monitor tells of what it measured: all but the time up to which a sum counts, which is that of the last clock
abbrev pub without_time : PlainMeasured → PlainMeasured
without_time (counted n) = counted n
without_time (sized least greatest last sum until) = sized least greatest last sum 0
without_time (valued count sum least greatest faulted) = valued count sum least greatest faulted
without_time (counted_to_stop n) = counted_to_stop n
without_time (sized_to_stop last) = sized_to_stop last

-- what the lines of monitors tell
abbrev pub told_values : List PlainMonitorValue → List PlainMonitorValue
told_values values = map (λ value. record { name = value.name; measured = without_time value.measured }) values

-- an integer has 128 bits, without its sign
abbrev pub IsShortInteger : ℤ → Type 0
IsShortInteger z = unsigned_abs z < 2 ^ 128

-- the numbers that a monitor measured have 128 bits, without their signs
abbrev pub HasShortNumbers : PlainMeasured → Type 0
HasShortNumbers (counted n) = n < 2 ^ 128
HasShortNumbers (sized least greatest last sum until) = (least < 2 ^ 128) × (greatest < 2 ^ 128) × (last < 2 ^ 128) × (sum < 2 ^ 128)
HasShortNumbers (valued count sum least greatest faulted) = (count < 2 ^ 128) × IsShortInteger sum × IfSome least IsShortInteger × IfSome greatest IsShortInteger × (faulted < 2 ^ 128)
HasShortNumbers (counted_to_stop n) = n < 2 ^ 128
HasShortNumbers (sized_to_stop last) = last < 2 ^ 128

abbrev pub HaveShortNumbers : List PlainMonitorValue → Type 0
HaveShortNumbers values = AllByRecursion (λ value. HasShortNumbers value.measured) values

-- Two lists of values that differ in what their lines tell have different lines.
abbrev pub MonitorsDiffer : Type 0
MonitorsDiffer =
    (values others : List PlainMonitorValue) → HaveShortNumbers values → HaveShortNumbers others → map monitor_text values ≡ map monitor_text others → told_values values ≡ told_values others

-- the names of the values are well spelled, and those of the monitors: they are paths
abbrev pub HaveSpelledNames : List PlainMonitorValue → Type 0
HaveSpelledNames values = list_all (λ value. is_path value.name) values ≡ true

abbrev pub AreSpelled : List PlainMonitor → Type 0
AreSpelled monitors = list_all (λ monitor. is_path monitor.name) monitors ≡ true

-- ---- lines

-- whether a text has no line feed
abbrev pub is_one_line : List ℕ → Bool
is_one_line text = list_all (λ byte. not (byte == 0x0A)) text

-- A told run whose lines have none but at their ends: it can be printed, and the names of its net and of its values are well spelled.
pub record IsSpelledRun (told : ToldRun) : Type 0 where
  pub spelled : HasWellSpelledNames told.setup.net
  pub values_spelled : HaveSpelledNames told.run.values
  pub printable : IsPrintable told.setup.net told.run

abbrev pub AreSpelledRuns : List ToldRun → Type 0
AreSpelledRuns tolds = AllByRecursion IsSpelledRun tolds

-- No line of a report has a line feed but the one at its end.
abbrev pub LinesEndOnce : Type 0
LinesEndOnce = (trace : Trace) (tolds : List ToldRun) (said : List (List ℕ)) → AreSpelledRuns tolds → list_all is_one_line (report_texts trace tolds said) ≡ true

-- So two lists of texts of lines that differ have different texts as a whole.
abbrev pub LinesDiffer : Type 0
LinesDiffer = (texts others : List (List ℕ)) → list_all is_one_line texts ≡ true → list_all is_one_line others ≡ true → flat_map ended texts ≡ flat_map ended others → texts ≡ others

-- ---- runs

-- A told run that was made: it is one of its setup, which is playable; it can be printed, and the names of its net and of its monitors are
-- well spelled.
pub record IsMadeRun (told : ToldRun) : Type 0 where
  pub spelled : HasWellSpelledNames told.setup.net
  pub monitors_spelled : AreSpelled told.setup.monitors
  pub printable : IsPrintable told.setup.net told.run
  pub playable : IsPlayable told.setup
  pub is_run : IsRun told.setup told.run

abbrev pub AreMadeRuns : List ToldRun → Type 0
AreMadeRuns tolds = AllByRecursion IsMadeRun tolds

-- the journals of runs, but for the seats
abbrev pub journals_told : List ToldRun → List (List (Kind × ℕ))
journals_told tolds = map (λ told. without_seats told.run.journal) tolds

-- Two reports with the trace on that have the same text tell as many runs, and the same journals, but for the seats, whatever probes said.
abbrev pub JournalsDiffer : Type 0
JournalsDiffer =
    (tolds others : List ToldRun) (said other_said : List (List ℕ)) → AreMadeRuns tolds → AreMadeRuns others
    → report_text traces.On tolds said ≡ report_text traces.On others other_said → journals_told tolds ≡ journals_told others

-- what the lines of the monitors of runs tell, run by run
abbrev pub values_told : List ToldRun → List (List PlainMonitorValue)
values_told tolds = map (λ told. told_values told.run.values) tolds

-- the numbers that the monitors of runs measured have 128 bits
abbrev pub AreShortRuns : List ToldRun → Type 0
AreShortRuns tolds = AllByRecursion (λ told. HaveShortNumbers told.run.values) tolds

-- Two reports that have the same text, whatever they leave out, tell as many runs, and of each the same values of its monitors.
abbrev pub ValuesOfRunsDiffer : Type 0
ValuesOfRunsDiffer =
    (trace other_trace : Trace) (tolds others : List ToldRun) (said other_said : List (List ℕ)) → AreSpelledRuns tolds → AreSpelledRuns others
    → AreShortRuns tolds → AreShortRuns others
    → report_text trace tolds said ≡ report_text other_trace others other_said → values_told tolds ≡ values_told others
