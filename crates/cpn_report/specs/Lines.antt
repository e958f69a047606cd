-- The lines of a report, and how each is written. Source: own choice.
use Rattle.std.specs.Prelude.{ℕ, if◌then◌else◌, List, [], ◌∷◌, ◌++◌, map, codes, Option, Some, None}
use Rattle.std.specs.List.{flat_map}
use Rattle.std.specs.Fmt.{decimal}
use Rattle.cpn_definitions.specs.Value.{PlainValue}
use Rattle.cpn_definitions.specs.Colour.{PlainColour, is_printable}
use Rattle.cpn_definitions.specs.Marking.{Tokens}
use Rattle.cpn_definitions.specs.Net.{Coloured, PlainNet, variable_at, transition_at}
use Rattle.cpn_definitions.specs.Outcome.{Fault, overflow, divide_by_zero, empty_list, no_case, not_in_colour, bad_coefficient, bad_delay, too_large}
use Rattle.cpn_definitions.specs.Meaning.{PlainBinding}
use Rattle.cpn_definitions.specs.Occurrence.{PlainElement}
use Rattle.cpn_definitions.specs.Legal.{PlainOccurrence}
use Rattle.cpn_monitor.specs.MonitorValues.{PlainMonitorValue}
use Rattle.cpn_runs.specs.State.{PlainEvent, claim_made, claim_completed, clock_moved, cut_made, PlainEnd, dead, steps_made, until_passed, fault_end, stopped_by, wants_memory}
use Rattle.cpn_runs.specs.Run.{Outlook}
use Rattle.cpn_tmset.specs.Listed.{Group, groups}
use Rattle.cpn_report.specs.MonitorText.{value_at, monitor_text}
use Rattle.cpn_report.specs.ValueText.{joined, value_text}
use Rattle.cpn_report.specs.declared.starts.Start.{Start}
use Rattle.cpn_report.specs.declared.starts.Start.TheVariants as starts

-- A line of a run: its opening, with its number, what it starts from, its clock and its outlook; an occurrence; the journal; the cause of
-- the run's end, which may be one of its monitors; how many occurrences there were; the last clock; a place with its tokens; how many
-- elements are ready; the next time; what a monitor measured.
pub data Line : Type 0 where
  run_line : ℕ → Start → ℕ → Outlook → Line
  occurrence_line : PlainOccurrence → Line
  schedule_line : List PlainEvent → Line
  end_line : List PlainMonitorValue → PlainEnd → Line
  occurrences_line : ℕ → Line
  clock_line : ℕ → Line
  place_line : Coloured → Tokens → Line
  ready_line : ℕ → Line
  next_line : Option ℕ → Line
  monitor_line : PlainMonitorValue → Line

-- ---- what lines tell

-- a variable with its value
abbrev pub pair_text : PlainNet → ℕ × PlainValue → List ℕ
pair_text n pair = (variable_at n pair.0).name ++ codes "=" ++ value_text n (variable_at n pair.0).colour pair.1

-- a binding, in declaration order of the variables
unfoldable pub binding_text : PlainNet → PlainBinding → List ℕ
binding_text n b = codes "{" ++ joined (codes ", ") (map (pair_text n) b) ++ codes "}"

-- a binding element: the transition's flattened name, a space, the binding
unfoldable pub element_text : PlainNet → PlainElement → List ℕ
element_text n e = (transition_at n e.transition).name ++ codes " " ++ binding_text n e.binding

-- a time that may be missing
abbrev pub time_text : Option ℕ → List ℕ
time_text None = codes "none"
time_text (Some time) = decimal time

-- an event: c for a claim, d for a completion, with the claim's number; m for a move of the clock, with its time; x for a cut,
-- with the number that it is at
abbrev pub event_text : PlainEvent → List ℕ
event_text (claim_made seat number) = codes " c" ++ decimal number
event_text (claim_completed seat number) = codes " d" ++ decimal number
event_text (clock_moved time) = codes " m" ++ decimal time
event_text (cut_made number) = codes " x" ++ decimal number

-- the number and the name of a fault
abbrev pub fault_text : Fault → List ℕ
fault_text overflow = codes "1 overflow"
fault_text divide_by_zero = codes "2 divide_by_zero"
fault_text empty_list = codes "3 empty_list"
fault_text no_case = codes "4 no_case"
fault_text not_in_colour = codes "5 not_in_colour"
fault_text bad_coefficient = codes "6 bad_coefficient"
fault_text bad_delay = codes "7 bad_delay"
fault_text too_large = codes "8 too_large"

-- the cause of the run's end; that of a stop is told by the name of its monitor, and want of memory is not told
abbrev pub cause_text : PlainNet → List PlainMonitorValue → PlainEnd → List ℕ
cause_text n values dead = codes "dead"
cause_text n values steps_made = codes "steps"
cause_text n values (until_passed time) = codes "until " ++ decimal time
cause_text n values (stopped_by monitor) = codes "stop " ++ (value_at values monitor).name
cause_text n values (fault_end e fault) = codes "fault " ++ fault_text fault ++ codes " " ++ element_text n e
cause_text n values wants_memory = []

-- the marking that a run starts from: the initial one of the net, or the one at which the run before it ended
abbrev pub start_text : Start → List ℕ
start_text starts.Initial = codes "initial"
start_text starts.Here = codes "here"

-- so many tokens of a value of the place's colour set, and their stamp where the place is timed
abbrev pub group_text : PlainNet → PlainColour → Group → List ℕ
group_text n colour g = decimal g.count ++ codes "`" ++ value_text n colour g.token.value ++ (if colour.timed then codes "@" ++ decimal g.token.stamp else [])

abbrev pub tokens_text : PlainNet → PlainColour → Tokens → List ℕ
tokens_text n colour [] = codes "empty"
tokens_text n colour (t ∷ ts) = joined (codes " ++ ") (map (group_text n colour) (groups (t ∷ ts)))

-- ---- the lines

-- the line that opens a run: its number, the marking that it starts from, its clock, and its outlook
unfoldable pub opening_text : ℕ → Start → ℕ → Outlook → List ℕ
opening_text number start clock outlook =
    codes "run " ++ decimal number ++ codes " " ++ start_text start ++ codes " " ++ decimal clock ++ codes " ready " ++ decimal outlook.ready_count ++ codes " next " ++ time_text outlook.next

-- the line of an occurrence: the number of its claim, its time, its element
unfoldable pub occurrence_text : PlainNet → PlainOccurrence → List ℕ
occurrence_text n o = codes "occ " ++ decimal o.number ++ codes " @" ++ decimal o.time ++ codes " " ++ element_text n o.element

-- the line of a journal
unfoldable pub schedule_text : List PlainEvent → List ℕ
schedule_text journal = codes "schedule" ++ flat_map event_text journal

unfoldable pub end_text : PlainNet → List PlainMonitorValue → PlainEnd → List ℕ
end_text n values cause = codes "end " ++ cause_text n values cause

unfoldable pub occurrences_text : ℕ → List ℕ
occurrences_text count = codes "occurrences " ++ decimal count

unfoldable pub clock_text : ℕ → List ℕ
clock_text clock = codes "clock " ++ decimal clock

-- the line of a place: its flattened name and its tokens
unfoldable pub place_text : PlainNet → Coloured → Tokens → List ℕ
place_text n place tokens = codes "place " ++ place.name ++ codes " " ++ tokens_text n place.colour tokens

unfoldable pub ready_text : ℕ → List ℕ
ready_text count = codes "ready " ++ decimal count

unfoldable pub next_text : Option ℕ → List ℕ
next_text time = codes "next " ++ time_text time

-- Text of a line, without its line feed. A line tells what it is by its first word, which no other kind has.
abbrev pub line_text : PlainNet → Line → List ℕ
line_text n (run_line number start clock outlook) = opening_text number start clock outlook
line_text n (occurrence_line o) = occurrence_text n o
line_text n (schedule_line journal) = schedule_text journal
line_text n (end_line values cause) = end_text n values cause
line_text n (occurrences_line count) = occurrences_text count
line_text n (clock_line clock) = clock_text clock
line_text n (place_line place tokens) = place_text n place tokens
line_text n (ready_line count) = ready_text count
line_text n (next_line time) = next_text time
line_text n (monitor_line value) = monitor_text value

-- ---- the lines of a report that are of no run, each with a first word of its own

-- the first line
abbrev pub first_text : List ℕ
first_text = codes "report 1"

-- a byte of a probe's text as it is shown: `?` for one that is outside 0x20 to 0x7E
abbrev pub shown_byte : ℕ → ℕ
shown_byte byte = if is_printable byte then byte else 0x3F

-- the line of a probe: its number, and its text
unfoldable pub probe_text : ℕ → List ℕ → List ℕ
probe_text number text = codes "probe " ++ decimal number ++ codes " " ++ map shown_byte text

-- the last line: how many occurrences there were in all runs
unfoldable pub total_text : ℕ → List ℕ
total_text count = codes "total " ++ decimal count

-- ---- the text of lines

-- a text as a line: with a line feed at its end
abbrev pub ended : List ℕ → List ℕ
ended text = text ++ codes "\n"

-- lines one after another, each ended by a line feed
abbrev pub lines_text : PlainNet → List Line → List ℕ
lines_text n lines = flat_map (λ line. ended (line_text n line)) lines
