-- The options that the program's words give: those that clap reads by the command line below. Source: own
-- choice, over clap's specification of a simple command.
use Rattle.std.specs.Prelude.{ℕ, ◌^◌, ◌-◌, true, if◌then◌else◌, List, [], ◌∷◌, codes, Option, Some, None, option_and_then, unwrap_or}
use Rattle.std.specs.Str.{bytes_eq}
use Rattle.std.specs.Str.Parse.{digits_value, without_leading_plus}
use Rattle.cpn_definitions.specs.Times.{last_time}
use Rattle.cpn_runs.specs.Bounds.{most_steps}
use Rattle.clap.specs.Words.{App, Kinds, Row, Rule, fault_of, first_of, matches_of, new_app, new_rule}
use Rattle.clap.specs.Simple.{on_top}
use Rattle.clap.specs.declared.builder.action.ArgAction.TheVariants.{Set}
use Rattle.clap.specs.declared.builder.value_parser.ValueParser.TheVariants as vp
use Rattle.cpn_report.specs.declared.traces.Trace.{Trace}
use Rattle.cpn_report.specs.declared.traces.Trace.TheVariants as traces
use Rattle.cpn_simulation.specs.declared.options.Mode.{Mode}
use Rattle.cpn_simulation.specs.declared.options.Mode.TheVariants as modes

-- The options: what the program does; the seed of the draws, which in mode large is the number of the generated net too; how many workers
-- make each run; how many claims the runs may make together; the last time that each may reach; and which of their lines are told.
pub record PlainOptions : Type 0 where
  pub mode : Mode
  pub seed : ℕ
  pub workers : ℕ
  pub steps : ℕ
  pub until : ℕ
  pub trace : Trace

-- an option with a value, which has a default: `--name value` or `--name=value`, at most once
abbrev pub option : List ℕ → List ℕ → Rule
option name default = record (new_rule name) { long = Some name; action = Some Set; defaults = default ∷ [] }

-- an option whose value is a number from `least` to `most`
abbrev pub number_option : List ℕ → ℕ → ℕ → List ℕ → Rule
number_option name least most default = record (option name default) { parser = Some (vp.Unsigned least most) }

abbrev pub the_options : List Rule
the_options =
    option (codes "mode") (codes "run")
    ∷ number_option (codes "seed") 0 (2 ^ 64 - 1) (codes "0")
    ∷ number_option (codes "workers") 1 64 (codes "1")
    ∷ number_option (codes "steps") 1 most_steps (codes "1000")
    ∷ number_option (codes "until") 0 last_time (codes "4611686018427387904")
    ∷ option (codes "trace") (codes "on")
    ∷ []

-- The command line: these options, no name of a program before them, and no help.
abbrev pub command_line : App
command_line = on_top (λ s. record s { rules = the_options; no_binary_name = true; disable_help_flag = true }) (new_app (codes "cpn_sim"))

infixl 10 ◌>>=◌
abbrev pub ◌>>=◌ : {A B : Type 0} → Option A → (A → Option B) → Option B
o >>= f = option_and_then f o

-- the value of an option, as it is written: each has one, by its default if the words give none
abbrev pub value_of : List ℕ → List Row → List ℕ
value_of name rows = unwrap_or (first_of name rows) []

-- the number that a text spells, with or without a `+`
abbrev pub number_text : List ℕ → ℕ
number_text text = digits_value 10 (without_leading_plus text)

-- the value of an option whose value is a number
abbrev pub number_of : List ℕ → List Row → ℕ
number_of name rows = number_text (value_of name rows)

-- the trace of a name: on or off
unfoldable pub trace_of : List ℕ → Option Trace
trace_of name = if bytes_eq name (codes "on") then Some traces.On else (if bytes_eq name (codes "off") then Some traces.Off else None)

-- the mode of a name: run or large
unfoldable pub mode_of : List ℕ → Option Mode
mode_of name = if bytes_eq name (codes "run") then Some modes.Run else (if bytes_eq name (codes "large") then Some modes.Large else None)

-- the lines that are told in a mode: in mode run those of the trace that is asked for, and in mode large neither a trace nor the places
unfoldable pub trace_in : Mode → Trace → Trace
trace_in modes.Run trace = trace
trace_in modes.Large trace = traces.Brief

-- The options that the matches give.
unfoldable pub options_in : List Row → Option PlainOptions
options_in rows = do
  mode ← mode_of (value_of (codes "mode") rows)
  trace ← trace_of (value_of (codes "trace") rows)
  Some (record {
    mode = mode;
    seed = number_of (codes "seed") rows;
    workers = number_of (codes "workers") rows;
    steps = number_of (codes "steps") rows;
    until = number_of (codes "until") rows;
    trace = trace_in mode trace;
  })

-- nothing, where the command has a fault
abbrev pub unless_faulty : Kinds → Option PlainOptions → Option PlainOptions
unless_faulty [] options = options
unless_faulty (kind ∷ kinds) options = None

-- Options: those that clap's matches of the words give. None refuses them: the command has a fault at them,
-- or the mode or the trace is no name above.
unfoldable pub options_from : List (List ℕ) → Option PlainOptions
options_from words = unless_faulty (fault_of command_line words) (options_in (matches_of command_line words))
