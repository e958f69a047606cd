-- The monitors of a net document: their keys, what stands at them, and the rules that they have to keep, in the order in which
-- they count. Source: own choice.
use Rattle.std.specs.Prelude.{ℕ, ◌^◌, if◌then◌else◌, List, [], ◌∷◌, ◌++◌, Option, Some, None, is_some, codes}
use Rattle.std.specs.Option.{unwrap_or}
use Rattle.std.specs.Str.{bytes_eq}
use Rattle.serde_json.specs.Data.{Data}
use Rattle.cpn_document.specs.Refusals.{shape}
use Rattle.cpn_document.specs.Rules.{Rule}
use Rattle.cpn_document.specs.Parts.{text_at, number_at, items_at, object_rules, text_rules, flat_name_rules, new_name_rules, number_rules, word_rules, list_rules, where_there, each_named}
use Rattle.cpn_document.specs.declared.pointers.Pointer.TheVariants as at
use Rattle.cpn_document.specs.declared.pointers.MonitorPart.TheVariants as of_monitor
use Rattle.cpn_document.specs.declared.document.Bound.{Bound}
use Rattle.cpn_document.specs.declared.document.Bound.TheVariants as bounds
use Rattle.cpn_document.specs.declared.monitors.MonitorForm.{MonitorForm}
use Rattle.cpn_document.specs.declared.monitors.MonitorForm.TheVariants as forms

-- ---- monitors as they are written

-- What is measured: the occurrences of a transition; the tokens on a place; the value of an inscription at each occurrence of a
-- transition. Or what stops a run: the n-th occurrence of a transition; n tokens on a place, at least or at most. Transitions and
-- places are told by their flattened names.
pub data RawMonitorKind : Type 0 where
  count : (transition : List ℕ) → RawMonitorKind
  size : (place : List ℕ) → RawMonitorKind
  value : (transition expr : List ℕ) → RawMonitorKind
  stop_count : (transition : List ℕ) → (n : ℕ) → RawMonitorKind
  stop_size : (place : List ℕ) → (op : Bound) → (n : ℕ) → RawMonitorKind

-- A monitor: its name, and what it measures.
pub record RawMonitor : Type 0 where
  pub name : List ℕ
  pub kind : RawMonitorKind

-- ---- the form of a monitor

-- the form that a word at `kind` gives a monitor
unfoldable pub form_of : List ℕ → Option MonitorForm
form_of word =
    if bytes_eq word (codes "count") then Some forms.Count
    else (if bytes_eq word (codes "size") then Some forms.Size
    else (if bytes_eq word (codes "value") then Some forms.Value
    else (if bytes_eq word (codes "stop_count") then Some forms.StopCount
    else (if bytes_eq word (codes "stop_size") then Some forms.StopSize
    else None))))

-- the form of a monitor, where a word of one stands at its `kind`
abbrev pub form_in : Data → Option MonitorForm
form_in d = form_of (text_at (codes "kind") d)

-- the keys of a monitor of a form, in a document of a version; where it has none, those of all forms
abbrev pub monitor_keys : ℕ → Option MonitorForm → List (List ℕ)
monitor_keys version (Some forms.Count) = codes "name" ∷ codes "kind" ∷ codes "transition" ∷ []
monitor_keys version (Some forms.Size) = codes "name" ∷ codes "kind" ∷ codes "place" ∷ []
monitor_keys version (Some forms.Value) = codes "name" ∷ codes "kind" ∷ codes "transition" ∷ codes "expr" ∷ []
monitor_keys version (Some forms.StopCount) = codes "name" ∷ codes "kind" ∷ codes "transition" ∷ codes "n" ∷ []
monitor_keys version (Some forms.StopSize) = codes "name" ∷ codes "kind" ∷ codes "place" ∷ codes "op" ∷ codes "n" ∷ []
monitor_keys version None = codes "name" ∷ codes "kind" ∷ codes "transition" ∷ codes "place" ∷ codes "expr" ∷ codes "op" ∷ codes "n" ∷ []

-- ---- what stands at the keys

-- the bound of a word
unfoldable pub bound_of : List ℕ → Bound
bound_of word = if bytes_eq word (codes "at_least") then bounds.AtLeast else bounds.AtMost

-- what a monitor of a form measures
abbrev pub kind_in : MonitorForm → Data → RawMonitorKind
kind_in forms.Count d = count (text_at (codes "transition") d)
kind_in forms.Size d = size (text_at (codes "place") d)
kind_in forms.Value d = value (text_at (codes "transition") d) (text_at (codes "expr") d)
kind_in forms.StopCount d = stop_count (text_at (codes "transition") d) (unwrap_or (number_at (codes "n") d) 0)
kind_in forms.StopSize d = stop_size (text_at (codes "place") d) (bound_of (text_at (codes "op") d)) (unwrap_or (number_at (codes "n") d) 0)

-- A monitor; without a form it is as if it counted.
abbrev pub monitor_in : Data → RawMonitor
monitor_in d = record { name = text_at (codes "name") d; kind = kind_in (unwrap_or (form_in d) forms.Count) d }

-- ---- the rules

-- the word of a form stands at `kind`
unfoldable pub form_rules : ℕ → Data → List Rule
form_rules i d = text_rules (codes "kind") (at.Monitor i of_monitor.Whole) (at.Monitor i of_monitor.Kind) d ++ record { kept = is_some (form_in d); refusal = shape (at.Monitor i of_monitor.Kind) } ∷ []

-- the flattened name of a transition, or of a place
unfoldable pub transition_name_rules : ℕ → Data → List Rule
transition_name_rules i d = flat_name_rules (codes "transition") (at.Monitor i of_monitor.Whole) (at.Monitor i of_monitor.Transition) d

unfoldable pub place_name_rules : ℕ → Data → List Rule
place_name_rules i d = flat_name_rules (codes "place") (at.Monitor i of_monitor.Whole) (at.Monitor i of_monitor.Place) d

-- the most occurrences after which a monitor may stop a run, and the most tokens
abbrev pub most_occurrences : ℕ
most_occurrences = 1000000

abbrev pub most_tokens : ℕ
most_tokens = 2 ^ 62

-- What the forms have at their keys: the flattened name of a transition or a place; then a text, or a number of occurrences, or a
-- bound and a number of tokens.
unfoldable pub kind_rules : ℕ → MonitorForm → Data → List Rule
kind_rules i forms.Count d = transition_name_rules i d
kind_rules i forms.Size d = place_name_rules i d
kind_rules i forms.Value d =
    transition_name_rules i d
    ++ text_rules (codes "expr") (at.Monitor i of_monitor.Whole) (at.Monitor i of_monitor.Expr) d
kind_rules i forms.StopCount d =
    transition_name_rules i d
    ++ number_rules 1 most_occurrences (codes "n") (at.Monitor i of_monitor.Whole) (at.Monitor i of_monitor.N) d
kind_rules i forms.StopSize d =
    place_name_rules i d
    ++ word_rules (codes "at_least" ∷ codes "at_most" ∷ []) (codes "op") (at.Monitor i of_monitor.Whole) (at.Monitor i of_monitor.Op) d
    ++ number_rules 0 most_tokens (codes "n") (at.Monitor i of_monitor.Whole) (at.Monitor i of_monitor.N) d

-- A monitor has a new name, a kind, and what that wants.
unfoldable pub monitor_rules : ℕ → ℕ → List (List ℕ) → Data → List Rule
monitor_rules version i earlier d =
    object_rules (monitor_keys version (form_in d)) (at.Monitor i of_monitor.Whole) d
    ++ new_name_rules (codes "name") (at.Monitor i of_monitor.Whole) (at.Monitor i of_monitor.Name) earlier d
    ++ form_rules i d
    ++ kind_rules i (unwrap_or (form_in d) forms.Count) d

-- each of the monitors, no two of one name
unfoldable pub each_monitor : ℕ → List Data → List Rule
each_monitor version ds = each_named (monitor_rules version) 0 [] ds

-- The monitors: maybe a list of them.
unfoldable pub monitors_rules : ℕ → Data → List Rule
monitors_rules version d =
    where_there (codes "monitors") d (list_rules (codes "monitors") at.Root at.Monitors d)
    ++ each_monitor version (items_at (codes "monitors") d)
