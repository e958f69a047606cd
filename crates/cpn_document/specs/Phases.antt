-- The phases of a net document and their edits: their keys, what stands at them, and the rules that they have to keep, in the
-- order in which they count. Source: own choice.
use Rattle.std.specs.Prelude.{◌≡◌, ℕ, ◌==◌, if◌then◌else◌, nat_le, List, [], ◌∷◌, ◌++◌, length, map, Option, Some, None, is_some, codes}
use Rattle.std.specs.Option.{unwrap_or}
use Rattle.std.specs.Str.{bytes_eq}
use Rattle.serde_json.specs.Data.{Data}
use Rattle.cpn_document.specs.Refusals.{shape}
use Rattle.cpn_document.specs.Rules.{Rule, each_item}
use Rattle.cpn_document.specs.Parts.{text_at, items_at, object_rules, text_rules, flat_name_rules, word_rules, list_rules, where_there, limit_rules}
use Rattle.cpn_document.specs.declared.pointers.Pointer.{Pointer}
use Rattle.cpn_document.specs.declared.pointers.Pointer.TheVariants as at
use Rattle.cpn_document.specs.declared.pointers.PhasePart.TheVariants as of_phase
use Rattle.cpn_document.specs.declared.pointers.EditPart.{EditPart}
use Rattle.cpn_document.specs.declared.pointers.EditPart.TheVariants as of_edit
use Rattle.cpn_document.specs.declared.document.Start.{Start}
use Rattle.cpn_document.specs.declared.document.Start.TheVariants as starts
use Rattle.cpn_document.specs.declared.edits.EditForm.{EditForm}
use Rattle.cpn_document.specs.declared.edits.EditForm.TheVariants as forms
use Rattle.cpn_document.specs.declared.refusals.Limit.TheVariants as limits

-- ---- phases as they are written

-- An edit: another guard of a transition, or another initial marking of a place, by its flattened name, with the text of it.
pub data RawEdit : Type 0 where
  guard : (transition text : List ℕ) → RawEdit
  initial : (place text : List ℕ) → RawEdit

-- A phase: from where it starts, and its edits.
pub record RawPhase : Type 0 where
  pub start : Start
  pub edits : List RawEdit

-- ---- edits

-- the form that a word at `kind` gives an edit
unfoldable pub form_of : List ℕ → Option EditForm
form_of word = if bytes_eq word (codes "guard") then Some forms.Guard else (if bytes_eq word (codes "initial") then Some forms.Initial else None)

-- the form of an edit, where a word of one stands at its `kind`
abbrev pub form_in : Data → Option EditForm
form_in d = form_of (text_at (codes "kind") d)

-- the keys of an edit of a form, in a document of a version; where it has none, those of both
abbrev pub edit_keys : ℕ → Option EditForm → List (List ℕ)
edit_keys version (Some forms.Guard) = codes "kind" ∷ codes "transition" ∷ codes "text" ∷ []
edit_keys version (Some forms.Initial) = codes "kind" ∷ codes "place" ∷ codes "text" ∷ []
edit_keys version None = codes "kind" ∷ codes "transition" ∷ codes "place" ∷ codes "text" ∷ []

-- what an edit of a form changes
abbrev pub change_in : EditForm → Data → RawEdit
change_in forms.Guard d = guard (text_at (codes "transition") d) (text_at (codes "text") d)
change_in forms.Initial d = initial (text_at (codes "place") d) (text_at (codes "text") d)

-- An edit; without a form it is as if it were one of a guard.
abbrev pub edit_in : Data → RawEdit
edit_in d = change_in (unwrap_or (form_in d) forms.Guard) d

-- a part of an edit, by the numbers of its phase and its own
abbrev pub at_edit : ℕ → ℕ → EditPart → Pointer
at_edit p e part = at.Phase p (of_phase.Edit e part)

-- the word of a form stands at `kind`
unfoldable pub form_rules : ℕ → ℕ → Data → List Rule
form_rules p e d = text_rules (codes "kind") (at_edit p e of_edit.Whole) (at_edit p e of_edit.Kind) d ++ record { kept = is_some (form_in d); refusal = shape (at_edit p e of_edit.Kind) } ∷ []

-- what the forms have at their keys: the flattened name of a transition or a place, then a text
unfoldable pub change_rules : ℕ → ℕ → EditForm → Data → List Rule
change_rules p e forms.Guard d =
    flat_name_rules (codes "transition") (at_edit p e of_edit.Whole) (at_edit p e of_edit.Transition) d
    ++ text_rules (codes "text") (at_edit p e of_edit.Whole) (at_edit p e of_edit.Text) d
change_rules p e forms.Initial d =
    flat_name_rules (codes "place") (at_edit p e of_edit.Whole) (at_edit p e of_edit.Place) d
    ++ text_rules (codes "text") (at_edit p e of_edit.Whole) (at_edit p e of_edit.Text) d

-- An edit has a kind, and what that wants.
unfoldable pub edit_rules : ℕ → ℕ → ℕ → Data → List Rule
edit_rules version p e d =
    object_rules (edit_keys version (form_in d)) (at_edit p e of_edit.Whole) d
    ++ form_rules p e d
    ++ change_rules p e (unwrap_or (form_in d) forms.Guard) d

-- each of the edits of a phase
unfoldable pub each_edit : ℕ → ℕ → List Data → List Rule
each_edit version p ds = each_item (edit_rules version p) 0 ds

-- ---- phases

-- the start of a word
unfoldable pub start_of : List ℕ → Start
start_of word = if bytes_eq word (codes "here") then starts.Here else starts.Initial

abbrev pub phase_in : Data → RawPhase
phase_in d = record { start = start_of (text_at (codes "start") d); edits = map edit_in (items_at (codes "edits") d) }

-- the words that may stand at the start of a phase: the first one starts from the initial marking
abbrev pub start_words : ℕ → List (List ℕ)
start_words p = if p == 0 then codes "initial" ∷ [] else codes "initial" ∷ codes "here" ∷ []

-- the keys of a phase, in a document of a version
abbrev pub phase_keys : ℕ → List (List ℕ)
phase_keys version = codes "start" ∷ codes "edits" ∷ []

-- A phase has a start, and maybe edits.
unfoldable pub phase_rules : ℕ → ℕ → Data → List Rule
phase_rules version p d =
    object_rules (phase_keys version) (at.Phase p of_phase.Whole) d
    ++ word_rules (start_words p) (codes "start") (at.Phase p of_phase.Whole) (at.Phase p of_phase.Start) d
    ++ where_there (codes "edits") d (list_rules (codes "edits") (at.Phase p of_phase.Whole) (at.Phase p of_phase.Edits) d)
    ++ each_edit version p (items_at (codes "edits") d)

-- the most phases of a document
abbrev pub most_phases : ℕ
most_phases = 64

-- the first of some phases starts from the initial marking
abbrev pub StartInitially : List RawPhase → Type 0
StartInitially [] = Unit {0}
StartInitially (first ∷ others) = first.start ≡ starts.Initial

-- each of the phases
unfoldable pub each_phase : ℕ → List Data → List Rule
each_phase version ds = each_item (phase_rules version) 0 ds

-- The phases: maybe a list of them, not too many. They are counted before they are looked at.
unfoldable pub phases_rules : ℕ → Data → List Rule
phases_rules version d =
    where_there (codes "phases") d (list_rules (codes "phases") at.Root at.Phases d)
    ++ limit_rules (nat_le (length (items_at (codes "phases") d)) most_phases) limits.Phases
    ++ each_phase version (items_at (codes "phases") d)
