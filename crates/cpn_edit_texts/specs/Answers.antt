-- How a call answers what the monitors and the edits of a document are.
use Rattle.std.specs.Prelude.{◌≡◌, Option, Some, None, option_map, Result, Ok, Err}
use Rattle.cpn_core.specs.Faults.{fault_view}
use Rattle.cpn_declared.specs.Answers.{refusal_of as type_refusal_of}
use Rattle.cpn_document.specs.declared.pointers.Pointer.{Pointer}
use Rattle.cpn_text_refusals.specs.Refusals.{no_tree, typing}
use Rattle.cpn_module_trees.specs.Parsing.{lexical, syntactic}
use Rattle.cpn_monitor_texts.specs.Answers.{monitor_refusal_of}
use Rattle.cpn_readings.specs.Reading.{Refuses}
use Rattle.cpn_readings.specs.Relations.{RefusesBy}
use Rattle.cpn_edit_texts.specs.Reading.{EditRefusal, unknown_name, bad_text, faulty, of_monitors, Reading, read}
use Rattle.cpn_edit_texts.specs.declared.refusals.EditError.{EditError}
use Rattle.cpn_edit_texts.specs.declared.refusals.EditError.TheVariants as errors
use Rattle.cpn_edit_texts.specs.declared.refusals.Trouble.{Trouble}
use Rattle.cpn_edit_texts.specs.declared.refusals.Trouble.TheVariants as troubles

-- the refusal of the text at a pointer that a trouble is
abbrev pub trouble_at : Pointer → Trouble → Option EditRefusal
trouble_at at (troubles.Lex e) = Some (bad_text at (no_tree (lexical e)))
trouble_at at (troubles.Syntax e) = Some (bad_text at (no_tree (syntactic e)))
trouble_at at (troubles.Typing e) = option_map (λ r. bad_text at (typing r)) (type_refusal_of e)
trouble_at at (troubles.Eval fault) = Some (faulty at (fault_view fault))

-- the refusal of monitors or edits that an error is; want of memory is none
abbrev pub edit_refusal_of : EditError → Option EditRefusal
edit_refusal_of errors.Memory = None
edit_refusal_of (errors.UnknownName at) = Some (unknown_name at)
edit_refusal_of (errors.Bad at trouble) = trouble_at at trouble
edit_refusal_of (errors.Monitor e) = option_map of_monitors (monitor_refusal_of e)

-- an answer gives the value that was to be read, as it is seen, or its refusal
abbrev pub Edits : {X Y : Type 0} → (X → Y) → Result X EditError → Reading Y → Type 0
Edits view (Ok x) reading = reading ≡ read (view x)
Edits view (Err e) reading = Refuses (edit_refusal_of e) reading

-- the same of what relates to readings
abbrev pub EditsBy : {X Y : Type 0} → (X → Y) → Result X EditError → (Reading Y → Type 0) → Type 0
EditsBy view (Ok x) Reads = Reads (read (view x))
EditsBy view (Err e) Reads = RefusesBy Reads (edit_refusal_of e)
