-- The error lines of models that are refused. Source: own choice.
use Rattle.std.specs.Prelude.{ℕ, List, codes}
use Rattle.cpn_document.specs.declared.pointers.MonitorPart.TheVariants as of_part
use Rattle.cpn_document.specs.declared.pointers.Pointer.TheVariants as at
use Rattle.cpn_edit_texts.specs.Reading.{EditRefusal, unknown_name, bad_text, faulty, of_monitors}
use Rattle.cpn_file.specs.FaultLines.{fault_line}
use Rattle.cpn_file.specs.PointerTexts.{pointer_text}
use Rattle.cpn_file.specs.Reading.{of_net}
use Rattle.cpn_file.specs.Refusals.{numbered_line, refusal_line}
use Rattle.cpn_module_nets.specs.Reading.{inscription}
use Rattle.cpn_monitor_texts.specs.Reading as monitors
use Rattle.cpn_monitor_texts.specs.Reading.{MonitorRefusal}
use Rattle.cpn_model.specs.Reading.{ModelRefusal, of_document, of_edits}

-- The line of a refusal of the monitors: that of an unknown name carries the pointer of the monitor; a text is refused at its pointer, as
-- the other texts of a document are.
abbrev pub monitor_line : MonitorRefusal → List ℕ
monitor_line (monitors.unknown_name i) = numbered_line (codes "net monitor") 1 (codes "unknown_name") (pointer_text (at.Monitor i of_part.Whole))
monitor_line (monitors.bad_text i r) = refusal_line (of_net (inscription (at.Monitor i of_part.Expr) r))

-- The line of a refusal of the edits: the same; and that of an initial marking that is accepted and has a fault.
abbrev pub edit_line : EditRefusal → List ℕ
edit_line (of_monitors r) = monitor_line r
edit_line (unknown_name pointer) = numbered_line (codes "net edit") 1 (codes "unknown_name") (pointer_text pointer)
edit_line (bad_text pointer r) = refusal_line (of_net (inscription pointer r))
edit_line (faulty pointer fault) = fault_line pointer fault

-- The error line of a refusal.
abbrev pub model_line : ModelRefusal → List ℕ
model_line (of_document r) = refusal_line r
model_line (of_edits r) = edit_line r
