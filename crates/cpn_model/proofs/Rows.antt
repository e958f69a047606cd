-- Worked error lines of monitors and edits, one of each refusal.
use Rattle.std.proofs.Common.{◌≡◌, codes, refl}
use Rattle.std.specs.Fmt.{digits}
use Rattle.cpn_definitions.specs.Outcome.{overflow}
use Rattle.cpn_document.specs.Phases.{at_edit}
use Rattle.cpn_document.specs.declared.pointers.EditPart.TheVariants as of_edit
use Rattle.cpn_edit_texts.specs.Reading.{unknown_name, bad_text, faulty, of_monitors}
use Rattle.cpn_file.specs.Refusals.{numbered_line}
use Rattle.cpn_file.specs.TextLines.{line_with}
use Rattle.cpn_monitor_texts.specs.Reading as monitors
use Rattle.cpn_text_refusals.specs.Refusals.{typing}
use Rattle.cpn_typing.specs.Names.{unknown}
use Rattle.cpn_model.specs.Lines.{monitor_line, edit_line}

name_in_a_monitor : monitor_line (monitors.unknown_name 3) ≡ codes "error net monitor 1 unknown_name /monitors/3\n"
unfolding numbered_line digits
name_in_a_monitor = refl

text_of_a_monitor : monitor_line (monitors.bad_text 3 (typing (unknown (codes "y")))) ≡ codes "error inscription /monitors/3/expr type 1 unknown y\n"
unfolding line_with digits
text_of_a_monitor = refl

monitor_among_edits : edit_line (of_monitors (monitors.unknown_name 3)) ≡ codes "error net monitor 1 unknown_name /monitors/3\n"
unfolding numbered_line digits
monitor_among_edits = refl

name_in_an_edit : edit_line (unknown_name (at_edit 2 4 of_edit.Whole)) ≡ codes "error net edit 1 unknown_name /phases/2/edits/4\n"
unfolding numbered_line digits
name_in_an_edit = refl

text_of_an_edit : edit_line (bad_text (at_edit 2 4 of_edit.Text) (typing (unknown (codes "y")))) ≡ codes "error inscription /phases/2/edits/4/text type 1 unknown y\n"
unfolding line_with digits
text_of_an_edit = refl

fault_of_an_edit : edit_line (faulty (at_edit 2 4 of_edit.Text) overflow) ≡ codes "error inscription /phases/2/edits/4/text eval 1 overflow\n"
unfolding line_with digits
fault_of_an_edit = refl
