-- The error lines of texts that are accepted, and whose value is a fault. Source: own choice.
use Rattle.std.specs.Prelude.{ℕ, List, [], codes}
use Rattle.cpn_definitions.specs.Outcome.{Fault, overflow, divide_by_zero, empty_list, no_case, not_in_colour, bad_coefficient, bad_delay, too_large}
use Rattle.cpn_document.specs.declared.pointers.Pointer.{Pointer}
use Rattle.cpn_file.specs.PointerTexts.{pointer_text}
use Rattle.cpn_file.specs.Refusals.{fault_name}
use Rattle.cpn_file.specs.TextLines.{line_with}

-- the number of a fault, as the report has it
abbrev pub fault_number : Fault → ℕ
fault_number overflow = 1
fault_number divide_by_zero = 2
fault_number empty_list = 3
fault_number no_case = 4
fault_number not_in_colour = 5
fault_number bad_coefficient = 6
fault_number bad_delay = 7
fault_number too_large = 8

-- The line of a text that is accepted and has a fault: that of one that is refused, with `eval` for its part.
abbrev pub fault_line : Pointer → Fault → List ℕ
fault_line pointer fault = line_with (pointer_text pointer) (codes "eval") (fault_number fault) (fault_name fault) []
