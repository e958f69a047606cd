-- Refusals as an error line tells them: the number, the name of each, and what it carries. Source: own choice.
use Rattle.std.specs.Prelude.{ℕ, List, [], ◌++◌, codes}
use Rattle.std.specs.Fmt.{decimal}
use Rattle.cpn_definitions.specs.Outcome.{Fault, overflow, divide_by_zero, empty_list, no_case, not_in_colour, bad_coefficient, bad_delay, too_large}
use Rattle.cpn_document.specs.Refusals.{FormRefusal, not_json, shape, bad_number, bad_name, version, limit}
use Rattle.cpn_document.specs.declared.refusals.Limit.{Limit as DocumentLimit}
use Rattle.cpn_document.specs.declared.refusals.Limit.TheVariants as counts
use Rattle.cpn_module.specs.Refusals.{ModuleRefusal, unknown_module, unknown_place, unknown_transition, cycle, socket_type, colour_differs, port_twice, port_in_fusion, two_fusions}
use Rattle.cpn_module_nets.specs.Reading.{NetRefusal, of_modules, inscription}
use Rattle.cpn_flat.specs.Refusals.{FlatRefusal, instances, places, transitions, init, initial_differs}
use Rattle.cpn_file.specs.PointerTexts.{pointer_text}
use Rattle.cpn_file.specs.Reading.{Refusal, of_form, of_net, of_flat}
use Rattle.cpn_file.specs.Spaces.{with_space}
use Rattle.cpn_file.specs.TextLines.{inscription_line}

-- The line of a refusal that has a number: `error `, what is refused, the number and the name, a space before each; then a space and
-- what the refusal carries where it carries something; a line feed.
unfoldable pub numbered_line : List ℕ → ℕ → List ℕ → List ℕ → List ℕ
numbered_line what number name detail = codes "error " ++ what ++ codes " " ++ decimal number ++ codes " " ++ name ++ with_space detail ++ codes "\n"

-- ---- the form of a document

-- what there are too many of
abbrev pub counted_name : DocumentLimit → List ℕ
counted_name counts.Declarations = codes "declarations"
counted_name counts.Modules = codes "modules"
counted_name counts.Arcs = codes "arcs"
counted_name counts.Phases = codes "phases"

-- the line of a refusal of the form: it carries the pointer, where that is not the whole document, or what there are too many of
abbrev pub form_line : FormRefusal → List ℕ
form_line not_json = numbered_line (codes "document") 1 (codes "not_json") []
form_line (shape pointer) = numbered_line (codes "document") 2 (codes "shape") (pointer_text pointer)
form_line (bad_number pointer) = numbered_line (codes "document") 3 (codes "bad_number") (pointer_text pointer)
form_line (bad_name pointer) = numbered_line (codes "document") 4 (codes "bad_name") (pointer_text pointer)
form_line version = numbered_line (codes "document") 5 (codes "version") []
form_line (limit kind) = numbered_line (codes "document") 6 (codes "limit") (counted_name kind)

-- ---- its modules

-- the line of modules that make no hierarchy: it carries the pointer
abbrev pub module_line : ModuleRefusal → List ℕ
module_line (unknown_module pointer) = numbered_line (codes "net module") 1 (codes "unknown_module") (pointer_text pointer)
module_line (unknown_place pointer) = numbered_line (codes "net module") 2 (codes "unknown_place") (pointer_text pointer)
module_line (unknown_transition pointer) = numbered_line (codes "net module") 3 (codes "unknown_transition") (pointer_text pointer)
module_line (cycle pointer) = numbered_line (codes "net module") 4 (codes "cycle") (pointer_text pointer)
module_line (socket_type pointer) = numbered_line (codes "net module") 5 (codes "socket_type") (pointer_text pointer)
module_line (colour_differs pointer) = numbered_line (codes "net module") 6 (codes "colour_differs") (pointer_text pointer)
module_line (port_twice pointer) = numbered_line (codes "net module") 7 (codes "port_twice") (pointer_text pointer)
module_line (port_in_fusion pointer) = numbered_line (codes "net module") 8 (codes "port_in_fusion") (pointer_text pointer)
module_line (two_fusions pointer) = numbered_line (codes "net module") 9 (codes "two_fusions") (pointer_text pointer)

-- the line of the nets of modules that are refused
abbrev pub net_line : NetRefusal → List ℕ
net_line (of_modules r) = module_line r
net_line (inscription pointer r) = inscription_line pointer r

-- ---- its flat net

-- the name of a fault
abbrev pub fault_name : Fault → List ℕ
fault_name overflow = codes "overflow"
fault_name divide_by_zero = codes "divide_by_zero"
fault_name empty_list = codes "empty_list"
fault_name no_case = codes "no_case"
fault_name not_in_colour = codes "not_in_colour"
fault_name bad_coefficient = codes "bad_coefficient"
fault_name bad_delay = codes "bad_delay"
fault_name too_large = codes "too_large"

-- the line of a document without a flat net: it carries the name of the place, and its fault
abbrev pub flat_line : FlatRefusal → List ℕ
flat_line instances = numbered_line (codes "net flat") 1 (codes "instances") []
flat_line places = numbered_line (codes "net flat") 2 (codes "places") []
flat_line transitions = numbered_line (codes "net flat") 3 (codes "transitions") []
flat_line (init place fault) = numbered_line (codes "net flat") 4 (codes "init") (place ++ codes " " ++ fault_name fault)
flat_line (initial_differs place) = numbered_line (codes "net flat") 5 (codes "initial_differs") place

-- The error line of a refusal.
abbrev pub refusal_line : Refusal → List ℕ
refusal_line (of_form r) = form_line r
refusal_line (of_net r) = net_line r
refusal_line (of_flat r) = flat_line r
