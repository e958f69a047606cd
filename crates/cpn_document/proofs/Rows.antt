-- Worked values: what each is read as.
use Rattle.std.proofs.Common.{◌≡◌, ℕ, negsuc, List, [], ◌∷◌, refl}
use Rattle.std.specs.Prelude.{Some, None, codes}
use Rattle.serde_json.specs.Data.{Data, null, number, string, array, object, unsigned, negative, Items, no_items, item, Members, no_members, member}
use Rattle.cpn_document.specs.Refusals.{shape, bad_number, bad_name, version}
use Rattle.cpn_document.specs.Rules.{first_broken}
use Rattle.cpn_document.specs.Texts.{is_name}
use Rattle.cpn_document.specs.Parts.{text_in, text_at, items_at, optional_text_at, object_rules, text_in_rules, text_rules, name_rules, new_name_rules, word_rules, list_rules, where_there, number_at, each_named, limit_rules}
use Rattle.cpn_document.specs.Document.{RawArc, port_of, place_rules, transition_rules, way_of, arc_rules, arcs_at, assignment_rules, each_assignment, sub_rules, each_place, places_rules, each_transition, transitions_rules, each_arc, arcs_rules, each_sub, subs_rules, module_rules, member_rules, each_member, fusion_rules, version_rules, each_declaration, declarations_rules, each_module, modules_rules, each_fusion, fusions_rules, document_rules}
use Rattle.cpn_document.specs.Monitors.{each_monitor, monitors_rules}
use Rattle.cpn_document.specs.Phases.{start_of, phase_rules, each_edit, each_phase, phases_rules}
use Rattle.cpn_readings.specs.Rules.{each_item}
use Rattle.cpn_document.specs.Reading.{read, refused, document_of}
use Rattle.cpn_document.specs.declared.pointers.Pointer.TheVariants as at
use Rattle.cpn_document.specs.declared.pointers.ModulePart.TheVariants as of_module
use Rattle.cpn_document.specs.declared.pointers.PlacePart.TheVariants as of_place
use Rattle.cpn_document.specs.declared.pointers.SubPart.TheVariants as of_sub
use Rattle.cpn_document.specs.declared.document.Start.TheVariants as starts
use Rattle.cpn_document.specs.declared.document.Way.TheVariants as ways
use Rattle.cpn_document.specs.declared.document.PortType.TheVariants as ports

-- ---- values

abbrev list_of : List Data → Items
list_of [] = no_items
list_of (d ∷ ds) = item d (list_of ds)

abbrev place_named : List ℕ → Data
place_named name = object (member (codes "name") (string name) (member (codes "colour") (string (codes "INT")) no_members))

abbrev port_named : List ℕ → List ℕ → Data
port_named name port = object (member (codes "name") (string name) (member (codes "colour") (string (codes "INT")) (member (codes "port") (string port) no_members)))

abbrev transition_named : List ℕ → Data
transition_named name = object (member (codes "name") (string name) no_members)

abbrev arc_both_ways : Data
arc_both_ways = object (member (codes "place") (string (codes "A")) (member (codes "transition") (string (codes "t")) (member (codes "to") (string (codes "both")) no_members)))

abbrev sub_named : List ℕ → Data
sub_named name = object (member (codes "name") (string name) (member (codes "module") (string (codes "Low")) (member (codes "assign") (array no_items) no_members)))

abbrev module_with : List ℕ → List Data → List Data → List Data → List Data → Data
module_with name places transitions arcs subs = object (member (codes "name") (string name) (member (codes "places") (array (list_of places)) (member (codes "transitions") (array (list_of transitions)) (member (codes "arcs") (array (list_of arcs)) (member (codes "subs") (array (list_of subs)) no_members)))))

abbrev document_with : Data → List Data → Members → Data
document_with stated modules more = object (member (codes "version") stated (member (codes "declarations") (array no_items) (member (codes "top") (string (codes "Top")) (member (codes "modules") (array (list_of modules)) more))))

abbrev one : Data
one = number (unsigned 1)

-- ---- the rules of the document

nothing_there : document_of (object no_members) ≡ refused (shape at.Root)
unfolding first_broken document_rules object_rules number_at version_rules
nothing_there = refl

no_object : document_of (array no_items) ≡ refused (shape at.Root)
unfolding first_broken document_rules object_rules
no_object = refl

further_key_before_version : document_of (document_with (number (unsigned 3)) [] (member (codes "x") null no_members)) ≡ refused (shape at.Root)
unfolding first_broken document_rules object_rules
further_key_before_version = refl

another_version : document_of (document_with (number (unsigned 2)) [] no_members) ≡ refused version
unfolding first_broken document_rules object_rules number_at version_rules
another_version = refl

negative_version : document_of (document_with (number (negative (negsuc 0))) [] no_members) ≡ refused version
unfolding first_broken document_rules object_rules number_at version_rules
negative_version = refl

version_of_another_kind : document_of (document_with (string (codes "1")) [] no_members) ≡ refused (bad_number at.Version)
unfolding first_broken document_rules object_rules number_at version_rules
version_of_another_kind = refl

phases_are_read : document_of (document_with one [] (member (codes "phases") (array (item (object (member (codes "start") (string (codes "initial")) no_members)) no_items)) no_members)) ≡ read (record { version = 1; declarations = []; top = codes "Top"; modules = []; fusions = []; monitors = []; phases = record { start = starts.Initial; edits = [] } ∷ [] })
unfolding text_in text_at items_at optional_text_at object_rules text_in_rules text_rules name_rules new_name_rules word_rules list_rules where_there is_name first_broken each_item each_named limit_rules port_of place_rules transition_rules way_of arc_rules assignment_rules each_assignment sub_rules each_place places_rules each_transition transitions_rules each_arc arcs_rules each_sub subs_rules module_rules member_rules each_member fusion_rules version_rules each_declaration declarations_rules each_module modules_rules each_fusion fusions_rules number_at each_monitor monitors_rules start_of phase_rules each_edit each_phase phases_rules document_rules
phases_are_read = refl

-- ---- the rules of its modules

second_place_of_a_name : document_of (document_with one (module_with (codes "Top") (place_named (codes "A") ∷ place_named (codes "A") ∷ []) [] [] [] ∷ []) no_members) ≡ refused (bad_name (at.Module 0 (of_module.Place 1 of_place.Name)))
unfolding text_in text_at items_at optional_text_at object_rules text_in_rules text_rules name_rules new_name_rules word_rules list_rules where_there is_name first_broken each_item each_named limit_rules port_of place_rules transition_rules way_of arc_rules assignment_rules each_assignment sub_rules each_place places_rules each_transition transitions_rules each_arc arcs_rules each_sub subs_rules module_rules member_rules each_member fusion_rules version_rules each_declaration declarations_rules each_module modules_rules each_fusion fusions_rules number_at each_monitor monitors_rules each_phase phases_rules document_rules
second_place_of_a_name = refl

a_port_of_another_word : document_of (document_with one (module_with (codes "Top") (port_named (codes "A") (codes "inout") ∷ []) [] [] [] ∷ []) no_members) ≡ refused (shape (at.Module 0 (of_module.Place 0 of_place.Port)))
unfolding text_in text_at items_at optional_text_at object_rules text_in_rules text_rules name_rules new_name_rules word_rules list_rules where_there is_name first_broken each_item each_named limit_rules port_of place_rules transition_rules way_of arc_rules assignment_rules each_assignment sub_rules each_place places_rules each_transition transitions_rules each_arc arcs_rules each_sub subs_rules module_rules member_rules each_member fusion_rules version_rules each_declaration declarations_rules each_module modules_rules each_fusion fusions_rules number_at each_monitor monitors_rules each_phase phases_rules document_rules
a_port_of_another_word = refl

a_sub_with_the_name_of_a_transition : document_of (document_with one (module_with (codes "Top") [] (transition_named (codes "t") ∷ []) [] (sub_named (codes "t") ∷ []) ∷ []) no_members) ≡ refused (bad_name (at.Module 0 (of_module.Sub 0 of_sub.Name)))
unfolding text_in text_at items_at optional_text_at object_rules text_in_rules text_rules name_rules new_name_rules word_rules list_rules where_there is_name first_broken each_item each_named limit_rules port_of place_rules transition_rules way_of arc_rules assignment_rules each_assignment sub_rules each_place places_rules each_transition transitions_rules each_arc arcs_rules each_sub subs_rules module_rules member_rules each_member fusion_rules version_rules each_declaration declarations_rules each_module modules_rules each_fusion fusions_rules number_at each_monitor monitors_rules each_phase phases_rules document_rules
a_sub_with_the_name_of_a_transition = refl

a_document : document_of (document_with one (module_with (codes "Top") (port_named (codes "A") (codes "io") ∷ []) (transition_named (codes "t") ∷ []) (arc_both_ways ∷ []) (sub_named (codes "s") ∷ []) ∷ []) no_members) ≡ read (record {
  version = 1;
  declarations = [];
  top = codes "Top";
  modules = record {
    name = codes "Top";
    places = record { name = codes "A"; colour = codes "INT"; initial = None; port = Some ports.Io } ∷ [];
    transitions = record { name = codes "t"; guard = None; delay = None } ∷ [];
    arcs = record { place = codes "A"; transition = codes "t"; way = ways.Both; expr = None } ∷ [];
    subs = record { name = codes "s"; submodule = codes "Low"; assign = [] } ∷ [];
  } ∷ [];
  fusions = [];
  monitors = [];
  phases = [];
})
unfolding text_in text_at items_at optional_text_at object_rules text_in_rules text_rules name_rules new_name_rules word_rules list_rules where_there is_name first_broken each_item each_named limit_rules port_of place_rules transition_rules way_of arc_rules assignment_rules each_assignment sub_rules each_place places_rules each_transition transitions_rules each_arc arcs_rules each_sub subs_rules module_rules member_rules each_member fusion_rules version_rules each_declaration declarations_rules each_module modules_rules each_fusion fusions_rules number_at each_monitor monitors_rules each_phase phases_rules document_rules
a_document = refl

-- ---- arcs

abbrev arc_to : List ℕ → RawArc
arc_to name = record { place = codes "A"; transition = name; way = ways.Both; expr = None }

both_ways_count_two : arcs_at (codes "t") (arc_to (codes "t") ∷ arc_to (codes "u") ∷ arc_to (codes "t") ∷ []) ≡ 4
both_ways_count_two = refl
