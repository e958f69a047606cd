-- Worked documents: what each is checked as.
use Rattle.std.proofs.Common.{◌≡◌, ℕ, zero, suc, List, [], ◌∷◌, refl, arith}
use Rattle.std.specs.Prelude.{Option, Some, None, codes}
use Rattle.cpn_readings.specs.Rules.{first_broken, each_item}
use Rattle.cpn_typing.specs.Names.{nothing_declared}
use Rattle.cpn_document.specs.Document.{RawPlace, RawArc, RawAssignment, RawModule, RawMember, RawFusion, RawDocument, at_arc, at_assignment, at_member}
use Rattle.cpn_document.specs.declared.document.Way.{Way}
use Rattle.cpn_document.specs.declared.document.Way.TheVariants as ways
use Rattle.cpn_document.specs.declared.document.PortType.{PortType}
use Rattle.cpn_document.specs.declared.document.PortType.TheVariants as ports
use Rattle.cpn_document.specs.declared.pointers.Pointer.TheVariants as at
use Rattle.cpn_document.specs.declared.pointers.ModulePart.TheVariants as of_module
use Rattle.cpn_document.specs.declared.pointers.ArcPart.TheVariants as of_arc
use Rattle.cpn_document.specs.declared.pointers.AssignmentPart.TheVariants as of_assignment
use Rattle.cpn_document.specs.declared.pointers.MemberPart.TheVariants as of_member
use Rattle.cpn_module.specs.Refusals.{unknown_module, unknown_place, unknown_transition, cycle, socket_type, colour_differs, port_twice, port_in_fusion, two_fusions}
use Rattle.cpn_module.specs.Hierarchy.{IsPartOf, submodule, through, IsAcyclic}
use Rattle.cpn_module.specs.Named.{hierarchy_in}
use Rattle.cpn_module.specs.ModuleRules.{submodule_rules, member_module_rules, arc_place_rules, sub_place_rules, member_place_rules, arc_transition_rules, module_rules, assignment_place_rules, places_of_module_rules, place_rules, transition_rules, name_rules, each_assigned, each_fused, socket_rules, colour_rules, port_rules, fusion_port_rules, two_fusions_rules, relation_rules}
use Rattle.cpn_module.specs.Checked.{read, refused, IsChecked, not_there, in_itself, by_relations}
use Rattle.cpn_module.specs.declared.hierarchy.Node.TheVariants as nodes

-- ---- two modules: the top has a substitution transition `s` for the other, with some assignments

abbrev place_of : List ℕ → List ℕ → Option PortType → RawPlace
place_of name colour port = record { name = name; colour = colour; initial = None; port = port }

abbrev arc_of : List ℕ → List ℕ → Way → RawArc
arc_of place transition way = record { place = place; transition = transition; way = way; expr = None }

abbrev assigned : List ℕ → List ℕ → RawAssignment
assigned port socket = record { port = port; socket = socket }

abbrev member_of : List ℕ → List ℕ → RawMember
member_of of_module place = record { of_module = of_module; place = place }

abbrev fusion_of : List ℕ → List RawMember → RawFusion
fusion_of name members = record { name = name; members = members }

abbrev the_top : List RawArc → List RawAssignment → RawModule
the_top arcs assign = record {
  name = codes "Top";
  places = place_of (codes "A") (codes "INT") None ∷ place_of (codes "B") (codes "BOOL") None ∷ [];
  transitions = [];
  arcs = arcs;
  subs = record { name = codes "s"; submodule = codes "Low"; assign = assign } ∷ [];
}

abbrev the_other : List ℕ → RawModule
the_other name = record {
  name = name;
  places = place_of (codes "P") (codes "INT") (Some ports.In) ∷ place_of (codes "Q") (codes "INT") None ∷ [];
  transitions = record { name = codes "t"; guard = None; delay = None } ∷ [];
  arcs = arc_of (codes "P") (codes "t") ways.ToTransition ∷ [];
  subs = [];
}

abbrev two_modules : List RawArc → List RawAssignment → List RawFusion → RawDocument
two_modules arcs assign fusions = record { version = 1; declarations = []; top = codes "Top"; modules = the_top arcs assign ∷ the_other (codes "Low") ∷ []; fusions = fusions; monitors = []; phases = [] }

abbrev arc_in : List RawArc
arc_in = arc_of (codes "A") (codes "s") ways.ToTransition ∷ []

-- the other is part of the top, and nothing else is part of anything
parts : (arcs : List RawArc) (assign : List RawAssignment) (fusions : List RawFusion) (l m : ℕ) → IsPartOf (hierarchy_in (two_modules arcs assign fusions)) l m → (l ≡ 1) × (m ≡ 0)
parts arcs assign fusions l m (submodule zero zero there has) = (refl, refl)
parts arcs assign fusions l m (submodule zero (suc i) there has) = absurd (omega arith)
parts arcs assign fusions l m (submodule (suc zero) i there has) = absurd (omega arith)
parts arcs assign fusions l m (submodule (suc (suc k)) i there has) = absurd (omega arith)
parts arcs assign fusions l m (through part k whole first second) =
    let low = parts arcs assign fusions part k first in
    let high = parts arcs assign fusions k whole second in
    absurd (omega arith)

acyclic : (arcs : List RawArc) (assign : List RawAssignment) (fusions : List RawFusion) → IsAcyclic (hierarchy_in (two_modules arcs assign fusions))
acyclic arcs assign fusions m part = let both = parts arcs assign fusions m m part in absurd (omega arith)

-- ---- what is checked

abbrev with_a_port : RawDocument
with_a_port = two_modules arc_in (assigned (codes "P") (codes "A") ∷ []) []

a_port_with_its_socket : IsChecked nothing_declared with_a_port (read (record {
  top = 0;
  modules =
      record {
        ports = None ∷ None ∷ [];
        transitions = 0;
        arcs = record { place = 0; node = nodes.Substitution 0; way = ways.ToTransition } ∷ [];
        substitutions = record { submodule = 1; assignments = record { port = 0; socket = 0 } ∷ [] } ∷ [];
      }
      ∷ record {
        ports = Some ports.In ∷ None ∷ [];
        transitions = 1;
        arcs = record { place = 0; node = nodes.Transition 0; way = ways.ToTransition } ∷ [];
        substitutions = [];
      }
      ∷ [];
  fusions = [];
}))
unfolding first_broken each_item submodule_rules member_module_rules arc_place_rules sub_place_rules member_place_rules arc_transition_rules module_rules assignment_place_rules places_of_module_rules place_rules transition_rules name_rules each_assigned each_fused socket_rules colour_rules port_rules fusion_port_rules two_fusions_rules relation_rules
a_port_with_its_socket = by_relations refl (acyclic arc_in (assigned (codes "P") (codes "A") ∷ []) [])

-- a port without a socket is accepted
a_port_without_a_socket : IsChecked nothing_declared (two_modules [] [] []) (read (hierarchy_in (two_modules [] [] [])))
unfolding first_broken each_item submodule_rules member_module_rules arc_place_rules sub_place_rules member_place_rules arc_transition_rules module_rules assignment_place_rules places_of_module_rules place_rules transition_rules name_rules each_assigned each_fused socket_rules colour_rules port_rules fusion_port_rules two_fusions_rules relation_rules
a_port_without_a_socket = by_relations refl (acyclic [] [] [])

-- ---- names

a_place_that_is_no_port : IsChecked nothing_declared (two_modules arc_in (assigned (codes "Q") (codes "A") ∷ []) []) (refused (unknown_place (at_assignment 0 0 0 of_assignment.Port)))
unfolding first_broken each_item submodule_rules member_module_rules arc_place_rules sub_place_rules member_place_rules arc_transition_rules module_rules assignment_place_rules places_of_module_rules place_rules transition_rules name_rules
a_place_that_is_no_port = not_there _ refl

a_socket_that_is_not_there : IsChecked nothing_declared (two_modules arc_in (assigned (codes "P") (codes "C") ∷ []) []) (refused (unknown_place (at_assignment 0 0 0 of_assignment.Socket)))
unfolding first_broken each_item submodule_rules member_module_rules arc_place_rules sub_place_rules member_place_rules arc_transition_rules module_rules assignment_place_rules places_of_module_rules place_rules transition_rules name_rules
a_socket_that_is_not_there = not_there _ refl

-- an arc of the first module has no transition, a fusion set further behind has no module: modules are looked at first
modules_before_transitions : IsChecked nothing_declared (two_modules (arc_of (codes "A") (codes "u") ways.Both ∷ []) [] (fusion_of (codes "F") (member_of (codes "Side") (codes "A") ∷ []) ∷ [])) (refused (unknown_module (at_member 0 0 of_member.Module)))
unfolding first_broken each_item submodule_rules member_module_rules arc_place_rules sub_place_rules member_place_rules arc_transition_rules module_rules assignment_place_rules places_of_module_rules place_rules transition_rules name_rules
modules_before_transitions = not_there _ refl

-- an arc has no transition, an assignment further behind has no port: places are looked at first
places_before_transitions : IsChecked nothing_declared (two_modules (arc_of (codes "A") (codes "u") ways.Both ∷ []) (assigned (codes "Q") (codes "A") ∷ []) []) (refused (unknown_place (at_assignment 0 0 0 of_assignment.Port)))
unfolding first_broken each_item submodule_rules member_module_rules arc_place_rules sub_place_rules member_place_rules arc_transition_rules module_rules assignment_place_rules places_of_module_rules place_rules transition_rules name_rules
places_before_transitions = not_there _ refl

no_transition : IsChecked nothing_declared (two_modules (arc_of (codes "A") (codes "u") ways.Both ∷ []) [] []) (refused (unknown_transition (at_arc 0 0 of_arc.Transition)))
unfolding first_broken each_item submodule_rules member_module_rules arc_place_rules sub_place_rules member_place_rules arc_transition_rules module_rules assignment_place_rules places_of_module_rules place_rules transition_rules name_rules
no_transition = not_there _ refl

-- of two modules of one name, the first is named
first_of_the_name : (hierarchy_in (record { version = 1; declarations = []; top = codes "Low"; modules = the_other (codes "Side") ∷ the_other (codes "Low") ∷ the_other (codes "Low") ∷ []; fusions = []; monitors = []; phases = [] })).top ≡ 1
first_of_the_name = refl

-- ---- a module that is part of itself, and that is not the top

abbrev in_itself_below : RawDocument
in_itself_below = record {
  version = 1;
  declarations = [];
  top = codes "Top";
  modules =
      record { name = codes "Top"; places = []; transitions = []; arcs = []; subs = [] }
      ∷ record { name = codes "Low"; places = []; transitions = []; arcs = []; subs = record { name = codes "s"; submodule = codes "Low"; assign = [] } ∷ [] }
      ∷ [];
  fusions = [];
  monitors = [];
  phases = [];
}

-- nothing is part of the top
none_of_the_top : (l m : ℕ) → IsPartOf (hierarchy_in in_itself_below) l m → m ≡ 0 → ⊥
none_of_the_top l m (submodule zero i there has) h = omega arith
none_of_the_top l m (submodule (suc k) i there has) h = omega arith
none_of_the_top l m (through part k whole first second) h = none_of_the_top k whole second h

low_in_itself : IsChecked nothing_declared in_itself_below (refused (cycle (at.Module 1 of_module.Whole)))
unfolding first_broken each_item submodule_rules member_module_rules arc_place_rules sub_place_rules member_place_rules arc_transition_rules module_rules assignment_place_rules places_of_module_rules place_rules transition_rules name_rules
low_in_itself = in_itself 1 refl (record { part = submodule 1 0 (omega arith) (omega arith); first = λ n lt part. none_of_the_top n n part (omega arith) })

-- ---- ports, sockets and fusion sets

-- the arc leads to the socket, and the port is an input port
a_socket_of_another_type : IsChecked nothing_declared (two_modules (arc_of (codes "A") (codes "s") ways.ToPlace ∷ []) (assigned (codes "P") (codes "A") ∷ []) []) (refused (socket_type (at_assignment 0 0 0 of_assignment.Whole)))
unfolding first_broken each_item submodule_rules member_module_rules arc_place_rules sub_place_rules member_place_rules arc_transition_rules module_rules assignment_place_rules places_of_module_rules place_rules transition_rules name_rules each_assigned each_fused socket_rules colour_rules port_rules fusion_port_rules two_fusions_rules relation_rules
a_socket_of_another_type = by_relations refl (acyclic (arc_of (codes "A") (codes "s") ways.ToPlace ∷ []) (assigned (codes "P") (codes "A") ∷ []) [])

-- no arc joins the socket to the substitution transition
no_arc_at_the_socket : IsChecked nothing_declared (two_modules [] (assigned (codes "P") (codes "A") ∷ []) []) (refused (socket_type (at_assignment 0 0 0 of_assignment.Whole)))
unfolding first_broken each_item submodule_rules member_module_rules arc_place_rules sub_place_rules member_place_rules arc_transition_rules module_rules assignment_place_rules places_of_module_rules place_rules transition_rules name_rules each_assigned each_fused socket_rules colour_rules port_rules fusion_port_rules two_fusions_rules relation_rules
no_arc_at_the_socket = by_relations refl (acyclic [] (assigned (codes "P") (codes "A") ∷ []) [])

colour_sets_that_differ : IsChecked nothing_declared (two_modules (arc_of (codes "B") (codes "s") ways.ToTransition ∷ []) (assigned (codes "P") (codes "B") ∷ []) []) (refused (colour_differs (at_assignment 0 0 0 of_assignment.Whole)))
unfolding first_broken each_item submodule_rules member_module_rules arc_place_rules sub_place_rules member_place_rules arc_transition_rules module_rules assignment_place_rules places_of_module_rules place_rules transition_rules name_rules each_assigned each_fused socket_rules colour_rules port_rules fusion_port_rules two_fusions_rules relation_rules
colour_sets_that_differ = by_relations refl (acyclic (arc_of (codes "B") (codes "s") ways.ToTransition ∷ []) (assigned (codes "P") (codes "B") ∷ []) [])

a_second_socket : IsChecked nothing_declared (two_modules arc_in (assigned (codes "P") (codes "A") ∷ assigned (codes "P") (codes "A") ∷ []) []) (refused (port_twice (at_assignment 0 0 1 of_assignment.Whole)))
unfolding first_broken each_item submodule_rules member_module_rules arc_place_rules sub_place_rules member_place_rules arc_transition_rules module_rules assignment_place_rules places_of_module_rules place_rules transition_rules name_rules each_assigned each_fused socket_rules colour_rules port_rules fusion_port_rules two_fusions_rules relation_rules
a_second_socket = by_relations refl (acyclic arc_in (assigned (codes "P") (codes "A") ∷ assigned (codes "P") (codes "A") ∷ []) [])

a_port_in_a_fusion_set : IsChecked nothing_declared (two_modules [] [] (fusion_of (codes "F") (member_of (codes "Top") (codes "A") ∷ member_of (codes "Low") (codes "P") ∷ []) ∷ [])) (refused (port_in_fusion (at_member 0 1 of_member.Whole)))
unfolding first_broken each_item submodule_rules member_module_rules arc_place_rules sub_place_rules member_place_rules arc_transition_rules module_rules assignment_place_rules places_of_module_rules place_rules transition_rules name_rules each_assigned each_fused socket_rules colour_rules port_rules fusion_port_rules two_fusions_rules relation_rules
a_port_in_a_fusion_set = by_relations refl (acyclic [] [] (fusion_of (codes "F") (member_of (codes "Top") (codes "A") ∷ member_of (codes "Low") (codes "P") ∷ []) ∷ []))

-- a place twice in one fusion set is there once; in two of them it is refused
one_fusion_set : IsChecked nothing_declared (two_modules [] [] (fusion_of (codes "F") (member_of (codes "Top") (codes "A") ∷ member_of (codes "Top") (codes "A") ∷ []) ∷ [])) (read (hierarchy_in (two_modules [] [] (fusion_of (codes "F") (member_of (codes "Top") (codes "A") ∷ member_of (codes "Top") (codes "A") ∷ []) ∷ []))))
unfolding first_broken each_item submodule_rules member_module_rules arc_place_rules sub_place_rules member_place_rules arc_transition_rules module_rules assignment_place_rules places_of_module_rules place_rules transition_rules name_rules each_assigned each_fused socket_rules colour_rules port_rules fusion_port_rules two_fusions_rules relation_rules
one_fusion_set = by_relations refl (acyclic [] [] (fusion_of (codes "F") (member_of (codes "Top") (codes "A") ∷ member_of (codes "Top") (codes "A") ∷ []) ∷ []))

in_two_fusion_sets : IsChecked nothing_declared (two_modules [] [] (fusion_of (codes "F") (member_of (codes "Low") (codes "Q") ∷ []) ∷ fusion_of (codes "G") (member_of (codes "Top") (codes "A") ∷ member_of (codes "Low") (codes "Q") ∷ []) ∷ [])) (refused (two_fusions (at_member 1 1 of_member.Whole)))
unfolding first_broken each_item submodule_rules member_module_rules arc_place_rules sub_place_rules member_place_rules arc_transition_rules module_rules assignment_place_rules places_of_module_rules place_rules transition_rules name_rules each_assigned each_fused socket_rules colour_rules port_rules fusion_port_rules two_fusions_rules relation_rules
in_two_fusion_sets = by_relations refl (acyclic [] [] (fusion_of (codes "F") (member_of (codes "Low") (codes "Q") ∷ []) ∷ fusion_of (codes "G") (member_of (codes "Top") (codes "A") ∷ member_of (codes "Low") (codes "Q") ∷ []) ∷ []))
