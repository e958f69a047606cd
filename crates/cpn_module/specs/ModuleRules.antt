-- The rules that the modules of a document have to keep, in the order in which they count: each is looked at over the whole
-- document, in its order, before the next. Source: Jensen and Kristensen, chapter 6; the order is an own choice.
use Rattle.std.specs.Prelude.{ℕ, ◌==◌, Bool, true, false, not, ◌&&◌, ◌||◌, List, [], ◌∷◌, ◌++◌, take, slice_index_or, Option, Some, None, is_some}
use Rattle.std.specs.List.{list_any}
use Rattle.cpn_readings.specs.Rules as rules
use Rattle.cpn_readings.specs.Rules.{each_item}
use Rattle.cpn_typing.specs.Names.{Declared}
use Rattle.cpn_document.specs.Document.{RawArc, RawAssignment, RawSub, RawModule, RawMember, RawFusion, RawDocument, at_arc, at_sub, at_assignment, at_member}
use Rattle.cpn_document.specs.Parts.{is_one_of}
use Rattle.cpn_document.specs.declared.document.Way.{Way}
use Rattle.cpn_document.specs.declared.document.Way.TheVariants as ways
use Rattle.cpn_document.specs.declared.document.PortType.{PortType}
use Rattle.cpn_document.specs.declared.document.PortType.TheVariants as ports
use Rattle.cpn_document.specs.declared.pointers.Pointer.TheVariants as at
use Rattle.cpn_document.specs.declared.pointers.ArcPart.TheVariants as of_arc
use Rattle.cpn_document.specs.declared.pointers.SubPart.TheVariants as of_sub
use Rattle.cpn_document.specs.declared.pointers.AssignmentPart.TheVariants as of_assignment
use Rattle.cpn_document.specs.declared.pointers.MemberPart.TheVariants as of_member
use Rattle.cpn_module.specs.Refusals.{ModuleRefusal, unknown_module, unknown_place, unknown_transition, socket_type, colour_differs, port_twice, port_in_fusion, two_fusions}
use Rattle.cpn_module.specs.Hierarchy.{PlainEnds, PlainAssignment, PlainSubstitution, PlainStructure, PlainMember, PlainHierarchy, port_at, structure_at}
use Rattle.cpn_module.specs.Named.{no_module, no_place, module_names, place_names, transition_names, sub_names, module_named, is_port}
use Rattle.cpn_module.specs.declared.hierarchy.Node.{Node}
use Rattle.cpn_module.specs.declared.hierarchy.Node.TheVariants as nodes
use Rattle.cpn_module.specs.Colours.{colours_agree}

abbrev pub Rule : Type 0
Rule = rules.Rule ModuleRefusal

-- one rule
abbrev pub rule : Bool → ModuleRefusal → List Rule
rule kept refusal = record { kept = kept; refusal = refusal } ∷ []

-- ---- names of modules

-- the submodule of a substitution transition, given the names of the modules
abbrev pub submodule_rule : List (List ℕ) → ℕ → ℕ → RawSub → List Rule
submodule_rule modules m i sub = rule (is_one_of sub.submodule modules) (unknown_module (at_sub m i of_sub.Module))

unfoldable pub submodule_rules : List (List ℕ) → ℕ → RawModule → List Rule
submodule_rules modules m raw = each_item (submodule_rule modules m) 0 raw.subs

-- the module of a member of a fusion set
abbrev pub member_module_rule : List (List ℕ) → ℕ → ℕ → RawMember → List Rule
member_module_rule modules f k member = rule (is_one_of member.of_module modules) (unknown_module (at_member f k of_member.Module))

unfoldable pub member_module_rules : List (List ℕ) → ℕ → RawFusion → List Rule
member_module_rules modules f fusion = each_item (member_module_rule modules f) 0 fusion.members

-- The top module, the submodule of each substitution transition, and the module of each member of a fusion set are there.
unfoldable pub module_rules : RawDocument → List Rule
module_rules d =
    rule (is_one_of d.top (module_names d)) (unknown_module at.Top)
    ++ each_item (submodule_rules (module_names d)) 0 d.modules
    ++ each_item (member_module_rules (module_names d)) 0 d.fusions

-- ---- names of places

-- the place of an arc, given the names of the places of its module
abbrev pub arc_place_rule : List (List ℕ) → ℕ → ℕ → RawArc → List Rule
arc_place_rule places m i arc = rule (is_one_of arc.place places) (unknown_place (at_arc m i of_arc.Place))

unfoldable pub arc_place_rules : List (List ℕ) → ℕ → RawModule → List Rule
arc_place_rules places m raw = each_item (arc_place_rule places m) 0 raw.arcs

-- an assignment has a port of the submodule and a place of the module, given the names of the places of the module
unfoldable pub assignment_place_rules : RawDocument → List (List ℕ) → ℕ → ℕ → RawSub → ℕ → RawAssignment → List Rule
assignment_place_rules d places m i sub k a =
    rule (is_port (module_named d sub.submodule) a.port) (unknown_place (at_assignment m i k of_assignment.Port))
    ++ rule (is_one_of a.socket places) (unknown_place (at_assignment m i k of_assignment.Socket))

unfoldable pub sub_place_rules : RawDocument → List (List ℕ) → ℕ → ℕ → RawSub → List Rule
sub_place_rules d places m i sub = each_item (assignment_place_rules d places m i sub) 0 sub.assign

-- the places of arcs and of assignments of a module
unfoldable pub places_of_module_rules : RawDocument → ℕ → RawModule → List Rule
places_of_module_rules d m raw = arc_place_rules (place_names raw) m raw ++ each_item (sub_place_rules d (place_names raw) m) 0 raw.subs

-- the place of a member of a fusion set
abbrev pub member_place_rule : RawDocument → ℕ → ℕ → RawMember → List Rule
member_place_rule d f k member = rule (is_one_of member.place (place_names (module_named d member.of_module))) (unknown_place (at_member f k of_member.Place))

unfoldable pub member_place_rules : RawDocument → ℕ → RawFusion → List Rule
member_place_rules d f fusion = each_item (member_place_rule d f) 0 fusion.members

-- The places of arcs, the ports and sockets of assignments, and the places of members of fusion sets are there.
unfoldable pub place_rules : RawDocument → List Rule
place_rules d = each_item (places_of_module_rules d) 0 d.modules ++ each_item (member_place_rules d) 0 d.fusions

-- ---- names of transitions

-- the transition of an arc, or its substitution transition, given the names of both in its module
abbrev pub arc_transition_rule : List (List ℕ) → List (List ℕ) → ℕ → ℕ → RawArc → List Rule
arc_transition_rule transitions subs m i arc = rule (is_one_of arc.transition transitions || is_one_of arc.transition subs) (unknown_transition (at_arc m i of_arc.Transition))

unfoldable pub arc_transition_rules : List (List ℕ) → List (List ℕ) → ℕ → RawModule → List Rule
arc_transition_rules transitions subs m raw = each_item (arc_transition_rule transitions subs m) 0 raw.arcs

-- the transitions of the arcs of a module
abbrev pub transitions_of_module_rules : ℕ → RawModule → List Rule
transitions_of_module_rules m raw = arc_transition_rules (transition_names raw) (sub_names raw) m raw

-- The transitions of arcs are there, or substitution transitions.
unfoldable pub transition_rules : RawDocument → List Rule
transition_rules d = each_item transitions_of_module_rules 0 d.modules

-- Everything that is named is there.
unfoldable pub name_rules : RawDocument → List Rule
name_rules d = module_rules d ++ place_rules d ++ transition_rules d

-- ---- ports, sockets and fusion sets

-- whether a way leads to the transition, to the place
abbrev pub is_input : Way → Bool
is_input ways.ToTransition = true
is_input ways.ToPlace = false
is_input ways.Both = true

abbrev pub is_output : Way → Bool
is_output ways.ToTransition = false
is_output ways.ToPlace = true
is_output ways.Both = true

-- whether a node is the substitution transition of a number
abbrev pub is_substitution : ℕ → Node → Bool
is_substitution i (nodes.Transition t) = false
is_substitution i (nodes.Substitution j) = i == j

-- whether an arc joins a place and a substitution transition
abbrev pub joins : ℕ → ℕ → PlainEnds → Bool
joins p i arc = p == arc.place && is_substitution i arc.node

-- the type of a socket that arcs lead from, and to
abbrev pub type_of : Bool → Bool → Option PortType
type_of true true = Some ports.Io
type_of true false = Some ports.In
type_of false true = Some ports.Out
type_of false false = None

-- The type of a place as a socket of a substitution transition of its module: IN where arcs lead from the place, OUT where arcs
-- lead to it, I/O where both; a place that no arc joins to it has none.
abbrev pub type_of_socket : PlainStructure → ℕ → ℕ → Option PortType
type_of_socket s p i = type_of (list_any (λ arc. joins p i arc && is_input arc.way) s.arcs) (list_any (λ arc. joins p i arc && is_output arc.way) s.arcs)

-- whether there are two types, and they are one
abbrev pub are_one_type : Option PortType → Option PortType → Bool
are_one_type (Some ports.In) (Some ports.In) = true
are_one_type (Some ports.Out) (Some ports.Out) = true
are_one_type (Some ports.Io) (Some ports.Io) = true
are_one_type one other = false

-- rules of each assignment of each substitution transition of each module, and of each member of each fusion set, with their
-- numbers
unfoldable pub each_assigned : (ℕ → PlainStructure → ℕ → PlainSubstitution → ℕ → PlainAssignment → List Rule) → PlainHierarchy → List Rule
each_assigned of h = each_item (λ m s. each_item (λ i sub. each_item (of m s i sub) 0 sub.assignments) 0 s.substitutions) 0 h.modules

unfoldable pub each_fused : (ℕ → List PlainMember → ℕ → PlainMember → List Rule) → PlainHierarchy → List Rule
each_fused of h = each_item (λ f members. each_item (of f members) 0 members) 0 h.fusions

-- Each socket is of the type of its port.
unfoldable pub socket_rules : PlainHierarchy → List Rule
socket_rules h =
    each_assigned (λ m s i sub k a. rule (are_one_type (type_of_socket s a.socket i) (port_at (structure_at h sub.submodule) a.port)) (socket_type (at_assignment m i k of_assignment.Whole))) h

-- the name of the colour set of a place of a module, by their numbers
abbrev pub colour_name : RawDocument → ℕ → ℕ → List ℕ
colour_name d m p = (slice_index_or (slice_index_or d.modules m no_module).places p no_place).colour

-- whether the colour set of a place agrees with that of the first of these members
abbrev pub agrees_with_first : Declared → RawDocument → PlainMember → List PlainMember → Bool
agrees_with_first ds d member [] = true
agrees_with_first ds d member (first ∷ members) = colours_agree ds (colour_name d first.of_module first.place) (colour_name d member.of_module member.place)

-- an assignment of a substitution transition: the colour sets of its socket and of its port agree
abbrev pub assigned_colour_rules : Declared → RawDocument → ℕ → ℕ → PlainSubstitution → ℕ → PlainAssignment → List Rule
assigned_colour_rules ds d m i sub k a = rule (colours_agree ds (colour_name d m a.socket) (colour_name d sub.submodule a.port)) (colour_differs (at_assignment m i k of_assignment.Whole))

-- the assignments of a substitution transition, and the substitution transitions of a module
abbrev pub sub_colour_rules : Declared → RawDocument → ℕ → ℕ → PlainSubstitution → List Rule
sub_colour_rules ds d m i sub = each_item (assigned_colour_rules ds d m i sub) 0 sub.assignments

abbrev pub structure_colour_rules : Declared → RawDocument → ℕ → PlainStructure → List Rule
structure_colour_rules ds d m s = each_item (sub_colour_rules ds d m) 0 s.substitutions

-- a member of a fusion set: its colour set agrees with that of the first
abbrev pub member_colour_rules : Declared → RawDocument → ℕ → List PlainMember → ℕ → PlainMember → List Rule
member_colour_rules ds d f members k member = rule (agrees_with_first ds d member members) (colour_differs (at_member f k of_member.Whole))

-- the members of a fusion set
abbrev pub fusion_colour_rules : Declared → RawDocument → ℕ → List PlainMember → List Rule
fusion_colour_rules ds d f members = each_item (member_colour_rules ds d f members) 0 members

-- The colour set of each socket agrees with that of its port, and that of each member of a fusion set with that of the first.
unfoldable pub colour_rules : Declared → RawDocument → PlainHierarchy → List Rule
colour_rules ds d h = each_item (structure_colour_rules ds d) 0 h.modules ++ each_item (fusion_colour_rules ds d) 0 h.fusions

-- whether one of these assignments is of a port
abbrev pub is_assigned : ℕ → List PlainAssignment → Bool
is_assigned port assignments = list_any (λ a. port == a.port) assignments

-- Each port has at most one socket.
unfoldable pub port_rules : PlainHierarchy → List Rule
port_rules h =
    each_assigned (λ m s i sub k a. rule (not (is_assigned a.port (take k sub.assignments))) (port_twice (at_assignment m i k of_assignment.Whole))) h

-- No member of a fusion set is a port.
unfoldable pub fusion_port_rules : PlainHierarchy → List Rule
fusion_port_rules h =
    each_fused (λ f members k member. rule (not (is_some (port_at (structure_at h member.of_module) member.place))) (port_in_fusion (at_member f k of_member.Whole))) h

-- whether two members are one place
abbrev pub is_same_member : PlainMember → PlainMember → Bool
is_same_member one other = one.of_module == other.of_module && one.place == other.place

-- No place is in two fusion sets.
unfoldable pub two_fusions_rules : PlainHierarchy → List Rule
two_fusions_rules h =
    each_fused (λ f members k member. rule (not (list_any (λ earlier. list_any (is_same_member member) earlier) (take f h.fusions))) (two_fusions (at_member f k of_member.Whole))) h

-- Ports, sockets and fusion sets go together.
unfoldable pub relation_rules : Declared → RawDocument → PlainHierarchy → List Rule
relation_rules ds d h = socket_rules h ++ colour_rules ds d h ++ port_rules h ++ fusion_port_rules h ++ two_fusions_rules h
