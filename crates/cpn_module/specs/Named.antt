-- What the names of a document name: the first of that name. What no name names has the number past the last. Source: own choice.
use Rattle.std.specs.Prelude.{ℕ, suc, Bool, if◌then◌else◌, List, [], ◌∷◌, length, map, None, is_some}
use Rattle.std.specs.Str.{bytes_eq}
use Rattle.cpn_document.specs.Document.{RawPlace, RawArc, RawAssignment, RawSub, RawModule, RawMember, RawFusion, RawDocument}
use Rattle.cpn_document.specs.Parts.{is_one_of}
use Rattle.cpn_module.specs.Hierarchy.{PlainEnds, PlainAssignment, PlainSubstitution, PlainStructure, PlainMember, PlainHierarchy}
use Rattle.cpn_module.specs.declared.hierarchy.Node.{Node}
use Rattle.cpn_module.specs.declared.hierarchy.Node.TheVariants as nodes

-- the number of a name among names
abbrev pub position : List ℕ → List (List ℕ) → ℕ
position name [] = 0
position name (n ∷ ns) = if bytes_eq name n then 0 else suc (position name ns)

-- the names of modules, and of the places, the transitions and the substitution transitions of a module
abbrev pub module_names : RawDocument → List (List ℕ)
module_names d = map (λ m. m.name) d.modules

abbrev pub place_names : RawModule → List (List ℕ)
place_names m = map (λ p. p.name) m.places

abbrev pub transition_names : RawModule → List (List ℕ)
transition_names m = map (λ t. t.name) m.transitions

abbrev pub sub_names : RawModule → List (List ℕ)
sub_names m = map (λ s. s.name) m.subs

abbrev pub no_module : RawModule
no_module = record { name = []; places = []; transitions = []; arcs = []; subs = [] }

abbrev pub no_place : RawPlace
no_place = record { name = []; colour = []; initial = None; port = None }

-- the module of a name
abbrev pub module_among : List ℕ → List RawModule → RawModule
module_among name [] = no_module
module_among name (m ∷ ms) = if bytes_eq name m.name then m else module_among name ms

abbrev pub module_named : RawDocument → List ℕ → RawModule
module_named d name = module_among name d.modules

-- the place of a name
abbrev pub place_among : List ℕ → List RawPlace → RawPlace
place_among name [] = no_place
place_among name (p ∷ ps) = if bytes_eq name p.name then p else place_among name ps

abbrev pub place_named : RawModule → List ℕ → RawPlace
place_named m name = place_among name m.places

-- whether the place of a name is a port
abbrev pub is_port : RawModule → List ℕ → Bool
is_port m name = is_some (place_named m name).port

-- ---- everything by its number

-- the transition of a name, or else the substitution transition, given the names of both
abbrev pub node_among : List (List ℕ) → List (List ℕ) → List ℕ → Node
node_among transitions subs name = if is_one_of name transitions then nodes.Transition (position name transitions) else nodes.Substitution (position name subs)

abbrev pub ends_among : List (List ℕ) → List (List ℕ) → List (List ℕ) → RawArc → PlainEnds
ends_among places transitions subs arc = record { place = position arc.place places; node = node_among transitions subs arc.transition; way = arc.way }

abbrev pub ends_in : RawModule → RawArc → PlainEnds
ends_in m = ends_among (place_names m) (transition_names m) (sub_names m)

-- a port and its socket, given the names of the places of the module and of those of the submodule
abbrev pub assignment_among : List (List ℕ) → List (List ℕ) → RawAssignment → PlainAssignment
assignment_among sockets ports a = record { port = position a.port ports; socket = position a.socket sockets }

abbrev pub substitution_in : RawDocument → RawModule → RawSub → PlainSubstitution
substitution_in d m sub = record { submodule = position sub.submodule (module_names d); assignments = map (assignment_among (place_names m) (place_names (module_named d sub.submodule))) sub.assign }

abbrev pub structure_in : RawDocument → RawModule → PlainStructure
structure_in d m = record { ports = map (λ p. p.port) m.places; transitions = length m.transitions; arcs = map (ends_in m) m.arcs; substitutions = map (substitution_in d m) m.subs }

abbrev pub member_by_number : RawDocument → RawMember → PlainMember
member_by_number d member = record { of_module = position member.of_module (module_names d); place = position member.place (place_names (module_named d member.of_module)) }

abbrev pub fusion_by_number : RawDocument → RawFusion → List PlainMember
fusion_by_number d fusion = map (member_by_number d) fusion.members

-- the hierarchy that a document names
abbrev pub hierarchy_in : RawDocument → PlainHierarchy
hierarchy_in d = record { top = position d.top (module_names d); modules = map (structure_in d) d.modules; fusions = map (fusion_by_number d) d.fusions }
