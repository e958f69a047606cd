-- The form of a net document: the keys of each object in their order, what stands at them, and the rules that it has to
-- keep, in the order in which they count. Source: own choice.
use Rattle.std.specs.Prelude.{ℕ, ◌==◌, Bool, false, ◌||◌, if◌then◌else◌, nat_le, List, [], ◌∷◌, ◌++◌, length, map, Option, option_map, option_and_then, is_some, codes}
use Rattle.std.specs.List.{list_all, sum_by}
use Rattle.std.specs.Option.{unwrap_or}
use Rattle.std.specs.Str.{bytes_eq}
use Rattle.serde_json.specs.Data.{Data}
use Rattle.serde_json.specs.Find.{get, as_number, as_u64, as_i64}
use Rattle.cpn_document.specs.Refusals as refusals
use Rattle.cpn_document.specs.Rules.{Rule, each_item}
use Rattle.cpn_document.specs.Parts.{text_in, text_at, items_at, optional_text_at, number_at, names_in, object_rules, text_in_rules, there_rule, text_rules, name_rules, new_name_rules, word_rules, list_rules, where_there, each_named, limit_rules}
use Rattle.cpn_document.specs.Monitors.{RawMonitor, monitor_in, monitors_rules}
use Rattle.cpn_document.specs.Phases.{RawPhase, phase_in, phases_rules}
use Rattle.cpn_document.specs.declared.pointers.Pointer.{Pointer}
use Rattle.cpn_document.specs.declared.pointers.Pointer.TheVariants as at
use Rattle.cpn_document.specs.declared.pointers.ModulePart.TheVariants as of_module
use Rattle.cpn_document.specs.declared.pointers.PlacePart.{PlacePart}
use Rattle.cpn_document.specs.declared.pointers.PlacePart.TheVariants as of_place
use Rattle.cpn_document.specs.declared.pointers.TransitionPart.{TransitionPart}
use Rattle.cpn_document.specs.declared.pointers.TransitionPart.TheVariants as of_transition
use Rattle.cpn_document.specs.declared.pointers.ArcPart.{ArcPart}
use Rattle.cpn_document.specs.declared.pointers.ArcPart.TheVariants as of_arc
use Rattle.cpn_document.specs.declared.pointers.SubPart.{SubPart}
use Rattle.cpn_document.specs.declared.pointers.SubPart.TheVariants as of_sub
use Rattle.cpn_document.specs.declared.pointers.AssignmentPart.{AssignmentPart}
use Rattle.cpn_document.specs.declared.pointers.AssignmentPart.TheVariants as of_assignment
use Rattle.cpn_document.specs.declared.pointers.FusionPart.TheVariants as of_fusion
use Rattle.cpn_document.specs.declared.pointers.MemberPart.{MemberPart}
use Rattle.cpn_document.specs.declared.pointers.MemberPart.TheVariants as of_member
use Rattle.cpn_document.specs.declared.document.Way.{Way}
use Rattle.cpn_document.specs.declared.document.Way.TheVariants as ways
use Rattle.cpn_document.specs.declared.document.PortType.{PortType}
use Rattle.cpn_document.specs.declared.document.PortType.TheVariants as ports
use Rattle.cpn_document.specs.declared.refusals.Limit.TheVariants as limits

-- ---- documents as they are written

-- A place: its name, the name of its colour set, the text of its initial marking, and what port it is.
pub record RawPlace : Type 0 where
  pub name : List ℕ
  pub colour : List ℕ
  pub initial : Option (List ℕ)
  pub port : Option PortType

-- A transition: its name, and the texts of its guard and its delay.
pub record RawTransition : Type 0 where
  pub name : List ℕ
  pub guard : Option (List ℕ)
  pub delay : Option (List ℕ)

-- An arc: the names of its place and its transition, whither it leads, and the text of its inscription.
pub record RawArc : Type 0 where
  pub place : List ℕ
  pub transition : List ℕ
  pub way : Way
  pub expr : Option (List ℕ)

-- The assignment of a port to a socket, by their names.
pub record RawAssignment : Type 0 where
  pub port : List ℕ
  pub socket : List ℕ

-- A substitution transition: its name, the name of its submodule, and its assignments.
pub record RawSub : Type 0 where
  pub name : List ℕ
  pub submodule : List ℕ
  pub assign : List RawAssignment

-- A module: its name, its places, its transitions, its arcs, its substitution transitions.
pub record RawModule : Type 0 where
  pub name : List ℕ
  pub places : List RawPlace
  pub transitions : List RawTransition
  pub arcs : List RawArc
  pub subs : List RawSub

-- A member of a fusion set: the names of its module and its place.
pub record RawMember : Type 0 where
  pub of_module : List ℕ
  pub place : List ℕ

-- A fusion set: its name and its members.
pub record RawFusion : Type 0 where
  pub name : List ℕ
  pub members : List RawMember

-- A document: its version, the texts of its declarations, the name of its top module, its modules, its fusion sets, its monitors,
-- its phases.
pub record RawDocument : Type 0 where
  pub version : ℕ
  pub declarations : List (List ℕ)
  pub top : List ℕ
  pub modules : List RawModule
  pub fusions : List RawFusion
  pub monitors : List RawMonitor
  pub phases : List RawPhase

-- ---- places

-- the port type of a word
unfoldable pub port_of : List ℕ → PortType
port_of word = if bytes_eq word (codes "in") then ports.In else (if bytes_eq word (codes "out") then ports.Out else ports.Io)

abbrev pub place_in : Data → RawPlace
place_in d = record { name = text_at (codes "name") d; colour = text_at (codes "colour") d; initial = optional_text_at (codes "initial") d; port = option_map port_of (optional_text_at (codes "port") d) }

-- a part of a place of a module, by their numbers
abbrev pub at_place : ℕ → ℕ → PlacePart → Pointer
at_place m i part = at.Module m (of_module.Place i part)

-- the keys of a place, in a document of a version
abbrev pub place_keys : ℕ → List (List ℕ)
place_keys version = codes "name" ∷ codes "colour" ∷ codes "initial" ∷ codes "port" ∷ []

-- A place has a new name and a colour set, and maybe an initial marking and a port type.
unfoldable pub place_rules : ℕ → ℕ → ℕ → List (List ℕ) → Data → List Rule
place_rules version m i earlier d =
    object_rules (place_keys version) (at_place m i of_place.Whole) d
    ++ new_name_rules (codes "name") (at_place m i of_place.Whole) (at_place m i of_place.Name) earlier d
    ++ text_rules (codes "colour") (at_place m i of_place.Whole) (at_place m i of_place.Colour) d
    ++ where_there (codes "initial") d (text_rules (codes "initial") (at_place m i of_place.Whole) (at_place m i of_place.Initial) d)
    ++ where_there (codes "port") d (word_rules (codes "in" ∷ codes "out" ∷ codes "io" ∷ []) (codes "port") (at_place m i of_place.Whole) (at_place m i of_place.Port) d)

-- ---- transitions

abbrev pub transition_in : Data → RawTransition
transition_in d = record { name = text_at (codes "name") d; guard = optional_text_at (codes "guard") d; delay = optional_text_at (codes "delay") d }

-- a part of a transition of a module, by their numbers
abbrev pub at_transition : ℕ → ℕ → TransitionPart → Pointer
at_transition m i part = at.Module m (of_module.Transition i part)

-- the keys of a transition, in a document of a version
abbrev pub transition_keys : ℕ → List (List ℕ)
transition_keys version = codes "name" ∷ codes "guard" ∷ codes "delay" ∷ []

-- A transition has a new name, and maybe a guard and a delay.
unfoldable pub transition_rules : ℕ → ℕ → ℕ → List (List ℕ) → Data → List Rule
transition_rules version m i earlier d =
    object_rules (transition_keys version) (at_transition m i of_transition.Whole) d
    ++ new_name_rules (codes "name") (at_transition m i of_transition.Whole) (at_transition m i of_transition.Name) earlier d
    ++ where_there (codes "guard") d (text_rules (codes "guard") (at_transition m i of_transition.Whole) (at_transition m i of_transition.Guard) d)
    ++ where_there (codes "delay") d (text_rules (codes "delay") (at_transition m i of_transition.Whole) (at_transition m i of_transition.Delay) d)

-- ---- arcs

-- the way of a word
unfoldable pub way_of : List ℕ → Way
way_of word = if bytes_eq word (codes "transition") then ways.ToTransition else (if bytes_eq word (codes "place") then ways.ToPlace else ways.Both)

abbrev pub arc_in : Data → RawArc
arc_in d = record { place = text_at (codes "place") d; transition = text_at (codes "transition") d; way = way_of (text_at (codes "to") d); expr = optional_text_at (codes "expr") d }

-- a part of an arc of a module, by their numbers
abbrev pub at_arc : ℕ → ℕ → ArcPart → Pointer
at_arc m i part = at.Module m (of_module.Arc i part)

-- the keys of an arc, in a document of a version
abbrev pub arc_keys : ℕ → List (List ℕ)
arc_keys version = codes "place" ∷ codes "transition" ∷ codes "to" ∷ codes "expr" ∷ []

-- An arc has the names of a place and a transition, a way, and maybe an inscription.
unfoldable pub arc_rules : ℕ → ℕ → ℕ → Data → List Rule
arc_rules version m i d =
    object_rules (arc_keys version) (at_arc m i of_arc.Whole) d
    ++ name_rules (codes "place") (at_arc m i of_arc.Whole) (at_arc m i of_arc.Place) d
    ++ name_rules (codes "transition") (at_arc m i of_arc.Whole) (at_arc m i of_arc.Transition) d
    ++ word_rules (codes "transition" ∷ codes "place" ∷ codes "both" ∷ []) (codes "to") (at_arc m i of_arc.Whole) (at_arc m i of_arc.To) d
    ++ where_there (codes "expr") d (text_rules (codes "expr") (at_arc m i of_arc.Whole) (at_arc m i of_arc.Expr) d)

-- the most arcs of a transition
abbrev pub most_arcs : ℕ
most_arcs = 64

-- how many arcs a way is: one that leads both ways counts two
abbrev pub arcs_on : Way → ℕ
arcs_on ways.ToTransition = 1
arcs_on ways.ToPlace = 1
arcs_on ways.Both = 2

-- how many arcs there are at the transition of a name
abbrev pub arcs_at : List ℕ → List RawArc → ℕ
arcs_at name arcs = sum_by (λ arc. if bytes_eq name arc.transition then arcs_on arc.way else 0) arcs

-- whether there are not too many at any of the transitions of these names
abbrev pub have_few_arcs : List (List ℕ) → List RawArc → Bool
have_few_arcs names arcs = list_all (λ name. nat_le (arcs_at name arcs) most_arcs) names

-- ---- substitution transitions

abbrev pub assignment_in : Data → RawAssignment
assignment_in d = record { port = text_at (codes "port") d; socket = text_at (codes "socket") d }

-- a part of a substitution transition of a module, by their numbers, and of one of its assignments
abbrev pub at_sub : ℕ → ℕ → SubPart → Pointer
at_sub m i part = at.Module m (of_module.Sub i part)

abbrev pub at_assignment : ℕ → ℕ → ℕ → AssignmentPart → Pointer
at_assignment m i k part = at_sub m i (of_sub.Assignment k part)

-- the keys of an assignment, in a document of a version
abbrev pub assignment_keys : ℕ → List (List ℕ)
assignment_keys version = codes "port" ∷ codes "socket" ∷ []

-- An assignment has the names of a port and a socket.
unfoldable pub assignment_rules : ℕ → ℕ → ℕ → ℕ → Data → List Rule
assignment_rules version m i k d =
    object_rules (assignment_keys version) (at_assignment m i k of_assignment.Whole) d
    ++ name_rules (codes "port") (at_assignment m i k of_assignment.Whole) (at_assignment m i k of_assignment.Port) d
    ++ name_rules (codes "socket") (at_assignment m i k of_assignment.Whole) (at_assignment m i k of_assignment.Socket) d

-- each of the assignments of a substitution transition
unfoldable pub each_assignment : ℕ → ℕ → ℕ → List Data → List Rule
each_assignment version m i ds = each_item (assignment_rules version m i) 0 ds

abbrev pub sub_in : Data → RawSub
sub_in d = record { name = text_at (codes "name") d; submodule = text_at (codes "module") d; assign = map assignment_in (items_at (codes "assign") d) }

-- the keys of a substitution transition, in a document of a version
abbrev pub sub_keys : ℕ → List (List ℕ)
sub_keys version = codes "name" ∷ codes "module" ∷ codes "assign" ∷ []

-- A substitution transition has a new name, the name of a module, and a list of assignments.
unfoldable pub sub_rules : ℕ → ℕ → ℕ → List (List ℕ) → Data → List Rule
sub_rules version m i earlier d =
    object_rules (sub_keys version) (at_sub m i of_sub.Whole) d
    ++ new_name_rules (codes "name") (at_sub m i of_sub.Whole) (at_sub m i of_sub.Name) earlier d
    ++ name_rules (codes "module") (at_sub m i of_sub.Whole) (at_sub m i of_sub.Module) d
    ++ list_rules (codes "assign") (at_sub m i of_sub.Whole) (at_sub m i of_sub.Assign) d
    ++ each_assignment version m i (items_at (codes "assign") d)

-- ---- modules

abbrev pub module_in : Data → RawModule
module_in d = record {
  name = text_at (codes "name") d;
  places = map place_in (items_at (codes "places") d);
  transitions = map transition_in (items_at (codes "transitions") d);
  arcs = map arc_in (items_at (codes "arcs") d);
  subs = map sub_in (items_at (codes "subs") d);
}

-- each of the places of a module, no two of one name
unfoldable pub each_place : ℕ → ℕ → List Data → List Rule
each_place version m ds = each_named (place_rules version m) 0 [] ds

-- The places of a module: a list of places.
unfoldable pub places_rules : ℕ → ℕ → Data → List Rule
places_rules version m d =
    list_rules (codes "places") (at.Module m of_module.Whole) (at.Module m of_module.Places) d
    ++ each_place version m (items_at (codes "places") d)

-- each of its transitions, no two of one name
unfoldable pub each_transition : ℕ → ℕ → List Data → List Rule
each_transition version m ds = each_named (transition_rules version m) 0 [] ds

-- Its transitions: a list of transitions.
unfoldable pub transitions_rules : ℕ → ℕ → Data → List Rule
transitions_rules version m d =
    list_rules (codes "transitions") (at.Module m of_module.Whole) (at.Module m of_module.Transitions) d
    ++ each_transition version m (items_at (codes "transitions") d)

-- each of its arcs
unfoldable pub each_arc : ℕ → ℕ → List Data → List Rule
each_arc version m ds = each_item (arc_rules version m) 0 ds

-- Its arcs: a list of arcs, not too many of them at any of the transitions of these names.
unfoldable pub arcs_rules : ℕ → ℕ → List (List ℕ) → Data → List Rule
arcs_rules version m transitions d =
    list_rules (codes "arcs") (at.Module m of_module.Whole) (at.Module m of_module.Arcs) d
    ++ each_arc version m (items_at (codes "arcs") d)
    ++ limit_rules (have_few_arcs transitions (map arc_in (items_at (codes "arcs") d))) limits.Arcs

-- each of its substitution transitions, none with the name of another or of one of these transitions
unfoldable pub each_sub : ℕ → ℕ → List (List ℕ) → List Data → List Rule
each_sub version m transitions ds = each_named (sub_rules version m) 0 transitions ds

-- Its substitution transitions: maybe a list of them.
unfoldable pub subs_rules : ℕ → ℕ → List (List ℕ) → Data → List Rule
subs_rules version m transitions d =
    where_there (codes "subs") d (list_rules (codes "subs") (at.Module m of_module.Whole) (at.Module m of_module.Subs) d)
    ++ each_sub version m transitions (items_at (codes "subs") d)

-- the keys of a module, in a document of a version
abbrev pub module_keys : ℕ → List (List ℕ)
module_keys version = codes "name" ∷ codes "places" ∷ codes "transitions" ∷ codes "arcs" ∷ codes "subs" ∷ []

-- A module has a new name, places, transitions, arcs, and maybe substitution transitions.
unfoldable pub module_rules : ℕ → ℕ → List (List ℕ) → Data → List Rule
module_rules version m earlier d =
    object_rules (module_keys version) (at.Module m of_module.Whole) d
    ++ new_name_rules (codes "name") (at.Module m of_module.Whole) (at.Module m of_module.Name) earlier d
    ++ places_rules version m d
    ++ transitions_rules version m d
    ++ arcs_rules version m (names_in (items_at (codes "transitions") d)) d
    ++ subs_rules version m (names_in (items_at (codes "transitions") d)) d

-- ---- fusion sets

abbrev pub member_in : Data → RawMember
member_in d = record { of_module = text_at (codes "module") d; place = text_at (codes "place") d }

-- a part of a member of a fusion set, by their numbers
abbrev pub at_member : ℕ → ℕ → MemberPart → Pointer
at_member i k part = at.Fusion i (of_fusion.Member k part)

-- the keys of a member, in a document of a version
abbrev pub member_keys : ℕ → List (List ℕ)
member_keys version = codes "module" ∷ codes "place" ∷ []

-- A member has the names of a module and a place.
unfoldable pub member_rules : ℕ → ℕ → ℕ → Data → List Rule
member_rules version i k d =
    object_rules (member_keys version) (at_member i k of_member.Whole) d
    ++ name_rules (codes "module") (at_member i k of_member.Whole) (at_member i k of_member.Module) d
    ++ name_rules (codes "place") (at_member i k of_member.Whole) (at_member i k of_member.Place) d

-- each of the members of a fusion set
unfoldable pub each_member : ℕ → ℕ → List Data → List Rule
each_member version i ds = each_item (member_rules version i) 0 ds

abbrev pub fusion_in : Data → RawFusion
fusion_in d = record { name = text_at (codes "name") d; members = map member_in (items_at (codes "members") d) }

-- the keys of a fusion set, in a document of a version
abbrev pub fusion_keys : ℕ → List (List ℕ)
fusion_keys version = codes "name" ∷ codes "members" ∷ []

-- A fusion set has a new name and a list of members.
unfoldable pub fusion_rules : ℕ → ℕ → List (List ℕ) → Data → List Rule
fusion_rules version i earlier d =
    object_rules (fusion_keys version) (at.Fusion i of_fusion.Whole) d
    ++ new_name_rules (codes "name") (at.Fusion i of_fusion.Whole) (at.Fusion i of_fusion.Name) earlier d
    ++ list_rules (codes "members") (at.Fusion i of_fusion.Whole) (at.Fusion i of_fusion.Members) d
    ++ each_member version i (items_at (codes "members") d)

-- ---- the document

-- the most declarations, and the most modules, of a document
abbrev pub most_declarations : ℕ
most_declarations = 1024

abbrev pub most_modules : ℕ
most_modules = 256

-- whether a value is a whole number: one of 64 bits, with or without a sign
abbrev pub is_whole : Data → Bool
is_whole d = is_some (option_and_then as_u64 (as_number d)) || is_some (option_and_then as_i64 (as_number d))

-- the version that a document states; 0 where that is no whole number from 0 on
abbrev pub version_in : Data → ℕ
version_in d = unwrap_or (number_at (codes "version") d) 0

-- The version is there, a whole number, and 1.
unfoldable pub version_rules : ℕ → Data → List Rule
version_rules version d =
    there_rule (codes "version") at.Root d
    ∷ record { kept = unwrap_or (option_map is_whole (get (codes "version") d)) false; refusal = refusals.bad_number at.Version }
    ∷ record { kept = version == 1; refusal = refusals.version }
    ∷ []

-- each of the declarations: a text
unfoldable pub each_declaration : List Data → List Rule
each_declaration ds = each_item (λ i. text_in_rules (at.Declaration i)) 0 ds

-- The declarations: a list of texts, not too many. They are counted before the texts are looked at.
unfoldable pub declarations_rules : Data → List Rule
declarations_rules d =
    list_rules (codes "declarations") at.Root at.Declarations d
    ++ limit_rules (nat_le (length (items_at (codes "declarations") d)) most_declarations) limits.Declarations
    ++ each_declaration (items_at (codes "declarations") d)

-- each of the modules, no two of one name
unfoldable pub each_module : ℕ → List Data → List Rule
each_module version ds = each_named (module_rules version) 0 [] ds

-- The modules: a list of modules, not too many. They are counted before they are looked at.
unfoldable pub modules_rules : ℕ → Data → List Rule
modules_rules version d =
    list_rules (codes "modules") at.Root at.Modules d
    ++ limit_rules (nat_le (length (items_at (codes "modules") d)) most_modules) limits.Modules
    ++ each_module version (items_at (codes "modules") d)

-- each of the fusion sets, no two of one name
unfoldable pub each_fusion : ℕ → List Data → List Rule
each_fusion version ds = each_named (fusion_rules version) 0 [] ds

-- The fusion sets: maybe a list of them.
unfoldable pub fusions_rules : ℕ → Data → List Rule
fusions_rules version d =
    where_there (codes "fusions") d (list_rules (codes "fusions") at.Root at.Fusions d)
    ++ each_fusion version (items_at (codes "fusions") d)

abbrev pub document_in : Data → RawDocument
document_in d = record {
  version = version_in d;
  declarations = map text_in (items_at (codes "declarations") d);
  top = text_at (codes "top") d;
  modules = map module_in (items_at (codes "modules") d);
  fusions = map fusion_in (items_at (codes "fusions") d);
  monitors = map monitor_in (items_at (codes "monitors") d);
  phases = map phase_in (items_at (codes "phases") d);
}

-- the keys of a document of a version
abbrev pub document_keys : ℕ → List (List ℕ)
document_keys version = codes "version" ∷ codes "declarations" ∷ codes "top" ∷ codes "modules" ∷ codes "fusions" ∷ codes "monitors" ∷ codes "phases" ∷ []

-- The rules of a document that states a version. What an object may have for keys is said by the version.
unfoldable pub document_rules : ℕ → Data → List Rule
document_rules version d =
    object_rules (document_keys version) at.Root d
    ++ version_rules version d
    ++ declarations_rules d
    ++ name_rules (codes "top") at.Root at.Top d
    ++ modules_rules version d
    ++ fusions_rules version d
    ++ monitors_rules version d
    ++ phases_rules version d
