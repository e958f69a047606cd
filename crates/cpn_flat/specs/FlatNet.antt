-- The flat net: what a hierarchical net means. Each instance of a module has all of the module's transitions, with its guards,
-- delays and inscriptions; each arc is at the compound place of its place. A compound place has the name and the colour set of its
-- first member. Source: Jensen and Kristensen, chapter 6; the order and the names are an own choice.
use Rattle.std.specs.Prelude.{ℕ, suc, ◌+◌, List, [], ◌∷◌, ◌++◌, map, slice_index_or}
use Rattle.cpn_definitions.specs.Net.{PlainArc, PlainTransition, Coloured, PlainNet, nothing}
use Rattle.cpn_classes.specs.Numbering.{Numbering, number_of}
use Rattle.cpn_fuse.specs.Instances.{PlainInstance}
use Rattle.cpn_fuse.specs.PlaceInstances.{first_place}
use Rattle.cpn_module.specs.Hierarchy.{PlainHierarchy}
use Rattle.cpn_accepted.specs.Nets.{PlainModuleNet, PlainAccepted, no_module_net, net_from}
use Rattle.cpn_flat.specs.Names.{joined_name, name_at}

-- what each instance has, one instance after another, numbered from i on
unfoldable pub each_instance : {A : Type 0} → (ℕ → PlainInstance → List A) → ℕ → List PlainInstance → List A
each_instance has i [] = []
each_instance has i (x ∷ xs) = has i x ++ each_instance has (suc i) xs

-- the module of a number
abbrev pub module_net_among : List PlainModuleNet → ℕ → PlainModuleNet
module_net_among modules m = slice_index_or modules m no_module_net

-- ---- places

-- a place of an instance of a name
abbrev pub joined_place : List ℕ → Coloured → Coloured
joined_place whole p = record p { name = joined_name whole p.name }

-- the places of the instance of number i
abbrev pub places_at : List PlainModuleNet → List (List ℕ) → ℕ → PlainInstance → List Coloured
places_at modules names i x = map (joined_place (name_at names i)) (module_net_among modules x.of_module).places

-- the place instances, in order
abbrev pub all_places : List PlainModuleNet → List PlainInstance → List (List ℕ) → List Coloured
all_places modules is names = each_instance (places_at modules names) 0 is

-- the first members of classes among these places
abbrev pub compound_among : List Coloured → List ℕ → List Coloured
compound_among places firsts = map (λ first. slice_index_or places first nothing) firsts

-- The compound places: each is its first member.
abbrev pub compound_places : List PlainModuleNet → List PlainInstance → List (List ℕ) → Numbering → List Coloured
compound_places modules is names classes = compound_among (all_places modules is names) classes.firsts

-- ---- transitions

-- an arc of an instance, whose places are numbered from `first` on, at the compound place of its place
abbrev pub flat_arc : Numbering → ℕ → PlainArc → PlainArc
flat_arc classes first arc = record arc { place = number_of classes (first + arc.place) }

-- a transition of an instance of a name, whose places are numbered from `first` on
abbrev pub flat_transition : Numbering → List ℕ → ℕ → PlainTransition → PlainTransition
flat_transition classes whole first t = record t { name = joined_name whole t.name; inputs = map (flat_arc classes first) t.inputs; outputs = map (flat_arc classes first) t.outputs }

-- the transitions of the instance of number i
abbrev pub transitions_at : PlainHierarchy → List PlainModuleNet → List PlainInstance → List (List ℕ) → Numbering → ℕ → PlainInstance → List PlainTransition
transitions_at h modules is names classes i x = map (flat_transition classes (name_at names i) (first_place h is i)) (module_net_among modules x.of_module).transitions

-- The transition instances, in order.
abbrev pub all_transitions : PlainHierarchy → List PlainModuleNet → List PlainInstance → List (List ℕ) → Numbering → List PlainTransition
all_transitions h modules is names classes = each_instance (transitions_at h modules is names classes) 0 is

-- The flat net.
abbrev pub flat_net : PlainAccepted → List PlainInstance → List (List ℕ) → Numbering → PlainNet
flat_net accepted is names classes = net_from accepted.declared (compound_places accepted.modules is names classes) (all_transitions accepted.hierarchy accepted.modules is names classes)
