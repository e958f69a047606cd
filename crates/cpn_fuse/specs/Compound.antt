-- Compound places. A port's instance and that of its socket are one compound place, and so are all instances of all members of a
-- fusion set: two place instances are one compound place exactly where a chain of such pairs leads from one to the other.
-- Compound places are numbered by their first members. Source: Jensen and Kristensen, chapter 6; the order is an own choice.
use Rattle.std.specs.Prelude.{ℕ, suc, ◌==◌, if◌then◌else◌, List, [], ◌∷◌, ◌++◌, map, Option, Some, None}
use Rattle.std.specs.List.{flat_map}
use Rattle.cpn_classes.specs.Numbering.{Numbering, IsNumbering}
use Rattle.cpn_module.specs.Hierarchy.{PlainMember, PlainHierarchy, substitution_at}
use Rattle.cpn_fuse.specs.Instances.{PlainPart, PlainInstance, instance_at}
use Rattle.cpn_fuse.specs.PlaceInstances.{place_count, place_number}

-- the sockets and the ports of the instance of number j, which stands there
abbrev pub port_pairs_at : PlainHierarchy → List PlainInstance → ℕ → PlainPart → List (ℕ × ℕ)
port_pairs_at h is j part =
    map (λ a. (place_number h is part.instance a.socket, place_number h is j a.port)) (substitution_at h (instance_at is part.instance).of_module part.substitution).assignments

-- the same of an instance that stands so; one that stands nowhere has no sockets
abbrev pub port_pairs_where : PlainHierarchy → List PlainInstance → ℕ → Option PlainPart → List (ℕ × ℕ)
port_pairs_where h is j None = []
port_pairs_where h is j (Some part) = port_pairs_at h is j part

-- those of instances that are numbered from j on
abbrev pub port_pairs_from : PlainHierarchy → List PlainInstance → ℕ → List PlainInstance → List (ℕ × ℕ)
port_pairs_from h is j [] = []
port_pairs_from h is j (x ∷ xs) = port_pairs_where h is j x.part_of ++ port_pairs_from h is (suc j) xs

-- Each port's instance with that of its socket.
abbrev pub port_pairs : PlainHierarchy → List PlainInstance → List (ℕ × ℕ)
port_pairs h is = port_pairs_from h is 0 is

-- the instances of a member of a fusion set: of its place in each instance of its module, among those numbered from i on
abbrev pub instances_of_from : PlainHierarchy → List PlainInstance → PlainMember → ℕ → List PlainInstance → List ℕ
instances_of_from h is member i [] = []
instances_of_from h is member i (x ∷ xs) = if x.of_module == member.of_module then place_number h is i member.place ∷ instances_of_from h is member (suc i) xs else instances_of_from h is member (suc i) xs

abbrev pub instances_of : PlainHierarchy → List PlainInstance → PlainMember → List ℕ
instances_of h is member = instances_of_from h is member 0 is

-- the instances of all members of a fusion set
abbrev pub fused : PlainHierarchy → List PlainInstance → List PlainMember → List ℕ
fused h is members = flat_map (instances_of h is) members

-- each of some numbers with each of them
abbrev pub each_with_each : List ℕ → List (ℕ × ℕ)
each_with_each xs = flat_map (λ x. map (λ y. (x, y)) xs) xs

-- The instances of the members of each fusion set, each with each.
abbrev pub fusion_pairs : PlainHierarchy → List PlainInstance → List (ℕ × ℕ)
fusion_pairs h is = flat_map (λ members. each_with_each (fused h is members)) h.fusions

-- All pairs of place instances that are joined.
abbrev pub joined_pairs : PlainHierarchy → List PlainInstance → List (ℕ × ℕ)
joined_pairs h is = port_pairs h is ++ fusion_pairs h is

-- The compound places: the least classes that join the pairs, numbered by their first members.
abbrev pub AreCompound : PlainHierarchy → List PlainInstance → Numbering → Type 0
AreCompound h is classes = IsNumbering (place_count h is) (joined_pairs h is) classes
