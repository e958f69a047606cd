-- Place instances that are joined have one colour set, so each has that of its compound place.
use Rattle.std.proofs.Common.{◌≡◌, ◌⊎◌, ℕ, suc, ◌+◌, ◌<◌, ◌==◌, Bool, true, false, cond, List, [], ◌∷◌, length, map, refl, sym, ap, ◌∙◌, subst, inl, inr, arith, eqb-true, Contains}
use Rattle.std.specs.Prelude.{Option, Some, None, slice_index_or}
use Rattle.std.proofs.lemmas.List.{get_or-map}
use Rattle.std.proofs.lemmas.List.Elements.{All-get_or, All-contains}
use Rattle.cpn_definitions.specs.Colour.{PlainColour}
use Rattle.cpn_definitions.specs.Net.{Coloured, nothing}
use Rattle.cpn_definitions.proofs.RisingLists.{IsIn, in_from_contains, contains_from_in, in_append_cases, in_map_from, in_flat_from}
use Rattle.cpn_classes.specs.Joined.{IsJoined, paired, itself, turned, through}
use Rattle.cpn_classes.specs.Numbering.{Numbering, number_of, first_of}
use Rattle.cpn_module.specs.Hierarchy.{PlainAssignment, PlainSubstitution, PlainMember, no_structure, no_substitution, places_in, structure_at, substitution_at}
use Rattle.cpn_module.specs.Ranges.{IsAssignment, IsSubstitution, IsStructure, IsMember}
use Rattle.cpn_accepted.specs.Nets.{PlainAccepted, colour_of_place, IsWellAccepted}
use Rattle.cpn_fuse.specs.Instances.{PlainPart, PlainInstance, instance_at}
use Rattle.cpn_fuse.specs.PlaceInstances.{place_count, place_number}
use Rattle.cpn_fuse.specs.Compound.{port_pairs_at, port_pairs_from, port_pairs, instances_of_from, instances_of, fused, each_with_each, fusion_pairs, joined_pairs, AreCompound}
use Rattle.cpn_fuse.specs.Unfolded.{AreInModules}
use Rattle.cpn_flat.specs.FlatNet.{all_places, compound_places}
use Rattle.cpn_flat.specs.Placed.{StandsFor, IsPlaced, ArePlaced}
use Rattle.cpn_flat.proofs.PlaceLookups.{place_of, module_in}

-- the colour set of the place instance of a number
abbrev pub colour_at : PlainAccepted → List PlainInstance → List (List ℕ) → ℕ → PlainColour
colour_at accepted is names x = (slice_index_or (all_places accepted.modules is names) x nothing).colour

-- instances that are numbered from i on among all
abbrev AreFrom : List PlainInstance → ℕ → List PlainInstance → Type 0
AreFrom is i xs = (k : ℕ) → k < length xs → (i + k < length is) × (instance_at is (i + k) ≡ instance_at xs k)

all_from : (is : List PlainInstance) → AreFrom is 0 is
all_from is k lt = let e : k ≡ 0 + k = omega arith in (omega arith, ap (instance_at is) (sym e))

module _ (is : List PlainInstance) (i : ℕ) (x : PlainInstance) (xs : List PlainInstance) (from : AreFrom is i (x ∷ xs)) where
  first_in : i < length is
  first_in = let first = (from 0 (omega arith)).0 in omega (arith, first)

  first_is : instance_at is i ≡ x
  first_is = let e : i ≡ i + 0 = omega arith in ap (instance_at is) e ∙ (from 0 (omega arith)).1

  rest_from : AreFrom is (suc i) xs
  rest_from k lt = let e : i + suc k ≡ suc i + k = omega arith in let at = from (suc k) (omega arith) in (subst (λ j. j < length is) e at.0, ap (instance_at is) (sym e) ∙ at.1)

module _ (accepted : PlainAccepted) (well : IsWellAccepted accepted) (is : List PlainInstance) (within : AreInModules accepted.hierarchy is) (names : List (List ℕ)) where
  abbrev colour_here : ℕ → PlainColour
  colour_here = colour_at accepted is names

  -- a place instance has the colour set of its place
  pub colour_of : (i p : ℕ) → i < length is → p < places_in (structure_at accepted.hierarchy (instance_at is i).of_module) → colour_here (place_number accepted.hierarchy is i p) ≡ colour_of_place accepted (instance_at is i).of_module p
  colour_of i p lt in_x = ap (λ (c : Coloured). c.colour) (place_of accepted well is within names i p lt in_x)

  -- ---- ports and sockets

  module _ (are : ArePlaced accepted.hierarchy is) where
    port_alike : (j : ℕ) (part : PlainPart) → j < length is → StandsFor accepted.hierarchy is j (instance_at is j).of_module part
        → (a : PlainAssignment) → IsIn a (substitution_at accepted.hierarchy (instance_at is part.instance).of_module part.substitution).assignments
        → colour_here (place_number accepted.hierarchy is part.instance a.socket) ≡ colour_here (place_number accepted.hierarchy is j a.port)
    port_alike j part lt stands a a_in =
        colour_of part.instance a.socket whole_in assignment.socket
        ∙ well.agree.sockets m part.substitution m_in stands.substitution a is_assigned
        ∙ ap (λ n. colour_of_place accepted n a.port) (sym stands.submodule)
        ∙ sym (colour_of j a.port lt (subst (λ n. a.port < places_in (structure_at accepted.hierarchy n)) (sym stands.submodule) assignment.port))
      where
        m : ℕ
        m = (instance_at is part.instance).of_module

        sub : PlainSubstitution
        sub = substitution_at accepted.hierarchy m part.substitution

        whole_in : part.instance < length is
        whole_in = let before = stands.behind in omega (arith, before, lt)

        m_in : m < length accepted.hierarchy.modules
        m_in = module_in accepted well is within part.instance whole_in

        structure : IsStructure accepted.hierarchy (structure_at accepted.hierarchy m)
        structure = All-get_or (IsStructure accepted.hierarchy) accepted.hierarchy.modules m no_structure m_in well.numbers.modules

        its : IsSubstitution accepted.hierarchy (structure_at accepted.hierarchy m) sub
        its = All-get_or (IsSubstitution accepted.hierarchy (structure_at accepted.hierarchy m)) (structure_at accepted.hierarchy m).substitutions part.substitution no_substitution stands.substitution structure.substitutions

        is_assigned : Contains sub.assignments a
        is_assigned = contains_from_in sub.assignments a a_in

        assignment : IsAssignment (structure_at accepted.hierarchy m) (structure_at accepted.hierarchy sub.submodule) a
        assignment = All-contains (IsAssignment (structure_at accepted.hierarchy m) (structure_at accepted.hierarchy sub.submodule)) sub.assignments a its.assignments is_assigned

    ports_alike : (j : ℕ) (xs : List PlainInstance) → AreFrom is j xs → (a b : ℕ) → IsIn (a, b) (port_pairs_from accepted.hierarchy is j xs) → colour_here a ≡ colour_here b
    ports_alike j [] from a b h = absurd h
    ports_alike j (x ∷ xs) from a b h = by x.of_module x.part_of (first_is is j x xs from) h (ports_alike (suc j) xs (rest_from is j x xs from) a b)
      where
        lt : j < length is
        lt = first_in is j x xs from

        by : (m : ℕ) (part : Option PlainPart) → instance_at is j ≡ record { of_module = m; part_of = part } → IsIn (a, b) (port_pairs_from accepted.hierarchy is j (record { of_module = m; part_of = part } ∷ xs))
            → (IsIn (a, b) (port_pairs_from accepted.hierarchy is (suc j) xs) → colour_here a ≡ colour_here b) → colour_here a ≡ colour_here b
        by m None e h rest = rest h
        by m (Some part) e h rest = split (in_append_cases (port_pairs_at accepted.hierarchy is j part) (port_pairs_from accepted.hierarchy is (suc j) xs) (a, b) h)
          where
            stands : StandsFor accepted.hierarchy is j (instance_at is j).of_module part
            stands = subst (λ (y : PlainInstance). StandsFor accepted.hierarchy is j y.of_module part) (sym e) (subst (λ (y : PlainInstance). IsPlaced accepted.hierarchy is j y.of_module y.part_of) e (are.placed j lt))

            split : IsIn (a, b) (port_pairs_at accepted.hierarchy is j part) ⊎ IsIn (a, b) (port_pairs_from accepted.hierarchy is (suc j) xs) → colour_here a ≡ colour_here b
            split (inl here) =
                let from_a = in_map_from (λ (a : PlainAssignment). (place_number accepted.hierarchy is part.instance a.socket, place_number accepted.hierarchy is j a.port))
                (substitution_at accepted.hierarchy (instance_at is part.instance).of_module part.substitution).assignments (a, b) here
                in
                ap (λ (p : ℕ × ℕ). colour_here p.0) (sym from_a.2) ∙ port_alike j part lt stands from_a.0 from_a.1 ∙ ap (λ (p : ℕ × ℕ). colour_here p.1) from_a.2
            split (inr later) = rest later

  -- ---- fusion sets

  -- an instance of a member of a fusion set has the member's colour set
  member_colour : (member : PlainMember) → IsMember accepted.hierarchy member → (i : ℕ) (xs : List PlainInstance) → AreFrom is i xs → (a : ℕ) → IsIn a (instances_of_from accepted.hierarchy is member i xs)
      → colour_here a ≡ colour_of_place accepted member.of_module member.place
  member_colour member there i [] from a h = absurd h
  member_colour member there i (x ∷ xs) from a h = split (x.of_module == member.of_module) refl h (member_colour member there (suc i) xs (rest_from is i x xs from) a)
    where
      split : (test : Bool) → (x.of_module == member.of_module) ≡ test
          → IsIn a (cond test (place_number accepted.hierarchy is i member.place ∷ instances_of_from accepted.hierarchy is member (suc i) xs) (instances_of_from accepted.hierarchy is member (suc i) xs))
          → (IsIn a (instances_of_from accepted.hierarchy is member (suc i) xs) → colour_here a ≡ colour_of_place accepted member.of_module member.place)
          → colour_here a ≡ colour_of_place accepted member.of_module member.place
      split true same (inl e) rest =
          let of_it : (instance_at is i).of_module ≡ member.of_module = ap (λ (y : PlainInstance). y.of_module) (first_is is i x xs from) ∙ eqb-true x.of_module member.of_module same in
          ap colour_here (sym e) ∙ colour_of i member.place (first_in is i x xs from) (subst (λ m. member.place < places_in (structure_at accepted.hierarchy m)) (sym of_it) there.place)
          ∙ ap (λ m. colour_of_place accepted m member.place) of_it
      split true same (inr h) rest = rest h
      split false same h rest = rest h

  -- an instance of a member of a fusion set, which is in a list of fusion sets
  fused_colour : (members : List PlainMember) → Contains accepted.hierarchy.fusions members → (a : ℕ) → IsIn a (fused accepted.hierarchy is members)
      → (member : PlainMember) × Contains members member × (colour_here a ≡ colour_of_place accepted member.of_module member.place)
  fused_colour members in_fusions a h =
      let one = in_flat_from (instances_of accepted.hierarchy is) members a h in
      let member : PlainMember = one.0 in
      let contained : Contains members member = contains_from_in members member one.1 in
      let there : IsMember accepted.hierarchy member = All-contains (IsMember accepted.hierarchy) members member (All-contains (λ ms. (k : ℕ) (d : PlainMember) → k < length ms → IsMember accepted.hierarchy (slice_index_or ms k d)) accepted.hierarchy.fusions members well.numbers.fusions in_fusions) contained in
      (member, contained, member_colour member there 0 is (all_from is) a one.2)

  members_alike : (members : List PlainMember) → Contains accepted.hierarchy.fusions members → (a b : ℕ) → IsIn a (fused accepted.hierarchy is members) → IsIn b (fused accepted.hierarchy is members) → colour_here a ≡ colour_here b
  members_alike members in_fusions a b a_in b_in =
      let first = fused_colour members in_fusions a a_in in
      let second = fused_colour members in_fusions b b_in in
      first.2 ∙ well.agree.members members in_fusions first.0 second.0 first.1 second.1 ∙ sym second.2

  fusions_alike : (a b : ℕ) → IsIn (a, b) (fusion_pairs accepted.hierarchy is) → colour_here a ≡ colour_here b
  fusions_alike a b h = of_fusion (in_flat_from (λ members. each_with_each (fused accepted.hierarchy is members)) accepted.hierarchy.fusions (a, b) h)
    where
      of_second : (all : List ℕ) (x : ℕ) → ((y : ℕ) → IsIn y all → colour_here x ≡ colour_here y) → (y : ℕ) × IsIn y all × (◌≡◌ {A = ℕ × ℕ} (x, y) (a, b)) → colour_here a ≡ colour_here b
      of_second all x alike second = ap (λ (p : ℕ × ℕ). colour_here p.0) (sym second.2) ∙ alike second.0 second.1 ∙ ap (λ (p : ℕ × ℕ). colour_here p.1) second.2

      of_first : (all : List ℕ) → ((x y : ℕ) → IsIn x all → IsIn y all → colour_here x ≡ colour_here y) → (x : ℕ) × IsIn x all × IsIn {X = ℕ × ℕ} (a, b) (map (λ (y : ℕ). (x, y)) all) → colour_here a ≡ colour_here b
      of_first all alike first = of_second all first.0 (λ y y_in. alike first.0 y first.1 y_in) (in_map_from (λ (y : ℕ). (first.0, y)) all (a, b) first.2)

      of_fusion : (members : List PlainMember) × IsIn members accepted.hierarchy.fusions × IsIn {X = ℕ × ℕ} (a, b) (each_with_each (fused accepted.hierarchy is members)) → colour_here a ≡ colour_here b
      of_fusion fusion =
          of_first (fused accepted.hierarchy is fusion.0) (members_alike fusion.0 (contains_from_in accepted.hierarchy.fusions fusion.0 fusion.1))
          (in_flat_from (λ (x : ℕ). map (λ (y : ℕ). (x, y)) (fused accepted.hierarchy is fusion.0)) (fused accepted.hierarchy is fusion.0) (a, b) fusion.2)

  -- ---- joined place instances

  module _ (are : ArePlaced accepted.hierarchy is) where
    -- the two of each pair have one colour set
    pub pairs_alike : (a b : ℕ) → Contains (joined_pairs accepted.hierarchy is) (a, b) → colour_here a ≡ colour_here b
    pairs_alike a b h = split (in_append_cases (port_pairs accepted.hierarchy is) (fusion_pairs accepted.hierarchy is) (a, b) (in_from_contains (joined_pairs accepted.hierarchy is) (a, b) h))
      where
        split : IsIn (a, b) (port_pairs accepted.hierarchy is) ⊎ IsIn (a, b) (fusion_pairs accepted.hierarchy is) → colour_here a ≡ colour_here b
        split (inl port) = ports_alike are 0 is (all_from is) a b port
        split (inr fusion) = fusions_alike a b fusion

    -- and so have all that are joined
    pub joined_alike : (a b : ℕ) → IsJoined (joined_pairs accepted.hierarchy is) a b → colour_here a ≡ colour_here b
    joined_alike a b (paired _ _ h) = pairs_alike a b h
    joined_alike a b (itself _) = refl
    joined_alike a b (turned _ _ h) = sym (joined_alike b a h)
    joined_alike a b (through _ c _ h k) = joined_alike a c h ∙ joined_alike c b k

    -- Each place instance has the colour set of its compound place.
    pub compound_colour : (classes : Numbering) → AreCompound accepted.hierarchy is classes → (x : ℕ) → x < place_count accepted.hierarchy is
        → (slice_index_or (compound_places accepted.modules is names classes) (number_of classes x) nothing).colour ≡ colour_here x
    compound_colour classes compound x lt =
        ap (λ (c : Coloured). c.colour) (get_or-map (λ (first : ℕ). slice_index_or (all_places accepted.modules is names) first nothing) classes.firsts (number_of classes x) 0 nothing class_in)
        ∙ joined_alike (first_of classes (number_of classes x)) x ((compound.joined (first_of classes (number_of classes x)) x first_in_all lt).0 (compound.in_order.is_member (number_of classes x) class_in))
      where
        class_in : number_of classes x < length classes.firsts
        class_in = compound.in_order.in_class x (let many = compound.each in omega (arith, many, lt))

        first_in_all : first_of classes (number_of classes x) < place_count accepted.hierarchy is
        first_in_all = let many = compound.each in let is_item = compound.in_order.is_item (number_of classes x) class_in in omega (arith, many, is_item)
