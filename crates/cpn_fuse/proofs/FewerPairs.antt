-- The fewer pairs join the same, and each joined number is that of a place.
use Rattle.std.proofs.Common.{◌≡◌, ℕ, zero, suc, ◌+◌, ◌<◌, Bool, true, false, List, [], ◌∷◌, ◌++◌, length, get_or, Option, Some, None, refl, sym, ap, subst, ◌∙◌, inl, inr, arith}
use Rattle.std.specs.Prelude.{All, Contains, slice_index_or, IsSome, IfSome}
use Rattle.std.specs.Option.{option_map}
use Rattle.std.proofs.lemmas.Bool.{cases_order}
use Rattle.std.proofs.lemmas.List.Elements.{All-contains, Contains-get_or, Contains-append_left, Contains-append_right, Contains-append_cases}
use Rattle.cpn_classes.specs.Joined.{IsJoined, paired, turned, through}
use Rattle.cpn_classes.specs.Trees.{JoinTheSame}
use Rattle.cpn_classes.specs.JoinedPairs.{joined_by}
use Rattle.cpn_module.specs.Hierarchy.{PlainAssignment, PlainMember, PlainHierarchy, places_in, structure_at, substitution_at}
use Rattle.cpn_module.specs.Ranges.{IsAssignment, IsMember, HasItsNumbers}
use Rattle.cpn_fuse.specs.Instances.{PlainPart, PlainInstance, instance_at, no_instance, AreInstances}
use Rattle.cpn_fuse.specs.PlaceInstances.{place_count, first_place, place_number}
use Rattle.cpn_fuse.specs.Compound.{port_pairs_where, port_pairs_from, port_pairs, instances_of, fused, each_with_each, fusion_pairs, joined_pairs}
use Rattle.cpn_fuse.specs.FewerPairs.{ArePicked, picked_place, picked_places, all_picked, with_first, set_pairs, AreMarked, copies_of, copies}
use Rattle.cpn_fuse.proofs.InstanceLaws.{instance_placed, substitution_in, IsPart}
use Rattle.cpn_fuse.proofs.PlaceLaws.{IsPlace, number_below, numbers_apart}
use Rattle.cpn_fuse.proofs.Members.{in_none, from_map, flat_mapped, from_flat_map, filtered, from_filter_map}
use Rattle.cpn_fuse.proofs.JoinedPlaces.{each_pair, from_each, from_first, two_joined, instance_in, from_instance, marked_in, from_marked}

module _ (h : PlainHierarchy) (is : List PlainInstance) where
  -- the picked place of a member is that of an instance that is picked
  from_picked : (picked : List (Option ℕ)) (member : PlainMember) (q : ℕ) → picked_place h is picked member ≡ Some q → (i : ℕ) × (slice_index_or picked member.of_module None ≡ Some i) × (place_number h is i member.place ≡ q)
  from_picked picked member q = by (slice_index_or picked member.of_module None)
    where
      by : (o : Option ℕ) → option_map (λ i. place_number h is i member.place) o ≡ Some q → (i : ℕ) × (o ≡ Some i) × (place_number h is i member.place ≡ q)
      by None e = cc
      by (Some i) e = let same : place_number h is i member.place ≡ q = cc in (i, refl, same)

  -- copies are those of an instance
  copies_in : (picked : List (Option ℕ)) (marks : List Bool) (n i : ℕ) (p : ℕ × ℕ) → i < n → Contains (copies_of h is marks i (slice_index_or picked (instance_at is i).of_module None)) p → Contains (copies h is picked marks n) p
  copies_in picked marks zero i p lt c = absurd (omega arith)
  copies_in picked marks (suc n) i p lt c =
      let here = λ (m : ℕ). copies_of h is marks m (slice_index_or picked (instance_at is m).of_module None) in
      elim (cases_order i n) [
        | inl same ↦ Contains-append_right (copies h is picked marks n) (here n) p (subst (λ (m : ℕ). Contains (here m) p) same c)
        | inr apart ↦ elim apart [
          | inl less ↦ Contains-append_left (copies h is picked marks n) (here n) p (copies_in picked marks n i p less c)
          | inr more ↦ absurd (omega arith)
        ]
      ]

  from_copies : (picked : List (Option ℕ)) (marks : List Bool) (n : ℕ) (p : ℕ × ℕ) → Contains (copies h is picked marks n) p → (i : ℕ) × (i < n) × Contains (copies_of h is marks i (slice_index_or picked (instance_at is i).of_module None)) p
  from_copies picked marks zero p c = absurd (in_none p c)
  from_copies picked marks (suc n) p c =
      elim (Contains-append_cases (copies h is picked marks n) (copies_of h is marks n (slice_index_or picked (instance_at is n).of_module None)) p c) [
        | inl before ↦ let from = from_copies picked marks n p before in let lt = from.1 in (from.0, omega arith, from.2)
        | inr last ↦ (n, omega arith, last)
      ]

-- where pairs come from that ports make
from_ports : (h : PlainHierarchy) (is : List PlainInstance) (j : ℕ) (xs : List PlainInstance) (p : ℕ × ℕ) → Contains (port_pairs_from h is j xs) p → (i : ℕ) × (i < length xs) × Contains (port_pairs_where h is (j + i) (get_or xs i no_instance).part_of) p
from_ports h is j [] p c = absurd (in_none p c)
from_ports h is j (x ∷ xs) p c =
    elim (Contains-append_cases (port_pairs_where h is j x.part_of) (port_pairs_from h is (suc j) xs) p c) [
      | inl here ↦ let same : j ≡ j + 0 = omega arith in (0, omega arith, subst (λ (k : ℕ). Contains (port_pairs_where h is k x.part_of) p) same here)
      | inr later ↦
          let from = from_ports h is (suc j) xs p later in
          let lt = from.1 in
          let same : suc j + from.0 ≡ j + suc from.0 = omega arith in
          (suc from.0, omega arith, subst (λ (k : ℕ). Contains (port_pairs_where h is k (get_or xs from.0 no_instance).part_of) p) same from.2)
    ]

-- both numbers of a pair are those of places
abbrev pub IsPair : PlainHierarchy → List PlainInstance → ℕ × ℕ → Type 0
IsPair h is p = (p.0 < place_count h is) × (p.1 < place_count h is)

module _ (h : PlainHierarchy) (numbers : HasItsNumbers h) (is : List PlainInstance) (come : AreInstances h is) where
  -- the member of a fusion set
  member_in : (members : List PlainMember) (member : PlainMember) → Contains h.fusions members → Contains members member → IsMember h member
  member_in members member set_in in_set = All-contains (IsMember h) members member (All-contains (All (IsMember h)) h.fusions members numbers.fusions set_in) in_set

  -- an instance of its module has its place
  member_place : (member : PlainMember) (i : ℕ) → IsMember h member → i < length is → (instance_at is i).of_module ≡ member.of_module → IsPlace h is i member.place
  member_place member i is_member lt e = (lt, subst (λ (m : ℕ). member.place < places_in (structure_at h m)) (sym e) is_member.place)

  -- ---- what is joined is a place

  ports_are_places : (i : ℕ) → i < length is → (part : Option PlainPart) → IfSome part (IsPart h is i (instance_at is i).of_module) → (p : ℕ × ℕ) → Contains (port_pairs_where h is i part) p → IsPair h is p
  ports_are_places i lt None none p c = absurd (in_none p c)
  ports_are_places i lt (Some part) placed p c =
      let outer = (instance_at is part.instance).of_module in
      let before = placed.before in
      let outer_in : part.instance < length is = omega arith in
      let sub = substitution_in h numbers outer part.substitution (instance_placed h numbers is come part.instance outer_in).of_module placed.substitution in
      let from = from_map (λ (a : PlainAssignment). (place_number h is part.instance a.socket, place_number h is i a.port)) (substitution_at h outer part.substitution).assignments p c in
      let a = from.0 in
      let assigned = All-contains (IsAssignment (structure_at h outer) (structure_at h (substitution_at h outer part.substitution).submodule)) (substitution_at h outer part.substitution).assignments a sub.assignments from.1 in
      let port : a.port < places_in (structure_at h (instance_at is i).of_module) = subst (λ (m : ℕ). a.port < places_in (structure_at h m)) (sym placed.submodule) assigned.port in
      subst (IsPair h is) from.2 (number_below h is part.instance a.socket (outer_in, assigned.socket), number_below h is i a.port (lt, port))

  fused_are_places : (members : List PlainMember) (x : ℕ) → Contains h.fusions members → Contains (fused h is members) x → x < place_count h is
  fused_are_places members x set_in c =
      let from = from_flat_map (instances_of h is) members x c in
      let member = from.0 in
      let instance = from_instance h is member x from.2 in
      subst (λ (n : ℕ). n < place_count h is) instance.3 (number_below h is instance.0 member.place (member_place member instance.0 (member_in members member set_in from.1) instance.1 instance.2))

  -- each joined pair is one of places
  pub joined_are_places : (p : ℕ × ℕ) → Contains (joined_pairs h is) p → IsPair h is p
  joined_are_places p c =
      elim (Contains-append_cases (port_pairs h is) (fusion_pairs h is) p c) [
        | inl ports ↦
            let from = from_ports h is 0 is p ports in
            let same : 0 + from.0 ≡ from.0 = omega arith in
            ports_are_places from.0 from.1 (instance_at is from.0).part_of (instance_placed h numbers is come from.0 from.1).part p (subst (λ (k : ℕ). Contains (port_pairs_where h is k (instance_at is from.0).part_of) p) same from.2)
        | inr fusions ↦
            let from = from_flat_map (λ (members : List PlainMember). each_with_each (fused h is members)) h.fusions p fusions in
            let both = from_each (fused h is from.0) p from.2 in
            (fused_are_places from.0 p.0 from.1 both.0, fused_are_places from.0 p.1 from.1 both.1)
      ]

  -- ---- the fewer pairs

  -- a picked place is one of those that are fused
  picked_fused : (picked : List (Option ℕ)) → ArePicked is picked → (members : List PlainMember) (q : ℕ) → Contains (picked_places h is picked members) q → Contains (fused h is members) q
  picked_fused picked are members q c =
      let from = from_filter_map (picked_place h is picked) members q c in
      let member = from.0 in
      let one = from_picked h is picked member q from.2 in
      let instance = are.instance member.of_module one.0 one.1 in
      flat_mapped (instances_of h is) members member q from.1 (subst (λ (n : ℕ). Contains (instances_of h is member) n) one.2 (instance_in h is member one.0 instance.0 instance.1))

  pub picked_are_places : (picked : List (Option ℕ)) → ArePicked is picked → (members : List PlainMember) → Contains h.fusions members → (q : ℕ) → Contains (picked_places h is picked members) q → q < place_count h is
  picked_are_places picked are members set_in q c = fused_are_places members q set_in (picked_fused picked are members q c)

  module _ (picked : List (Option ℕ)) (are : ArePicked is picked) (marks : List Bool) (marked : AreMarked marks (all_picked h is picked h.fusions)) where
    -- all that are made
    abbrev pub fewer_pairs : List (ℕ × ℕ)
    fewer_pairs = port_pairs h is ++ set_pairs h is picked h.fusions ++ copies h is picked marks (length is)

    -- two that are fused are joined
    fused_joined : (members : List PlainMember) (p : ℕ × ℕ) → Contains h.fusions members → Contains (fused h is members) p.0 → Contains (fused h is members) p.1 → Contains (joined_pairs h is) p
    fused_joined members p set_in one other =
        Contains-append_right (port_pairs h is) (fusion_pairs h is) p (flat_mapped (λ (set : List PlainMember). each_with_each (fused h is set)) h.fusions members p set_in (each_pair (fused h is members) p.0 p.1 one other))

    sets_joined : (p : ℕ × ℕ) → Contains (set_pairs h is picked h.fusions) p → Contains (joined_pairs h is) p
    sets_joined p c =
        let from = from_flat_map (λ (members : List PlainMember). with_first (picked_places h is picked members)) h.fusions p c in
        let both = from_first (picked_places h is picked from.0) p from.2 in
        fused_joined from.0 p from.1 (picked_fused picked are from.0 p.0 both.0) (picked_fused picked are from.0 p.1 both.1)

    -- a marked place of a picked instance is fused with the same place of another instance of the module
    copy_joined : (i one k : ℕ) → i < length is → slice_index_or picked (instance_at is i).of_module None ≡ Some one → k < places_in (structure_at h (instance_at is i).of_module) → slice_index_or marks (first_place h is one + k) false ≡ true → Contains (joined_pairs h is) (place_number h is one k, place_number h is i k)
    copy_joined i one k lt e k_in mark =
        let q = place_number h is one k in
        let set = from_flat_map (picked_places h is picked) h.fusions q ((marked q).0 mark) in
        let from = from_filter_map (picked_place h is picked) set.0 q set.2 in
        let member = from.0 in
        let other = from_picked h is picked member q from.2 in
        let instance = are.instance (instance_at is i).of_module one e in
        let its = are.instance member.of_module other.0 other.1 in
        let is_member = member_in set.0 member set.1 from.1 in
        let one_place : IsPlace h is one k = (instance.0, subst (λ (m : ℕ). k < places_in (structure_at h m)) (sym instance.1) k_in) in
        let same = numbers_apart h is other.0 member.place one k (member_place member other.0 is_member its.0 its.1) one_place other.2 in
        let module_of_one : (instance_at is one).of_module ≡ member.of_module = ap (λ (j : ℕ). (instance_at is j).of_module) (sym same.0) ∙ its.1 in
        let module_of_i : (instance_at is i).of_module ≡ member.of_module = sym instance.1 ∙ module_of_one in
        let in_set = λ (j : ℕ) (j_in : j < length is) (of_it : (instance_at is j).of_module ≡ member.of_module). flat_mapped (instances_of h is) set.0 member (place_number h is j k) from.1 (subst (λ (p : ℕ). Contains (instances_of h is member) (place_number h is j p)) same.1 (instance_in h is member j j_in of_it)) in
        fused_joined set.0 (place_number h is one k, place_number h is i k) set.1 (in_set one instance.0 module_of_one) (in_set i lt module_of_i)

    copies_joined_at : (i : ℕ) → i < length is → (o : Option ℕ) → slice_index_or picked (instance_at is i).of_module None ≡ o → (p : ℕ × ℕ) → Contains (copies_of h is marks i o) p → Contains (joined_pairs h is) p
    copies_joined_at i lt None e p c = absurd (in_none p c)
    copies_joined_at i lt (Some one) e p c =
        let from = from_marked marks (first_place h is one) (first_place h is i) (places_in (structure_at h (instance_at is i).of_module)) p c in
        subst (λ (q : ℕ × ℕ). Contains (joined_pairs h is) q) from.3 (copy_joined i one from.0 lt e from.1 from.2)

    -- each that is made is joined
    pub made_joined : (p : ℕ × ℕ) → Contains fewer_pairs p → Contains (joined_pairs h is) p
    made_joined p c =
        elim (Contains-append_cases (port_pairs h is ++ set_pairs h is picked h.fusions) (copies h is picked marks (length is)) p c) [
          | inl before ↦ elim (Contains-append_cases (port_pairs h is) (set_pairs h is picked h.fusions) p before) [
            | inl ports ↦ Contains-append_left (port_pairs h is) (fusion_pairs h is) p ports
            | inr sets ↦ sets_joined p sets
          ]
          | inr made ↦ let from = from_copies h is picked marks (length is) p made in copies_joined_at from.0 from.1 (slice_index_or picked (instance_at is from.0).of_module None) refl p from.2
        ]

    -- each instance of a member is joined to a picked place
    to_picked_of : (members : List PlainMember) (member : PlainMember) (i : ℕ) → Contains h.fusions members → Contains members member → i < length is → (instance_at is i).of_module ≡ member.of_module → (o : Option ℕ) → slice_index_or picked (instance_at is i).of_module None ≡ o → IsSome o → (q : ℕ) × Contains (picked_places h is picked members) q × IsJoined fewer_pairs q (place_number h is i member.place)
    to_picked_of members member i set_in in_set lt e None is_none some = cc
    to_picked_of members member i set_in in_set lt e (Some one) is_one some =
        let q = place_number h is one member.place in
        let x = place_number h is i member.place in
        let of_module : slice_index_or picked member.of_module None ≡ Some one = subst (λ (m : ℕ). slice_index_or picked m None ≡ Some one) e is_one in
        let is_picked : picked_place h is picked member ≡ Some q = ap (option_map (λ (j : ℕ). place_number h is j member.place)) of_module in
        let in_picked = filtered (picked_place h is picked) members member q in_set is_picked in
        let mark = (marked q).1 (flat_mapped (picked_places h is picked) h.fusions members q set_in in_picked) in
        let place = member_place member i (member_in members member set_in in_set) lt e in
        let copy = marked_in marks (first_place h is one) (first_place h is i) (places_in (structure_at h (instance_at is i).of_module)) member.place place.1 mark in
        let copied = copies_in h is picked marks (length is) i (q, x) lt (subst (λ (o : Option ℕ). Contains (copies_of h is marks i o) (q, x)) (sym is_one) copy) in
        (q, in_picked, paired q x (Contains-append_right (port_pairs h is ++ set_pairs h is picked h.fusions) (copies h is picked marks (length is)) (q, x) copied))

    to_picked : (members : List PlainMember) (x : ℕ) → Contains h.fusions members → Contains (fused h is members) x → (q : ℕ) × Contains (picked_places h is picked members) q × IsJoined fewer_pairs q x
    to_picked members x set_in c =
        let from = from_flat_map (instances_of h is) members x c in
        let instance = from_instance h is from.0 x from.2 in
        let i = instance.0 in
        let to = to_picked_of members from.0 i set_in from.1 instance.1 instance.2 (slice_index_or picked (instance_at is i).of_module None) refl (are.each i instance.1) in
        (to.0, to.1, subst (λ (n : ℕ). IsJoined fewer_pairs to.0 n) instance.3 to.2)

    -- and each pair that is joined is joined by those that are made
    joined_made : (a b : ℕ) → Contains (joined_pairs h is) (a, b) → IsJoined fewer_pairs a b
    joined_made a b c =
        elim (Contains-append_cases (port_pairs h is) (fusion_pairs h is) (a, b) c) [
          | inl ports ↦ paired a b (Contains-append_left (port_pairs h is ++ set_pairs h is picked h.fusions) (copies h is picked marks (length is)) (a, b) (Contains-append_left (port_pairs h is) (set_pairs h is picked h.fusions) (a, b) ports))
          | inr fusions ↦
              let from = from_flat_map (λ (members : List PlainMember). each_with_each (fused h is members)) h.fusions (a, b) fusions in
              let both = from_each (fused h is from.0) (a, b) from.2 in
              let one = to_picked from.0 a from.1 both.0 in
              let other = to_picked from.0 b from.1 both.1 in
              let in_made = λ (p : ℕ × ℕ) (first : Contains (with_first (picked_places h is picked from.0)) p). Contains-append_left (port_pairs h is ++ set_pairs h is picked h.fusions) (copies h is picked marks (length is)) p (Contains-append_right (port_pairs h is) (set_pairs h is picked h.fusions) p (flat_mapped (λ (members : List PlainMember). with_first (picked_places h is picked members)) h.fusions from.0 p from.1 first)) in
              let between = two_joined fewer_pairs (picked_places h is picked from.0) in_made one.0 other.0 one.1 other.1 in
              through a one.0 b (turned one.0 a one.2) (through one.0 other.0 b between other.2)
        ]

    -- so they join the same
    pub fewer_join_the_same : JoinTheSame fewer_pairs (joined_pairs h is)
    fewer_join_the_same a b = (
      joined_by fewer_pairs (joined_pairs h is) (λ c d made. paired c d (made_joined (c, d) made)) a b,
      joined_by (joined_pairs h is) fewer_pairs joined_made a b,
    )

    -- and are pairs of places
    pub fewer_are_places : All (IsPair h is) fewer_pairs
    fewer_are_places k d lt = joined_are_places (get_or fewer_pairs k d) (made_joined (get_or fewer_pairs k d) (Contains-get_or fewer_pairs k d lt))
