-- Rows that exhibit the definitions: a top module with two substitution transitions of one module, which has a port and a place
-- that is in a fusion set; modules three deep; and ports of parts of parts.
use Rattle.std.proofs.Common.{◌≡◌, ℕ, zero, suc, ◌<◌, ◌≤◌, List, [], ◌∷◌, get_or, Some, None, refl, subst, arith}
use Rattle.std.specs.Prelude.{All}
use Rattle.std.proofs.lemmas.List.Elements.{All-nil, All-cons}
use Rattle.cpn_classes.specs.Joined.{IsJoined, paired, itself, turned, through}
use Rattle.cpn_classes.specs.Numbering.{Numbering, number_of, first_of}
use Rattle.cpn_classes.specs.OneNumbering.{numbering_same}
use Rattle.cpn_classes.specs.JoinedPairs.{alike}
use Rattle.cpn_document.specs.declared.document.PortType.TheVariants.{In}
use Rattle.cpn_module.specs.Hierarchy.{PlainSubstitution, PlainStructure, PlainHierarchy}
use Rattle.cpn_module.specs.Ranges.{AreEnds, IsAssignment, IsSubstitution, IsStructure, IsMember, HasItsNumbers}
use Rattle.cpn_fuse.specs.Instances.{PlainInstance, with_parts, none_left, one_more, none_yet, one_first, AreInstances, AreMoreThan}
use Rattle.cpn_fuse.specs.PlaceInstances.{place_count, transition_count, place_number}
use Rattle.cpn_fuse.specs.Compound.{port_pairs, fusion_pairs, joined_pairs, AreCompound}
use Rattle.cpn_fuse.specs.Unfolded.{IsUnfolded}

-- ---- a substitution transition of the module 1, whose port 0 has a socket, and an instance of it

abbrev transition_to : ℕ → PlainSubstitution
transition_to socket = record { submodule = 1; assignments = record { port = 0; socket = socket } ∷ [] }

abbrev top_instance : PlainInstance
top_instance = record { of_module = 0; part_of = None }

abbrev instance_for : ℕ → ℕ → ℕ → PlainInstance
instance_for m n i = record { of_module = m; part_of = Some (record { instance = n; substitution = i }) }

-- ---- two instances of one module

abbrev top_module : PlainStructure
top_module = record { ports = None ∷ None ∷ []; transitions = 0; arcs = []; substitutions = transition_to 0 ∷ transition_to 1 ∷ [] }

abbrev submodule : PlainStructure
submodule = record { ports = Some In ∷ None ∷ []; transitions = 1; arcs = []; substitutions = [] }

abbrev two_of_one : PlainHierarchy
two_of_one = record { top = 0; modules = top_module ∷ submodule ∷ []; fusions = (record { of_module = 1; place = 1 } ∷ []) ∷ [] }

abbrev three_instances : List PlainInstance
three_instances = top_instance ∷ instance_for 1 0 0 ∷ instance_for 1 0 1 ∷ []

-- its numbers are those of something
transition_is : (socket : ℕ) → socket < 2 → IsSubstitution two_of_one top_module (transition_to socket)
transition_is socket lt = record {
  submodule = omega arith;
  assignments = All-cons (IsAssignment top_module submodule) (record { port = 0; socket = socket }) [] (record { port = omega arith; socket = omega arith }) (All-nil (IsAssignment top_module submodule));
}

two_of_one_is : HasItsNumbers two_of_one
two_of_one_is = record {
  top = omega arith;
  modules = All-cons (IsStructure two_of_one) top_module (submodule ∷ []) (record {
    arcs = All-nil (AreEnds top_module);
    substitutions = All-cons (IsSubstitution two_of_one top_module) (transition_to 0) (transition_to 1 ∷ []) (transition_is 0 (omega arith))
        (All-cons (IsSubstitution two_of_one top_module) (transition_to 1) [] (transition_is 1 (omega arith)) (All-nil (IsSubstitution two_of_one top_module)));
  }) (All-cons (IsStructure two_of_one) submodule [] (record { arcs = All-nil (AreEnds submodule); substitutions = All-nil (IsSubstitution two_of_one submodule) }) (All-nil (IsStructure two_of_one)));
  fusions = All-cons (All (IsMember two_of_one)) (record { of_module = 1; place = 1 } ∷ []) []
      (All-cons (IsMember two_of_one) (record { of_module = 1; place = 1 }) [] (record { of_module = omega arith; place = omega arith }) (All-nil (IsMember two_of_one)))
      (All-nil (All (IsMember two_of_one)));
}

are_three : AreInstances two_of_one three_instances
are_three = with_parts 0 _ _ (one_more 1 _ _ _ _ (with_parts 1 _ _ (none_left 2)) (one_more 2 _ _ _ _ (with_parts 2 _ _ (none_left 3)) (none_left 3)))

more_than_two : AreMoreThan two_of_one 2
more_than_two = record { first = three_instances; later = []; come = one_first 0 _ _ _ _ (one_first 1 _ _ _ _ (one_first 2 _ _ _ _ (none_yet 3 []))); many = omega arith }

unfolds_to_three : IsUnfolded two_of_one three_instances
unfolds_to_three = record { instances = are_three; few_instances = omega arith; few_places = omega arith; few_transitions = omega arith }

-- six places and two transitions; the places of the last instance are those of the numbers 4 and 5
six_places : place_count two_of_one three_instances ≡ 6
six_places = refl

two_transitions : transition_count two_of_one three_instances ≡ 2
two_transitions = refl

last_place : place_number two_of_one three_instances 2 1 ≡ 5
last_place = refl

-- each port with its socket; and the place that is in a fusion set, in both of its instances
two_port_pairs : port_pairs two_of_one three_instances ≡ (0, 2) ∷ (1, 4) ∷ []
two_port_pairs = refl

four_fusion_pairs : fusion_pairs two_of_one three_instances ≡ (3, 3) ∷ (3, 5) ∷ (5, 3) ∷ (5, 5) ∷ []
four_fusion_pairs = refl

-- so there are three compound places
abbrev three_compound : Numbering
three_compound = record { numbers = 0 ∷ 1 ∷ 0 ∷ 2 ∷ 1 ∷ 2 ∷ []; firsts = 0 ∷ 1 ∷ 3 ∷ [] }

abbrev six_pairs : List (ℕ × ℕ)
six_pairs = joined_pairs two_of_one three_instances

below_six : (P : ℕ → Type 0) → P 0 → P 1 → P 2 → P 3 → P 4 → P 5 → (i : ℕ) → i < 6 → P i
below_six P a b c d e f zero lt = a
below_six P a b c d e f (suc zero) lt = b
below_six P a b c d e f (suc (suc zero)) lt = c
below_six P a b c d e f (suc (suc (suc zero))) lt = d
below_six P a b c d e f (suc (suc (suc (suc zero)))) lt = e
below_six P a b c d e f (suc (suc (suc (suc (suc zero))))) lt = f
below_six P a b c d e f (suc (suc (suc (suc (suc (suc i)))))) lt = absurd (omega arith)

below_three : (P : ℕ → Type 0) → P 0 → P 1 → P 2 → (c : ℕ) → c < 3 → P c
below_three P a b c zero lt = a
below_three P a b c (suc zero) lt = b
below_three P a b c (suc (suc zero)) lt = c
below_three P a b c (suc (suc (suc i))) lt = absurd (omega arith)

to_first : (i : ℕ) → i < 6 → IsJoined six_pairs i (first_of three_compound (number_of three_compound i))
to_first = below_six (λ i. IsJoined six_pairs i (first_of three_compound (number_of three_compound i))) (itself 0) (itself 1)
    (turned 0 2 (paired 0 2 (0, omega arith, refl))) (itself 3) (turned 1 4 (paired 1 4 (1, omega arith, refl))) (paired 5 3 (4, omega arith, refl))

pairs_alike : (p : ℕ × ℕ) (k : ℕ) → k < 6 → get_or six_pairs k p ≡ p → number_of three_compound p.0 ≡ number_of three_compound p.1
pairs_alike p = below_six (λ k. get_or six_pairs k p ≡ p → number_of three_compound p.0 ≡ number_of three_compound p.1) (same (0, 2) refl) (same (1, 4) refl) (same (3, 3) refl) (same (3, 5) refl) (same (5, 3) refl) (same (5, 5) refl)
  where
    same : (q : ℕ × ℕ) → number_of three_compound q.0 ≡ number_of three_compound q.1 → q ≡ p → number_of three_compound p.0 ≡ number_of three_compound p.1
    same q h e = subst (λ (r : ℕ × ℕ). number_of three_compound r.0 ≡ number_of three_compound r.1) e h

are_compound : AreCompound two_of_one three_instances three_compound
are_compound = record {
  each = refl;
  joined = λ i j i_in j_in. (
    λ same. through i _ j (to_first i i_in) (rw same (turned j _ (to_first j j_in))),
    alike six_pairs (number_of three_compound) (λ a b h. pairs_alike (a, b) h.0 h.1 h.2) i j,
  );
  in_order = record {
    in_class = below_six (λ i. number_of three_compound i < 3) (omega arith) (omega arith) (omega arith) (omega arith) (omega arith) (omega arith);
    is_item = below_three (λ c. first_of three_compound c < 6) (omega arith) (omega arith) (omega arith);
    is_member = below_three (λ c. number_of three_compound (first_of three_compound c) ≡ c) refl refl refl;
    is_least = below_six (λ i. first_of three_compound (number_of three_compound i) ≤ i) (omega arith) (omega arith) (omega arith) (omega arith) (omega arith) (omega arith);
    rise = λ c d less lt. below_three (λ d. c < d → first_of three_compound c < first_of three_compound d) (λ less. absurd (omega arith)) (rises_to_one c) (rises_to_three c) d lt less;
  };
}
  where
    rises_to_one : (c : ℕ) → c < 1 → first_of three_compound c < 1
    rises_to_one zero less = omega arith
    rises_to_one (suc c) less = absurd (omega arith)

    rises_to_three : (c : ℕ) → c < 2 → first_of three_compound c < 3
    rises_to_three zero less = omega arith
    rises_to_three (suc zero) less = omega arith
    rises_to_three (suc (suc c)) less = absurd (omega arith)

-- and no others
no_other_compound : (n : Numbering) → AreCompound two_of_one three_instances n → n ≡ three_compound
no_other_compound n are = numbering_same 6 six_pairs n three_compound are are_compound

-- ---- three deep: the parts of an instance come before what stands behind it

abbrev with_transitions : List PlainSubstitution → PlainStructure
with_transitions subs = record { ports = []; transitions = 1; arcs = []; substitutions = subs }

abbrev three_deep : PlainHierarchy
three_deep = record {
  top = 0;
  modules = with_transitions (record { submodule = 1; assignments = [] } ∷ record { submodule = 2; assignments = [] } ∷ [])
      ∷ with_transitions (record { submodule = 2; assignments = [] } ∷ [])
      ∷ with_transitions []
      ∷ [];
  fusions = [];
}

in_preorder : AreInstances three_deep (top_instance ∷ instance_for 1 0 0 ∷ instance_for 2 1 0 ∷ instance_for 2 0 1 ∷ [])
in_preorder =
    with_parts 0 _ _ (one_more 1 _ _ _ _ (with_parts 1 _ _ (one_more 2 _ _ _ _ (with_parts 2 _ _ (none_left 3)) (none_left 3))) (one_more 3 _ _ _ _ (with_parts 3 _ _ (none_left 4)) (none_left 4)))

-- ---- ports of parts of parts: each of two instances of the module 1 has a part of the module 2, whose port has the place 1 of that
-- instance as its socket

abbrev ports_below : PlainHierarchy
ports_below = record {
  top = 0;
  modules = record { ports = None ∷ None ∷ []; transitions = 0; arcs = []; substitutions = transition_to 0 ∷ transition_to 1 ∷ [] }
      ∷ record { ports = Some In ∷ None ∷ []; transitions = 0; arcs = []; substitutions = record { submodule = 2; assignments = record { port = 0; socket = 1 } ∷ [] } ∷ [] }
      ∷ record { ports = Some In ∷ []; transitions = 1; arcs = []; substitutions = [] }
      ∷ [];
  fusions = [];
}

abbrev five_instances : List PlainInstance
five_instances = top_instance ∷ instance_for 1 0 0 ∷ instance_for 2 1 0 ∷ instance_for 1 0 1 ∷ instance_for 2 3 0 ∷ []

are_five : AreInstances ports_below five_instances
are_five =
    with_parts 0 _ _ (one_more 1 _ _ _ _ (with_parts 1 _ _ (one_more 2 _ _ _ _ (with_parts 2 _ _ (none_left 3)) (none_left 3)))
    (one_more 3 _ _ _ _ (with_parts 3 _ _ (one_more 4 _ _ _ _ (with_parts 4 _ _ (none_left 5)) (none_left 5))) (none_left 5)))

-- the places of the five instances begin at 0, 2, 4, 5 and 7
four_port_pairs : port_pairs ports_below five_instances ≡ (0, 2) ∷ (3, 4) ∷ (1, 5) ∷ (6, 7) ∷ []
four_port_pairs = refl
