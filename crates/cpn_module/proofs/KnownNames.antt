-- A document that keeps the rules of its names: each of them is known.
use Rattle.std.proofs.Common.{◌≡◌, ℕ, Bool, true, false, ◌||◌, if◌then◌else◌, List, [], ◌∷◌, ◌++◌, map, sym, subst, refl, All}
use Rattle.std.specs.Prelude.{is_some}
use Rattle.std.specs.Str.{bytes_eq}
use Rattle.std.proofs.lemmas.List.Elements.{All-weaker}
use Rattle.cpn_readings.specs.Rules.{each_item}
use Rattle.cpn_document.specs.Document.{RawPlace, RawArc, RawAssignment, RawSub, RawModule, RawMember, RawFusion, RawDocument}
use Rattle.cpn_document.specs.Parts.{is_one_of}
use Rattle.cpn_module.specs.Named.{position, module_names, place_names, transition_names, sub_names, module_named, place_among, is_port}
use Rattle.cpn_module.specs.Names.{names_at}
use Rattle.cpn_module.specs.Known.{IsKnown, IsKnownNode, IsKnownArc, IsKnownAssignment, IsKnownSub, IsKnownModule, IsKnownMember, IsKnownFusion, AreKnown}
use Rattle.cpn_module.specs.ModuleRules.{rule, submodule_rule, submodule_rules, member_module_rule, member_module_rules, module_rules, arc_place_rule, arc_place_rules, assignment_place_rules, sub_place_rules, places_of_module_rules, member_place_rule, member_place_rules, place_rules, arc_transition_rule, arc_transition_rules, transitions_of_module_rules, transition_rules, name_rules}
use Rattle.cpn_module.proofs.KeptRules.{AreKept, both_kept, test_passed, each_there, both_there}
use Rattle.cpn_module.proofs.NamedHierarchy.{names_of_module}

-- a port is a place
port_known : (name : List ℕ) (ps : List RawPlace) → is_some (place_among name ps).port ≡ true → is_one_of name (map (λ p. p.name) ps) ≡ true
port_known name [] h = cc
port_known name (p ∷ ps) h = by (bytes_eq name p.name) h (port_known name ps)
  where
    by : (b : Bool) → is_some (if b then p else place_among name ps).port ≡ true → (is_some (place_among name ps).port ≡ true → is_one_of name (map (λ p. p.name) ps) ≡ true) → (b || is_one_of name (map (λ p. p.name) ps)) ≡ true
    by true h rest = refl
    by false h rest = rest h

module _ (d : RawDocument) where
  abbrev modules : List (List ℕ)
  modules = module_names d

  abbrev places : List (List (List ℕ))
  places = map place_names d.modules

  -- the names of the places of the module of a name
  abbrev places_in : List ℕ → List (List ℕ)
  places_in name = names_at places (position name modules)

  known_in : (of_module name : List ℕ) → is_one_of name (place_names (module_named d of_module)) ≡ true → IsKnown name (places_in of_module)
  known_in of_module name h = subst (IsKnown name) (sym (names_of_module of_module d.modules)) h

  abbrev HasSubmodule : RawSub → Type 0
  HasSubmodule sub = IsKnown sub.submodule modules

  abbrev HasAssignments : RawModule → RawSub → Type 0
  HasAssignments raw sub = All (IsKnownAssignment (place_names raw) (places_in sub.submodule)) sub.assign

  abbrev HasPlace : RawModule → RawArc → Type 0
  HasPlace raw arc = IsKnown arc.place (place_names raw)

  abbrev HasNode : RawModule → RawArc → Type 0
  HasNode raw arc = IsKnownNode arc.transition (transition_names raw) (sub_names raw)

  abbrev HasModule : RawMember → Type 0
  HasModule member = IsKnown member.of_module modules

  abbrev HasMemberPlace : RawMember → Type 0
  HasMemberPlace member = IsKnown member.place (places_in member.of_module)

  abbrev Submodules : RawModule → Type 0
  Submodules raw = All HasSubmodule raw.subs

  abbrev Places : RawModule → Type 0
  Places raw = All (HasPlace raw) raw.arcs × All (HasAssignments raw) raw.subs

  abbrev Nodes : RawModule → Type 0
  Nodes raw = All (HasNode raw) raw.arcs

  -- ---- one after the other

  submodules_known : (m : ℕ) (raw : RawModule) → AreKept (submodule_rules modules m raw) → Submodules raw
  unfolding submodule_rules
  submodules_known m raw kept = each_there (submodule_rule modules m) HasSubmodule (λ i sub k. test_passed _ _ k) 0 raw.subs kept

  assignment_known : (raw : RawModule) (m i : ℕ) (sub : RawSub) (k : ℕ) (a : RawAssignment) → AreKept (assignment_place_rules d (place_names raw) m i sub k a) → IsKnownAssignment (place_names raw) (places_in sub.submodule) a
  unfolding assignment_place_rules
  assignment_known raw m i sub k a kept =
      let parts = both_kept (rule (is_port (module_named d sub.submodule) a.port) _) (rule (is_one_of a.socket (place_names raw)) _) kept in
      record {
        port = known_in sub.submodule a.port (port_known a.port (module_named d sub.submodule).places (test_passed _ _ parts.0));
        socket = test_passed _ _ parts.1;
      }

  assignments_known : (raw : RawModule) (m i : ℕ) (sub : RawSub) → AreKept (sub_place_rules d (place_names raw) m i sub) → HasAssignments raw sub
  unfolding sub_place_rules
  assignments_known raw m i sub kept = each_there (assignment_place_rules d (place_names raw) m i sub) (IsKnownAssignment (place_names raw) (places_in sub.submodule)) (assignment_known raw m i sub) 0 sub.assign kept

  places_known : (m : ℕ) (raw : RawModule) → AreKept (places_of_module_rules d m raw) → Places raw
  unfolding places_of_module_rules arc_place_rules
  places_known m raw kept =
      let parts = both_kept (arc_place_rules (place_names raw) m raw) (each_item (sub_place_rules d (place_names raw) m) 0 raw.subs) kept in
      (each_there (arc_place_rule (place_names raw) m) (HasPlace raw) (λ i arc k. test_passed _ _ k) 0 raw.arcs parts.0, each_there (sub_place_rules d (place_names raw) m) (HasAssignments raw) (assignments_known raw m) 0 raw.subs parts.1)

  nodes_known : (m : ℕ) (raw : RawModule) → AreKept (transitions_of_module_rules m raw) → Nodes raw
  unfolding arc_transition_rules
  nodes_known m raw kept = each_there (arc_transition_rule (transition_names raw) (sub_names raw) m) (HasNode raw) (λ i arc k. test_passed _ _ k) 0 raw.arcs kept

  member_modules_known : (f : ℕ) (fusion : RawFusion) → AreKept (member_module_rules modules f fusion) → All HasModule fusion.members
  unfolding member_module_rules
  member_modules_known f fusion kept = each_there (member_module_rule modules f) HasModule (λ k member one. test_passed _ _ one) 0 fusion.members kept

  member_places_known : (f : ℕ) (fusion : RawFusion) → AreKept (member_place_rules d f fusion) → All HasMemberPlace fusion.members
  unfolding member_place_rules
  member_places_known f fusion kept = each_there (member_place_rule d f) HasMemberPlace (λ k member one. known_in member.of_module member.place (test_passed _ _ one)) 0 fusion.members kept

  -- ---- all of them

  module_known : (raw : RawModule) → Submodules raw → Places raw → Nodes raw → IsKnownModule modules places raw
  module_known raw submodules at_places at_nodes = record {
    arcs = All-weaker (λ arc. HasPlace raw arc × HasNode raw arc) (IsKnownArc (place_names raw) (transition_names raw) (sub_names raw)) (λ arc both. record { place = both.0; node = both.1 }) raw.arcs (both_there (HasPlace raw) (HasNode raw) raw.arcs at_places.0 at_nodes);
    subs = All-weaker (λ sub. HasSubmodule sub × HasAssignments raw sub) (IsKnownSub modules places (place_names raw)) (λ sub both. record { submodule = both.0; assignments = both.1 }) raw.subs (both_there HasSubmodule (HasAssignments raw) raw.subs submodules at_places.1);
  }

  fusion_known : (fusion : RawFusion) → All HasModule fusion.members → All HasMemberPlace fusion.members → IsKnownFusion modules places fusion
  fusion_known fusion in_modules at_places = All-weaker (λ member. HasModule member × HasMemberPlace member) (IsKnownMember modules places) (λ member both. record { of_module = both.0; place = both.1 }) fusion.members (both_there HasModule HasMemberPlace fusion.members in_modules at_places)

  abbrev HasModules : RawFusion → Type 0
  HasModules fusion = All HasModule fusion.members

  abbrev HasPlaces : RawFusion → Type 0
  HasPlaces fusion = All HasMemberPlace fusion.members

  abbrev ModulesKnown : Type 0
  ModulesKnown = IsKnown d.top modules × All Submodules d.modules × All HasModules d.fusions

  modules_known : AreKept (module_rules d) → ModulesKnown
  unfolding module_rules
  modules_known kept =
      let top = both_kept (rule (is_one_of d.top modules) _) _ kept in
      let rest = both_kept (each_item (submodule_rules modules) 0 d.modules) (each_item (member_module_rules modules) 0 d.fusions) top.1 in
      (test_passed _ _ top.0, each_there (submodule_rules modules) Submodules submodules_known 0 d.modules rest.0, each_there (member_module_rules modules) HasModules member_modules_known 0 d.fusions rest.1)

  all_places_known : AreKept (place_rules d) → All Places d.modules × All HasPlaces d.fusions
  unfolding place_rules
  all_places_known kept =
      let parts = both_kept (each_item (places_of_module_rules d) 0 d.modules) (each_item (member_place_rules d) 0 d.fusions) kept in
      (each_there (places_of_module_rules d) Places places_known 0 d.modules parts.0, each_there (member_place_rules d) HasPlaces member_places_known 0 d.fusions parts.1)

  all_nodes_known : AreKept (transition_rules d) → All Nodes d.modules
  unfolding transition_rules
  all_nodes_known kept = each_there transitions_of_module_rules Nodes nodes_known 0 d.modules kept

  all_known : ModulesKnown → All Places d.modules × All HasPlaces d.fusions → All Nodes d.modules → AreKnown modules places d
  all_known m p n = record {
    top = m.0;
    in_modules = All-weaker (λ raw. Submodules raw × (Places raw × Nodes raw)) (IsKnownModule modules places) (λ raw all. module_known raw all.0 all.1.0 all.1.1) d.modules (both_there Submodules (λ raw. Places raw × Nodes raw) d.modules m.1 (both_there Places Nodes d.modules p.0 n));
    in_fusions = All-weaker (λ fusion. HasModules fusion × HasPlaces fusion) (IsKnownFusion modules places) (λ fusion all. fusion_known fusion all.0 all.1) d.fusions (both_there HasModules HasPlaces d.fusions m.2 p.1);
  }

  -- each name is known, where the rules of names are kept
  pub are_known : AreKept (name_rules d) → AreKnown modules places d
  unfolding name_rules
  are_known kept =
      let both = both_kept (module_rules d ++ place_rules d) (transition_rules d) kept in
      let front = both_kept (module_rules d) (place_rules d) both.0 in
      all_known (modules_known front.0) (all_places_known front.1) (all_nodes_known both.1)
