-- A document whose names are known: each number of its hierarchy is that of something.
use Rattle.std.proofs.Common.{◌≡◌, ℕ, suc, ◌<◌, Bool, true, false, ◌||◌, if◌then◌else◌, List, [], ◌∷◌, length, map, refl, sym, subst, ◌∙◌, All}
use Rattle.std.specs.Prelude.{slice_index_or}
use Rattle.std.specs.Str.{bytes_eq}
use Rattle.std.proofs.lemmas.Bool.{ltb-true}
use Rattle.std.proofs.lemmas.List.{length-map}
use Rattle.std.proofs.lemmas.List.Elements.{All-nil, All-cons, All-head, All-tail}
use Rattle.cpn_document.specs.Document.{RawPlace, RawArc, RawAssignment, RawSub, RawModule, RawMember, RawFusion, RawDocument}
use Rattle.cpn_document.specs.Parts.{is_one_of}
use Rattle.cpn_module.specs.Hierarchy.{PlainStructure, no_structure, structure_at, places_in}
use Rattle.cpn_module.specs.Named.{position, no_module, module_names, place_names, transition_names, sub_names, module_among, module_named, node_among, ends_in, assignment_among, substitution_in, structure_in, member_by_number, fusion_by_number, hierarchy_in}
use Rattle.cpn_module.specs.Names.{names_at}
use Rattle.cpn_module.specs.Known.{IsKnown, IsKnownNode, IsKnownArc, IsKnownAssignment, IsKnownSub, IsKnownModule, IsKnownMember, IsKnownFusion, AreKnown}
use Rattle.cpn_module.specs.Ranges.{IsNode, AreEnds, IsAssignment, IsSubstitution, IsStructure, IsMember, HasItsNumbers}
use Rattle.cpn_module.specs.declared.hierarchy.Node.TheVariants as nodes
use Rattle.cpn_module.proofs.NameNumbers.{there_within}
use Rattle.cpn_module.proofs.NamedHierarchy.{names_of_module}

-- what holds of each item holds of each that is made of one
all_made : {A B : Type 0} (f : A → B) (P : A → Type 0) (Q : B → Type 0) → ((x : A) → P x → Q (f x)) → (xs : List A) → All P xs → All Q (map f xs)
all_made f P Q step [] h = All-nil Q
all_made f P Q step (x ∷ xs) h = All-cons Q (f x) (map f xs) (step x (All-head P x xs h)) (all_made f P Q step xs (All-tail P x xs h))

-- the number of a known name is that of something
within : {A : Type 0} (name : List ℕ) (names : List (List ℕ)) (xs : List A) → length names ≡ length xs → IsKnown name names → position name names < length xs
within name names xs same known = subst (λ n. position name names < n) same (ltb-true (position name names) (length names) (sym (there_within name names) ∙ known))

-- the module at the position of a name
module_at : (f : RawModule → PlainStructure) (name : List ℕ) (ms : List RawModule) → f no_module ≡ no_structure → slice_index_or (map f ms) (position name (map (λ m. m.name) ms)) no_structure ≡ f (module_among name ms)
module_at f name [] h = sym h
module_at f name (m ∷ ms) h = by (bytes_eq name m.name) (module_at f name ms h)
  where
    by : (b : Bool) → slice_index_or (map f ms) (position name (map (λ m. m.name) ms)) no_structure ≡ f (module_among name ms) → slice_index_or (f m ∷ map f ms) (if b then 0 else suc (position name (map (λ m. m.name) ms))) no_structure ≡ f (if b then m else module_among name ms)
    by true h = refl
    by false h = h

module _ (d : RawDocument) where
  abbrev modules : List (List ℕ)
  modules = module_names d

  abbrev places : List (List (List ℕ))
  places = map place_names d.modules

  module_within : (name : List ℕ) → IsKnown name modules → position name modules < length (hierarchy_in d).modules
  module_within name known = within name modules (hierarchy_in d).modules (length-map d.modules (λ (m : RawModule). m.name) ∙ sym (length-map d.modules (structure_in d))) known

  place_within : (m : RawModule) (name : List ℕ) → IsKnown name (place_names m) → position name (place_names m) < places_in (structure_in d m)
  place_within m name known = within name (place_names m) (structure_in d m).ports (length-map m.places (λ (p : RawPlace). p.name) ∙ sym (length-map m.places (λ (p : RawPlace). p.port))) known

  -- the place of a name in the module of a name
  placed_within : (of_module name : List ℕ) → IsKnown name (names_at places (position of_module modules)) → position name (place_names (module_named d of_module)) < places_in (structure_at (hierarchy_in d) (position of_module modules))
  placed_within of_module name known =
      subst (λ s. position name (place_names (module_named d of_module)) < places_in s) (sym (module_at (structure_in d) of_module d.modules refl)) (place_within (module_named d of_module) name (subst (IsKnown name) (names_of_module of_module d.modules) known))

  node_within : (m : RawModule) (name : List ℕ) → IsKnownNode name (transition_names m) (sub_names m) → IsNode (structure_in d m) (node_among (transition_names m) (sub_names m) name)
  node_within m name known = by (is_one_of name (transition_names m)) refl known
    where
      by : (b : Bool) → is_one_of name (transition_names m) ≡ b → (b || is_one_of name (sub_names m)) ≡ true → IsNode (structure_in d m) (if b then nodes.Transition (position name (transition_names m)) else nodes.Substitution (position name (sub_names m)))
      by true there h = within name (transition_names m) m.transitions (length-map m.transitions _) there
      by false there h = within name (sub_names m) (structure_in d m).substitutions (length-map m.subs _ ∙ sym (length-map m.subs (substitution_in d m))) h

  ends_numbered : (m : RawModule) (arc : RawArc) → IsKnownArc (place_names m) (transition_names m) (sub_names m) arc → AreEnds (structure_in d m) (ends_in m arc)
  ends_numbered m arc known = record { place = place_within m arc.place known.place; node = node_within m arc.transition known.node }

  assignment_numbered : (m : RawModule) (sub : RawSub) (a : RawAssignment) → IsKnownAssignment (place_names m) (names_at places (position sub.submodule modules)) a → IsAssignment (structure_in d m) (structure_at (hierarchy_in d) (position sub.submodule modules)) (assignment_among (place_names m) (place_names (module_named d sub.submodule)) a)
  assignment_numbered m sub a known = record { port = placed_within sub.submodule a.port known.port; socket = place_within m a.socket known.socket }

  substitution_numbered : (m : RawModule) (sub : RawSub) → IsKnownSub modules places (place_names m) sub → IsSubstitution (hierarchy_in d) (structure_in d m) (substitution_in d m sub)
  substitution_numbered m sub known = record {
    submodule = module_within sub.submodule known.submodule;
    assignments = all_made (assignment_among (place_names m) (place_names (module_named d sub.submodule))) (IsKnownAssignment (place_names m) (names_at places (position sub.submodule modules))) (IsAssignment (structure_in d m) (structure_at (hierarchy_in d) (position sub.submodule modules))) (assignment_numbered m sub) sub.assign known.assignments;
  }

  structure_numbered : (m : RawModule) → IsKnownModule modules places m → IsStructure (hierarchy_in d) (structure_in d m)
  structure_numbered m known = record {
    arcs = all_made (ends_in m) (IsKnownArc (place_names m) (transition_names m) (sub_names m)) (AreEnds (structure_in d m)) (ends_numbered m) m.arcs known.arcs;
    substitutions = all_made (substitution_in d m) (IsKnownSub modules places (place_names m)) (IsSubstitution (hierarchy_in d) (structure_in d m)) (substitution_numbered m) m.subs known.subs;
  }

  member_numbered : (member : RawMember) → IsKnownMember modules places member → IsMember (hierarchy_in d) (member_by_number d member)
  member_numbered member known = record { of_module = module_within member.of_module known.of_module; place = placed_within member.of_module member.place known.place }

  fusion_numbered : (fusion : RawFusion) → IsKnownFusion modules places fusion → All (IsMember (hierarchy_in d)) (fusion_by_number d fusion)
  fusion_numbered fusion known = all_made (member_by_number d) (IsKnownMember modules places) (IsMember (hierarchy_in d)) member_numbered fusion.members known

  -- each number is that of something, where each name is known
  pub known_numbered : AreKnown modules places d → HasItsNumbers (hierarchy_in d)
  known_numbered known = record {
    top = module_within d.top known.top;
    modules = all_made (structure_in d) (IsKnownModule modules places) (IsStructure (hierarchy_in d)) structure_numbered d.modules known.in_modules;
    fusions = all_made (fusion_by_number d) (IsKnownFusion modules places) (All (IsMember (hierarchy_in d))) fusion_numbered d.fusions known.in_fusions;
  }
