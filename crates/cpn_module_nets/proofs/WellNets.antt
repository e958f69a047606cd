-- The net of a module is well: its transitions are sound, it names what a report prints, and each place has its initial marking or none.
use Rattle.std.proofs.Common.{◌≡◌, ℕ, suc, ◌<◌, Bool, List, [], ◌∷◌, length, refl, sym, ap, ◌∙◌, subst}
use Rattle.std.specs.Prelude.{Option}
use Rattle.std.proofs.lemmas.List.{length-map}
use Rattle.cpn_definitions.specs.Net.{PlainTransition, Coloured}
use Rattle.cpn_document.specs.Document.{RawPlace, RawModule, RawDocument}
use Rattle.cpn_document.specs.FewArcs.{HasFewArcs}
use Rattle.cpn_module.specs.Hierarchy.{PlainStructure, places_in}
use Rattle.cpn_module.specs.Named.{structure_in}
use Rattle.cpn_module_trees.specs.Trees.{ModuleTrees, ArePlaceTrees, AreTransitionTrees, AreModuleTrees}
use Rattle.cpn_readings.specs.ItemByItem.{EachIs}
use Rattle.cpn_readings.specs.Relations.{just, such_that}
use Rattle.cpn_readings.proofs.Readings.{same_read}
use Rattle.cpn_readings.proofs.RelatedReadings.{step_parts, such_holds}
use Rattle.cpn_typing.specs.Consistency.{IsConsistent}
use Rattle.cpn_typing.specs.Names.{Declared}
use Rattle.cpn_accepted.specs.Completed.{IsCompleted}
use Rattle.cpn_accepted.specs.Nets.{Initial, PlainModuleNet, IsWellNet, net_from}
use Rattle.cpn_module_nets.specs.Reading.{read, each_from}
use Rattle.cpn_module_nets.specs.Accepted.{net_place, initial_of, bare_transition, Sides, arc_of, joined_from}
use Rattle.cpn_module_nets.specs.Transitions.{AreBindable}
use Rattle.cpn_module_nets.specs.Documents.{transitions_so, net_so}
use Rattle.cpn_module_nets.specs.Fitting.{GoTogether}
use Rattle.cpn_module_nets.proofs.AcceptedTexts.{each_from_long, initials_meant, initials_coloured}
use Rattle.cpn_module_nets.proofs.AcceptedTransitions.{completed_accepted, transitions_good}
use Rattle.cpn_module_nets.proofs.FewArcs.{transitions_few}
use Rattle.cpn_module_nets.proofs.ModuleParts.{each_is_long}
use Rattle.cpn_module_nets.proofs.NamedNets.{named}
use Rattle.cpn_module_nets.proofs.SoundNets.{transitions_sound}

-- ---- the parts of what is read

pub record TransitionsRead (ds : Declared) (places : List Coloured) (m : ℕ) (s : PlainStructure) (trees : ModuleTrees) (ts : List PlainTransition) : Type 0 where
  pub bares : List PlainTransition
  pub bares_are : each_from (bare_transition ds m) 0 trees.transitions ≡ read bares
  pub arcs : List Sides
  pub arcs_are : each_from (arc_of ds places m s) 0 trees.arcs ≡ read arcs
  pub completed : EachIs IsCompleted (joined_from 0 bares arcs) ts
  pub told : Bool
  pub bindable : AreBindable (net_from ds places ts) m 0 ts (read told)

transitions_parts : (ds : Declared) (places : List Coloured) (m : ℕ) (s : PlainStructure) (trees : ModuleTrees) (ts : List PlainTransition) → transitions_so ds places m s trees (read ts) → TransitionsRead ds places m s trees ts
unfolding transitions_so
transitions_parts ds places m s trees ts h =
    let bares = step_parts (just (each_from (bare_transition ds m) 0 trees.transitions)) _ ts h in
    let arcs = step_parts (just (each_from (arc_of ds places m s) 0 trees.arcs)) _ ts bares.2 in
    let listed = step_parts (such_that (EachIs IsCompleted (joined_from 0 bares.0 arcs.0))) _ ts arcs.2 in
    let bindable = step_parts (AreBindable (net_from ds places listed.0) m 0 listed.0) _ ts listed.2 in
    let completed = such_holds (EachIs IsCompleted (joined_from 0 bares.0 arcs.0)) listed.0 listed.1 in
    subst (TransitionsRead ds places m s trees) (sym (same_read ts listed.0 bindable.2))
    (record { bares = bares.0; bares_are = sym bares.1; arcs = arcs.0; arcs_are = sym arcs.1; completed = completed; told = bindable.0; bindable = bindable.1 })

pub record NetRead (ds : Declared) (places : List Coloured) (m : ℕ) (s : PlainStructure) (trees : ModuleTrees) (net : PlainModuleNet) : Type 0 where
  pub initials : List (Option Initial)
  pub initials_are : each_from (initial_of ds places m) 0 trees.places ≡ read initials
  pub ts : List PlainTransition
  pub parts : TransitionsRead ds places m s trees ts
  pub is : net ≡ record { places = places; initials = initials; transitions = ts }

pub net_parts : (ds : Declared) (places : List Coloured) (m : ℕ) (s : PlainStructure) (trees : ModuleTrees) (net : PlainModuleNet) → net_so ds places m s trees (read net) → NetRead ds places m s trees net
unfolding net_so
net_parts ds places m s trees net h =
    let initials = step_parts (just (each_from (initial_of ds places m) 0 trees.places)) _ net h in
    let ts = step_parts (transitions_so ds places m s trees) _ net initials.2 in
    record { initials = initials.0; initials_are = sym initials.1; ts = ts.0; parts = transitions_parts ds places m s trees ts.0 ts.1; is = same_read net _ ts.2 }

joined_long : (t : ℕ) (xs : List PlainTransition) (arcs : List Sides) → length (joined_from t xs arcs) ≡ length xs
joined_long t [] arcs = refl
joined_long t (x ∷ xs) arcs = ap suc (joined_long (suc t) xs arcs)

-- ---- the net of a module

-- with the places that were read, and as many places and transitions as its module
pub record IsNetOf (ds : Declared) (places : List Coloured) (s : PlainStructure) (net : PlainModuleNet) : Type 0 where
  pub places_are : net.places ≡ places
  pub many_places : length net.places ≡ places_in s
  pub many_transitions : length net.transitions ≡ s.transitions
  pub well : IsWellNet ds net

pub net_is : (ds : Declared) → IsConsistent ds → (d : RawDocument) (raw : RawModule) → HasFewArcs raw → (places : List Coloured) (m : ℕ) (s : PlainStructure) → s ≡ structure_in d raw → (trees : ModuleTrees) → AreModuleTrees raw trees
    → GoTogether places s trees → each_from (net_place ds m) 0 trees.places ≡ read places → (net : PlainModuleNet) → net_so ds places m s trees (read net) → IsNetOf ds places s net
net_is ds good d raw few places m s is trees are together places_read net h =
    let parts = net_parts ds places m s trees net h in
    let its = parts.parts in
    let written = each_is_long AreTransitionTrees raw.transitions trees.transitions are.transitions in
    let many_bares = each_from_long (bare_transition ds m) 0 trees.transitions its.bares its.bares_are in
    let many = each_is_long IsCompleted (joined_from 0 its.bares its.arcs) parts.ts its.completed in
    let arcs_are = ap (λ (x : PlainStructure). x.arcs) is in
    let good_all = transitions_good ds places m s trees together its.bares its.bares_are its.arcs its.arcs_are parts.ts its.completed in
    let few_arcs = transitions_few raw few ds places m s arcs_are trees.transitions written its.bares many_bares its.bares_are trees.arcs together.as_many_arcs its.arcs its.arcs_are parts.ts its.completed in
    let ports : places_in s ≡ length raw.places = ap places_in is ∙ length-map raw.places (λ (p : RawPlace). p.port) in
    let placed : length places ≡ places_in s = together.as_many_places ∙ each_is_long ArePlaceTrees raw.places trees.places are.places ∙ sym ports in
    let as_many : length parts.initials ≡ length places = each_from_long (initial_of ds places m) 0 trees.places parts.initials parts.initials_are ∙ sym together.as_many_places in
    subst (IsNetOf ds places s) (sym parts.is) (record {
      places_are = refl;
      many_places = placed;
      many_transitions = many ∙ joined_long 0 its.bares its.arcs ∙ many_bares ∙ written ∙ sym (ap (λ (x : PlainStructure). x.transitions) is);
      well = record {
        as_many = as_many;
        coloured = λ p lt. initials_coloured ds places m trees.places parts.initials parts.initials_are p (subst (λ k. p < k) together.as_many_places lt);
        meant = initials_meant ds good places m trees.places parts.initials parts.initials_are;
        accepted = completed_accepted ds places (joined_from 0 its.bares its.arcs) parts.ts its.completed good_all;
        sound = transitions_sound ds good places parts.ts m its.told (joined_from 0 its.bares its.arcs) its.completed good_all few_arcs its.bindable;
        named = named ds good m trees.places places parts.ts places_read;
      };
    })
