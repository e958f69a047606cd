-- What the calls of flattening ask for, of what is accepted and its hierarchy unfolded.
use Rattle.std.proofs.Common.{◌≡◌, ℕ, ◌<◌, ◌^◌, List, [], length, refl, sym, ap, ◌∙◌, subst, arith}
use Rattle.std.specs.List.{AllByRecursion}
use Rattle.std.proofs.lemmas.List.{length-map}
use Rattle.std.proofs.lemmas.List.Elements.{recursion_from_All}
use Rattle.cpn_classes.specs.Numbering.{Numbering}
use Rattle.cpn_core.specs.Nets.{place_view, net_view}
use Rattle.cpn_core.specs.declared.nets.Net.{Net}
use Rattle.cpn_definitions.specs.Marking.{Marking}
use Rattle.cpn_definitions.specs.Net.{PlainTransition, Coloured, place_at}
use Rattle.cpn_document.specs.Document.{RawDocument}
use Rattle.cpn_document.specs.Monitors.{RawMonitor}
use Rattle.cpn_document.specs.Phases.{RawPhase}
use Rattle.cpn_fuse.specs.Compound.{AreCompound}
use Rattle.cpn_fuse.specs.Instances.{PlainInstance, AreInstances}
use Rattle.cpn_fuse.specs.Unfolded.{UnfoldingRefusal, IsUnfolded, IsRefusedFor, AreInModules}
use Rattle.cpn_module.specs.Named.{hierarchy_in}
use Rattle.cpn_accepted.specs.Nets.{PlainAccepted, IsWellAccepted, net_from}
use Rattle.cpn_readings.specs.Relations.{HasOne}
use Rattle.cpn_flat.specs.Flat.{all_written, flat_in}
use Rattle.cpn_flat.specs.FlatNet.{all_places, flat_net}
use Rattle.cpn_flat.specs.InitialMarking.{all_initials, AreAllMeant, started}
use Rattle.cpn_flat.specs.Items.{HaveItems}
use Rattle.cpn_flat.specs.Parts.{AreItsParts}
use Rattle.cpn_flat.specs.Names.{IsNamedIn}
use Rattle.cpn_flat.specs.Placed.{StandBehind, AreOfModules, ArePlaced}
use Rattle.cpn_flat.specs.Refusals.{read}
use Rattle.cpn_flat.specs.Values.{AreOfColour, HaveColours}
use Rattle.cpn_flat.specs.WellLoaded.{IsWellLoaded}
use Rattle.cpn_flat.proofs.AcceptedFlatNets.{flat_accepted}
use Rattle.cpn_flat.proofs.FlatMeanings.{all_meant, length-written, written_here}
use Rattle.cpn_flat.proofs.InstanceNames.{instances_named}
use Rattle.cpn_flat.proofs.ItemsThere.{items_there, written_meant, written_coloured}
use Rattle.cpn_flat.proofs.NamedFlatNets.{flat_named}
use Rattle.cpn_flat.proofs.OneFlatNet.{unfolded_one, flat_one}
use Rattle.cpn_flat.proofs.PlaceLookups.{length-all_places, length-all_initials}
use Rattle.cpn_flat.proofs.PlacedInstances.{placed, placed_behind}
use Rattle.cpn_flat.proofs.SoundFlatNets.{length-compound_places, few_compound_places, flat_sound}
use Rattle.cpn_flat.proofs.StartedWell.{started_well}

module _ (a : PlainAccepted) (well : IsWellAccepted a) where
  -- it means one thing
  pub one_meaning : (d : RawDocument) → ((is is' : List PlainInstance) → AreInstances a.hierarchy is → AreInstances a.hierarchy is' → is ≡ is') → ((r s : UnfoldingRefusal) → IsRefusedFor a.hierarchy r → IsRefusedFor a.hierarchy s → r ≡ s)
      → ((is : List PlainInstance) (r : UnfoldingRefusal) → IsUnfolded a.hierarchy is → IsRefusedFor a.hierarchy r → ⊥) → HasOne (flat_in d a)
  one_meaning d one one_refusal not_both = flat_one d a (unfolded_one a.hierarchy one one_refusal not_both)

  module _ (is : List PlainInstance) (u : IsUnfolded a.hierarchy is) where
    pub behind : StandBehind is
    behind = placed_behind a.hierarchy is (placed a.hierarchy is well.numbers u.instances).0

    -- each instance is of a module that is there
    pub of_modules : AreOfModules (length a.modules) is
    of_modules = recursion_from_All (λ x. x.of_module < length a.modules) is
        (λ k e lt. (let within = (placed a.hierarchy is well.numbers u.instances).1 k e lt in let each = well.each in omega (arith, within, each)))

    -- what each instance is called by is there
    pub named_in : (d : RawDocument) → a.hierarchy ≡ hierarchy_in d → AllByRecursion (IsNamedIn d is) is
    named_in d same = instances_named d is (subst (λ h. ArePlaced h is × AreInModules h is) same (placed a.hierarchy is well.numbers u.instances))

    module _ (classes : Numbering) (compound : AreCompound a.hierarchy is classes) where
      pub items : HaveItems a.hierarchy a.modules is (length classes.numbers)
      items = items_there a well is u classes compound

      pub small : length classes.numbers < 2 ^ 32
      small = let every = compound.each in let few = u.few_places in omega (arith, every, few)

      pub places_many : (names : List (List ℕ)) → length classes.numbers ≡ length (all_places a.modules is names)
      places_many names = compound.each ∙ sym (length-all_places a well is (placed a.hierarchy is well.numbers u.instances).1 names)

      pub initials_many : length classes.numbers ≡ length (all_initials a.modules is)
      initials_many = compound.each ∙ sym (length-all_initials a well is (placed a.hierarchy is well.numbers u.instances).1)

      pub written_all_meant : AreAllMeant a.declared.functions (all_written a.modules is classes)
      written_all_meant = all_meant a.modules is classes a.declared.functions (λ c. written_meant a well is u [] classes compound c)

      module _ (d : RawDocument) (net : Net) (places : List Coloured) (transitions : List PlainTransition) (made : net_view net ≡ net_from a.declared places transitions) (parts : AreItsParts d a.hierarchy a.modules is classes places transitions) where
        pub places_each : length net.places.items ≡ length classes.firsts
        places_each =
            sym (length-map net.places.items place_view) ∙ ap (λ n. length n.places) made ∙ ap length parts.are_places ∙ length-compound_places a well is parts.names classes compound

        pub places_few : length net.places.items < 2 ^ 32
        places_few =
            let each = places_each in
            let long = length-compound_places a well is parts.names classes compound in
            let few = few_compound_places a well is parts.names classes compound in
            let most = u.few_places in
            omega (arith, each, long, few, most)

        pub net_meant : AreAllMeant (net_view net).functions (all_written a.modules is classes)
        net_meant = subst (λ n. AreAllMeant n.functions (all_written a.modules is classes)) (sym made) written_all_meant

      -- what its flat net is loaded as is well
      module _ (names : List (List ℕ)) (few_variables : length a.declared.variables < 2 ^ 32) where
        colours : HaveColours (flat_net a is names classes) (all_written a.modules is classes)
        colours c lt =
            let long = length-written a.modules is classes 0 classes.firsts in
            subst (AreOfColour (place_at (flat_net a is names classes) c).colour) (sym (written_here a.modules is classes c (omega (arith, lt, long)))) (written_coloured a well is u names classes compound c)

        pub flat_well : (monitors : List RawMonitor) (phases : List RawPhase) (m : Marking) → started (flat_net a is names classes) (all_written a.modules is classes) (read m)
            → IsWellLoaded (record { net = flat_net a is names classes; initial = m; declared = a.declared; monitors = monitors; phases = phases })
        flat_well monitors phases m h =
            let start = started_well (flat_net a is names classes) (all_written a.modules is classes) m (length-written a.modules is classes 0 classes.firsts ∙ sym (length-compound_places a well is names classes compound)) colours h in
            record {
              sound = flat_sound a well is names classes compound u few_variables;
              marking = start.marking;
              places = start.long;
              bounded = start.bounded;
              in_time = start.in_time;
              named = flat_named a well is names classes compound u;
              declares = record { variables = refl; constants = refl; constructors = refl; functions = refl };
              accepted = flat_accepted a well is names classes u;
            }
