-- What the instances of modules refer to is there: the place of each arc is a place instance. And of what is written at the members
-- of a compound place, each is an initial marking for its colour set, and has a meaning.
use Rattle.std.proofs.Common.{◌≡◌, ℕ, suc, ◌+◌, ◌<◌, ◌==◌, Bool, true, false, cond, List, [], ◌∷◌, length, get_or, refl, sym, ap, ◌∙◌, subst, arith, eqb-true}
use Rattle.std.specs.Prelude.{Option, Some, None, slice_index_or}
use Rattle.std.specs.List.{AllByRecursion}
use Rattle.std.specs.Option.{IfSome}
use Rattle.std.proofs.lemmas.List.Elements.{All-from_recursion, All-get_or}
use Rattle.cpn_definitions.specs.Inscription.{Functions}
use Rattle.cpn_definitions.specs.Net.{PlainArc, PlainTransition, nothing, place_at}
use Rattle.cpn_definitions.specs.Colour.{PlainColour}
use Rattle.cpn_definitions.specs.Outcome.{HasMeaning}
use Rattle.cpn_definitions.specs.Sound.{IsSoundArc, IsSoundInput, IsSoundTransition}
use Rattle.cpn_definitions.specs.Terms.{terms_of}
use Rattle.cpn_definitions.proofs.RisingLists.{each_implied, each_appended}
use Rattle.cpn_classes.specs.Numbering.{Numbering, number_of}
use Rattle.cpn_module.specs.Hierarchy.{places_in, structure_at}
use Rattle.cpn_accepted.specs.Nets.{Initial, PlainModuleNet, PlainAccepted, module_net_at, net_of, IsMeant, IsOfColour, IsWellAccepted}
use Rattle.cpn_fuse.specs.Instances.{PlainInstance, instance_at}
use Rattle.cpn_fuse.specs.PlaceInstances.{place_count, first_place, place_number}
use Rattle.cpn_fuse.specs.Compound.{AreCompound}
use Rattle.cpn_fuse.specs.Unfolded.{IsUnfolded, AreInModules}
use Rattle.cpn_flat.specs.FlatNet.{compound_places, flat_net}
use Rattle.cpn_flat.specs.InitialMarking.{initials_at, all_initials, added, written_in, written_of}
use Rattle.cpn_flat.specs.Items.{HasItems, HaveItems}
use Rattle.cpn_flat.specs.Placed.{ArePlaced}
use Rattle.cpn_flat.proofs.InstanceLookups.{instance_with, of_each}
use Rattle.cpn_flat.proofs.PlaceLookups.{net_well, places_of_module, module_in, place_in_all, length-all_initials, initial_of}
use Rattle.cpn_flat.proofs.PlacedInstances.{placed}
use Rattle.cpn_flat.proofs.JoinedColours.{colour_at, colour_of, compound_colour}

-- ---- the places of arcs

module _ (accepted : PlainAccepted) (well : IsWellAccepted accepted) (is : List PlainInstance) (unfolded : IsUnfolded accepted.hierarchy is) where
  all_placed : ArePlaced accepted.hierarchy is × AreInModules accepted.hierarchy is
  all_placed = placed accepted.hierarchy is well.numbers unfolded.instances

  module _ (classes : Numbering) (compound : AreCompound accepted.hierarchy is classes) where
    item_there : (i p : ℕ) → i < length is → p < length (module_net_at accepted (instance_at is i).of_module).places → first_place accepted.hierarchy is i + p < length classes.numbers
    item_there i p lt in_net =
        let many = places_of_module accepted well (instance_at is i).of_module (module_in accepted well is all_placed.1 i lt) in
        let every = compound.each in
        let item = place_in_all accepted well is all_placed.1 i p lt (omega (arith, many, in_net)) in
        omega (arith, every, item)

    -- The places of all arcs of all instances are there.
    pub items_there : HaveItems accepted.hierarchy accepted.modules is (length classes.numbers)
    items_there i lt = each_implied (IsSoundTransition (net_of accepted.declared net)) (HasItems (length classes.numbers) (first_place accepted.hierarchy is i)) net.transitions its (net_well accepted well (instance_at is i).of_module (module_in accepted well is all_placed.1 i lt)).sound
      where
        net : PlainModuleNet
        net = module_net_at accepted (instance_at is i).of_module

        its : (t : PlainTransition) → IsSoundTransition (net_of accepted.declared net) t → HasItems (length classes.numbers) (first_place accepted.hierarchy is i) t
        its t ok = record {
          inputs = each_implied (IsSoundInput (net_of accepted.declared net) t) (λ (arc : PlainArc). first_place accepted.hierarchy is i + arc.place < length classes.numbers) t.inputs (λ arc sound. item_there i arc.place lt sound.sound.place_known) ok.inputs_sound;
          outputs = each_implied (IsSoundArc (net_of accepted.declared net) t) (λ (arc : PlainArc). first_place accepted.hierarchy is i + arc.place < length classes.numbers) t.outputs (λ arc sound. item_there i arc.place lt sound.place_known) ok.outputs_sound;
        }

-- ---- what is written at the members of a class

-- what holds of each that is written, by the number of its class, holds of those of a class
module _ {A : Type 0} (P : ℕ → A → Type 0) (c : ℕ) where
  added_all : (k : ℕ) (x : Option A) → IfSome x (P k) → AllByRecursion (P c) (added c k x)
  added_all k None h = tt
  added_all k (Some x) h = by (k == c) refl
    where
      by : (same : Bool) → (k == c) ≡ same → AllByRecursion (P c) (cond same (x ∷ []) [])
      by true e = (subst (λ j. P j x) (eqb-true k c e) h, tt)
      by false e = tt

  written_all : (ks : List ℕ) (xs : List (Option A)) → ((k : ℕ) → k < length ks → IfSome (get_or xs k None) (P (get_or ks k 0))) → AllByRecursion (P c) (written_in c ks xs)
  written_all [] xs each = tt
  written_all (k ∷ ks) [] each = tt
  written_all (k ∷ ks) (x ∷ xs) each = each_appended (P c) (added c k x) (written_in c ks xs) (added_all k x (each 0 (omega arith))) (written_all ks xs (λ j lt. each (suc j) (omega arith)))

if_coloured : (colour : PlainColour) (o : Option Initial) → IsOfColour colour o → IfSome o (λ initial. initial.colour ≡ colour)
if_coloured colour None h = tt
if_coloured colour (Some initial) h = h

if_meant : (funs : Functions) (o : Option Initial) → IsMeant funs o → IfSome o (λ initial. HasMeaning (terms_of funs initial.expr initial.colour [] 0))
if_meant funs None h = tt
if_meant funs (Some initial) h = h

module _ (accepted : PlainAccepted) (well : IsWellAccepted accepted) (is : List PlainInstance) (unfolded : IsUnfolded accepted.hierarchy is) (names : List (List ℕ)) (classes : Numbering) (compound : AreCompound accepted.hierarchy is classes) where
  all : ArePlaced accepted.hierarchy is × AreInModules accepted.hierarchy is
  all = all_placed accepted well is unfolded

  -- the initial marking of a place instance is for the colour set of its compound place
  initial_coloured : (k : ℕ) → k < place_count accepted.hierarchy is
      → IsOfColour (slice_index_or (compound_places accepted.modules is names classes) (number_of classes k) nothing).colour (slice_index_or (all_initials accepted.modules is) k None)
  initial_coloured k lt = of (instance_with (λ x. places_in (structure_at accepted.hierarchy x.of_module)) is k lt)
    where
      of : (i : ℕ) × (p : ℕ) × (i < length is) × (p < places_in (structure_at accepted.hierarchy (instance_at is i).of_module)) × (k ≡ place_number accepted.hierarchy is i p)
          → IsOfColour (slice_index_or (compound_places accepted.modules is names classes) (number_of classes k) nothing).colour (slice_index_or (all_initials accepted.modules is) k None)
      of (i, p, in_all, in_x, number) =
          subst (λ colour. IsOfColour colour (slice_index_or (all_initials accepted.modules is) k None)) colour_is
          (subst (IsOfColour (slice_index_or net.places p nothing).colour) initial_is ((net_well accepted well (instance_at is i).of_module in_modules).coloured p (let many = places_of_module accepted well (instance_at is i).of_module in_modules in omega (arith, many, in_x))))
        where
          net : PlainModuleNet
          net = module_net_at accepted (instance_at is i).of_module

          in_modules : (instance_at is i).of_module < length accepted.hierarchy.modules
          in_modules = module_in accepted well is all.1 i in_all

          initial_is : slice_index_or net.initials p None ≡ slice_index_or (all_initials accepted.modules is) k None
          initial_is = sym (initial_of accepted well is all.1 i p in_all in_x) ∙ ap (λ j. slice_index_or (all_initials accepted.modules is) j None) (sym number)

          colour_is : (slice_index_or net.places p nothing).colour ≡ (slice_index_or (compound_places accepted.modules is names classes) (number_of classes k) nothing).colour
          colour_is = sym (compound_colour accepted well is all.1 names all.0 classes compound k lt ∙ ap (colour_at accepted is names) number ∙ colour_of accepted well is all.1 names i p in_all in_x)

  -- Each initial marking that is written of a compound place is for its colour set.
  pub written_coloured : (c : ℕ) → AllByRecursion (λ initial. initial.colour ≡ (place_at (flat_net accepted is names classes) c).colour) (written_of accepted.modules is classes c)
  written_coloured c =
      written_all (λ k initial. initial.colour ≡ (slice_index_or (compound_places accepted.modules is names classes) k nothing).colour) c classes.numbers (all_initials accepted.modules is)
      (λ k lt. if_coloured (slice_index_or (compound_places accepted.modules is names classes) (number_of classes k) nothing).colour (slice_index_or (all_initials accepted.modules is) k None) (initial_coloured k (let every = compound.each in omega (arith, every, lt))))

  all_meant : AllByRecursion (IsMeant accepted.declared.functions) (all_initials accepted.modules is)
  all_meant = of_each (initials_at accepted.modules) (IsMeant accepted.declared.functions) 0 is (λ i lt. (net_well accepted well (instance_at is i).of_module (module_in accepted well is all.1 i lt)).meant)

  -- and has a meaning
  pub written_meant : (c : ℕ) → AllByRecursion (λ initial. HasMeaning (terms_of accepted.declared.functions initial.expr initial.colour [] 0)) (written_of accepted.modules is classes c)
  written_meant c =
      written_all (λ k initial. HasMeaning (terms_of accepted.declared.functions initial.expr initial.colour [] 0)) c classes.numbers (all_initials accepted.modules is)
      (λ k lt. if_meant accepted.declared.functions (slice_index_or (all_initials accepted.modules is) k None)
      (All-get_or (IsMeant accepted.declared.functions) (all_initials accepted.modules is) k None (let every = compound.each in let many = length-all_initials accepted well is all.1 in omega (arith, every, many, lt))
      (All-from_recursion (IsMeant accepted.declared.functions) (all_initials accepted.modules is) all_meant)))
