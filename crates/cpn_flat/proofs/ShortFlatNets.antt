-- The integers of the flat net of what is accepted have 64 bits.
use Rattle.std.proofs.Common.{◌≡◌, ℕ, ◌<◌, true, List, sym, subst}
use Rattle.std.proofs.lemmas.List.Sums.{list_all-from_AllPass}
use Rattle.cpn_definitions.specs.Integers.{is_short, HasShortIntegers}
use Rattle.cpn_classes.specs.Numbering.{Numbering}
use Rattle.cpn_accepted.specs.Nets.{PlainAccepted, IsWellAccepted}
use Rattle.cpn_accepted.specs.AsWritten.{HasShortParts}
use Rattle.cpn_fuse.specs.Instances.{PlainInstance}
use Rattle.cpn_fuse.specs.Compound.{AreCompound}
use Rattle.cpn_fuse.specs.Unfolded.{IsUnfolded}
use Rattle.cpn_flat.specs.FlatNet.{compound_places, flat_net}
use Rattle.cpn_flat.proofs.CompoundColours.{of_compound}
use Rattle.cpn_flat.proofs.PlacedInstances.{placed}

module _ (accepted : PlainAccepted) (short : HasShortParts accepted) (well : IsWellAccepted accepted) (is : List PlainInstance) (names : List (List ℕ)) (classes : Numbering) (compound : AreCompound accepted.hierarchy is classes) where
  -- The integers of the flat net have 64 bits.
  pub flat_short : IsUnfolded accepted.hierarchy is → HasShortIntegers (flat_net accepted is names classes)
  flat_short unfolded = record {
    places_short = list_all-from_AllPass is_short (compound_places accepted.modules is names classes)
        (of_compound accepted well is names classes compound (placed accepted.hierarchy is well.numbers unfolded.instances).1 (λ c. is_short c ≡ true) (λ whole c h. h) (λ m lt. short.places m (subst (λ (k : ℕ). m < k) (sym well.each) lt)));
    variables_short = short.declared.variables_short;
  }
