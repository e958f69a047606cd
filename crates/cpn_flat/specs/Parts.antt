-- The places and the transitions of a flat net, under the names of its instances.
use Rattle.std.specs.Prelude.{◌≡◌, ℕ, List}
use Rattle.cpn_definitions.specs.Net.{PlainTransition, Coloured}
use Rattle.cpn_classes.specs.Numbering.{Numbering}
use Rattle.cpn_document.specs.Document.{RawDocument}
use Rattle.cpn_fuse.specs.Instances.{PlainInstance}
use Rattle.cpn_module.specs.Hierarchy.{PlainHierarchy}
use Rattle.cpn_accepted.specs.Nets.{PlainModuleNet}
use Rattle.cpn_flat.specs.FlatNet.{compound_places, all_transitions}
use Rattle.cpn_flat.specs.Names.{AreNames}

pub record AreItsParts (d : RawDocument) (h : PlainHierarchy) (modules : List PlainModuleNet) (is : List PlainInstance) (classes : Numbering) (places : List Coloured) (transitions : List PlainTransition) : Type 0 where
  pub names : List (List ℕ)
  pub are_names : AreNames d is names
  pub are_places : places ≡ compound_places modules is names classes
  pub are_transitions : transitions ≡ all_transitions h modules is names classes
