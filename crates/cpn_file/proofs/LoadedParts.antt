-- What is loaded of a document: what it declares is consistent; its monitors and its phases are those that are written.
use Rattle.std.proofs.Common.{◌≡◌, refl, sym, subst}
use Rattle.cpn_document.specs.Document.{RawDocument}
use Rattle.cpn_flat.specs.Flat.{PlainLoaded, IsUnfoldedAs, all_written, flat_in}
use Rattle.cpn_flat.specs.FlatNet.{flat_net}
use Rattle.cpn_flat.specs.InitialMarking.{started}
use Rattle.cpn_flat.specs.Names.{AreNames}
use Rattle.cpn_fuse.specs.Compound.{AreCompound}
use Rattle.cpn_module.specs.Checked.{IsChecked}
use Rattle.cpn_module_nets.specs.Accepted.{declared_from, places_of}
use Rattle.cpn_module_nets.specs.Documents.{nets_so, accepted_in}
use Rattle.cpn_accepted.specs.Nets.{PlainAccepted}
use Rattle.cpn_module_nets.specs.Reading.{of_modules, each_from}
use Rattle.cpn_module_nets.proofs.AcceptedTexts.{declared_good}
use Rattle.cpn_module_nets.proofs.WellAccepted.{checked_read}
use Rattle.cpn_module_trees.specs.Trees.{AreTrees}
use Rattle.cpn_readings.specs.Reading as readings
use Rattle.cpn_readings.specs.Relations.{just, such_that, refused_by}
use Rattle.cpn_readings.proofs.Readings.{same_read}
use Rattle.cpn_readings.proofs.RelatedReadings.{step_parts}
use Rattle.cpn_typing.specs.Consistency.{IsConsistent}
use Rattle.cpn_typing.specs.Names.{nothing_declared}
use Rattle.cpn_file.specs.Reading.{of_net, of_flat, read}
use Rattle.cpn_file.specs.Reads.{loaded_in}

-- what is accepted of a document
accepted_consistent : (d : RawDocument) (a : PlainAccepted) → accepted_in d (readings.read a) → IsConsistent a.declared
unfolding accepted_in
accepted_consistent d a h =
    let trees = step_parts (such_that (AreTrees d)) _ a h in
    let ds = step_parts (just (declared_from 0 nothing_declared trees.0.declarations)) _ a trees.2 in
    let places = step_parts (just (each_from (places_of ds.0) 0 trees.0.modules)) _ a ds.2 in
    let hierarchy = step_parts (refused_by of_modules (IsChecked ds.0 d)) _ a places.2 in
    let modules = step_parts (nets_so ds.0 places.0 hierarchy.0 trees.0.modules) _ a hierarchy.2 in
    let same = same_read a (record { declared = ds.0; hierarchy = hierarchy.0; modules = modules.0 }) modules.2 in
    subst (λ (x : PlainAccepted). IsConsistent x.declared) (sym same) (declared_good trees.0.declarations ds.0 (sym ds.1))

-- What is loaded of a document: its declarations are consistent, and its monitors and its phases are those that are written.
pub record IsLoadedOf (d : RawDocument) (loaded : PlainLoaded) : Type 0 where
  pub consistent : IsConsistent loaded.declared
  pub monitors_are : loaded.monitors ≡ d.monitors
  pub phases_are : loaded.phases ≡ d.phases

-- the flat net of it has the same declarations
flat_of : (d : RawDocument) (a : PlainAccepted) (l : PlainLoaded) → IsConsistent a.declared → flat_in d a (readings.read l) → IsLoadedOf d l
unfolding flat_in
flat_of d a l good h =
    let is = step_parts (IsUnfoldedAs a.hierarchy) _ l h in
    let names = step_parts (such_that (AreNames d is.0)) _ l is.2 in
    let classes = step_parts (such_that (AreCompound a.hierarchy is.0)) _ l names.2 in
    let marking = step_parts (started (flat_net a is.0 names.0 classes.0) (all_written a.modules is.0 classes.0)) _ l classes.2 in
    let same = same_read l (record { net = flat_net a is.0 names.0 classes.0; initial = marking.0; declared = a.declared; monitors = d.monitors; phases = d.phases }) marking.2 in
    subst (IsLoadedOf d) (sym same) (record { consistent = good; monitors_are = refl; phases_are = refl })

-- The law.
pub loaded_of : (d : RawDocument) (loaded : PlainLoaded) → loaded_in d (read loaded) → IsLoadedOf d loaded
unfolding loaded_in
loaded_of d loaded h =
    let accepted = step_parts (refused_by of_net (accepted_in d)) _ loaded h in
    let is = checked_read of_net (accepted_in d) accepted.0 accepted.1 in
    let flat = checked_read of_flat (flat_in d accepted.0) loaded accepted.2 in
    flat_of d accepted.0 loaded (accepted_consistent d accepted.0 is) flat
