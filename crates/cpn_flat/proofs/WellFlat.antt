-- The flat net that is meant, with its initial marking, is well, where what it is made of is.
use Rattle.std.proofs.Common.{◌<◌, ◌^◌, length, refl, sym, subst}
use Rattle.cpn_document.specs.Document.{RawDocument}
use Rattle.cpn_fuse.specs.Compound.{AreCompound}
use Rattle.cpn_accepted.specs.Nets.{PlainAccepted, IsWellAccepted}
use Rattle.cpn_readings.specs.Relations.{such_that}
use Rattle.cpn_readings.proofs.Readings.{same_read}
use Rattle.cpn_readings.proofs.RelatedReadings.{step_parts, such_holds}
use Rattle.cpn_flat.specs.Flat.{PlainLoaded, IsUnfoldedAs, all_written, flat_in}
use Rattle.cpn_flat.specs.FlatNet.{flat_net}
use Rattle.cpn_flat.specs.InitialMarking.{started}
use Rattle.cpn_flat.specs.Names.{AreNames}
use Rattle.cpn_flat.specs.Refusals.{read}
use Rattle.cpn_flat.specs.WellLoaded.{IsWellLoaded}
use Rattle.cpn_flat.proofs.DistinctFlatNames.{unfolded_is}
use Rattle.cpn_flat.proofs.FlatConditions.{flat_well}

pub flat_is_well : (d : RawDocument) (a : PlainAccepted) (loaded : PlainLoaded) → IsWellAccepted a → length a.declared.variables < 2 ^ 32 → flat_in d a (read loaded) → IsWellLoaded loaded
unfolding flat_in
flat_is_well d a loaded well few h =
    let is = step_parts (IsUnfoldedAs a.hierarchy) _ loaded h in
    let names = step_parts (such_that (AreNames d is.0)) _ loaded is.2 in
    let classes = step_parts (such_that (AreCompound a.hierarchy is.0)) _ loaded names.2 in
    let marking = step_parts (started (flat_net a is.0 names.0 classes.0) (all_written a.modules is.0 classes.0)) _ loaded classes.2 in
    let compound = such_holds (AreCompound a.hierarchy is.0) classes.0 classes.1 in
    let made = unfolded_is a (read is.0) is.0 is.1 refl in
    subst IsWellLoaded (sym (same_read loaded (record { net = flat_net a is.0 names.0 classes.0; initial = marking.0; declared = a.declared; monitors = d.monitors; phases = d.phases }) marking.2))
    (flat_well a well is.0 made classes.0 compound names.0 few d.monitors d.phases marking.0 marking.1)
