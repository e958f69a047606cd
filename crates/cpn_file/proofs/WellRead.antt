-- What bytes are read as is well: a sound net with distinct names that are well spelled and integers of 64 bits, and an initial marking of
-- its places with few tokens on each.
use Rattle.std.proofs.Common.{ℕ, List}
use Rattle.cpn_document.specs.Document.{RawDocument}
use Rattle.cpn_document.specs.Reading as form
use Rattle.cpn_document.specs.Reading.{IsDocument}
use Rattle.cpn_document.proofs.WellFormed.{IsWellFormed, documents_are_well_formed}
use Rattle.cpn_flat.specs.Flat.{PlainLoaded, flat_in}
use Rattle.cpn_flat.specs.WellLoaded.{IsWellLoaded}
use Rattle.cpn_flat.proofs.DistinctFlatNames.{IsWellWritten}
use Rattle.cpn_flat.proofs.WellFlat.{flat_is_well}
use Rattle.cpn_module_nets.specs.Documents.{accepted_in}
use Rattle.cpn_module_nets.proofs.WellAccepted.{accepted_is_well, checked_read}
use Rattle.cpn_readings.specs.Relations.{refused_by}
use Rattle.cpn_readings.proofs.RelatedReadings.{step_parts}
use Rattle.cpn_file.specs.Reading.{of_net, of_flat, read}
use Rattle.cpn_file.specs.Reads.{loaded_in, IsReadingOf, IsReadAs}
use Rattle.cpn_file.proofs.LoadedDocuments.{few_declared, loaded_well}

pub record IsWellRead (loaded : PlainLoaded) : Type 0 where
  pub well : IsWellLoaded loaded
  pub written : IsWellWritten loaded.net

well_loaded_in : (d : RawDocument) (loaded : PlainLoaded) → IsWellFormed d → loaded_in d (read loaded) → IsWellRead loaded
unfolding loaded_in
well_loaded_in d loaded formed h =
    let accepted = step_parts (refused_by of_net (accepted_in d)) _ loaded h in
    let is = checked_read of_net (accepted_in d) accepted.0 accepted.1 in
    let flat = checked_read of_flat (flat_in d accepted.0) loaded accepted.2 in
    let well = accepted_is_well d formed.few_arcs accepted.0 is in
    record {
      well = flat_is_well d accepted.0 loaded well (few_declared d accepted.0 formed.few_declarations is) flat;
      written = loaded_well d accepted.0 loaded formed.well_named well is flat;
    }

well_read : (bytes : List ℕ) (document : form.Reading RawDocument) (loaded : PlainLoaded) → IsDocument bytes document → IsReadingOf document (read loaded) → IsWellRead loaded
well_read bytes (form.read d) loaded is reads = well_loaded_in d loaded (documents_are_well_formed bytes d is) reads
well_read bytes (form.refused refusal) loaded is reads = cc

-- The law: what bytes are read as is well.
pub read_is_well : (bytes : List ℕ) (loaded : PlainLoaded) → IsReadAs bytes (read loaded) → IsWellRead loaded
read_is_well bytes loaded is = well_read bytes is.0 loaded is.1 is.2
