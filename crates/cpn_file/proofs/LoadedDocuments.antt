-- What a document is read as, given what it is accepted as and what that means.
use Rattle.std.proofs.Common.{◌*◌, ◌<◌, ◌^◌, length, refl, arith}
use Rattle.std.specs.Prelude.{Option, Some, None, option_map}
use Rattle.std.proofs.lemmas.Bool.{ltb-true}
use Rattle.cpn_document.specs.Document.{RawDocument, most_declarations}
use Rattle.cpn_document.specs.WellNamed.{AreWellNamed, HasFewDeclarations}
use Rattle.cpn_module_trees.specs.Parsing.{most_bytes}
use Rattle.cpn_module_nets.specs.Documents.{accepted_in}
use Rattle.cpn_accepted.specs.Nets.{PlainAccepted, IsWellAccepted}
use Rattle.cpn_module_nets.specs.Reading.{NetRefusal}
use Rattle.cpn_module_nets.proofs.AcceptedNames.{accepted_as_written}
use Rattle.cpn_flat.specs.Flat.{PlainLoaded, flat_in}
use Rattle.cpn_flat.specs.Refusals.{FlatRefusal}
use Rattle.cpn_flat.proofs.DistinctFlatNames.{IsWellWritten, well_written}
use Rattle.cpn_readings.specs.Reading as readings
use Rattle.cpn_readings.specs.Relations.{refused_by, RefusesBy, HasOne}
use Rattle.cpn_readings.proofs.RelatedReadings.{then_read, then_refused, then_one, refused_by_one}
use Rattle.cpn_file.specs.Reading.{of_net, of_flat, read, refused}
use Rattle.cpn_file.specs.Reads.{loaded_in}

-- a document has at most one reading, where it is accepted as one thing that means one thing
pub loaded_one : ((d : RawDocument) → HasOne (accepted_in d)) → ((d : RawDocument) (a : PlainAccepted) → HasOne (flat_in d a)) → (d : RawDocument) → HasOne (loaded_in d)
unfolding loaded_in
loaded_one accepted flat d = then_one (refused_by of_net (accepted_in d)) _ (refused_by_one of_net (accepted_in d) (accepted d)) (λ a. refused_by_one of_flat (flat_in d a) (flat d a))

-- there are few variables where there are few declarations
pub few_declared : (d : RawDocument) (a : PlainAccepted) → HasFewDeclarations d → accepted_in d (readings.read a) → length a.declared.variables < 2 ^ 32
few_declared d a few is =
    let room = (accepted_as_written d a is).few_variables in
    let most : most_bytes * most_declarations < 2 ^ 32 = ltb-true (most_bytes * most_declarations) (2 ^ 32) refl in
    omega (arith, few, room, most)

-- and the net is well written, where the document is well named
pub loaded_well : (d : RawDocument) (a : PlainAccepted) (l : PlainLoaded) → AreWellNamed d → IsWellAccepted a → accepted_in d (readings.read a) → flat_in d a (readings.read l) → IsWellWritten l.net
loaded_well d a l named well is flat = let as_written = accepted_as_written d a is in well_written d a l named as_written.names as_written.short well flat

module _ (d : RawDocument) where
  -- it is not accepted
  pub not_accepted : (o : Option NetRefusal) → RefusesBy (accepted_in d) o → RefusesBy (loaded_in d) (option_map of_net o)
  unfolding loaded_in
  not_accepted None h = tt
  not_accepted (Some refusal) h = then_refused (refused_by of_net (accepted_in d)) _ (of_net refusal) (readings.refused refusal, h, refl)

  module _ (a : PlainAccepted) (is : accepted_in d (readings.read a)) where
    -- it has no flat net
    pub not_flat : (o : Option FlatRefusal) → RefusesBy (flat_in d a) o → RefusesBy (loaded_in d) (option_map of_flat o)
    unfolding loaded_in
    not_flat None h = tt
    not_flat (Some refusal) h = then_read (refused_by of_net (accepted_in d)) _ a (refused (of_flat refusal)) (readings.read a, is, refl) (readings.refused refusal, h, refl)

    -- it has
    pub is_loaded : (l : PlainLoaded) → flat_in d a (readings.read l) → loaded_in d (read l)
    unfolding loaded_in
    is_loaded l h = then_read (refused_by of_net (accepted_in d)) _ a (read l) (readings.read a, is, refl) (readings.read l, h, refl)
