-- How calls answer what an accepted document means.
use Rattle.std.specs.Prelude.{◌≡◌, Option, Some, None, Result, Ok, Err, string_bytes}
use Rattle.cpn_core.specs.Faults.{fault_view}
use Rattle.cpn_readings.specs.Reading.{Refuses}
use Rattle.cpn_readings.specs.Relations.{RefusesBy}
use Rattle.cpn_flat.specs.Refusals as refusals
use Rattle.cpn_flat.specs.Refusals.{FlatRefusal, Reading, read, refused}
use Rattle.cpn_flat.specs.declared.refusals.FlatError.{FlatError}
use Rattle.cpn_flat.specs.declared.refusals.FlatError.TheVariants as errors

-- the refusal that an error is; want of memory is none
abbrev pub refusal_of : FlatError → Option FlatRefusal
refusal_of errors.Memory = None
refusal_of errors.Instances = Some refusals.instances
refusal_of errors.Places = Some refusals.places
refusal_of errors.Transitions = Some refusals.transitions
refusal_of (errors.Init name fault) = Some (refusals.init (string_bytes name) (fault_view fault))
refusal_of (errors.InitialDiffers name) = Some (refusals.initial_differs (string_bytes name))

-- an answer gives the value that was to be read, as it is seen, or its refusal
abbrev pub Gives : {X Y : Type 0} → (X → Y) → Result X FlatError → Reading Y → Type 0
Gives view (Ok x) reading = reading ≡ read (view x)
Gives view (Err e) reading = Refuses (refusal_of e) reading

-- the same of what relates to readings
abbrev pub GivesBy : {X Y : Type 0} → (X → Y) → Result X FlatError → (Reading Y → Type 0) → Type 0
GivesBy view (Ok x) Reads = Reads (read (view x))
GivesBy view (Err e) Reads = RefusesBy Reads (refusal_of e)
